-- The law of reading, from its parts.
use Rattle.std.proofs.Common.{ℕ, List}
use Rattle.graphs.specs.Law.{ReadingLaw}
use Rattle.graphs.proofs.Exact.{exact}
use Rattle.graphs.proofs.Every.{every}
use Rattle.graphs.proofs.Refused.{placed}

pub reading_law : (bs : List ℕ) → ReadingLaw bs
reading_law bs = record { formed = λ G e. (exact bs G e).0; written = λ G e. (exact bs G e).1; every = every bs; refused = placed bs }
