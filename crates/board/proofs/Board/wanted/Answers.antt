use Rattle.std.proofs.Common.{ℕ, arith}
use Rattle.std.proofs.lemmas.List.{get_or-replicate}
use Rattle.board.proofs.Board.wanted.Goals as goal

pub returns : goal.returns
returns g c = λ x h. omega (arith, c.raise_outputs.ensures x (omega arith), c.raise_read.ensures x (omega arith), get_or-replicate {A = ℕ} 64 x 0 0 h)
