-- How long values are wanted, and the registers that they stand in.
use Rattle.std.specs.Prelude.{◌≡◌, ℕ, ◌<◌, max, Bool, false, cond, List, Some, None, Option, length, ◌==◌, slice_index, slice_index_or}
use Rattle.graphs.specs.Graphs.{Graph, count}
use Rattle.prices.specs.Sums.{total, most}
use Rattle.plans.specs.declared.Life.{Life}
use Rattle.plans.specs.Plans.{Plan, reads, is_output, start_of}

-- each entry of a table is raised, where it is lower, to the least value that its number asks for
abbrev pub Raises : List ℕ → List ℕ → (ℕ → ℕ) → Type 0
Raises old new least = (x : ℕ) → x < length old → slice_index new x ≡ max (slice_index old x) (least x)

-- the last start of a placed reader, and the limit for an output
abbrev pub wanted_until : Graph → Plan → ℕ → ℕ
wanted_until G pl o = max (most (λ r. cond (reads G r o) (start_of (pl.placed r)) 0) (count G)) (cond (is_output G o) G.limit 0)

-- a value stands in register q
abbrev pub stands_in : ℕ → Option Life → Bool
stands_in q None = false
stands_in q (Some x) = x.register == q

-- how many of the first n values stand in register q
abbrev pub standing : List (Option Life) → ℕ → ℕ → ℕ
standing lives q n = total (λ x. cond (stands_in q (slice_index_or lives x None)) 1 0) n
