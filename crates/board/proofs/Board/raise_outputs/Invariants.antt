-- The outputs so far have raised their entries.
use Rattle.std.proofs.Common.{◌≡◌, ℕ, ◌<◌, max, cond, eqb, length, get_or}
use Rattle.prices.specs.Sums.{any}
use Rattle.board.specs.Boards.{graph_on}
use Rattle.board.proofs.Board.raise_outputs.Given as goal

abbrev pub invariant-loop-o : goal.invariant-loop-o
invariant-loop-o g l =
    (x : ℕ) → x < length l.initial.until → get_or l.until x 0 ≡ max (get_or l.initial.until x 0) (cond (any (λ k. eqb (get_or (graph_on l.self).outputs k 0) x) l.o-index) (graph_on l.self).limit 0)
