-- The operations so far have raised the entries of their operands.
use Rattle.std.proofs.Common.{◌≡◌, ℕ, ◌<◌, max, cond, length, get_or}
use Rattle.prices.specs.Sums.{most}
use Rattle.plans.specs.Plans.{reads, start_of}
use Rattle.board.specs.Boards.{graph_on, plan_on}
use Rattle.board.proofs.Board.raise_read.Given as goal

abbrev pub invariant-loop-r : goal.invariant-loop-r
invariant-loop-r g l =
    (x : ℕ) → x < length l.initial.until → get_or l.until x 0 ≡ max (get_or l.initial.until x 0) (most (λ r. cond (reads (graph_on l.self) r x) (start_of ((plan_on l.self).placed r)) 0) l.r)
