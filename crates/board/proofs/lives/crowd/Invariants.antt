-- The values so far are counted.
use Rattle.std.proofs.Common.{◌≡◌, ℕ, ◌<◌, get_or}
use Rattle.board.specs.Lives.{standing}
use Rattle.board.proofs.lives.crowd.Given as goal

abbrev pub invariant-loop-life : goal.invariant-loop-life
invariant-loop-life l = (q : ℕ) → q < 64 → get_or l.crowd q 0 ≡ standing l.lives q l.life-index
