-- No two lives meet in the registers so far, then among the values so far, then of one value with those so far before it.
use Rattle.std.proofs.Common.{◌≡◌, false, length, get_or, None}
use Rattle.prices.specs.Sums.{any, lowest}
use Rattle.plans.specs.Calls.{meet}
use Rattle.board.proofs.lives.clash_in.Given as goal

abbrev pub invariant-registers : goal.invariant-registers
invariant-registers l = (l.found ≡ None) × (lowest (λ q. any (λ x. any (λ y. meet q (get_or l.lives x None) (get_or l.lives y None)) x) (length l.lives)) l.q ≡ None)

abbrev pub invariant-loop-x : goal.invariant-loop-x
invariant-loop-x l = (l.found ≡ None) × (any (λ x. any (λ y. meet l.q (get_or l.lives x None) (get_or l.lives y None)) x) l.x ≡ false)

abbrev pub invariant-loop-other : goal.invariant-loop-other
invariant-loop-other l = (l.found ≡ None) × (any (λ y. meet l.q l.life (get_or l.lives y None)) l.other-index ≡ false)
