-- What a changed look-up answers, and the numbers of units.
use Rattle.std.proofs.Common.{◌≡◌, ℕ, ◌<◌, Bool, true, false, cond, leb, ◌⊎◌, Some, Option, refl, inl, inr}
use Rattle.std.proofs.lemmas.Bool.{leb-false, lt-leb}
use Rattle.plans.specs.Plans.{units}

pub some_same : {A : Type 0} {x y : A} → Some x ≡ Some y → x ≡ y
some_same e = cc

pub cond_some : {A : Type 0} (b : Bool) (x y : Option A) (w : A) → cond b x y ≡ Some w → ((b ≡ true) × (x ≡ Some w)) ⊎ ((b ≡ false) × (y ≡ Some w))
cond_some true x y w e = inl (refl, e)
cond_some false x y w e = inr (refl, e)

-- the number of units is shut, so that searches over them do not unroll
pub unit_low : (n : ℕ) → leb 64 n ≡ false → n < units
unfolding units
unit_low n e = leb-false 64 n e

pub low_unit : (n : ℕ) → n < units → leb 64 n ≡ false
unfolding units
low_unit n h = lt-leb 64 n h
