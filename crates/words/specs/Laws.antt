-- What holds of every cut value, without a word of how it is computed.
use Rattle.std.specs.Prelude.{◌≡◌, ℕ, ◌-◌, ◌^◌, ◌≤◌, ℤ, pos, ◌+ℤ◌, ◌*ℤ◌, neg_ℤ, ◌≤ℤ◌, ◌<ℤ◌}
use Rattle.words.specs.Cut.{cut_to, floor_div}

-- z is a number of w bits in two's complement, w at least 1
abbrev pub FitsBits : ℕ → ℤ → Type 0
FitsBits w z = (neg_ℤ (pos (2 ^ (w - 1))) ≤ℤ z) × (z <ℤ pos (2 ^ (w - 1)))

-- x and y differ by a multiple of n
abbrev pub DifferByMultiple : ℕ → ℤ → ℤ → Type 0
DifferByMultiple n x y = (k : ℤ) × (x ≡ y +ℤ k *ℤ pos n)

-- The laws: `floors`, `fits`, `congruent` and `only` say which number a cut value is, the others what cutting it again does.
pub record CutLaws : Type 0 where
  -- a quotient is the greatest number whose product with n is at most z
  pub floors : (z : ℤ) (n : ℕ) → 1 ≤ n → ((floor_div z n *ℤ pos n) ≤ℤ z) × (z <ℤ ((floor_div z n +ℤ pos 1) *ℤ pos n))
  -- a value cut to w bits has w bits
  pub fits : (v : ℤ) (d w : ℕ) → 1 ≤ w → FitsBits w (cut_to v d w)
  -- it differs from the quotient by a multiple of 2 ^ w
  pub congruent : (v : ℤ) (d w : ℕ) → DifferByMultiple (2 ^ w) (floor_div v (2 ^ d)) (cut_to v d w)
  -- no other number does both
  pub only : (v : ℤ) (d w : ℕ) (z : ℤ) → 1 ≤ w → FitsBits w z → DifferByMultiple (2 ^ w) (floor_div v (2 ^ d)) z → z ≡ cut_to v d w
  -- the only value of no bits is 0
  pub none : (v : ℤ) (d : ℕ) → cut_to v d 0 ≡ pos 0
  -- what has w bits is not changed by a cut to w bits
  pub same : (z : ℤ) (w : ℕ) → 1 ≤ w → FitsBits w z → cut_to z 0 w ≡ z
  -- a cut to w bits on the way to fewer changes nothing
  pub narrower : (z : ℤ) (d p w : ℕ) → p ≤ w → cut_to (cut_to z d w) 0 p ≡ cut_to z d p
  -- nor does a cut to w bits after one to fewer
  pub wider : (z : ℤ) (d p w : ℕ) → p ≤ w → cut_to (cut_to z d p) 0 w ≡ cut_to z d p
  -- the low bits of a sum come from the low bits of its parts
  pub sum : (x y : ℤ) (p w : ℕ) → p ≤ w → cut_to (cut_to x 0 w +ℤ cut_to y 0 w) 0 p ≡ cut_to (x +ℤ y) 0 p
