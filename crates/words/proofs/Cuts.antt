-- The laws of cut values: a cut value differs from its quotient by a multiple of 2 ^ w, so both have the same low bits,
-- and of the numbers of w bits only one has these.
use Rattle.std.proofs.Common.{◌≡◌, ℕ, ◌+◌, ◌-◌, ◌*◌, ◌^◌, ◌<◌, ◌≤◌, ℤ, pos, negsuc, ◌+ℤ◌, ◌*ℤ◌, ◌≤ℤ◌, ◌<ℤ◌, sym, refl, ap, ◌∙◌, subst, inl, inr, div-one, arith, pow_pos, pow_mono, pow-add, w64, SFits}
use lib.Signed.{mag}
use Rattle.std.proofs.lemmas.Int.{ints}
use Rattle.std.proofs.lemmas.Bool.{cases_lt}
use Rattle.words.specs.Cut.{cut_to, floor_div, floor_mod, signed_of}
use Rattle.words.specs.Laws.{FitsBits, DifferByMultiple}
use Rattle.words.proofs.Rests.{rest_below, parts, differ_rest, sum_times}
use Rattle.words.proofs.Signs.{signed_range, signed_parts, signed_rest}

-- a cut value, by its quotient z
pub cut_is : (v z : ℤ) (d w : ℕ) → z ≡ floor_div v (2 ^ d) → signed_of w (floor_mod z (2 ^ w)) ≡ cut_to v d w
unfolding cut_to
cut_is v z d w e = ap (λ i. signed_of w (floor_mod i (2 ^ w))) e

-- a number divided by 2 ^ 0
whole : (z : ℤ) → z ≡ floor_div z (2 ^ 0)
whole (pos a) = ap pos (sym (div-one a))
whole (negsuc a) = ap negsuc (sym (div-one a))

-- a cut value of which nothing is dropped
cut_now : (z : ℤ) (w : ℕ) → signed_of w (floor_mod z (2 ^ w)) ≡ cut_to z 0 w
cut_now z w = cut_is z z 0 w (whole z)

-- a number with the rest m lies between two multiples of n
between : (z a b : ℤ) (m n : ℕ) → m < n → z ≡ pos m +ℤ a → b ≡ a +ℤ pos (1 * n) → (a ≤ℤ z) × (z <ℤ b)
between z a b m n h e f = (omega (arith, ints), omega (arith, ints))

-- a quotient is rounded toward minus infinity
pub quotient_floors : (z : ℤ) (n : ℕ) → 1 ≤ n → ((floor_div z n *ℤ pos n) ≤ℤ z) × (z <ℤ ((floor_div z n +ℤ pos 1) *ℤ pos n))
quotient_floors z n some =
    between z (floor_div z n *ℤ pos n) ((floor_div z n +ℤ pos 1) *ℤ pos n) (floor_mod z n) n (rest_below z n some) (parts z n some)
    (sum_times (floor_div z n) (pos 1) n)

-- a number of w bits is small
fits_size : (w : ℕ) (z : ℤ) → FitsBits w z → mag z < 2 ^ (w - 1)
fits_size w (pos a) f = let h = f.1 in omega (arith, ints)
fits_size w (negsuc a) f = let h = f.0 in omega (arith, ints)

-- a small number has w bits
size_fits : (w : ℕ) (z : ℤ) → mag z < 2 ^ (w - 1) → FitsBits w z
size_fits w (pos a) h = (omega (arith, ints), omega (arith, ints))
size_fits w (negsuc a) h = (omega (arith, ints), omega (arith, ints))

-- a cut value is small
pub cut_below : (v : ℤ) (d w : ℕ) → mag (cut_to v d w) < 2 ^ (w - 1)
cut_below v d w =
    let q = floor_div v (2 ^ d) in
    subst (λ i. mag i < 2 ^ (w - 1)) (cut_is v q d w refl) (signed_range w (floor_mod q (2 ^ w)) (rest_below q (2 ^ w) (pow_pos w)))

-- a value cut to w bits has w bits
pub cut_fits : (v : ℤ) (d w : ℕ) → FitsBits w (cut_to v d w)
cut_fits v d w = size_fits w (cut_to v d w) (cut_below v d w)

-- what q is above m and m above s
collect : (q m s a b : ℤ) → q ≡ m +ℤ a → m ≡ s +ℤ b → q ≡ s +ℤ (a +ℤ b)
collect q m s a b e f = omega (arith, ints)

-- a cut value differs from its quotient by a multiple of 2 ^ w
pub cut_congruent : (v : ℤ) (d w : ℕ) → DifferByMultiple (2 ^ w) (floor_div v (2 ^ d)) (cut_to v d w)
cut_congruent v d w =
    let q = floor_div v (2 ^ d) in
    let n = 2 ^ w in
    let m = floor_mod q n in
    let t = floor_div q n in
    let s = signed_parts w m (rest_below q n (pow_pos w)) in (
      t +ℤ pos s.0,
      collect q (pos m) (signed_of w m) (t *ℤ pos n) (pos (s.0 * n)) (parts q n (pow_pos w)) s.1
          ∙ ap (λ i. i +ℤ (t *ℤ pos n +ℤ pos (s.0 * n))) (cut_is v q d w refl)
          ∙ ap (λ i. cut_to v d w +ℤ i) (sym (sum_times t (pos s.0) n)),
    )

-- a number of w bits that does so is the cut value
pub cut_only : (v : ℤ) (d w : ℕ) (z : ℤ) → 1 ≤ w → FitsBits w z → DifferByMultiple (2 ^ w) (floor_div v (2 ^ d)) z → z ≡ cut_to v d w
cut_only v d w z some f k =
    let q = floor_div v (2 ^ d) in
    let once : 2 ^ w ≡ 1 * 2 ^ w = omega arith in
    let r = differ_rest q z k.0 (2 ^ w) 1 (2 ^ w) (pow_pos w) once k.1 in
    sym (signed_rest z w some (fits_size w z f)) ∙ ap (signed_of w) (sym r) ∙ cut_is v q d w refl

-- the only value of no bits is 0
pub cut_none : (v : ℤ) (d : ℕ) → cut_to v d 0 ≡ pos 0
cut_none v d =
    let q = floor_div v (2 ^ d) in
    let b = rest_below q 1 (omega arith) in
    let e : floor_mod q 1 ≡ 0 = omega (arith, b) in
    sym (cut_is v q d 0 refl) ∙ ap (signed_of 0) e

-- a small number is not changed by a cut
pub cut_same : (z : ℤ) (w : ℕ) → 1 ≤ w → mag z < 2 ^ (w - 1) → cut_to z 0 w ≡ z
cut_same z w some h = sym (cut_now z w) ∙ signed_rest z w some h

-- a number of w bits is not changed by a cut to w bits
pub cut_fitting : (z : ℤ) (w : ℕ) → 1 ≤ w → FitsBits w z → cut_to z 0 w ≡ z
cut_fitting z w some f = cut_same z w some (fits_size w z f)

-- w bits are p bits and the others
power : (p w : ℕ) → p ≤ w → 2 ^ w ≡ 2 ^ (w - p) * 2 ^ p
power p w most = let e : w ≡ (w - p) + p = omega arith in ap (λ i. 2 ^ i) e ∙ pow-add 2 (w - p) p

-- a cut to w bits on the way to fewer changes nothing
pub cut_narrower : (z : ℤ) (d p w : ℕ) → p ≤ w → cut_to (cut_to z d w) 0 p ≡ cut_to z d p
cut_narrower z d p w most =
    let q = floor_div z (2 ^ d) in
    let c = cut_to z d w in
    let k = cut_congruent z d w in
    let r = differ_rest q c k.0 (2 ^ w) (2 ^ (w - p)) (2 ^ p) (pow_pos p) (power p w most) k.1 in
    sym (cut_now c p) ∙ ap (signed_of p) (sym r) ∙ cut_is z q d p refl

-- a cut to w bits after one to fewer changes nothing
pub cut_wider : (z : ℤ) (d p w : ℕ) → p ≤ w → cut_to (cut_to z d p) 0 w ≡ cut_to z d p
cut_wider z d p w most =
    elim (cases_lt 0 w) [
      | inl some ↦
          let b = cut_below z d p in
          let l : p - 1 ≤ w - 1 = omega arith in
          let m = pow_mono l in
          cut_same (cut_to z d p) w some (omega (arith, b, m))
      | inr none ↦
          let e : w ≡ p = omega arith in
          let l : p ≤ p = omega arith in
          ap (λ i. cut_to (cut_to z d p) 0 i) e ∙ cut_narrower z d p p l
    ]

-- the sum of two numbers, each in two parts
pairs : (x y c d a b : ℤ) → x ≡ c +ℤ a → y ≡ d +ℤ b → x +ℤ y ≡ (c +ℤ d) +ℤ (a +ℤ b)
pairs x y c d a b e f = omega (arith, ints)

-- the low bits of a sum come from the low bits of its parts
pub cut_sum : (x y : ℤ) (p w : ℕ) → p ≤ w → cut_to (cut_to x 0 w +ℤ cut_to y 0 w) 0 p ≡ cut_to (x +ℤ y) 0 p
cut_sum x y p w most =
    let n = 2 ^ w in
    let a = cut_to x 0 w in
    let b = cut_to y 0 w in
    let j = cut_congruent x 0 w in
    let k = cut_congruent y 0 w in
    let e = pairs x y a b (j.0 *ℤ pos n) (k.0 *ℤ pos n) (whole x ∙ j.1) (whole y ∙ k.1) ∙ ap (λ i. (a +ℤ b) +ℤ i) (sym (sum_times j.0 k.0 n)) in
    let r = differ_rest (x +ℤ y) (a +ℤ b) (j.0 +ℤ k.0) n (2 ^ (w - p)) (2 ^ p) (pow_pos p) (power p w most) e in
    sym (cut_now (a +ℤ b) p) ∙ ap (signed_of p) (sym r) ∙ cut_now (x +ℤ y) p

-- a quotient in a word is not changed by a cut to 64 bits or more
pub cut_word : (v z : ℤ) (d w : ℕ) → SFits w64 z → 64 ≤ w → z ≡ floor_div v (2 ^ d) → z ≡ cut_to v d w
cut_word v z d w f far e =
    let h = f.sfits in
    let l : 63 ≤ w - 1 = omega arith in
    let m : 2 ^ 63 ≤ 2 ^ (w - 1) = pow_mono l in
    sym (signed_rest z w (omega arith) (omega (arith, h, m))) ∙ cut_is v z d w e
