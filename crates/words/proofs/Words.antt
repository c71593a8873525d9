-- The code's form: bits shifted to the top of a word and down again are the low bits read as two's complement, and a
-- shift down by 63 leaves the sign alone, as any longer one does.
use Rattle.std.proofs.Common.{◌≡◌, ℕ, suc, ◌+◌, ◌-◌, ◌*◌, ◌/◌, ◌%◌, ◌^◌, ◌<◌, ◌≤◌, min, ℤ, pos, negsuc, ◌+ℤ◌, sym, refl, ap, ◌∙◌, subst, inl, inr, mul-le-mul_right, mul-lt-mul_of_pos_right, mul-div_cancel, arith, pow_pos, pow_mono, pow-add, w64, SFits, to_z, of_z}
use native.Mathlib.Nat.{div-eq_of_lt, mul-mod_left}
use lib.Signed.{shr_z, mag_shr}
use lib.Arith.{digits_div, mod-mul}
use mir.Val.{sel}
use mir.Facts.{sfits_to_z}
use Rattle.std.proofs.lemmas.Int.{ints, to_z_pos, to_z-of_z}
use Rattle.std.proofs.lemmas.Bool.{cases_lt, le-ltb}
use Rattle.std.proofs.lemmas.Nat.{mod_below}
use Rattle.words.specs.Cut.{floor_div, floor_mod, signed_of}
use Rattle.words.proofs.Rests.{rest_same}
use Rattle.words.proofs.Signs.{low_half, high_half}

-- the multiple m of u, counted from n times u downward
turned_div : (n u m : ℕ) → 0 < u → m < n → (n * u - suc (m * u)) / u ≡ n - suc m
turned_div n u m some less =
    let e = n - suc m in
    let split : n ≡ (m + e) + 1 = omega arith in
    let whole = ap (λ i. i * u) split in
    let is : n * u - suc (m * u) ≡ e * u + (u - 1) = omega arith in
    ap (λ i. i / u) is ∙ digits_div e (omega arith)

-- the rest of a multiple of c is the multiple of a rest
raised : (n m c : ℕ) → 0 < m → 0 < c → (n * c) % (m * c) ≡ (n % m) * c
raised n m c pm pc =
    let e = mod-mul (n * c) pm pc in
    let a : n * c / c ≡ n = mul-div_cancel n pc in
    let b : n * c % c ≡ 0 = mul-mod_left n c in
    let s : (n * c / c % m) * c ≡ (n % m) * c = ap (λ i. (i % m) * c) a in
    omega (arith, e, b, s)

-- a word of w bits that are kept and u bits that are free
module _ (w u : ℕ) (whole : w + u ≡ 64) (some : 1 ≤ w) where
  -- the numbers of a word, by these parts
  word : 2 ^ 64 ≡ 2 ^ w * 2 ^ u
  word = ap (λ i. 2 ^ i) (sym whole) ∙ pow-add 2 w u

  -- the numbers of a word that are not negative
  half : 2 ^ 63 ≡ 2 ^ (w - 1) * 2 ^ u
  half = let e : 63 ≡ (w - 1) + u = omega arith in ap (λ i. 2 ^ i) e ∙ pow-add 2 (w - 1) u

  -- the low bits of a number's word are its rest
  low_rest : (z : ℤ) → SFits w64 z → of_z w64 z % 2 ^ w ≡ floor_mod z (2 ^ w)
  low_rest (pos a) f = refl
  low_rest (negsuc a) f =
      let h : a < 2 ^ 63 = f.sfits in
      let p : pos (2 ^ 64 - suc a) +ℤ pos (0 * 2 ^ w) ≡ negsuc a +ℤ pos (2 ^ u * 2 ^ w) = omega (arith, ints, word) in
      rest_same (pos (2 ^ 64 - suc a)) (negsuc a) (2 ^ w) 0 (2 ^ u) (pow_pos w) p

  -- a word with the highest bit set
  negative : (n : ℕ) → 2 ^ 63 ≤ n → to_z w64 n ≡ negsuc (2 ^ 64 - suc n)
  negative n h = ap (λ b. sel b (pos n) (negsuc (2 ^ 64 - suc n))) (le-ltb n (2 ^ 63) h)

  -- w bits at the top of a word, shifted down
  high_bits : (m : ℕ) → m < 2 ^ w → shr_z (to_z w64 (m * 2 ^ u)) (2 ^ u) ≡ signed_of w m
  high_bits m h =
      elim (cases_lt m (2 ^ (w - 1))) [
        | inl lt ↦
            let b : m * 2 ^ u < 2 ^ 63 = subst (λ i. m * 2 ^ u < i) (sym half) (mul-lt-mul_of_pos_right lt (pow_pos u)) in
            ap (λ z. shr_z z (2 ^ u)) (to_z_pos w64 (m * 2 ^ u) b) ∙ ap pos (mul-div_cancel m (pow_pos u)) ∙ sym (low_half w m lt)
        | inr le ↦
            let b : 2 ^ 63 ≤ m * 2 ^ u = subst (λ i. i ≤ m * 2 ^ u) (sym half) (mul-le-mul_right (2 ^ u) le) in
            ap (λ z. shr_z z (2 ^ u)) (negative (m * 2 ^ u) b)
            ∙ ap negsuc (ap (λ i. (i - suc (m * 2 ^ u)) / 2 ^ u) word ∙ turned_div (2 ^ w) (2 ^ u) m (pow_pos u) h)
            ∙ sym (high_half w m le)
      ]

  -- shifted up, which drops what passes 2 ^ 64, and down again
  low_word : (z : ℤ) → SFits w64 z → shr_z (to_z w64 ((of_z w64 z * 2 ^ u) % 2 ^ 64)) (2 ^ u) ≡ signed_of w (floor_mod z (2 ^ w))
  low_word z f =
      let n = of_z w64 z in
      let r : (n * 2 ^ u) % 2 ^ 64 ≡ (n % 2 ^ w) * 2 ^ u = ap (λ i. (n * 2 ^ u) % i) word ∙ raised n (2 ^ w) (2 ^ u) (pow_pos w) (pow_pos u) in
      ap (λ i. shr_z (to_z w64 i) (2 ^ u)) r ∙ high_bits (n % 2 ^ w) (mod_below n (2 ^ w) (pow_pos w)) ∙ ap (signed_of w) (low_rest z f)

-- a number that is shifted down fits where it did
shift_fits : (z : ℤ) (n : ℕ) → SFits w64 z → SFits w64 (shr_z z n)
shift_fits z n f = record { sfits = let a = mag_shr z n in let b = f.sfits in omega (arith, a, b) }

-- what the code computes of the low w bits
pub low_code : (z : ℤ) (w : ℕ) → SFits w64 z → 1 ≤ w → w ≤ 64
    → to_z w64 (of_z w64 (shr_z (to_z w64 ((of_z w64 z * 2 ^ (64 - w)) % 2 ^ 64)) (2 ^ (64 - w)))) ≡ signed_of w (floor_mod z (2 ^ w))
low_code z w f some most =
    let u = 64 - w in
    let whole : w + u ≡ 64 = omega arith in
    let n = (of_z w64 z * 2 ^ u) % 2 ^ 64 in
    let fn : SFits w64 (shr_z (to_z w64 n) (2 ^ u)) = shift_fits (to_z w64 n) (2 ^ u) (sfits_to_z (record { fits = mod_below (of_z w64 z * 2 ^ u) (2 ^ 64) (pow_pos 64) })) in
    to_z-of_z w64 (shr_z (to_z w64 n) (2 ^ u)) fn ∙ low_word w u whole some z f

-- a number below 2 ^ 63, divided by that or by more, is 0
long : (a d : ℕ) → a < 2 ^ 63 → 63 ≤ d → a / 2 ^ 63 ≡ a / 2 ^ d
long a d h far = let m : 2 ^ 63 ≤ 2 ^ d = pow_mono far in let l : a < 2 ^ d = omega arith in div-eq_of_lt h ∙ sym (div-eq_of_lt l)

-- a shift by 63 is as good as any longer one
long_shift : (z : ℤ) (d : ℕ) → SFits w64 z → 63 ≤ d → shr_z z (2 ^ 63) ≡ floor_div z (2 ^ d)
long_shift (pos a) d f far = ap pos (long a d f.sfits far)
long_shift (negsuc a) d f far = ap negsuc (long a d f.sfits far)

-- a shift is the division, rounded down
short_shift : (z : ℤ) (d : ℕ) → shr_z z (2 ^ d) ≡ floor_div z (2 ^ d)
short_shift (pos a) d = refl
short_shift (negsuc a) d = refl

-- a shift by d, and by 63 where d is more
pub shift_code : (z : ℤ) (d : ℕ) → SFits w64 z → shr_z z (2 ^ min d 63) ≡ floor_div z (2 ^ d)
shift_code z d f =
    elim (cases_lt d 63) [
      | inl l ↦ let s : min d 63 ≡ d = omega arith in ap (λ i. shr_z z (2 ^ i)) s ∙ short_shift z d
      | inr l ↦ let s : min d 63 ≡ 63 = omega arith in ap (λ i. shr_z z (2 ^ i)) s ∙ long_shift z d f l
    ]
