-- The number that w bits stand for is the bits' own value, or that less 2 ^ w, so it has w bits and the same rest by 2 ^ w.
use Rattle.std.proofs.Common.{◌≡◌, ℕ, suc, ◌+◌, ◌-◌, ◌*◌, ◌^◌, ◌<◌, ◌≤◌, ltb, ℤ, pos, negsuc, ◌+ℤ◌, sym, ap, ◌∙◌, subst, inl, inr, mod-eq_of_lt, pow-suc, arith}
use lib.Signed.{mag}
use Rattle.std.proofs.lemmas.Int.{ints}
use Rattle.std.proofs.lemmas.Bool.{cases_lt, lt-ltb, le-ltb, cond-true, cond-false}
use Rattle.words.specs.Cut.{floor_mod, signed_of}

-- half of the numbers of w bits are negative
double : (w : ℕ) → 1 ≤ w → 2 ^ w ≡ 2 ^ (w - 1) + 2 ^ (w - 1)
double w some = let e : w ≡ suc (w - 1) = omega arith in let d = ap (λ i. 2 ^ i) e ∙ pow-suc 2 (w - 1) in omega arith

-- as a bound it holds for w = 0 too, where 2 ^ (w - 1) is 1
at_most : (w : ℕ) → 2 ^ w ≤ 2 ^ (w - 1) + 2 ^ (w - 1)
at_most w =
    elim (cases_lt 0 w) [
      | inl some ↦ let d = double w some in omega arith
      | inr none ↦ let e : w ≡ 0 = omega arith in subst (λ i. 2 ^ i ≤ 2 ^ (i - 1) + 2 ^ (i - 1)) (sym e) (omega arith)
    ]

-- bits with the highest one clear
pub low_half : (w m : ℕ) → m < 2 ^ (w - 1) → signed_of w m ≡ pos m
low_half w m h = cond-true (ltb m (2 ^ (w - 1))) (pos m) (negsuc (2 ^ w - suc m)) (lt-ltb m (2 ^ (w - 1)) h)

-- bits with the highest one set
pub high_half : (w m : ℕ) → 2 ^ (w - 1) ≤ m → signed_of w m ≡ negsuc (2 ^ w - suc m)
high_half w m h = cond-false (ltb m (2 ^ (w - 1))) (pos m) (negsuc (2 ^ w - suc m)) (le-ltb m (2 ^ (w - 1)) h)

-- the number has w bits
pub signed_range : (w m : ℕ) → m < 2 ^ w → mag (signed_of w m) < 2 ^ (w - 1)
signed_range w m h =
    elim (cases_lt m (2 ^ (w - 1))) [
      | inl l ↦ subst (λ z. mag z < 2 ^ (w - 1)) (sym (low_half w m l)) l
      | inr l ↦ let d = at_most w in let b : 2 ^ w - suc m < 2 ^ (w - 1) = omega arith in subst (λ z. mag z < 2 ^ (w - 1)) (sym (high_half w m l)) b
    ]

-- how many times 2 ^ w it lies below the bits' own value
pub signed_parts : (w m : ℕ) → m < 2 ^ w → (j : ℕ) × (pos m ≡ signed_of w m +ℤ pos (j * 2 ^ w))
signed_parts w m h =
    elim (cases_lt m (2 ^ (w - 1))) [
      | inl l ↦ (0, let e = low_half w m l in omega (arith, ints))
      | inr l ↦ (1, let e = high_half w m l in omega (arith, ints))
    ]

-- the low w bits of a number of w bits stand for it
pub signed_rest : (z : ℤ) (w : ℕ) → 1 ≤ w → mag z < 2 ^ (w - 1) → signed_of w (floor_mod z (2 ^ w)) ≡ z
signed_rest (pos a) w some h =
    let d = double w some in
    let b : a < 2 ^ w = omega arith in
    ap (signed_of w) (mod-eq_of_lt b) ∙ low_half w a h
signed_rest (negsuc a) w some h =
    let d = double w some in
    let b : a < 2 ^ w = omega arith in
    let l : 2 ^ (w - 1) ≤ 2 ^ w - suc a = omega arith in
    let back : 2 ^ w - suc (2 ^ w - suc a) ≡ a = omega arith in
    ap (λ i. signed_of w (2 ^ w - suc i)) (mod-eq_of_lt b) ∙ high_half w (2 ^ w - suc a) l ∙ ap negsuc back
