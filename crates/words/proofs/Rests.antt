-- Numbers that differ by a multiple of n leave the same rest by n: raised by enough times n, both are the same natural number.
use Rattle.std.proofs.Common.{◌≡◌, ℕ, suc, ◌+◌, ◌-◌, ◌*◌, ◌%◌, ◌<◌, ◌≤◌, ℤ, pos, negsuc, ◌+ℤ◌, ◌*ℤ◌, nat_abs, sym, refl, ap, ◌∙◌, mul-le-mul_left, div-add-mod', arith}
use borrow.Author.Differences.{up, down, sum_is_lem}
use Rattle.std.proofs.lemmas.Int.{ints, int_rem_euclid_is}
use Rattle.std.proofs.lemmas.Nat.{mod_below}
use Rattle.words.specs.Cut.{floor_div, floor_mod}

-- a rest is below its divisor
pub rest_below : (z : ℤ) (n : ℕ) → 0 < n → floor_mod z n < n
rest_below (pos a) n some = mod_below a n some
rest_below (negsuc a) n some = omega arith

-- a number is its quotient times n, and its rest
pub parts : (z : ℤ) (n : ℕ) → 0 < n → z ≡ pos (floor_mod z n) +ℤ floor_div z n *ℤ pos n
parts (pos a) n some = let e = div-add-mod' a n in omega (arith, ints)
parts (negsuc a) n some = let e = div-add-mod' a n in let l = mod_below a n some in omega (arith, ints)

-- z raised by k times n is the natural number m
rest_is : (z : ℤ) (n k m : ℕ) → 0 < n → z +ℤ pos (k * n) ≡ pos m → floor_mod z n ≡ m % n
rest_is (pos a) n k m some e = ap nat_abs (int_rem_euclid_is (pos a) (pos n) n k m some refl e)
rest_is (negsuc a) n k m some e = let r = ap nat_abs (int_rem_euclid_is (negsuc a) (pos n) n k m some refl e) in omega (arith, r)

-- x and y, each raised by a multiple of n, meet
pub rest_same : (x y : ℤ) (n j k : ℕ) → 0 < n → x +ℤ pos (j * n) ≡ y +ℤ pos (k * n) → floor_mod x n ≡ floor_mod y n
rest_same x y n j k some e =
    let t = down x + down y in
    let far : t * 1 ≤ t * n = mul-le-mul_left t some in
    let m = up x + (j + t) * n - down x in
    rest_is x n (j + t) m some (omega (arith, ints)) ∙ sym (rest_is y n (k + t) m some (omega (arith, ints)))

-- x and y differ by a multiple of a number that n divides
pub differ_rest : (x y k : ℤ) (whole u n : ℕ) → 0 < n → whole ≡ u * n → x ≡ y +ℤ k *ℤ pos whole → floor_mod x n ≡ floor_mod y n
differ_rest x y (pos a) whole u n some is e = let t = ap (λ i. a * i) is in rest_same x y n 0 (a * u) some (omega (arith, ints))
differ_rest x y (negsuc a) whole u n some is e = let t = ap (λ i. suc a * i) is in rest_same x y n (suc a * u) 0 some (omega (arith, ints))

-- a multiple of a sum
pub sum_times : (a b : ℤ) (n : ℕ) → (a +ℤ b) *ℤ pos n ≡ a *ℤ pos n +ℤ b *ℤ pos n
sum_times a b n = let s = ap (λ i. i * n) (sum_is_lem a b) in omega (arith, ints)
