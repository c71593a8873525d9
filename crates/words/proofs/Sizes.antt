-- How large cut values, their sums and their products are: small enough for a word of 64 bits, so that a caller may add and
-- multiply them there.
use Rattle.std.proofs.Common.{◌≡◌, ℕ, zero, suc, ◌+◌, ◌-◌, ◌*◌, ◌^◌, ◌<◌, ◌≤◌, ℤ, pos, negsuc, ◌+ℤ◌, ◌*ℤ◌, neg_ℤ, ap, ◌∙◌, arith, pow_mono, pow-add, w64, SFits, to_z, of_z}
use lib.Signed.{mag}
use lib.Pow.{pow-lt}
use Rattle.std.proofs.lemmas.Int.{ints, to_z-of_z}
use Rattle.std.proofs.lemmas.Nat.{mul-le}
use Rattle.words.specs.Cut.{cut_to}
use Rattle.words.proofs.Cuts.{cut_below, cut_same}

-- a value cut to at most n bits and a sign
pub cut_size : (z : ℤ) (d w n : ℕ) → 1 ≤ w → w ≤ suc n → mag (cut_to z d w) < 2 ^ n
cut_size z d w n some most =
    let a = cut_below z d w in
    let l : w - 1 ≤ n = omega arith in
    let b : 2 ^ (w - 1) ≤ 2 ^ n = pow_mono l in
    omega (arith, a, b)

-- the sum of two numbers of 40 bits
pub sum_fits : (x y : ℤ) → mag x < 2 ^ 39 → mag y < 2 ^ 39 → SFits w64 (x +ℤ y)
sum_fits x y h k = omega (arith, ints)

-- a number turned negative
mag_neg : (n : ℕ) → mag (neg_ℤ (pos n)) ≤ n
mag_neg zero = omega arith
mag_neg (suc n) = omega arith

-- the product of a number below m and one below n, whatever their signs
mag_product : (x y : ℤ) (m n : ℕ) → mag x < m → mag y < n → mag (x *ℤ y) ≤ m * n
mag_product (pos a) (pos b) m n h k = mul-le a b m n (omega arith) (omega arith)
mag_product (pos a) (negsuc b) m n h k = let l = mul-le a (suc b) m n (omega arith) k in let g = mag_neg (a * suc b) in omega (arith, l, g)
mag_product (negsuc a) (pos b) m n h k = let l = mul-le (suc a) b m n h (omega arith) in let g = mag_neg (suc a * b) in omega (arith, l, g)
mag_product (negsuc a) (negsuc b) m n h k = mul-le (suc a) (suc b) m n h k

-- the product of a number of 40 bits and one of 24
pub product_fits : (x y : ℤ) → mag x < 2 ^ 39 → mag y < 2 ^ 23 → SFits w64 (x *ℤ y)
product_fits x y h k = record { sfits = let l = mag_product x y (2 ^ 39) (2 ^ 23) h k in omega (arith, l) }

-- a product of p and of q bits has p + q bits
pub cut_product : (a b : ℤ) (d e p q w : ℕ) → 1 ≤ p → 1 ≤ q → p + q ≤ w → cut_to (cut_to a d p *ℤ cut_to b e q) 0 w ≡ cut_to a d p *ℤ cut_to b e q
cut_product a b d e p q w sp sq most =
    let m = mag_product (cut_to a d p) (cut_to b e q) (2 ^ (p - 1)) (2 ^ (q - 1)) (cut_below a d p) (cut_below b e q) in
    let f : 2 ^ ((p - 1) + (q - 1)) ≡ 2 ^ (p - 1) * 2 ^ (q - 1) = pow-add 2 (p - 1) (q - 1) in
    let l : (p - 1) + (q - 1) < w - 1 = omega arith in
    let k = pow-lt l in
    cut_same (cut_to a d p *ℤ cut_to b e q) w (omega arith) (omega arith)

-- an operation on two words that gives a word, read through their bits
pub through : (op : ℤ → ℤ → ℤ) (x y : ℤ) → SFits w64 x → SFits w64 y → SFits w64 (op x y) → to_z w64 (of_z w64 (op (to_z w64 (of_z w64 x)) (to_z w64 (of_z w64 y)))) ≡ op x y
through op x y fx fy f =
    ap (λ u. to_z w64 (of_z w64 (op u (to_z w64 (of_z w64 y))))) (to_z-of_z w64 x fx)
    ∙ ap (λ u. to_z w64 (of_z w64 (op x u))) (to_z-of_z w64 y fy)
    ∙ to_z-of_z w64 (op x y) f
