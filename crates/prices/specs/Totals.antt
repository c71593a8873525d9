-- Sums over the first numbers: term by term, cut off, of one value, and at most.
use Rattle.std.specs.Prelude.{◌≡◌, ℕ, zero, suc, ◌+◌, ◌*◌, ◌<◌, ◌≤◌, Bool, true, false, cond, ◌&&◌, nat_le, refl}
use Rattle.std.proofs.Common.{suc-mul, zero-mul, add-one, arith, ap, ap₂, sym, ◌∙◌, inl, inr}
use Rattle.std.proofs.lemmas.Bool.{cases_lt, le-leb, lt-leb, cond-true, cond-false}
use Rattle.prices.specs.Sums.{total}

-- equal terms
pub total_same : (f g : ℕ → ℕ) (n : ℕ) → ((i : ℕ) → i < n → f i ≡ g i) → total f n ≡ total g n
total_same f g zero h = refl
total_same f g (suc n) h = ap₂ ◌+◌ (total_same f g n (λ i l. h i (omega arith))) (h n (omega arith))

-- one term more, as a loop counts
pub total_next : (f : ℕ → ℕ) (n : ℕ) → total f (n + 1) ≡ total f n + f n
total_next f n = rw add-one

-- terms that are all 0
pub total_none : (n : ℕ) → total (λ i. 0) n ≡ 0
total_none zero = refl
total_none (suc n) = omega (arith, total_none n)

-- term by term
pub total_add : (f g : ℕ → ℕ) (n : ℕ) → total (λ i. f i + g i) n ≡ total f n + total g n
total_add f g zero = refl
total_add f g (suc n) = omega (arith, total_add f g n)

-- terms that are all alike
pub total_alike : (c n : ℕ) → total (λ i. c) n ≡ n * c
total_alike c zero = omega (arith, zero-mul c)
total_alike c (suc n) = omega (arith, total_alike c n, suc-mul n c)

-- a bound on each term
pub total_most : (f : ℕ → ℕ) (m n : ℕ) → ((i : ℕ) → i < n → f i ≤ m) → total f n ≤ n * m
total_most f m zero h = omega (arith, zero-mul m)
total_most f m (suc n) h = omega (arith, total_most f m n (λ i l. h i (omega arith)), h n (omega arith), suc-mul n m)

-- each term is at most the sum
pub total_has : (f : ℕ → ℕ) (n i : ℕ) → i < n → f i ≤ total f n
total_has f zero i h = omega arith
total_has f (suc n) i h =
    elim (cases_lt i n) [ inl l ↦ omega (arith, total_has f n i l) | inr g ↦ let e : i ≡ n = omega arith in rw e (omega arith) ]

-- row by row or column by column
pub total_swap : (g : ℕ → ℕ → ℕ) (n m : ℕ) → total (λ i. total (g i) m) n ≡ total (λ j. total (λ i. g i j) n) m
total_swap g zero m = sym (total_none m)
total_swap g (suc n) m = ap (λ x. x + total (g n) m) (total_swap g n m) ∙ sym (total_add (λ j. total (λ i. g i j) n) (g n) m)

-- a sum of which only the first p terms count
pub total_cut : (f : ℕ → ℕ) (p n : ℕ) → p ≤ n → total (λ i. cond (nat_le (i + 1) p) (f i) 0) n ≡ total f p
total_cut f p zero h = let e : p ≡ 0 = omega arith in rw e
total_cut f p (suc n) h = elim (cases_lt n p) [
  | inl l ↦ let e : p ≡ suc n = omega arith in
      total_same (λ i. cond (nat_le (i + 1) p) (f i) 0) f (suc n) (λ i k. cond-true (nat_le (i + 1) p) (f i) 0 (le-leb (i + 1) p (omega arith))) ∙ ap (total f) (sym e)
  | inr l ↦ omega (arith, total_cut f p n l, cond-false (nat_le (n + 1) p) (f n) 0 (lt-leb (n + 1) p (omega arith)))
]

-- two tests, one after the other
pub cond_and : (x y : Bool) (v : ℕ) → cond (x && y) v 0 ≡ cond x (cond y v 0) 0
cond_and true y v = refl
cond_and false y v = refl

-- a test that no term depends on
pub total_cond : (b : Bool) (f : ℕ → ℕ) (n : ℕ) → total (λ j. cond b (f j) 0) n ≡ cond b (total f n) 0
total_cond true f n = refl
total_cond false f n = total_none n

-- one block of terms more
pub total_block : (f : ℕ → ℕ) (n g : ℕ) → total f (n + g) ≡ total f n + total (λ a. f (n + a)) g
total_block f n zero = let e : n + zero ≡ n = omega arith in rw e (omega arith)
total_block f n (suc g) = let e : n + suc g ≡ suc (n + g) = omega arith in rw e (omega (arith, total_block f n g))
