-- Sums and largest values, compared term by term.
use Rattle.std.proofs.Common.{◌≡◌, ℕ, zero, suc, ◌+◌, ◌*◌, ◌<◌, ◌≤◌, Bool, true, false, cond, sym, ap, ◌∙◌, inl, inr, mul-zero, mul-add, arith}
use Rattle.std.proofs.lemmas.Bool.{cases_lt}
use Rattle.prices.specs.Sums.{total}
use Rattle.prices.specs.Totals.{total_most}

pub total_le : (f g : ℕ → ℕ) (n : ℕ) → ((i : ℕ) → i < n → f i ≤ g i) → total f n ≤ total g n
total_le f g zero h = omega arith
total_le f g (suc n) h = omega (arith, total_le f g n (λ i l. h i (omega arith)), h n (omega arith))

pub total_times : (c : ℕ) (f : ℕ → ℕ) (n : ℕ) → total (λ i. c * f i) n ≡ c * total f n
total_times c f zero = sym (mul-zero c)
total_times c f (suc n) = ap (λ x. x + c * f n) (total_times c f n) ∙ sym (mul-add c (total f n) (f n))

-- where at most one term is not 0
pub total_once : (f : ℕ → ℕ) (m n : ℕ) → ((i : ℕ) → i < n → f i ≤ m) → ((i j : ℕ) → i < j → j < n → 1 ≤ f i → 1 ≤ f j → ⊥) → total f n ≤ m
total_once f m zero h u = omega arith
total_once f m (suc n) h u = elim (cases_lt 0 (f n)) [
  | inl l ↦ omega (arith, mul-zero n, h n (omega arith), total_most f 0 n (λ i k. elim (cases_lt 0 (f i)) [ inl g ↦ absurd (u i n k (omega arith) g l) | inr g ↦ g ]))
  | inr l ↦ omega (arith, total_once f m n (λ i k. h i (omega arith)) (λ i j x y. u i j x (omega arith)))
]

pub cond_mono : (b : Bool) (x y : ℕ) → x ≤ y → cond b x 0 ≤ cond b y 0
cond_mono true x y h = h
cond_mono false x y h = omega arith

pub cond_le : (b : Bool) (x m : ℕ) → (b ≡ true → x ≤ m) → cond b x 0 ≤ m
cond_le true x m h = h (λ i. true)
cond_le false x m h = omega arith
