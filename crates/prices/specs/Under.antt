-- The charge of a width as a plain sum over its sides: of the cells of a kind, which `over` sums, those count that lie
-- under the width, and these are the first ones along each side. One side and two go alike, since a kind of one side
-- has one column.
use Rattle.std.specs.Prelude.{◌≡◌, ℕ, ◌+◌, ◌<◌, ◌≤◌, max, true, false, cond, ◌==◌, nat_le}
use Rattle.std.proofs.Common.{arith, ap, ◌∙◌, inl, inr}
use Rattle.std.proofs.lemmas.Bool.{cond-true, cond-false, cases_Bool}
use Rattle.std.proofs.lemmas.Bool.Decides.{nat_tests}
use Rattle.widths.specs.declared.Sides.{Sides}
use Rattle.widths.specs.Kinds.{sides_of, covers, valid}
use Rattle.prices.specs.Sums.{total}
use Rattle.prices.specs.Prices.{Prices, rows, columns, over, charge}
use Rattle.prices.specs.Totals.{total_same, total_cut, total_cond, cond_and}

-- the cell in row i and column j, both counted from 0
abbrev pub place : ℕ → ℕ → ℕ → Sides
place k i j = sides_of (i + 1) (j + cond (k == 1) 1 0)

-- a width has no more rows and columns than its kind
sides_fit : (k : ℕ) (w : Sides) → valid k w ≡ true → (w.p ≤ rows k) × (max w.q 1 ≤ columns k)
unfolding rows columns
sides_fit k w v = (grind (arith, nat_tests), grind (arith, nat_tests))

-- the columns under a width are the first ones
column_under : (k : ℕ) (w : Sides) → valid k w ≡ true → (j : ℕ) → j < columns k → nat_le (j + cond (k == 1) 1 0) w.q ≡ nat_le (j + 1) (max w.q 1)
unfolding columns
column_under k w v j l = grind (arith, nat_tests)

-- the cells under a width are the first ones along each side
pub over_under : (k : ℕ) (w : Sides) (f : Sides → ℕ) → valid k w ≡ true
    → over k (λ c. cond (covers w c) (f c) 0) ≡ total (λ i. total (λ j. f (place k i j)) (max w.q 1)) w.p
unfolding over covers
over_under k w f v =
    let s = sides_fit k w v in
    let d : ℕ = max w.q 1 in
    total_same _ (λ i. cond (nat_le (i + 1) w.p) (total (λ j. f (place k i j)) d) 0) (rows k) (λ i l.
    total_same _ (λ j. cond (nat_le (i + 1) w.p) (cond (nat_le (j + 1) d) (f (place k i j)) 0) 0) (columns k) (λ j m.
    cond_and (nat_le (i + 1) w.p) (nat_le (j + cond (k == 1) 1 0) w.q) (f (place k i j))
    ∙ ap (λ b. cond (nat_le (i + 1) w.p) (cond b (f (place k i j)) 0) 0) (column_under k w v j m))
    ∙ total_cond (nat_le (i + 1) w.p) (λ j. cond (nat_le (j + 1) d) (f (place k i j)) 0) (columns k)
    ∙ ap (λ z. cond (nat_le (i + 1) w.p) z 0) (total_cut (λ j. f (place k i j)) d (columns k) s.1))
    ∙ total_cut (λ i. total (λ j. f (place k i j)) d) w.p (rows k) s.0

-- the same of a list's charges
pub charge_under : (P : Prices) (k : ℕ) (w : Sides) → valid k w ≡ true
    → charge P k w ≡ total (λ i. total (λ j. P.cell k (place k i j)) (max w.q 1)) w.p
unfolding charge
charge_under P k w v = cond-true (valid k w) _ 0 v ∙ over_under k w (P.cell k) v

-- what is no width costs nothing
pub charge_none : (P : Prices) (k : ℕ) (w : Sides) → valid k w ≡ false → charge P k w ≡ 0
unfolding charge
charge_none P k w v = cond-false (valid k w) _ 0 v

-- a bound on the charges of widths is one on all that a list charges
pub bounded_by : (P : Prices) (m : ℕ) → ((k : ℕ) (w : Sides) → valid k w ≡ true → charge P k w ≤ m) → (k : ℕ) (w : Sides) → charge P k w ≤ m
bounded_by P m h k w =
    elim (cases_Bool (valid k w)) [ inl v ↦ h k w v | inr v ↦ omega (arith, charge_none P k w v) ]
