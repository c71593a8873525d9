-- Sums over cells, and covering.
use Rattle.std.proofs.Common.{◌≡◌, ℕ, ◌+◌, ◌*◌, ◌≤◌, Bool, true, false, cond, eqb, Some, None, Option, refl, le_trans, mul-zero, mul-one, arith}
use Rattle.std.proofs.lemmas.Bool.Decides.{nat_tests}
use Rattle.std.proofs.lemmas.Bool.{cond-true}
use Rattle.widths.specs.declared.Sides.{Sides}
use Rattle.widths.specs.Kinds.{sides_of, covers, valid, is_cell}
use Rattle.prices.specs.Sums.{total}
use Rattle.prices.specs.Prices.{Prices, rows, columns, over, charge, cell_charge}
use Rattle.prices.specs.Totals.{total_swap, total_none, total_most}
use Rattle.plans.specs.Charges.{unit_charge}
use Rattle.floors.proofs.Sums.{total_le}

pub covers_trans : (u v w : Sides) → covers u v ≡ true → covers v w ≡ true → covers u w ≡ true
unfolding covers
covers_trans u v w h k = grind (arith, nat_tests)

pub covers_refl : (w : Sides) → covers w w ≡ true
unfolding covers
covers_refl w = grind (arith, nat_tests)

pub over_le : (k : ℕ) (f g : Sides → ℕ) → ((c : Sides) → f c ≤ g c) → over k f ≤ over k g
unfolding over
over_le k f g h = total_le _ _ (rows k) (λ i l. total_le _ _ (columns k) (λ j m. h (sides_of (i + 1) (j + cond (eqb k 1) 1 0))))

pub over_swap : (k : ℕ) (g : Sides → ℕ → ℕ) (m : ℕ) → over k (λ c. total (g c) m) ≤ total (λ u. over k (λ c. g c u)) m
unfolding over
over_swap k g m =
    let at : ℕ → ℕ → Sides = λ i j. sides_of (i + 1) (j + cond (eqb k 1) 1 0) in
    let n : ℕ = columns k in
    let inner = total_le (λ i. total (λ j. total (g (at i j)) m) n) (λ i. total (λ u. total (λ j. g (at i j) u) n) m) (rows k) (λ i l. omega (arith, total_swap (λ j. g (at i j)) n m)) in
    omega (arith, inner, total_swap (λ i u. total (λ j. g (at i j) u) n) (rows k) m)

over_none : (k : ℕ) → over k (λ c. 0) ≤ 0
unfolding over
over_none k =
    omega (arith, mul-zero (rows k), total_most (λ i. total (λ j. 0) (columns k)) 0 (rows k) (λ i l. omega (arith, total_none (columns k))))

abbrev pub bit : Bool → ℕ
bit b = cond b 1 0

-- how much a hired width, if any, serves a cell
abbrev pub covered : Option Sides → Sides → ℕ
covered None c = 0
covered (Some w) c = bit (covers w c)

cond_le_self : (b : Bool) (x : ℕ) → cond b x 0 ≤ x
cond_le_self true x = omega arith
cond_le_self false x = omega arith

-- outside the cells a list answers 0
pub cell_charge_le : (P : Prices) (k : ℕ) (c : Sides) → cell_charge P k c ≤ P.cell k c
unfolding cell_charge
cell_charge_le P k c = cond_le_self (is_cell k c) (P.cell k c)

times_bit : (b : Bool) (x : ℕ) → x * bit b ≤ cond b x 0
times_bit true x = omega (arith, mul-one x)
times_bit false x = omega (arith, mul-zero x)

pub covered_charge : (P : Prices) (k : ℕ) (u : Option Sides) → ((w : Sides) → u ≡ Some w → valid k w ≡ true) → over k (λ c. P.cell k c * covered u c) ≤ unit_charge P k u
unfolding charge
covered_charge P k None h = le_trans (over_le k (λ c. P.cell k c * 0) (λ c. 0) (λ c. omega (arith, mul-zero (P.cell k c)))) (over_none k)
covered_charge P k (Some w) h =
    rw (cond-true (valid k w) (over k (λ c. cond (covers w c) (P.cell k c) 0)) 0 (h w refl))
    (over_le k (λ c. P.cell k c * covered (Some w) c) (λ c. cond (covers w c) (P.cell k c) 0) (λ c. times_bit (covers w c) (P.cell k c)))
