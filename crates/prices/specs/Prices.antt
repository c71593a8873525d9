-- What a price list means: a charge for each cell, a latency for each width, and what holds of both.
use Rattle.std.specs.Prelude.{◌≡◌, ℕ, ◌+◌, ◌≤◌, true, cond, ◌&&◌, ◌==◌, nat_le}
use Rattle.widths.specs.declared.Sides.{Sides}
use Rattle.widths.specs.Kinds.{sides_of, covers, valid, is_cell, widest, deepest}
use Rattle.prices.specs.Sums.{total}

-- how many first sides and second sides the cells of a kind have; shut, so that sums over them do not unroll
unfoldable pub rows : ℕ → ℕ
rows k = widest k

unfoldable pub columns : ℕ → ℕ
columns k = deepest k

-- the sum over all cells of a kind
unfoldable pub over : ℕ → (Sides → ℕ) → ℕ
over k f = total (λ i. total (λ j. f (sides_of (i + 1) (j + cond (k == 1) 1 0))) (columns k)) (rows k)

-- a charge for each cell and a latency for each width of each kind
pub record Prices : Type 0 where
  pub cell : ℕ → Sides → ℕ
  pub late : ℕ → Sides → ℕ

-- what a list answers for a cell; 0 where there is no such cell
unfoldable pub cell_charge : Prices → ℕ → Sides → ℕ
cell_charge P k c = cond (is_cell k c) (P.cell k c) 0

-- what a list answers for a width: the sum over the cells that lie under it; 0 where there is no such width
unfoldable pub charge : Prices → ℕ → Sides → ℕ
charge P k w = cond (valid k w) (over k (λ c. cond (covers w c) (P.cell k c) 0)) 0

-- the steps that a list answers for a width; 0 where there is no such width, and for a register
unfoldable pub latency : Prices → ℕ → Sides → ℕ
latency P k w = cond (nat_le k 1 && valid k w) (P.late k w) 0

-- what holds of every list
pub record Sound (P : Prices) : Type 0 where
  pub least : (k : ℕ) (w : Sides) → k ≤ 1 → valid k w ≡ true → 1 ≤ latency P k w
  pub most : (k : ℕ) (w : Sides) → latency P k w ≤ 255
  pub rises : (k : ℕ) (v w : Sides) → k ≤ 1 → valid k v ≡ true → valid k w ≡ true → covers w v ≡ true → latency P k v ≤ latency P k w
  pub bounded : (k : ℕ) (w : Sides) → charge P k w ≤ 4194304
