-- The price lists there are: formula and table, and grain and wait over any list.
use Rattle.std.specs.Prelude.{◌≡◌, ℕ, ◌+◌, ◌-◌, ◌*◌, ◌/◌, ◌%◌, ◌≤◌, min, Bool, true, cond, ◌&&◌, ◌||◌, List, ◌==◌, slice_index}
use Rattle.widths.specs.declared.Sides.{Sides}
use Rattle.widths.specs.Kinds.{sides_of, valid}
use Rattle.prices.specs.Sums.{total}
use Rattle.prices.specs.Prices.{Prices, Sound, charge}

-- what a list has for an adder, a multiplier or a register
abbrev pub by_kind : {A : Type 0} → ℕ → A → A → A → A
by_kind k adder multiplier register = cond (k == 0) adder (cond (k == 1) multiplier register)

-- a rate for each adder cell and each register cell, 1 for each multiplier cell; an adder takes 2 steps, a multiplier an
-- eighth of the sum of its sides, rounded up
abbrev pub formula : ℕ → ℕ → Prices
formula a r = record {
  cell = λ k c. by_kind k a 1 r;
  late = λ k w. by_kind k 2 ((w.p + w.q + 7) / 8) 0;
}

-- the entry of the cells or widths whose first side is p
abbrev pub row_of : List ℕ → ℕ → ℕ
row_of xs p = slice_index xs (p - 1)

-- charges by first side, of multiplier cells only where the second side is 1; latencies by first side
abbrev pub table : List ℕ → List ℕ → List ℕ → List ℕ → List ℕ → Prices
table adders firsts registers adder_steps multiplier_steps = record {
  cell = λ k c. by_kind k (row_of adders c.p) (cond (c.q == 1) (row_of firsts c.p) 0) (row_of registers c.p);
  late = λ k w. by_kind k (row_of adder_steps w.p) (row_of multiplier_steps w.p) 0;
}

-- g is a grain
abbrev pub is_grain : ℕ → Bool
is_grain g = g == 1 || (g == 2 || (g == 4 || g == 8))

-- the least multiple of g that is not below n
abbrev pub up : ℕ → ℕ → ℕ
up g n = (n + (g - 1)) / g * g

-- a width with each side rounded up to a multiple of g; a side of 0, which is none, stays 0
abbrev pub rounded : ℕ → Sides → Sides
rounded g w = sides_of (up g w.p) (up g w.q)

-- g divides the side less 1
abbrev pub starts : ℕ → ℕ → Bool
starts g n = (n - 1) % g == 0

-- how many cells of a block lie along its second side; one where there is no such side
abbrev pub breadth : ℕ → ℕ → ℕ
breadth g q = cond (q == 0) 1 g

-- the sum of f over the block of cells that starts at c
abbrev pub block : ℕ → (Sides → ℕ) → Sides → ℕ
block g f c = total (λ i. total (λ j. f (sides_of (c.p + i) (c.q + j))) (breadth g c.q)) g

-- a cell that starts a block bears the charges of the block, any other none
abbrev pub grained : ℕ → Prices → Prices
grained g P = record {
  cell = λ k c. cond (starts g c.p && starts g c.q) (block g (P.cell k) c) 0;
  late = P.late;
}

-- every latency s steps longer, held at 255
abbrev pub waiting : ℕ → Prices → Prices
waiting s P = record {
  cell = P.cell;
  late = λ k w. min (P.late k w + s) 255;
}

-- grain and wait over a list, in either order, are sound, and the cells of a grain add up to what the list below charges
abbrev pub AdjustsSoundly : Prices → Type 0
AdjustsSoundly P =
    (g s : ℕ) → is_grain g ≡ true → s ≤ 16
    → Sound (grained g (waiting s P)) × Sound (waiting s (grained g P))
    × ((k : ℕ) (w : Sides) → valid k w ≡ true → charge (grained g P) k w ≡ charge P k (rounded g w))
