-- What a grain charges, and that it is sound. A cell of the grain bears the charges of its block, so the cells under a
-- width add up to the list's charge for the rounded width; a kind of one side goes as one of two with one column.
use Rattle.std.specs.Prelude.{◌≡◌, ℕ, ◌+◌, ◌-◌, ◌%◌, ◌<◌, ◌≤◌, max, true, false, cond, ◌&&◌, ◌==◌, nat_eq, refl}
use Rattle.std.proofs.Common.{arith, ap, ap₂, sym, ◌∙◌, inl, inr}
use Rattle.std.proofs.lemmas.Bool.{cases_Bool, cond-true, cond-false}
use Rattle.std.proofs.lemmas.Bool.Decides.{nat_tests}
use Rattle.widths.specs.declared.Sides.{Sides}
use Rattle.widths.specs.Kinds.{sides_of, valid, is_cell, widest}
use Rattle.prices.specs.Sums.{total}
use Rattle.prices.specs.Prices.{Prices, Sound, charge, cell_charge, latency}
use Rattle.prices.specs.Lists.{is_grain, up, rounded, starts, breadth, block, grained}
use Rattle.prices.specs.Totals.{total_same, total_cond, total_has, cond_and}
use Rattle.prices.specs.Under.{place, charge_under, bounded_by}
use Rattle.prices.specs.Blocks.{by_grain, gathered, gathered_grid}

-- the grain along the second side
abbrev across : ℕ → ℕ → ℕ
across k g = cond (k == 1) g 1

-- which is a grain too
across_grain : (k g : ℕ) → is_grain g ≡ true → is_grain (across k g) ≡ true
across_grain k g ok = grind (arith, nat_tests)

-- where a block starts and how broad it is, counted from 0
abbrev Turns : ℕ → ℕ → ℕ → Type 0
Turns k j g = (starts g (j + cond (k == 1) 1 0) ≡ (j % across k g == 0)) × (breadth g (j + cond (k == 1) 1 0) ≡ across k g)

-- so it goes for the columns of every width
turns : (k : ℕ) (w : Sides) → valid k w ≡ true → (j : ℕ) → j < max w.q 1 → (g : ℕ) → is_grain g ≡ true → Turns k j g
turns k w v j l =
    by_grain (Turns k j)
    (grind (arith, nat_tests), grind (arith, nat_tests))
    (grind (arith, nat_tests), grind (arith, nat_tests))
    (grind (arith, nat_tests), grind (arith, nat_tests))
    (grind (arith, nat_tests), grind (arith, nat_tests))

-- the rounded width is a width
pub valid_rounded : (k : ℕ) (w : Sides) → valid k w ≡ true → (g : ℕ) → is_grain g ≡ true → valid k (rounded g w) ≡ true
valid_rounded k w v =
    by_grain (λ g. valid k (rounded g w) ≡ true) (grind (arith, nat_tests)) (grind (arith, nat_tests)) (grind (arith, nat_tests)) (grind (arith, nat_tests))

-- and has as many columns as the rounded second side says
breadth_rounded : (k : ℕ) (w : Sides) → valid k w ≡ true → (g : ℕ) → is_grain g ≡ true → up (across k g) (max w.q 1) ≡ max (up g w.q) 1
breadth_rounded k w v =
    by_grain (λ g. up (across k g) (max w.q 1) ≡ max (up g w.q) 1) (grind (arith, nat_tests)) (grind (arith, nat_tests)) (grind (arith, nat_tests)) (grind (arith, nat_tests))

-- a cell of the grain as a sum gathered along both sides
cell_gathered : (P : Prices) (k g i j : ℕ) → Turns k j g
    → (grained g P).cell k (place k i j) ≡ gathered (λ a. gathered (λ b. P.cell k (place k a b)) (across k g) j) g i
cell_gathered P k g i j t =
    let o : ℕ = cond (k == 1) 1 0 in
    let h : ℕ = across k g in
    let f : ℕ → ℕ → ℕ = λ a b. P.cell k (place k a b) in
    let first : starts g (i + 1) ≡ nat_eq (i % g) 0 = ap (λ n. nat_eq (n % g) 0) (omega arith) in
    let cells : (b : ℕ) → total (λ a. total (λ b. P.cell k (sides_of (i + 1 + a) (j + o + b))) b) g ≡ total (λ a. total (λ b. f (i + a) (j + b)) b) g
    = λ n. total_same _ _ g (λ a l. total_same _ _ n (λ b m. ap₂ (λ x y. P.cell k (sides_of x y)) (omega arith) (omega arith))) in
    ap₂ (λ x y. cond (x && y) (total (λ a. total (λ b. P.cell k (sides_of (i + 1 + a) (j + o + b))) (breadth g (j + o))) g) 0) first t.0
    ∙ ap (λ n. cond (i % g == 0 && j % h == 0) (total (λ a. total (λ b. P.cell k (sides_of (i + 1 + a) (j + o + b))) n) g) 0) t.1
    ∙ ap (λ z. cond (i % g == 0 && j % h == 0) z 0) (cells h)
    ∙ cond_and (i % g == 0) (j % h == 0) _
    ∙ ap (λ z. cond (i % g == 0) z 0) (sym (total_cond (j % h == 0) (λ a. total (λ b. f (i + a) (j + b)) h) g))

-- the charge of a width under a grain is the charge below of the rounded width
pub charge_rounded : (P : Prices) (g : ℕ) → is_grain g ≡ true → (k : ℕ) (w : Sides) → valid k w ≡ true → charge (grained g P) k w ≡ charge P k (rounded g w)
charge_rounded P g ok k w v =
    let d : ℕ = max w.q 1 in
    let f : ℕ → ℕ → ℕ = λ a b. P.cell k (place k a b) in
    charge_under (grained g P) k w v
    ∙ total_same _ (λ i. total (λ j. gathered (λ a. gathered (f a) (across k g) j) g i) d) w.p (λ i l.
    total_same _ (λ j. gathered (λ a. gathered (f a) (across k g) j) g i) d (λ j m. cell_gathered P k g i j (turns k w v j m g ok)))
    ∙ gathered_grid f g (across k g) ok (across_grain k g ok) w.p d
    ∙ ap (λ n. total (λ i. total (f i) n) (up g w.p)) (breadth_rounded k w v g ok)
    ∙ sym (charge_under P k (rounded g w) (valid_rounded k w v g ok))

-- the latencies of a grain are those of the list below
pub grain_latency : (g : ℕ) (P : Prices) (k : ℕ) (w : Sides) → latency P k w ≡ latency (grained g P) k w
unfolding latency
grain_latency g P k w = refl

-- a grain over a sound list is sound
pub grain_sound : (g : ℕ) → is_grain g ≡ true → (P : Prices) → Sound P → Sound (grained g P)
grain_sound g ok P d = record {
  least = λ k w h v. omega (arith, grain_latency g P k w, d.least k w h v);
  most = λ k w. omega (arith, grain_latency g P k w, d.most k w);
  rises = λ k v w h a b c. omega (arith, grain_latency g P k v, grain_latency g P k w, d.rises k v w h a b c);
  bounded = bounded_by (grained g P) 4194304 (λ k w v. omega (arith, charge_rounded P g ok k w v, d.bounded k (rounded g w)));
}

-- the cells of a block that starts at a cell are cells
block_cells : (k : ℕ) (c : Sides) (i j : ℕ) → is_cell k c ≡ true → (g : ℕ) → is_grain g ≡ true
    → starts g c.p ≡ true → starts g c.q ≡ true → i < g → j < breadth g c.q → is_cell k (sides_of (c.p + i) (c.q + j)) ≡ true
block_cells k c i j v =
    by_grain (λ g. starts g c.p ≡ true → starts g c.q ≡ true → i < g → j < breadth g c.q → is_cell k (sides_of (c.p + i) (c.q + j)) ≡ true)
    (λ a b l m. grind (arith, nat_tests)) (λ a b l m. grind (arith, nat_tests)) (λ a b l m. grind (arith, nat_tests)) (λ a b l m. grind (arith, nat_tests))

-- a cell that starts a block costs what the list below answers for the cells of the block
pub cell_started : (P : Prices) (g : ℕ) → is_grain g ≡ true → (k : ℕ) (c : Sides) → is_cell k c ≡ true → starts g c.p ≡ true → starts g c.q ≡ true
    → cell_charge (grained g P) k c ≡ total (λ i. total (λ j. cell_charge P k (sides_of (c.p + i) (c.q + j))) (breadth g c.q)) g
unfolding cell_charge
cell_started P g ok k c v a b =
    cond-true (is_cell k c) _ 0 v
    ∙ ap₂ (λ x y. cond (x && y) (block g (P.cell k) c) 0) a b
    ∙ total_same _ _ g (λ i l. total_same _ _ (breadth g c.q) (λ j m.
    sym (cond-true (is_cell k (sides_of (c.p + i) (c.q + j))) _ 0 (block_cells k c i j v g ok a b l m))))

-- no other cell costs anything
pub cell_unstarted : (P : Prices) (g k : ℕ) (c : Sides) → (is_cell k c && (starts g c.p && starts g c.q)) ≡ false → cell_charge (grained g P) k c ≡ 0
unfolding cell_charge
cell_unstarted P g k c e =
    sym (cond_and (is_cell k c) (starts g c.p && starts g c.q) (block g (P.cell k) c))
    ∙ cond-false (is_cell k c && (starts g c.p && starts g c.q)) _ 0 e

-- what is no cell costs nothing
pub cell_none : (P : Prices) (k : ℕ) (c : Sides) → is_cell k c ≡ false → cell_charge P k c ≡ 0
unfolding cell_charge
cell_none P k c v = cond-false (is_cell k c) _ 0 v

-- every cell lies under the widest width, so a bound on widths is one on cells
pub cell_bounded : (P : Prices) → Sound P → (k : ℕ) (c : Sides) → cell_charge P k c ≤ 4194304
unfolding cell_charge
cell_bounded P d k c =
    elim (cases_Bool (is_cell k c)) [ inl v ↦ rw v (under v) | inr v ↦ rw v (omega arith) ] where
      under : is_cell k c ≡ true → P.cell k c ≤ 4194304
      under v =
          let i : ℕ = c.p - 1 in
          let j : ℕ = c.q - cond (k == 1) 1 0 in
          let w : Sides = sides_of (widest k) (cond (k == 1) 24 0) in
          let w_ok : valid k (sides_of (widest k) (cond (k == 1) 24 0)) ≡ true = grind (arith, nat_tests) in
          let here : place k (c.p - 1) (c.q - cond (k == 1) 1 0) ≡ c = ap₂ sides_of (grind (arith, nat_tests)) (grind (arith, nat_tests)) in
          let column = total_has (λ b. P.cell k (place k i b)) (max w.q 1) j (grind (arith, nat_tests)) in
          let row = total_has (λ a. total (λ b. P.cell k (place k a b)) (max w.q 1)) w.p i (grind (arith, nat_tests)) in
          omega (arith, ap (P.cell k) here, column, row, charge_under P k w w_ok, d.bounded k w)
