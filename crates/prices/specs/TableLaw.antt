-- What a table charges, and that it is sound. Of the cells in a row only the first costs anything, so a width costs the
-- sum of the first entries; latencies that never fall from one row to the next never fall at all.
use Rattle.std.specs.Prelude.{◌≡◌, ℕ, zero, suc, ◌+◌, ◌-◌, ◌<◌, ◌≤◌, max, Bool, true, false, cond, ◌&&◌, List, ◌==◌, nat_le, slice_index, slice_index_or, refl}
use Rattle.std.proofs.Common.{arith, ap, ◌∙◌, inl, inr}
use Rattle.std.proofs.lemmas.Nat.{mul-le}
use Rattle.std.proofs.lemmas.Bool.{cases_lt}
use Rattle.std.proofs.lemmas.Bool.Decides.{nat_tests}
use Rattle.widths.specs.declared.Sides.{Sides}
use Rattle.widths.specs.Kinds.{covers, valid, is_cell}
use Rattle.prices.specs.Sums.{total}
use Rattle.prices.specs.Prices.{Prices, Sound, charge, cell_charge, latency}
use Rattle.prices.specs.Lists.{by_kind, row_of, table}
use Rattle.prices.specs.Refusals.{Charges, Rising}
use Rattle.prices.specs.Totals.{total_same, total_most}
use Rattle.prices.specs.Under.{place, charge_under, bounded_by}

-- a sum of which only the first term counts
total_first : (x n : ℕ) → total (λ j. cond (j == 0) x 0) (suc n) ≡ x
total_first x zero = omega arith
total_first x (suc n) = let e : cond (suc n == 0) x 0 ≡ 0 = grind (arith, nat_tests) in omega (arith, total_first x n, e)

-- latencies that never fall from one row to the next rise with the row
pub rising_le : (steps : List ℕ) → Rising steps → (j i : ℕ) → i ≤ j → j < 40 → slice_index steps i ≤ slice_index steps j
rising_le steps h zero i l m = let z : i ≡ 0 = omega arith in rw z (omega arith)
rising_le steps h (suc j) i l m =
    let z : suc j - 1 ≡ j = omega arith in
    let step : slice_index_or steps j 0 ≤ slice_index_or steps (suc j) 0 = let e = rw z at (h.1 (suc j) m) in grind (arith, nat_tests) in
    elim (cases_lt j i) [
      | inl k ↦ let e : i ≡ suc j = omega arith in rw e (omega arith)
      | inr k ↦ omega (arith, step, rising_le steps h j i k (omega arith))
    ]

module _ (adders firsts registers adder_steps multiplier_steps : List ℕ) where
  -- the list in question, and the charges of a kind
  abbrev listed : Prices
  listed = table adders firsts registers adder_steps multiplier_steps

  abbrev charges : ℕ → List ℕ
  charges k = by_kind k adders firsts registers

  -- the entry of the kind's charges is the kind's entry
  row_by_kind : (k p : ℕ) → by_kind k (row_of adders p) (row_of firsts p) (row_of registers p) ≡ row_of (charges k) p
  row_by_kind k p = both (k == 0) (k == 1) where
    both : (x y : Bool) → cond x (row_of adders p) (cond y (row_of firsts p) (row_of registers p)) ≡ row_of (cond x adders (cond y firsts registers)) p
    both true y = refl
    both false true = refl
    both false false = refl

  -- in each row the first cell alone costs something
  cell_first : (k : ℕ) (w : Sides) → valid k w ≡ true → (i j : ℕ) → j < max w.q 1 → listed.cell k (place k i j) ≡ cond (j == 0) (slice_index (charges k) i) 0
  cell_first k w v i j l =
      let z : i + 1 - 1 ≡ i = omega arith in
      let e : by_kind k (slice_index adders i) (slice_index firsts i) (slice_index registers i) ≡ slice_index_or (charges k) i 0 = rw z at (row_by_kind k (i + 1)) in
      rw z (grind (arith, nat_tests))

  -- a width costs the first entries
  pub table_charge : (k : ℕ) (w : Sides) → valid k w ≡ true → charge listed k w ≡ total (λ i. slice_index (charges k) i) w.p
  table_charge k w v =
      let z : max w.q 1 ≡ suc (w.q - 1) = omega arith in
      charge_under listed k w v
      ∙ total_same _ (λ i. slice_index (charges k) i) w.p (λ i l.
      total_same _ (λ j. cond (j == 0) (slice_index (charges k) i) 0) (max w.q 1) (λ j m. cell_first k w v i j m)
      ∙ ap (total (λ j. cond (j == 0) (slice_index (charges k) i) 0)) z
      ∙ total_first (slice_index (charges k) i) (w.q - 1))

  -- a cell of a first column costs its entry
  pub table_cell : (k : ℕ) (c : Sides) → is_cell k c ≡ true → c.q ≤ 1 → cell_charge listed k c ≡ row_of (charges k) c.p
  unfolding cell_charge
  table_cell k c v l =
      let e = row_by_kind k c.p in
      rw v (grind (arith, nat_tests))

  -- any other costs nothing
  pub table_cell_rest : (k : ℕ) (c : Sides) → (is_cell k c && nat_le c.q 1) ≡ false → cell_charge listed k c ≡ 0
  unfolding cell_charge
  table_cell_rest k c v = grind (arith, nat_tests)

  module _ (a_fit : Charges adders) (f_fit : Charges firsts) (r_fit : Charges registers) (a_rise : Rising adder_steps) (m_rise : Rising multiplier_steps) where
    -- the charges of every kind have 16 bits
    charges_fit : (k : ℕ) → Charges (charges k)
    charges_fit k = both (k == 0) (k == 1) where
      both : (x y : Bool) → Charges (cond x adders (cond y firsts registers))
      both true y = a_fit
      both false true = f_fit
      both false false = r_fit

    -- so 64 of them are bounded
    charge_most : (k : ℕ) (w : Sides) → valid k w ≡ true → charge listed k w ≤ 4194304
    charge_most k w v =
        let short : w.p ≤ 64 = grind (arith, nat_tests) in
        let m = mul-le w.p 65535 64 65535 short (omega arith) in
        omega (arith, table_charge k w v, total_most (λ i. slice_index (charges k) i) 65535 w.p (λ i l. charges_fit k i), m)

    -- no latency is 0, none above 255, and none shorter on a covering width
    late_least : (k : ℕ) (w : Sides) → k ≤ 1 → valid k w ≡ true → 1 ≤ latency listed k w
    unfolding latency
    late_least k w h v =
        let short : w.p - 1 < 40 = grind (arith, nat_tests) in
        let a = a_rise.1 (w.p - 1) short in
        let m = m_rise.1 (w.p - 1) short in
        grind (arith, nat_tests)

    late_most : (k : ℕ) (w : Sides) → latency listed k w ≤ 255
    unfolding latency
    late_most k w =
        let a = a_rise.0 (w.p - 1) in
        let m = m_rise.0 (w.p - 1) in
        grind (arith, nat_tests)

    late_rises : (k : ℕ) (v w : Sides) → k ≤ 1 → valid k v ≡ true → valid k w ≡ true → covers w v ≡ true → latency listed k v ≤ latency listed k w
    unfolding latency covers
    late_rises k v w h a b c =
        let short : w.p - 1 < 40 = grind (arith, nat_tests) in
        let less : v.p - 1 ≤ w.p - 1 = grind (arith, nat_tests) in
        let x = rising_le adder_steps a_rise (w.p - 1) (v.p - 1) less short in
        let y = rising_le multiplier_steps m_rise (w.p - 1) (v.p - 1) less short in
        grind (arith, nat_tests)

    -- the table list is sound
    pub table_sound : Sound listed
    table_sound = record {
      least = late_least;
      most = late_most;
      rises = late_rises;
      bounded = bounded_by listed 4194304 charge_most;
    }
