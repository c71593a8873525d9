-- No complete lawful plan charges less than the floor: the need of a cell in a window is at most the window's steps for each unit that covers the cell.
use Rattle.std.proofs.Common.{◌≡◌, ℕ, suc, ◌+◌, ◌-◌, ◌*◌, ◌/◌, ◌<◌, ◌≤◌, true, cond, eqb, ◌⊎◌, Some, sym, ◌∙◌, inl, inr, le_trans, mul-le-mul_right, suc-mul, mul_comm, div-lt_iff_lt-mul, mul-le-mul_left, arith}
use Rattle.std.proofs.lemmas.Bool.{eqb-true, and_parts}
use Rattle.widths.specs.declared.Sides.{Sides}
use Rattle.widths.specs.Kinds.{covers}
use Rattle.graphs.specs.Graphs.{Graph, WellFormed, count}
use Rattle.prices.specs.Sums.{total}
use Rattle.prices.specs.Prices.{Prices, Sound, over, cell_charge}
use Rattle.plans.specs.Plans.{Plan, Complete, kind_at, own_at, start_of, units}
use Rattle.plans.specs.Charges.{unit_charge, kind_charge}
use Rattle.plans.proofs.Parts.{most_le}
use Rattle.plans.proofs.Rules.{Rules}
use Rattle.floors.specs.Spans.{own_steps, earliest, latest_step}
use Rattle.floors.specs.Floors.{overlap, least_overlap, counts, need, divided_up, peak, kind_floor}
use Rattle.floors.proofs.Sums.{total_le, total_times, cond_mono}
use Rattle.floors.proofs.Cells.{covered, covered_charge, covers_trans, over_le, over_swap, cell_charge_le}
use Rattle.floors.proofs.Windows.{between, window}
use Rattle.floors.proofs.Times.{latest_step_is, unit_of, Timed, timed, Seat, seat, from_earliest, to_latest}

divided_le : (n d m : ℕ) → n ≤ (d + 1) * m → divided_up n (d + 1) ≤ m
divided_le n d m h =
    let pos : 0 < d + 1 = omega arith in
    let top : n + (d + 1 - 1) < suc m * (d + 1) = omega (arith, suc-mul m (d + 1), mul_comm m (d + 1)) in
    let low : (n + (d + 1 - 1)) / (d + 1) < suc m = (div-lt_iff_lt-mul {k = d + 1} {x = n + (d + 1 - 1)} {y = suc m} pos).1 top in
    omega arith

module _ (G : Graph) (P : Prices) (pl : Plan) (wf : WellFormed G) (sound : Sound P) (law : Rules G P pl) (full : Complete G pl) where
  sits : (o : ℕ) → o < count G → Seat G P pl o
  sits o h = seat G P pl wf sound law o (full o h).0 (full o h).1

  starts : ℕ → ℕ
  starts o = start_of (pl.placed o)

  on_unit : ℕ → ℕ
  on_unit o = unit_of (pl.placed o)

  starts_within : Timed G P starts
  unfolding starts
  starts_within = timed G P pl wf sound law full

  module _ (k : ℕ) (c : Sides) where
    fit : ℕ → ℕ
    fit u = covered (pl.hired k u) c

    counted_parts : (o : ℕ) → counts G k c o ≡ true → (kind_at G o ≡ k) × (covers (own_at G o) c ≡ true)
    counted_parts o e =
        let p = and_parts (eqb (kind_at G o) k) (covers (own_at G o) c) e in
        (eqb-true (kind_at G o) k p.0, p.1)

    named : (o : ℕ) → o < count G → counts G k c o ≡ true → on_unit o < units
    unfolding on_unit
    named o h e = let s = sits o h in omega (arith, s.low, s.unit_is)

    fits : (o : ℕ) → o < count G → counts G k c o ≡ true → 1 ≤ fit (on_unit o)
    unfolding on_unit fit
    fits o h e =
        let s = sits o h in
        let q = counted_parts o e in
        let x : pl.hired k (unit_of (pl.placed o)) ≡ Some s.w = rw (s.unit_is, ← q.0) s.hired_is in
        rw (x, covers_trans s.w (own_at G o) c s.covering q.1) (omega arith)

    apart : (o r : ℕ) → o < r → r < count G → counts G k c o ≡ true → counts G k c r ≡ true → on_unit o ≡ on_unit r → (starts o + own_steps G P o ≤ starts r) ⊎ (starts r + own_steps G P r ≤ starts o)
    unfolding on_unit starts
    apart o r h g e f u =
        let x = sits o (omega arith) in
        let y = sits r g in
        let a = counted_parts o e in
        let b = counted_parts r f in
        elim (law.apart o r x.p y.p x.is y.is (λ z. omega arith) (a.0 ∙ sym b.0) (sym x.unit_is ∙ u ∙ y.unit_is)) [
          | inl z ↦ inl (omega (arith, x.longer, x.start_is, y.start_is))
          | inr z ↦ inr (omega (arith, y.longer, x.start_is, y.start_is))
        ]

    need_le : (a d : ℕ) → need G P k c a (a + d) ≤ d * total fit units
    unfolding need
    need_le a d =
        le_trans
        (total_le (λ o. cond (counts G k c o) (least_overlap G P a (a + d) o) 0) (λ o. cond (counts G k c o) (overlap a (a + d) (starts o) (own_steps G P o)) 0) (count G) (λ o h.
        cond_mono (counts G k c o) (least_overlap G P a (a + d) o) (overlap a (a + d) (starts o) (own_steps G P o))
        (between a (a + d) (earliest G P o) (starts o) (latest_step G P o) (own_steps G P o) (from_earliest G P starts wf starts_within o h) (omega (arith, latest_step_is G P o, to_latest G P starts wf starts_within o h)))))
        (window (count G) (counts G k c) starts (own_steps G P) on_unit fit units named fits apart a d)

    peak_le : peak G P k c ≤ total fit units
    unfolding peak
    peak_le =
        most_le _ (total fit units) G.limit (λ a h.
        most_le _ (total fit units) (G.limit - a) (λ j g.
        divided_le (need G P k c a (a + (j + 1))) j (total fit units) (need_le a (j + 1))))

    -- what a cell adds to the floor
    cell_le : cell_charge P k c * peak G P k c ≤ total (λ u. P.cell k c * covered (pl.hired k u) c) units
    unfolding fit
    cell_le =
        le_trans (mul-le-mul_right (peak G P k c) (cell_charge_le P k c))
        (omega (arith, mul-le-mul_left (P.cell k c) peak_le, total_times (P.cell k c) fit units))

  pub floor_le : (k : ℕ) → kind_floor G P k ≤ kind_charge P pl k
  unfolding kind_floor
  floor_le k =
      let x = over_le k (λ c. cell_charge P k c * peak G P k c) (λ c. total (λ u. P.cell k c * covered (pl.hired k u) c) units) (cell_le k) in
      let y = over_swap k (λ c u. P.cell k c * covered (pl.hired k u) c) units in
      let z = total_le (λ u. over k (λ c. P.cell k c * covered (pl.hired k u) c)) (λ u. unit_charge P k (pl.hired k u)) units
      (λ u h. covered_charge P k (pl.hired k u) (λ w e. (law.hirings k u w e).2)) in
      omega (arith, x, y, z)
