-- Where no operation is out of time there is a complete lawful plan: each operation on a unit and in a register of its own, begun at its earliest.
use Rattle.std.proofs.Common.{◌≡◌, ℕ, zero, suc, ◌+◌, ◌<◌, ◌≤◌, Bool, true, false, cond, ◌&&◌, eqb, ltb, Some, None, Option, sym, refl, ap, ◌∙◌, inl, inr, le_refl, arith}
use native.Mathlib.Decide.{le_ind}
use Rattle.std.proofs.lemmas.Bool.{false≢true, eqb-true, eq-eqb, ne_eqb, and_parts, and_from, and_right, ltb-true, lt-ltb, cond-true, cond-false}
use Rattle.std.proofs.lemmas.Bool.Decides.{nat_tests}
use Rattle.widths.specs.declared.Sides.{Sides}
use Rattle.widths.specs.Kinds.{sides_of, valid}
use Rattle.graphs.specs.declared.Source.{Source}
use Rattle.graphs.specs.declared.Source.TheVariants.{Input, Earlier}
use Rattle.graphs.specs.declared.Operation.{Operation}
use Rattle.graphs.specs.declared.Operation.TheVariants.{Add, Multiply}
use Rattle.graphs.specs.Graphs.{Graph, WellFormed, operation_at, count, kind_of, width_of, value_width}
use Rattle.prices.specs.Sums.{flag}
use Rattle.prices.specs.Prices.{Prices}
use Rattle.std.proofs.lemmas.Option.{none-some}
use Rattle.plans.specs.declared.Placing.{Placing}
use Rattle.plans.specs.Plans.{Plan, Complete, names, reads, kind_at, own_at, value_at, register, units, steps_of, finish_with, finish}
use Rattle.plans.proofs.Looks.{some_same, cond_some}
use Rattle.plans.proofs.Rules.{Rules, arithmetic, reads_earlier}
use Rattle.floors.specs.Spans.{own_steps, first_source, second_source, there_at, earliest_within, earliest}
use Rattle.floors.proofs.Cells.{covers_refl}
use Rattle.floors.proofs.Shapes.{shape, reads_either}
use Rattle.floors.proofs.Times.{left}

flag_some : {A : Type 0} (b : Bool) (x y : A) → flag b x ≡ Some y → (b ≡ true) × (x ≡ y)
flag_some true x y e = (refl, some_same e)
flag_some false x y e = absurd (none-some _ e)

-- the value of an operation whose width is one of its kind fits a register
value_valid : (x : Operation) → valid (kind_of x) (width_of x) ≡ true → valid 2 (sides_of (value_width x) 0) ≡ true
value_valid (Add p a b) e = grind (arith, nat_tests)
value_valid (Multiply p q a b) e = grind (arith, nat_tests)

module _ (G : Graph) (P : Prices) where
  there_more : (g h : ℕ → ℕ) → ((e : ℕ) → g e ≤ h e) → (x : Source) → there_at (λ e. g e + own_steps G P e) x ≤ there_at (λ e. h e + own_steps G P e) x
  there_more g h le (Input i) = omega arith
  there_more g h le (Earlier e) = omega (arith, le e)

  early_more : (n o : ℕ) → earliest_within G P n o ≤ earliest_within G P (suc n) o
  early_more zero o = omega arith
  early_more (suc n) o =
      omega (arith, there_more (earliest_within G P n) (earliest_within G P (suc n)) (early_more n) (first_source (operation_at G o)), there_more (earliest_within G P n) (earliest_within G P (suc n)) (early_more n) (second_source (operation_at G o)))

  early_up : (m n o : ℕ) → m ≤ n → earliest_within G P m o ≤ earliest_within G P n o
  early_up m n o h = le_ind {n = m} (λ i. earliest_within G P m o ≤ earliest_within G P i o) (le_refl (earliest_within G P m o)) (λ i k ih. omega (arith, ih, early_more i o)) n h

  names_there : (g : ℕ → ℕ) (x : Source) (e : ℕ) → names x e ≡ true → there_at g x ≡ g e
  names_there g (Input i) e h = absurd (false≢true h)
  names_there g (Earlier y) e h = ap g (eqb-true y e h)

  earliest_after : WellFormed G → (r o : ℕ) → r < count G → reads G r o ≡ true → earliest G P o + own_steps G P o ≤ earliest G P r
  unfolding earliest
  earliest_after wf r o h e =
      let up = early_up (suc o) r o (reads_earlier G wf r o h e) in
      let g : ℕ → ℕ = λ x. earliest_within G P r x + own_steps G P x in
      elim (reads_either G r o e) [
        | inl x ↦ omega (arith, up, names_there g (first_source (operation_at G r)) o x)
        | inr x ↦ omega (arith, up, names_there g (second_source (operation_at G r)) o x)
      ]

  spot : ℕ → Placing
  spot o = record { unit = o; start = earliest G P o; register = o }

  its_own : ℕ → ℕ → Option Sides
  its_own k u = cond (ltb u (count G) && eqb k 2) (Some (value_at G u)) (flag (ltb u (count G) && eqb (kind_at G u) k) (own_at G u))

  own_plan : Plan
  own_plan = record { hired = its_own; placed = λ o. flag (ltb o (count G)) (spot o) }

  module _ (wf : WellFormed G) (in_time : (o : ℕ) → o < count G → earliest G P o + left G P o ≤ G.limit) where
    its_unit : (o : ℕ) → o < count G → its_own (kind_at G o) o ≡ Some (own_at G o)
    unfolding its_own
    its_unit o h =
        cond-false (ltb o (count G) && eqb (kind_at G o) 2) _ _ (and_right (ltb o (count G)) (eqb (kind_at G o) 2) (ne_eqb (kind_at G o) 2 (λ e. omega (arith, arithmetic (operation_at G o)))))
        ∙ cond-true (ltb o (count G) && eqb (kind_at G o) (kind_at G o)) _ _ (and_from (ltb o (count G)) (eqb (kind_at G o) (kind_at G o)) (lt-ltb o (count G) h) (eq-eqb (kind_at G o) (kind_at G o) refl))

    its_register : (o : ℕ) → o < count G → its_own register o ≡ Some (value_at G o)
    unfolding its_own
    its_register o h = cond-true (ltb o (count G) && eqb 2 2) _ _ (and_from (ltb o (count G)) (eqb 2 2) (lt-ltb o (count G) h) refl)

    value_fits : (o : ℕ) → o < count G → valid 2 (value_at G o) ≡ true
    unfolding value_at
    value_fits o h = value_valid (operation_at G o) (shape G wf o h).width

    own_finish : (o : ℕ) → o < count G → finish G P own_plan o (spot o) ≡ earliest G P o + own_steps G P o
    unfolding finish_with own_steps own_plan spot
    own_finish o h = ap (λ x. earliest G P o + steps_of P (kind_at G o) x) (its_unit o h)

    own_hirings : (k n : ℕ) (w : Sides) → its_own k n ≡ Some w → (k ≤ 2) × (n < units) × (valid k w ≡ true)
    unfolding its_own units
    own_hirings k n w e =
        elim (cond_some (ltb n (count G) && eqb k 2) (Some (value_at G n)) (flag (ltb n (count G) && eqb (kind_at G n) k) (own_at G n)) w e) [
          | inl x ↦
              let y = and_parts (ltb n (count G)) (eqb k 2) x.0 in
              let l = ltb-true n (count G) y.0 in
              let q = eqb-true k 2 y.1 in
              (omega arith, omega (arith, wf.operation_count.1), rw (q, ← some_same x.1) (value_fits n l))
          | inr x ↦
              let f = flag_some (ltb n (count G) && eqb (kind_at G n) k) (own_at G n) w x.1 in
              let y = and_parts (ltb n (count G)) (eqb (kind_at G n) k) f.0 in
              let l = ltb-true n (count G) y.0 in
              let q = eqb-true (kind_at G n) k y.1 in
              (omega (arith, arithmetic (operation_at G n)), omega (arith, wf.operation_count.1), rw (← q, ← f.1) (shape G wf n l).width)
        ]

    lasts : (o : ℕ) → own_steps G P o ≤ left G P o
    unfolding left
    lasts o = omega arith

    own_rules : Rules G P own_plan
    unfolding own_plan spot
    own_rules = record {
      hirings = own_hirings;
      placings = λ o p e. (here o p e).0;
      unit_covers = λ o p e. let s = here o p e in (own_at G o, rw (← s.1) (its_unit o s.0), covers_refl (own_at G o));
      register_covers = λ o p e. let s = here o p e in (value_at G o, rw (← s.1) (its_register o s.0), covers_refl (value_at G o));
      in_time = λ o p e. let s = here o p e in rw (← s.1) (omega (arith, own_finish o s.0, in_time o s.0, lasts o));
      in_order = λ o r p q e f rd. let s = here o p e in let t = here r q f in rw (← s.1, ← t.1) (omega (arith, own_finish o s.0, earliest_after wf r o t.0 rd));
      apart = λ o r p q e f ne k u. absurd (ne (ap (λ x. x.unit) (here o p e).1 ∙ u ∙ sym (ap (λ x. x.unit) (here r q f).1)));
      separate = λ o r p q e f ne u. absurd (ne (ap (λ x. x.register) (here o p e).1 ∙ u ∙ sym (ap (λ x. x.register) (here r q f).1)));
    }
      where
        here : (o : ℕ) (p : Placing) → flag (ltb o (count G)) (spot o) ≡ Some p → (o < count G) × (spot o ≡ p)
        here o p e = let f = flag_some (ltb o (count G)) (spot o) p e in (ltb-true o (count G) f.0, f.1)

    own_complete : Complete G own_plan
    unfolding own_plan
    own_complete o h = (spot o, cond-true (ltb o (count G)) (Some (spot o)) None (lt-ltb o (count G) h))

    pub feasible : (pl : Plan) × Rules G P pl × Complete G pl
    feasible = (own_plan, own_rules, own_complete)
