-- Hiring, and dismissing what serves nothing, keeps a plan lawful.
use Rattle.std.proofs.Common.{◌≡◌, ℕ, ◌+◌, ◌<◌, ◌≤◌, true, false, ◌&&◌, eqb, Some, None, Option, sym, ap, ◌∙◌, inl, inr}
use Rattle.widths.specs.declared.Sides.{Sides}
use Rattle.widths.specs.Kinds.{sides_of, valid, first_side, second_side}
use Rattle.graphs.specs.Graphs.{Graph, count}
use Rattle.prices.specs.Prices.{Prices}
use Rattle.plans.specs.declared.Placing.{Placing}
use Rattle.std.proofs.lemmas.Bool.{cases_Bool, eqb-true, ltb-false, and_parts, and_from, or_parts, not-false, cond-false}
use Rattle.faults.specs.declared.Fault.TheVariants.{StillServing}
use Rattle.prices.specs.Sums.{AllNone}
use Rattle.plans.specs.Plans.{Plan, kind_at, units, register, steps_of, finish_with, finish, last}
use Rattle.plans.specs.Calls.{with_unit, serves, hire_causes, dismiss_causes}
use Rattle.std.proofs.lemmas.Option.{none-some}
use Rattle.prices.proofs.Searches.{flag_none, lowest_none}
use Rattle.plans.proofs.Looks.{unit_low, some_same, cond_some}
use Rattle.plans.proofs.Placings.{absent, fault_none}
use Rattle.plans.proofs.Rules.{Rules}

module _ (G : Graph) (P : Prices) (pl : Plan) (k n : ℕ) (u : Option Sides) (law : Rules G P pl)
    (good : (w : Sides) → u ≡ Some w → (k ≤ 2) × (n < units) × (valid k w ≡ true))
    (unused : (o : ℕ) (p : Placing) → pl.placed o ≡ Some p → (eqb (kind_at G o) k && eqb p.unit n ≡ false) × (eqb register k && eqb p.register n ≡ false)) where
  kept_unit : (o : ℕ) (p : Placing) → pl.placed o ≡ Some p → (with_unit pl k n u).hired (kind_at G o) p.unit ≡ pl.hired (kind_at G o) p.unit
  kept_unit o p e = cond-false (eqb (kind_at G o) k && eqb p.unit n) u (pl.hired (kind_at G o) p.unit) (unused o p e).0

  kept_register : (o : ℕ) (p : Placing) → pl.placed o ≡ Some p → (with_unit pl k n u).hired register p.register ≡ pl.hired register p.register
  kept_register o p e = cond-false (eqb register k && eqb p.register n) u (pl.hired register p.register) (unused o p e).1

  kept_finish : (o : ℕ) (p : Placing) → pl.placed o ≡ Some p → finish G P (with_unit pl k n u) o p ≡ finish G P pl o p
  unfolding finish_with
  kept_finish o p e = ap (λ x. p.start + steps_of P (kind_at G o) (x)) (kept_unit o p e)

  kept_last : (o : ℕ) (p : Placing) → pl.placed o ≡ Some p → last G P (with_unit pl k n u) o p ≡ last G P pl o p
  unfolding last
  kept_last o p e = rw (kept_finish o p e)

  pub unit_lawful : Rules G P (with_unit pl k n u)
  unit_lawful = record {
    hirings = λ i j w e. elim (cond_some (eqb i k && eqb j n) u (pl.hired i j) w e) [
      | inl z ↦ let a = and_parts (eqb i k) (eqb j n) z.0 in rw (eqb-true i k a.0, eqb-true j n a.1) (good w z.1)
      | inr z ↦ law.hirings i j w z.1
    ];
    placings = law.placings;
    unit_covers = λ o p e. let w = law.unit_covers o p e in (w.0, kept_unit o p e ∙ w.1, w.2);
    register_covers = λ o p e. let w = law.register_covers o p e in (w.0, kept_register o p e ∙ w.1, w.2);
    in_time = λ o p e. rw (kept_finish o p e) (law.in_time o p e);
    in_order = λ o r p q e f rd. rw (kept_finish o p e) (law.in_order o r p q e f rd);
    apart = λ o r p q e f ne i j. rw (kept_finish o p e, kept_finish r q f) (law.apart o r p q e f ne i j);
    separate = λ o r p q e f ne i. rw (kept_finish o p e, kept_finish r q f, kept_last o p e, kept_last r q f) (law.separate o r p q e f ne i);
  }

module _ (G : Graph) (P : Prices) (pl : Plan) (law : Rules G P pl) where
  -- a unit that is not hired serves nothing
  vacant : (k n i j : ℕ) (w : Sides) → pl.hired k n ≡ None → pl.hired i j ≡ Some w → eqb i k && eqb j n ≡ false
  vacant k n i j w e f = elim (cases_Bool (eqb i k && eqb j n)) [
    | inl z ↦ let a = and_parts (eqb i k) (eqb j n) z in
        absurd (none-some _ (sym e ∙ sym (ap (λ x. pl.hired x n) (eqb-true i k a.0)) ∙ sym (ap (pl.hired i) (eqb-true j n a.1)) ∙ f))
    | inr z ↦ z
  ]

  pub hire_lawful : (k n w v : ℕ) → AllNone (hire_causes pl k n w v) → Rules G P (with_unit pl k n (Some (sides_of w v)))
  hire_lawful k n w v a =
      let none = absent (pl.hired k n) (flag_none _ _ a.1.1.1.1.0) in
      unit_lawful G P pl k n (Some (sides_of w v)) law
      (λ x e. (
        ltb-false 2 k (flag_none _ _ a.0),
        unit_low n (flag_none _ _ a.1.0),
        rw (← some_same e) (and_from (first_side k w) (second_side k w v) (not-false _ (flag_none _ _ a.1.1.0)) (not-false _ (flag_none _ _ a.1.1.1.0))),
      ))
      (λ o p e. let x = law.unit_covers o p e in let y = law.register_covers o p e in
      (vacant k n (kind_at G o) p.unit x.0 none x.1, vacant k n 2 p.register y.0 none y.1))

  pub dismiss_lawful : (k n : ℕ) → AllNone (dismiss_causes G pl k n) → Rules G P (with_unit pl k n None)
  dismiss_lawful k n a =
      let s = lowest_none (λ o. serves G k n o (pl.placed o)) (count G) (fault_none StillServing _ a.1.1.1.0) in
      unit_lawful G P pl k n None law (λ x e. absurd (none-some _ e))
      (λ o p e. let q : serves G k n o (Some p) ≡ false = rw e at (s o (law.placings o p e)) in
      or_parts (eqb (kind_at G o) k && eqb p.unit n) (eqb register k && eqb p.register n) q)
