-- Whole runs of calls.
use Rattle.std.proofs.Common.{◌≡◌, ℕ, eqb, ◌⊎◌, List, [], ◌∷◌, Some, None, Option, sym, refl, ap, ◌∙◌, inl, inr}
use Rattle.faults.specs.declared.Fault.{Fault}
use Rattle.graphs.specs.Graphs.{Graph, WellFormed}
use Rattle.prices.specs.Prices.{Prices}
use Rattle.plans.specs.declared.Placing.{Placing}
use Rattle.std.proofs.lemmas.Bool.{cases_Bool, eqb-true, eqb-false, ne_eqb, cond-true, cond-false}
use Rattle.prices.specs.Sums.{first_of, AllNone}
use Rattle.plans.specs.Plans.{Plan, Complete, empty}
use Rattle.plans.specs.Calls.{Call, hire, dismiss, place, lift, with_placing, placing, causes, place_causes, verdict, made, settled, after, run, plan_after}
use Rattle.plans.specs.Law.{place_so, NotIn, Missing, Taken, Part, IsIn, calls_of, Order}
use Rattle.std.proofs.lemmas.Option.{none-some}
use Rattle.prices.proofs.Searches.{first_none, none_first}
use Rattle.plans.proofs.Looks.{cond_some}
use Rattle.plans.proofs.Parts.{part_lawful}
use Rattle.plans.proofs.Placings.{clear, lawful_taken, taken_lawful}
use Rattle.plans.proofs.Hirings.{hire_lawful, dismiss_lawful}
use Rattle.plans.proofs.Rules.{Rules}

module _ (G : Graph) (P : Prices) where
  lifted : (pl : Plan) (o : ℕ) → Part (with_placing pl o None) pl
  lifted pl o = record {
    units_same = λ k n. refl;
    placings_in = λ x p e. elim (cond_some (eqb x o) None (pl.placed x) p e) [ inl z ↦ absurd (none-some _ z.1) | inr z ↦ z.1 ];
  }

  made_lawful : WellFormed G → (pl : Plan) → Rules G P pl → (c : Call) → AllNone (causes G P pl c) → Rules G P (made pl c)
  made_lawful wf pl law (hire k n w v) t = hire_lawful G P pl law k n w v t
  made_lawful wf pl law (dismiss k n) t = dismiss_lawful G P pl law k n t
  made_lawful wf pl law (place o u s r) t = taken_lawful G P pl o (placing u s r) wf law (clear G P pl o (placing u s r) t)
  made_lawful wf pl law (lift o) t = part_lawful G P (with_placing pl o None) pl (lifted pl o) law

  after_lawful : WellFormed G → (pl : Plan) → Rules G P pl → (c : Call) → Rules G P (after G P pl c)
  unfolding after verdict
  after_lawful wf pl law c = go (verdict G P pl c) refl
    where
      go : (x : Option Fault) → first_of (causes G P pl c) ≡ x → Rules G P (settled x (made pl c) pl)
      go None t = made_lawful wf pl law c (first_none (causes G P pl c) t)
      go (Some f) t = law

  run_lawful : WellFormed G → (pl : Plan) → Rules G P pl → (cs : List Call) → Rules G P (run G P pl cs)
  run_lawful wf pl law [] = law
  run_lawful wf pl law (c ∷ cs) = run_lawful wf (after G P pl c) (after_lawful wf pl law c) cs

  empty_lawful : Rules G P empty
  empty_lawful = record {
    hirings = λ k n w e. absurd (none-some _ e);
    placings = λ o p e. absurd (none-some _ e);
    unit_covers = λ o p e. absurd (none-some _ e);
    register_covers = λ o p e. absurd (none-some _ e);
    in_time = λ o p e. absurd (none-some _ e);
    in_order = λ o r p q e f rd. absurd (none-some _ e);
    apart = λ o r p q e f ne k u. absurd (none-some _ e);
    separate = λ o r p q e f ne u. absurd (none-some _ e);
  }

  pub plans_lawful : WellFormed G → (cs : List Call) → Rules G P (plan_after G P cs)
  plans_lawful wf cs = run_lawful wf empty empty_lawful cs

  pub after_taken : (pl : Plan) (c : Call) → verdict G P pl c ≡ None → after G P pl c ≡ made pl c
  after_taken pl c t = ap (λ x. settled x (made pl c) pl) t

  module _ (full : Plan) (law : Rules G P full) (whole : Complete G full) where
    added_part : (pl : Plan) → Part pl full → (o : ℕ) (p : Placing) → full.placed o ≡ Some p → Part (with_placing pl o (Some p)) full
    added_part pl part o p e = record {
      units_same = part.units_same;
      placings_in = λ x q f. elim (cond_some (eqb x o) (Some p) (pl.placed x) q f) [
        | inl z ↦ ap full.placed (eqb-true x o z.0) ∙ e ∙ z.1
        | inr z ↦ part.placings_in x q z.1
      ];
    }

    still_missing : (pl : Plan) (o : ℕ) (x : Option Placing) (os : List ℕ) → NotIn o os → Missing G pl os → Missing G (with_placing pl o x) os
    still_missing pl o x [] n m = tt
    still_missing pl o x (y ∷ os) n m =
        (m.0, cond-false (eqb y o) x (pl.placed y) (ne_eqb y o (λ z. n.0 (sym z))) ∙ m.1, m.2, still_missing pl o x os n.1 m.3)

    one_taken : (pl : Plan) → Part pl full → (o : ℕ) (p : Placing) → full.placed o ≡ Some p → pl.placed o ≡ None → verdict G P pl (place o p.unit p.start p.register) ≡ None
    unfolding verdict
    one_taken pl part o p e none =
        none_first (place_causes G P pl o p) (lawful_taken G P pl o p (part_lawful G P (with_placing pl o (Some p)) full (added_part pl part o p e) law) none)

    pub all_taken : (os : List ℕ) (pl : Plan) → Part pl full → Missing G pl os → Taken G P full pl os
    all_taken [] pl part m = tt
    all_taken (o ∷ os) pl part m =
        let w = whole o m.0 in
        let t = one_taken pl part o w.0 w.1 m.1 in
        rw w.1 (
          t,
          rw (after_taken pl (place o w.0.unit w.0.start w.0.register) t)
              (all_taken os (with_placing pl o (Some w.0)) (added_part pl part o w.0 w.1) (still_missing pl o (Some w.0) os m.2 m.3)),
        )

    next : (pl : Plan) (x : ℕ) (p : Placing) → full.placed x ≡ Some p → (xs : List ℕ) (o : ℕ) → (pl.placed o ≡ full.placed o) ⊎ IsIn o (x ∷ xs) → ((with_placing pl x (Some p)).placed o ≡ full.placed o) ⊎ IsIn o xs
    next pl x p e xs o h = elim (cases_Bool (eqb o x)) [
      | inl z ↦ inl (cond-true (eqb o x) (Some p) (pl.placed o) z ∙ sym e ∙ sym (ap full.placed (eqb-true o x z)))
      | inr z ↦ elim h [
        | inl k ↦ inl (cond-false (eqb o x) (Some p) (pl.placed o) z ∙ k)
        | inr i ↦ elim i [ inl k ↦ absurd (eqb-false o x z k) | inr k ↦ inr k ]
      ]
    ]

    reached : (os : List ℕ) (pl : Plan) → Part pl full → Missing G pl os → (o : ℕ) → (pl.placed o ≡ full.placed o) ⊎ IsIn o os → (run G P pl (calls_of full os)).placed o ≡ full.placed o
    reached [] pl part m o (inl e) = e
    reached [] pl part m o (inr i) = absurd i
    reached (x ∷ xs) pl part m o h =
        let w = whole x m.0 in
        let t = one_taken pl part x w.0 w.1 m.1 in
        let call : Call = place x w.0.unit w.0.start w.0.register in
        let same : after G P pl (place_so x (full.placed x)) ≡ with_placing pl x (Some w.0) = ap (λ z. after G P pl (place_so x z)) w.1 ∙ after_taken pl call t in
        ap (λ q. (run G P q (calls_of full xs)).placed o) same
        ∙ (reached xs (with_placing pl x (Some w.0)) (added_part pl part x w.0 w.1) (still_missing pl x (Some w.0) xs m.2 m.3) o (next pl x w.0 w.1 xs o h))

    pub in_order : (os : List ℕ) (pl : Plan) → Part pl full → Missing G pl os → Order G P pl full os
    in_order os pl part m = record {
      taken = all_taken os pl part m;
      whole = λ named o h. reached os pl part m o (known o (pl.placed o) refl (named o h));
    }
      where
        known : (o : ℕ) (x : Option Placing) → pl.placed o ≡ x → (pl.placed o ≡ None → IsIn o os) → (pl.placed o ≡ full.placed o) ⊎ IsIn o os
        known o None e i = inr (i e)
        known o (Some p) e i = inl (e ∙ sym (part.placings_in o p e))
