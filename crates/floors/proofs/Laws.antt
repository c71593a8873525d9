-- The law, from its parts.
use Rattle.std.proofs.Common.{◌≡◌, ℕ, ◌+◌, ◌≤◌, Some, None, Ok, Err, Option, refl, arith}
use Rattle.faults.specs.declared.Fault.{Fault}
use Rattle.faults.specs.declared.Fault.TheVariants.{NoTime}
use Rattle.graphs.specs.Graphs.{Graph, WellFormed, count}
use Rattle.prices.specs.Prices.{Prices, Sound}
use Rattle.prices.proofs.Searches.{lowest_none, lowest_some}
use Rattle.plans.specs.Plans.{Plan, Lawful, Complete, start_of}
use Rattle.plans.specs.Charges.{plan_charge}
use Rattle.plans.proofs.Rules.{rules, lawful}
use Rattle.floors.specs.Spans.{out_of_time}
use Rattle.floors.specs.Floors.{kind_floor, first_out_of_time, floor_unless, floor_answer}
use Rattle.floors.specs.Law.{FloorLaw, Law}
use Rattle.floors.proofs.Times.{timed, from_earliest, to_latest, late_true, late_false}
use Rattle.floors.proofs.Undercut.{floor_le}
use Rattle.floors.proofs.Own.{feasible}
use Rattle.floors.proofs.Equations.{spans_law}

module _ (G : Graph) (P : Prices) (wf : WellFormed G) (sound : Sound P) where
  none_late : (pl : Plan) → Lawful G P pl → Complete G pl → (o : ℕ) → first_out_of_time G P ≡ Some o → ⊥
  none_late pl law full o e =
      let l = lowest_some (out_of_time G P) (count G) o e in
      let t = timed G P pl wf sound (rules G P pl sound law) full in
      omega (arith, late_true G P o l.1, from_earliest G P (λ x. start_of (pl.placed x)) wf t o l.0, to_latest G P (λ x. start_of (pl.placed x)) wf t o l.0)

  floor_law : FloorLaw G P
  unfolding floor_answer
  floor_law = record {
    refused = λ f e pl law full. refusing (first_out_of_time G P) f refl e pl law full;
    exact = λ none. other (first_out_of_time G P) refl none;
    under_none = λ n e pl law full. amounts (first_out_of_time G P) n refl e pl law full;
  }
    where
      refusing : (x : Option ℕ) (f : Fault) → first_out_of_time G P ≡ x → floor_unless G P x ≡ Err f → (pl : Plan) → Lawful G P pl → Complete G pl → ⊥
      refusing (Some i) f l e pl law full = none_late pl law full i l
      refusing None f l e pl law full = let z : ◌≡◌ {A = ℕ} 0 1 = cc in omega arith

      other : (x : Option ℕ) → first_out_of_time G P ≡ x → ((pl : Plan) → Lawful G P pl → Complete G pl → ⊥) → (o : ℕ) × (floor_unless G P x ≡ Err (NoTime o))
      other (Some i) l none = (i, refl)
      other None l none =
          let f = feasible G P wf (λ o h. late_false G P o (lowest_none (out_of_time G P) (count G) l o h)) in
          absurd (none f.0 (lawful G P f.0 f.1) f.2)

      amounts : (x : Option ℕ) (n : ℕ) → first_out_of_time G P ≡ x → floor_unless G P x ≡ Ok n → (pl : Plan) → Lawful G P pl → Complete G pl → n ≤ (plan_charge P pl).0
      amounts (Some i) n l e pl law full = let z : ◌≡◌ {A = ℕ} 0 1 = cc in absurd (omega arith)
      amounts None n l e pl law full =
          let q : kind_floor G P 0 + kind_floor G P 1 ≡ n = cc in
          let r = rules G P pl sound law in
          omega (arith, q, floor_le G P pl wf sound r full 0, floor_le G P pl wf sound r full 1)

pub law : Law
law G P wf sound = (spans_law G P wf, floor_law G P wf sound)
