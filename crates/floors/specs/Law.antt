-- The law of the floor, over every graph and every sound price list.
use Rattle.std.specs.Prelude.{◌≡◌, ℕ, ◌+◌, ◌<◌, ◌≤◌, pos, ◌-ℤ◌, Ok, Err}
use Rattle.faults.specs.declared.Fault.{Fault}
use Rattle.faults.specs.declared.Fault.TheVariants.{NoTime}
use Rattle.graphs.specs.Graphs.{Graph, WellFormed, count}
use Rattle.prices.specs.Prices.{Prices, Sound}
use Rattle.plans.specs.Plans.{Plan, Lawful, Complete}
use Rattle.plans.specs.Charges.{plan_charge}
use Rattle.floors.specs.Spans.{own_steps, earliest, latest, after_operands, before_readers}
use Rattle.floors.specs.Floors.{floor_answer}

-- earliest steps follow from the operands', latest steps from the readers'
pub record SpansLaw (G : Graph) (P : Prices) : Type 0 where
  pub earliest_is : (o : ℕ) → o < count G → earliest G P o ≡ after_operands G (λ e. earliest G P e + own_steps G P e) o
  pub latest_is : (o : ℕ) → o < count G → latest G P o ≡ before_readers G (latest G P) o -ℤ pos (own_steps G P o)

pub record FloorLaw (G : Graph) (P : Prices) : Type 0 where
  -- refused, so there is no complete lawful plan
  pub refused : (f : Fault) → floor_answer G P ≡ Err f → (pl : Plan) → Lawful G P pl → Complete G pl → ⊥
  -- there is none, so it is refused
  pub exact : ((pl : Plan) → Lawful G P pl → Complete G pl → ⊥) → (o : ℕ) × (floor_answer G P ≡ Err (NoTime o))
  -- no complete lawful plan's adders and multipliers charge less
  pub under_none : (n : ℕ) → floor_answer G P ≡ Ok n → (pl : Plan) → Lawful G P pl → Complete G pl → n ≤ (plan_charge P pl).0

abbrev pub Law : Type 0
Law = (G : Graph) (P : Prices) → WellFormed G → Sound P → SpansLaw G P × FloorLaw G P
