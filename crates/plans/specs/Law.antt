-- The law of the board, over every graph, every sound price list and every list of calls.
use Rattle.std.specs.Prelude.{◌≡◌, ℕ, ◌<◌, ◌⊎◌, List, [], ◌∷◌, Some, None, Option, ◌≢◌}
use Rattle.graphs.specs.Graphs.{Graph, WellFormed, count}
use Rattle.prices.specs.Prices.{Prices, Sound}
use Rattle.plans.specs.declared.Placing.{Placing}
use Rattle.plans.specs.Plans.{Plan, Lawful, Complete}
use Rattle.plans.specs.Calls.{Call, place, lift, verdict, after, run, plan_after}

-- pl has the units of full, and placings of full alone
pub record Part (pl full : Plan) : Type 0 where
  pub units_same : (k n : ℕ) → pl.hired k n ≡ full.hired k n
  pub placings_in : (o : ℕ) (p : Placing) → pl.placed o ≡ Some p → full.placed o ≡ Some p

abbrev pub NotIn : ℕ → List ℕ → Type 0
NotIn o [] = Unit {0}
NotIn o (x ∷ xs) = (o ≢ x) × NotIn o xs

abbrev pub IsIn : ℕ → List ℕ → Type 0
IsIn o [] = ⊥
IsIn o (x ∷ xs) = (o ≡ x) ⊎ IsIn o xs

-- different operations that the plan does not place, in some order
abbrev pub Missing : Graph → Plan → List ℕ → Type 0
Missing G pl [] = Unit {0}
Missing G pl (o ∷ os) = (o < count G) × (pl.placed o ≡ None) × NotIn o os × Missing G pl os

-- the call that places an operation as a plan has it
abbrev pub place_so : ℕ → Option Placing → Call
place_so o None = lift o
place_so o (Some p) = place o p.unit p.start p.register

abbrev pub calls_of : Plan → List ℕ → List Call
calls_of full [] = []
calls_of full (o ∷ os) = place_so o (full.placed o) ∷ calls_of full os

-- placing them one after the other as in the full plan is taken each time
abbrev pub Taken : Graph → Prices → Plan → Plan → List ℕ → Type 0
Taken G P full pl [] = Unit {0}
Taken G P full pl (o ∷ os) = (verdict G P pl (place_so o (full.placed o)) ≡ None) × Taken G P full (after G P pl (place_so o (full.placed o))) os

-- any order of the missing placings is taken, and if none is left out the full plan is reached
pub record Order (G : Graph) (P : Prices) (pl full : Plan) (os : List ℕ) : Type 0 where
  pub taken : Taken G P full pl os
  pub whole : ((o : ℕ) → o < count G → pl.placed o ≡ None → IsIn o os) → (o : ℕ) → o < count G → (run G P pl (calls_of full os)).placed o ≡ full.placed o

pub record BoardLaw (G : Graph) (P : Prices) : Type 0 where
  -- nothing unlawful is ever held
  pub lawful : (cs : List Call) → Lawful G P (plan_after G P cs)
  -- a lawful plan can be entered in any order
  pub order : (cs : List Call) (full : Plan) → Lawful G P full → Complete G full → Part (plan_after G P cs) full → (os : List ℕ) → Missing G (plan_after G P cs) os → Order G P (plan_after G P cs) full os

abbrev pub Law : Type 0
Law = (G : Graph) (P : Prices) → WellFormed G → Sound P → BoardLaw G P
