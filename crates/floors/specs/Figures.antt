-- Worked figures of the floor.
use Rattle.std.specs.Prelude.{◌≡◌, ℕ, [], ◌∷◌, Ok, Err}
use Rattle.faults.specs.declared.Fault.TheVariants.{NoTime}
use Rattle.prices.specs.Prices.{Prices}
use Rattle.prices.specs.Lists.{formula}
use Rattle.graphs.specs.Graphs.{Graph}
use Rattle.floors.specs.Floors.{floor_answer}
use Rattle.graphs.specs.declared.Source.TheVariants.{Input}
use Rattle.graphs.specs.declared.Operand.{Operand}
use Rattle.graphs.specs.declared.Operation.TheVariants.{Add}

-- the formula list with both rates 1
abbrev pub plain : Prices
plain = formula 1 1

abbrev pub from_input : ℕ → Operand
from_input i = record { source = Input i; drop = 0 }

-- two steps, two inputs of 8 bits, and their sum of 8 bits as the output
abbrev pub one_sum : Graph
one_sum = record { limit = 2; inputs = 8 ∷ 8 ∷ []; operations = Add 8 (from_input 0) (from_input 1) ∷ []; outputs = 0 ∷ [] }

-- independent additions of widths 8 and 4 within a limit
abbrev pub two_sums : ℕ → Graph
two_sums limit = record { limit = limit; inputs = 8 ∷ 8 ∷ []; operations = Add 8 (from_input 0) (from_input 1) ∷ Add 4 (from_input 0) (from_input 1) ∷ []; outputs = 0 ∷ 1 ∷ [] }

-- what no plan undercuts: with two steps each sum needs an adder of its own, with four they can share one
abbrev pub Floored : Type 0
Floored =
    (floor_answer (two_sums 2) plain ≡ Ok 12)
    × (floor_answer (two_sums 3) plain ≡ Ok 12)
    × (floor_answer (two_sums 4) plain ≡ Ok 8)
    × (floor_answer (two_sums 1) plain ≡ Err (NoTime 0))
    × (floor_answer one_sum plain ≡ Ok 8)
