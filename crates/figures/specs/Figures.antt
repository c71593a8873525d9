-- The worked figures.
use Rattle.std.specs.Prelude.{◌≡◌, ℕ, ◌^◌, List, [], ◌∷◌, pos, negsuc, Ok}
use Rattle.widths.specs.Kinds.{sides_of, cell_count}
use Rattle.words.specs.Cut.{cut_to}
use Rattle.prices.specs.Prices.{Prices, charge, latency}
use Rattle.prices.specs.Lists.{formula, grained, waiting}
use Rattle.graphs.specs.Graphs.{Graph}
use Rattle.graphs.specs.Reading.{read}
use Rattle.graphs.specs.Values.{output_values}
use Rattle.figures.specs.Runs.{LongRun, Lengthened}
use Rattle.graphs.specs.declared.Source.TheVariants.{Input}
use Rattle.graphs.specs.declared.Operand.{Operand}
use Rattle.graphs.specs.declared.Operation.TheVariants.{Add}

abbrev pub Cuts : Type 0
Cuts = (cut_to (negsuc 4) 1 3 ≡ negsuc 2) × (cut_to (pos 6) 0 3 ≡ negsuc 1) × (cut_to (pos (2 ^ 62)) 63 8 ≡ pos 0)

abbrev pub Cells : Type 0
Cells = (cell_count 0 ≡ 40) × (cell_count 1 ≡ 960) × (cell_count 2 ≡ 64)

-- the formula list with both rates 1
abbrev pub plain : Prices
plain = formula 1 1

-- multipliers: what (33, 21) costs, with grain 4 too, and how long some widths take, with wait 3 too
abbrev pub Priced : Type 0
Priced =
    (latency plain 1 (sides_of 19 17) ≡ 5)
    × (latency plain 1 (sides_of 40 24) ≡ 8)
    × (latency plain 1 (sides_of 1 1) ≡ 1)
    × (charge plain 1 (sides_of 33 21) ≡ 693)
    × (charge (grained 4 plain) 1 (sides_of 33 21) ≡ 864)
    × (latency (waiting 3 plain) 1 (sides_of 33 21) ≡ 10)

-- two steps, two inputs of 8 bits, and their sum of 8 bits as the output
abbrev pub worked_sheet : List ℕ
worked_sheet = 0x10 ∷ 0x02 ∷ 0x11 ∷ 0x08 ∷ 0x11 ∷ 0x08 ∷ 0x12 ∷ 0x08 ∷ 0x00 ∷ 0x00 ∷ 0x01 ∷ 0x00 ∷ 0x14 ∷ 0x40 ∷ 0x1F ∷ []

abbrev pub from_input : ℕ → Operand
from_input i = record { source = Input i; drop = 0 }

abbrev pub worked_graph : Graph
worked_graph = record { limit = 2; inputs = 8 ∷ 8 ∷ []; operations = Add 8 (from_input 0) (from_input 1) ∷ []; outputs = 0 ∷ [] }

-- 100 and 100 give -56
abbrev pub Worked : Type 0
Worked = (read worked_sheet ≡ Ok worked_graph) × (output_values worked_graph (pos 100 ∷ pos 100 ∷ []) ≡ negsuc 55 ∷ [])

-- what the definitions of calls answer, call by call
abbrev pub Called : Type 0
Called = LongRun × Lengthened

pub record Figures : Type 0 where
  pub cuts : Cuts
  pub cells : Cells
  pub priced : Priced
  pub worked : Worked
  pub called : Called
