-- The floor: a charge that no complete lawful plan undercuts.
use Rattle.std.specs.Prelude.{ℕ, ◌+◌, ◌-◌, ◌*◌, ◌/◌, min, max, Bool, cond, ◌&&◌, Some, None, Ok, Err, Option, Result, ◌==◌}
use Rattle.faults.specs.declared.Fault.{Fault}
use Rattle.faults.specs.declared.Fault.TheVariants.{NoTime}
use Rattle.widths.specs.declared.Sides.{Sides}
use Rattle.widths.specs.Kinds.{lies_under}
use Rattle.graphs.specs.Graphs.{Graph, count}
use Rattle.prices.specs.Sums.{total, most, lowest}
use Rattle.prices.specs.Prices.{Prices, cell_charge, over}
use Rattle.plans.specs.Plans.{kind_at, own_at}
use Rattle.floors.specs.Spans.{own_steps, earliest, latest_step, out_of_time}

-- how many steps of the window from a up to but not including b a run of l steps from s takes
unfoldable pub overlap : ℕ → ℕ → ℕ → ℕ → ℕ
overlap a b s l = min b (s + l) - max a s

-- the smaller overlap with a run of own latency begun at the earliest or at the latest step
abbrev pub least_overlap : Graph → Prices → ℕ → ℕ → ℕ → ℕ
least_overlap G P a b o = min (overlap a b (earliest G P o) (own_steps G P o)) (overlap a b (latest_step G P o) (own_steps G P o))

-- the operation is of the kind, and the cell lies under its width
abbrev pub counts : Graph → ℕ → Sides → ℕ → Bool
counts G k c o = kind_at G o == k && lies_under c (own_at G o)

-- the need of a cell in a window
unfoldable pub need : Graph → Prices → ℕ → Sides → ℕ → ℕ → ℕ
need G P k c a b = total (λ o. cond (counts G k c o) (least_overlap G P a b o) 0) (count G)

-- n / d, rounded up
abbrev pub divided_up : ℕ → ℕ → ℕ
divided_up n d = (n + (d - 1)) / d

-- the peak of a cell: the largest, over the windows from a of 1 step and more up to the limit, of need / length rounded up
unfoldable pub peak : Graph → Prices → ℕ → Sides → ℕ
peak G P k c = most (λ a. most (λ j. divided_up (need G P k c a (a + (j + 1))) (j + 1)) (G.limit - a)) G.limit

-- charge times peak, over all cells of a kind
unfoldable pub kind_floor : Graph → Prices → ℕ → ℕ
kind_floor G P k = over k (λ c. cell_charge P k c * peak G P k c)

-- the lowest operation whose earliest step lies above its latest
abbrev pub first_out_of_time : Graph → Prices → Option ℕ
first_out_of_time G P = lowest (out_of_time G P) (count G)

abbrev pub floor_unless : Graph → Prices → Option ℕ → Result ℕ Fault
floor_unless G P (Some o) = Err (NoTime o)
floor_unless G P None = Ok (kind_floor G P 0 + kind_floor G P 1)

-- the floor, over all adder and multiplier cells; or the refusal
unfoldable pub floor_answer : Graph → Prices → Result ℕ Fault
floor_answer G P = floor_unless G P (first_out_of_time G P)
