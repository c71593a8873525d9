-- What the makers of price lists refuse: the maker's number, and the first row at fault.
use Rattle.std.specs.Prelude.{◌≡◌, ℕ, ◌+◌, ◌-◌, ◌<◌, ◌≤◌, Bool, false, cond, ◌&&◌, ◌||◌, List, length, Some, None, Option, ◌==◌, nat_le, nat_lt, slice_index}
use Rattle.faults.specs.declared.Fault.{Fault}
use Rattle.faults.specs.declared.Fault.TheVariants.{FaultyList}
use Rattle.faults.specs.declared.Maker.TheVariants.{Formula, Table, Grain, Wait}
use Rattle.faults.specs.Faults.{maker_number}
use Rattle.prices.specs.Sums.{or_else, lowest}
use Rattle.prices.specs.Lists.{is_grain}

-- a rate of the formula
abbrev pub is_rate : ℕ → Bool
is_rate n = nat_le 1 n && nat_le n 64

-- the formula's adder rate is row 0, its register rate row 1
abbrev pub formula_fault : ℕ → ℕ → Option Fault
formula_fault a r = cond (is_rate a) (cond (is_rate r) None (Some (FaultyList (maker_number Formula) 1))) (Some (FaultyList (maker_number Formula) 0))

-- a latency that is 0, or below the one before it
abbrev pub falls : List ℕ → ℕ → Bool
falls steps i = slice_index steps i == 0 || nat_lt (slice_index steps i) (slice_index steps (i - 1))

-- every charge has 16 bits
abbrev pub Charges : List ℕ → Type 0
Charges charges = (i : ℕ) → slice_index charges i ≤ 65535

-- every latency is a byte, and none of the 40 is at fault
abbrev pub Rising : List ℕ → Type 0
Rising steps = ((i : ℕ) → slice_index steps i ≤ 255) × ((i : ℕ) → i < 40 → falls steps i ≡ false)

-- the first latency at fault
abbrev pub first_fall : List ℕ → Option ℕ
first_fall steps = lowest (falls steps) (length steps)

-- a table's row, counted from a first one
abbrev pub row_fault : ℕ → Option ℕ → Option Fault
row_fault first None = None
row_fault first (Some i) = Some (FaultyList (maker_number Table) (first + i))

-- a table's latencies of adders are rows 0 to 39, those of multipliers rows 40 to 79
abbrev pub table_fault : List ℕ → List ℕ → Option Fault
table_fault adder_steps multiplier_steps =
    or_else (row_fault 0 (first_fall adder_steps)) (row_fault 40 (first_fall multiplier_steps))

-- the size of a grain is row 0
abbrev pub grain_fault : ℕ → Option Fault
grain_fault g = cond (is_grain g) None (Some (FaultyList (maker_number Grain) 0))

-- the steps of a wait are row 0
abbrev pub wait_fault : ℕ → Option Fault
wait_fault s = cond (nat_le s 16) None (Some (FaultyList (maker_number Wait) 0))
