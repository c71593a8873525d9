-- The plan that a board's tables hold.
use Rattle.std.specs.Prelude.{ℕ, cond, None, Option, ◌==◌, slice_index_or, slice_set}
use Rattle.std.specs.Option.{option_map}
use Rattle.widths.specs.declared.Sides.{Sides}
use Rattle.widths.specs.Kinds.{sides_of}
use Rattle.plans.specs.declared.Placing.{Placing}
use Rattle.plans.specs.Plans.{Plan}
use Rattle.board.specs.declared.tables.Tables.{Tables}

-- a width of one side, and one of two
abbrev pub one_side : Option ℕ → Option Sides
one_side u = option_map (λ w. sides_of w 0) u

abbrev pub two_sides : Option (ℕ × ℕ) → Option Sides
two_sides u = option_map (λ w. sides_of w.0 w.1) u

-- the width of the unit of a kind with a number, if it is hired
abbrev pub hired_in : Tables → ℕ → ℕ → Option Sides
hired_in t k n =
    cond (k == 0) (one_side (slice_index_or t.adders n None))
    (cond (k == 1) (two_sides (slice_index_or t.multipliers n None))
    (cond (k == 2) (one_side (slice_index_or t.registers n None)) None))

-- the tables with this placing, or none, at an operation's number
abbrev pub with_entry : Tables → ℕ → Option Placing → Tables
with_entry t o p = record { adders = t.adders; multipliers = t.multipliers; registers = t.registers; placings = slice_set t.placings o p }

abbrev pub plan_of : Tables → Plan
plan_of t = record { hired = hired_in t; placed = λ o. slice_index_or t.placings o None }
