-- What the hired units of a plan cost.
use Rattle.std.specs.Prelude.{ℕ, ◌+◌, Some, None, Option}
use Rattle.widths.specs.declared.Sides.{Sides}
use Rattle.prices.specs.Sums.{total}
use Rattle.prices.specs.Prices.{Prices, charge}
use Rattle.plans.specs.Plans.{Plan, units, register}

-- the charge of a hired width, 0 where nothing is hired
abbrev pub unit_charge : Prices → ℕ → Option Sides → ℕ
unit_charge P k None = 0
unit_charge P k (Some w) = charge P k w

-- the sum over the hired units of a kind
abbrev pub kind_charge : Prices → Plan → ℕ → ℕ
kind_charge P pl k = total (λ n. unit_charge P k (pl.hired k n)) units

-- adders with multipliers, and registers
abbrev pub plan_charge : Prices → Plan → ℕ × ℕ
plan_charge P pl = (kind_charge P pl 0 + kind_charge P pl 1, kind_charge P pl register)
