-- The four calls that change a board: what each is refused for, and the plan afterwards.
use Rattle.std.specs.Prelude.{ℕ, Bool, false, cond, not, ◌&&◌, ◌||◌, List, [], ◌∷◌, is_some, Some, None, Option, ◌==◌, nat_le, nat_lt}
use Rattle.std.specs.Option.{option_map}
use Rattle.faults.specs.declared.Fault.{Fault}
use Rattle.faults.specs.declared.Fault.TheVariants.{CallOutOfRange, AlreadyThere, NotThere, StillServing, TooNarrow, TooLate, NotReady, UnitBusy, RegisterBusy}
use Rattle.widths.specs.declared.Sides.{Sides}
use Rattle.widths.specs.Kinds.{sides_of, first_side, second_side}
use Rattle.graphs.specs.Graphs.{Graph, count}
use Rattle.prices.specs.Sums.{any, flag, lowest, first_of}
use Rattle.prices.specs.Prices.{Prices}
use Rattle.plans.specs.declared.Placing.{Placing}
use Rattle.plans.specs.declared.Life.{Life}
use Rattle.plans.specs.Plans.{Plan, empty, kind_at, own_at, value_at, reads, units, register, wide, finish, last}

pub data Call : Type 0 where
  hire : ℕ → ℕ → ℕ → ℕ → Call
  dismiss : ℕ → ℕ → Call
  place : ℕ → ℕ → ℕ → ℕ → Call
  lift : ℕ → Call

abbrev pub with_unit : Plan → ℕ → ℕ → Option Sides → Plan
with_unit pl k n u = record { hired = λ i j. cond (i == k && j == n) u (pl.hired i j); placed = pl.placed }

abbrev pub with_placing : Plan → ℕ → Option Placing → Plan
with_placing pl o p = record { hired = pl.hired; placed = λ x. cond (x == o) p (pl.placed x) }

abbrev pub placing : ℕ → ℕ → ℕ → Placing
placing u s r = record { unit = u; start = s; register = r }

-- the unit serves an operation that is placed so
abbrev pub serves : Graph → ℕ → ℕ → ℕ → Option Placing → Bool
serves G k n o None = false
serves G k n o (Some p) = (kind_at G o == k && p.unit == n) || (register == k && p.register == n)

-- o, placed at p, and e, placed so, start before an operand of theirs among the two finishes
abbrev pub disorder : Graph → Prices → Plan → ℕ → Placing → ℕ → Option Placing → Bool
disorder G P pl o p e None = false
disorder G P pl o p e (Some q) = (reads G o e && nat_lt p.start (finish G P pl e q)) || (reads G e o && nat_lt q.start (finish G P pl o p))

-- their runs overlap on one unit
abbrev pub crowding : Graph → Prices → Plan → ℕ → Placing → ℕ → Option Placing → Bool
crowding G P pl o p e None = false
crowding G P pl o p e (Some q) = (kind_at G e == kind_at G o && q.unit == p.unit) && (nat_lt p.start (finish G P pl e q) && nat_lt q.start (finish G P pl o p))

-- the register of an operation that is placed so, and the steps of its life
abbrev pub life : Graph → Prices → Plan → ℕ → Option Placing → Option Life
life G P pl o None = None
life G P pl o (Some p) = Some (record { register = p.register; from = finish G P pl o p; through = last G P pl o p })

-- two lives share a step in register r
abbrev pub meet : ℕ → Option Life → Option Life → Bool
meet r None y = false
meet r (Some x) None = false
meet r (Some x) (Some y) = (x.register == r && y.register == r) && (nat_le x.from y.through && nat_le y.from x.through)

abbrev pub sharing : Graph → Prices → Plan → ℕ → ℕ → ℕ → Option Placing → Option Placing → Bool
sharing G P pl r x y p q = meet r (life G P pl x p) (life G P pl y q)

-- some two lives share a step in register r
abbrev pub clash : Graph → Prices → Plan → ℕ → Bool
clash G P pl r = any (λ x. any (λ y. sharing G P pl r x y (pl.placed x) (pl.placed y)) x) (count G)

-- The causes of each call, in number order and lowest operand first.

abbrev pub hire_causes : Plan → ℕ → ℕ → ℕ → ℕ → List (Option Fault)
hire_causes pl k n w v =
    flag (nat_lt 2 k) (CallOutOfRange 0)
    ∷ flag (nat_le 64 n) (CallOutOfRange 1)
    ∷ flag (not (first_side k w)) (CallOutOfRange 2)
    ∷ flag (not (second_side k w v)) (CallOutOfRange 3)
    ∷ flag (is_some (pl.hired k n)) (AlreadyThere 1)
    ∷ []

abbrev pub dismiss_causes : Graph → Plan → ℕ → ℕ → List (Option Fault)
dismiss_causes G pl k n =
    flag (nat_lt 2 k) (CallOutOfRange 0)
    ∷ flag (nat_le 64 n) (CallOutOfRange 1)
    ∷ flag (not (is_some (pl.hired k n))) (NotThere 1)
    ∷ option_map StillServing (lowest (λ o. serves G k n o (pl.placed o)) (count G))
    ∷ []

abbrev pub place_causes : Graph → Prices → Plan → ℕ → Placing → List (Option Fault)
place_causes G P pl o p =
    flag (nat_le (count G) o) (CallOutOfRange 0)
    ∷ flag (nat_le 64 p.unit) (CallOutOfRange 1)
    ∷ flag (nat_le 64 p.register) (CallOutOfRange 3)
    ∷ flag (is_some (pl.placed o)) (AlreadyThere 0)
    ∷ flag (not (is_some (pl.hired (kind_at G o) p.unit))) (NotThere 1)
    ∷ flag (not (is_some (pl.hired register p.register))) (NotThere 3)
    ∷ flag (not (wide (pl.hired (kind_at G o) p.unit) (own_at G o))) (TooNarrow 1)
    ∷ flag (not (wide (pl.hired register p.register) (value_at G o))) (TooNarrow 3)
    ∷ flag (nat_lt G.limit (finish G P pl o p)) (TooLate (finish G P pl o p))
    ∷ option_map NotReady (lowest (λ e. disorder G P pl o p e (pl.placed e)) (count G))
    ∷ option_map UnitBusy (lowest (λ e. crowding G P pl o p e (pl.placed e)) (count G))
    ∷ option_map RegisterBusy (lowest (clash G P (with_placing pl o (Some p))) units)
    ∷ []

abbrev pub lift_causes : Graph → Plan → ℕ → List (Option Fault)
lift_causes G pl o =
    flag (nat_le (count G) o) (CallOutOfRange 0)
    ∷ flag (not (is_some (pl.placed o))) (NotThere 0)
    ∷ []

abbrev pub causes : Graph → Prices → Plan → Call → List (Option Fault)
causes G P pl (hire k n w v) = hire_causes pl k n w v
causes G P pl (dismiss k n) = dismiss_causes G pl k n
causes G P pl (place o u s r) = place_causes G P pl o (placing u s r)
causes G P pl (lift o) = lift_causes G pl o

-- the first cause that a call meets on the plan so far
abbrev pub verdict : Graph → Prices → Plan → Call → Option Fault
verdict G P pl c = first_of (causes G P pl c)

-- the plan after a call that is taken
abbrev pub made : Plan → Call → Plan
made pl (hire k n w v) = with_unit pl k n (Some (sides_of w v))
made pl (dismiss k n) = with_unit pl k n None
made pl (place o u s r) = with_placing pl o (Some (placing u s r))
made pl (lift o) = with_placing pl o None

abbrev pub settled : Option Fault → Plan → Plan → Plan
settled None new old = new
settled (Some f) new old = old

-- the plan after a call, taken or sent back
abbrev pub after : Graph → Prices → Plan → Call → Plan
after G P pl c = settled (verdict G P pl c) (made pl c) pl

abbrev pub run : Graph → Prices → Plan → List Call → Plan
run G P pl [] = pl
run G P pl (c ∷ cs) = run G P (after G P pl c) cs

-- the plan after a list of calls, from the empty one
abbrev pub plan_after : Graph → Prices → List Call → Plan
plan_after G P cs = run G P empty cs
