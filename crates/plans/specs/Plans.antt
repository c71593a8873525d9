-- Plans: what is hired and what is placed, and when that is lawful.
use Rattle.std.specs.Prelude.{◌≡◌, ℕ, ◌+◌, ◌<◌, ◌≤◌, max, Bool, true, false, cond, ◌||◌, length, Some, None, Option, ◌==◌, nat_eq, slice_index}
use Rattle.widths.specs.declared.Sides.{Sides}
use Rattle.widths.specs.Kinds.{sides_of, covers, valid}
use Rattle.graphs.specs.declared.Source.{Source}
use Rattle.graphs.specs.declared.Source.TheVariants.{Input, Earlier}
use Rattle.graphs.specs.declared.Operation.{Operation}
use Rattle.graphs.specs.declared.Operation.TheVariants.{Add, Multiply}
use Rattle.graphs.specs.Graphs.{Graph, operation_at, count, kind_of, width_of, value_width}
use Rattle.prices.specs.Sums.{most, any}
use Rattle.prices.specs.Prices.{Prices, latency}
use Rattle.plans.specs.declared.Placing.{Placing}

-- the kind of unit that operation o runs on, and its own width
abbrev pub kind_at : Graph → ℕ → ℕ
kind_at G o = kind_of (operation_at G o)

abbrev pub own_at : Graph → ℕ → Sides
own_at G o = width_of (operation_at G o)

-- the width of its value, as a register's
unfoldable pub value_at : Graph → ℕ → Sides
value_at G o = sides_of (value_width (operation_at G o)) 0

abbrev pub names : Source → ℕ → Bool
names (Input i) e = false
names (Earlier x) e = x == e

abbrev pub operation_reads : Operation → ℕ → Bool
operation_reads (Add p a b) e = names a.source e || names b.source e
operation_reads (Multiply p q a b) e = names a.source e || names b.source e

-- operation r has operation e as a source
unfoldable pub reads : Graph → ℕ → ℕ → Bool
reads G r e = operation_reads (operation_at G r) e

-- operation o is an output
unfoldable pub is_output : Graph → ℕ → Bool
is_output G o = any (λ k. nat_eq (slice_index G.outputs k) o) (length G.outputs)

-- how many units of a kind there can be; shut, so that searches over them do not unroll
unfoldable pub units : ℕ
units = 64

-- the kind of registers
abbrev pub register : ℕ
register = 2

-- the width of the unit of a kind with a number, if it is hired; and the placing of an operation, if it has one
pub record Plan : Type 0 where
  pub hired : ℕ → ℕ → Option Sides
  pub placed : ℕ → Option Placing

-- nothing hired, nothing placed
abbrev pub empty : Plan
empty = record { hired = λ k n. None; placed = λ o. None }

-- a hired width, if any, covers another
abbrev pub wide : Option Sides → Sides → Bool
wide None v = false
wide (Some w) v = covers w v

abbrev pub start_of : Option Placing → ℕ
start_of None = 0
start_of (Some p) = p.start

-- the latency of a hired width, 0 where nothing is hired
abbrev pub steps_of : Prices → ℕ → Option Sides → ℕ
steps_of P k None = 0
steps_of P k (Some w) = latency P k w

-- an operation that is placed so finishes at its start plus the latency of its unit's width
unfoldable pub finish_with : Graph → Prices → (ℕ → ℕ → Option Sides) → ℕ → Placing → ℕ
finish_with G P hired o p = p.start + steps_of P (kind_at G o) (hired (kind_at G o) p.unit)

abbrev pub finish : Graph → Prices → Plan → ℕ → Placing → ℕ
finish G P pl o p = finish_with G P pl.hired o p

-- the last step of its value's life: the last start of a placed reader, the limit for an output, and at least the finish
unfoldable pub last : Graph → Prices → Plan → ℕ → Placing → ℕ
last G P pl o p =
    max (finish G P pl o p)
    (max (most (λ r. cond (reads G r o) (start_of (pl.placed r)) 0) (count G))
    (cond (is_output G o) G.limit 0))

-- the operation runs at step t
pub record Runs (G : Graph) (P : Prices) (pl : Plan) (o : ℕ) (p : Placing) (t : ℕ) : Type 0 where
  pub begun : p.start ≤ t
  pub unfinished : t < finish G P pl o p

-- its value is alive at step t
pub record Alive (G : Graph) (P : Prices) (pl : Plan) (o : ℕ) (p : Placing) (t : ℕ) : Type 0 where
  pub finished : finish G P pl o p ≤ t
  pub wanted : t ≤ last G P pl o p

-- every operation is placed
abbrev pub Complete : Graph → Plan → Type 0
Complete G pl = (o : ℕ) → o < count G → (p : Placing) × (pl.placed o ≡ Some p)

-- the unit with this number is hired with a width that covers v
abbrev pub Covered : Plan → ℕ → ℕ → Sides → Type 0
Covered pl k n v = (w : Sides) × (pl.hired k n ≡ Some w) × (covers w v ≡ true)

pub record Lawful (G : Graph) (P : Prices) (pl : Plan) : Type 0 where
  -- a plan: units of the three kinds with widths of theirs, and placings of the graph's operations
  pub units_there : (k n : ℕ) (w : Sides) → pl.hired k n ≡ Some w → (k ≤ 2) × (n < units) × (valid k w ≡ true)
  pub placings_there : (o : ℕ) (p : Placing) → pl.placed o ≡ Some p → o < count G
  -- the unit covers the operation, and the register its value
  pub unit_covers : (o : ℕ) (p : Placing) → pl.placed o ≡ Some p → Covered pl (kind_at G o) p.unit (own_at G o)
  pub register_covers : (o : ℕ) (p : Placing) → pl.placed o ≡ Some p → Covered pl register p.register (value_at G o)
  -- it finishes within the limit
  pub in_time : (o : ℕ) (p : Placing) → pl.placed o ≡ Some p → finish G P pl o p ≤ G.limit
  -- no reader starts before its operand finishes
  pub operands_first : (o r : ℕ) (p q : Placing) → pl.placed o ≡ Some p → pl.placed r ≡ Some q → reads G r o ≡ true → finish G P pl o p ≤ q.start
  -- no two operations run on one unit at one step
  pub runs_apart : (o r : ℕ) (p q : Placing) (t : ℕ) → pl.placed o ≡ Some p → pl.placed r ≡ Some q → kind_at G o ≡ kind_at G r → p.unit ≡ q.unit → Runs G P pl o p t → Runs G P pl r q t → o ≡ r
  -- no two values are alive in one register at one step
  pub lives_apart : (o r : ℕ) (p q : Placing) (t : ℕ) → pl.placed o ≡ Some p → pl.placed r ≡ Some q → p.register ≡ q.register → Alive G P pl o p t → Alive G P pl r q t → o ≡ r
