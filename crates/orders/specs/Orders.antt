-- What an order says, and the text that answers it.
use Rattle.std.specs.Prelude.{ℕ, ◌+◌, ◌*◌, cond, ◌||◌, List, [], ◌∷◌, ◌++◌, length, take, drop, Some, None, Ok, Err, codes, decimal, Option, Result, ◌==◌, nat_lt, slice_index}
use Rattle.faults.specs.declared.Fault.{Fault}
use Rattle.faults.specs.declared.Fault.TheVariants.{UnknownCommand, CutShort}
use Rattle.faults.specs.Faults.{line_of}
use Rattle.graphs.specs.Graphs.{Graph}
use Rattle.graphs.specs.Scripts.{Format, Script, ends, unknown, short, next, script}
use Rattle.graphs.specs.Reading.{read}
use Rattle.prices.specs.Prices.{Prices}
use Rattle.prices.specs.Lists.{formula}
use Rattle.plans.specs.Plans.{Plan, empty}
use Rattle.plans.specs.Charges.{plan_charge}
use Rattle.plans.specs.Calls.{hire, dismiss, place, lift, verdict, after}
use Rattle.orders.specs.declared.requests.Request.{Request}
use Rattle.orders.specs.declared.requests.Request.TheVariants.{Hire, Dismiss, Place, Lift, Charge}

-- how many operands the request of a byte has
abbrev pub operands : ℕ → Option ℕ
operands b =
    cond (b == 0x20) (Some 4)
    (cond (b == 0x21) (Some 2)
    (cond (b == 0x22) (Some 4)
    (cond (b == 0x23) (Some 1)
    (cond (b == 0x25) (Some 0) None))))

-- the request of a byte, with the operands at the front of bs
abbrev pub request_of : ℕ → List ℕ → Request
request_of b bs =
    cond (b == 0x20) (Hire (slice_index bs 0) (slice_index bs 1) (slice_index bs 2) (slice_index bs 3))
    (cond (b == 0x21) (Dismiss (slice_index bs 0) (slice_index bs 1))
    (cond (b == 0x22) (Place (slice_index bs 0) (slice_index bs 1) (slice_index bs 2) (slice_index bs 3))
    (cond (b == 0x23) (Lift (slice_index bs 0)) Charge)))

abbrev pub order_format : Format Request
order_format = record { operands = operands; command = request_of }

-- a call is answered `ok`, or by the line of its refusal
abbrev pub reply : Option Fault → List ℕ
reply None = codes "ok"
reply (Some f) = line_of f

abbrev pub charge_text : ℕ × ℕ → List ℕ
charge_text c = codes "charge " ++ (decimal c.0 ++ (codes " " ++ decimal c.1))

-- the line that answers a request
abbrev pub answer_to : Graph → Prices → Plan → Request → List ℕ
answer_to G P pl (Hire k n w v) = reply (verdict G P pl (hire k n w v))
answer_to G P pl (Dismiss k n) = reply (verdict G P pl (dismiss k n))
answer_to G P pl (Place o u s r) = reply (verdict G P pl (place o u s r))
answer_to G P pl (Lift o) = reply (verdict G P pl (lift o))
answer_to G P pl Charge = charge_text (plan_charge P pl)

-- the plan after a request
abbrev pub plan_then : Graph → Prices → Plan → Request → Plan
plan_then G P pl (Hire k n w v) = after G P pl (hire k n w v)
plan_then G P pl (Dismiss k n) = after G P pl (dismiss k n)
plan_then G P pl (Place o u s r) = after G P pl (place o u s r)
plan_then G P pl (Lift o) = after G P pl (lift o)
plan_then G P pl Charge = pl

abbrev pub line : List ℕ → List ℕ
line bs = bs ++ 10 ∷ []

-- the lines of the requests from a position on; one that is unknown or cut short ends them after its own line
unfoldable pub answers : Graph → Prices → Plan → ℕ → Script Request → List ℕ
answers G P pl at ends = []
answers G P pl at unknown = line (line_of (UnknownCommand at))
answers G P pl at short = line (line_of (CutShort at))
answers G P pl at (next r n rest) = line (answer_to G P pl r) ++ answers G P (plan_then G P pl r) (at + n) rest

-- the lines of the bytes behind a position
abbrev pub answers_from : Graph → Prices → Plan → List ℕ → ℕ → List ℕ
answers_from G P pl bs at = answers G P pl at (script order_format 0 (drop at bs))

-- the sheet's length, in two bytes, high first
abbrev pub sheet_length : List ℕ → ℕ
sheet_length bs = slice_index bs 0 * 256 + slice_index bs 1

-- a refused sheet is the only line; over a sheet that is read, the requests behind it meet an empty plan, and both rates are 1
abbrev pub opened : Result Graph Fault → List ℕ → ℕ → List ℕ
opened (Err f) bs behind = line (line_of f)
opened (Ok G) bs behind = answers_from G (formula 1 1) empty bs behind

-- the text that answers an order: 2 at place 0 where the length or the sheet is cut short
abbrev pub order_text : List ℕ → List ℕ
order_text bs =
    cond (nat_lt (length bs) 2 || nat_lt (length bs) (sheet_length bs + 2))
    (line (line_of (CutShort 0)))
    (opened (read (take (sheet_length bs) (drop 2 bs))) bs (sheet_length bs + 2))

-- how many bytes of an order count
abbrev pub most_bytes : ℕ
most_bytes = 2048
