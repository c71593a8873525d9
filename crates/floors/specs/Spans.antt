-- Spans: between which steps an operation can start, each operation taking the steps of its own width.
use Rattle.std.specs.Prelude.{ℕ, zero, suc, ◌+◌, max, Bool, cond, ℤ, pos, negsuc, ◌-ℤ◌, int_lt}
use Rattle.std.specs.Int.{int_min}
use Rattle.graphs.specs.declared.Source.{Source}
use Rattle.graphs.specs.declared.Source.TheVariants.{Input, Earlier}
use Rattle.graphs.specs.declared.Operation.{Operation}
use Rattle.graphs.specs.declared.Operation.TheVariants.{Add, Multiply}
use Rattle.graphs.specs.Graphs.{Graph, operation_at, count}
use Rattle.prices.specs.Prices.{Prices, latency}
use Rattle.plans.specs.Plans.{kind_at, own_at, reads}

-- the latency of an operation's own width
unfoldable pub own_steps : Graph → Prices → ℕ → ℕ
own_steps G P o = latency P (kind_at G o) (own_at G o)

-- where its operands come from
abbrev pub first_source : Operation → Source
first_source (Add p a b) = a.source
first_source (Multiply p q a b) = a.source

abbrev pub second_source : Operation → Source
second_source (Add p a b) = b.source
second_source (Multiply p q a b) = b.source

-- the step at which a source is there: 0 for an input, and for an operation what g says
abbrev pub there_at : (ℕ → ℕ) → Source → ℕ
there_at g (Input i) = 0
there_at g (Earlier e) = g e

-- the largest of 0 and what g says of the operands
abbrev pub after_operands : Graph → (ℕ → ℕ) → ℕ → ℕ
after_operands G g o = max (there_at g (first_source (operation_at G o))) (there_at g (second_source (operation_at G o)))

-- the earliest step, looking back through at most n operations
abbrev pub earliest_within : Graph → Prices → ℕ → ℕ → ℕ
earliest_within G P zero o = 0
earliest_within G P (suc n) o = after_operands G (λ e. earliest_within G P n e + own_steps G P e) o

-- the earliest step: 0, or the largest earliest step plus own latency among the operands
unfoldable pub earliest : Graph → Prices → ℕ → ℕ
earliest G P o = earliest_within G P (suc o) o

-- the smallest of g below n where t holds, or d
abbrev pub smallest : (ℕ → Bool) → (ℕ → ℤ) → ℤ → ℕ → ℤ
smallest t g d zero = d
smallest t g d (suc n) = cond (t n) (int_min (smallest t g d n) (g n)) (smallest t g d n)

-- the smallest of g among the readers, or the limit
abbrev pub before_readers : Graph → (ℕ → ℤ) → ℕ → ℤ
before_readers G g o = smallest (λ r. reads G r o) g (pos G.limit) (count G)

-- the latest step, looking ahead through at most n operations; it may lie below 0
abbrev pub latest_within : Graph → Prices → ℕ → ℕ → ℤ
latest_within G P zero o = pos G.limit
latest_within G P (suc n) o = before_readers G (latest_within G P n) o -ℤ pos (own_steps G P o)

-- the latest step: the smallest latest step among the readers, or the limit, less the own latency
unfoldable pub latest : Graph → Prices → ℕ → ℤ
latest G P o = latest_within G P (suc (count G)) o

-- the earliest step lies above the latest
abbrev pub out_of_time : Graph → Prices → ℕ → Bool
out_of_time G P o = int_lt (latest G P o) (pos (earliest G P o))

abbrev pub step_of : ℤ → ℕ
step_of (pos n) = n
step_of (negsuc n) = 0

-- the latest step, where it is not below 0
unfoldable pub latest_step : Graph → Prices → ℕ → ℕ
latest_step G P o = step_of (latest G P o)
