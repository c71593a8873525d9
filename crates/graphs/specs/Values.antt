-- The values of a graph's operations for given samples.
use Rattle.std.specs.Prelude.{◌≡◌, ℕ, zero, suc, ◌<◌, cond, List, ◌++◌, map, length, drop, ℤ, pos, ◌+ℤ◌, ◌*ℤ◌, Ok, Err, Result, ◌==◌, nat_le, slice_index, slice_index_or}
use Rattle.std.specs.List.{range_with_len}
use Rattle.faults.specs.declared.Fault.{Fault}
use Rattle.faults.specs.declared.Fault.TheVariants.{BufferTooShort, SampleCount}
use Rattle.words.specs.Cut.{cut_to}
use Rattle.graphs.specs.declared.Source.{Source}
use Rattle.graphs.specs.declared.Source.TheVariants.{Input, Earlier}
use Rattle.graphs.specs.declared.Operand.{Operand}
use Rattle.graphs.specs.declared.Operation.{Operation}
use Rattle.graphs.specs.declared.Operation.TheVariants.{Add, Multiply}
use Rattle.graphs.specs.Graphs.{Graph, operation_at, count}

-- an input's sample cut to the input's width
abbrev pub input_value : List ℕ → List ℤ → ℕ → ℤ
input_value widths xs i = cut_to (slice_index_or xs i (pos 0)) 0 (slice_index widths i)

-- what a source gives, where V gives the values of the operations
abbrev pub source_value : List ℕ → List ℤ → (ℕ → ℤ) → Source → ℤ
source_value widths xs V (Input i) = input_value widths xs i
source_value widths xs V (Earlier o) = V o

-- what a port of so many bits reads
abbrev pub operand_value : List ℕ → List ℤ → (ℕ → ℤ) → Operand → ℕ → ℤ
operand_value widths xs V x port = cut_to (source_value widths xs V x.source) x.drop port

abbrev pub operation_value : List ℕ → List ℤ → (ℕ → ℤ) → Operation → ℤ
operation_value widths xs V (Add p a b) = cut_to (operand_value widths xs V a p +ℤ operand_value widths xs V b p) 0 p
operation_value widths xs V (Multiply p q a b) = operand_value widths xs V a p *ℤ operand_value widths xs V b q

-- the value of operation o, looking back through at most so many operations
unfoldable pub value_within : Graph → List ℤ → ℕ → ℕ → ℤ
value_within G xs zero o = pos 0
value_within G xs (suc k) o = operation_value G.inputs xs (value_within G xs k) (operation_at G o)

-- the value of operation o: it has at most o operations before it
unfoldable pub value : Graph → List ℤ → ℕ → ℤ
value G xs o = value_within G xs (suc o) o

-- the values of all operations, and of the outputs, each in their order
abbrev pub operation_values : Graph → List ℤ → List ℤ
operation_values G xs = map (value G xs) (range_with_len 0 (count G))

abbrev pub output_values : Graph → List ℤ → List ℤ
output_values G xs = map (value G xs) G.outputs

-- the answer of a call that wants so many samples and so much room: how much it writes, or the refusal
abbrev pub room_answer : ℕ → ℕ → ℕ → ℕ → Result ℕ Fault
room_answer wanted given needed room =
    cond (given == wanted) (cond (nat_le needed room) (Ok needed) (Err (BufferTooShort needed))) (Err (SampleCount wanted))

-- the value that stands at a place of a buffer, and 0 past its end
abbrev pub value_in : List ℤ → ℕ → ℤ
value_in values place = slice_index_or values place (pos 0)

-- what a buffer holds after values are written at its front
abbrev pub overwritten : List ℤ → List ℤ → List ℤ
overwritten vs out = vs ++ drop (length vs) out

-- the same after a call that answers so: a refusal writes nothing
abbrev pub written : Result ℕ Fault → List ℤ → List ℤ → List ℤ
written (Ok n) vs out = overwritten vs out
written (Err f) vs out = out

-- the values are those that follow from the operands, operation by operation, and no others do
pub record ValuesLaw (G : Graph) (xs : List ℤ) : Type 0 where
  pub follows : (o : ℕ) → o < count G → value G xs o ≡ operation_value G.inputs xs (value G xs) (operation_at G o)
  pub only : (V : ℕ → ℤ) → ((o : ℕ) → o < count G → V o ≡ operation_value G.inputs xs V (operation_at G o)) → (o : ℕ) → o < count G → V o ≡ value G xs o
