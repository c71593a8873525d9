-- Sequencing graphs, and when one is well-formed.
use Rattle.std.specs.Prelude.{◌≡◌, ℕ, ◌+◌, ◌<◌, ◌≤◌, Bool, true, ◌&&◌, List, [], ◌∷◌, length, nat_le, nat_lt, slice_index, slice_index_or}
use Rattle.widths.specs.declared.Sides.{Sides}
use Rattle.widths.specs.Kinds.{sides_of, valid}
use Rattle.graphs.specs.declared.Source.{Source}
use Rattle.graphs.specs.declared.Source.TheVariants.{Input, Earlier}
use Rattle.graphs.specs.declared.Operand.{Operand}
use Rattle.graphs.specs.declared.Operation.{Operation}
use Rattle.graphs.specs.declared.Operation.TheVariants.{Add, Multiply}

-- the limit in steps, the inputs' widths, the operations in their order, and the operation that each output names
pub record Graph : Type 0 where
  pub limit : ℕ
  pub inputs : List ℕ
  pub operations : List Operation
  pub outputs : List ℕ

-- what is read past the end of the operations
abbrev pub no_operand : Operand
no_operand = record { source = Input 0; drop = 0 }

abbrev pub no_operation : Operation
no_operation = Add 0 no_operand no_operand

abbrev pub operation_at : Graph → ℕ → Operation
operation_at G o = slice_index_or G.operations o no_operation

abbrev pub count : Graph → ℕ
count G = length G.operations

-- the number of the kind of unit that an operation runs on
abbrev pub kind_of : Operation → ℕ
kind_of (Add p a b) = 0
kind_of (Multiply p q a b) = 1

-- an operation's own width
abbrev pub width_of : Operation → Sides
width_of (Add p a b) = sides_of p 0
width_of (Multiply p q a b) = sides_of p q

-- what its two ports read
abbrev pub operands_of : Operation → List Operand
operands_of (Add p a b) = a ∷ b ∷ []
operands_of (Multiply p q a b) = a ∷ b ∷ []

-- the width of its value
abbrev pub value_width : Operation → ℕ
value_width (Add p a b) = p
value_width (Multiply p q a b) = p + q

-- the source names one of so many inputs, or one of so many operations
abbrev pub is_named : ℕ → ℕ → Source → Bool
is_named inputs operations (Input i) = nat_lt i inputs
is_named inputs operations (Earlier o) = nat_lt o operations

abbrev pub good_operand : ℕ → ℕ → Operand → Bool
good_operand inputs operations x = nat_le x.drop 63 && is_named inputs operations x.source

-- an operation that may stand behind so many inputs and so many operations
abbrev pub good_operation : ℕ → ℕ → Operation → Bool
good_operation inputs operations (Add p a b) = valid 0 (sides_of p 0) && (good_operand inputs operations a && good_operand inputs operations b)
good_operation inputs operations (Multiply p q a b) = valid 1 (sides_of p q) && (good_operand inputs operations a && good_operand inputs operations b)

pub record WellFormed (G : Graph) : Type 0 where
  pub limit : (1 ≤ G.limit) × (G.limit ≤ 64)
  pub input_count : length G.inputs ≤ 16
  pub input : (i : ℕ) → i < length G.inputs → (1 ≤ slice_index G.inputs i) × (slice_index G.inputs i ≤ 40)
  pub operation_count : (1 ≤ count G) × (count G ≤ 64)
  pub operation : (o : ℕ) → o < count G → good_operation (length G.inputs) o (operation_at G o) ≡ true
  pub output_count : (1 ≤ length G.outputs) × (length G.outputs ≤ 16)
  pub output : (k : ℕ) → k < length G.outputs → slice_index G.outputs k < count G
