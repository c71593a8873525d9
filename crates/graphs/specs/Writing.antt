-- The bytes of a graph.
use Rattle.std.specs.Prelude.{ℕ, ◌+◌, List, [], ◌∷◌, ◌++◌}
use Rattle.std.specs.List.{flat_map}
use Rattle.graphs.specs.declared.Source.{Source}
use Rattle.graphs.specs.declared.Source.TheVariants.{Input, Earlier}
use Rattle.graphs.specs.declared.Operation.{Operation}
use Rattle.graphs.specs.declared.Operation.TheVariants.{Add, Multiply}
use Rattle.graphs.specs.Graphs.{Graph}

abbrev pub source_byte : Source → ℕ
source_byte (Input i) = i
source_byte (Earlier o) = 64 + o

abbrev pub input_bytes : ℕ → List ℕ
input_bytes w = 0x11 ∷ w ∷ []

abbrev pub operation_bytes : Operation → List ℕ
operation_bytes (Add p a b) = 0x12 ∷ p ∷ source_byte a.source ∷ a.drop ∷ source_byte b.source ∷ b.drop ∷ []
operation_bytes (Multiply p q a b) = 0x13 ∷ p ∷ q ∷ source_byte a.source ∷ a.drop ∷ source_byte b.source ∷ b.drop ∷ []

abbrev pub output_bytes : ℕ → List ℕ
output_bytes o = 0x14 ∷ (64 + o) ∷ []

-- STEPS, the inputs, the operations, the outputs, END
abbrev pub write : Graph → List ℕ
write G =
    (0x10 ∷ G.limit ∷ [])
    ++ (flat_map input_bytes G.inputs
    ++ (flat_map operation_bytes G.operations
    ++ (flat_map output_bytes G.outputs
    ++ (0x1F ∷ []))))
