-- What a well-formed graph says of an operation: its width is one of its kind, and its operands come before it.
use Rattle.std.proofs.Common.{◌≡◌, ℕ, ◌<◌, true, ◌||◌, leb, ◌⊎◌, length, sym, refl, ◌∙◌}
use Rattle.std.proofs.lemmas.Bool.{and_parts, ltb-true, or_left, or_right, or_cases}
use Rattle.widths.specs.Kinds.{sides_of, valid}
use Rattle.graphs.specs.declared.Source.{Source}
use Rattle.graphs.specs.declared.Source.TheVariants.{Input, Earlier}
use Rattle.graphs.specs.declared.Operand.{Operand}
use Rattle.graphs.specs.declared.Operation.{Operation}
use Rattle.graphs.specs.declared.Operation.TheVariants.{Add, Multiply}
use Rattle.graphs.specs.Graphs.{Graph, WellFormed, operation_at, count, kind_of, width_of, is_named, good_operand, good_operation}
use Rattle.plans.specs.Plans.{names, operation_reads, reads}
use Rattle.floors.specs.Spans.{first_source, second_source}

-- a source that names an operation names one before o
abbrev pub Before : ℕ → Source → Type 0
Before o (Input i) = Unit {0}
Before o (Earlier e) = e < o

named_before : (n o : ℕ) (x : Source) → is_named n o x ≡ true → Before o x
named_before n o (Input i) h = tt
named_before n o (Earlier e) h = ltb-true e o h

operand_before : (n o : ℕ) (x : Operand) → good_operand n o x ≡ true → Before o x.source
operand_before n o x h = named_before n o x.source (and_parts (leb x.drop 63) _ h).1

pub record Shaped (o : ℕ) (x : Operation) : Type 0 where
  pub width : valid (kind_of x) (width_of x) ≡ true
  pub first : Before o (first_source x)
  pub second : Before o (second_source x)

shaped : (n o : ℕ) (x : Operation) → good_operation n o x ≡ true → Shaped o x
shaped n o (Add p a b) h =
    let v = and_parts (valid 0 (sides_of p 0)) _ h in
    let g = and_parts (good_operand n o a) (good_operand n o b) v.1 in
    record { width = v.0; first = operand_before n o a g.0; second = operand_before n o b g.1 }
shaped n o (Multiply p q a b) h =
    let v = and_parts (valid 1 (sides_of p q)) _ h in
    let g = and_parts (good_operand n o a) (good_operand n o b) v.1 in
    record { width = v.0; first = operand_before n o a g.0; second = operand_before n o b g.1 }

pub shape : (G : Graph) → WellFormed G → (o : ℕ) → o < count G → Shaped o (operation_at G o)
shape G wf o h = shaped (length G.inputs) o (operation_at G o) (wf.operation o h)

by_sources : (x : Operation) (e : ℕ) → operation_reads x e ≡ (names (first_source x) e || names (second_source x) e)
by_sources (Add p a b) e = refl
by_sources (Multiply p q a b) e = refl

pub reads_first : (G : Graph) (r e : ℕ) → names (first_source (operation_at G r)) e ≡ true → reads G r e ≡ true
unfolding reads
reads_first G r e h = by_sources (operation_at G r) e ∙ or_left (names (first_source (operation_at G r)) e) (names (second_source (operation_at G r)) e) h

pub reads_second : (G : Graph) (r e : ℕ) → names (second_source (operation_at G r)) e ≡ true → reads G r e ≡ true
unfolding reads
reads_second G r e h = by_sources (operation_at G r) e ∙ or_right (names (first_source (operation_at G r)) e) (names (second_source (operation_at G r)) e) h

pub reads_either : (G : Graph) (r e : ℕ) → reads G r e ≡ true → (names (first_source (operation_at G r)) e ≡ true) ⊎ (names (second_source (operation_at G r)) e ≡ true)
unfolding reads
reads_either G r e h = or_cases (names (first_source (operation_at G r)) e) (names (second_source (operation_at G r)) e) (sym (by_sources (operation_at G r) e) ∙ h)
