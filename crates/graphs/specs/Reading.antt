-- Reading a sheet: the commands are judged one after the other by what was read before.
use Rattle.std.specs.Prelude.{ℕ, ◌+◌, ◌-◌, Bool, true, false, cond, not, ◌&&◌, List, [], ◌∷◌, ◌++◌, length, is_some, Some, None, Ok, Err, Option, Result, ◌==◌, nat_le, nat_lt}
use Rattle.std.specs.Option.{unwrap_or}
use Rattle.widths.specs.Kinds.{sides_of, valid}
use Rattle.faults.specs.declared.Fault.{Fault}
use Rattle.faults.specs.declared.Fault.TheVariants.{UnknownCommand, CutShort, OutOfOrder, TooMany, OutOfRange, NamesNothing}
use Rattle.graphs.specs.declared.Operation.{Operation}
use Rattle.graphs.specs.declared.Operation.TheVariants.{Add, Multiply}
use Rattle.graphs.specs.declared.Feed.{Feed}
use Rattle.graphs.specs.declared.Command.{Command}
use Rattle.graphs.specs.declared.Command.TheVariants as command
use Rattle.graphs.specs.Graphs.{Graph, is_named}
use Rattle.graphs.specs.Scripts.{Script, ends, unknown, short, next, script}
use Rattle.graphs.specs.Commands.{sheet_format, source_range, source_of, operand_of}

-- what was read so far
pub record Sofar : Type 0 where
  pub limit : Option ℕ
  pub inputs : List ℕ
  pub operations : List Operation
  pub outputs : List ℕ
  pub ended : Bool

abbrev pub nothing_read : Sofar
nothing_read = record { limit = None; inputs = []; operations = []; outputs = []; ended = false }

abbrev pub is_empty : {A : Type 0} → List A → Bool
is_empty xs = length xs == 0

-- 3: one STEPS, then the inputs, the operations, the outputs and END, with an operation and an output at least
abbrev pub in_order : Sofar → Command → Bool
in_order d (command.Steps n) = not d.ended && not (is_some d.limit)
in_order d (command.Input w) = not d.ended && (is_some d.limit && (is_empty d.operations && is_empty d.outputs))
in_order d (command.Add p a b) = not d.ended && (is_some d.limit && is_empty d.outputs)
in_order d (command.Multiply p q a b) = not d.ended && (is_some d.limit && is_empty d.outputs)
in_order d (command.Output s) = not d.ended && (is_some d.limit && not (is_empty d.operations))
in_order d command.End = not d.ended && (is_some d.limit && (not (is_empty d.operations) && not (is_empty d.outputs)))

-- 4: at most 16 inputs, 64 operations and 16 outputs
abbrev pub has_room : Sofar → Command → Bool
has_room d (command.Steps n) = true
has_room d (command.Input w) = nat_lt (length d.inputs) 16
has_room d (command.Add p a b) = nat_lt (length d.operations) 64
has_room d (command.Multiply p q a b) = nat_lt (length d.operations) 64
has_room d (command.Output s) = nat_lt (length d.outputs) 16
has_room d command.End = true

abbrev pub feed_range : Feed → Bool
feed_range x = source_range x.source && nat_le x.drop 63

-- 5: every operand in its range
abbrev pub in_range : Command → Bool
in_range (command.Steps n) = nat_le 1 n && nat_le n 64
in_range (command.Input w) = nat_le 1 w && nat_le w 40
in_range (command.Add p a b) = valid 0 (sides_of p 0) && (feed_range a && feed_range b)
in_range (command.Multiply p q a b) = valid 1 (sides_of p q) && (feed_range a && feed_range b)
in_range (command.Output s) = nat_le 64 s && nat_le s 127
in_range command.End = true

-- 6: every source names something earlier
abbrev pub names_earlier : Sofar → Command → Bool
names_earlier d (command.Steps n) = true
names_earlier d (command.Input w) = true
names_earlier d (command.Add p a b) = is_named (length d.inputs) (length d.operations) (source_of a.source) && is_named (length d.inputs) (length d.operations) (source_of b.source)
names_earlier d (command.Multiply p q a b) = is_named (length d.inputs) (length d.operations) (source_of a.source) && is_named (length d.inputs) (length d.operations) (source_of b.source)
names_earlier d (command.Output s) = nat_lt (s - 64) (length d.operations)
names_earlier d command.End = true

-- the first cause that a command at a position meets
abbrev pub cause : Sofar → ℕ → Command → Option Fault
cause d at c =
    cond (in_order d c)
    (cond (has_room d c)
    (cond (in_range c)
    (cond (names_earlier d c) None (Some (NamesNothing at)))
    (Some (OutOfRange at)))
    (Some (TooMany at)))
    (Some (OutOfOrder at))

-- what was read once the command is taken
abbrev pub after : Sofar → Command → Sofar
after d (command.Steps n) = record { limit = Some n; inputs = d.inputs; operations = d.operations; outputs = d.outputs; ended = d.ended }
after d (command.Input w) = record { limit = d.limit; inputs = d.inputs ++ w ∷ []; operations = d.operations; outputs = d.outputs; ended = d.ended }
after d (command.Add p a b) = record { limit = d.limit; inputs = d.inputs; operations = d.operations ++ Add p (operand_of a) (operand_of b) ∷ []; outputs = d.outputs; ended = d.ended }
after d (command.Multiply p q a b) = record { limit = d.limit; inputs = d.inputs; operations = d.operations ++ Multiply p q (operand_of a) (operand_of b) ∷ []; outputs = d.outputs; ended = d.ended }
after d (command.Output s) = record { limit = d.limit; inputs = d.inputs; operations = d.operations; outputs = d.outputs ++ (s - 64) ∷ []; ended = d.ended }
after d command.End = record { limit = d.limit; inputs = d.inputs; operations = d.operations; outputs = d.outputs; ended = true }

abbrev pub whole_graph : Sofar → Graph
whole_graph d = record { limit = unwrap_or d.limit 0; inputs = d.inputs; operations = d.operations; outputs = d.outputs }

abbrev pub continue : Option Fault → Result Graph Fault → Result Graph Fault
continue None r = r
continue (Some f) r = Err f

-- the rest of a sheet from a position on; behind END nothing may stand
unfoldable pub judge : Sofar → ℕ → Script Command → Result Graph Fault
judge d at ends = cond d.ended (Ok (whole_graph d)) (Err (CutShort at))
judge d at unknown = Err (cond d.ended (OutOfOrder at) (UnknownCommand at))
judge d at short = Err (cond d.ended (OutOfOrder at) (CutShort at))
judge d at (next c n r) = continue (cause d at c) (judge (after d c) (at + n) r)

-- the graph that a string of bytes is read as, or the refusal
unfoldable pub read : List ℕ → Result Graph Fault
read bs = judge nothing_read 0 (script sheet_format 0 bs)
