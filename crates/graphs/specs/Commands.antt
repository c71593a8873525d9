-- The commands of a sheet and their bytes.
use Rattle.std.specs.Prelude.{ℕ, ◌+◌, ◌-◌, Bool, cond, ◌&&◌, ◌||◌, List, Some, None, Option, ◌==◌, nat_le, slice_index}
use Rattle.graphs.specs.declared.Source.{Source}
use Rattle.graphs.specs.declared.Source.TheVariants.{Input, Earlier}
use Rattle.graphs.specs.declared.Operand.{Operand}
use Rattle.graphs.specs.declared.Feed.{Feed}
use Rattle.graphs.specs.declared.Command.{Command}
use Rattle.graphs.specs.declared.Command.TheVariants as command
use Rattle.graphs.specs.Scripts.{Format}

-- how many operands the command of a byte has
abbrev pub operands : ℕ → Option ℕ
operands b =
    cond (b == 0x10) (Some 1)
    (cond (b == 0x11) (Some 1)
    (cond (b == 0x12) (Some 5)
    (cond (b == 0x13) (Some 6)
    (cond (b == 0x14) (Some 1)
    (cond (b == 0x1F) (Some 0) None)))))

-- the source byte and the drop at the place i
abbrev pub feed_at : List ℕ → ℕ → Feed
feed_at bs i = record { source = slice_index bs i; drop = slice_index bs (i + 1) }

-- the command of a byte, with the operands at the front of bs
abbrev pub command_of : ℕ → List ℕ → Command
command_of b bs =
    cond (b == 0x10) (command.Steps (slice_index bs 0))
    (cond (b == 0x11) (command.Input (slice_index bs 0))
    (cond (b == 0x12) (command.Add (slice_index bs 0) (feed_at bs 1) (feed_at bs 3))
    (cond (b == 0x13) (command.Multiply (slice_index bs 0) (slice_index bs 1) (feed_at bs 2) (feed_at bs 4))
    (cond (b == 0x14) (command.Output (slice_index bs 0)) command.End))))

abbrev pub sheet_format : Format Command
sheet_format = record { operands = operands; command = command_of }

-- source bytes: 0 to 15 an input, 64 to 127 the operations 0 to 63
abbrev pub source_range : ℕ → Bool
source_range s = nat_le s 15 || (nat_le 64 s && nat_le s 127)

abbrev pub source_of : ℕ → Source
source_of s = cond (nat_le s 15) (Input s) (Earlier (s - 64))

abbrev pub operand_of : Feed → Operand
operand_of x = record { source = source_of x.source; drop = x.drop }
