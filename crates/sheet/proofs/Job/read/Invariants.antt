use Rattle.std.proofs.Common.{◌≡◌, ◌-◌, ◌≤◌, length}
use Rattle.graphs.specs.Reading.{read}
use Rattle.sheet.specs.Drafts.{sofar, verdict_on}
use Rattle.sheet.proofs.Job.read.Given as goal

-- what is left decides what the sheet is read as
abbrev pub invariant-loop-at : goal.invariant-loop-at
invariant-loop-at l = record {
  bytes : l.commands.bytes ≡ l.bytes;
  inside : l.commands.at ≤ length l.bytes;
  decides : read l.bytes ≡ verdict_on (sofar l.draft) l.commands;
}

abbrev pub decreases-loop-at : goal.decreases-loop-at
decreases-loop-at l = length l.bytes - l.commands.at
