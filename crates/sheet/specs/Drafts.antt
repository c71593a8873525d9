-- Reading in the code's terms: what its parts promise one another.
use Rattle.std.specs.Prelude.{◌≡◌, ℕ, false, ◌⊎◌, Some, None, Ok, Err, vec_items, Option, Result}
use Rattle.faults.specs.declared.Fault.{Fault}
use Rattle.faults.specs.declared.Fault.TheVariants.{OutOfMemory}
use Rattle.graphs.specs.declared.Command.{Command}
use Rattle.graphs.specs.Graphs.{Graph}
use Rattle.graphs.specs.Scripts.{Unread, script_of}
use Rattle.graphs.specs.Commands.{sheet_format}
use Rattle.graphs.specs.Reading.{Sofar, cause, after, judge}
use Rattle.sheet.specs.declared.reader.Draft.{Draft}
use Rattle.sheet.specs.declared.Job.{Job}
use Rattle.sheet.specs.Jobs.{graph_of}

-- a call told f, where the rules say o: the rules' own refusal, or want of memory
abbrev pub Told : Option Fault → Fault → Type 0
Told o f = (f ≡ OutOfMemory) ⊎ (o ≡ Some f)

-- what the code holds while it reads, up to END
abbrev pub sofar : Draft → Sofar
sofar d = record { limit = d.limit; inputs = vec_items d.inputs; operations = vec_items d.operations; outputs = vec_items d.outputs; ended = false }

-- the same, as if END had not come
abbrev pub unended : Sofar → Sofar
unended d = record { limit = d.limit; inputs = d.inputs; operations = d.operations; outputs = d.outputs; ended = false }

-- the answer of a call that meets this cause, or none
abbrev pub answer : Option Fault → Result (Unit {0}) Fault
answer None = Ok tt
answer (Some f) = Err f

-- a command was added to what was read, or there was no memory for it
abbrev pub Kept : Sofar → Command → Sofar → Result (Unit {0}) Fault → Type 0
Kept d c e (Ok x) = e ≡ unended (after d c)
Kept d c e (Err f) = f ≡ OutOfMemory

-- a command at a position was taken, or refused, between two states
abbrev pub Takes : Sofar → ℕ → Command → Sofar → Result (Unit {0}) Fault → Type 0
Takes d at c e (Ok x) = (cause d at c ≡ None) × (e ≡ unended (after d c))
Takes d at c e (Err f) = Told (cause d at c) f

-- what the rules say of the bytes that are left
abbrev pub verdict_on : Sofar → Unread → Result Graph Fault
verdict_on d u = judge d u.at (script_of sheet_format u)

-- the call's answer is what the rules say, or want of memory
abbrev pub ReadsAs : Result Graph Fault → Result Job Fault → Type 0
ReadsAs said (Ok j) = said ≡ Ok (graph_of j)
ReadsAs said (Err f) = (f ≡ OutOfMemory) ⊎ (said ≡ Err f)
