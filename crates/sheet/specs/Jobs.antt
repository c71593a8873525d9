-- The graph that a job holds.
use Rattle.std.specs.Prelude.{vec_items}
use Rattle.sheet.specs.declared.Job.{Job}
use Rattle.graphs.specs.Graphs.{Graph}

abbrev pub graph_of : Job → Graph
graph_of j = record { limit = j.limit; inputs = vec_items j.inputs; operations = vec_items j.operations; outputs = vec_items j.outputs }
