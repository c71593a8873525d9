-- A job with a sample for each of its inputs.
use Rattle.std.specs.Prelude.{ℕ, length}
use Rattle.graphs.specs.Graphs.{Graph}
use Rattle.sheet.specs.declared.values.Sampled.{Sampled}
use Rattle.sheet.specs.Jobs.{graph_of}

abbrev pub sampled_graph : Sampled → Graph
sampled_graph s = graph_of s.job.now

abbrev pub input_count : Sampled → ℕ
input_count s = length (sampled_graph s).inputs
