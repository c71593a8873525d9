use Rattle.std.proofs.Common.{◌≡◌, ◌++◌, map, drop}
use Rattle.std.specs.List.{range_with_len}
use Rattle.sheet.specs.Samples.{sampled_graph}
use Rattle.graphs.specs.Values.{value}
use Rattle.sheet.proofs.values.Sampled.fill.Given as goal

-- the values so far stand at the front
abbrev pub invariant-loop-o : goal.invariant-loop-o
invariant-loop-o l = l.values ≡ map (value (sampled_graph l.self) l.self.samples.now) (range_with_len 0 l.o) ++ drop l.o l.initial.values
