use Rattle.std.proofs.Common.{◌≡◌, ◌++◌, map, take, drop}
use Rattle.graphs.specs.Values.{value_in}
use Rattle.sheet.proofs.values.pick.Given as goal

-- the values of the names so far stand at the front
abbrev pub invariant-loop-k : goal.invariant-loop-k
invariant-loop-k l = l.out ≡ map (value_in l.values) (take l.k l.named) ++ drop l.k l.initial.out
