use Rattle.std.proofs.Common.{◌<◌, length, ap, arith}
use Rattle.sheet.specs.Samples.{sampled_graph}
use Rattle.graphs.proofs.Valued.{value_more}
use Rattle.sheet.proofs.values.Sampled.fill.Goals as goal

pub loop-o-preserved : goal.loop-o-preserved
loop-o-preserved c =
    let s = c.args.self.now in
    let ops = ap length c.deref-operation-items.ensures.value in
    let far : c.loop-o.o < length c.args.values.now = omega (arith, ops, c.requires, c.loop-o-test.true) in
    value_more (sampled_graph s) s.job.now.formed s.samples.now c.deref-operation-items.result.now c.deref-operation-items.ensures.value c.loop-o.o c.loop-o-test.true c.loop-o.values c.args.values.now c.operation_value.result (record { sfits = c.operation_value.type_inv }) c.operation_value.ensures c.loop-o.invariant far
