use Rattle.std.proofs.Common.{map, ap, ◌∙◌}
use Rattle.sheet.specs.Samples.{sampled_graph}
use Rattle.graphs.specs.Values.{value_in, overwritten}
use Rattle.graphs.proofs.Valued.{outputs_are}
use Rattle.sheet.proofs.values.Sampled.fill_outputs.Goals as goal

pub returns : goal.returns
returns c =
    let s = c.args.self.now in
    let vs = c.fill.new.values in
    c.pick.ensures
    ∙ ap (λ x. overwritten x c.args.out.now)
    (ap (map (value_in vs)) c.deref.ensures.value ∙ outputs_are (sampled_graph s) s.job.now.formed s.samples.now vs _ c.fill.ensures)
