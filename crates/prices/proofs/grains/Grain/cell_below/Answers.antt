-- No cell of a sound list costs more than its widest width.
use Rattle.std.proofs.Common.{arith}
use Rattle.prices.specs.GrainLaw.{cell_bounded, cell_none}
use Rattle.prices.proofs.grains.Grain.cell_below.Goals as goal

pub returns-clause-value : goal.returns-clause-value
returns-clause-value g c = grind (arith, cell_none)

pub returns-clause-bound : goal.returns-clause-bound
returns-clause-bound g c =
    let list = c.args.self.now.list in
    omega (arith, returns-clause-value g c, cell_bounded (g.L.PriceList.prices list) (g.met.L.PriceList.sound list) g.K.Kind.code c.args.c)
