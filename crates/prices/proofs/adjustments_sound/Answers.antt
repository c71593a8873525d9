-- Grain and wait keep soundness one at a time, so they do so in either order.
use Rattle.prices.specs.Lists.{grained, waiting}
use Rattle.prices.specs.GrainLaw.{grain_sound, charge_rounded}
use Rattle.prices.specs.WaitLaw.{wait_sound}
use Rattle.prices.proofs.adjustments_sound.Goals as goal

pub returns : goal.returns
returns g c =
    let P = g.L.PriceList.prices c.args.list.now in
    let sound = g.met.L.PriceList.sound c.args.list.now in
    λ size steps ok few. (
      grain_sound size ok (waiting steps P) (wait_sound steps P sound),
      wait_sound steps (grained size P) (grain_sound size ok P sound),
      charge_rounded P size ok,
    )
