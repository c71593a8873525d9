use Rattle.std.proofs.Common.{refl}
use Rattle.widths.specs.Kinds.{covers}
use Rattle.prices.specs.Prices.{rows, columns, over, cell_charge, charge, latency}
use Rattle.plans.specs.Plans.{reads}
use Rattle.floors.specs.Spans.{own_steps, earliest, latest, latest_step}
use Rattle.floors.specs.Floors.{overlap, need, peak, kind_floor, floor_answer}
use Rattle.floors.proofs.floor_figures.Goals as goal

pub returns : goal.returns
unfolding covers rows columns over cell_charge charge latency reads own_steps earliest latest latest_step overlap need peak kind_floor floor_answer
returns c = (refl, refl, refl, refl, refl)
