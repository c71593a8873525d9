use Rattle.std.proofs.Common.{refl}
use Rattle.words.specs.Cut.{cut_to}
use Rattle.widths.specs.Kinds.{covers}
use Rattle.prices.specs.Prices.{rows, columns, over, charge, latency}
use Rattle.graphs.specs.Scripts.{script}
use Rattle.graphs.specs.Reading.{judge, read}
use Rattle.graphs.specs.Values.{value_within, value}
use Rattle.plans.specs.Plans.{value_at, reads, is_output, units, finish_with, last}
use Rattle.figures.proofs.figures.Goals as goal

pub returns : goal.returns
unfolding cut_to covers rows columns over charge latency script judge read value_within value value_at reads is_output units finish_with last
returns c = record { cuts = (refl, refl, refl); cells = (refl, refl, refl); priced = (refl, refl, refl, refl, refl, refl); worked = (refl, refl); called = (refl, refl) }
