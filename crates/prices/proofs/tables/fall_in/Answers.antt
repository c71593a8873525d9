-- The row that is found is the lowest at fault.
use Rattle.std.proofs.Common.{rules, length}
use Rattle.std.proofs.iter.runs.Sources.{ranges}
use Rattle.prices.specs.Refusals.{falls}
use Rattle.prices.proofs.Searches.{lowest_is}
use Rattle.prices.proofs.tables.fall_in.Goals as goal

pub returns-clause-value : goal.returns-clause-value
returns-clause-value c = lowest_is (falls c.args.steps.now) (length c.args.steps.now) c.find.result (search (rules, ranges))
