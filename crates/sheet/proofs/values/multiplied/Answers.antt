use Rattle.std.proofs.Common.{◌*ℤ◌}
use Rattle.words.proofs.Sizes.{product_fits, through}
use Rattle.sheet.proofs.values.multiplied.Goals as goal

pub returns : goal.returns
returns c = through ◌*ℤ◌ c.args.a c.args.b c.ranges.a c.ranges.b (product_fits c.args.a c.args.b c.requires.a_small c.requires.b_small)
