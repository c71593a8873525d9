-- The code is the form of which `Words` shows that it gives the low bits.
use Rattle.words.proofs.Words.{low_code}
use Rattle.words.proofs.low_bits.Goals as goal

pub returns : goal.returns
returns c = low_code c.args.z c.args.width c.ranges.z c.requires.least c.requires.most
