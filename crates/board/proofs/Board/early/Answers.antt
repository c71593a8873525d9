use Rattle.std.proofs.Common.{refl, rules}
use Rattle.board.specs.Boards.{disorder_on}
use Rattle.board.proofs.Searches.{lowest_from_find}
use Rattle.board.proofs.Board.early.Goals as goal

pub returns : goal.returns
returns g c = lowest_from_find (disorder_on g.L.PriceList.prices c.args.self.now c.args.o c.args.p) _ _ _ _ _ refl c.count.ensures c.find.ensures.ran (λ x b q k. (search rules, search rules))
