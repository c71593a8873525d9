use Rattle.std.proofs.Common.{refl, rules}
use Rattle.widths.specs.Kinds.{code_of}
use Rattle.board.specs.Boards.{serves_on}
use Rattle.board.proofs.Searches.{lowest_from_find}
use Rattle.board.proofs.Board.serving.Goals as goal

pub returns : goal.returns
returns g c = lowest_from_find (serves_on c.args.self.now (code_of c.args.unit.kind) c.args.unit.number) _ _ _ _ _ refl c.count.ensures c.find.ensures.ran (λ x b q k. (search rules, search rules))
