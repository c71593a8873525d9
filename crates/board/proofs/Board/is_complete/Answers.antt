use Rattle.std.proofs.Common.{◌≡◌, true, false, is_some, refl, rules}
use Rattle.std.proofs.lemmas.Iterator.{cases_from_all, YieldsList-from_range}
use Rattle.board.specs.Boards.{graph_on, plan_on}
use Rattle.board.proofs.Meetings.{whole}
use Rattle.board.proofs.Board.is_complete.Goals as goal

pub returns : goal.returns
returns g c =
    let pl = plan_on c.args.self.now in
    whole (graph_on c.args.self.now) pl c.count.result c.all.result c.count.ensures
    (cases_from_all _ _ _ (λ o. is_some (pl.placed o) ≡ true) (λ o. is_some (pl.placed o) ≡ false) c.all.ensures.ran (YieldsList-from_range 0 c.count.result _ refl refl) (λ x q k. (search rules, search rules)) (λ x q k. search rules))
