use Rattle.std.proofs.Common.{length, take, ◌∙◌, arith}
use Rattle.std.proofs.lemmas.List.{get_or-take, length-take-le}
use Rattle.board.specs.Boards.{graph_on, list_on, plan_on}
use Rattle.board.proofs.Meetings.{lives_clash}
use Rattle.board.proofs.Board.clashing.Goals as goal

pub returns : goal.returns
returns g c =
    let n = c.count.result in
    let lives = c.lives-lives.result in
    c.clash_in.ensures
    ∙ lives_clash (graph_on c.args.self.now) (g.L.PriceList.prices (list_on c.args.self.now)) (plan_on c.args.self.now) (take n lives) (length (take n lives)) (length-take-le n lives (omega arith) ∙ c.count.ensures)
    (λ x h. get_or-take n lives x _ (omega (arith, c.count.ensures)) ∙ c.lives-lives.ensures x (omega (arith, c.count.ensures)))
