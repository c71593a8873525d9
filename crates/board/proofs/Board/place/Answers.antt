-- A placing that is taken out again leaves the board as it was.
use Rattle.std.proofs.Common.{◌≡◌, None, ap, ◌∙◌, rules}
use Rattle.board.specs.Tables.{with_entry}
use Rattle.board.proofs.Writes.{put_back}
use Rattle.board.proofs.Board.place.Goals as goal

pub returns-in-Some : goal.returns-in-Some
returns-in-Some g c =
    let same : c.set_placing-in-Some.new.self ≡ c.args.self.now.tables = c.set_placing-in-Some.ensures.tables ∙ ap (λ t. with_entry t c.args.operation None) c.set_placing.ensures.tables ∙ put_back c.args.self.now.tables c.args.operation _ c.in_ok-judge.ensures.free in
    record {
      answer = search (rules, same);
      plan = search (rules, same);
      kept = search rules;
      refused = search (rules, same);
    }
