use Rattle.std.proofs.Common.{max, cond, eqb, get_or, ap, ◌∙◌, arith}
use Rattle.board.specs.Boards.{graph_on}
use Rattle.board.proofs.Meetings.{output_more, output_all}
use Rattle.board.proofs.Board.raise_outputs.Goals as goal

pub loop-o-preserved : goal.loop-o-preserved
loop-o-preserved g c = λ x h.
    let n = get_or c.loop-o.until x 0 in
    let k = c.loop-o.o-index in
    let given = c.outputs-o-items.result.now in
    let e = c.raise.ensures x (omega arith) ∙ ap (λ l. max n (cond (eqb (get_or given k 0) x) l 0)) (c.into-limit.ensures ∙ c.limit.ensures) in
    output_more (graph_on c.args.self.now).outputs given c.outputs-o-items.ensures k x (graph_on c.args.self.now).limit (get_or c.args.until.now x 0) n (get_or c.raise.new.until x 0) (c.loop-o.invariant x h) e

pub returns : goal.returns
returns g c = λ x h.
    output_all (graph_on c.args.self.now) c.outputs-o-items.result.now c.outputs-o-items.ensures c.loop-o.o-index x (get_or c.args.until.now x 0) (get_or c.loop-o.until x 0) c.loop-o-test.false (omega arith) (c.loop-o.invariant x h)
