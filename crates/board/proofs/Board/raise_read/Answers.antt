use Rattle.std.proofs.Common.{get_or, ap, ◌∙◌, arith}
use Rattle.plans.specs.Plans.{start_of}
use Rattle.board.specs.Boards.{graph_on, plan_on}
use Rattle.board.proofs.Meetings.{read_more}
use Rattle.board.proofs.Board.raise_read.Goals as goal

pub loop-r-preserved : goal.loop-r-preserved
loop-r-preserved g c = λ x h.
    read_more (graph_on c.args.self.now) (plan_on c.args.self.now).placed c.operations-operation-items.result.now c.operations-operation-items.ensures c.loop-r.r x c.start_of.result
    (get_or c.args.until.now x 0) (get_or c.loop-r.until x 0) (get_or c.raise_operands.new.until x 0)
    (c.start_of.ensures ∙ ap start_of c.placed.ensures) (c.loop-r.invariant x h) (c.raise_operands.ensures x (omega arith))
