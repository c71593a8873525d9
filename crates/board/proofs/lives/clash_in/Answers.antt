-- A value that does not stand in the register meets no other there; the rest is search from below.
use Rattle.std.proofs.Common.{length, get_or, None, sym, ap, ◌∙◌, arith}
use Rattle.std.proofs.lemmas.List.{get_or-take, length-take-le}
use Rattle.prices.proofs.Searches.{lowest_more}
use Rattle.plans.specs.Calls.{meet}
use Rattle.board.proofs.Searches.{any_more, any_hit, any_end, units_none, units_hit}
use Rattle.board.proofs.Meetings.{alone, lone}
use Rattle.board.proofs.lives.clash_in.Goals as goal

pub loop-x-preserved-then-not-is_in : goal.loop-x-preserved-then-not-is_in
loop-x-preserved-then-not-is_in c = (c.loop-x.invariant.0, any_more _ c.loop-x.x c.loop-x.invariant.1 (alone c.registers.q (get_or c.args.lives.now c.loop-x.x None) c.args.lives.now c.loop-x.x (sym c.if-not-is_in.ensures)))

pub registers-preserved-then-standing-lt2 : goal.registers-preserved-then-standing-lt2
registers-preserved-then-standing-lt2 c = (c.registers.invariant.0, lowest_more _ c.registers.q c.registers.invariant.1 (lone c.registers.q c.args.lives.now (length c.args.lives.now) (omega (arith, c.crowd-crowd.ensures c.registers.q (omega arith)))))

pub registers-preserved : goal.registers-preserved
registers-preserved c = (c.loop-x.invariant.0, lowest_more _ c.registers.q c.registers.invariant.1 (any_end _ c.loop-x.x (length c.args.lives.now) c.loop-x.invariant.1 (omega arith) (omega arith)))

pub returns-after-registers : goal.returns-after-registers
returns-after-registers c = c.registers.invariant.0 ∙ sym (units_none _ c.registers.q c.registers.invariant.1 (omega arith) (omega arith))

pub returns-then-is_shared : goal.returns-then-is_shared
returns-then-is_shared c =
    sym (units_hit _ c.registers.q (omega arith) c.registers.invariant.1
    (any_hit _ (length c.args.lives.now) c.loop-x.x (omega arith)
    (any_hit _ c.loop-x.x c.loop-other.other-index (omega (arith, length-take-le c.loop-x.x c.args.lives.now (omega arith)))
    (ap (meet c.registers.q (get_or c.args.lives.now c.loop-x.x None)) (sym (get_or-take c.loop-x.x c.args.lives.now c.loop-other.other-index None (omega (arith, length-take-le c.loop-x.x c.args.lives.now (omega arith))))) ∙ sym c.if-is_shared.ensures))))
