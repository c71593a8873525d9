use Rattle.std.proofs.Common.{arith}
use Rattle.std.proofs.lemmas.List.{get_or-replicate}
use Rattle.board.proofs.Meetings.{few_stand}
use Rattle.board.proofs.lives.crowd.Goals as goal

pub loop-life-init : goal.loop-life-init
loop-life-init c = λ q h. get_or-replicate 64 q 0 0 h

pub enter-requires : goal.enter-requires
enter-requires c = λ q h. omega (arith, c.loop-life.invariant q (omega arith), few_stand c.args.lives.now q c.loop-life.life-index)
