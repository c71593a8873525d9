use Rattle.std.proofs.Common.{◌<◌, ◌≢◌, length, arith, get_or-set_other, get_or-set_same, below_more}
use Rattle.std.proofs.lemmas.List.{length-set}
use Rattle.board.proofs.Board.lives.Goals as goal

pub loop-o-preserved : goal.loop-o-preserved
loop-o-preserved g c =
    let low : c.loop-o.o < length c.loop-o.lives = omega arith in (
      simp length-set c.loop-o.invariant.0,
      below_more _ _ (λ k h. let other : k ≢ c.loop-o.o = omega arith in rw get_or-set_other (c.loop-o.invariant.1 k h)) (rw get_or-set_same c.life_of.ensures),
    )
