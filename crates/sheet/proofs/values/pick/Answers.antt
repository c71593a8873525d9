use Rattle.std.proofs.Common.{◌≡◌, ap, ◌∙◌, get_or, pos, arith, w64, SFits, rules}
use Rattle.std.proofs.lemmas.Int.{to_z-of_z}
use Rattle.graphs.specs.Values.{value_in}
use Rattle.graphs.proofs.Valued.{pick_more}
use Rattle.sheet.proofs.values.pick.Goals as goal

pub loop-k-preserved : goal.loop-k-preserved
loop-k-preserved c =
    let v = value_in c.args.values.now c.from.result in
    let fits : SFits w64 v = search rules in
    let place : c.from.result ≡ get_or c.args.named.now c.loop-k.k 0 = search rules in
    pick_more (value_in c.args.values.now) c.args.named.now c.args.out.now c.loop-k.out c.loop-k.k _ c.loop-k.invariant c.loop-k-test.true (omega arith)
    (to_z-of_z w64 v fits ∙ ap (λ x. get_or c.args.values.now x (pos 0)) place)
