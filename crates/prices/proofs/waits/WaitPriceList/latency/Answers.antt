-- Since the list below is sound, it answers 0 only where a wait answers 0 too.
use Rattle.std.proofs.Common.{arith}
use Rattle.prices.specs.WaitLaw.{wait_none}
use Rattle.prices.proofs.waits.WaitPriceList.latency.Goals as goal

pub returns-in-0 : goal.returns-in-0
returns-in-0 g c =
    let x = c.args.self.now in
    let e = wait_none x.steps (g.L.PriceList.prices x.list) (g.met.L.PriceList.sound x.list) g.K.Kind.code (g.K.Kind.shape c.args.w) (omega arith) in
    omega arith
