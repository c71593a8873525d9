-- Each row is a term of the sum.
use Rattle.std.specs.Prelude.{ℕ, ◌+◌}
use Rattle.std.proofs.Common.{rules}
use Rattle.widths.specs.Kinds.{sides_of}
use Rattle.prices.specs.Sums.{total}
use Rattle.prices.specs.Lists.{breadth}
use Rattle.prices.specs.Prices.{cell_charge}
use Rattle.prices.proofs.Terms.{sum_is_total, sum_fits}
use Rattle.prices.proofs.grains.Grain.block_below.Goals as goal

pub sum-requires-clause-fits : goal.sum-requires-clause-fits
sum-requires-clause-fits g c = sum_fits _ c.args.self.now.size (search rules) c.map.ensures.source c.map.ensures.closure (λ x y q k. search rules)

pub returns : goal.returns
returns g c =
    let size = c.args.self.now.size in
    let f : ℕ → ℕ = λ i. total (λ j. cell_charge (g.L.PriceList.prices c.args.self.now.list) g.K.Kind.code (sides_of (c.args.c.p + i) (c.args.c.q + j))) (breadth size c.args.c.q) in
    sum_is_total _ f size c.sum.result c.sum.ensures.ran c.map.ensures.source c.map.ensures.closure (λ x y q k. search rules)
