-- Each cell is a term of the sum.
use Rattle.std.specs.Prelude.{ℕ, ◌+◌, ◌≤◌}
use Rattle.std.proofs.Common.{ap, ◌∙◌, arith, rules}
use Rattle.widths.specs.Kinds.{sides_of}
use Rattle.prices.specs.Sums.{total}
use Rattle.prices.specs.Lists.{breadth}
use Rattle.prices.specs.Prices.{cell_charge}
use Rattle.prices.specs.Totals.{total_most}
use Rattle.prices.specs.GrainLaw.{cell_bounded}
use Rattle.prices.proofs.Terms.{sum_is_total, sum_fits}
use Rattle.prices.proofs.grains.Grain.row_below.Goals as goal

pub sum-requires-clause-fits : goal.sum-requires-clause-fits
sum-requires-clause-fits g c = sum_fits _ c.breadth.result (search rules) c.map.ensures.source c.map.ensures.closure (λ x y q k. search rules)

pub returns-clause-value : goal.returns-clause-value
returns-clause-value g c =
    let f : ℕ → ℕ = λ j. cell_charge (g.L.PriceList.prices c.args.self.now.list) g.K.Kind.code (sides_of c.args.c.p (c.args.c.q + j)) in
    sum_is_total _ f c.breadth.result c.sum.result c.sum.ensures.ran c.map.ensures.source c.map.ensures.closure (λ x y q k. search rules)
    ∙ ap (total f) c.breadth.ensures

pub returns-clause-bound : goal.returns-clause-bound
returns-clause-bound g c =
    let P = g.L.PriceList.prices c.args.self.now.list in
    let k = g.K.Kind.code in
    let f : ℕ → ℕ = λ j. cell_charge P k (sides_of c.args.c.p (c.args.c.q + j)) in
    let n = breadth c.args.self.now.size c.args.c.q in
    let few : n ≤ 8 = search rules in
    omega (arith, returns-clause-value g c, total_most f 4194304 n (λ j l. cell_bounded P (g.met.L.PriceList.sound c.args.self.now.list) k (sides_of c.args.c.p (c.args.c.q + j))))
