use Rattle.std.proofs.Common.{◌≡◌, rules, tests, arith}
use Rattle.std.specs.List.{sum_by}
use Rattle.std.specs.Option.{option_map}
use Rattle.std.proofs.lemmas.Iterator.{YieldsList-from_slice, YieldsList-from_map}
use Rattle.std.proofs.lemmas.Iterator.Adapters.{fits_from_length, at_most_from_yields_List}
use Rattle.std.proofs.lemmas.Iterator.Consumers.{sum_by_from_yields_List}
use Rattle.plans.specs.Charges.{unit_charge}
use Rattle.board.specs.Boards.{list_on}
use Rattle.board.proofs.Sums.{charged_most}
use Rattle.board.proofs.Board.charged.Goals as goal

pub sum-requires-clause-fits : goal.sum-requires-clause-fits
sum-requires-clause-fits g c = fits_from_length _ _ 64 _ (at_most_from_yields_List (YieldsList-from_slice c.args.table.now cc) (omega arith)) c.map.ensures.closure (omega arith) (λ x r q k. search (rules, tests))

pub returns-clause-most : goal.returns-clause-most
returns-clause-most g c =
    let P = g.L.PriceList.prices (list_on c.args.self.now) in
    let k = g.K.Kind.code in
    let sum : c.sum.result ≡ sum_by (λ u. unit_charge P k (option_map g.K.Kind.shape u)) c.args.table.now = sum_by_from_yields_List _ _ c.map.result _ c.sum.ensures.ran (YieldsList-from_map _ (λ u. unit_charge P k (option_map g.K.Kind.shape u)) (YieldsList-from_slice c.args.table.now cc) c.map.ensures.closure (λ x r q d. search (rules, tests))) in
    omega (arith, sum, charged_most P (g.met.L.PriceList.sound (list_on c.args.self.now)) k g.K.Kind.shape c.args.table.now c.requires)
