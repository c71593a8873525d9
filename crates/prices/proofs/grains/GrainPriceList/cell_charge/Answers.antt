-- A cell that starts a block costs the block's cells, each of which the list below has; any other costs nothing.
use Rattle.std.proofs.Common.{◌≡◌, true, sym, ap, ◌∙◌, rules}
use Rattle.widths.specs.Kinds.{is_cell}
use Rattle.prices.specs.Lists.{starts, block}
use Rattle.prices.specs.Prices.{cell_charge}
use Rattle.prices.specs.GrainLaw.{cell_started}
use Rattle.prices.proofs.grains.GrainPriceList.cell_charge.Goals as goal

pub returns-then-starts_block : goal.returns-then-starts_block
returns-then-starts_block g c =
    let P = g.L.PriceList.prices c.args.self.now.list in
    let k = g.K.Kind.code in
    let s = g.K.Kind.shape c.args.c in
    let size = c.args.self.now.size in
    let a : is_cell k s ≡ true = search rules in
    let b : starts size s.p ≡ true = search rules in
    let d : starts size s.q ≡ true = search rules in
    c.block_below.ensures ∙ ap (block size (cell_charge P k)) c.sides-s.ensures ∙ sym (cell_started P size c.args.self.now.size_ok k s a b d)
