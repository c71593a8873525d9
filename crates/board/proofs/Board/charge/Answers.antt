use Rattle.std.proofs.Common.{ℕ, ◌+◌, None, ap₂, ◌∙◌, rules}
use Rattle.board.proofs.Sums.{units_total}
use Rattle.board.proofs.Board.charge.Goals as goal

pub returns : goal.returns
returns g c =
    let adders = c.charged-adders.ensures.sum ∙ units_total _ c.args.self.now.tables.adders None (search rules) in
    let multipliers = c.charged-multipliers.ensures.sum ∙ units_total _ c.args.self.now.tables.multipliers None (search rules) in
    let registers = c.charged-registers.ensures.sum ∙ units_total _ c.args.self.now.tables.registers None (search rules) in
    ap₂ (λ (u r : ℕ). (u, r)) (ap₂ ◌+◌ adders multipliers) registers
