use Rattle.board.proofs.Writes.{nothing_yet}
use Rattle.board.proofs.tables.Tables.new.Goals as goal

pub returns : goal.returns
returns c = nothing_yet
