use Rattle.plans.proofs.Laws.{law}
use Rattle.plans.proofs.board_law.Goals as goal

pub returns : goal.returns
returns c = law
