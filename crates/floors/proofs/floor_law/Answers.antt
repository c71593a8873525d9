use Rattle.floors.proofs.Laws.{law}
use Rattle.floors.proofs.floor_law.Goals as goal

pub returns : goal.returns
returns c = law
