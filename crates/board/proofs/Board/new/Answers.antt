-- The law is proved over every well-formed graph and sound list; a job is the one, a list the other.
use Rattle.plans.proofs.Laws.{law}
use Rattle.sheet.specs.Jobs.{graph_of}
use Rattle.board.proofs.Board.new.Goals as goal

pub returns-clause-law : goal.returns-clause-law
returns-clause-law g c = law (graph_of c.args.job) (g.L.PriceList.prices c.args.list) c.args.job.formed (g.met.L.PriceList.sound c.args.list)
