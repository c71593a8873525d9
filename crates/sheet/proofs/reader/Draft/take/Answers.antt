use Rattle.std.proofs.Common.{inr}
use Rattle.graphs.proofs.Exits.{err_from_exit}
use Rattle.sheet.proofs.Steps.{some_cause}
use Rattle.sheet.proofs.reader.Draft.take.Goals as goal

pub returns-in_err-judge : goal.returns-in_err-judge
returns-in_err-judge c =
    rw (err_from_exit c.from_residual.result c.in_err-judge.field-0.0 c.from_residual.ensures.1) (inr (some_cause _ _ c.in_err-judge.ensures))
