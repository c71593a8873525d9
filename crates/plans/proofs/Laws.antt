-- The law, from its parts.
use Rattle.plans.specs.Law.{Law}
use Rattle.plans.specs.Calls.{plan_after}
use Rattle.plans.proofs.Rules.{rules, lawful}
use Rattle.plans.proofs.Runs.{plans_lawful, in_order}

pub law : Law
law G P wf sound =
    record {
      lawful = λ cs. lawful G P (plan_after G P cs) (plans_lawful G P wf cs);
      order = λ cs full l whole part os m. in_order G P full (rules G P full sound l) whole os (plan_after G P cs) part m;
    }
