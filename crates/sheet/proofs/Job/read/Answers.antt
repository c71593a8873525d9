use Rattle.std.proofs.Common.{◌≡◌, ◌≤◌, length, Ok, sym, refl, ap, ◌∙◌, subst, inr, arith}
use Rattle.graphs.proofs.Exits.{err_from_exit}
use Rattle.graphs.specs.Commands.{sheet_format}
use Rattle.graphs.specs.Reading.{whole_graph}
use Rattle.sheet.specs.Drafts.{sofar, verdict_on}
use Rattle.sheet.proofs.Steps.{read_start, read_open, read_refused, read_told, read_on, read_whole, read_behind, goes_on}
use Rattle.graphs.proofs.Laws.{reading_law}
use Rattle.graphs.proofs.Scripts.{first_is}
use Rattle.sheet.proofs.Job.read.Goals as goal

pub loop-at-init : goal.loop-at-init
loop-at-init c =
    record {
      bytes = c.new-commands.ensures.bytes;
      inside = omega (arith, c.new-commands.ensures.place);
      decides =
          read_start c.args.bytes.now c.new-commands.result c.new-commands.ensures.bytes c.new-commands.ensures.place
          ∙ ap (λ d. verdict_on d c.new-commands.result) (sym c.new-draft.ensures);
    }

pub returns-in_err-command-clause-answer : goal.returns-in_err-command-clause-answer
returns-in_err-command-clause-answer c =
    rw (err_from_exit c.from_residual.result c.in_err-command.field-0.0 c.from_residual.ensures.1)
    (inr (read_refused c.args.bytes.now (sofar c.loop-at.draft) c.loop-at.commands refl c.loop-at.invariant.decides c.in-Some.at c.in-Some.command c.next.new.self c.in-Some.ensures.steps c.in_err-command.field-0.0 c.in_err-command.was))

pub returns-in_err-take-clause-answer : goal.returns-in_err-take-clause-answer
returns-in_err-take-clause-answer c =
    rw (err_from_exit c.from_residual-in_err-take.result c.in_err-take.field-0.0 c.from_residual-in_err-take.ensures.1)
    (read_told c.args.bytes.now (sofar c.loop-at.draft) c.loop-at.commands refl c.loop-at.invariant.decides c.in-Some.at c.in-Some.command c.next.new.self c.in-Some.ensures.steps c.in_ok-command.command c.in_ok-command.was c.in_err-take.field-0.0 c.in_err-take.ensures)

pub finish-requires : goal.finish-requires
finish-requires c =
    (reading_law c.args.bytes.now).formed (whole_graph (sofar c.take.new.self))
    (read_whole c.args.bytes.now (sofar c.loop-at.draft) c.loop-at.commands refl c.loop-at.invariant.decides c.in-Some.at c.in-Some.command c.next.new.self c.in-Some.ensures.steps c.in_ok-command.command c.in_ok-command.was c.in-End.is c.in_ok-take.ensures.0 (sofar c.take.new.self) c.in_ok-take.ensures.1 c.in-None.ensures.steps.0)

pub returns-in-None-clause-answer : goal.returns-in-None-clause-answer
returns-in-None-clause-answer c =
    read_whole c.args.bytes.now (sofar c.loop-at.draft) c.loop-at.commands refl c.loop-at.invariant.decides c.in-Some.at c.in-Some.command c.next.new.self c.in-Some.ensures.steps c.in_ok-command.command c.in_ok-command.was c.in-End.is c.in_ok-take.ensures.0 (sofar c.take.new.self) c.in_ok-take.ensures.1 c.in-None.ensures.steps.0
    ∙ ap Ok (sym c.finish.ensures)

pub returns-in-Some-next-clause-answer : goal.returns-in-Some-next-clause-answer
returns-in-Some-next-clause-answer c =
    let n = c.in-Some-next.ensures.steps in
    inr (rw n.0
    (read_behind c.args.bytes.now (sofar c.loop-at.draft) c.loop-at.commands refl c.loop-at.invariant.decides c.in-Some.at c.in-Some.command c.next.new.self c.in-Some.ensures.steps c.in_ok-command.command c.in_ok-command.was c.in-End.is c.in_ok-take.ensures.0 c.next-in-End.new.self c.in-Some-next.field-0-1 n.1))

pub loop-at-preserved : goal.loop-at-preserved
loop-at-preserved c =
    let s = c.in-Some.ensures.steps in
    let first = first_is sheet_format c.loop-at.commands c.next.new.self c.in-Some.command c.in_ok-command.command s.1 c.in_ok-command.was in
    record {
      bytes = first.bytes ∙ c.loop-at.invariant.bytes;
      inside = subst (λ x. c.next.new.self.at ≤ length x) c.loop-at.invariant.bytes first.inside;
      decides =
          read_on c.args.bytes.now (sofar c.loop-at.draft) c.loop-at.commands refl c.loop-at.invariant.decides c.in-Some.at c.in-Some.command c.next.new.self s c.in_ok-command.command c.in_ok-command.was c.in_ok-take.ensures.0
          ∙ ap (λ d. verdict_on d c.next.new.self) (sym (c.in_ok-take.ensures.1 ∙ goes_on c.loop-at.draft c.in_ok-command.command c.in_default-command.not-End));
    }

pub returns-clause-answer : goal.returns-clause-answer
returns-clause-answer c =
    let u = c.loop-at.commands in
    let k = c.loop-at.invariant.inside in
    let h = c.in_default.ensures.steps.0 in
    let l = ap length c.loop-at.invariant.bytes in
    let at : length c.args.bytes.now ≡ u.at = omega arith in
    inr (rw at (read_open c.args.bytes.now (sofar c.loop-at.draft) u refl c.loop-at.invariant.decides h))
