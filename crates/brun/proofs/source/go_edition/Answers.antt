use Rattle.std.proofs.Common.{refl}
use Rattle.brun.proofs.GoSteps.{goes_stopped, goes_ran}
use Rattle.brun.proofs.HeadlineSteps.{headline}
use Rattle.brun.proofs.source.go_edition.Goals as goal

pub returns-then-status-ne-DONE-clause-goes : goal.returns-then-status-ne-DONE-clause-goes
returns-then-status-ne-DONE-clause-goes g c =
    goes_stopped c.args.edition c.args.steps _ _ _ _ c.compile_list-status.result.0 c.if-status-ne-DONE.true (record { unread = refl; silent = refl }) c.compile_list-status.ensures.compiles

pub returns-clause-goes : goal.returns-clause-goes
returns-clause-goes g c =
    goes_ran c.args.edition c.args.steps _ _ _ _ c.compile_list-status.result.0 c.run_definitions.result c.compile_list-status.result.1.items c.if-status-ne-DONE.false c.compile_list-status.ensures.compiles c.run_definitions.ensures.runs

pub returns-then-status-ne-DONE-clause-headline : goal.returns-then-status-ne-DONE-clause-headline
returns-then-status-ne-DONE-clause-headline g c =
    headline _ _ _ _ _ _ (returns-then-status-ne-DONE-clause-goes g c)

pub returns-clause-headline : goal.returns-clause-headline
returns-clause-headline g c = headline _ _ _ _ _ _ (returns-clause-goes g c)
