use Rattle.std.proofs.Common.{inl, inr, refl}
use Rattle.bcommand.specs.declared.job.Job.TheVariants as jobs
use Rattle.bcore.proofs.Answered.{done, held, not_read}
use Rattle.bcore.proofs.serving.perform.Goals as goal

pub returns-in-Compile-clause-does : goal.returns-in-Compile-clause-does
returns-in-Compile-clause-does g c =
    done g.T.Tools.answers _ c.args.job (jobs.Compile c.in-Compile.edition c.in-Compile.libs) _ _ c.in-Compile.is c.compile_input.ensures.compiles

pub returns-in-Ok-clause-does : goal.returns-in-Ok-clause-does
returns-in-Ok-clause-does g c =
    done g.T.Tools.answers _ c.args.job (jobs.Run c.in-Run.file c.in-Run.steps) _ _ c.in-Run.is
    (inr (c.as_slice.result.now, held (g.S.Shelf.holdings c.args.shelf.now) c.in-Run.file.now _ _ c.as_slice.ensures.value c.in-Ok.ensures.text, c.run_text.ensures.runs))

pub returns-in-Err-clause-does : goal.returns-in-Err-clause-does
returns-in-Err-clause-does g c =
    done g.T.Tools.answers _ c.args.job (jobs.Run c.in-Run.file c.in-Run.steps) _ _ c.in-Run.is
    (inl (not_read _ c.in-Err.fault _ _ (record { unread = refl; silent = refl }) refl c.in-Err.ensures.fault c.status_of.ensures))

pub returns-in-Go-clause-does : goal.returns-in-Go-clause-does
returns-in-Go-clause-does g c =
    done g.T.Tools.answers _ c.args.job (jobs.Go c.in-Go.source c.in-Go.steps) _ _ c.in-Go.is c.go_file.ensures.goes

pub returns-in-Migrate-clause-does : goal.returns-in-Migrate-clause-does
returns-in-Migrate-clause-does g c = done g.T.Tools.answers _ c.args.job jobs.Migrate _ _ c.in-Migrate.is c.migrate.ensures.migrates

pub returns-in-LocateCode-clause-does : goal.returns-in-LocateCode-clause-does
returns-in-LocateCode-clause-does g c =
    done g.T.Tools.answers _ c.args.job (jobs.LocateCode c.in-LocateCode.file c.in-LocateCode.steps) _ _ c.in-LocateCode.is c.answer.ensures.answers

pub returns-in-Verify-clause-does : goal.returns-in-Verify-clause-does
returns-in-Verify-clause-does g c =
    done g.T.Tools.answers _ c.args.job (jobs.Verify c.in-Verify.file) _ _ c.in-Verify.is c.answer-in-Verify.ensures.answers

pub returns-in-Ask-clause-does : goal.returns-in-Ask-clause-does
returns-in-Ask-clause-does g c =
    done g.T.Tools.answers _ c.args.job (jobs.Ask c.in-Ask.source c.in-Ask.question) _ _ c.in-Ask.is c.answer-in-Ask.ensures.answers

pub returns-in-CheckBy-clause-does : goal.returns-in-CheckBy-clause-does
returns-in-CheckBy-clause-does g c =
    done g.T.Tools.answers _ c.args.job (jobs.CheckBy c.in-CheckBy.source c.in-CheckBy.rules c.in-CheckBy.for_editor) _ _ c.in-CheckBy.is c.answer-in-CheckBy.ensures.answers

pub returns-in-Find-clause-does : goal.returns-in-Find-clause-does
returns-in-Find-clause-does g c =
    done g.T.Tools.answers _ c.args.job (jobs.Find c.in-Find.search) _ _ c.in-Find.is c.answer-in-Find.ensures.answers
