use Rattle.std.proofs.Common.{inl, inr, refl}
use Rattle.bcore.specs.declared.tools.ToolJob.TheVariants as jobs
use Rattle.bcore.proofs.Answered.{held, named_for}
use Rattle.bcli.proofs.Answered.{used}
use Rattle.bcli.proofs.serving.AllToolsTools.answer.Goals as goal

pub returns-in-Ok-clause-answers : goal.returns-in-Ok-clause-answers
returns-in-Ok-clause-answers g c =
    used _ c.args.job (jobs.LocateCode c.in-LocateCode.file c.in-LocateCode.steps) _ _ c.in-LocateCode.is
    (inr (c.as_slice.result.now, held (g.S.Shelf.holdings c.args.shelf.now) c.in-LocateCode.file.now _ _ c.as_slice.ensures.value c.in-Ok.ensures.text, c.locate_code.ensures.locates))

pub returns-in-Err-clause-answers : goal.returns-in-Err-clause-answers
returns-in-Err-clause-answers g c =
    used _ c.args.job (jobs.LocateCode c.in-LocateCode.file c.in-LocateCode.steps) _ _ c.in-LocateCode.is
    (inl (named_for _ _ _ _ _ c.in-Err.ensures.fault (c.name_file.ensures.names (g.I.ByteIn.incoming c.args.input.now) (g.O.ByteOut.outgoing c.args.out.now))))

pub returns-in-Ok-read-clause-answers : goal.returns-in-Ok-read-clause-answers
returns-in-Ok-read-clause-answers g c =
    used _ c.args.job (jobs.Verify c.in-Verify.file) _ _ c.in-Verify.is
    (inr (c.as_slice-in-Ok-read.result.now, held (g.S.Shelf.holdings c.args.shelf.now) c.in-Verify.file.now _ _ c.as_slice-in-Ok-read.ensures.value c.in-Ok-read.ensures.text, c.verify_text.ensures.verifies, refl))

pub returns-in-Err-read-clause-answers : goal.returns-in-Err-read-clause-answers
returns-in-Err-read-clause-answers g c =
    used _ c.args.job (jobs.Verify c.in-Verify.file) _ _ c.in-Verify.is
    (inl (named_for _ _ _ _ _ c.in-Err-read.ensures.fault (c.name_file-in-Err-read.ensures.names (g.I.ByteIn.incoming c.args.input.now) (g.O.ByteOut.outgoing c.args.out.now))))

pub returns-in-Ask-clause-answers : goal.returns-in-Ask-clause-answers
returns-in-Ask-clause-answers g c =
    used _ c.args.job (jobs.Ask c.in-Ask.source c.in-Ask.question) _ _ c.in-Ask.is c.ask_file.ensures.does

pub returns-in-CheckBy-clause-answers : goal.returns-in-CheckBy-clause-answers
returns-in-CheckBy-clause-answers g c =
    used _ c.args.job (jobs.CheckBy c.in-CheckBy.source c.in-CheckBy.rules c.in-CheckBy.for_editor) _ _ c.in-CheckBy.is (c.check_file.ensures.checks (g.I.ByteIn.incoming c.args.input.now))

pub returns-in-Find-clause-answers : goal.returns-in-Find-clause-answers
returns-in-Find-clause-answers g c =
    used _ c.args.job (jobs.Find c.in-Find.search) _ _ c.in-Find.is (c.find_all.ensures.finds (g.I.ByteIn.incoming c.args.input.now))
