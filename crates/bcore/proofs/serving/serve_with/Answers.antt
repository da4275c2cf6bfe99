use Rattle.bcore.proofs.Answered.{complained, served}
use Rattle.bcore.proofs.serving.serve_with.Goals as goal

pub returns-in-Ok-parse-clause-serves : goal.returns-in-Ok-parse-clause-serves
returns-in-Ok-parse-clause-serves g c =
    served g.T.Tools.answers (g.S.Shelf.holdings c.args.shelf.now) _ c.as_slice.result.now c.in-Ok.words.items c.job_of.result _ _ _
    c.as_slice.ensures.value c.in-Ok.ensures c.in-Ok-parse.ensures.ok c.job_of.ensures c.perform.ensures.does

pub returns-clause-serves : goal.returns-clause-serves
returns-clause-serves g c =
    complained g.T.Tools.answers (g.S.Shelf.holdings c.args.shelf.now) _ c.as_slice.result.now c.in-Ok.words.items _ _ _
    c.as_slice.ensures.value c.in-Ok.ensures c.in-Err.ensures.err (c.refuse.ensures.refuses _)
