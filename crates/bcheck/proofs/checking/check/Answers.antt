use Rattle.bsources.specs.Files.{files_shown}
use Rattle.bcheck.proofs.CheckSteps.{checked}
use Rattle.bcheck.proofs.checking.check.Goals as goal

pub returns-clause-checks : goal.returns-clause-checks
returns-clause-checks g c =
    let form = c.args.asked.form in
    let files = files_shown c.args.asked.files in
    checked form files c.in-Ok.judgement.verdict c.args.asked.edition c.args.source.now c.shown-first.result.now c.as_slice.result.now c.status.result _ _ c.tell_both.result c.in-Ok.ensures.judged c.shown-first.ensures c.status.ensures
    (rw c.as_slice.ensures c.in-Ok-explain.ensures) (λ o are. c.tell_both.ensures.tells form o files are)
