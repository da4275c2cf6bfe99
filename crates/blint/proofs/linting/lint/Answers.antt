use Rattle.std.proofs.lemmas.Result.{IfOk-weaker}
use Rattle.bsources.specs.Files.{files_shown}
use Rattle.blint.proofs.LintSteps.{lint_warns}
use Rattle.blint.proofs.linting.lint.Goals as goal

pub returns : goal.returns
returns c =
    let p = c.args.program.now in
    IfOk-weaker c.told.result _ _
    (λ cautions h.
    lint_warns p.edition (files_shown p.files) p.text.now c.in_ok-cut.cut _ _ c.in_ok-rows.rows.items _ _ _ cautions.items c.in_ok-cut.ensures c.as_slice.ensures.value c.as_slice-2.ensures.value c.in_ok-rows.ensures c.as_slice-3.ensures.value
    c.in_ok-notices.ensures c.as_slice-5.ensures.value h)
    c.told.ensures
