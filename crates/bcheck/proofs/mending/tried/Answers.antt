use Rattle.std.proofs.Common.{◌∙◌, subst, sym}
use Rattle.bsources.specs.Files.{files_shown}
use Rattle.bcheck.specs.Findings.{IsEdit}
use Rattle.bcheck.proofs.mending.tried.Goals as goal

pub returns-then-branch : goal.returns-then-branch
returns-then-branch c =
    let bench = c.args.bench.now in (
      c.as_slice.result.now,
      subst (λ t. IsEdit (files_shown bench.files) bench.source.text.now t c.in-Some.edit) (sym (c.as_slice.ensures ∙ c.in_ok-new.ensures)) c.in-Some.ensures.edit,
      c.in_ok-improves.ensures c.if-branch.true,
    )
