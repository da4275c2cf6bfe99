use Rattle.std.proofs.Common.{IfSome, ◌∙◌, ap, subst, sym}
use Rattle.bsources.specs.Files.{files_shown}
use Rattle.bcheck.specs.Findings.{IsTried}
use Rattle.bcheck.specs.Spares.{spares_at}
use Rattle.bcheck.proofs.ChangeSteps.{change_is}
use Rattle.bcheck.proofs.change.only_change.Goals as goal

pub returns-in_ok-change-clause-change : goal.returns-in_ok-change-clause-change
returns-in_ok-change-clause-change c =
    let bench = c.args.bench.now in
    let edition = bench.source.edition in
    let files = files_shown bench.files in
    let source = bench.source.text.now in
    change_is edition files source c.in-Some.edit c.in_ok-change.change (subst (λ x. IfSome x (IsTried edition files source)) c.in-Some.is c.in_ok-found.ensures) c.in_ok-change.ensures

pub returns-in_ok-change-clause-spared : goal.returns-in_ok-change-clause-spared
returns-in_ok-change-clause-spared c =
    let edition = c.args.bench.now.source.edition in
    let source = c.args.bench.now.source.text.now in
    let edit = c.in-Some.edit in
    let change = c.in_ok-change.change in
    let is = c.in_ok-change.ensures in
    ap (λ n. spares_at edition source n change.len change.text) is.0
    ∙ ap (λ n. spares_at edition source edit.start n change.text) is.1
    ∙ ap (spares_at edition source edit.start edit.len) is.2
    ∙ sym c.in_ok-spared.ensures ∙ c.if-spared.true
