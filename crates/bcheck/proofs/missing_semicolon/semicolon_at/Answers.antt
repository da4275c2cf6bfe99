use Rattle.std.proofs.Common.{◌≡◌, ◌∙◌, [], ◌∷◌, ◌++◌, ap, codes, drop, subst, sym, take}
use Rattle.std.proofs.lemmas.List.{length-take-le}
use Rattle.bsources.specs.Files.{files_shown}
use Rattle.bcheck.specs.Findings.{Improves}
use Rattle.bcheck.specs.Spares.{spares_at}
use Rattle.bcheck.proofs.ChangeSteps.{change_is}
use Rattle.bcheck.proofs.missing_semicolon.semicolon_at.Goals as goal

pub returns-clause-change : goal.returns-clause-change
returns-clause-change c = λ better.
    let edition = c.args.edition in
    let source = c.args.source.now in
    let place = c.args.place in
    let text : c.push.new.self ≡ 59 ∷ [] = c.in_ok-push.ensures ∙ ap (λ t. t ++ codes ";") c.new-text.ensures in
    change_is edition (files_shown c.args.files.now) source c.in-Some.edit c.in_ok-change.change (
      _,
      c.in-Some.ensures.edit,
      subst (λ t. Improves edition source (take place source ++ (t ++ drop place source))) (sym text) better,
    )
    c.in_ok-change.ensures

pub returns-clause-spared : goal.returns-clause-spared
returns-clause-spared c =
    let edition = c.args.edition in
    let source = c.args.source.now in
    let edit = c.in-Some.edit in
    let change = c.in_ok-change.change in
    let is = c.in_ok-change.ensures in
    ap (λ n. spares_at edition source n change.len change.text) is.0
    ∙ ap (λ n. spares_at edition source edit.start n change.text) is.1
    ∙ ap (spares_at edition source edit.start edit.len) is.2
    ∙ sym c.in_ok-is_spared.ensures ∙ c.if-not-branch.false

pub returns-then-not-branch-clause-some : goal.returns-then-not-branch-clause-some
returns-then-not-branch-clause-some c = λ h e.
    let edition = c.args.edition in
    let source = c.args.source.now in
    let place = c.args.place in
    let edit = c.in-Some.edit in
    let is = c.in-Some.ensures.places in
    let text : c.push.new.self ≡ 59 ∷ [] = c.in_ok-push.ensures ∙ ap (λ t. t ++ codes ";") c.new-text.ensures in
    sym c.if-not-branch.true ∙ c.in_ok-is_spared.ensures
    ∙ ap (λ n. spares_at edition source n edit.len edit.text.now) (is.0 ∙ length-take-le place source h)
    ∙ ap (λ n. spares_at edition source place n edit.text.now) is.1
    ∙ ap (spares_at edition source place 0) (is.2 ∙ text) ∙ e
