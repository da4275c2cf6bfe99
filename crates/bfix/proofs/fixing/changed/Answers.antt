use Rattle.std.proofs.Common.{◌∙◌, ◌≤◌, ◌+◌, ◌++◌, IfSome, ap, arith, drop, length, refl, subst, sym, take}
use Rattle.bsources.specs.Files.{files_shown}
use Rattle.bcheck.specs.Findings.{IsChange}
use Rattle.bcheck.specs.Right.{IsRight}
use Rattle.bcheck.specs.Spares.{IsSpared}
use Rattle.bfix.specs.Keeping.{are_among, kept_of}
use Rattle.bfix.proofs.FixSteps.{made_by}
use Rattle.bfix.proofs.fixing.changed.Goals as goal

pub returns-then-branch : goal.returns-then-branch
returns-then-branch c =
    let frame = c.args.frame.now in
    let old = c.args.old.now in
    let rest = frame.rest.now in
    let change = c.in-Some.change in
    let whole = c.as_slice.result.now in
    let new = c.as_slice-then-is_small-2.result.now in
    let text = c.in_ok-text.text in
    let is_change : IsChange frame.edition (files_shown frame.files) whole change =
    subst (λ x. IfSome x (IsChange frame.edition (files_shown frame.files) whole)) c.in-Some.is
    c.in_ok-found.ensures.change in
    let is_spared : IsSpared frame.edition whole change =
    subst (λ x. IfSome x (IsSpared frame.edition whole)) c.in-Some.is c.in_ok-found.ensures.spared in
    let wrong : IsRight frame.edition (files_shown frame.files) whole → ⊥ =
    subst (λ x. IfSome x (λ found. IsRight frame.edition (files_shown frame.files) whole → ⊥)) c.in-Some.is
    c.in_ok-found.ensures.wrong in
    let within : change.start + change.len ≤ length old = omega (arith, c.if-len-old.false, c.if-start-old.false) in
    made_by frame old whole new change change.text change.line change.start change.len
    (record { text = text; lines = change.line })
    (c.as_slice.ensures ∙ c.in_ok-whole.ensures) is_change is_spared wrong refl refl refl refl within
    (c.in_ok-text.ensures
    ∙ ap (λ w. take change.start old ++ (w ++ drop (change.start + change.len) old)) c.as_slice-2.ensures) refl
    (c.as_slice-then-is_small-2.ensures ∙ c.in_ok-new.ensures ∙ ap (λ t. t ++ rest) c.as_slice-3.ensures)
    (subst (λ t. length t ≤ frame.most) c.as_slice-4.ensures c.if-is_small.true)
    (ap (λ w. are_among (kept_of frame.edition w) (kept_of frame.edition new))
    (c.as_slice.ensures ∙ sym c.as_slice-then-is_small.ensures) ∙ sym c.in_ok-keeps.ensures ∙ c.if-branch.true)
