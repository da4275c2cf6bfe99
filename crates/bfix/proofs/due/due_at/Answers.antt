use Rattle.std.proofs.Common.{◌≡◌, ◌∙◌, ◌≤◌, ◌+◌, IfSome, [], ◌∷◌, ◌++◌, ap, arith, length, refl, subst, sym, false, true}
use Rattle.std.specs.Prelude.{is_some}
use Rattle.bsources.specs.Files.{files_shown}
use Rattle.bcheck.specs.Findings.{Improves, IsChange}
use Rattle.bcheck.specs.Right.{IsRight}
use Rattle.bcheck.specs.Boundaries.{PutsSemicolon, with_semicolon}
use Rattle.bcheck.specs.Spares.{IsSpared}
use Rattle.bfix.specs.Fixes.{setting_of}
use Rattle.bfix.specs.Keeping.{are_among, kept_of}
use Rattle.bfix.proofs.DueSteps.{improves_whole, in_whole, is_spared}
use Rattle.bfix.proofs.FixSteps.{made_by}
use Rattle.bfix.proofs.due.due_at.Goals as goal

pub returns-in_default-clause-none : goal.returns-in_default-clause-none
returns-in_default-clause-none c = λ same due.
    let frame = c.args.frame.now in
    let s = setting_of frame in
    let old = c.args.old.now in
    let whole = c.as_slice-6.result.now in
    let new = c.as_slice-5.result.now in
    let w = c.as_slice-6.ensures ∙ c.in_ok-whole.ensures in
    let n = c.as_slice-5.ensures ∙ c.in_ok-new.ensures ∙ ap (λ t. t ++ frame.rest.now) c.as_slice.ensures in
    let text = c.in_ok-text.text in
    let is = c.in_ok-text.ensures in
    let some =
    c.in_ok-found.ensures.some
    (in_whole s old c.args.place text whole new is w n due.within)
    (is_spared s old c.args.place text whole new is w n due) in
    let no : false ≡ true = ap is_some (sym c.in_default.is) ∙ some in cc

pub returns-clause-made : goal.returns-clause-made
returns-clause-made c =
    let frame = c.args.frame.now in
    let edition = frame.edition in
    let files = files_shown frame.files in
    let s = setting_of frame in
    let old = c.args.old.now in
    let place = c.args.place in
    let whole = c.as_slice-6.result.now in
    let new = c.as_slice-5.result.now in
    let w = c.as_slice-6.ensures ∙ c.in_ok-whole.ensures in
    let n = c.as_slice-5.ensures ∙ c.in_ok-new.ensures ∙ ap (λ t. t ++ frame.rest.now) c.as_slice.ensures in
    let text = c.in_ok-text.text in
    let is = c.in_ok-text.ensures in
    let change = c.in-Some.change in
    let within : place ≤ length old = omega (arith, c.if-place-old.false) in
    let better : Improves edition whole (with_semicolon whole place) =
    improves_whole s old place text whole new is w n within (c.in_ok-is_right.ensures.done c.if-not-branch-2.false) in
    let puts : PutsSemicolon place change =
    subst (λ x. IfSome x (PutsSemicolon place)) c.in-Some.is c.in_ok-found.ensures.puts in
    let spared : IsSpared edition whole change =
    subst (λ x. IfSome x (IsSpared edition whole)) c.in-Some.is c.in_ok-found.ensures.spared in
    let made : Improves edition whole (with_semicolon whole place) → IsChange edition files whole change =
    subst (λ x. IfSome x (λ it. Improves edition whole (with_semicolon whole place) → IsChange edition files whole it))
    c.in-Some.is c.in_ok-found.ensures.change in
    let last = c.as_slice-4.result.now in
    made_by frame old whole last change (59 ∷ []) change.line place 0 (record { text = text; lines = change.line }) w
    (made better) spared (subst (λ x. IsRight edition files x → ⊥) (sym w) c.requires) (sym puts.0) (sym puts.1)
    (sym puts.2) refl (omega (arith, within)) is refl
    (c.as_slice-4.ensures ∙ c.in_ok-new.ensures ∙ ap (λ t. t ++ frame.rest.now) c.as_slice.ensures)
    (subst (λ t. length t ≤ frame.most) c.as_slice-2.ensures (omega (arith, c.if-as_slice-frame.false)))
    (ap (λ x. are_among (kept_of edition x) (kept_of edition last)) (c.as_slice-6.ensures ∙ sym c.as_slice-3.ensures)
    ∙ sym c.in_ok-keeps.ensures ∙ c.if-not-branch.false)
