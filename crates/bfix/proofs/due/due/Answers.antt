use Rattle.std.proofs.Common.{◌≡◌, ◌∙◌, ◌*◌, ◌<◌, ◌≤◌, ◌++◌, None, ap, arith, length, subst, sym, vec_items}
use Rattle.bsources.specs.Files.{files_shown}
use Rattle.btools.proofs.Reading.{if_ok}
use Rattle.bcheck.specs.Checks.{EachOutcome}
use Rattle.bcheck.specs.Right.{IsRight}
use Rattle.bcheck.specs.Boundaries.{fault_boundaries}
use Rattle.bfix.specs.Due.{NoneDue}
use Rattle.bfix.specs.Fixes.{setting_of}
use Rattle.bfix.proofs.DueSteps.{settled_by, untried, wrong_of}
use Rattle.bfix.proofs.due.due.Goals as goal

pub returns-clause-settled : goal.returns-clause-settled
returns-clause-settled c =
    let frame = c.args.frame.now in
    let old = c.args.old.now in
    let places = c.as_slice-3.result.now in
    let w = c.as_slice.ensures ∙ c.in_ok-whole.ensures in
    if_ok c.due_at_one.result _ _
    (λ made none is. settled_by (setting_of frame) old c.as_slice.result.now places w
    (λ r g. c.as_slice-3.ensures.value ∙ c.in_ok-places.ensures r g) (λ few. none is))
    c.due_at_one.ensures.none

pub due_at_one-requires : goal.due_at_one-requires
due_at_one-requires c = λ some right.
    let frame = c.args.frame.now in
    let files = files_shown frame.files in
    let w = c.as_slice.ensures ∙ c.in_ok-whole.ensures in
    wrong_of frame.edition files c.as_slice.result.now c.as_slice-3.result.now
    (λ r g. c.as_slice-3.ensures.value ∙ c.in_ok-places.ensures r g) some
    (subst (λ x. IsRight frame.edition files x) (sym w) right)

pub returns-then-saturating_mul-gt-TRIED_BYTES-clause-settled :
    goal.returns-then-saturating_mul-gt-TRIED_BYTES-clause-settled
returns-then-saturating_mul-gt-TRIED_BYTES-clause-settled c =
    let w = c.as_slice.ensures ∙ c.in_ok-whole.ensures in
    let v = c.as_slice-2.ensures ∙ c.in_ok-whole.ensures in
    λ same. untried (setting_of c.args.frame.now) c.args.old.now c.as_slice.result.now c.as_slice-2.result.now
    (vec_items c.in_ok-places.places) c.len.result c.saturating_mul.result _ w v c.in_ok-places.ensures
    (omega (arith, c.len.ensures)) c.saturating_mul.ensures c.if-saturating_mul-gt-TRIED_BYTES.true
