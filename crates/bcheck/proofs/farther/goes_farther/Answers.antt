use Rattle.std.proofs.Common.{◌∙◌, ◌<◌, ◌≤◌, IfSome, rules, subst, sym}
use Rattle.bcheck.specs.Findings.{StopsApart}
use Rattle.bcheck.proofs.MendSteps.{farther, less, parted}
use Rattle.bcheck.proofs.farther.goes_farther.Goals as goal

pub returns-then-is_by : goal.returns-then-is_by
returns-then-is_by c =
    λ is.
    let edition = c.args.source.edition in
    let old = c.args.source.text.now in
    let new = c.args.new.now in
    let before = c.parts.result.0.now in
    let rest = c.parts.result.1.now in
    let changed = c.parts-2.result.0.now in
    let old_line = c.in-Some.old_line in
    let new_line = c.in-Some-found.new_line in
    let same = c.is_equal.ensures (search rules) in
    farther edition new old before changed rest old_line new_line
    (parted _ old before rest c.parts.ensures.before c.parts.ensures.rest)
    (parted _ new changed rest c.parts-2.ensures.before (sym same ∙ c.parts-2.ensures.rest))
    (subst (λ o. IfSome o (StopsApart edition old before rest)) c.in-Some.is c.in_ok-found.ensures)
    (subst (λ o. IfSome o (StopsApart edition new changed rest)) c.in-Some-found.is c.in_ok-found-2.ensures)
    (subst (λ n. old_line ≤ n) c.line_after.ensures c.if-is_by.true)
    (subst (λ n. n < new_line) c.line_after-2.ensures (less c.line_after-2.result new_line is))
