use Rattle.std.proofs.Common.{[], ◌≡◌, append-nil, arith, length, subst, sym}
use Rattle.std.proofs.lemmas.List.Elements.{All-nil}
use Rattle.bsources.specs.Files.{files_shown}
use Rattle.bcheck.specs.Findings.{TellsAfter}
use Rattle.bcheck.proofs.AddedFindings.{MendedIn, further_all, further_more}
use Rattle.bcheck.proofs.explain.push_after.Goals as goal

pub loop-finding-init : goal.loop-finding-init
loop-finding-init c = ([], tt, sym (append-nil _), All-nil (MendedIn c.args.setting.now.source.edition))

pub loop-finding-preserved : goal.loop-finding-preserved
loop-finding-preserved c =
    let s = c.args.setting.now in
    further_more s.asked.form s.source.edition s.severity (files_shown s.asked.files) s.source.text.now c.as_slice-finding-items.result.now c.finding-item.result _ _ _ c.loop-finding.finding-index c.loop-finding-test.true c.finding-item.is c.loop-finding.invariant c.in_ok-push_told.ensures

pub returns : goal.returns
returns c =
    let s = c.args.setting.now in
    let found = c.as_slice-finding-items.result.now in
    let all : c.loop-finding.finding-index ≡ length found = omega (arith, c.loop-finding-test.false, c.loop-finding.auto.finding-index-end) in
    let told = subst (λ fs. TellsAfter s.source.edition s.source.text.now c.args.line fs) (sym c.as_slice-finding-items.ensures.value) c.in_ok-found.ensures in
    further_all s.asked.form s.source.edition s.severity (files_shown s.asked.files) s.source.text.now c.args.line found _ _ _ all told c.loop-finding.invariant
