use Rattle.std.proofs.Common.{[], ◌≡◌, ◌∙◌, ◌++◌, ap, arith, length, refl, rules, subst, sym}
use Rattle.std.proofs.lemmas.List.Elements.{All-nil}
use Rattle.std.specs.List.{flat_map, All}
use Rattle.bsources.specs.Files.{files_shown}
use Rattle.bcheck.specs.Checks.{finding_text, status_told}
use Rattle.bcheck.specs.Findings.{AreWarned, AreWhole, IsTried, matter_code}
use Rattle.bcheck.proofs.AddedFindings.{MendedIn, Reasoned, all_findings, finding_more}
use Rattle.bcheck.proofs.Reasons.{item_reason}
use Rattle.bcheck.proofs.explain.explain.Goals as goal

pub loop-finding-init : goal.loop-finding-init
loop-finding-init c =
    let edition = c.args.source.edition in
    ([], tt, All-nil (Reasoned edition c.args.source.text.now), search rules, All-nil (MendedIn edition), refl)

pub loop-finding-preserved : goal.loop-finding-preserved
loop-finding-preserved c =
    let edition = c.args.source.edition in
    let source = c.args.source.text.now in
    let files = files_shown c.args.asked.files in
    let found = c.as_slice-finding-items.result.now in
    let i = c.loop-finding.finding-index in
    let f = c.finding-item.result in
    let lt = c.loop-finding-test.true in
    let here = c.finding-item.is in
    let reason = item_reason edition source _ found i f (matter_code f.matter) c.as_slice-finding-items.ensures.value lt here c.in_ok-findings.ensures.reasons refl in
    finding_more c.args.asked.form edition _ _ files source found f _ _ i c.severity.ensures lt here reason c.loop-finding.invariant c.in_ok-push_told.ensures

pub push_told-requires-clause-tried : goal.push_told-requires-clause-tried
push_told-requires-clause-tried c =
    subst (λ es. All (IsTried c.args.source.edition (files_shown c.args.asked.files) c.args.source.text.now) es) (sym c.as_slice-mends.ensures.value) c.in_ok-edits.ensures.tried

pub returns : goal.returns
returns c =
    let edition = c.args.source.edition in
    let source = c.args.source.text.now in
    let form = c.args.asked.form in
    let files = files_shown c.args.asked.files in
    let v = c.args.judgement.now.verdict in
    let found = c.as_slice-finding-items.result.now in
    let all : c.loop-finding.finding-index ≡ length found = omega (arith, c.loop-finding-test.false, c.loop-finding.auto.finding-index-end) in
    let whole = subst (λ fs. AreWhole edition source fs) (sym c.as_slice-finding-items.ensures.value) c.in_ok-findings.ensures.whole in
    let warned = subst (AreWarned edition files source (status_told v)) (sym c.as_slice-finding-items.ensures.value) c.in_ok-findings.ensures.warned in
    let more = c.in_ok-push_further.ensures in
    all_findings form edition v files source _ _ found _ c.requires.judged c.requires.stop whole warned all c.loop-finding.invariant more.0 more.1
    (more.2.0 ∙ ap (λ s. c.loop-finding.said ++ flat_map (finding_text form s files) more.0) c.severity.ensures) more.2.1
