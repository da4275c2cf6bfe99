use Rattle.std.proofs.Common.{[], ◌≡◌, ◌∙◌, ◌+◌, ◌++◌, ℕ, List, ap, arith, drop, subst, sym, vec_items}
use Rattle.std.specs.List.{AllZip}
use Rattle.bword.specs.declared.edition.Edition.{Edition}
use Rattle.bcheck.specs.declared.finding.Finding.{Finding}
use Rattle.bcheck.specs.Findings.{IsOnSection}
use Rattle.bcheck.specs.Sections.{section_end}
use Rattle.bcheck.proofs.SectionSteps.{SoFar, so_far_all, so_far_at}
use Rattle.bcheck.proofs.further.further_faults.Goals as goal

-- nothing was found so far
begun : (edition : Edition) (source places : List ℕ) (found : List Finding) → found ≡ [] → SoFar edition source places 0 found
begun edition source places found e = ([], tt, subst (λ (fs : List Finding). AllZip (IsOnSection edition source) [] fs) (sym e) tt)

pub loop-index-init : goal.loop-index-init
loop-index-init c = begun c.args.setting.now.source.edition c.args.setting.now.source.text.now (vec_items c.in_ok-places.places) _ c.new-found.ensures.items

pub loop-index-preserved : goal.loop-index-preserved
loop-index-preserved c =
    let s = c.args.setting.now.source in
    let places = vec_items c.in_ok-places.places in
    let end = c.section_end-end.ensures ∙ ap (λ ps. section_end s.text.now (drop (c.loop-index.index + 1) ps)) c.as_slice.ensures.value in
    so_far_at s.edition s.text.now places c.loop-index.index c.index.result.now c.index.result.now c.section_end-end.result c.len.result (vec_items c.loop-index.found) (vec_items c.in_ok-more.more) _ (omega (arith, c.loop-index-test.true, c.len-index-end.ensures)) c.index.ensures end (omega (arith, c.len.ensures)) c.loop-index.invariant c.in_ok-more.ensures (c.in_ok-extend_from_slice.ensures.items ∙ ap (λ more. vec_items c.loop-index.found ++ more) c.as_slice-in-loop-index.ensures.value)

pub returns : goal.returns
returns c =
    let s = c.args.setting.now.source in
    let places = vec_items c.in_ok-places.places in
    so_far_all s.edition s.text.now c.args.line places c.loop-index.index _ c.in_ok-places.ensures (omega (arith, c.loop-index-test.false, c.loop-index.auto.index-end)) c.loop-index.invariant
