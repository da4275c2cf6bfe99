use Rattle.std.proofs.Common.{◌∙◌, ◌+◌, ℕ, List, Some, None, ap, arith, length, min, subst, vec_items}
use Rattle.btools.proofs.Reading.{if_ok}
use Rattle.bcheck.specs.declared.finding.Place.{Place}
use Rattle.bcheck.specs.Findings.{TellsFault, matter_code}
use Rattle.bcheck.specs.Sections.{StopsAlone, section_at}
use Rattle.bcheck.proofs.SectionSteps.{fault_on_line, full, on_section, right_alone, right_section, wrong_alone, wrong_section}
use Rattle.bcheck.proofs.further.faults_in.Goals as goal

pub returns-then-count : goal.returns-then-count
returns-then-count c =
    let s = c.args.setting.now.source in
    full s.edition s.text.now (section_at s.text.now c.args.place c.args.end) c.args.count _ (omega (arith, c.if-count.true)) c.new.ensures.items

pub returns-in-Ok : goal.returns-in-Ok
returns-in-Ok c =
    let s = c.args.setting.now.source in
    let right = right_alone s.edition c.section_text.result.now c.in_ok-compiled.compiled _ c.in-Ok.is c.in_ok-compiled.ensures in
    right_section s.edition s.text.now (section_at s.text.now c.args.place c.args.end) c.args.count _ (subst (λ t. StopsAlone s.edition t None) c.section_text.ensures right) c.new-in-Ok.ensures.items

pub fault_of-requires : goal.fault_of-requires
fault_of-requires c =
    let edition = c.args.setting.now.source.edition in
    fault_on_line edition c.section_text.result.now c.in-Err.diagnostic (wrong_alone edition c.section_text.result.now c.in_ok-compiled.compiled c.in-Err.diagnostic c.in-Err.is c.in_ok-compiled.ensures)

pub returns : goal.returns
returns c =
    let s = c.args.setting.now.source in
    let section = section_at s.text.now c.args.place c.args.end in
    let d = c.in-Err.diagnostic in
    let fault = c.in-Ok-fault_of.fault in
    let known = c.known_in-known.result in
    let stops = subst (λ t. StopsAlone s.edition t (Some d)) c.section_text.ensures (wrong_alone s.edition c.section_text.result.now c.in_ok-compiled.compiled d c.in-Err.is c.in_ok-compiled.ensures) in
    let tells = subst (λ t. TellsFault s.edition t d fault) c.section_text.ensures c.in-Ok-fault_of.ensures in
    let at = ap (λ (p : Place). p.start) c.known_in-known.ensures.place ∙ c.moved-there.ensures.place ∙ ap (λ (t : List ℕ). c.args.place + min fault.place.start (length t)) c.section_text.ensures in
    let on = on_section s.edition s.text.now c.args.place c.args.end d fault known tells (c.known_in-known.ensures.code ∙ ap matter_code c.moved-there.ensures.matter) at in
    if_ok c.alone.result _ _ (λ more e. wrong_section s.edition s.text.now section d known c.args.count (vec_items more) (omega (arith, c.if-count.false)) stops e on) c.alone.ensures
