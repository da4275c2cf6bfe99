use Rattle.std.proofs.Common.{IsTrue, subst, sym}
use Rattle.bcheck.specs.Checks.{is_on_line}
use Rattle.bcheck.specs.UndefinedNames.{Tells}
use Rattle.bcheck.specs.declared.words.Given.{Given}
use Rattle.bcheck.proofs.FilledWords.{all_three, filled_on_line, subject_filled}
use Rattle.bcheck.proofs.OnLine.{of_three}
use Rattle.bcheck.proofs.words.Words.new.Goals as goal

pub returns-clause-on_lines : goal.returns-clause-on_lines
returns-clause-on_lines c =
    let given : Given = record { name = c.name_or.result; other = c.name_or-2.result; line = c.as_slice.result } in
    let line : IsTrue (is_on_line c.as_slice.result.now) = subst (λ t. IsTrue (is_on_line t)) (sym c.as_slice.ensures) c.in_ok-line.ensures in
    let words = c.advice.result in
    let on = of_three words.0.now words.1.now words.2.now c.advice.ensures.on_lines in
    let sentence = filled_on_line given words.1.now c.name_or.ensures.on_line c.name_or-2.ensures.on_line line on.1 in
    let general = filled_on_line given words.2.now c.name_or.ensures.on_line c.name_or-2.ensures.on_line line on.2 in
    let fix = c.in_ok-fix.ensures (subst (λ t. IsTrue (is_on_line t)) (sym c.in_ok-general.ensures) general) in
    all_three words.0.now c.in_ok-sentence.sentence c.in_ok-fix.fix on.0 (subst (λ t. IsTrue (is_on_line t)) (sym c.in_ok-sentence.ensures) sentence) fix

pub returns-clause-subject : goal.returns-clause-subject
returns-clause-subject c = λ subject on.
    let given : Given = record { name = c.name_or.result; other = c.name_or-2.result; line = c.as_slice.result } in
    subst (λ t. Tells subject t) (sym c.in_ok-sentence.ensures) (subject_filled given c.args.finding.now c.advice.result.1.now subject c.name_or.ensures.value c.advice.ensures.sentence on)
