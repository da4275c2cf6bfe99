use Rattle.bsources.specs.Files.{files_shown}
use Rattle.bcheck.specs.declared.form.FindingForm.TheVariants as form
use Rattle.bcheck.proofs.AddedFindings.{on_ok, told_as}
use Rattle.bcheck.proofs.told.push_told.Goals as goal

pub returns-in-Text : goal.returns-in-Text
returns-in-Text c =
    let s = c.args.setting.now in
    let edition = s.source.edition in
    let files = files_shown s.asked.files in
    let f = c.args.finding.now in
    on_ok c.write.result _ _
    (told_as s.asked.form form.Text s.severity edition files s.source.text.now f c.in_ok-words.words.code.now c.in_ok-words.words.sentence _ _ c.in-Text.is c.in_ok-words.ensures.code c.in_ok-words.ensures.subject)
    (c.write.ensures edition files s.source.text.now f.place.start c.excerpt_at-excerpt.ensures c.own_line-at.ensures c.requires.tried c.requires.few)

pub returns : goal.returns
returns c =
    let s = c.args.setting.now in
    let edition = s.source.edition in
    let files = files_shown s.asked.files in
    let f = c.args.finding.now in
    on_ok c.write-in-Json.result _ _
    (told_as s.asked.form form.Json s.severity edition files s.source.text.now f c.in_ok-words.words.code.now c.in_ok-words.words.sentence _ _ c.in-Json.is c.in_ok-words.ensures.code c.in_ok-words.ensures.subject)
    (c.write-in-Json.ensures edition files s.source.text.now f.place.start c.excerpt_at-excerpt.ensures c.own_line-at.ensures c.spot_of-second.ensures c.requires.tried c.requires.few)
