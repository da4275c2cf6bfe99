use Rattle.std.proofs.Common.{◌∙◌, ℕ, length, subst}
use Rattle.bauthor.specs.NameFiles.{Fails, labels_from, words_from}
use Rattle.bauthor.specs.Readers.{Advances, read_by}
use Rattle.bauthor.proofs.Advancing.{stops_first, then_moves}
use Rattle.bauthor.proofs.reading.Reader.take_parts.Goals as goal

pub returns-in-Ok : goal.returns-in-Ok
returns-in-Ok c =
    let p = c.args.parts.now in
    let words = words_from p.name 0 p.frame in
    let labels = labels_from p.name 0 (length p.targets.items) in
    then_moves read_by Fails words labels c.args.self.now c.take_words.new.self c.take_labels.new.self c.take_labels.result
    (subst (λ r. Advances words c.args.self.now r c.take_words.new.self) c.in-Ok.is c.take_words.ensures)
    (subst (λ (n : ℕ). Advances (labels_from p.name 0 n) c.take_words.new.self c.take_labels.result c.take_labels.new.self)
    (c.len.ensures ∙ p.targets.ok.0) c.take_labels.ensures)

pub returns-in-Err : goal.returns-in-Err
returns-in-Err c =
    let p = c.args.parts.now in
    let words = words_from p.name 0 p.frame in
    stops_first read_by Fails words (labels_from p.name 0 (length p.targets.items)) c.args.self.now c.in-Err.fault
    (subst (λ r. Advances words c.args.self.now r c.take_words.new.self) c.in-Err.is c.take_words.ensures)
