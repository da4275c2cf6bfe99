use Rattle.std.proofs.Common.{◌++◌, codes}
use Rattle.std.proofs.lemmas.Result.{on_ok_weaker}
use Rattle.btools.specs.Characters.{signed_text}
use Rattle.btools.proofs.AddedTexts.{piece}
use Rattle.bcareful.specs.Tellings.{name_text, word_name_of}
use Rattle.bcareful.proofs.naming.WordName.push_counted.Goals as goal

pub returns : goal.returns
returns c =
    let start = c.args.text.now in
    let number = signed_text c.args.number in
    let name = name_text (word_name_of c.args.self.now) in
    let counted = codes "word " ++ number in
    let p2 = piece start c.push.new.self c.push_signed.new.text (codes "word ") number c.in_ok-push.ensures c.in_ok-push_signed.ensures in
    let p3 = piece start c.push_signed.new.text c.push-2.new.self counted (codes " of ") p2 c.in_ok-push-2.ensures in
    on_ok_weaker c.push_to.result (λ e. piece start c.push-2.new.self c.push_to.new.text (counted ++ codes " of ") name p3 e) c.push_to.ensures
