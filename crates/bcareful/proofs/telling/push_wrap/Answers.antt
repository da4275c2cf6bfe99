use Rattle.std.proofs.Common.{◌∙◌, ◌++◌, ap, codes}
use Rattle.std.proofs.lemmas.Result.{on_ok_weaker}
use Rattle.btools.specs.Characters.{signed_text}
use Rattle.btools.proofs.AddedTexts.{piece}
use Rattle.bcareful.specs.Tellings.{sign}
use Rattle.bcareful.proofs.telling.push_wrap.Goals as goal

pub returns : goal.returns
returns c =
    let start = c.args.text.now in
    let x1 = signed_text c.args.left in
    let x2 = x1 ++ codes " " in
    let x3 = x2 ++ sign c.args.operator in
    let x4 = x3 ++ codes " " in
    let x5 = x4 ++ signed_text c.args.right in
    let end = codes " is no number from -32768 to 32767" in
    let p2 = piece start c.push_signed.new.text c.push.new.self x1 (codes " ") c.in_ok-push_signed.ensures c.in_ok-push.ensures in
    let p3 = piece start c.push.new.self c.push-2.new.self x2 (sign c.args.operator) p2 (c.in_ok-push-2.ensures ∙ ap (λ x. c.push.new.self ++ x) c.sign.ensures) in
    let p4 = piece start c.push-2.new.self c.push-3.new.self x3 (codes " ") p3 c.in_ok-push-3.ensures in
    let p5 = piece start c.push-3.new.self c.push_signed-2.new.text x4 (signed_text c.args.right) p4 c.in_ok-push_signed-2.ensures in
    on_ok_weaker c.push-4.result (λ e. piece start c.push_signed-2.new.text c.push-4.new.self x5 end p5 e) c.push-4.ensures
