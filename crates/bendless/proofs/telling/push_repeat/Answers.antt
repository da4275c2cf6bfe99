use Rattle.std.proofs.Common.{◌++◌, codes, decimal}
use Rattle.std.proofs.lemmas.Result.{on_ok_weaker}
use Rattle.btools.proofs.AddedTexts.{piece}
use Rattle.bendless.proofs.telling.push_repeat.Goals as goal

pub returns : goal.returns
returns c =
    let old = c.args.text.now in
    let first = codes "it never ends: after " in
    let number = decimal c.args.repeat.again in
    let mid = codes " steps all is as it was after " in
    let p2 = piece old c.push.new.self c.push_number.new.self first number c.in_ok-push.ensures c.in_ok-push_number.ensures in
    let p3 = piece old c.push_number.new.self c.push-2.new.self (first ++ number) mid p2 c.in_ok-push-2.ensures in
    on_ok_weaker c.push_number-2.result (λ end. piece old c.push-2.new.self c.push_number-2.new.self (first ++ number ++ mid) (decimal c.args.repeat.first) p3 end) c.push_number-2.ensures
