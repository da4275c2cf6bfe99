use Rattle.std.proofs.Common.{◌++◌, ℕ, List, codes, decimal}
use Rattle.std.proofs.lemmas.Result.{on_ok_weaker}
use Rattle.btools.proofs.AddedTexts.{piece}
use Rattle.bshow.proofs.ending.push_trap.Goals as goal

pub returns : goal.returns
returns c =
    let t0 = c.args.text.now in
    let a0 : List ℕ = codes "The run was stopped by " in
    let a1 : List ℕ = c.args.words.now in
    let a2 : List ℕ = codes ", in step " in
    let a3 : List ℕ = decimal c.args.made in
    let a4 : List ℕ = codes "." in
    let p1 = piece t0 c.push.new.self c.push-2.new.self (a0) a1 c.in_ok-push.ensures c.in_ok-push-2.ensures in
    let p2 = piece t0 c.push-2.new.self c.push-3.new.self (a0 ++ a1) a2 p1 c.in_ok-push-3.ensures in
    let p3 = piece t0 c.push-3.new.self c.push_number.new.self (a0 ++ a1 ++ a2) a3 p2 c.in_ok-push_number.ensures in
    on_ok_weaker c.push-4.result (λ end. piece t0 c.push_number.new.self c.push-4.new.self (a0 ++ a1 ++ a2 ++ a3) a4 p3 end) c.push-4.ensures
