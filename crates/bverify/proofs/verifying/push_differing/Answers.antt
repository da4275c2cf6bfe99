use Rattle.std.proofs.Common.{◌≡◌, ◌++◌, ℕ, List, ◌∙◌, ap, subst, append_assoc}
use Rattle.std.specs.Prelude.{OnOk, codes, decimal}
use Rattle.bverify.proofs.Tellings.{two_texts}
use Rattle.bverify.proofs.verifying.push_differing.Goals as goal

pub returns : goal.returns
returns c =
    let t = c.args.text.now in
    let a = codes "comes to place " ++ decimal c.args.to in
    let b = a ++ codes " with " in
    let d = b ++ decimal c.args.depth in
    let e = d ++ codes " operands, another way with " in
    let first = two_texts t c.push.new.self c.push_number.new.self (codes "comes to place ") (decimal c.args.to) c.in_ok-push.ensures c.in_ok-push_number.ensures in
    let second = two_texts t c.push_number.new.self c.push-2.new.self a (codes " with ") first c.in_ok-push-2.ensures in
    let third = two_texts t c.push-2.new.self c.push_number-2.new.self b (decimal c.args.depth) second c.in_ok-push_number-2.ensures in
    let fourth = two_texts t c.push_number-2.new.self c.push-3.new.self d (codes " operands, another way with ") third c.in_ok-push-3.ensures in
    subst (λ (l : List ℕ). OnOk c.push_number-3.result (c.push_number-3.new.self ≡ l)) (ap (λ x. x ++ decimal c.args.other) fourth ∙ append_assoc t e (decimal c.args.other)) c.push_number-3.ensures
