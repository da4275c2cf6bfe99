use Rattle.std.proofs.Common.{◌≡◌, ◌++◌, ℕ, List, ◌∙◌, ap, subst, append_assoc}
use Rattle.std.specs.Prelude.{OnOk, codes, decimal}
use Rattle.bverify.proofs.Tellings.{two_texts}
use Rattle.bverify.proofs.verifying.push_leaving.Goals as goal

pub returns : goal.returns
returns c =
    let t = c.args.text.now in
    let a = codes "comes to place " in
    let n = decimal c.args.to in
    let b = codes ", which has no instruction" in
    let both = two_texts t c.push.new.self c.push_number.new.self a n c.in_ok-push.ensures c.in_ok-push_number.ensures in
    subst (λ (l : List ℕ). OnOk c.push-2.result (c.push-2.new.self ≡ l)) (ap (λ x. x ++ b) both ∙ append_assoc t (a ++ n) b) c.push-2.ensures
