use Rattle.std.proofs.Common.{◌∙◌, ◌++◌, ℕ, List, Option, ap, codes, sym}
use Rattle.std.specs.Borrow.{Bor}
use Rattle.std.specs.Prelude.{option_map}
use Rattle.std.proofs.lemmas.Result.{on_ok_weaker}
use Rattle.btools.proofs.AddedTexts.{piece}
use Rattle.bshow.specs.Escapes.{escaped}
use Rattle.bshow.specs.Shows.{finding_fact}
use Rattle.bshow.proofs.parts.push_finding.Goals as goal

pub returns : goal.returns
returns c =
    let t0 = c.args.page.now in
    let a0 : List ℕ = codes ",\"finding\":\"" in
    let a1 : List ℕ = escaped c.in-Some.text.now in
    let a2 : List ℕ = codes "\"" in
    let p1 = piece t0 c.push.new.self c.push_escaped.new.text a0 a1 c.in_ok-push.ensures c.in_ok-push_escaped.ensures in
    on_ok_weaker c.push-2.result (λ end. piece t0 c.push_escaped.new.text c.push-2.new.self (a0 ++ a1) a2 p1 end
    ∙ ap (λ (f : Option (Bor (List ℕ))). t0 ++ finding_fact (option_map (λ t. t.now) f)) (sym c.in-Some.is)) c.push-2.ensures
