use Rattle.std.proofs.Common.{◌≡◌, ◌∙◌, ◌++◌, ℕ, List, [], ◌∷◌, ap, codes, false, length, refl, sym}
use Rattle.std.specs.Prelude.{◌==◌}
use Rattle.std.proofs.lemmas.Result.{on_ok_weaker}
use Rattle.btools.proofs.AddedTexts.{piece}
use Rattle.btrace.specs.Loops.{names_text}
use Rattle.btrace.proofs.looping.push_names.Goals as goal

names_shown : (names : List ℕ) → (length names == 0) ≡ false → codes "  its conditions read, and nothing in it changes:" ++ names ++ codes "\n" ≡ names_text names
names_shown [] some = cc
names_shown (c ∷ cs) some = refl

pub returns : goal.returns
returns c =
    let old = c.args.text.now in
    let names = c.args.names.now in
    let intro = codes "  its conditions read, and nothing in it changes:" in
    let some = names_shown names (sym c.is_empty.ensures ∙ c.if-is_empty.false) in
    let p2 = piece old c.push.new.self c.push-2.new.self intro names c.in_ok-push.ensures c.in_ok-push-2.ensures in
    on_ok_weaker c.push-3.result (λ end. piece old c.push-2.new.self c.push-3.new.self (intro ++ names) (codes "\n") p2 end ∙ ap (λ (t : List ℕ). old ++ t) some) c.push-3.ensures
