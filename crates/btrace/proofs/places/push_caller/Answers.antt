use Rattle.std.proofs.Common.{◌≡◌, ◌∙◌, ◌++◌, Bool, List, [], true, ℕ, ap, arith, codes, nat_lt, sym, if◌then◌else◌}
use Rattle.std.proofs.lemmas.Bool.{lt-ltb}
use Rattle.std.proofs.lemmas.Result.{on_ok_weaker}
use Rattle.btools.proofs.AddedTexts.{piece}
use Rattle.btrace.specs.RowTexts.{legend_of, place_text, waiting}
use Rattle.btrace.proofs.places.push_caller.Goals as goal

pub returns : goal.returns
returns g c =
    let old = c.args.text.now in
    let told = place_text (legend_of c.args.legend.now) c.args.stepper.now.store in
    let shown : nat_lt c.args.before 8 ≡ true = lt-ltb c.args.before 8 (omega (arith, c.if-before-ge-SHOWN_CALLS.false)) in
    on_ok_weaker c.push_place.result
    (λ end. piece old c.push.new.self c.push_place.new.text (codes "called ") (told c.waiting.result) c.in_ok-push.ensures end
    ∙ ap (λ call. old ++ (codes "called " ++ told call)) c.waiting.ensures
    ∙ ap (λ (b : Bool). old ++ (if b then codes "called " ++ told (waiting c.args.caller) else [])) (sym shown))
    c.push_place.ensures
