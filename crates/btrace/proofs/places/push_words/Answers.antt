use Rattle.std.proofs.Common.{◌≡◌, ◌∙◌, ℕ, [], ◌++◌, append-nil, ap, arith, codes, map, nat_lt, subst, sym, if◌then◌else◌}
use Rattle.std.specs.Prelude.{slice_index}
use Rattle.std.specs.List.{flat_map, range_with_len}
use Rattle.std.proofs.lemmas.Result.{on_ok_weaker}
use Rattle.btools.specs.Characters.{signed_text}
use Rattle.btrace.specs.RowTexts.{parameter_at}
use Rattle.btrace.proofs.PlaceParts.{one_word, words_shown}
use Rattle.btrace.proofs.places.push_words.Goals as goal

pub returns : goal.returns
returns g c =
    let all : c.loop-index.index ≡ c.min-count.result = omega (arith, c.loop-index-test.false, c.loop-index.auto.index-end) in
    let shown = subst (λ (n : ℕ). c.loop-index.text ≡ (c.args.text.now ++ (if nat_lt 0 c.min-count.result then codes "  with" else [])) ++ flat_map (λ w. codes " " ++ signed_text w) (map (parameter_at c.args.stepper.now.store c.args.call) (range_with_len 0 n))) all c.loop-index.invariant in
    on_ok_weaker c.push_if-2.result (λ end. words_shown c.args.text.now c.loop-index.text c.push_if-2.new.text c.args.stepper.now.store c.args.call c.min-count.result c.min-count.ensures shown end) c.push_if-2.ensures

pub loop-index-init : goal.loop-index-init
loop-index-init g c = c.in_ok-push_if.ensures ∙ sym (append-nil _)

pub loop-index-preserved : goal.loop-index-preserved
loop-index-preserved g c =
    let word = c.word.ensures ∙ ap (slice_index c.args.stepper.now.store) c.frame_address.ensures in
    one_word _ c.loop-index.text c.push.new.self c.push_signed.new.text c.args.stepper.now.store c.args.call c.loop-index.index c.word.result word c.loop-index.invariant c.in_ok-push.ensures c.in_ok-push_signed.ensures
