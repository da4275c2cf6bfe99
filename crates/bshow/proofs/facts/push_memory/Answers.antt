use Rattle.std.proofs.Common.{◌≡◌, ◌∙◌, ◌++◌, ap, append_assoc, append-nil, arith, codes, sym}
use Rattle.std.specs.List.{flat_map}
use Rattle.std.proofs.lemmas.Result.{on_ok_weaker}
use Rattle.blang.specs.Layout.{store_words}
use Rattle.btools.proofs.AddedTexts.{piece}
use Rattle.bshow.specs.Facts.{all_addresses, memory_word, some_word}
use Rattle.bshow.proofs.FactParts.{all_are}
use Rattle.btools.proofs.Ranges.{text_more}
use Rattle.bshow.proofs.facts.push_memory.Goals as goal

pub loop-address-init : goal.loop-address-init
loop-address-init g c = c.in_ok-push.ensures ∙ sym (append-nil _)

pub loop-address-preserved : goal.loop-address-preserved
loop-address-preserved g c =
    let store = c.args.stepper.now.store in
    let address = c.loop-address.address in
    text_more (memory_word store) (c.args.text.now ++ codes "[") c.loop-address.text _ address c.loop-address.invariant
    (c.in_ok-push_word.ensures ∙ ap (λ w. c.loop-address.text ++ some_word address w) c.word.ensures)

pub returns : goal.returns
returns g c =
    let store = c.args.stepper.now.store in
    let address = c.loop-address.address in
    let last : address ≡ store_words = omega (arith, c.loop-address-test.false, c.loop-address.auto.address-end) in
    let all = c.loop-address.invariant ∙ ap (λ xs. (c.args.text.now ++ codes "[") ++ flat_map (memory_word store) xs) (all_are address last)
    ∙ append_assoc c.args.text.now (codes "[") (flat_map (memory_word store) all_addresses) in
    on_ok_weaker c.push-2.result (λ end. piece _ _ _ _ _ all end) c.push-2.ensures
