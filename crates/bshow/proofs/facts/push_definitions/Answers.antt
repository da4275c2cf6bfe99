use Rattle.std.proofs.Common.{◌≡◌, ◌∙◌, ◌+◌, ◌≤◌, ◌++◌, ℕ, List, ap, append_assoc, append-nil, arith, codes, decimal, map, sym}
use Rattle.std.proofs.lemmas.List.{take_all}
use Rattle.std.proofs.lemmas.Result.{on_ok_weaker}
use Rattle.blang.specs.Layout.{data_end, shape_of}
use Rattle.btools.proofs.AddedTexts.{piece}
use Rattle.btools.proofs.Functions.{ends_within, next_end}
use Rattle.bshow.proofs.FactParts.{one_definition, texts_of}
use Rattle.bshow.proofs.facts.push_definitions.Goals as goal

pub loop-definition-init : goal.loop-definition-init
loop-definition-init c = record { address = c.from-address.ensures; text = c.in_ok-push.ensures ∙ sym (append-nil _) }

pub overflow_add-address : goal.overflow_add-address
overflow_add-address c =
    let ds = c.args.definitions.now in
    let i = c.loop-definition.definition-index in
    let fit : data_end (map shape_of ds) ≤ 65536 = c.requires in
    omega (arith, next_end ds i c.definition-item.result c.loop-definition-test.true c.definition-item.is c.loop-definition.address c.from-address-in-loop-definition.result c.loop-definition.invariant.address (c.from-address-in-loop-definition.ensures ∙ c.size_of.ensures.value), ends_within ds (i + 1))

pub loop-definition-preserved : goal.loop-definition-preserved
loop-definition-preserved c =
    let ds = c.args.definitions.now in
    let i = c.loop-definition.definition-index in
    let d = c.definition-item.result in
    let before = c.loop-definition.invariant in
    record {
      address = next_end ds i d c.loop-definition-test.true c.definition-item.is c.loop-definition.address c.from-address-in-loop-definition.result before.address (c.from-address-in-loop-definition.ensures ∙ c.size_of.ensures.value);
      text = one_definition ds i d c.loop-definition-test.true c.definition-item.is (c.args.text.now ++ codes "[") c.loop-definition.text _ c.loop-definition.address before.address before.text c.in_ok-push_definition.ensures;
    }

pub returns : goal.returns
returns c =
    let ds = c.args.definitions.now in
    let i = c.loop-definition.definition-index in
    let whole = take_all i ds (omega arith) in
    let start = c.args.text.now in
    let here : c.loop-definition.address ≡ data_end (map shape_of ds) = c.loop-definition.invariant.address ∙ ap (λ xs. data_end (map shape_of xs)) whole in
    let all = c.loop-definition.invariant.text ∙ ap (λ xs. (start ++ codes "[") ++ texts_of xs) whole ∙ append_assoc start (codes "[") (texts_of ds) in
    let digits : List ℕ = decimal c.from.result in
    let begun = piece start c.loop-definition.text c.push_number.new.self (codes "[" ++ texts_of ds) digits all c.in_ok-push_number.ensures in
    on_ok_weaker c.push-2.result (λ end. piece start c.push_number.new.self c.push-2.new.self (codes "[" ++ texts_of ds ++ digits) (codes "]") begun end
    ∙ ap (λ n. start ++ (codes "[" ++ texts_of ds ++ decimal n ++ codes "]")) (c.from.ensures ∙ here)) c.push-2.ensures
