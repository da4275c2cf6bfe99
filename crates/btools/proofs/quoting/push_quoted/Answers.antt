use Rattle.std.proofs.Common.{◌∙◌, ◌++◌, ap, append_assoc, arith, codes, get_or, sym}
use Rattle.std.specs.List.{flat_map}
use Rattle.std.proofs.lemmas.List.{get_or_default, take_all}
use Rattle.btools.proofs.AddedTexts.{each_more}
use Rattle.btools.specs.Quoting.{json_byte}
use Rattle.std.proofs.lemmas.Result.{on_ok_weaker}
use Rattle.btools.proofs.quoting.push_quoted.Goals as goal

pub loop-byte-preserved : goal.loop-byte-preserved
loop-byte-preserved c =
    each_more json_byte (c.args.text.now ++ codes "\"") c.loop-byte.text _ c.args.words.now c.loop-byte.byte-index (get_or c.args.words.now c.loop-byte.byte-index 0)
    c.loop-byte-test.true (get_or_default _ _ _ _ c.loop-byte-test.true) c.loop-byte.invariant c.in_ok-push_json.ensures

pub returns : goal.returns
returns c =
    let quote = codes "\"" in
    let text = flat_map json_byte c.args.words.now in
    let all = c.loop-byte.invariant ∙ ap (λ bs. c.args.text.now ++ quote ++ flat_map json_byte bs) (take_all c.loop-byte.byte-index c.args.words.now (omega arith)) in
    on_ok_weaker c.push-2.result (λ e.
    e ∙ ap (λ t. t ++ quote) all ∙ append_assoc (c.args.text.now ++ quote) text quote ∙ append_assoc c.args.text.now quote (text ++ quote) ∙ ap (λ t. c.args.text.now ++ t) (sym (append_assoc quote text quote)))
    c.push-2.ensures
