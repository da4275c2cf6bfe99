use Rattle.std.proofs.Common.{◌∙◌, ◌++◌, ap, append_assoc, append-nil, arith, codes, sym}
use Rattle.std.specs.List.{flat_map}
use Rattle.std.proofs.lemmas.List.{take_all}
use Rattle.std.proofs.lemmas.Result.{on_ok_weaker}
use Rattle.btools.proofs.AddedTexts.{each_more, piece}
use Rattle.bshow.specs.Facts.{frame_word_text}
use Rattle.bshow.proofs.facts.push_frame.Goals as goal

pub loop-word-init : goal.loop-word-init
loop-word-init c = c.in_ok-push.ensures ∙ sym (append-nil _)

pub loop-word-preserved : goal.loop-word-preserved
loop-word-preserved c =
    each_more frame_word_text (c.args.text.now ++ codes "[") c.loop-word.text _ c.as_slice-word-items.result.now c.loop-word.word-index c.word-item.result
    c.loop-word-test.true c.word-item.is c.loop-word.invariant c.in_ok-push_frame_word.ensures

pub returns : goal.returns
returns c =
    let words = c.as_slice-word-items.result.now in
    let all = c.loop-word.invariant ∙ ap (λ ws. (c.args.text.now ++ codes "[") ++ flat_map frame_word_text ws) (take_all c.loop-word.word-index words (omega arith) ∙ c.as_slice-word-items.ensures.value)
    ∙ append_assoc c.args.text.now (codes "[") (flat_map frame_word_text c.args.frame.now.words.items) in
    on_ok_weaker c.push-2.result (λ end. piece _ _ _ _ _ all end) c.push-2.ensures
