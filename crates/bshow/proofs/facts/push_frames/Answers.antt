use Rattle.std.proofs.Common.{◌∙◌, ◌++◌, ap, append_assoc, append-nil, arith, codes, sym}
use Rattle.std.specs.List.{flat_map}
use Rattle.std.proofs.lemmas.List.{take_all}
use Rattle.std.proofs.lemmas.Result.{on_ok_weaker}
use Rattle.btools.proofs.AddedTexts.{each_more, piece}
use Rattle.bshow.specs.Facts.{frame_text}
use Rattle.bshow.proofs.facts.push_frames.Goals as goal

pub loop-frame-init : goal.loop-frame-init
loop-frame-init c = c.in_ok-push.ensures ∙ sym (append-nil _)

pub loop-frame-preserved : goal.loop-frame-preserved
loop-frame-preserved c =
    each_more frame_text (c.args.text.now ++ codes "[") c.loop-frame.text _ c.args.frames.now c.loop-frame.frame-index c.frame-item.result
    c.loop-frame-test.true c.frame-item.is c.loop-frame.invariant c.in_ok-push_frame.ensures

pub returns : goal.returns
returns c =
    let all = c.loop-frame.invariant ∙ ap (λ fs. (c.args.text.now ++ codes "[") ++ flat_map frame_text fs) (take_all c.loop-frame.frame-index c.args.frames.now (omega arith))
    ∙ append_assoc c.args.text.now (codes "[") (flat_map frame_text c.args.frames.now) in
    on_ok_weaker c.push-2.result (λ end. piece _ _ _ _ _ all end) c.push-2.ensures
