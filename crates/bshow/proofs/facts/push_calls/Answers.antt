use Rattle.std.proofs.Common.{◌∙◌, append_assoc, codes, reverse}
use Rattle.std.specs.List.{flat_map}
use Rattle.std.proofs.lemmas.Result.{on_ok_weaker}
use Rattle.btools.proofs.AddedTexts.{piece}
use Rattle.bshow.specs.Facts.{call_text}
use Rattle.bshow.proofs.FactParts.{calls_left, no_calls_left}
use Rattle.bshow.proofs.facts.push_calls.Goals as goal

pub loop-call-preserved : goal.loop-call-preserved
loop-call-preserved c = calls_left _ _ _ _ _ _ c.in-Some.ensures.steps c.loop-call.invariant c.in_ok-push_call.ensures

pub returns : goal.returns
returns c =
    let all = no_calls_left _ _ _ c.in-None.ensures.steps.0 c.loop-call.invariant ∙ append_assoc c.args.text.now (codes "[") (flat_map call_text (reverse c.args.calls.now)) in
    on_ok_weaker c.push-2.result (λ end. piece _ _ _ _ _ all end) c.push-2.ensures
