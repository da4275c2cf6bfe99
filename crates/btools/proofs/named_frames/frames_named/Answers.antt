use Rattle.btools.proofs.NamedFrames.{frames_on}
use Rattle.std.proofs.Common.{◌∙◌}
use Rattle.btools.proofs.named_frames.frames_named.Goals as goal

pub loop-definition-preserved : goal.loop-definition-preserved
loop-definition-preserved c =
    frames_on c.args.definitions.now _ _ _ _ _ _ c.loop-definition-test.true c.definition-item.is
    c.in_ok-push_frame.ensures c.names_after-rest.ensures ∙ c.loop-definition.invariant
