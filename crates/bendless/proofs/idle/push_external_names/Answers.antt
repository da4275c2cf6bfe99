use Rattle.bendless.specs.Loops.{noted_of}
use Rattle.bendless.proofs.IdleNames.{one_external}
use Rattle.bendless.proofs.idle.push_external_names.Goals as goal

pub loop-definition-preserved : goal.loop-definition-preserved
loop-definition-preserved c =
    one_external (noted_of c.args.notes.now) c.loop-definition.address c.args.definitions.now c.loop-definition.definition-index c.definition-item.result c.loop-definition-test.true
    c.definition-item.is c.loop-definition.text _ _ c.size_of-address.result c.in_ok-push_external_name.ensures c.size_of-address.ensures.value c.loop-definition.invariant
