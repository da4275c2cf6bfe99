use Rattle.std.proofs.Common.{drop}
use Rattle.bverify.proofs.Tellings.{TellsOn}
use Rattle.bverify.proofs.verifying.telling_of.Given as goal

abbrev pub invariant-loop-definition : goal.invariant-loop-definition
invariant-loop-definition l =
    TellsOn l.fn.definitions l.fn.lines l.told (drop l.definition-index l.definitions) l.rest
