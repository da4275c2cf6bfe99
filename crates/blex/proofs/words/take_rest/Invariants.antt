use Rattle.std.proofs.Common.{false}
use Rattle.blex.specs.Runs.{TakesName}
use Rattle.blex.specs.Sources.{room}
use Rattle.blex.proofs.words.take_rest.Given as goal

abbrev pub invariant-loop-byte : goal.invariant-loop-byte
invariant-loop-byte g l = TakesName l.initial.source l.initial.spelling false l.source l.spelling

abbrev pub decreases-loop-byte : goal.decreases-loop-byte
decreases-loop-byte g l = room l.source
