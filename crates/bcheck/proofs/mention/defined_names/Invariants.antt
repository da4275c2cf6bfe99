use Rattle.std.proofs.Common.{take}
use Rattle.bcheck.proofs.MentionSteps.{HasDefined}
use Rattle.bcheck.proofs.mention.defined_names.Given as goal

abbrev pub invariant-loop-definition : goal.invariant-loop-definition
invariant-loop-definition l = HasDefined (take l.definition-index l.definitions) l.known
