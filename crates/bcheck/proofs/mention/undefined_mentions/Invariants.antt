use Rattle.std.proofs.Common.{vec_items}
use Rattle.bcheck.proofs.MentionSteps.{FoundSoFar}
use Rattle.bcheck.proofs.mention.undefined_mentions.Given as goal

abbrev pub invariant-loop-index : goal.invariant-loop-index
invariant-loop-index l = FoundSoFar l.definitions l.index (vec_items l.found) l.known
