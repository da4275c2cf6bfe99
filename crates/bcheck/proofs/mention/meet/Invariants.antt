use Rattle.std.proofs.Common.{List, ℕ, vec_items}
use Rattle.blang.specs.declared.code.Definition.{Definition}
use Rattle.bcheck.specs.Mentions.{Knows}
use Rattle.bcheck.proofs.MentionSteps.{MeetsSoFar}
use Rattle.bcheck.proofs.mention.meet.Given as goal

abbrev pub invariant-loop-name : goal.invariant-loop-name
invariant-loop-name l =
    (ds : List Definition) (before : List (List ℕ)) → Knows ds before l.fn.known → MeetsSoFar ds before l.mentioned l.name-index (vec_items l.names) l.known
