use Rattle.std.proofs.Common.{[]}
use Rattle.blex.proofs.ByteSteps.{on_err}
use Rattle.blex.proofs.Passing.{Breaks-after}
use Rattle.blex.proofs.CommentSteps.{piece_after}
use Rattle.blex.proofs.FixedSteps.{begins_after, two_seen, one_seen}
use Rattle.blex.proofs.operators.longest.Goals as goal

pub longest_of_three-requires : goal.longest_of_three-requires
longest_of_three-requires g c = begins_after c.in_ok-second.ensures.ok.0 c.requires

pub returns-then-can_be_three-clause-ok : goal.returns-then-can_be_three-clause-ok
returns-then-can_be_three-clause-ok g c = λ characters. piece_after c.in_ok-second.ensures.ok.0 (c.in_ok-longest_of_three.ensures.ok characters)

pub returns-in_err-longest_of_three-clause-err : goal.returns-in_err-longest_of_three-clause-err
returns-in_err-longest_of_three-clause-err g c = on_err _ (Breaks-after c.in_ok-second.ensures.ok.0 c.in_err-longest_of_three.ensures.err)

pub returns-in-Some-clause-ok : goal.returns-in-Some-clause-ok
returns-in-Some-clause-ok g c = λ characters.
    two_seen _ _ _ c.requires c.in_ok-second.ensures.ok c.skip.ensures.passes (c.can_be_three.ensures c.if-can_be_three.false) (c.in-Some.ensures characters)

pub returns-clause-ok : goal.returns-clause-ok
returns-clause-ok g c = λ characters.
    one_seen _ _ _ c.requires c.in_ok-second.ensures.ok (c.can_be_three.ensures c.if-can_be_three.false) (c.in_default.ensures []) (c.one_or_stray.ensures characters)
