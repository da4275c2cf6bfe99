use Rattle.blang.specs.Cut.{character_token}
use Rattle.blex.proofs.EachPiece.{whole-character}
use Rattle.blex.proofs.QuoteSteps.{constant_closed, constant_wrong}
use Rattle.blex.proofs.quotes.character_constant.Goals as goal

pub returns-then-not-branch-clause-ok : goal.returns-then-not-branch-clause-ok
returns-then-not-branch-clause-ok g c = λ characters. constant_wrong 39 2 character_token whole-character _ _ c.if-not-branch.true c.in_ok-quoted.ensures.ok

pub returns-clause-ok : goal.returns-clause-ok
returns-clause-ok g c = λ characters.
    rw (c.character_token.ensures characters, c.deref.ensures.0) (constant_closed 39 2 character_token whole-character _ _ c.if-not-branch.false c.in_ok-quoted.ensures.ok)
