use Rattle.blang.specs.declared.token.TheConstants.{STRING_LEN}
use Rattle.blang.specs.Cut.{string_token}
use Rattle.blex.proofs.EachPiece.{whole-string}
use Rattle.blex.proofs.QuoteSteps.{constant_closed, constant_wrong}
use Rattle.blex.proofs.quotes.string.Goals as goal

pub returns-then-not-branch-clause-ok : goal.returns-then-not-branch-clause-ok
returns-then-not-branch-clause-ok g c = constant_wrong 34 STRING_LEN string_token whole-string _ _ c.if-not-branch.true c.in_ok-quoted.ensures.ok

pub returns-clause-ok : goal.returns-clause-ok
returns-clause-ok g c = constant_closed 34 STRING_LEN string_token whole-string _ _ c.if-not-branch.false c.in_ok-quoted.ensures.ok
