use Rattle.blex.proofs.QuoteSteps.{character_plain, character_escape, character_cut_off}
use Rattle.blex.proofs.quotes.character.Goals as goal

pub returns-then-first-ne42-clause-ok : goal.returns-then-first-ne42-clause-ok
returns-then-first-ne42-clause-ok g c = rw c.plain.ensures (character_plain _ _ c.if-first-ne42.true)

pub returns-in_default-clause-ok : goal.returns-in_default-clause-ok
returns-in_default-clause-ok g c = character_cut_off _ _ c.if-first-ne42.false c.in_default.is c.in_ok-byte.ensures.ok

pub returns-clause-ok : goal.returns-clause-ok
returns-clause-ok g c = rw c.escape.ensures (character_escape _ _ _ c.if-first-ne42.false c.in-Some.is c.in_ok-byte.ensures.ok)
