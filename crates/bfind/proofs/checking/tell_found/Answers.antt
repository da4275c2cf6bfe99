use Rattle.std.proofs.Common.{◌∙◌, inl, inr, refl, sym}
use Rattle.bfind.proofs.Checked.{nothing, something}
use Rattle.bfind.proofs.checking.tell_found.Goals as goal

pub returns-then-is_empty-clause-tells : goal.returns-then-is_empty-clause-tells
returns-then-is_empty-clause-tells g c = inl (nothing _ (sym c.is_empty.ensures ∙ c.if-is_empty.true), refl, refl)

pub returns-else-is_empty-clause-tells : goal.returns-else-is_empty-clause-tells
returns-else-is_empty-clause-tells g c = inr (something _ (sym c.is_empty.ensures ∙ c.if-is_empty.false), c.tell.ensures.told)
