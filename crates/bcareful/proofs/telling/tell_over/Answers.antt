use Rattle.std.proofs.Common.{◌∙◌, Some, ap, sym}
use Rattle.bcareful.specs.Tellings.{placed}
use Rattle.bcareful.proofs.telling.tell_over.Goals as goal

pub returns-in-Some-clause-tells : goal.returns-in-Some-clause-tells
returns-in-Some-clause-tells g c =
    placed (g.D.ByteOut.outgoing c.finish-told.new.diag) c.finish-told.result c.finish-told.ensures.gives
    (sym c.located_status.ensures ∙ c.in-Some.is ∙ ap Some c.if-status-told.true) c.tell_site.ensures.tells
