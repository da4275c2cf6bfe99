use Rattle.std.proofs.Common.{refl, sym}
use Rattle.blex.proofs.NameRuns.{goes_on_none, goes_on_more, goes_on_stops, goes_on_over}
use Rattle.blex.proofs.source.name_end.Goals as goal

pub loop-at-init : goal.loop-at-init
loop-at-init c = goes_on_none _ _

pub returns-then-not-is_name_byte : goal.returns-then-not-is_name_byte
returns-then-not-is_name_byte c = goes_on_stops _ c.loop-at.invariant c.loop-at-test.true refl (sym c.if-not-is_name_byte.ensures)

pub loop-at-preserved : goal.loop-at-preserved
loop-at-preserved c = goes_on_more _ c.loop-at.invariant c.loop-at-test.true refl (sym c.if-not-is_name_byte.ensures) c.number_with.ensures

pub returns : goal.returns
returns c = goes_on_over c.loop-at.invariant c.loop-at-test.false
