use Rattle.std.proofs.Common.{◌∙◌}
use Rattle.blang.specs.Text.{ival_line}
use Rattle.bcode.proofs.Paging.{page_err, Passes-more, Refuses-more}
use Rattle.bcode.proofs.write.write_ivals.Goals as goal

pub returns-in_err-make_room-clause-gives : goal.returns-in_err-make_room-clause-gives
returns-in_err-make_room-clause-gives g c =
    page_err _ _ _ _ _ c.from_residual.ensures.1 (Refuses-more ival_line c.args.values.now c.loop-value.value-index c.loop-value.invariant.0 c.in_err-make_room.ensures.gives)

pub loop-value-preserved : goal.loop-value-preserved
loop-value-preserved g c = (
  Passes-more ival_line _ c.args.values.now c.loop-value.value-index c.value-item.result c.loop-value-test.true c.value-item.is c.loop-value.invariant.0 c.in_ok-make_room.ensures.gives c.push_ival_line.ensures,
  c.in_ok-make_room.ensures.same ∙ c.loop-value.invariant.1,
)
