use Rattle.std.proofs.Common.{◌∙◌}
use Rattle.blang.specs.Text.{instr_line}
use Rattle.bcode.proofs.Paging.{page_err, Passes-more, Refuses-more}
use Rattle.bcode.proofs.write.write_instrs.Goals as goal

pub returns-in_err-make_room-clause-gives : goal.returns-in_err-make_room-clause-gives
returns-in_err-make_room-clause-gives g c =
    page_err _ _ _ _ _ c.from_residual.ensures.1 (Refuses-more instr_line c.args.code.now c.loop-instr.instr-index c.loop-instr.invariant.0 c.in_err-make_room.ensures.gives)

pub loop-instr-preserved : goal.loop-instr-preserved
loop-instr-preserved g c = (
  Passes-more instr_line _ c.args.code.now c.loop-instr.instr-index c.instr-item.result c.loop-instr-test.true c.instr-item.is c.loop-instr.invariant.0 c.in_ok-make_room.ensures.gives c.push_instr_line.ensures,
  c.in_ok-make_room.ensures.same ∙ c.loop-instr.invariant.1,
)
