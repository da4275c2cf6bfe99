use Rattle.std.proofs.Common.{map, sym, ◌++◌}
use Rattle.blang.specs.Text.{joined, target_line, string_line, instr_line}
use Rattle.bcode.proofs.Paging.{Passes-append, Refuses-after, joined-three, page_first, page_short, page_second, page_same}
use Rattle.bcode.proofs.write.write_function_body.Goals as goal

pub returns-in_err-write_numbers-clause-gives : goal.returns-in_err-write_numbers-clause-gives
returns-in_err-write_numbers-clause-gives g c =
    let targets = map target_line c.args.targets.now in
    let strings = map string_line c.args.strings.now in
    let code = map instr_line c.args.code.now in
    page_same _ _ _ _ _ _ _ (sym (joined-three targets strings code))
    (page_first _ (joined targets ++ joined strings) (joined code) _ _ _ c.from_residual.ensures.1
    (page_short _ (joined targets) (joined strings) c.in_err-write_numbers.ensures.gives))

pub returns-in_err-write_numbers-2-clause-gives : goal.returns-in_err-write_numbers-2-clause-gives
returns-in_err-write_numbers-2-clause-gives g c =
    let targets = map target_line c.args.targets.now in
    let strings = map string_line c.args.strings.now in
    let code = map instr_line c.args.code.now in
    page_same _ _ _ _ _ _ _ (sym (joined-three targets strings code))
    (page_first _ (joined targets ++ joined strings) (joined code) _ _ _ c.from_residual-in_err-write_numbers-2.ensures.1
    (Refuses-after (joined strings) c.in_ok-write_numbers.ensures.gives c.in_err-write_numbers-2.ensures.gives))

pub returns-clause-gives : goal.returns-clause-gives
returns-clause-gives g c =
    let targets = map target_line c.args.targets.now in
    let strings = map string_line c.args.strings.now in
    let code = map instr_line c.args.code.now in
    page_same _ _ _ _ _ _ _ (sym (joined-three targets strings code))
    (page_second _ (joined code) _ _ (Passes-append c.in_ok-write_numbers.ensures.gives c.in_ok-write_numbers-2.ensures.gives)
    c.write_instrs.ensures.gives)
