use Rattle.bparse.proofs.ListSteps.{list_gives}
use Rattle.bparse.proofs.compiling.compile_definitions.Goals as goal

pub returns-clause-gives : goal.returns-clause-gives
returns-clause-gives g c =
    list_gives c.args.edition _ _ c.compile_into-last.result.0 c.compile_into-last.result.1 _
    c.into_definitions.ensures.same c.into_definitions.ensures.within
    (rw c.new-code.ensures at c.compile_into-last.ensures.gives)
