use Rattle.bparse.proofs.ListSteps.{compiles_list}
use Rattle.bparse.proofs.compiling.compile_list.Goals as goal

pub returns-clause-compiles : goal.returns-clause-compiles
returns-clause-compiles g c =
    compiles_list c.args.edition _ _ c.compile_and_tell-status.result.1 _ _ _ c.compile_and_tell-status.result.0
    c.into_definitions.ensures.same c.into_definitions.ensures.within
    (rw c.new-code.ensures at c.compile_and_tell-status.ensures.compiles)
