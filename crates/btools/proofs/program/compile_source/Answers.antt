use Rattle.btools.proofs.KeptNames.{kept_notes}
use Rattle.btools.proofs.Reading.{code_whole, fault_whole, never_so}
use Rattle.btools.proofs.program.compile_source.Goals as goal

pub unreachable-requires : goal.unreachable-requires
unreachable-requires g c =
    never_so c.args.edition c.args.source.now c.new-input.result _ c.compile_definitions-last.result.0 _ c.new-input.ensures c.compile_definitions-last.ensures.gives c.in-Written.is

pub returns-in-Finished-clause-code : goal.returns-in-Finished-clause-code
returns-in-Finished-clause-code g c =
    code_whole c.args.edition c.args.source.now c.new-input.result _ c.compile_definitions-last.result.0 _ c.new-input.ensures c.compile_definitions-last.ensures.gives c.in-Finished.is

pub returns-in-Finished-clause-notes : goal.returns-in-Finished-clause-notes
returns-in-Finished-clause-notes g c =
    kept_notes c.args.edition c.args.source.now c.new-input.result _ c.compile_definitions-last.result.0 _ _ c.new-input.ensures c.in-Finished.is c.compile_definitions-last.ensures.watched

pub returns-in-Fault-clause-code : goal.returns-in-Fault-clause-code
returns-in-Fault-clause-code g c =
    fault_whole c.args.edition c.args.source.now c.new-input.result _ c.compile_definitions-last.result.0 _ c.new-input.ensures c.compile_definitions-last.ensures.gives c.in-Fault.fault c.in-Fault.is
