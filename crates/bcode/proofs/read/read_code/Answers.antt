use Rattle.std.proofs.Common.{refl}
use Rattle.bcode.proofs.FaultLaws.{unique_code}
use Rattle.bcode.proofs.MemoryLaws.{read_more, read_whole, read_only, read_fault, read_last, push_fault}
use Rattle.bcode.proofs.read.read_code.Goals as goal

pub returns-in_err-push-in-Definition-clause-fault : goal.returns-in_err-push-in-Definition-clause-fault
returns-in_err-push-in-Definition-clause-fault c =
    let d = c.in-Definition.definition in
    let read = read_more c.definitions.invariant c.next.new.self d _ c.in-Definition.ensures.gives c.in-Definition.ensures.keeps refl in
    push_fault _ _ c.from_residual.ensures.1 (read_last _ d read)

pub returns-in_err-push-in-Definition-clause-unique : goal.returns-in_err-push-in-Definition-clause-unique
returns-in_err-push-in-Definition-clause-unique c ds es d e = unique_code _ ds es d e

pub returns-in-End-clause-only : goal.returns-in-End-clause-only
returns-in-End-clause-only c ds code = unique_code _ _ ds (read_whole c.definitions.invariant _ c.in-End.ensures.gives) code

pub returns-in-End-clause-unique : goal.returns-in-End-clause-unique
returns-in-End-clause-unique c ds es d e = unique_code _ ds es d e

pub returns-in-Fault-clause-only : goal.returns-in-Fault-clause-only
returns-in-Fault-clause-only c ds code = read_only c.definitions.invariant _ c.in-Fault.fault c.in-Fault.ensures.gives ds code

pub returns-in-Fault-clause-fault : goal.returns-in-Fault-clause-fault
returns-in-Fault-clause-fault c = read_fault c.definitions.invariant _ c.in-Fault.fault c.in-Fault.ensures.gives

pub returns-in-Fault-clause-unique : goal.returns-in-Fault-clause-unique
returns-in-Fault-clause-unique c ds es d e = unique_code _ ds es d e
