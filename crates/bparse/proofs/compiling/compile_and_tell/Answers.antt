use Rattle.std.proofs.Common.{refl}
use Rattle.bparse.proofs.CompileSteps.{answers, compiles_between, done, faulty, cut_off, device, memory}
use Rattle.bparse.proofs.compiling.compile_and_tell.Goals as goal

pub returns-in-Finished-clause-compiles : goal.returns-in-Finished-clause-compiles
returns-in-Finished-clause-compiles g c = compiles_between _ _ (answers c.in-Finished.is c.compile_into-last.ensures.gives) (λ first last l. done first last _ _ l refl)

pub returns-in-Ok-clause-compiles : goal.returns-in-Ok-clause-compiles
returns-in-Ok-clause-compiles g c =
    compiles_between _ _ (answers c.in-Fault.is c.compile_into-last.ensures.gives) (λ first last l. faulty first last _ _ c.in-Fault.fault l c.in-Ok.ensures.gives)

pub returns-in-Err-clause-compiles : goal.returns-in-Err-clause-compiles
returns-in-Err-clause-compiles g c =
    rw c.of_fault.ensures (compiles_between _ _ (answers c.in-Fault.is c.compile_into-last.ensures.gives) (λ first last l. cut_off first last _ _ c.in-Fault.fault c.in-Err.fault l c.in-Err.ensures.gives))

pub returns-in-Device-clause-compiles : goal.returns-in-Device-clause-compiles
returns-in-Device-clause-compiles g c = compiles_between _ _ (answers c.in-Device.is c.compile_into-last.ensures.gives) (λ first last l. device first last _ _ l refl)

pub returns-in-Memory-clause-compiles : goal.returns-in-Memory-clause-compiles
returns-in-Memory-clause-compiles g c = compiles_between _ _ (answers c.in-Memory.is c.compile_into-last.ensures.gives) (λ first last l. memory first last _ _ l refl)
