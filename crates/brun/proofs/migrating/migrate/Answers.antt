use Rattle.brun.proofs.MigrateSteps.{refused_text}
use Rattle.brun.proofs.migrating.migrate.Goals as goal

pub returns-in-Err-Fault-clause-migrates : goal.returns-in-Err-Fault-clause-migrates
returns-in-Err-Fault-clause-migrates g c =
    refused_text _ c.in-Err-Fault.fault (rw c.in-Err-Fault.field-0-is at c.in-Err-Fault.ensures.gives) c.refuse.ensures.gives
