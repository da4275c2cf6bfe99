use Rattle.brun.proofs.MigrateSteps.{begin_refused, stop_exit}
use Rattle.brun.proofs.migrating.migrate_code.Goals as goal

pub returns-in_err-write_begin-clause-gives : goal.returns-in_err-write_begin-clause-gives
returns-in_err-write_begin-clause-gives g c =
    stop_exit _ c.from_residual.result _ c.from_residual.ensures.1
    (begin_refused _ _ _ c.in_err-write_begin.field-0.0 c.in_err-write_begin.ensures.gives)
