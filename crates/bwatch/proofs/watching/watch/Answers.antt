use Rattle.std.proofs.Common.{refl}
use Rattle.blang.specs.Machine.{image_of}
use Rattle.bmach.proofs.Beginning.{no_other_beginning}
use Rattle.bmach.proofs.Readings.{none_at_first}
use Rattle.bmach.proofs.LoadedRuns.{read_of_loaded}
use Rattle.bwatch.proofs.Loaded.{watched_loaded}
use Rattle.bwatch.proofs.Seen.{where_refused}
use Rattle.bwatch.proofs.watching.watch.Goals as goal

pub returns-in_default-clause-read : goal.returns-in_default-clause-read
returns-in_default-clause-read g c =
    none_at_first (image_of c.args.program.now.definitions.items) c.args.steps (g.I.ByteIn.incoming c.args.input.now) (g.I.ByteIn.incoming c.args.input.now) refl

pub returns-in-Memory-clause-read : goal.returns-in-Memory-clause-read
returns-in-Memory-clause-read g c =
    none_at_first (image_of c.args.program.now.definitions.items) c.args.steps (g.I.ByteIn.incoming c.args.input.now) (g.I.ByteIn.incoming c.args.input.now) refl

pub unreachable-requires : goal.unreachable-requires
unreachable-requires g c = no_other_beginning c.args.program.now.image c.in-Err.outcome c.in-Err.ensures c.in-Exit.is

pub returns-in_err-watch_steps-in-Ok-begin-clause-read : goal.returns-in_err-watch_steps-in-Ok-begin-clause-read
returns-in_err-watch_steps-in-Ok-begin-clause-read g c =
    where_refused c.from_residual.result _
    (read_of_loaded c.args.program.now.definitions.items c.args.program.now.image c.in-Ok-begin.stepper c.requires.loaded c.in-Ok-begin.ensures c.args.steps _ _ c.in_err-watch_steps-in-Ok-begin.ensures.read)

pub returns-in_ok-watch_steps-in-Ok-begin-clause-gives : goal.returns-in_ok-watch_steps-in-Ok-begin-clause-gives
returns-in_ok-watch_steps-in-Ok-begin-clause-gives g c =
    watched_loaded c.args.program.now.definitions.items c.args.program.now.image c.in-Ok-begin.stepper c.requires.loaded c.in-Ok-begin.ensures c.args.steps _ _ _ _ _ c.in_ok-watch_steps-in-Ok-begin.ensures.gives
