use Rattle.std.proofs.Common.{◌∙◌, List, Some, ap, refl, subst, sym}
use Rattle.std.specs.Prelude.{IfSome}
use Rattle.bsources.specs.Files.{files_shown}
use Rattle.btools.specs.Functions.{Placed, entries_of}
use Rattle.btools.specs.ProgramLines.{columns_shown, lines_shown}
use Rattle.btrace.specs.Locates.{not_begun, stopped}
use Rattle.btools.specs.declared.program.ProgramFault.TheVariants.{Memory}
use Rattle.btools.specs.Origins.{origin_shown, places_kept}
use Rattle.btools.proofs.Functions.{data_fit}
use Rattle.btools.proofs.Refused.{no_memory}
use Rattle.btools.proofs.Stopped.{no_other, not_none}
use Rattle.bendless.specs.Repeats.{IsEndless}
use Rattle.bwatch.proofs.Origins.{loaded_in, loads_in}
use Rattle.btrace.proofs.Located.{located_whole, unlocated_whole}
use Rattle.btrace.proofs.locating.locate.Goals as goal
use Rattle.btrace.proofs.locating.locate.Goals.{in_default-located_status-2, in_default-located_status}

pub new-requires : goal.new-requires
new-requires g c =
    let ds = c.in-Ok.program.definitions.items in
    data_fit ds (loads_in (origin_shown c.args.origin) c.args.source.now ds c.in-Ok.program.image c.in-Ok.ensures.program)

pub returns-in-Err-clause-locates : goal.returns-in-Err-clause-locates
returns-in-Err-clause-locates g c = stopped (c.tell_placed.ensures.tells (origin_shown c.args.origin) c.args.source.now c.in-Err.ensures.program) (record { unread = refl; silent = refl })

pub returns-in_default-clause-locates : goal.returns-in_default-clause-locates
returns-in_default-clause-locates g c = stopped (Memory, no_memory (origin_shown c.args.origin) c.args.source.now, (refl, refl)) (record { unread = refl; silent = refl })

pub returns-in_default-new-clause-locates : goal.returns-in_default-new-clause-locates
returns-in_default-new-clause-locates g c = stopped (Memory, no_memory (origin_shown c.args.origin) c.args.source.now, (refl, refl)) (record { unread = refl; silent = refl })

pub returns-in-Err-begin-clause-locates : goal.returns-in-Err-begin-clause-locates
returns-in-Err-begin-clause-locates g c =
    not_begun c.in-Ok.program.definitions.items c.in-Ok.program.image c.in-Err-begin.outcome c.in-Ok.ensures.program ((c.in-Ok.program.names.lines.items, c.in-Ok.ensures.lines), (c.in-Ok.program.names.frames.items, c.in-Ok.ensures.names)) c.in-Err-begin.ensures
    c.finish.ensures.gives (record { unread = refl; silent = refl })

pub returns-clause-locates : goal.returns-clause-locates
returns-clause-locates g c =
    let outcome = c.run_recorded-ran.result.stop.outcome in
    elim c.match-located_status.branch [
      | in_default-located_status-2 w ↦
          rw w.result-is
          (unlocated_whole (origin_shown c.args.origin) c.args.source.now _ c.args.steps _ c.finish-told.result c.in-Ok.program.definitions.items c.in-Ok.program.image c.in-Ok-begin.stepper outcome c.in-Ok.ensures.program ((c.in-Ok.program.names.lines.items, c.in-Ok.ensures.lines), (c.in-Ok.program.names.frames.items, c.in-Ok.ensures.names)) c.in-Ok-begin.ensures c.run_recorded-ran.ensures.gives c.finish-told.ensures.gives
          (no_other _ _ _ (sym c.located_status.ensures ∙ w.in-Some.is) w.if-status-told.false))
      | in_default-located_status w ↦
          rw w.result-is
          (unlocated_whole (origin_shown c.args.origin) c.args.source.now _ c.args.steps _ c.finish-told.result c.in-Ok.program.definitions.items c.in-Ok.program.image c.in-Ok-begin.stepper outcome c.in-Ok.ensures.program ((c.in-Ok.program.names.lines.items, c.in-Ok.ensures.lines), (c.in-Ok.program.names.frames.items, c.in-Ok.ensures.names)) c.in-Ok-begin.ensures c.run_recorded-ran.ensures.gives c.finish-told.ensures.gives
          (not_none _ _ (sym c.located_status.ensures ∙ w.in_default-located_status.is)))
    ]

pub endless_of-again-requires-clause-loads : goal.endless_of-again-requires-clause-loads
endless_of-again-requires-clause-loads g c =
    loads_in (origin_shown c.args.origin) c.args.source.now c.in-Ok.program.definitions.items c.in-Ok.program.image c.in-Ok.ensures.program

pub endless_of-again-requires-clause-loaded : goal.endless_of-again-requires-clause-loaded
endless_of-again-requires-clause-loaded g c =
    loaded_in (origin_shown c.args.origin) c.args.source.now c.in-Ok.program.definitions.items c.in-Ok.program.image c.in-Ok.ensures.program

pub returns-in-Some-clause-locates : goal.returns-in-Some-clause-locates
returns-in-Some-clause-locates g c =
    let ds = c.in-Ok.program.definitions.items in
    let image = c.in-Ok.program.image in
    let frames = c.in-Ok.program.names.frames.items in
    let files = files_shown c.args.files in
    let tables = c.in-Ok-new.tables in
    let ran = c.run_recorded-ran in
    let stop = ran.result.stop in
    let again = c.endless_of-again.result in
    let found = c.endless_of-again.ensures (g.I.ByteIn.incoming c.args.input.now) (g.I.ByteIn.incoming ran.new.input) ran.ensures.records in
    located_whole (origin_shown c.args.origin) c.args.source.now files c.args.steps _ c.tell_site.result ds image c.in-Ok-begin.stepper stop.outcome
    (g.D.ByteOut.outgoing c.finish-told.new.diag) (record { functions = entries_of tables; lines = lines_shown tables; columns = columns_shown tables; files = files }) frames (places_kept c.in-Ok.program) c.finish-told.result stop.call stop.steps again
    c.in-Ok.ensures.program c.in-Ok.ensures.names (c.in-Ok.ensures.lines, c.in-Ok.ensures.columns) (λ i. record { functions = c.in-Ok-new.ensures.functions i; lines = c.in-Ok-new.ensures.lines i; columns = c.in-Ok-new.ensures.columns i; files = files }) c.in-Ok-begin.ensures ran.ensures.gives c.finish-told.ensures.gives
    (sym c.located_status.ensures ∙ c.in-Some.is ∙ ap Some c.if-status-told.true) ran.ensures.stops
    (subst (λ (fs : List Placed). IfSome again (IsEndless ds image fs frames (g.I.ByteIn.incoming c.args.input.now) (g.I.ByteIn.incoming ran.new.input))) c.in-Ok-new.ensures.functions found)
    c.tell_site.ensures.tells
