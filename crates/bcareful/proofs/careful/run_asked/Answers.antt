use Rattle.std.proofs.Common.{◌∙◌, List, ℕ, ap, refl, subst, sym}
use Rattle.std.specs.Prelude.{IfSome}
use Rattle.blang.specs.Reports.{Reported}
use Rattle.btools.specs.Functions.{Placed}
use Rattle.btools.specs.Origins.{origin_shown, places_kept}
use Rattle.btools.proofs.Refused.{no_memory}
use Rattle.bwatch.proofs.Origins.{loaded_in, loads_in}
use Rattle.btools.specs.Programs.{steps_from}
use Rattle.btools.specs.declared.program.ProgramFault.TheVariants.{Memory}
use Rattle.bendless.specs.Repeats.{IsEndless}
use Rattle.btrace.specs.RowTexts.{legend_of}
use Rattle.bcareful.specs.Carefuls.{CarefulGives}
use Rattle.bcareful.specs.Runs.{careful_asked, not_begun, stopped}
use Rattle.bcareful.specs.Things.{atlas_of}
use Rattle.bcareful.specs.Warned.{told_after}
use Rattle.bcareful.proofs.Whole.{found_whole, unfound_whole, warned_whole}
use Rattle.bcareful.proofs.careful.run_asked.Goals as goal

pub returns-in_default-clause-runs : goal.returns-in_default-clause-runs
returns-in_default-clause-runs g c named lined = stopped (Memory, no_memory (origin_shown c.args.wanted.origin) c.args.teller.now.source.now, (refl, refl)) (record { unread = refl; silent = refl })

pub returns-in-Err-clause-runs : goal.returns-in-Err-clause-runs
returns-in-Err-clause-runs g c named lined =
    let program = c.args.teller.now.atlas.program.now in
    not_begun program.definitions.items program.image c.in-Err.outcome c.requires.program ((program.names.lines.items, lined.0), (program.names.frames.items, named)) c.in-Err.ensures c.finish.ensures.gives
    (record { unread = refl; silent = refl })

pub endless_of-again-requires-clause-loads : goal.endless_of-again-requires-clause-loads
endless_of-again-requires-clause-loads g c =
    let program = c.args.teller.now.atlas.program.now in
    loads_in (origin_shown c.args.wanted.origin) c.args.teller.now.source.now program.definitions.items program.image c.requires.program

pub endless_of-again-requires-clause-loaded : goal.endless_of-again-requires-clause-loaded
endless_of-again-requires-clause-loaded g c =
    let program = c.args.teller.now.atlas.program.now in
    loaded_in (origin_shown c.args.wanted.origin) c.args.teller.now.source.now program.definitions.items program.image c.requires.program

pub endless_of-again-requires-in-Over-clause-loads : goal.endless_of-again-requires-in-Over-clause-loads
endless_of-again-requires-in-Over-clause-loads g c =
    let program = c.args.teller.now.atlas.program.now in
    loads_in (origin_shown c.args.wanted.origin) c.args.teller.now.source.now program.definitions.items program.image c.requires.program

pub endless_of-again-requires-in-Over-clause-loaded : goal.endless_of-again-requires-in-Over-clause-loaded
endless_of-again-requires-in-Over-clause-loaded g c =
    let program = c.args.teller.now.atlas.program.now in
    loaded_in (origin_shown c.args.wanted.origin) c.args.teller.now.source.now program.definitions.items program.image c.requires.program

pub returns-then-not-stays-clause-runs : goal.returns-then-not-stays-clause-runs
returns-then-not-stays-clause-runs g c named lined =
    let t = c.args.teller.now in
    let program = t.atlas.program.now in
    let ran = c.warned_recorded-ran in
    let w = ran.result.warned in
    let i = g.I.ByteIn.incoming c.args.input.now in
    let j = g.I.ByteIn.incoming ran.new.input in
    let again = c.endless_of-again in
    warned_whole (careful_asked c.args.wanted) t.source.now _ c.tell.result program.definitions.items program.image program.names.frames.items (places_kept program)
    c.in-Ok-begin.stepper ran.new.stepper c.requires.program named lined c.in-Ok-begin.ensures (atlas_of t.atlas) c.requires.atlas (legend_of t.legend) c.requires.legend
    w.stop again.result w.text (g.D.ByteOut.outgoing c.tell_over-told.new.diag) c.tell_over-told.result (sym c.stays.ensures ∙ c.if-not-stays.true) ran.ensures.gives
    (subst (λ (fs : List Placed). IfSome again.result (IsEndless program.definitions.items program.image fs program.names.frames.items i j)) c.requires.functions (again.ensures i j ran.ensures.records))
    c.tell_over-told.ensures.tells
    (subst (λ (t : List ℕ). Reported t c.tell_over-told.result (g.D.ByteOut.outgoing c.tell_over-told.new.diag) (g.D.ByteOut.outgoing c.tell.new.out) c.tell.result) (c.told_after.ensures ∙ ap (told_after c.tell_over-told.result) c.as_slice.ensures) c.tell.ensures.told)

pub returns-in-Over-clause-runs : goal.returns-in-Over-clause-runs
returns-in-Over-clause-runs g c named lined =
    let t = c.args.teller.now in
    let program = t.atlas.program.now in
    let ran = c.careful_recorded-ran in
    let i = g.I.ByteIn.incoming c.args.input.now in
    let j = g.I.ByteIn.incoming ran.new.input in
    let again = c.endless_of-again-in-Over in
    unfound_whole (careful_asked c.args.wanted) t.source.now _ c.tell_over.result program.definitions.items program.image program.names.frames.items (places_kept program)
    c.in-Ok-begin.stepper ran.new.stepper c.requires.program named lined c.in-Ok-begin.ensures (atlas_of t.atlas) c.requires.atlas (legend_of t.legend) c.requires.legend
    c.in-Over.stop again.result (sym c.stays.ensures ∙ c.if-not-stays.false) (subst (λ e. CarefulGives (atlas_of c.args.teller.now.atlas) c.in-Ok-begin.stepper.image.functions (steps_from c.in-Ok-begin.stepper) c.args.wanted.steps (g.I.ByteIn.incoming c.args.input.now) (g.I.ByteIn.incoming c.careful_recorded-ran.new.input) (g.O.ByteOut.outgoing c.args.out.now) (g.O.ByteOut.outgoing c.careful_recorded-ran.new.out) c.careful_recorded-ran.new.stepper e) c.in-Over.is c.careful_recorded-ran.ensures.gives)
    (subst (λ (fs : List Placed). IfSome again.result (IsEndless program.definitions.items program.image fs program.names.frames.items i j)) c.requires.functions (again.ensures i j ran.ensures.records))
    c.tell_over.ensures.tells

pub tell_found-requires : goal.tell_found-requires
tell_found-requires g c = c.careful_recorded-ran.ensures.counts c.in-Found.found c.in-Found.is

pub returns-clause-runs : goal.returns-clause-runs
returns-clause-runs g c named lined =
    let t = c.args.teller.now in
    let program = t.atlas.program.now in
    found_whole (careful_asked c.args.wanted) t.source.now _ c.tell_found.result program.definitions.items program.image program.names.frames.items (places_kept program)
    c.in-Ok-begin.stepper c.careful_recorded-ran.new.stepper c.requires.program named lined c.in-Ok-begin.ensures (atlas_of t.atlas) c.requires.atlas (legend_of t.legend) c.requires.legend
    c.in-Found.found (sym c.stays.ensures ∙ c.if-not-stays.false) (subst (λ e. CarefulGives (atlas_of c.args.teller.now.atlas) c.in-Ok-begin.stepper.image.functions (steps_from c.in-Ok-begin.stepper) c.args.wanted.steps (g.I.ByteIn.incoming c.args.input.now) (g.I.ByteIn.incoming c.careful_recorded-ran.new.input) (g.O.ByteOut.outgoing c.args.out.now) (g.O.ByteOut.outgoing c.careful_recorded-ran.new.out) c.careful_recorded-ran.new.stepper e) c.in-Found.is c.careful_recorded-ran.ensures.gives) c.tell_found.ensures.told
