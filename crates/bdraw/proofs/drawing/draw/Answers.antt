use Rattle.std.proofs.Common.{List, map, refl, subst}
use Rattle.std.specs.Prelude.{zip}
use Rattle.btools.proofs.Functions.{data_fit}
use Rattle.btools.specs.Origins.{origin_shown}
use Rattle.bwatch.proofs.Origins.{loaded_in, loads_in}
use Rattle.btools.specs.FrameNames.{frame_seen}
use Rattle.btools.specs.Functions.{Placed}
use Rattle.bdraw.specs.Draws.{DrawsProgram, drew, stopped}
use Rattle.bdraw.specs.Draws as draws
use Rattle.bdraw.specs.declared.scene.Moment.TheVariants as moment
use Rattle.bdraw.specs.Pictures.{drawn_of}
use Rattle.bdraw.proofs.WatchedPictures.{refused}
use Rattle.bdraw.proofs.drawing.draw.Goals as goal

pub returns-in-Err-clause-draws : goal.returns-in-Err-clause-draws
returns-in-Err-clause-draws g c = stopped (c.in-Err.fault, c.in-Err.ensures.program, c.tell_fault.ensures.tells) refl refl

pub new-requires : goal.new-requires
new-requires g c =
    let ds = c.in-Ok.program.definitions.items in
    data_fit ds (loads_in (origin_shown c.args.origin) c.args.source.now ds c.in-Ok.program.image c.in-Ok.ensures.program)

pub draw_run-requires : goal.draw_run-requires
draw_run-requires g c =
    loaded_in (origin_shown c.args.origin) c.args.source.now c.in-Ok.program.definitions.items c.in-Ok.program.image c.in-Ok.ensures.program

pub returns-in_default-clause-draws : goal.returns-in_default-clause-draws
returns-in_default-clause-draws g c =
    let program = c.in-Ok.program in
    drew program.definitions.items program.names.frames.items program.image c.in-Ok.ensures.program ((c.in-Ok.program.names.lines.items, c.in-Ok.ensures.lines), (c.in-Ok.program.names.frames.items, c.in-Ok.ensures.names)) c.in-Ok.ensures.names refl
    (refused (drawn_of program.definitions.items program.names.frames.items program.image) c.args.steps _ _)

pub returns-in-None-clause-draws : goal.returns-in-None-clause-draws
returns-in-None-clause-draws g c =
    let program = c.in-Ok.program in
    drew program.definitions.items program.names.frames.items program.image c.in-Ok.ensures.program ((c.in-Ok.program.names.lines.items, c.in-Ok.ensures.lines), (c.in-Ok.program.names.frames.items, c.in-Ok.ensures.names)) c.in-Ok.ensures.names refl
    (rw c.in-None.is (
      subst (λ (fs : List Placed). draws.ShowsMemory (record { definitions = program.definitions.items; functions = zip fs (map frame_seen program.names.frames.items); image = program.image }) moment.Before (g.O.ByteOut.outgoing c.args.out.now) (g.O.ByteOut.outgoing c.show_before.new.out) c.show_before.result)
          c.in-Ok-new.ensures.functions c.show_before.ensures.shows,
      refl,
    ))

pub returns-clause-draws : goal.returns-clause-draws
returns-clause-draws g c =
    let program = c.in-Ok.program in
    drew program.definitions.items program.names.frames.items program.image c.in-Ok.ensures.program ((c.in-Ok.program.names.lines.items, c.in-Ok.ensures.lines), (c.in-Ok.program.names.frames.items, c.in-Ok.ensures.names)) c.in-Ok.ensures.names refl
    (rw c.in-Some.is (subst (λ (fs : List Placed). draws.DrawsRun (record { definitions = program.definitions.items; functions = zip fs (map frame_seen program.names.frames.items); image = program.image }) c.in-Some.steps (g.I.ByteIn.incoming c.args.input.now) (g.I.ByteIn.incoming c.draw_run.new.input) (g.O.ByteOut.outgoing c.args.out.now) (g.O.ByteOut.outgoing c.draw_run.new.out) c.draw_run.result)
    c.in-Ok-new.ensures.functions c.draw_run.ensures.draws))
