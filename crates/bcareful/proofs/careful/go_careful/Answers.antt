use Rattle.std.proofs.Common.{◌∙◌, ap, map, refl, unwrap_or}
use Rattle.bsources.specs.Files.{files_shown}
use Rattle.btools.specs.FrameNames.{frame_seen}
use Rattle.bcareful.specs.Things.{extents_of}
use Rattle.btools.specs.Origins.{origin_shown}
use Rattle.btools.proofs.Refused.{no_memory}
use Rattle.bwatch.proofs.Origins.{loaded_in, loads_in}
use Rattle.btools.specs.declared.program.ProgramFault.TheVariants.{Memory}
use Rattle.btools.proofs.Functions.{data_fit}
use Rattle.bcareful.specs.Runs.{stopped}
use Rattle.bcareful.proofs.careful.go_careful.Goals as goal

pub new-requires : goal.new-requires
new-requires g c =
    let ds = c.in-Ok.program.definitions.items in
    data_fit ds (loads_in (origin_shown c.args.wanted.origin) c.args.source.now ds c.in-Ok.program.image c.in-Ok.ensures.program)

pub returns-in-Err-clause-runs : goal.returns-in-Err-clause-runs
returns-in-Err-clause-runs g c = stopped (c.tell_placed.ensures.tells (origin_shown c.args.wanted.origin) c.args.source.now c.in-Err.ensures.program) (record { unread = refl; silent = refl })

pub returns-in_default-clause-runs : goal.returns-in_default-clause-runs
returns-in_default-clause-runs g c = stopped (Memory, no_memory (origin_shown c.args.wanted.origin) c.args.source.now, (refl, refl)) (record { unread = refl; silent = refl })

pub returns-in_default-extents_of-clause-runs : goal.returns-in_default-extents_of-clause-runs
returns-in_default-extents_of-clause-runs g c = stopped (Memory, no_memory (origin_shown c.args.wanted.origin) c.args.source.now, (refl, refl)) (record { unread = refl; silent = refl })

pub returns-clause-runs : goal.returns-clause-runs
returns-clause-runs g c = c.run_asked.ensures.runs c.in-Ok.ensures.names (c.in-Ok.ensures.lines, c.in-Ok.ensures.columns)

pub run_asked-requires-clause-atlas : goal.run_asked-requires-clause-atlas
run_asked-requires-clause-atlas g c =
    let program = c.in-Ok.program in
    let loaded = loaded_in (origin_shown c.args.wanted.origin) c.args.source.now program.definitions.items program.image c.in-Ok.ensures.program in
    λ k. record {
      definitions = program.definitions.items;
      functions = c.in-Ok-new.ensures.functions k;
      frames = map frame_seen program.names.frames.items;
      address_of = λ x. unwrap_or (loaded.addresses x k) 0;
      extents = (c.as_slice.ensures.value ∙ c.in-Ok-extents_of.ensures ∙ ap extents_of c.deref.ensures.value) k;
      wraps = c.finds_wraps.ensures k;
    }

pub run_asked-requires-clause-legend : goal.run_asked-requires-clause-legend
run_asked-requires-clause-legend g c =
    λ k. record { functions = c.in-Ok-new.ensures.functions k; lines = c.in-Ok-new.ensures.lines k; columns = c.in-Ok-new.ensures.columns k; files = files_shown c.args.wanted.files }
