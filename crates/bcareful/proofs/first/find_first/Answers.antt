use Rattle.std.proofs.Common.{◌≡◌, ◌∙◌, ap, map, refl, subst, unwrap_or}
use Rattle.bword.specs.ByteEnds.{outgoing_of}
use Rattle.blang.specs.Machine.{image_of}
use Rattle.bmach.proofs.Readings.{none_at_first}
use Rattle.btools.specs.FrameNames.{frame_seen}
use Rattle.btools.specs.Programs.{nothing_written, steps_from}
use Rattle.bcareful.specs.Carefuls.{CarefulGives}
use Rattle.bcareful.specs.Runs.{finds_wraps}
use Rattle.bcareful.specs.Things.{atlas_in, atlas_of, extents_of}
use Rattle.bcareful.proofs.Silent.{found_first, none_first, not_begun, read_first}
use Rattle.bcareful.proofs.first.find_first.Goals as goal

pub returns-in_default-new-clause-nothing : goal.returns-in_default-new-clause-nothing
returns-in_default-new-clause-nothing g c =
    let i = g.I.ByteIn.incoming c.args.input.now in
    none_at_first (image_of c.args.program.now.definitions.items) c.args.steps i i refl

pub returns-in-Err-clause-nothing : goal.returns-in-Err-clause-nothing
returns-in-Err-clause-nothing g c =
    not_begun c.args.program.now.definitions.items c.args.program.now.image c.args.steps (g.I.ByteIn.incoming c.args.input.now) c.in-Err.outcome c.in-Err.ensures

pub returns-in-Over-clause-finds : goal.returns-in-Over-clause-finds
returns-in-Over-clause-finds g c =
    let program = c.args.program.now in
    let ds = program.definitions.items in
    let frames = program.names.frames.items in
    let i = g.I.ByteIn.incoming c.args.input.now in
    let j = g.I.ByteIn.incoming c.careful_recorded-ran.new.input in
    let p = c.in-Ok-begin.stepper in
    let now = c.careful_recorded-ran.new.stepper in
    let q = outgoing_of c.careful_recorded-ran.new.out in
    let a = atlas_of (record { program = c.args.program; tables = c.args.tables; extents = c.as_slice.result; wraps = c.finds_wraps.result }) in
    let b = atlas_in ds frames (finds_wraps c.args.care) in
    let whole : a ≡ b = λ k. record {
      definitions = ds;
      functions = c.requires.functions k;
      frames = map frame_seen frames;
      address_of = λ x. unwrap_or (c.requires.loaded.addresses x k) 0;
      extents = (c.as_slice.ensures.value ∙ c.in-Ok.ensures ∙ ap extents_of c.deref.ensures.value) k;
      wraps = c.finds_wraps.ensures k;
    } in
    let o : outgoing_of c.new-silent.result ≡ nothing_written = ap outgoing_of c.new-silent.ensures in
    none_first ds program.image p now c.requires.loaded c.in-Ok-begin.ensures a b whole c.args.steps i j c.careful_recorded-ran.new.out c.in-Over.stop
    (subst (λ e. CarefulGives a p.image.functions (steps_from p) c.args.steps i j nothing_written q now e) c.in-Over.is
    (subst (λ x. CarefulGives a p.image.functions (steps_from p) c.args.steps i j x q now c.careful_recorded-ran.result.ended) o c.careful_recorded-ran.ensures.gives))

pub returns-in-Ok-finding_meaning-clause-finds : goal.returns-in-Ok-finding_meaning-clause-finds
returns-in-Ok-finding_meaning-clause-finds g c =
    let program = c.args.program.now in
    let ds = program.definitions.items in
    let frames = program.names.frames.items in
    let i = g.I.ByteIn.incoming c.args.input.now in
    let j = g.I.ByteIn.incoming c.careful_recorded-ran.new.input in
    let p = c.in-Ok-begin.stepper in
    let now = c.careful_recorded-ran.new.stepper in
    let q = outgoing_of c.careful_recorded-ran.new.out in
    let a = atlas_of (record { program = c.args.program; tables = c.args.tables; extents = c.as_slice.result; wraps = c.finds_wraps.result }) in
    let b = atlas_in ds frames (finds_wraps c.args.care) in
    let whole : a ≡ b = λ k. record {
      definitions = ds;
      functions = c.requires.functions k;
      frames = map frame_seen frames;
      address_of = λ x. unwrap_or (c.requires.loaded.addresses x k) 0;
      extents = (c.as_slice.ensures.value ∙ c.in-Ok.ensures ∙ ap extents_of c.deref.ensures.value) k;
      wraps = c.finds_wraps.ensures k;
    } in
    let o : outgoing_of c.new-silent.result ≡ nothing_written = ap outgoing_of c.new-silent.ensures in
    found_first ds program.image p now c.requires.loaded c.in-Ok-begin.ensures a b whole c.args.steps i j c.careful_recorded-ran.new.out c.in-Found.found
    (subst (λ e. CarefulGives a p.image.functions (steps_from p) c.args.steps i j nothing_written q now e) c.in-Found.is
    (subst (λ x. CarefulGives a p.image.functions (steps_from p) c.args.steps i j x q now c.careful_recorded-ran.result.ended) o c.careful_recorded-ran.ensures.gives))
    c.stop_of.result c.stop_of.ensures c.in-Ok-finding_meaning.text c.in-Ok-finding_meaning.ensures

pub returns-clause-nothing : goal.returns-clause-nothing
returns-clause-nothing g c =
    let program = c.args.program.now in
    let ds = program.definitions.items in
    let frames = program.names.frames.items in
    let i = g.I.ByteIn.incoming c.args.input.now in
    let j = g.I.ByteIn.incoming c.careful_recorded-ran.new.input in
    let p = c.in-Ok-begin.stepper in
    let now = c.careful_recorded-ran.new.stepper in
    let q = outgoing_of c.careful_recorded-ran.new.out in
    let a = atlas_of (record { program = c.args.program; tables = c.args.tables; extents = c.as_slice.result; wraps = c.finds_wraps.result }) in
    let b = atlas_in ds frames (finds_wraps c.args.care) in
    let whole : a ≡ b = λ k. record {
      definitions = ds;
      functions = c.requires.functions k;
      frames = map frame_seen frames;
      address_of = λ x. unwrap_or (c.requires.loaded.addresses x k) 0;
      extents = (c.as_slice.ensures.value ∙ c.in-Ok.ensures ∙ ap extents_of c.deref.ensures.value) k;
      wraps = c.finds_wraps.ensures k;
    } in
    let o : outgoing_of c.new-silent.result ≡ nothing_written = ap outgoing_of c.new-silent.ensures in
    read_first ds program.image p now c.requires.loaded c.in-Ok-begin.ensures a b whole c.args.steps i j c.careful_recorded-ran.new.out c.in-Found.found
    (subst (λ e. CarefulGives a p.image.functions (steps_from p) c.args.steps i j nothing_written q now e) c.in-Found.is
    (subst (λ x. CarefulGives a p.image.functions (steps_from p) c.args.steps i j x q now c.careful_recorded-ran.result.ended) o c.careful_recorded-ran.ensures.gives))
