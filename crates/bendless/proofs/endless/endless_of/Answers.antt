use Rattle.std.proofs.Common.{◌≡◌, ◌∙◌, ◌++◌, ℕ, List, Some, ap, refl}
use Rattle.btools.specs.Functions.{entries_of}
use Rattle.bendless.specs.Idle.{idle_names}
use Rattle.bendless.specs.Loops.{noted_of}
use Rattle.bendless.proofs.Found.{is_endless, ok_so}
use Rattle.bendless.proofs.Searching.{store_fits}
use Rattle.bendless.proofs.endless.endless_of.Goals as goal

pub repeat_of-requires : goal.repeat_of-requires
repeat_of-requires c = store_fits c.args.program.now.definitions.items c.args.program.now.image c.requires.loads c.requires.loaded

pub returns : goal.returns
returns c i j records =
    let program = c.args.program.now in
    let ds = program.definitions.items in
    let frames = program.names.frames.items in
    let fs = entries_of c.args.tables.now in
    let r = c.in_ok-repeat.repeat in
    let notes = noted_of c.in_ok-notes.notes in
    let text = c.push_idle_names.new.text in
    let names : text ≡ idle_names fs ds frames r.call notes =
    ok_so c.push_idle_names.result (text ≡ c.new-names.result ++ idle_names fs ds frames r.call notes) c.in_ok-ok.ensures.variant c.push_idle_names.ensures
    ∙ ap (λ (t : List ℕ). t ++ idle_names fs ds frames r.call notes) c.new-names.ensures in
    is_endless ds program.image fs frames i j c.args.read.now (Some r) r notes text refl records c.in_ok-repeat.ensures.whole c.in_ok-repeat.ensures.repeats names c.in_ok-notes.ensures
