use Rattle.std.proofs.Common.{◌∙◌, ℕ, List, ap, inl, inr, refl, subst}
use Rattle.blang.specs.declared.status.TheConstants.{DONE}
use Rattle.blang.specs.declared.run.Outcome.TheVariants as outcome
use Rattle.blang.specs.Machine.{image_of, machine}
use Rattle.blang.specs.Reports.{Reported}
use Rattle.bmach.proofs.Readings.{none_at_first}
use Rattle.btools.proofs.Functions.{data_fit}
use Rattle.btools.specs.Functions.{functions_of}
use Rattle.btools.specs.Origins.{origin_shown}
use Rattle.btools.specs.ProgramLines.{FunctionLines}
use Rattle.bwatch.proofs.Origins.{loaded_in, loads_in}
use Rattle.bwatch.proofs.Seen.{read_watched, told_so}
use Rattle.bcount.specs.Counts.{AreCounts, asked_of, count_text, counted, no_memory, not_begun, stopped, unread}
use Rattle.bcount.specs.Tallies.{tallies_of}
use Rattle.bcount.proofs.Counted.{counted_so, none_counted}
use Rattle.bcount.proofs.counting.count.Goals as goal

pub new-requires : goal.new-requires
new-requires g c =
    let ds = c.in-Ok.program.definitions.items in
    data_fit ds (loads_in (origin_shown c.args.counting.origin) c.args.source.now ds c.in-Ok.program.image c.in-Ok.ensures.program)

pub watch-requires-clause-loaded : goal.watch-requires-clause-loaded
watch-requires-clause-loaded g c =
    loaded_in (origin_shown c.args.counting.origin) c.args.source.now c.in-Ok.program.definitions.items c.in-Ok.program.image c.in-Ok.ensures.program

pub watch-requires-clause-begins : goal.watch-requires-clause-begins
watch-requires-clause-begins g c = none_counted c.in-Ok-new-2.tallies c.in-Ok-new.tables c.in-Ok-new-2.ensures.counts c.in-Ok-new-2.ensures.tables

pub returns-in-Err-clause-counts : goal.returns-in-Err-clause-counts
returns-in-Err-clause-counts g c = stopped (c.tell_placed.ensures.tells (origin_shown c.args.counting.origin) c.args.source.now c.in-Err.ensures.program) (record { unread = refl; silent = refl })

pub returns-in_default-clause-counts : goal.returns-in_default-clause-counts
returns-in_default-clause-counts g c =
    no_memory c.in-Ok.program.definitions.items c.in-Ok.program.image c.in-Ok.ensures.program ((c.in-Ok.program.names.lines.items, c.in-Ok.ensures.lines), (c.in-Ok.program.names.frames.items, c.in-Ok.ensures.names)) refl refl
    (none_at_first (image_of c.in-Ok.program.definitions.items) c.args.counting.steps (g.I.ByteIn.incoming c.args.input.now) (g.I.ByteIn.incoming c.args.input.now) refl) refl

pub returns-in_default-new-clause-counts : goal.returns-in_default-new-clause-counts
returns-in_default-new-clause-counts g c =
    no_memory c.in-Ok.program.definitions.items c.in-Ok.program.image c.in-Ok.ensures.program ((c.in-Ok.program.names.lines.items, c.in-Ok.ensures.lines), (c.in-Ok.program.names.frames.items, c.in-Ok.ensures.names)) refl refl
    (none_at_first (image_of c.in-Ok.program.definitions.items) c.args.counting.steps (g.I.ByteIn.incoming c.args.input.now) (g.I.ByteIn.incoming c.args.input.now) refl) refl

pub returns-in-Ok-Unbegun-clause-counts : goal.returns-in-Ok-Unbegun-clause-counts
returns-in-Ok-Unbegun-clause-counts g c =
    let w = rw c.in-Ok-Unbegun.field-0-is at c.in-Ok-Unbegun.ensures.gives in
    not_begun c.in-Ok.program.definitions.items c.in-Ok.program.image (outcome.Trap c.in-Ok-Unbegun.trap) c.in-Ok.ensures.program ((c.in-Ok.program.names.lines.items, c.in-Ok.ensures.lines), (c.in-Ok.program.names.frames.items, c.in-Ok.ensures.names)) w.0 c.finish.ensures.gives (record { unread = w.1; silent = refl })

pub returns-in-Err-watch-clause-counts : goal.returns-in-Err-watch-clause-counts
returns-in-Err-watch-clause-counts g c =
    no_memory c.in-Ok.program.definitions.items c.in-Ok.program.image c.in-Ok.ensures.program ((c.in-Ok.program.names.lines.items, c.in-Ok.ensures.lines), (c.in-Ok.program.names.frames.items, c.in-Ok.ensures.names)) refl refl c.in-Err-watch.ensures.read refl

pub returns-in-Device-clause-counts : goal.returns-in-Device-clause-counts
returns-in-Device-clause-counts g c =
    let w = rw c.in-Ok-Ended.field-0-is at c.in-Ok-Ended.ensures.gives in
    unread c.in-Ok.program.definitions.items c.in-Ok.program.image w.output c.in-Ok.ensures.program ((c.in-Ok.program.names.lines.items, c.in-Ok.ensures.lines), (c.in-Ok.program.names.frames.items, c.in-Ok.ensures.names)) refl (rw c.in-Device.is at w.gives) refl refl

pub returns-in_default-text_of-clause-counts : goal.returns-in_default-text_of-clause-counts
returns-in_default-text_of-clause-counts g c =
    let w = rw c.in-Ok-Ended.field-0-is at c.in-Ok-Ended.ensures.gives in
    let ds = c.in-Ok.program.definitions.items in
    no_memory ds c.in-Ok.program.image c.in-Ok.ensures.program ((c.in-Ok.program.names.lines.items, c.in-Ok.ensures.lines), (c.in-Ok.program.names.frames.items, c.in-Ok.ensures.names)) refl refl
    (read_watched (image_of ds).functions (machine ds) c.args.counting.steps _ _ c.in-Ok-Ended.stop.outcome c.in-Ok-Ended.stop.steps _ c.in_default-outcome.not-Device w) refl

pub returns-then-told-ne-DONE-clause-counts : goal.returns-then-told-ne-DONE-clause-counts
returns-then-told-ne-DONE-clause-counts g c =
    let w = rw c.in-Ok-Ended.field-0-is at c.in-Ok-Ended.ensures.gives in
    let ds = c.in-Ok.program.definitions.items in
    let stop = c.in-Ok-Ended.stop in
    let fs = functions_of ds in
    let tallies = c.watch.new.onlooker in
    let lines = c.in-Ok.program.names.lines.items in
    let text = c.as_slice.ensures ∙ c.in-Ok-text_of.ensures ∙ ap (λ (ls : List FunctionLines). count_text (asked_of c.args.counting) c.args.source.now ls (tallies_of tallies) stop.steps) c.in-Ok-new.ensures.lines in
    let told = subst (λ (t : List ℕ). Reported t DONE (g.O.ByteOut.outgoing c.args.out.now) (g.O.ByteOut.outgoing c.tell-told.new.out) c.tell-told.result) text c.tell-told.ensures.told in
    let counts = told_so (image_of ds).functions (machine ds) c.args.counting.steps _ _ stop.outcome stop.steps _ (AreCounts fs (tallies_of tallies))
    (counted_so c.in-Ok-new-2.tallies tallies c.in-Ok-new.tables fs c.in-Ok-new-2.ensures.tables c.in-Ok-new.ensures.functions stop.outcome c.in_default-outcome.not-Device stop.steps) w in
    counted ds c.in-Ok.program.image stop.outcome stop.steps (tallies_of tallies) lines c.in-Ok.program.names.frames.items c.tell-told.result c.in-Ok.ensures.program counts c.in-Ok.ensures.lines c.in-Ok.ensures.names told (inr (c.if-told-ne-DONE.true, refl, refl))

pub returns-clause-counts : goal.returns-clause-counts
returns-clause-counts g c =
    let w = rw c.in-Ok-Ended.field-0-is at c.in-Ok-Ended.ensures.gives in
    let ds = c.in-Ok.program.definitions.items in
    let stop = c.in-Ok-Ended.stop in
    let fs = functions_of ds in
    let tallies = c.watch.new.onlooker in
    let lines = c.in-Ok.program.names.lines.items in
    let text = c.as_slice.ensures ∙ c.in-Ok-text_of.ensures ∙ ap (λ (ls : List FunctionLines). count_text (asked_of c.args.counting) c.args.source.now ls (tallies_of tallies) stop.steps) c.in-Ok-new.ensures.lines in
    let told = subst (λ (t : List ℕ). Reported t DONE (g.O.ByteOut.outgoing c.args.out.now) (g.O.ByteOut.outgoing c.tell-told.new.out) c.tell-told.result) text c.tell-told.ensures.told in
    let counts = told_so (image_of ds).functions (machine ds) c.args.counting.steps _ _ stop.outcome stop.steps _ (AreCounts fs (tallies_of tallies))
    (counted_so c.in-Ok-new-2.tallies tallies c.in-Ok-new.tables fs c.in-Ok-new-2.ensures.tables c.in-Ok-new.ensures.functions stop.outcome c.in_default-outcome.not-Device stop.steps) w in
    counted ds c.in-Ok.program.image stop.outcome stop.steps (tallies_of tallies) lines c.in-Ok.program.names.frames.items c.tell-told.result c.in-Ok.ensures.program counts c.in-Ok.ensures.lines c.in-Ok.ensures.names told (inl (c.if-told-ne-DONE.false, c.finish-2.ensures.gives))
