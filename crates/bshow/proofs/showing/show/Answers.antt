use Rattle.std.proofs.Common.{◌≡◌, ◌∙◌, ◌++◌, ℕ, List, ap, refl, subst, ⊎_elim}
use Rattle.std.specs.Prelude.{option_map}
use Rattle.blang.specs.declared.status.TheConstants.{DONE}
use Rattle.blang.specs.Machine.{image_of, machine, run}
use Rattle.blang.specs.Reports.{Reported}
use Rattle.btools.specs.Origins.{origin_shown}
use Rattle.bmach.proofs.Readings.{none_at_first}
use Rattle.bsources.specs.Files.{files_shown}
use Rattle.btools.proofs.Functions.{data_fit}
use Rattle.bshow.specs.Facts.{program_text}
use Rattle.bshow.specs.Rows.{lined_code, table_code}
use Rattle.bendless.proofs.Recordings.{comes_back}
use Rattle.bendless.proofs.Searching.{store_fits}
use Rattle.bwatch.proofs.Origins.{loaded_in, loads_in}
use Rattle.bwatch.proofs.Seen.{read_watched}
use Rattle.bshow.specs.Shows.{last_facts, no_memory, not_begun, shown, stopped, tail, unread}
use Rattle.bshow.proofs.Recorded.{none_seen, paged}
use Rattle.bshow.proofs.showing.show.Goals as goal

pub new-requires : goal.new-requires
new-requires g c =
    data_fit c.in-Ok.program.definitions.items
    (loads_in (origin_shown c.args.origin) c.args.source.now c.in-Ok.program.definitions.items c.in-Ok.program.image c.in-Ok.ensures.program)

pub returns-in-Err-clause-shows : goal.returns-in-Err-clause-shows
returns-in-Err-clause-shows g c = stopped (c.tell_placed.ensures.tells (origin_shown c.args.origin) c.args.source.now c.in-Err.ensures.program) (record { unread = refl; silent = refl })

pub program_text-requires : goal.program_text-requires
program_text-requires g c =
    data_fit c.in-Ok.program.definitions.items
    (loads_in (origin_shown c.args.origin) c.args.source.now c.in-Ok.program.definitions.items c.in-Ok.program.image c.in-Ok.ensures.program)

pub show_unbegun-requires : goal.show_unbegun-requires
show_unbegun-requires g c =
    data_fit c.in-Ok.program.definitions.items
    (loads_in (origin_shown c.args.origin) c.args.source.now c.in-Ok.program.definitions.items c.in-Ok.program.image c.in-Ok.ensures.program)

pub watch_recorded-requires-clause-loaded : goal.watch_recorded-requires-clause-loaded
watch_recorded-requires-clause-loaded g c =
    loaded_in (origin_shown c.args.origin) c.args.source.now c.in-Ok.program.definitions.items c.in-Ok.program.image c.in-Ok.ensures.program

pub watch_recorded-requires-clause-begins : goal.watch_recorded-requires-clause-begins
watch_recorded-requires-clause-begins g c =
    none_seen c.in-Ok-new-2.recorder c.in-Ok-new-2.ensures.rows c.in-Ok-new-2.ensures.calls c.in-Ok-new-2.ensures.heard c.in-Ok-new-2.ensures.output

pub returns-in_default-clause-shows : goal.returns-in_default-clause-shows
returns-in_default-clause-shows g c =
    no_memory c.in-Ok.program.definitions.items c.in-Ok.program.image c.in-Ok.ensures.program ((c.in-Ok.program.names.lines.items, c.in-Ok.ensures.lines), (c.in-Ok.program.names.frames.items, c.in-Ok.ensures.names)) refl refl
    (none_at_first (image_of c.in-Ok.program.definitions.items) c.args.wanted.steps (g.I.ByteIn.incoming c.args.input.now) (g.I.ByteIn.incoming c.args.input.now) refl) refl

pub returns-in_default-program_text-clause-shows : goal.returns-in_default-program_text-clause-shows
returns-in_default-program_text-clause-shows g c =
    no_memory c.in-Ok.program.definitions.items c.in-Ok.program.image c.in-Ok.ensures.program ((c.in-Ok.program.names.lines.items, c.in-Ok.ensures.lines), (c.in-Ok.program.names.frames.items, c.in-Ok.ensures.names)) refl refl
    (none_at_first (image_of c.in-Ok.program.definitions.items) c.args.wanted.steps (g.I.ByteIn.incoming c.args.input.now) (g.I.ByteIn.incoming c.args.input.now) refl) refl

pub returns-in_default-new-clause-shows : goal.returns-in_default-new-clause-shows
returns-in_default-new-clause-shows g c =
    no_memory c.in-Ok.program.definitions.items c.in-Ok.program.image c.in-Ok.ensures.program ((c.in-Ok.program.names.lines.items, c.in-Ok.ensures.lines), (c.in-Ok.program.names.frames.items, c.in-Ok.ensures.names)) refl refl
    (none_at_first (image_of c.in-Ok.program.definitions.items) c.args.wanted.steps (g.I.ByteIn.incoming c.args.input.now) (g.I.ByteIn.incoming c.args.input.now) refl) refl

pub repeat_of-again-requires : goal.repeat_of-again-requires
repeat_of-again-requires g c =
    store_fits c.in-Ok.program.definitions.items c.in-Ok.program.image
    (loads_in (origin_shown c.args.origin) c.args.source.now c.in-Ok.program.definitions.items c.in-Ok.program.image c.in-Ok.ensures.program)
    (loaded_in (origin_shown c.args.origin) c.args.source.now c.in-Ok.program.definitions.items c.in-Ok.program.image c.in-Ok.ensures.program)

pub returns-in-Unbegun-clause-shows : goal.returns-in-Unbegun-clause-shows
returns-in-Unbegun-clause-shows g c =
    let w = rw c.in-Unbegun.is at c.in-Ok-watch_recorded.ensures.gives in
    let ds = c.in-Ok.program.definitions.items in
    ⊎_elim (λ page. not_begun ds c.in-Ok.program.image c.in-Ok.program.names.frames.items c.in-Unbegun.trap c.in-Ok.ensures.program ((c.in-Ok.program.names.lines.items, c.in-Ok.ensures.lines), (c.in-Ok.program.names.frames.items, c.in-Ok.ensures.names)) c.in-Ok.ensures.names refl w.0 page w.1)
    (λ m. no_memory ds c.in-Ok.program.image c.in-Ok.ensures.program ((c.in-Ok.program.names.lines.items, c.in-Ok.ensures.lines), (c.in-Ok.program.names.frames.items, c.in-Ok.ensures.names)) refl m.1 (none_at_first (image_of ds) c.args.wanted.steps _ _ w.1) m.0) c.show_unbegun.ensures.shows

pub returns-in_default-watch_recorded-clause-shows : goal.returns-in_default-watch_recorded-clause-shows
returns-in_default-watch_recorded-clause-shows g c =
    no_memory c.in-Ok.program.definitions.items c.in-Ok.program.image c.in-Ok.ensures.program ((c.in-Ok.program.names.lines.items, c.in-Ok.ensures.lines), (c.in-Ok.program.names.frames.items, c.in-Ok.ensures.names)) refl refl c.in_default-watch_recorded.ensures.read refl

pub returns-in-Device-clause-shows : goal.returns-in-Device-clause-shows
returns-in-Device-clause-shows g c =
    let w = rw c.in-Ended.is at c.in-Ok-watch_recorded.ensures.gives in
    unread c.in-Ok.program.definitions.items c.in-Ok.program.image w.output c.in-Ok.ensures.program ((c.in-Ok.program.names.lines.items, c.in-Ok.ensures.lines), (c.in-Ok.program.names.frames.items, c.in-Ok.ensures.names)) refl (rw c.in-Device.is at w.gives) refl refl

pub returns-in_default-push_end-clause-shows : goal.returns-in_default-push_end-clause-shows
returns-in_default-push_end-clause-shows g c =
    let w = rw c.in-Ended.is at c.in-Ok-watch_recorded.ensures.gives in
    let ds = c.in-Ok.program.definitions.items in
    let stop = c.in-Ended.stop in
    no_memory ds c.in-Ok.program.image c.in-Ok.ensures.program ((c.in-Ok.program.names.lines.items, c.in-Ok.ensures.lines), (c.in-Ok.program.names.frames.items, c.in-Ok.ensures.names)) refl refl
    (read_watched (image_of ds).functions (machine ds) c.args.wanted.steps _ _ stop.outcome stop.steps _ c.in_default-outcome.not-Device w) refl

pub returns-clause-shows : goal.returns-clause-shows
returns-clause-shows g c =
    let w = rw c.in-Ended.is at c.in-Ok-watch_recorded.ensures.gives in
    let program = c.in-Ok.program in
    let ds = program.definitions.items in
    let stop = c.in-Ended.stop in
    let page = c.push_end.new.self.rows.page in
    let code = lined_code ds program.names.lines.items in
    let first = c.in-Ok-new-2.recorder in
    let again = c.repeat_of-again in
    let found = option_map (λ text. text.now) c.args.wanted.finding in
    let same : table_code c.in-Ok-new.tables ≡ code = λ i. record { functions = c.in-Ok-new.ensures.functions i; lines = c.in-Ok-new.ensures.lines i } in
    let last = c.watch_recorded.new.onlooker in
    let told = subst (λ (t : List ℕ). Reported t DONE (g.O.ByteOut.outgoing c.args.out.now) (g.O.ByteOut.outgoing c.tell.new.out) c.tell.result) c.as_slice.ensures c.tell.ensures.told in
    let back = comes_back (run program.image) _ _ c.in-Ok-watch_recorded.ran.record again.result c.in-Ok-watch_recorded.ensures.records again.ensures.whole again.ensures.repeats in
    shown ds program.image program.names.frames.items program.names.lines.items stop.outcome stop.steps again.result page c.in-Ok.ensures.program c.in-Ok.ensures.lines c.in-Ok.ensures.names refl back
    (paged ds c.args.wanted.steps _ _ stop.outcome c.in_default-outcome.not-Device stop.steps first last code c.args.wanted.rows
    (program_text (files_shown c.args.wanted.files) c.args.source.now c.args.wanted.given.now ds program.names.frames.items) (last_facts code found again.result) page
    (ap table_code c.in-Ok-new-2.ensures.tables ∙ same) c.in-Ok-new-2.ensures.which
    (c.in-Ok-new-2.ensures.program ∙ c.in-Ok-program_text.ensures) (c.in-Ok-push_end.ensures ∙ ap (λ x. last.rows.page ++ last_facts x found again.result ++ tail) same) w) told
