use Rattle.std.proofs.Common.{◌≡◌, ◌∙◌, ◌++◌, List, None, Some, ap, inl, inr, refl, subst, sym}
use Rattle.std.specs.Prelude.{option_map}
use Rattle.blang.specs.declared.run.Outcome.TheVariants as outcome
use Rattle.blang.specs.Machine.{image_of, machine, run}
use Rattle.bsources.specs.Files.{files_shown}
use Rattle.btools.specs.Functions.{Placed}
use Rattle.btools.specs.Origins.{origin_shown, places_kept}
use Rattle.btools.proofs.Functions.{data_fit}
use Rattle.btrace.specs.RowTexts.{legend_in, legend_of}
use Rattle.btrace.specs.Traces.{IsTrace, no_memory, not_begun, stopped, traced, unnamed, which_of}
use Rattle.bwatch.specs.Trails.{trail_text}
use Rattle.bmach.proofs.Readings.{none_at_first}
use Rattle.bwatch.proofs.Origins.{loaded_in, loads_in}
use Rattle.bwatch.proofs.Seen.{read_watched, told_so}
use Rattle.bendless.proofs.Recordings.{comes_back, limit_found}
use Rattle.bendless.proofs.Searching.{store_fits}
use Rattle.btrace.specs.Loops.{again_text}
use Rattle.btrace.proofs.Traced.{none_traced, traced_so}
use Rattle.btrace.proofs.tracing.trace.Goals as goal

pub new-requires : goal.new-requires
new-requires g c =
    let ds = c.in-Ok.program.definitions.items in
    data_fit ds (loads_in (origin_shown c.args.origin) c.args.source.now ds c.in-Ok.program.image c.in-Ok.ensures.program)

pub watch_recorded-requires-clause-loaded : goal.watch_recorded-requires-clause-loaded
watch_recorded-requires-clause-loaded g c =
    loaded_in (origin_shown c.args.origin) c.args.source.now c.in-Ok.program.definitions.items c.in-Ok.program.image c.in-Ok.ensures.program

pub watch_recorded-requires-clause-begins : goal.watch_recorded-requires-clause-begins
watch_recorded-requires-clause-begins g c = none_traced c.in-Ok-new-2.tracer c.in-Ok-new-2.ensures.last c.in-Ok-new-2.ensures.row

pub returns-in-Err-clause-traces : goal.returns-in-Err-clause-traces
returns-in-Err-clause-traces g c = stopped (c.tell_placed.ensures.tells (origin_shown c.args.origin) c.args.source.now c.in-Err.ensures.program) (record { unread = refl; silent = refl })

pub returns-in_default-clause-traces : goal.returns-in_default-clause-traces
returns-in_default-clause-traces g c =
    no_memory c.in-Ok.program.definitions.items c.in-Ok.program.image c.in-Ok.ensures.program ((c.in-Ok.program.names.lines.items, c.in-Ok.ensures.lines), (c.in-Ok.program.names.frames.items, c.in-Ok.ensures.names)) refl refl
    (none_at_first (image_of c.in-Ok.program.definitions.items) c.args.wanted.steps (g.I.ByteIn.incoming c.args.input.now) (g.I.ByteIn.incoming c.args.input.now) refl) refl

pub returns-in_default-which_of-clause-traces : goal.returns-in_default-which_of-clause-traces
returns-in_default-which_of-clause-traces g c =
    unnamed c.in-Ok.program.definitions.items c.in-Ok.program.image c.in-Ok.ensures.program ((c.in-Ok.program.names.lines.items, c.in-Ok.ensures.lines), (c.in-Ok.program.names.frames.items, c.in-Ok.ensures.names))
    (subst (λ (fs : List Placed). which_of fs c.args.wanted.rows (option_map (λ n. n.now) c.args.wanted.function) ≡ None) c.in-Ok-new.ensures.functions (sym c.which_of.ensures ∙ c.in_default-which_of.is)) c.tell.ensures.told (record { unread = refl; silent = refl })

pub returns-in_default-new-clause-traces : goal.returns-in_default-new-clause-traces
returns-in_default-new-clause-traces g c =
    no_memory c.in-Ok.program.definitions.items c.in-Ok.program.image c.in-Ok.ensures.program ((c.in-Ok.program.names.lines.items, c.in-Ok.ensures.lines), (c.in-Ok.program.names.frames.items, c.in-Ok.ensures.names)) refl refl
    (none_at_first (image_of c.in-Ok.program.definitions.items) c.args.wanted.steps (g.I.ByteIn.incoming c.args.input.now) (g.I.ByteIn.incoming c.args.input.now) refl) refl

pub repeat_of-again-requires : goal.repeat_of-again-requires
repeat_of-again-requires g c =
    let ds = c.in-Ok.program.definitions.items in
    store_fits ds c.in-Ok.program.image (loads_in (origin_shown c.args.origin) c.args.source.now ds c.in-Ok.program.image c.in-Ok.ensures.program)
    (loaded_in (origin_shown c.args.origin) c.args.source.now ds c.in-Ok.program.image c.in-Ok.ensures.program)

pub returns-in-Unbegun-clause-traces : goal.returns-in-Unbegun-clause-traces
returns-in-Unbegun-clause-traces g c =
    let w = rw c.in-Unbegun.is at c.in-Ok-watch_recorded.ensures.gives in
    not_begun c.in-Ok.program.definitions.items c.in-Ok.program.image c.in-Some.which (outcome.Trap c.in-Unbegun.trap) c.in-Ok.ensures.program ((c.in-Ok.program.names.lines.items, c.in-Ok.ensures.lines), (c.in-Ok.program.names.frames.items, c.in-Ok.ensures.names))
    (subst (λ (fs : List Placed). which_of fs c.args.wanted.rows (option_map (λ n. n.now) c.args.wanted.function) ≡ Some c.in-Some.which) c.in-Ok-new.ensures.functions (sym c.which_of.ensures ∙ c.in-Some.is)) w.0
    c.finish.ensures.gives (record { unread = w.1; silent = refl })

pub returns-in_default-watch_recorded-clause-traces : goal.returns-in_default-watch_recorded-clause-traces
returns-in_default-watch_recorded-clause-traces g c =
    no_memory c.in-Ok.program.definitions.items c.in-Ok.program.image c.in-Ok.ensures.program ((c.in-Ok.program.names.lines.items, c.in-Ok.ensures.lines), (c.in-Ok.program.names.frames.items, c.in-Ok.ensures.names)) refl refl c.in_default-watch_recorded.ensures.read refl

pub returns-in_default-push_again-clause-traces : goal.returns-in_default-push_again-clause-traces
returns-in_default-push_again-clause-traces g c =
    let w = rw c.in-Ended.is at c.in-Ok-watch_recorded.ensures.gives in
    let ds = c.in-Ok.program.definitions.items in
    let stop = c.in-Ended.stop in
    let again = c.repeat_of-again in
    no_memory ds c.in-Ok.program.image c.in-Ok.ensures.program ((c.in-Ok.program.names.lines.items, c.in-Ok.ensures.lines), (c.in-Ok.program.names.frames.items, c.in-Ok.ensures.names)) refl refl
    (read_watched (image_of ds).functions (machine ds) c.args.wanted.steps _ _ stop.outcome stop.steps _
    (limit_found again.result stop.outcome again.ensures.limit c.in_default-push_again.ensures.some) w) refl

pub returns-then-told-ne-DONE-clause-traces : goal.returns-then-told-ne-DONE-clause-traces
returns-then-told-ne-DONE-clause-traces g c =
    let w = rw c.in-Ended.is at c.in-Ok-watch_recorded.ensures.gives in
    let ds = c.in-Ok.program.definitions.items in
    let image = c.in-Ok.program.image in
    let places = places_kept c.in-Ok.program in
    let stop = c.in-Ended.stop in
    let files = files_shown c.args.wanted.files in
    let which = c.in-Some.which in
    let first = c.in-Ok-new-2.tracer in
    let last = c.watch_recorded.new.onlooker in
    let text = trail_text c.push_again.new.self.trail in
    let again = c.repeat_of-again in
    let told = (ap legend_of c.in-Ok-new-2.ensures.legend) ∙ (λ i. record { functions = c.in-Ok-new.ensures.functions i; lines = c.in-Ok-new.ensures.lines i; columns = c.in-Ok-new.ensures.columns i; files = files }) in
    let added : text ≡ trail_text last.trail ++ again_text (legend_in ds places files) again.result =
    c.in-Ok-push_again.ensures.told ∙ (λ i. trail_text last.trail ++ again_text (record { functions = c.in-Ok-new.ensures.functions i; lines = c.in-Ok-new.ensures.lines i; columns = c.in-Ok-new.ensures.columns i; files = files }) again.result) in
    let named = subst (λ (fs : List Placed). which_of fs c.args.wanted.rows (option_map (λ n. n.now) c.args.wanted.function) ≡ Some which) c.in-Ok-new.ensures.functions (sym c.which_of.ensures ∙ c.in-Some.is) in
    let back = comes_back (run image) _ _ c.in-Ok-watch_recorded.ran.record again.result c.in-Ok-watch_recorded.ensures.records again.ensures.whole again.ensures.repeats in
    let watched = told_so (image_of ds).functions (machine ds) c.args.wanted.steps _ _ stop.outcome stop.steps _ (IsTrace (legend_in ds places files) which again.result text)
    (traced_so first last (legend_in ds places files) which again.result text told c.in-Ok-new-2.ensures.which c.in-Ok-new-2.ensures.text added stop.outcome stop.steps) w in
    traced ds image places c.in-Ok.program.names.frames.items which stop.outcome stop.steps again.result text c.tell-told.result c.in-Ok.ensures.program (c.in-Ok.ensures.lines, c.in-Ok.ensures.columns) c.in-Ok.ensures.names named back watched c.tell-told.ensures.told (inr (c.if-told-ne-DONE.true, refl, refl))

pub returns-clause-traces : goal.returns-clause-traces
returns-clause-traces g c =
    let w = rw c.in-Ended.is at c.in-Ok-watch_recorded.ensures.gives in
    let ds = c.in-Ok.program.definitions.items in
    let image = c.in-Ok.program.image in
    let places = places_kept c.in-Ok.program in
    let stop = c.in-Ended.stop in
    let files = files_shown c.args.wanted.files in
    let which = c.in-Some.which in
    let first = c.in-Ok-new-2.tracer in
    let last = c.watch_recorded.new.onlooker in
    let text = trail_text c.push_again.new.self.trail in
    let again = c.repeat_of-again in
    let told = (ap legend_of c.in-Ok-new-2.ensures.legend) ∙ (λ i. record { functions = c.in-Ok-new.ensures.functions i; lines = c.in-Ok-new.ensures.lines i; columns = c.in-Ok-new.ensures.columns i; files = files }) in
    let added : text ≡ trail_text last.trail ++ again_text (legend_in ds places files) again.result =
    c.in-Ok-push_again.ensures.told ∙ (λ i. trail_text last.trail ++ again_text (record { functions = c.in-Ok-new.ensures.functions i; lines = c.in-Ok-new.ensures.lines i; columns = c.in-Ok-new.ensures.columns i; files = files }) again.result) in
    let named = subst (λ (fs : List Placed). which_of fs c.args.wanted.rows (option_map (λ n. n.now) c.args.wanted.function) ≡ Some which) c.in-Ok-new.ensures.functions (sym c.which_of.ensures ∙ c.in-Some.is) in
    let back = comes_back (run image) _ _ c.in-Ok-watch_recorded.ran.record again.result c.in-Ok-watch_recorded.ensures.records again.ensures.whole again.ensures.repeats in
    let watched = told_so (image_of ds).functions (machine ds) c.args.wanted.steps _ _ stop.outcome stop.steps _ (IsTrace (legend_in ds places files) which again.result text)
    (traced_so first last (legend_in ds places files) which again.result text told c.in-Ok-new-2.ensures.which c.in-Ok-new-2.ensures.text added stop.outcome stop.steps) w in
    traced ds image places c.in-Ok.program.names.frames.items which stop.outcome stop.steps again.result text c.tell-told.result c.in-Ok.ensures.program (c.in-Ok.ensures.lines, c.in-Ok.ensures.columns) c.in-Ok.ensures.names named back watched c.tell-told.ensures.told (inl (c.if-told-ne-DONE.false, c.finish-2.ensures.gives))
