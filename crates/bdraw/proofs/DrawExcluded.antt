-- What no picture of memory is.
use Rattle.std.proofs.Common.{◌≡◌, ◌∙◌, ℕ, true, List, [], ◌∷◌, ◌++◌, Option, Some, None, ap, arith, refl, subst, ◌⊎◌, inl, inr, sym}
use Rattle.std.specs.Prelude.{codes, nat_lt, not, ◌==◌}
use Rattle.std.specs.List.{list_all}
use Rattle.std.proofs.lemmas.Bool.{and_from, cond_both}
use Rattle.std.proofs.lemmas.List.Folds.{list_all-append}
use Rattle.bword.specs.declared.edition.Edition.{Edition}
use Rattle.bword.proofs.Remaining.{rest_after}
use Rattle.bword.specs.ByteEnds.{Grew, Incoming, Outgoing, Writes, outgoing_of}
use Rattle.bmach.specs.Readings.{LeftBySteps}
use Rattle.bmach.specs.Resolved.{IsLoadedFrom}
use Rattle.bmach.proofs.Readings.{left_by, run_left}
use Rattle.bmach.proofs.Running.{device_failed}
use Rattle.blang.specs.declared.code.Definition.{Definition}
use Rattle.blang.specs.declared.run.LoadFault.{LoadFault}
use Rattle.blang.specs.declared.run.Outcome.{Outcome}
use Rattle.blang.specs.declared.run.Outcome.TheVariants as outcome
use Rattle.blang.specs.declared.token.Diagnostic.{Diagnostic}
use Rattle.blang.specs.Compiles.{Compilation, CompilesTo, line_of}
use Rattle.blang.specs.Cut.{tokens_from}
use Rattle.blang.specs.Layout.{load_fault}
use Rattle.blang.specs.Machine.{Image, State, image_of, machine, state_world}
use Rattle.blang.specs.Reports.{ComesTo, Reported, RunEnds, RunGives}
use Rattle.btools.specs.FrameNames.{HasNames}
use Rattle.btools.specs.Origins.{Source}
use Rattle.btools.specs.ProgramsExcluded.{Excluded, code_in}
use Rattle.btools.specs.Programs.{load_line, nothing_written}
use Rattle.btools.specs.declared.names.Frame.{Frame}
use Rattle.bmach.proofs.MachineExcluded.{not_grown}
use Rattle.btools.proofs.ProgramsExcluded.{device_grew, excluded, no_done, other_answer, was_told}
use Rattle.btools.proofs.Unasked.{program_left, untaken}
use Rattle.bwatch.specs.Sights.{Sights, sights_of}
use Rattle.bwatch.specs.Watches.{EndsAfter, Watches}
use Rattle.bdraw.specs.Draws.{Draws, DrawsProgram, DrawsRun, IsDrawn, ShowsMemory, moment_of, picture_at}
use Rattle.bdraw.specs.Draws as draws
use Rattle.bdraw.specs.Pictures.{DrawnProgram, drawn_of}
use Rattle.bdraw.specs.Shapes.{escape, escaped}
use Rattle.bdraw.specs.DrawExcluded.{IsOfStep, NoPictures, NoTags, Shows, TellsBytes, is_no_tag}
use Rattle.bdraw.proofs.WatchedPictures.{is_picture, same_end, seen_store}
use Rattle.bdraw.specs.declared.scene.Moment.{Moment}
use Rattle.bdraw.specs.declared.scene.Moment.TheVariants as moment

a_byte : (b : ℕ) → list_all is_no_tag (escape b) ≡ true
a_byte b =
    cond_both (b == 38) (codes "&amp;") _ (λ t. list_all is_no_tag t ≡ true) (λ e. refl) (λ e.
    cond_both (b == 60) (codes "&lt;") _ (λ t. list_all is_no_tag t ≡ true) (λ e. refl) (λ less.
    cond_both (b == 62) (codes "&gt;") _ (λ t. list_all is_no_tag t ≡ true) (λ e. refl) (λ greater.
    cond_both (nat_lt b 32) (codes ".") _ (λ t. list_all is_no_tag t ≡ true) (λ e. refl) (λ e.
    cond_both (nat_lt 126 b) (codes ".") (b ∷ []) (λ t. list_all is_no_tag t ≡ true) (λ e. refl) (λ e.
    and_from (is_no_tag b) true (and_from _ _ (ap not less) (ap not greater)) refl)))))

pub no_tags : NoTags
no_tags [] = refl
no_tags (b ∷ text) = list_all-append is_no_tag (escape b) (escaped text) ∙ and_from _ _ (a_byte b) (no_tags text)

module _ (p : DrawnProgram) where
  module _ (text : List ℕ) (o q : Outgoing) where
    told_fault : Reported text 0 o q 1 → ⊥
    told_fault report = other_answer text 0 o q 1 (λ e. omega (arith, e)) (λ e. omega (arith, e)) (λ e. omega (arith, e)) report

    told_refused : Reported text 0 o q 132 → ⊥
    told_refused report = other_answer text 0 o q 132 (λ e. omega (arith, e)) (λ e. omega (arith, e)) (λ e. omega (arith, e)) report

    told_device : Reported text 0 o q 133 → Grew o.failures q.failures
    told_device report = device_grew text 0 o q (λ e. omega (arith, e)) report

    told_done : Reported text 0 o q 0 → Writes o text q
    told_done report = was_told text 0 o q (λ e. omega (arith, e)) (λ e. omega (arith, e)) report

  module _ (at : Moment) (o q : Outgoing) where
    abbrev unmade : List ℕ
    unmade = picture_at p at p.image.words []

    shown : ShowsMemory p at o q 0 → Writes o unmade q
    shown (draws.shown report) = told_done unmade o q report
    shown (draws.no_memory same is) = absurd (omega (arith, is))

    show_device : ShowsMemory p at o q 133 → Grew o.failures q.failures
    show_device (draws.shown report) = told_device unmade o q report
    show_device (draws.no_memory same is) = absurd (omega (arith, is))

    show_fault : ShowsMemory p at o q 1 → ⊥
    show_fault (draws.shown report) = told_fault unmade o q report
    show_fault (draws.no_memory same is) = omega (arith, is)

    show_refused : ShowsMemory p at o q 132 → ⊥
    show_refused (draws.shown report) = told_refused unmade o q report
    show_refused (draws.no_memory same is) = omega (arith, is)

  module _ (i j : Incoming) (o q : Outgoing) where
    fault_run : (n : ℕ) → DrawsRun p n i j o q 1 → ⊥
    fault_run n (draws.after result made text w report) = told_fault text o q report
    fault_run n (draws.not_begun kind b s same) = show_fault (moment.End 0) o q s
    fault_run n (draws.unread output gives same is) = omega (arith, is)
    fault_run n (draws.no_memory read quiet is) = omega (arith, is)

    refused_run : (n : ℕ) → DrawsRun p n i j o q 132 → ⊥
    refused_run n (draws.after result made text w report) = told_refused text o q report
    refused_run n (draws.not_begun kind b s same) = show_refused (moment.End 0) o q s
    refused_run n (draws.unread output gives same is) = omega (arith, is)
    refused_run n (draws.no_memory read quiet is) = omega (arith, is)

    no_fault : (steps : Option ℕ) → DrawsProgram p steps i j o q 1 → ⊥
    no_fault None h = show_fault moment.Before o q h.0
    no_fault (Some n) h = fault_run n h

    no_refusal : (steps : Option ℕ) → DrawsProgram p steps i j o q 132 → ⊥
    no_refusal None h = show_refused moment.Before o q h.0
    no_refusal (Some n) h = refused_run n h

    device_run : (n : ℕ) → DrawsRun p n i j o q 133 → Grew i.failures j.failures ⊎ Grew o.failures q.failures
    device_run n (draws.after result made text w report) = inr (told_device text o q report)
    device_run n (draws.not_begun kind b s same) = inr (show_device (moment.End 0) o q s)
    device_run n (draws.unread output gives same is) = elim (device_failed (machine p.definitions) n i j nothing_written (outgoing_of output) gives) [ inl read ↦ inl read | inr written ↦ absurd (not_grown 0 0 refl refl written) ]
    device_run n (draws.no_memory read quiet is) = absurd (omega (arith, is))

    device_in : (steps : Option ℕ) → DrawsProgram p steps i j o q 133 → Grew i.failures j.failures ⊎ Grew o.failures q.failures
    device_in None h = inr (show_device moment.Before o q h.0)
    device_in (Some n) h = device_run n h

    -- a run that was drawn has an outcome to which it came
    comes : (n made : ℕ) (result : Outcome) (text left : List ℕ) (sights : Sights) (w : Outgoing) → IsDrawn p text sights made result → (bytes : List ℕ) → EndsAfter (machine p.definitions bytes) made n result left
        → RunGives (machine p.definitions) n i j nothing_written w result → ComesTo (machine p.definitions) n i j nothing_written w result
    comes n made (outcome.Exit status) text left sights w d bytes e h = h
    comes n made (outcome.Trap kind) text left sights w d bytes e h = h
    comes n made outcome.Limit text left sights w d bytes e h = h
    comes n made outcome.Device text left sights w d bytes e h = absurd d
    comes n made outcome.Memory text left sights w d bytes e h = absurd d

    come : (n made : ℕ) (result : Outcome) (text : List ℕ) (w : Watches (image_of p.definitions).functions (machine p.definitions) n i j result made (IsDrawn p text)) → ComesTo (machine p.definitions) n i j nothing_written (outgoing_of w.output) result
    come n made result text w = comes n made result text [] (sights_of (image_of p.definitions).functions (machine p.definitions) (w.taken ++ [])) (outgoing_of w.output) (w.told [] (λ e. refl)) (w.taken ++ []) (w.ends [] (λ e. refl)) w.gives

    unread_run : (n status : ℕ) → DrawsRun p n i j o q status → (j.failures ≡ i.failures → ⊥) → (status ≡ 133) × (q ≡ o)
    unread_run n status (draws.after result made text w report) failed = absurd (failed (come n made result text w).no_failure)
    unread_run n status (draws.not_begun kind b s same) failed = absurd (failed (ap (λ (x : Incoming). x.failures) same))
    unread_run n status (draws.unread output gives same is) failed = (is, same)
    unread_run n status (draws.no_memory read quiet is) failed = absurd (failed read.no_failure)

    unread_in : (steps : Option ℕ) (status : ℕ) → DrawsProgram p steps i j o q status → (j.failures ≡ i.failures → ⊥) → (status ≡ 133) × (q ≡ o)
    unread_in None status h failed = absurd (failed (ap (λ (x : Incoming). x.failures) h.1))
    unread_in (Some n) status h failed = unread_run n status h failed

module _ (edition : Edition) (source : List ℕ) (r : Compilation) (g : CompilesTo [] (tokens_from edition 1 source) r) (ends : RunEnds) where
  abbrev code : List Definition
  code = code_in edition source r g

  told : Excluded edition source r g line_of ends.line ends.line_after
  told = excluded edition source r g line_of ends.line ends.line_after

  done : (steps : Option ℕ) → Draws (Source edition) source steps ends 0 → (r.stop ≡ None) × (load_fault code ≡ None)
  done steps (draws.drew ds frames image p suits named silent h) = let is = told.program ds image p in (is.0, is.2)
  done steps (draws.stopped why quiet unread) = absurd (no_done 0 refl (told.status 0 why))

  -- a picture of the program of the source
  shows_code : (ds : List Definition) (frames : List Frame) (image : Image) (at : Moment) → HasNames edition source frames → ds ≡ code → ShowsMemory (drawn_of ds frames image) at ends.out ends.out_after 0
      → Shows edition source r g ends image at image.words
  shows_code ds frames image at named same h =
      (frames, [], named, subst (λ (x : List Definition). Writes ends.out (picture_at (drawn_of x frames image) at image.words []) ends.out_after) same (shown (drawn_of ds frames image) at ends.out ends.out_after h))

  before : Draws (Source edition) source None ends 0 → (image : Image) × IsLoadedFrom code image × Shows edition source r g ends image moment.Before image.words × (ends.input_after ≡ ends.input)
  before (draws.drew ds frames image p suits named silent h) =
      let same = (told.program ds image p).1 in
      (image, subst (λ (x : List Definition). IsLoadedFrom x image) same p.loaded, shows_code ds frames image moment.Before named same h.0, h.1)
  before (draws.stopped why quiet unread) = absurd (no_done 0 refl (told.status 0 why))

  module _ (n : ℕ) (bytes : List ℕ) (tells : TellsBytes ends.input bytes) where
    abbrev Found : Image → Type 0
    Found image = (at : Moment) × (words : List ℕ) × Shows edition source r g ends image at words × IsOfStep edition source r g ends image n bytes at words

    -- a run has the words that were drawn, and has read what was taken
    of_run : (frames : List Frame) (image : Image) → HasNames edition source frames → (result : Outcome) (made : ℕ) (text : List ℕ)
        → Watches (image_of code).functions (machine code) n ends.input ends.input_after result made (IsDrawn (drawn_of code frames image) text) → Writes ends.out text ends.out_after → Found image
    of_run frames image named result made text w written =
        let fs = (image_of code).functions in
        let q = drawn_of code frames image in
        let rest = rest_after ends.input ends.input_after w.taken bytes w.took tells.0 tells.1 in
        let end = subst (λ t. EndsAfter (machine code t) made n result rest.more) rest.whole (w.ends rest.more rest.follows) in
        let picture = is_picture q text result made (sights_of fs (machine code) bytes) (subst (λ t. IsDrawn q text (sights_of fs (machine code) t) made result) rest.whole (w.told rest.more rest.follows)) in
        let c = come q ends.input ends.input_after ends.out ends.out_after n made result text w in
        let other = rest_after ends.input ends.input_after c.taken bytes c.took tells.0 tells.1 in
        let same : (state_world (machine code bytes made)).store ≡ (state_world (machine code bytes n)).store =
        ap (λ (s : State). (state_world s).store) (sym (same_end code bytes made n w.within result rest.more picture.0 end)) in
        let drawn = picture.1.1 ∙ ap (λ words. picture_at q (moment_of result made) words picture.1.0) (seen_store fs (machine code bytes made) ∙ same) in (
          moment_of result made,
          (state_world (machine code bytes n)).store,
          (frames, picture.1.0, named, subst (λ t. Writes ends.out t ends.out_after) drawn written),
          inl (
            (result, made, rest.more, refl, end),
            refl,
            other.left ∙ ap Some (sym (subst (λ t. (state_world (machine code t n)).input ≡ other.more) other.whole (c.shows other.more other.follows).left)),
          ),
        )

    after_run : (ds : List Definition) (frames : List Frame) (image : Image) → HasNames edition source frames → ds ≡ code → DrawsRun (drawn_of ds frames image) n ends.input ends.input_after ends.out ends.out_after 0 → Found image
    after_run ds frames image named same (draws.after result made text w report) =
        of_run frames image named result made text
        (subst (λ (x : List Definition). Watches (image_of x).functions (machine x) n ends.input ends.input_after result made (IsDrawn (drawn_of x frames image) text)) same w)
        (told_done (drawn_of ds frames image) text ends.out ends.out_after report)
    after_run ds frames image named same (draws.not_begun kind b s unread) =
        (moment.End 0, image.words, shows_code ds frames image (moment.End 0) named same s, inr (kind, b, refl, refl, unread))
    after_run ds frames image named same (draws.unread output gives quiet is) = absurd (omega (arith, is))
    after_run ds frames image named same (draws.no_memory read quiet is) = absurd (omega (arith, is))

    after : Draws (Source edition) source (Some n) ends 0 → (image : Image) × (at : Moment) × (words : List ℕ) × IsLoadedFrom code image × Shows edition source r g ends image at words × IsOfStep edition source r g ends image n bytes at words
    after (draws.drew ds frames image p suits named silent h) =
        let same = (told.program ds image p).1 in
        let a = after_run ds frames image named same h in
        (image, a.0, a.1, subst (λ (x : List Definition). IsLoadedFrom x image) same p.loaded, a.2, a.3)
    after (draws.stopped why quiet unread) = absurd (no_done 0 refl (told.status 0 why))

  unread : (steps : Option ℕ) (status : ℕ) → Draws (Source edition) source steps ends status → (ends.input_after.failures ≡ ends.input.failures → ⊥) → (status ≡ 133) × (ends.out_after ≡ ends.out)
  unread steps status (draws.drew ds frames image p suits named silent h) failed = unread_in (drawn_of ds frames image) ends.input ends.input_after ends.out ends.out_after steps status h failed
  unread steps status (draws.stopped why quiet same) failed = absurd (failed (ap (λ (x : Incoming). x.failures) same))

  device : (steps : Option ℕ) → Draws (Source edition) source steps ends 133 → Grew ends.input.failures ends.input_after.failures ⊎ Grew ends.out.failures ends.out_after.failures ⊎ Grew ends.line.failures ends.line_after.failures
  device steps (draws.drew ds frames image p suits named silent h) =
      elim (device_in (drawn_of ds frames image) ends.input ends.input_after ends.out ends.out_after steps h) [ inl read ↦ inl read | inr written ↦ inr (inl written) ]
  device steps (draws.stopped why quiet same) = inr (inr (told.device why))

  fault : (steps : Option ℕ) → Draws (Source edition) source steps ends 1
      → ((d : Diagnostic) × (r.stop ≡ Some d) × Writes ends.line (line_of d) ends.line_after) × (ends.out_after ≡ ends.out) × (ends.input_after ≡ ends.input)
  fault steps (draws.drew ds frames image p suits named silent h) = absurd (no_fault (drawn_of ds frames image) ends.input ends.input_after ends.out ends.out_after steps h)
  fault steps (draws.stopped why quiet same) = (told.fault why, quiet, same)

  unloaded : (steps : Option ℕ) → Draws (Source edition) source steps ends 132
      → ((f : LoadFault) × (text : List ℕ) × (load_fault code ≡ Some f) × (load_line f ≡ Some text) × Writes ends.line text ends.line_after) × (ends.out_after ≡ ends.out) × (ends.input_after ≡ ends.input)
  unloaded steps (draws.drew ds frames image p suits named silent h) = absurd (no_refusal (drawn_of ds frames image) ends.input ends.input_after ends.out ends.out_after steps h)
  unloaded steps (draws.stopped why quiet same) = (told.unloaded why, quiet, same)

  -- what was read of the input was asked for
  unasked : (n status : ℕ) → Draws (Source edition) source (Some n) ends status → LeftBySteps (machine code) n ends.input ends.input_after
  unasked n status (draws.drew ds frames image p suits named silent h) = by h
    where
      by : DrawsRun (drawn_of ds frames image) n ends.input ends.input_after ends.out ends.out_after status → LeftBySteps (machine code) n ends.input ends.input_after
      by (draws.after result made text w report) =
          program_left edition source r g n ends.input ends.input_after ds image p
          (run_left (machine ds) n ends.input ends.input_after nothing_written (outgoing_of w.output) result w.gives)
      by (draws.not_begun kind b s same) = untaken edition source r g n ends.input ends.input_after same
      by (draws.unread output gives same is) =
          program_left edition source r g n ends.input ends.input_after ds image p
          (run_left (machine ds) n ends.input ends.input_after nothing_written (outgoing_of output) outcome.Device gives)
      by (draws.no_memory read quiet is) = program_left edition source r g n ends.input ends.input_after ds image p (left_by (machine ds) n ends.input ends.input_after read)
  unasked n status (draws.stopped why quiet same) = untaken edition source r g n ends.input ends.input_after same

pub no_pictures : NoPictures
no_pictures edition source r g ends = record {
  done = done edition source r g ends;
  before = before edition source r g ends;
  after = after edition source r g ends;
  unread = unread edition source r g ends;
  device = device edition source r g ends;
  fault = fault edition source r g ends;
  unloaded = unloaded edition source r g ends;
  unasked = unasked edition source r g ends;
}
