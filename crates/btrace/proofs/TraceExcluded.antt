-- What the contracts of `trace` and `locate` exclude.
use Rattle.std.proofs.Common.{◌≡◌, ◌∙◌, ℕ, ◌<◌, List, [], ◌++◌, Option, Some, None, ap, append-nil, append_assoc, arith, codes, get_or, inl, inr, refl, subst, sym}
use Rattle.std.specs.Io.KnownBytes.{Appends}
use Rattle.std.proofs.lemmas.List.{append_cancel_left}
use Rattle.bword.specs.declared.edition.Edition.{Edition}
use Rattle.bword.specs.declared.ends.EndFault.{EndFault}
use Rattle.bword.specs.declared.ends.EndFault.TheVariants as end_fault
use Rattle.bword.specs.ByteEnds.{Grew, Incoming, Outgoing, Refuses, Writes, outgoing_of}
use Rattle.bword.proofs.Putting.{Writes-append}
use Rattle.blang.specs.declared.code.Definition.{Definition}
use Rattle.blang.specs.declared.run.Outcome.{Outcome}
use Rattle.blang.specs.declared.run.Outcome.TheVariants as outcome
use Rattle.blang.specs.declared.run.Report.TheVariants as report
use Rattle.blang.specs.declared.run.Trap.{Trap}
use Rattle.blang.specs.declared.run.Trap.TheVariants as trap
use Rattle.blang.specs.declared.status.TheConstants.{DONE, LIMIT, MEMORY, TRAP, WRONG_COMMAND}
use Rattle.blang.specs.Compiles as compiled
use Rattle.blang.specs.Compiles.{code_text}
use Rattle.blang.specs.declared.token.Diagnostic.{Diagnostic}
use Rattle.blang.specs.Machine.{Halted, Image, Running, State, Stuck, image_of, machine, run}
use Rattle.std.specs.Prelude.{IfSome}
use Rattle.bendless.specs.Repeats.{IsEndless, RunsForEver}
use Rattle.bendless.specs.declared.endless.Endless.{Endless}
use Rattle.bendless.specs.declared.search.Repeat.{Repeat}
use Rattle.bendless.proofs.Again.{back_for_ever}
use Rattle.blang.specs.Reports.{Finishes, HasNotRun, Reported, RunEnds, RunGives, report_text, state_outcome}
use Rattle.blang.specs.Text.{IsCodeText}
use Rattle.bcode.proofs.FaultLaws.{unique_code}
use Rattle.bmach.specs.Resolved.{IsLoadedFrom}
use Rattle.bmach.specs.Stepping.{BeginsNot, HasEnd}
use Rattle.bmach.specs.Stops.{EndsAt}
use Rattle.bmach.specs.declared.machine.Active.{Active}
use Rattle.bmach.proofs.Running.{memory_unfailed}
use Rattle.bmach.proofs.LoadedRuns.{shows_loaded}
use Rattle.bsources.specs.Files.{Files}
use Rattle.btools.specs.Origins.{Code, IsSuited, NoProgramOf, Origin, PlacesOf, ProgramOf, Source, SourcePlaces}
use Rattle.btools.specs.FaultPlaces.{fault_lines}
use Rattle.btools.specs.Functions.{functions_of}
use Rattle.btools.specs.declared.names.Frame.{Frame}
use Rattle.btools.specs.Programs.{HasProgram, NoProgram, TellsEnd, located_status, nothing_written}
use Rattle.btools.proofs.Compiled.{text_in}
use Rattle.btools.proofs.CodesExcluded.{codes_excluded}
use Rattle.btools.proofs.ProgramsExcluded as programs
use Rattle.btrace.specs.TraceExcluded.{ComesAlways, IsCodeIn, IsSourceOf, LocatesExcluded, TracesExcluded, status_of}
use Rattle.btrace.specs.Locates as locates
use Rattle.btrace.specs.Locates.{Locates, TellsSite, told_site}
use Rattle.btrace.specs.Loops.{again_text}
use Rattle.btrace.specs.RowTexts.{Legend, legend_in}
use Rattle.btrace.specs.Traces as traces
use Rattle.btrace.specs.Traces.{Traces, ending_text, rows_text}
use Rattle.btrace.specs.declared.tracing.TheConstants.{HEADING}
use Rattle.bwatch.specs.declared.trail.TraceRows.{TraceRows}
use Rattle.bwatch.specs.Sights.{sights_of}
use Rattle.bwatch.proofs.Origins.{loaded_in}
use Rattle.btrace.proofs.Unasked.{by_code, by_place, by_trace, place_by_code}

-- a machine of which a state comes again runs for ever, and so does the one that was loaded so
module _ (ds : List Definition) (image : Image) (loaded : IsLoadedFrom ds image) (i j : Incoming) where
  endless_so : (frames : List Frame) (again : Option Endless) → IfSome again (IsEndless ds image (functions_of ds) frames i j) → IfSome again (λ e. RunsForEver (machine ds) i j)
  endless_so frames None comes = tt
  endless_so frames (Some e) comes = (back_for_ever ds image i j e.repeat loaded comes.comes_back).0

module _ (files : Files) where
  some_same : {A : Type 0} (a b : A) → Some a ≡ Some b → a ≡ b
  some_same a b e = cc

  no_nothing : (o : Option (List ℕ)) (text : List ℕ) → o ≡ Some [] → o ≡ Some text → (text ≡ [] → ⊥) → ⊥
  no_nothing o text e f some = some (some_same text [] (sym f ∙ e))

  -- the bytes that were written
  wrote : (o p : Outgoing) (before text all : List ℕ) → o.written ≡ Some before → p.written ≡ Some all → Writes o text p → all ≡ before ++ text
  wrote o p before text all e f w = subst (λ x. Appends (Some before) x text) f (subst (λ x. Appends x p.written text) e w.appended)

  -- a status that is told of no refused write
  told : (line : List ℕ) (answer : ℕ) (o p : Outgoing) (status : ℕ) → status < 133 → Reported line answer o p status → Writes o line p × (status ≡ answer)
  told line answer o p status less (inl t) = t
  told line answer o p status less (inr r) = absurd (by_kind r.fault r.status)
    where
      by_kind : (fault : EndFault) → status ≡ compiled.status_of fault → ⊥
      by_kind end_fault.Device e = let is : status ≡ 133 = e in omega arith
      by_kind end_fault.Memory e = let is : status ≡ 134 = e in omega arith

  -- Programs of a source.
  module _ (edition : Edition) (source : List ℕ) (ds : List Definition) (is : IsSourceOf edition source ds) where
    only : (other : List Definition) (image : Image) → HasProgram edition source other image → other ≡ ds
    only other image p =
        unique_code (code_text edition is.compilation) other ds
        (subst (IsCodeText (code_text edition is.compilation)) (p.code is.compilation is.goes).1 (text_in edition source is.compilation is.goes is.clean)) is.text

    -- a status of a run is not told where there is no program
    has_program : (lines : Diagnostic → List ℕ) (line line_after : Outgoing) (status : ℕ) → status < 132 → NoProgram edition source lines line line_after status → ⊥
    has_program lines line line_after status less none =
        let e = programs.excluded edition source is.compilation is.goes lines line line_after in
        elim (e.status status none) [ inl one ↦ faulty (e.fault (subst (NoProgram edition source lines line line_after) one none)) | inr (inl h) ↦ omega arith | inr (inr (inl h)) ↦ omega arith | inr (inr (inr h)) ↦ omega arith ]
      where
        faulty : (d : Diagnostic) × (is.compilation.stop ≡ Some d) × Writes line (lines d) line_after → ⊥
        faulty f = let no : None ≡ Some f.0 = sym is.clean ∙ f.1 in cc

  -- Programs of a source or of a code text.
  only_in : (origin : Origin) (source : List ℕ) (ds : List Definition) → IsCodeIn origin source ds → (other : List Definition) (image : Image) → ProgramOf origin source other image → other ≡ ds
  only_in (Source edition) source ds is other image p = only edition source ds is other image p
  only_in (Code c) source ds is other image p = unique_code c.code other ds p.text is

  has_program_in : (origin : Origin) (source : List ℕ) (ds : List Definition) → IsCodeIn origin source ds → (lines : Diagnostic → List ℕ) (line line_after : Outgoing) (status : ℕ) → status < 132 → NoProgramOf origin source lines line line_after status → ⊥
  has_program_in (Source edition) source ds is lines line line_after status less none = has_program edition source ds is lines line line_after status less none
  has_program_in (Code c) source ds is lines line line_after status less none =
      elim ((codes_excluded.texts c source lines line line_after ds is).status status none) [ inl h ↦ omega (arith, h) | inr (inl h) ↦ omega (arith, h) | inr (inr (inl h)) ↦ omega (arith, h) | inr (inr (inr h)) ↦ omega (arith, h) ]

  -- what was loaded has the outcomes of its definitions
  outcome_loaded : (ds : List Definition) (image : Image) → IsLoadedFrom ds image → (input : List ℕ) (n : ℕ) → state_outcome (run image input n) ≡ state_outcome (machine ds input n)
  outcome_loaded ds image l input n = sym (shows_loaded ds image l input n).0

  no_end : (result : Outcome) → HasEnd result → result ≡ outcome.Limit → ⊥
  no_end (outcome.Exit n) h e = cc
  no_end (outcome.Trap kind) h e = cc
  no_end outcome.Limit h e = h
  no_end outcome.Device h e = h
  no_end outcome.Memory h e = h

  -- a run that begins isn't over before its first step
  begins : (ds : List Definition) (image : Image) (result : Outcome) (line line_after : Outgoing) (status : ℕ) → status < 132 → ComesAlways ds 0 outcome.Limit → IsLoadedFrom ds image → BeginsNot image result
      → Finishes result line line_after status → ⊥
  begins ds image result line line_after status less first l (inl e) f =
      let g : (line_after ≡ line) × (status ≡ MEMORY) = subst (λ r. Finishes r line line_after status) e.0 f in
      let bad : status ≡ 134 = g.1 in
      omega arith
  begins ds image result line line_after status less first l (inr h) f =
      no_end result h.0 (sym (h.1 []).outcome ∙ outcome_loaded ds image l [] 0 ∙ first [])

  -- a run that is told with its own status came to its outcome
  came : (ds : List Definition) (steps : ℕ) (i j : Incoming) (o p line line_after : Outgoing) (status : ℕ) → status < 132 → (result : Outcome) → RunGives (machine ds) steps i j o p result → Finishes result line line_after status
      → (status ≡ status_of result) × ((input : List ℕ) × (state_outcome (machine ds input steps) ≡ result))
  came ds steps i j o p line line_after status less (outcome.Exit n) h f = (f.1, (h.taken ++ [], (h.shows [] (λ e. refl)).outcome))
  came ds steps i j o p line line_after status less (outcome.Trap kind) h f = ((told _ TRAP line line_after status (omega arith) f).1, (h.taken ++ [], (h.shows [] (λ e. refl)).outcome))
  came ds steps i j o p line line_after status less outcome.Limit h f = ((told _ LIMIT line line_after status (omega arith) f).1, (h.taken ++ [], (h.shows [] (λ e. refl)).outcome))
  came ds steps i j o p line line_after status less outcome.Device h f = let bad : status ≡ 133 = f.1 in absurd (omega arith)
  came ds steps i j o p line line_after status less outcome.Memory h f = let bad : status ≡ 134 = f.1 in absurd (omega arith)

  module _ (origin : Origin) (source : List ℕ) (ds : List Definition) (is : IsCodeIn origin source ds) (steps : ℕ) (shown : TraceRows) (name : Option (List ℕ)) (ends : RunEnds) (status : ℕ) (less : status < 132) (starts : ComesAlways ds 0 outcome.Limit) where
    no_beginning : (other : List Definition) (image : Image) (result : Outcome) → ProgramOf origin source other image → BeginsNot image result → Finishes result ends.line ends.line_after status → ⊥
    no_beginning other image result program never f =
        begins ds image result ends.line ends.line_after status less starts (subst (λ x. IsLoadedFrom x image) (only_in origin source ds is other image program) (loaded_in origin source other image program)) never f

    -- a trace that was told of no refused write is followed by the line of its outcome
    finished : (text : List ℕ) (answer : ℕ) (result : Outcome) → Reported text DONE ends.out ends.out_after answer → TellsEnd answer result ends.line ends.line_after status → Writes ends.out text ends.out_after × Finishes result ends.line ends.line_after status
    finished text answer result reported (inl t) = let zero : answer ≡ 0 = t.0 in ((told text DONE ends.out ends.out_after answer (omega arith) reported).0, t.1)
    finished text answer result reported (inr t) = let same : status ≡ answer = t.2 in absurd (t.0 ((told text DONE ends.out ends.out_after answer (omega arith) reported).1))

    status_told : (result : Outcome) → ComesAlways ds steps result → Traces origin source steps shown files name ends status → status ≡ status_of result
    status_told result comes (traces.traced other image places frames which r made again text answer program lined known named back w reported tells) =
        let f = finished text answer r reported tells in
        let c = came other steps ends.input ends.input_after nothing_written (outgoing_of w.output) ends.line ends.line_after status less r w.gives f.1 in
        let at_end = subst (λ x. state_outcome (machine x c.1.0 steps) ≡ r) (only_in origin source ds is other image program) c.1.1 in
        c.0 ∙ ap status_of (sym at_end ∙ comes c.1.0)
    status_told result comes (traces.not_begun other image which r program suits named never f quiet) = absurd (no_beginning other image r program never f)
    status_told result comes (traces.unnamed other image program suits unknown r quiet) =
        let bad : status ≡ 135 = (told _ WRONG_COMMAND ends.line ends.line_after status (omega arith) r).1 in absurd (omega arith)
    status_told result comes (traces.stopped none quiet) = absurd (has_program_in origin source ds is _ ends.line ends.line_after status less none)
    status_told result comes (traces.no_memory other image program suits still same read e) = let bad : status ≡ 134 = e in absurd (omega arith)

    -- a run that begins has its trace written
    written_so : Traces origin source steps shown files name ends status → (more : List ℕ) × Writes ends.out (HEADING.now ++ more) ends.out_after
    written_so (traces.traced other image places frames which r made again text answer program lined known named back w reported tells) =
        let legend = legend_in other places files in
        let sights = sights_of (image_of other).functions (machine other) (w.taken ++ []) in
        let rows = rows_text legend which sights made in
        let ending = ending_text legend which sights made r in
        let after = again_text legend again in (
          rows ++ (ending ++ after),
          subst (λ (x : List ℕ). Writes ends.out x ends.out_after)
              (w.told [] (λ e. refl) ∙ append_assoc (HEADING.now ++ rows) ending after ∙ append_assoc HEADING.now rows (ending ++ after)) (finished text answer r reported tells).0,
        )
    written_so (traces.not_begun other image which r program suits named never f quiet) = absurd (no_beginning other image r program never f)
    written_so (traces.unnamed other image program suits unknown r quiet) =
        let bad : status ≡ 135 = (told _ WRONG_COMMAND ends.line ends.line_after status (omega arith) r).1 in absurd (omega arith)
    written_so (traces.stopped none quiet) = absurd (has_program_in origin source ds is _ ends.line ends.line_after status less none)
    written_so (traces.no_memory other image program suits still same read e) = let bad : status ≡ 134 = e in absurd (omega arith)

  not_silent : (before more : List ℕ) → before ≡ before ++ (HEADING.now ++ more) → ⊥
  not_silent before more e = let bad : HEADING.now ++ more ≡ [] = sym (append_cancel_left before [] (HEADING.now ++ more) (append-nil before ∙ e)) in cc

  -- a run that came to its outcome read without a failure
  read_whole : (ds : List Definition) (steps : ℕ) (i j : Incoming) (o p line line_after : Outgoing) (result : Outcome) → (j.failures ≡ i.failures → ⊥) → RunGives (machine ds) steps i j o p result → Finishes result line line_after MEMORY → ⊥
  read_whole ds steps i j o p line line_after (outcome.Exit n) failed h f = failed h.no_failure
  read_whole ds steps i j o p line line_after (outcome.Trap kind) failed h f = failed h.no_failure
  read_whole ds steps i j o p line line_after outcome.Limit failed h f = failed h.no_failure
  read_whole ds steps i j o p line line_after outcome.Device failed h f = let bad : 134 ≡ 133 = f.1 in omega (arith, bad)
  read_whole ds steps i j o p line line_after outcome.Memory failed h f = failed (memory_unfailed (machine ds) steps i j o p h).0

  cut_off : (text : List ℕ) (o p : Outgoing) → (Grew o.refusals p.refusals → ⊥) → Reported text DONE o p MEMORY → ⊥
  cut_off text o p refused (inl t) = let bad : 134 ≡ 0 = t.1 in omega (arith, bad)
  cut_off text o p refused (inr r) = by_kind r.fault r.refuses r.status
    where
      by_kind : (fault : EndFault) → Refuses o text fault p → MEMORY ≡ compiled.status_of fault → ⊥
      by_kind end_fault.Device h e = let bad : 134 ≡ 133 = e in omega (arith, bad)
      by_kind end_fault.Memory h e = refused h.counted.0

  read_told : (origin : Origin) (source : List ℕ) (steps : ℕ) (shown : TraceRows) (name : Option (List ℕ)) (ends : RunEnds) → (ends.input_after.failures ≡ ends.input.failures → ⊥) → (Grew ends.out.refusals ends.out_after.refusals → ⊥) → Traces origin source steps shown files name ends MEMORY → ⊥
  read_told origin source steps shown name ends failed refused (traces.traced ds image places frames which result made again text answer program lined known named back w reported tells) =
      elim tells [
        | inl d ↦ read_whole ds steps ends.input ends.input_after nothing_written (outgoing_of w.output) ends.line ends.line_after result failed w.gives d.1
        | inr d ↦ cut_off text ends.out ends.out_after refused (subst (λ n. Reported text DONE ends.out ends.out_after n) (sym d.2) reported)
      ]
  read_told origin source steps shown name ends failed refused (traces.not_begun ds image which result program suits named never f quiet) = failed (ap (λ (i : Incoming). i.failures) quiet.unread)
  read_told origin source steps shown name ends failed refused (traces.unnamed ds image program suits unknown r quiet) = failed (ap (λ (i : Incoming). i.failures) quiet.unread)
  read_told origin source steps shown name ends failed refused (traces.stopped none quiet) = failed (ap (λ (i : Incoming). i.failures) quiet.unread)
  read_told origin source steps shown name ends failed refused (traces.no_memory ds image program suits still same read e) = failed read.no_failure

  -- a file that doesn't suit the code is told
  module _ (origin : Origin) (source : List ℕ) (no : IsSuited origin source → ⊥) (steps : ℕ) (ends : RunEnds) (status : ℕ) where
    abbrev Tells : Type 0
    Tells = NoProgramOf origin source (fault_lines files) ends.line ends.line_after status × HasNotRun ends

    trace_unsuited : (shown : TraceRows) (name : Option (List ℕ)) → Traces origin source steps shown files name ends status → Tells
    trace_unsuited shown name (traces.traced ds image places frames which r made again text answer program lined known named back w reported tells) = absurd (no ((places.lines, lined.0), (frames, known)))
    trace_unsuited shown name (traces.not_begun ds image which r program suits named never f quiet) = absurd (no suits)
    trace_unsuited shown name (traces.unnamed ds image program suits unknown r quiet) = absurd (no suits)
    trace_unsuited shown name (traces.stopped none quiet) = (none, quiet)
    trace_unsuited shown name (traces.no_memory ds image program suits still same read e) = absurd (no suits)

    place_unsuited : Locates origin source files steps ends status → Tells
    place_unsuited (locates.located out ds image frames places result answer active made again program named lined gives f located stops comes tells) = absurd (no ((places.lines, lined.0), (frames, named)))
    place_unsuited (locates.unlocated ds image result program suits gives f unplaced) = absurd (no suits)
    place_unsuited (locates.not_begun ds image result program suits never f quiet) = absurd (no suits)
    place_unsuited (locates.stopped none quiet) = (none, quiet)

  pub excluded : TracesExcluded files
  excluded = record {
    other_status = λ ds steps shown name result status starts comes wrong less origin source ends is h.
        wrong (status_told origin source ds is steps shown name ends status less starts result comes h);
    unwritten = λ ds steps shown name status less starts origin source before ends is first last h.
        let w = written_so origin source ds is steps shown name ends status less starts h in
        not_silent before w.0 (wrote ends.out ends.out_after before (HEADING.now ++ w.0) before first last w.1);
    read_failed = λ origin source steps shown name ends failed refused h. read_told origin source steps shown name ends failed refused h;
    unsuited = λ origin source no steps shown name ends status h. trace_unsuited origin source no steps ends status shown name h;
    unasked = λ edition source r g steps shown name ends status h. by_trace edition source r g steps files ends status shown name h;
    unasked_by_code = λ c ds is source steps shown name ends status h. by_code c ds is source steps files ends status shown name h;
  }

  abbrev pub line_in : Outcome → List ℕ
  line_in (outcome.Trap kind) = report_text (report.Trap kind)
  line_in outcome.Limit = report_text report.Limit
  line_in result = []

  -- a run that is told with its place: the line of its outcome, and where the machine was
  pub record Stops (origin : Origin) (source : List ℕ) (ds : List Definition) (steps : ℕ) (ends : RunEnds) (text : List ℕ) (status : ℕ) : Type 0 where
    pub result : Outcome
    pub located : located_status result ≡ Some status
    pub active : Active
    pub made : ℕ
    pub input : List ℕ
    pub stops : EndsAt (machine ds input) steps result active made
    pub places : SourcePlaces
    pub lined : PlacesOf origin source places
    pub again : Option Endless
    pub endless : IfSome again (λ e. RunsForEver (machine ds) ends.input ends.input_after)
    pub text_is : text ≡ line_in result ++ told_site (legend_in ds places files) source result active made again

  line_told : (result : Outcome) (answer : ℕ) (mid following : Outgoing) → located_status result ≡ Some answer → Finishes result mid following answer → Writes mid (line_in result) following
  line_told (outcome.Exit n) answer mid following e f = cc
  line_told (outcome.Trap kind) answer mid following e f = let is : 130 ≡ answer = some_same 130 answer e in (told _ TRAP mid following answer (omega (arith, is)) f).0
  line_told outcome.Limit answer mid following e f = let is : 131 ≡ answer = some_same 131 answer e in (told _ LIMIT mid following answer (omega (arith, is)) f).0
  line_told outcome.Device answer mid following e f = cc
  line_told outcome.Memory answer mid following e f = cc

  site_told : (legend : Legend) (source : List ℕ) (result : Outcome) (call : Active) (number : ℕ) (again : Option Endless) (answer : ℕ) (old new : Outgoing) (status : ℕ) → status < 132 → TellsSite legend source result call number again answer old new status → Writes old (told_site legend source result call number again) new × (status ≡ answer)
  site_told legend source result call number again answer old new status less (inl t) = told _ answer old new status (omega arith) t
  site_told legend source result call number again answer old new status less (inr t) = let bad : status ≡ 134 = t.1 in absurd (omega arith)

  -- a run without a place that wrote something
  not_alone : (result : Outcome) (mid following : Outgoing) (status : ℕ) (text : List ℕ) → status < 132 → Finishes result mid following status → (located_status result ≡ Some status → ⊥) → mid.written ≡ Some [] → following.written ≡ Some text → (text ≡ [] → ⊥) → ⊥
  not_alone (outcome.Exit n) mid following status text less f unplaced e g some = no_nothing following.written text (ap (λ (o : Outgoing). o.written) f.0 ∙ e) g some
  not_alone (outcome.Trap kind) mid following status text less f unplaced e g some = unplaced (ap Some (sym (told _ TRAP mid following status (omega arith) f).1))
  not_alone outcome.Limit mid following status text less f unplaced e g some = unplaced (ap Some (sym (told _ LIMIT mid following status (omega arith) f).1))
  not_alone outcome.Device mid following status text less f unplaced e g some = let bad : status ≡ 133 = f.1 in omega arith
  not_alone outcome.Memory mid following status text less f unplaced e g some = let bad : status ≡ 134 = f.1 in omega arith

  module _ (origin : Origin) (source : List ℕ) (ds : List Definition) (is : IsCodeIn origin source ds) (steps : ℕ) (ends : RunEnds) (status : ℕ) (less : status < 132) (starts : ComesAlways ds 0 outcome.Limit) where
    never_begun : (other : List Definition) (image : Image) (result : Outcome) → ProgramOf origin source other image → BeginsNot image result → Finishes result ends.line ends.line_after status → ⊥
    never_begun other image result program never f =
        begins ds image result ends.line ends.line_after status less starts (subst (λ x. IsLoadedFrom x image) (only_in origin source ds is other image program) (loaded_in origin source other image program)) never f

    -- the place is told
    pub stops_so : (text : List ℕ) → ends.line.written ≡ Some [] → ends.line_after.written ≡ Some text → (text ≡ [] → ⊥) → Locates origin source files steps ends status → Stops origin source ds steps ends text status
    stops_so text before following some (locates.located out other image frames places result answer active made again program named lined gives f located stops comes tells) =
        let same = only_in origin source ds is other image program in
        let site = site_told (legend_in other places files) source result active made again answer out ends.line_after status less tells in
        let whole = Writes-append (line_told result answer ends.line out located f) site.0 in
        let here : Stops origin source other steps ends text status = record {
          result = result;
          located = located ∙ ap Some (sym site.1);
          active = active;
          made = made;
          input = stops.taken ++ [];
          stops = stops.ends [] (λ e. refl);
          places = places;
          lined = lined;
          again = again;
          endless = endless_so other image (loaded_in origin source other image program) ends.input ends.input_after frames again comes;
          text_is = wrote ends.line ends.line_after [] _ text before following whole;
        } in
        subst (λ x. Stops origin source x steps ends text status) same here
    stops_so text before following some (locates.unlocated other image result program suits gives f unplaced) =
        absurd (not_alone result ends.line ends.line_after status text less f unplaced before following some)
    stops_so text before following some (locates.not_begun other image result program suits never f quiet) = absurd (never_begun other image result program never f)
    stops_so text before following some (locates.stopped none quiet) = absurd (has_program_in origin source ds is _ ends.line ends.line_after status less none)

    -- the status is that of the machine's outcome
    came_to : (result : Outcome) → ComesAlways ds steps result → Locates origin source files steps ends status → status ≡ status_of result
    came_to result comes (locates.located out other image frames places r answer active made again program named lined gives f located stops back tells) =
        let same = only_in origin source ds is other image program in
        let site = site_told (legend_in other places files) source r active made again answer out ends.line_after status less tells in
        let c = came other steps ends.input ends.input_after ends.out ends.out_after ends.line out answer (omega (arith, site.1)) r gives f in
        let at_end = subst (λ x. state_outcome (machine x c.1.0 steps) ≡ r) same c.1.1 in
        site.1 ∙ c.0 ∙ ap status_of (sym at_end ∙ comes c.1.0)
    came_to result comes (locates.unlocated other image r program suits gives f unplaced) =
        let same = only_in origin source ds is other image program in
        let c = came other steps ends.input ends.input_after ends.out ends.out_after ends.line ends.line_after status less r gives f in
        let at_end = subst (λ x. state_outcome (machine x c.1.0 steps) ≡ r) same c.1.1 in
        c.0 ∙ ap status_of (sym at_end ∙ comes c.1.0)
    came_to result comes (locates.not_begun other image r program suits never f quiet) = absurd (never_begun other image r program never f)
    came_to result comes (locates.stopped none quiet) = absurd (has_program_in origin source ds is _ ends.line ends.line_after status less none)

  pub limit_is : (result : Outcome) → located_status result ≡ Some 131 → result ≡ outcome.Limit
  limit_is (outcome.Exit n) e = cc
  limit_is (outcome.Trap kind) e = let bad : 130 ≡ 131 = some_same 130 131 e in absurd (omega (arith, bad))
  limit_is outcome.Limit e = refl
  limit_is outcome.Device e = cc
  limit_is outcome.Memory e = cc

  -- the character in a column
  abbrev at : ℕ → List ℕ → ℕ
  at column text = get_or text column 0

  -- the line of a trap has eight characters, and a place stands after it
  trap_ends : (kind : Trap) (text : List ℕ) → at 8 (report_text (report.Trap kind) ++ text) ≡ at 0 text
  trap_ends trap.ZeroDivisor text = refl
  trap_ends trap.NotAFunction text = refl
  trap_ends trap.NotALabel text = refl
  trap_ends trap.NoRoom text = refl
  trap_ends trap.TooDeep text = refl
  trap_ends trap.BadBase text = refl
  trap_ends trap.Stuck text = refl

  trap_alone : (result : Outcome) (kind : Trap) (legend : Legend) (source : List ℕ) (call : Active) (number : ℕ) (again : Option Endless) → located_status result ≡ Some 130 → report_text (report.Trap kind) ≡ line_in result ++ told_site legend source result call number again → ⊥
  trap_alone (outcome.Exit n) kind legend source call number again e is = cc
  trap_alone (outcome.Trap other) kind legend source call number again e is =
      let nothing_more : at 8 (report_text (report.Trap kind)) ≡ 0 = ap (at 8) (sym (append-nil (report_text (report.Trap kind)))) ∙ trap_ends kind [] in
      let more : at 8 (report_text (report.Trap other) ++ told_site legend source (outcome.Trap other) call number again) ≡ 97 = trap_ends other (told_site legend source (outcome.Trap other) call number again) in
      let bad : 0 ≡ 97 = sym nothing_more ∙ ap (at 8) is ∙ more in
      omega (arith, bad)
  trap_alone outcome.Limit kind legend source call number again e is = let bad : 131 ≡ 130 = some_same 131 130 e in omega (arith, bad)
  trap_alone outcome.Device kind legend source call number again e is = cc
  trap_alone outcome.Memory kind legend source call number again e is = cc

  located_read : (ds : List Definition) (steps : ℕ) (i j : Incoming) (o p : Outgoing) (result : Outcome) (answer : ℕ) → located_status result ≡ Some answer → RunGives (machine ds) steps i j o p result → j.failures ≡ i.failures
  located_read ds steps i j o p (outcome.Exit n) answer e h = cc
  located_read ds steps i j o p (outcome.Trap kind) answer e h = h.no_failure
  located_read ds steps i j o p outcome.Limit answer e h = h.no_failure
  located_read ds steps i j o p outcome.Device answer e h = cc
  located_read ds steps i j o p outcome.Memory answer e h = cc

  place_read : (origin : Origin) (source : List ℕ) (steps : ℕ) (ends : RunEnds) → (ends.input_after.failures ≡ ends.input.failures → ⊥) → Locates origin source files steps ends MEMORY → ⊥
  place_read origin source steps ends failed (locates.located out ds image frames places result answer active made again program named lined gives f located stops comes tells) =
      failed (located_read ds steps ends.input ends.input_after ends.out ends.out_after result answer located gives)
  place_read origin source steps ends failed (locates.unlocated ds image result program suits gives f unplaced) =
      read_whole ds steps ends.input ends.input_after ends.out ends.out_after ends.line ends.line_after result failed gives f
  place_read origin source steps ends failed (locates.not_begun ds image result program suits never f quiet) = failed (ap (λ (i : Incoming). i.failures) quiet.unread)
  place_read origin source steps ends failed (locates.stopped none quiet) = failed (ap (λ (i : Incoming). i.failures) quiet.unread)

  pub places_excluded : LocatesExcluded files
  places_excluded = record {
    limit_alone = λ ds steps starts origin source ends is before following h.
        let s = stops_so origin source ds is steps ends LIMIT (omega arith) starts (codes "limit\n") before following (λ e. cc) h in
        let limit = s.text_is ∙ ap (λ x. line_in x ++ told_site (legend_in ds s.places files) source x s.active s.made s.again) (limit_is s.result s.located) in
        let bad : 0 ≡ 97 = ap (at 6) limit in
        omega (arith, bad);
    trap_alone = λ ds steps kind starts origin source ends is before following h.
        let s = stops_so origin source ds is steps ends TRAP (omega arith) starts (report_text (report.Trap kind)) before following (λ e. cc) h in
        trap_alone s.result kind (legend_in ds s.places files) source s.active s.made s.again s.located s.text_is;
    other_status = λ ds steps result status starts comes wrong less origin source ends is h.
        wrong (came_to origin source ds is steps ends status less starts result comes h);
    read_failed = λ origin source steps ends failed h. place_read origin source steps ends failed h;
    unsuited = λ origin source no steps ends status h. place_unsuited origin source no steps ends status h;
    unasked = λ edition source r g steps ends status h. by_place edition source r g steps files ends status h;
    unasked_by_code = λ c ds is source steps ends status h. place_by_code c ds is source steps files ends status h;
  }
