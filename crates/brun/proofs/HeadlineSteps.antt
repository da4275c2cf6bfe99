-- Where nothing fails, what is said of a run is what its source and its input come to.
use Rattle.std.proofs.Common.{◌≡◌, ◌≢◌, ℕ, ◌+◌, ◌≤◌, List, [], ◌++◌, map, Option, Some, None, refl, sym, ap, ◌∙◌, subst, arith, ◌⊎◌, inl, inr, ⊎_elim}
use Rattle.bword.specs.declared.edition.Edition.{Edition}
use Rattle.bword.specs.ByteEnds.{Incoming, Outgoing, Kept, Grew, Writes, Refuses, CanFollow, outgoing_of}
use Rattle.bword.specs.declared.ends.EndFault.{EndFault}
use Rattle.bword.specs.declared.ends.EndFault.TheVariants as end_fault
use Rattle.blang.specs.Cut.{tokens_from}
use Rattle.blang.specs.declared.token.Diagnostic.{Diagnostic}
use Rattle.blang.specs.Code.{code_of}
use Rattle.blang.specs.Compiles as compiled
use Rattle.blang.specs.Compiles.{CompilesTo, Tells, line_of, Run, Compiles, SourceFailed, EndRefused, status_of}
use Rattle.blang.specs.Trees.{Definition}
use Rattle.blang.specs.Machine.{State, Running, Halted, Stuck, image_of, machine}
use Rattle.blang.specs.Reports.{Shows, ComesTo, RunGives, state_outcome, Reported, report_text, load_number, RunEnds}
use Rattle.blang.specs.Reports.{Finishes, HasNotRun}
use Rattle.blang.specs.Machine as runs
use Rattle.blang.specs.Layout.{World, Ending, Exited, Trapped}
use Rattle.blang.specs.declared.run.LoadFault.{LoadFault}
use Rattle.blang.specs.declared.run.Outcome.{Outcome}
use Rattle.blang.specs.declared.run.Outcome.TheVariants as outcome
use Rattle.blang.specs.Meaning.{Loads}
use Rattle.bmean.proofs.LawProofs.{code_agrees}
use Rattle.blang.specs.Headline.{RunsProgram, GoesOff, NothingFailed, Says, line_at, status_at, IsEnd, IsLimit, RunAnswers, GoAnswers, Headline}
use Rattle.blang.specs.Headline as going
use Rattle.blang.specs.declared.run.Report.TheVariants as report
use Rattle.bgrammar.proofs.GoesLaws.{each_source_comes}
use Rattle.bmach.proofs.Running.{device_failed}
use Rattle.bparse.proofs.Remaining.{rest_of, writes_nothing}
use Rattle.brun.proofs.MeantSteps.{halted_later, runs_as_meant}

-- a line is written where its end neither fails nor is refused
not_refused : (line : List ℕ) (o p : Outgoing) (status : ℕ) (fault : EndFault) → (Grew o.failures p.failures → ⊥) → status ≢ 134 → Refuses o line fault p → status ≡ status_of fault → ⊥
not_refused line o p status end_fault.Device fails memory r s = fails r.counted.0
not_refused line o p status end_fault.Memory fails memory r s = memory s

is_told : (line : List ℕ) (answer : ℕ) (o p : Outgoing) (status : ℕ) → (Grew o.failures p.failures → ⊥) → status ≢ 134 → Reported line answer o p status → Writes o line p × (status ≡ answer)
is_told line answer o p status fails memory (inl told) = told
is_told line answer o p status fails memory (inr r) = absurd (not_refused line o p status r.fault fails memory r.refuses r.status)

-- the line and the status of an outcome
abbrev line_in : Outcome → List ℕ
line_in (outcome.Trap kind) = report_text (report.Trap kind)
line_in outcome.Limit = report_text report.Limit
line_in _ = []

abbrev status_in : Outcome → ℕ
status_in (outcome.Exit n) = n
status_in (outcome.Trap kind) = 130
status_in outcome.Limit = 131
status_in outcome.Device = 133
status_in outcome.Memory = 134

line_same : (e : Ending) (w : World) → line_in (state_outcome (Halted e w)) ≡ line_at e
line_same (Exited n) w = refl
line_same (Trapped kind) w = refl

status_same : (e : Ending) (w : World) → status_in (state_outcome (Halted e w)) ≡ status_at e
status_same (Exited n) w = refl
status_same (Trapped kind) w = refl

module _ (ds : List Definition) (loads : Loads ds) (steps : ℕ) (ends : RunEnds) (status : ℕ) (input : List ℕ) (told : Tells ends.input input) where
  abbrev state : ℕ → State
  state n = machine (map code_of ds) input n

  -- what shows in the ends of a run
  pub record Came (result : Outcome) : Type 0 where
    pub left : List ℕ
    pub output : List ℕ
    pub shows : Shows result left output (state steps)
    pub says : Says ends status left output (line_in result) (status_in result)

  came : (result : Outcome) → ComesTo (machine (map code_of ds)) steps ends.input ends.input_after ends.out ends.out_after result
      → Writes ends.line (line_in result) ends.line_after → status ≡ status_in result → Came result
  came result h line is =
      let rest = rest_of ends.input ends.input_after h.taken input h.took told in
      record {
        left = rest.more;
        output = h.output;
        shows = subst (λ t. Shows result rest.more h.output (machine (map code_of ds) t steps)) rest.whole (h.shows rest.more rest.follows);
        says = record { unread = rest.left; written = h.written; told = line; answered = is };
      }

  -- it came so to this state
  says_at : (result : Outcome) (c : Came result) (s : State) → state steps ≡ s
      → (state_outcome s ≡ result) × Says ends status (runs.state_world s).input (runs.state_world s).output (line_in (state_outcome s)) (status_in (state_outcome s))
  says_at result c s e =
      let shows = subst (λ x. Shows result c.left c.output x) e c.shows in
      let result_is = sym shows.outcome in
      let a = subst (λ x. Says ends status c.left c.output (line_in x) (status_in x)) result_is c.says in
      let b = subst (λ x. Says ends status x c.output (line_in (state_outcome s)) (status_in (state_outcome s))) (sym shows.left) a in
      (shows.outcome, subst (λ x. Says ends status (runs.state_world s).input x (line_in (state_outcome s)) (status_in (state_outcome s))) (sym shows.written) b)

  halts : (result : Outcome) → Came result → (n : ℕ) → n ≤ steps → (e : Ending) (w : World) → state n ≡ Halted e w → IsEnd ds input (n + 1) e w ends status
  halts result c n le e w h =
      let later = halted_later (image_of (map code_of ds)) input n steps e w le h in
      let said = (says_at result c (Halted e w) later).1 in
      record {
        means = (code_agrees ds loads input).halts_as_meant n e w h;
        says = subst (λ x. Says ends status w.input w.output x (status_at e)) (line_same e w)
            (subst (λ x. Says ends status w.input w.output (line_in (state_outcome (Halted e w))) x) (status_same e w) said);
      }

  abbrev StillRuns : Type 0
  StillRuns = (n : ℕ) → n ≤ steps → (e : Ending) (w : World) → state n ≢ Halted e w

  limited_at : (result : Outcome) → Came result → StillRuns → (s : State) → state steps ≡ s → IsLimit ds input steps ends status
  limited_at result c runs_on (Running call below w) e = record {
    world = w;
    shows = subst (λ x. Shows outcome.Limit w.input w.output x) (sym e) (record { outcome = refl; left = refl; written = refl });
    begins = (code_agrees ds loads input).writes_as_meant steps call below w e;
    says = (says_at result c (Running call below w) e).1;
  }
  limited_at result c runs_on (Halted ending w) e = absurd (runs_on steps (omega arith) ending w e)
  limited_at result c runs_on (Stuck w) e = absurd ((code_agrees ds loads input).never_stuck steps w e)

  run_answers : (result : Outcome) → Came result → RunAnswers ds input steps ends status
  run_answers result c = record {
    halts = halts result c;
    limited = λ runs_on. limited_at result c runs_on (state steps) refl;
    endless = λ wants. limited_at result c (λ n le e w h. (code_agrees ds loads input).runs_without_end wants n e w h) (state steps) refl;
    as_meant = runs_as_meant ds loads input;
  }

  abbrev Gives : Outcome → Type 0
  Gives result = RunGives (machine (map code_of ds)) steps ends.input ends.input_after ends.out ends.out_after result

  module _ (source source_after : Incoming) (healthy : NothingFailed source source_after ends status) where
    pub runs_so : (result : Outcome) → Gives result → Finishes result ends.line ends.line_after status → RunAnswers ds input steps ends status
    runs_so (outcome.Exit n) h f = run_answers (outcome.Exit n) (came (outcome.Exit n) h (writes_nothing ends.line ends.line_after f.0) f.1)
    runs_so (outcome.Trap kind) h f =
        let line = is_told (report_text (report.Trap kind)) 130 ends.line ends.line_after status healthy.line_written healthy.not_refused f in
        run_answers (outcome.Trap kind) (came (outcome.Trap kind) h line.0 line.1)
    runs_so outcome.Limit h f =
        let line = is_told (report_text report.Limit) 131 ends.line ends.line_after status healthy.line_written healthy.not_refused f in
        run_answers outcome.Limit (came outcome.Limit h line.0 line.1)
    runs_so outcome.Device h f = absurd (⊎_elim healthy.input_read healthy.output_written (device_failed (machine (map code_of ds)) steps ends.input ends.input_after ends.out ends.out_after h))
    runs_so outcome.Memory h f = absurd (healthy.not_refused f.1)

no_zero : Grew 0 0 → ⊥
no_zero grew = omega (arith, grew)

-- what compiling does to the source, the kept code and the line
abbrev compiling : (edition : Edition) (source source_after : Incoming) (ends : RunEnds) (status : ℕ) (kept : Kept) → Run
compiling edition source source_after ends status kept =
    record { edition = edition; source = source; source_after = source_after; code = going.no_code; code_after = outgoing_of kept; line = ends.line; line_after = ends.line_after; status = status }

-- A source that isn't compiled where nothing fails has a fault.
module _ (edition : Edition) (source source_after : Incoming) (ends : RunEnds) (status : ℕ) (healthy : NothingFailed source source_after ends status) (kept : Kept) where
  -- what follows the bytes taken, and the outcome with it
  module _ (h : Compiles (compiling edition source source_after ends status kept)) (more : List ℕ) (follows : CanFollow source_after more) (r : compiled.Compilation) (g : CompilesTo [] (tokens_from edition 1 (h.taken ++ more)) r) where
    not_device : status ≡ 133 → ⊥
    not_device device = by_end (h.failed device)
      where
        run : Run
        run = compiling edition source source_after ends status kept

        by_end : (SourceFailed run h.taken ⊎ EndRefused run h.taken end_fault.Device) → ⊥
        by_end (inl f) = healthy.source_read f.counted
        by_end (inr (inl o)) = no_zero o.code.counted.0
        by_end (inr (inr (inl c))) = let cut = c.code more follows r g in no_zero (subst (λ n. Grew n 0) cut.written.failures cut.refused.counted.0)
        by_end (inr (inr (inr l))) = healthy.line_written (l.written more follows r g).line.counted.0

    fault_status : (status ≡ 0 → ⊥) → status ≡ 1
    fault_status not_zero = by_status h.no_other
      where
        by_status : ((status ≡ 0) ⊎ (status ≡ 1) ⊎ (status ≡ 133) ⊎ (status ≡ 134)) → status ≡ 1
        by_status (inl none) = absurd (not_zero none)
        by_status (inr (inl one)) = one
        by_status (inr (inr (inl device))) = absurd (not_device device)
        by_status (inr (inr (inr memory))) = absurd (healthy.not_refused memory)

pub other_stop : {A : Type 0} (stop : Option Diagnostic) (fault : Diagnostic) → stop ≡ None → stop ≡ Some fault → A
other_stop stop fault e f = absurd (no (sym e ∙ f))
  where
    no : None ≢ Some fault
    no e = cc

unread_says : (ends : RunEnds) (status : ℕ) (input line : List ℕ) (answer : ℕ) → Tells ends.input input → HasNotRun ends → Writes ends.line line ends.line_after → status ≡ answer → Says ends status input [] line answer
unread_says ends status input line answer told quiet written is = record {
  unread = ap (λ (i : Incoming). i.left) quiet.unread ∙ told.left;
  written = writes_nothing ends.out ends.out_after quiet.silent;
  told = written;
  answered = is;
}

-- a program that was or wasn't run, where its source has no fault
program_answers : (r : compiled.Compilation) (ds : List Definition) (input : List ℕ) (steps : ℕ) (source source_after : Incoming) (ends : RunEnds) (status : ℕ)
    → Tells ends.input input → NothingFailed source source_after ends status → r.stop ≡ None → RunsProgram steps ds ends status → GoAnswers r ds input steps ends status
program_answers r ds input steps source source_after ends status told healthy clean (going.refused f n load number quiet line) = record {
  faulty = λ fault e. other_stop r.stop fault clean e;
  refused = λ c g m load' number'.
      let fault_same : Some f ≡ Some g = sym load ∙ load' in
      let same : f ≡ g = cc in
      let numbers : Some n ≡ Some m = sym number ∙ ap load_number same ∙ number' in
      let number_same : n ≡ m = cc in
      let written = is_told (report_text (report.Load n)) 132 ends.line ends.line_after status healthy.line_written healthy.not_refused line in
      subst (λ k. Says ends status input [] (report_text (report.Load k)) 132) number_same (unread_says ends status input (report_text (report.Load n)) 132 told quiet written.0 written.1);
  runs = λ c loads. absurd (no_load (sym loads ∙ load));
}
  where
    no_load : None ≢ Some f
    no_load e = cc
program_answers r ds input steps source source_after ends status told healthy clean (going.ran result loads does finish) = record {
  faulty = λ fault e. other_stop r.stop fault clean e;
  refused = λ c f n load number. absurd (no_load f (sym loads ∙ load));
  runs = λ c l. runs_so ds loads steps ends status input told source source_after healthy result does.made finish;
}
  where
    no_load : (f : LoadFault) → None ≢ Some f
    no_load f e = cc
program_answers r ds input steps source source_after ends status told healthy clean (going.no_memory quiet silent is) = absurd (healthy.not_refused is)

answers_of : (edition : Edition) (steps : ℕ) (source source_after : Incoming) (ends : RunEnds) (status : ℕ) → GoesOff edition steps source source_after ends status
    → (text input : List ℕ) → Tells source text → Tells ends.input input → NothingFailed source source_after ends status
    → (r : compiled.Compilation) (g : CompilesTo [] (tokens_from edition 1 text) r) → GoAnswers r g.definitions input steps ends status
answers_of edition steps source source_after ends status (going.stopped kept not_zero quiet h) text input tells told healthy r g =
    let rest = rest_of source source_after h.taken text h.took tells in
    let following = subst (λ t. CompilesTo [] (tokens_from edition 1 t) r) (sym rest.whole) g in
    let one = fault_status edition source source_after ends status healthy kept h rest.more rest.follows r following not_zero in
    let f = h.faulty one rest.more rest.follows r following in
    record {
      faulty = λ fault e.
          let both : Some f.fault ≡ Some fault = sym f.stop ∙ e in
          let same : f.fault ≡ fault = cc in
          subst (λ d. Says ends status input [] (line_of d) 1) same (unread_says ends status input (line_of f.fault) 1 told quiet f.line one);
      refused = λ clean x n load number. other_stop r.stop f.fault clean f.stop;
      runs = λ clean loads. other_stop r.stop f.fault clean f.stop;
    }
answers_of edition steps source source_after ends status (going.ran s) text input tells told healthy r g =
    let rest = rest_of source source_after s.taken text s.took tells in
    let runs = subst (λ t. (r : compiled.Compilation) (g : CompilesTo [] (tokens_from edition 1 t) r) → (source_after.failures ≡ source.failures) × (r.stop ≡ None) × RunsProgram steps g.definitions ends status) rest.whole (s.runs rest.more rest.follows) in
    let program = runs r g in
    program_answers r g.definitions input steps source source_after ends status told healthy program.1 program.2

pub headline : (edition : Edition) (steps : ℕ) (source source_after : Incoming) (ends : RunEnds) (status : ℕ) → GoesOff edition steps source source_after ends status → Headline edition steps source source_after ends status
headline edition steps source source_after ends status h text input tells told healthy =
    (each_source_comes [] edition 1 text, answers_of edition steps source source_after ends status h text input tells told healthy)
