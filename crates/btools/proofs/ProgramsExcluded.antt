-- What a source comes to decides what is told of its program.
use Rattle.std.proofs.Common.{◌≡◌, ℕ, List, [], Some, None, arith, refl, sym, subst, ◌∙◌, ◌⊎◌, inl, inr}
use Rattle.bword.specs.declared.edition.Edition.{Edition}
use Rattle.bword.specs.declared.ends.EndFault.{EndFault}
use Rattle.bword.specs.declared.ends.EndFault.TheVariants as end_fault
use Rattle.bword.specs.ByteEnds.{Grew, Outgoing, Refuses, Writes}
use Rattle.blang.specs.declared.code.Definition.{Definition}
use Rattle.blang.specs.declared.run.LoadFault.{LoadFault}
use Rattle.blang.specs.declared.run.LoadFault.TheVariants as load
use Rattle.blang.specs.declared.token.Diagnostic.{Diagnostic}
use Rattle.blang.specs.Compiles.{Compilation, CompilesTo, status_of}
use Rattle.blang.specs.Cut.{tokens_from}
use Rattle.blang.specs.Layout.{load_fault}
use Rattle.blang.specs.Machine.{Image}
use Rattle.blang.specs.Reports.{Reported, report_text}
use Rattle.blang.specs.declared.run.Report.TheVariants as report
use Rattle.btools.specs.NamedFrames.{unnamed_line}
use Rattle.btools.specs.PlaceLines.{unlined_line}
use Rattle.btools.specs.declared.program.ProgramFault.{ProgramFault}
use Rattle.btools.specs.declared.program.ProgramFault.TheVariants as why
use Rattle.btools.specs.Programs.{HasNoProgram, HasProgram, TellsFault, load_line}
use Rattle.btools.specs.ProgramsExcluded.{WrongPrograms, code_in}

-- a line with a status was told, and the answer is that of a failed device
pub device_grew : (text : List ℕ) (status : ℕ) (old new : Outgoing) → (status ≡ 133 → ⊥) → Reported text status old new 133 → Grew old.failures new.failures
device_grew text status old new other (inl told) = absurd (other (sym told.1))
device_grew text status old new other (inr r) = by_kind r.fault r.refuses r.status
  where
    by_kind : (fault : EndFault) → Refuses old text fault new → 133 ≡ status_of fault → Grew old.failures new.failures
    by_kind end_fault.Device h s = h.counted.0
    by_kind end_fault.Memory h s = absurd (omega (arith, s))

-- a line with a status was told, and this is the answer
pub was_told : (text : List ℕ) (status : ℕ) (old new : Outgoing) → (status ≡ 133 → ⊥) → (status ≡ 134 → ⊥) → Reported text status old new status → Writes old text new
was_told text status old new d m (inl told) = told.0
was_told text status old new d m (inr r) = absurd (by_kind r.fault r.status)
  where
    by_kind : (fault : EndFault) → status ≡ status_of fault → ⊥
    by_kind end_fault.Device s = d s
    by_kind end_fault.Memory s = m s

-- another answer than the line's is that of a refused write
pub other_answer : (text : List ℕ) (status : ℕ) (old new : Outgoing) (result : ℕ) → (result ≡ status → ⊥) → (result ≡ 133 → ⊥) → (result ≡ 134 → ⊥) → Reported text status old new result → ⊥
other_answer text status old new result s d m (inl told) = s told.1
other_answer text status old new result s d m (inr r) = by_kind r.fault r.status
  where
    by_kind : (fault : EndFault) → result ≡ status_of fault → ⊥
    by_kind end_fault.Device e = d e
    by_kind end_fault.Memory e = m e

-- 0 is no status of a source without a program
pub no_done : (s : ℕ) → s ≡ 0 → (s ≡ 1) ⊎ (s ≡ 132) ⊎ (s ≡ 133) ⊎ (s ≡ 134) → ⊥
no_done s is (inl a) = omega (arith, is, a)
no_done s is (inr (inl b)) = omega (arith, is, b)
no_done s is (inr (inr (inl c))) = omega (arith, is, c)
no_done s is (inr (inr (inr d))) = omega (arith, is, d)

-- what is told of a reason has its status, or that of a refused write
some_status : (text : List ℕ) (told : ℕ) (old new : Outgoing) (status : ℕ) → (told ≡ 1) ⊎ (told ≡ 132) → Reported text told old new status → (status ≡ 1) ⊎ (status ≡ 132) ⊎ (status ≡ 133) ⊎ (status ≡ 134)
some_status text told old new status (inl one) (inl t) = inl (t.1 ∙ one)
some_status text told old new status (inr other) (inl t) = inr (inl (t.1 ∙ other))
some_status text told old new status which (inr x) = by_kind x.fault x.status
  where
    by_kind : (kind : EndFault) → status ≡ status_of kind → (status ≡ 1) ⊎ (status ≡ 132) ⊎ (status ≡ 133) ⊎ (status ≡ 134)
    by_kind end_fault.Device s = inr (inr (inl s))
    by_kind end_fault.Memory s = inr (inr (inr s))

module _ (lines : Diagnostic → List ℕ) (line line_after : Outgoing) where
  -- what is told of code that doesn't load: a line, or nothing where memory was refused
  pub by_line : (f : LoadFault) (status : ℕ) → TellsFault lines (why.Unloaded f) line line_after status
      → ((text : List ℕ) × (load_line f ≡ Some text) × Reported text 132 line line_after status) ⊎ (status ≡ 134)
  by_line load.Memory status told = inr told.1
  by_line _ status told = inl (_, refl, told)

  told_status : (edition : Edition) (source : List ℕ) (fault : ProgramFault) (status : ℕ) → HasNoProgram edition source fault → TellsFault lines fault line line_after status → (status ≡ 1) ⊎ (status ≡ 132) ⊎ (status ≡ 133) ⊎ (status ≡ 134)
  told_status edition source (why.Faulty d) status is told = some_status (lines d) 1 line line_after status (inl refl) told
  told_status edition source (why.Unread n) status is told = absurd is
  told_status edition source (why.Unlined n w) status is told = absurd is
  told_status edition source (why.Unnamed n w) status is told = absurd is
  told_status edition source (why.Unloaded f) status is told =
      elim (by_line f status told) [ inl t ↦ some_status t.0 132 line line_after status (inr refl) t.2 | inr m ↦ inr (inr (inr m)) ]
  told_status edition source why.Memory status is told = inr (inr (inr told.1))

  pub failed : (fault : ProgramFault) → TellsFault lines fault line line_after 133 → Grew line.failures line_after.failures
  failed (why.Faulty d) told = device_grew (lines d) 1 line line_after (λ e. omega (arith, e)) told
  failed (why.Unread n) told = device_grew (report_text (report.Code n)) 132 line line_after (λ e. omega (arith, e)) told
  failed (why.Unlined n w) told = device_grew (unlined_line n w) 135 line line_after (λ e. omega (arith, e)) told
  failed (why.Unnamed n w) told = device_grew (unnamed_line n w) 135 line line_after (λ e. omega (arith, e)) told
  failed (why.Unloaded f) told =
      elim (by_line f 133 told) [ inl t ↦ device_grew t.0 132 line line_after (λ e. omega (arith, e)) t.2 | inr m ↦ absurd (omega (arith, m)) ]
  failed why.Memory told = absurd (omega (arith, told.1))

  module _ (edition : Edition) (source : List ℕ) (r : Compilation) (g : CompilesTo [] (tokens_from edition 1 source) r) where
    program : (ds : List Definition) (image : Image) → HasProgram edition source ds image → (r.stop ≡ None) × (ds ≡ code_in edition source r g) × (load_fault (code_in edition source r g) ≡ None)
    program ds image p =
        let is = p.code r g in
        (is.0, sym is.1, subst (λ (x : List Definition). load_fault x ≡ None) (sym is.1) p.loads)

    fault : (f : ProgramFault) → HasNoProgram edition source f → TellsFault lines f line line_after 1 → (d : Diagnostic) × (r.stop ≡ Some d) × Writes line (lines d) line_after
    fault (why.Faulty d) is told = (d, is r g, was_told (lines d) 1 line line_after (λ e. omega (arith, e)) (λ e. omega (arith, e)) told)
    fault (why.Unloaded f) is told =
        absurd (elim (by_line f 1 told) [ inl t ↦ other_answer t.0 132 line line_after 1 (λ e. omega (arith, e)) (λ e. omega (arith, e)) (λ e. omega (arith, e)) t.2 | inr m ↦ omega (arith, m) ])
    fault (why.Unread n) is told = absurd is
    fault (why.Unlined n w) is told = absurd is
    fault (why.Unnamed n w) is told = absurd is
    fault why.Memory is told = absurd (omega (arith, told.1))

    unloaded : (f : ProgramFault) → HasNoProgram edition source f → TellsFault lines f line line_after 132
        → (l : LoadFault) × (text : List ℕ) × (load_fault (code_in edition source r g) ≡ Some l) × (load_line l ≡ Some text) × Writes line text line_after
    unloaded (why.Faulty d) is told =
        absurd (other_answer (lines d) 1 line line_after 132 (λ e. omega (arith, e)) (λ e. omega (arith, e)) (λ e. omega (arith, e)) told)
    unloaded (why.Unloaded f) is told =
        elim (by_line f 132 told) [
          | inl t ↦ (
            f,
            t.0,
            subst (λ (x : List Definition). load_fault x ≡ Some f) (sym (is.1 r g).1) is.2,
            t.1,
            was_told t.0 132 line line_after (λ e. omega (arith, e)) (λ e. omega (arith, e)) t.2,
          )
          | inr m ↦ absurd (omega (arith, m))
        ]
    unloaded (why.Unread n) is told = absurd is
    unloaded (why.Unlined n w) is told = absurd is
    unloaded (why.Unnamed n w) is told = absurd is
    unloaded why.Memory is told = absurd (omega (arith, told.1))

    loads : (f : ProgramFault) (status : ℕ) → HasNoProgram edition source f → TellsFault lines f line line_after status → r.stop ≡ None → load_fault (code_in edition source r g) ≡ None → status ≡ 134
    loads (why.Faulty d) status is told clean none = let no : None ≡ Some d = sym clean ∙ is r g in cc
    loads (why.Unloaded f) status is told clean none =
        let no : None ≡ Some f = sym none ∙ subst (λ (x : List Definition). load_fault x ≡ Some f) (sym (is.1 r g).1) is.2 in
        cc
    loads (why.Unread n) status is told clean none = absurd is
    loads (why.Unlined n w) status is told clean none = absurd is
    loads (why.Unnamed n w) status is told clean none = absurd is
    loads why.Memory status is told clean none = told.1

pub excluded : WrongPrograms
excluded edition source r g lines line line_after = record {
  program = program lines line line_after edition source r g;
  faulty = λ d is. is r g;
  not_loaded = λ f is. ((is.1 r g).0, subst (λ (x : List Definition). load_fault x ≡ Some f) (sym (is.1 r g).1) is.2);
  status = λ status n. told_status lines line line_after edition source n.0 status n.1 n.2;
  fault = λ n. fault lines line line_after edition source r g n.0 n.1 n.2;
  unloaded = λ n. unloaded lines line line_after edition source r g n.0 n.1 n.2;
  device = λ n. failed lines line line_after n.0 n.2;
  loads = λ status n. loads lines line line_after edition source r g n.0 status n.1 n.2;
}
