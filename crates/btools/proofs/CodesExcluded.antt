-- What a code text decides of what is told of its program.
use Rattle.std.proofs.Common.{◌≡◌, ◌∙◌, ℕ, List, [], Option, Some, None, Result, Ok, Err, ap, arith, map, sym, subst, ◌⊎◌, inl, inr}
use Rattle.std.specs.Prelude.{MatchOption}
use Rattle.bword.specs.ByteEnds.{Outgoing, Writes}
use Rattle.bword.specs.declared.ends.EndFault.{EndFault}
use Rattle.bword.specs.declared.ends.EndFault.TheVariants as end_fault
use Rattle.bcode.specs.Faults.{IsFaultLine}
use Rattle.bcode.proofs.CodeExcluded.{same_line}
use Rattle.bcode.proofs.FaultLaws.{unique_code}
use Rattle.blang.specs.declared.code.Definition.{Definition}
use Rattle.blang.specs.declared.run.LoadFault.{LoadFault}
use Rattle.blang.specs.declared.run.Report.TheVariants as report
use Rattle.blang.specs.declared.token.Diagnostic.{Diagnostic}
use Rattle.blang.specs.Compiles.{status_of}
use Rattle.blang.specs.Layout.{load_fault}
use Rattle.blang.specs.Reports.{Reported, report_text}
use Rattle.blang.specs.Text.{IsCodeText}
use Rattle.bauthor.specs.declared.place_line.PlaceLine.{PlaceLine}
use Rattle.bauthor.specs.NameFiles.{names_read}
use Rattle.bauthor.specs.declared.fault.LineWanted.{LineWanted}
use Rattle.bauthor.specs.declared.fault.Wanted.{Wanted}
use Rattle.btools.specs.declared.names.Frame.{Frame}
use Rattle.btools.specs.declared.program.ProgramFault.{ProgramFault}
use Rattle.btools.specs.declared.program.ProgramFault.TheVariants as why
use Rattle.btools.specs.CodesExcluded.{ExcludedOfOther, ExcludedOfText, IsUnsuited, WrongCodes}
use Rattle.btools.specs.NamedFrames.{HasFrames, HasNamesIn, HasWrongName, frames_named, function_names, unnamed_line}
use Rattle.btools.specs.Origins.{HasNoCode}
use Rattle.btools.specs.PlaceLines.{CodeText, HasPlaceLines, HasWrongLine, lines_before, place_lines, places_read, unlined_line}
use Rattle.btools.specs.Programs.{TellsFault, load_line}
use Rattle.btools.proofs.ProgramsExcluded.{by_line, failed, other_answer, was_told}

abbrev read_as : {W L : Type 0} → List L → Result (List L) (ℕ × W)
read_as ls = Ok ls

ok_same : {W L : Type 0} (r : Result (List L) (ℕ × W)) (ls ms : List L) → r ≡ Ok ls → r ≡ Ok ms → ls ≡ ms
ok_same {W = W} r ls ms e f = let same : read_as {W = W} ls ≡ Ok ms = sym e ∙ f in cc

not_read : {W L : Type 0} (r : Result (List L) (ℕ × W)) (ls : List L) (n : ℕ) (w : W) → r ≡ Ok ls → r ≡ Err (n, w) → ⊥
not_read {W = W} r ls n w e f = let clash : read_as {W = W} ls ≡ Err (n, w) = sym e ∙ f in cc

-- what a file says of its lines
abbrev SaysLines : (source : Option (List ℕ)) → (file : List ℕ) → List Definition → List ℕ → Type 0
SaysLines source file ds ls =
    (places : List PlaceLine) × (places_read source file ds ≡ Ok places) × (ls ≡ map (λ p. p.line) places)

lined_so : (own : List ℕ) (o source : Option (List ℕ)) (ds : List Definition) (ls ms : List ℕ)
    → MatchOption o (ls ≡ own) (λ file. SaysLines source file ds ls)
    → MatchOption o (ms ≡ own) (λ file. SaysLines source file ds ms) → ls ≡ ms
lined_so own None source ds ls ms h k = h ∙ sym k
lined_so own (Some file) source ds ls ms h k =
    h.2 ∙ ap (map (λ (p : PlaceLine). p.line)) (ok_same (places_read source file ds) h.0 k.0 h.1 k.1) ∙ sym k.2

-- a file of names that is read has the names of one list of lines
same_read : (file : List ℕ) (ds : List Definition) (fs gs : List Frame) → HasNamesIn file ds fs → HasNamesIn file ds gs → map function_names fs ≡ map function_names gs
same_read file ds fs gs h k =
    h.2 ∙ ap (frames_named ds) (ok_same (names_read file ds) h.0 k.0 h.1 k.1) ∙ sym k.2

named_so : (o : Option (List ℕ)) (ds : List Definition) (fs gs : List Frame)
    → MatchOption o (fs ≡ []) (λ file. HasNamesIn file ds fs) → MatchOption o (gs ≡ []) (λ file. HasNamesIn file ds gs)
    → map function_names fs ≡ map function_names gs
named_so None ds fs gs h k = ap (map function_names) (h ∙ sym k)
named_so (Some file) ds fs gs h k = same_read file ds fs gs h k

-- it has no wrong line
no_wrong_name : (o : Option (List ℕ)) (ds : List Definition) (n : ℕ) (w : Wanted) (fs : List Frame)
    → MatchOption o ⊥ (λ file. names_read file ds ≡ Err (n, w))
    → MatchOption o (fs ≡ []) (λ file. HasNamesIn file ds fs) → ⊥
no_wrong_name None ds n w fs wrong names = wrong
no_wrong_name (Some file) ds n w fs wrong names = not_read (names_read file ds) names.0 n w names.1 wrong

no_wrong_line : (own : List ℕ) (o source : Option (List ℕ)) (ds : List Definition) (n : ℕ) (w : LineWanted)
    (ls : List ℕ) → MatchOption o ⊥ (λ file. places_read source file ds ≡ Err (n, w))
    → MatchOption o (ls ≡ own) (λ file. SaysLines source file ds ls) → ⊥
no_wrong_line own None source ds n w ls wrong lines = wrong
no_wrong_line own (Some file) source ds n w ls wrong lines =
    not_read (places_read source file ds) lines.0 n w lines.1 wrong

-- a status of a reason is that of its line, or that of a refused write
line_status : (text : List ℕ) (told : ℕ) (old new : Outgoing) (status : ℕ) → Reported text told old new status → (status ≡ told) ⊎ (status ≡ 133) ⊎ (status ≡ 134)
line_status text told old new status (inl t) = inl t.1
line_status text told old new status (inr x) = by_kind x.fault x.status
  where
    by_kind : (kind : EndFault) → status ≡ status_of kind → (status ≡ told) ⊎ (status ≡ 133) ⊎ (status ≡ 134)
    by_kind end_fault.Device s = inr (inl s)
    by_kind end_fault.Memory s = inr (inr s)

module _ (c : CodeText) (source : List ℕ) (lines : Diagnostic → List ℕ) (line line_after : Outgoing) where
  module _ (ds : List Definition) (is : IsCodeText c.code ds) where
    same : (es : List Definition) → IsCodeText c.code es → es ≡ ds
    same es text = unique_code c.code es ds text is

    loads_so : (es : List Definition) (f : LoadFault) → IsCodeText c.code es → load_fault es ≡ Some f → load_fault ds ≡ Some f
    loads_so es f text fault = subst (λ (x : List Definition). load_fault x ≡ Some f) (same es text) fault

    status : (f : ProgramFault) (s : ℕ) → HasNoCode c f → TellsFault lines f line line_after s → (s ≡ 132) ⊎ (s ≡ 135) ⊎ (s ≡ 133) ⊎ (s ≡ 134)
    status (why.Faulty d) s why_not told = absurd why_not
    status (why.Unread n) s why_not told = absurd (why_not.1 ds is)
    status (why.Unlined n w) s why_not told = inr (line_status (unlined_line n w) 135 line line_after s told)
    status (why.Unnamed n w) s why_not told = inr (line_status (unnamed_line n w) 135 line line_after s told)
    status (why.Unloaded f) s why_not told =
        elim (by_line lines line line_after f s told) [
          | inl t ↦ elim (line_status t.0 132 line line_after s t.2) [ inl a ↦ inl a | inr b ↦ inr (inr b) ]
          | inr m ↦ inr (inr (inr m))
        ]
    status why.Memory s why_not told = inr (inr (inr told.1))

    unloaded : (f : ProgramFault) → HasNoCode c f → TellsFault lines f line line_after 132 → (l : LoadFault) × (text : List ℕ) × (load_fault ds ≡ Some l) × (load_line l ≡ Some text) × Writes line text line_after
    unloaded (why.Faulty d) why_not told = absurd why_not
    unloaded (why.Unread n) why_not told = absurd (why_not.1 ds is)
    unloaded (why.Unlined n w) why_not told = absurd (other_answer (unlined_line n w) 135 line line_after 132 (λ e. omega (arith, e)) (λ e. omega (arith, e)) (λ e. omega (arith, e)) told)
    unloaded (why.Unnamed n w) why_not told = absurd (other_answer (unnamed_line n w) 135 line line_after 132 (λ e. omega (arith, e)) (λ e. omega (arith, e)) (λ e. omega (arith, e)) told)
    unloaded (why.Unloaded f) why_not told =
        elim (by_line lines line line_after f 132 told) [
          | inl t ↦ (
            f,
            t.0,
            loads_so why_not.0 f why_not.1 why_not.2,
            t.1,
            was_told t.0 132 line line_after (λ e. omega (arith, e)) (λ e. omega (arith, e)) t.2,
          )
          | inr m ↦ absurd (omega (arith, m))
        ]
    unloaded why.Memory why_not told = absurd (omega (arith, told.1))

    unsuited : (f : ProgramFault) → HasNoCode c f → TellsFault lines f line line_after 135 → IsUnsuited c ds line line_after
    unsuited (why.Faulty d) why_not told = absurd why_not
    unsuited (why.Unread n) why_not told = absurd (why_not.1 ds is)
    unsuited (why.Unlined n w) why_not told = inl (
      n,
      w,
      subst (λ (x : List Definition). HasWrongLine c x n w) (same why_not.0 why_not.1) why_not.2,
      was_told (unlined_line n w) 135 line line_after (λ e. omega (arith, e)) (λ e. omega (arith, e)) told,
    )
    unsuited (why.Unnamed n w) why_not told = inr (
      n,
      w,
      subst (λ (x : List Definition). HasWrongName c x n w) (same why_not.0 why_not.1) why_not.2,
      was_told (unnamed_line n w) 135 line line_after (λ e. omega (arith, e)) (λ e. omega (arith, e)) told,
    )
    unsuited (why.Unloaded f) why_not told =
        absurd (elim (by_line lines line line_after f 135 told) [ inl t ↦ other_answer t.0 132 line line_after 135 (λ e. omega (arith, e)) (λ e. omega (arith, e)) (λ e. omega (arith, e)) t.2 | inr m ↦ omega (arith, m) ])
    unsuited why.Memory why_not told = absurd (omega (arith, told.1))

    loads : (f : ProgramFault) (s : ℕ) → HasNoCode c f → TellsFault lines f line line_after s → load_fault ds ≡ None → (ls : List ℕ) → HasPlaceLines c ds ls → (fs : List Frame) → HasFrames c ds fs → s ≡ 134
    loads (why.Faulty d) s why_not told none ls has fs names = absurd why_not
    loads (why.Unread n) s why_not told none ls has fs names = absurd (why_not.1 ds is)
    loads (why.Unlined n w) s why_not told none ls has fs names =
        absurd (no_wrong_line (place_lines (lines_before c.code) ds) c.lines c.source ds n w ls
        (subst (λ (x : List Definition). HasWrongLine c x n w) (same why_not.0 why_not.1) why_not.2) has)
    loads (why.Unnamed n w) s why_not told none ls has fs names =
        absurd (no_wrong_name c.names ds n w fs (subst (λ (x : List Definition). HasWrongName c x n w) (same why_not.0 why_not.1) why_not.2) names)
    loads (why.Unloaded f) s why_not told none ls has fs names = let bad : None ≡ Some f = sym none ∙ loads_so why_not.0 f why_not.1 why_not.2 in cc
    loads why.Memory s why_not told none ls has fs names = told.1

    of_text : ExcludedOfText c source lines line line_after ds
    of_text = record {
      program = λ es image p. (same es p.text, subst (λ (x : List Definition). load_fault x ≡ None) (same es p.text) p.loads);
      lined = λ ls ms h k. lined_so (place_lines (lines_before c.code) ds) c.lines c.source ds ls ms (h ds is) (k ds is);
      named = λ fs gs h k. named_so c.names ds fs gs (h ds is) (k ds is);
      unread = λ n why_not. why_not.1 ds is;
      faulty = λ d why_not. why_not;
      status = λ s n. status n.0 s n.1 n.2;
      unloaded = λ n. unloaded n.0 n.1 n.2;
      unsuited = λ n. unsuited n.0 n.1 n.2;
      device = λ n. failed lines line line_after n.0 n.2;
      loads = λ s n none ls has fs names. loads n.0 s n.1 n.2 none ls has fs names;
    }

  module _ (n : ℕ) (first : IsFaultLine c.code n) (none : (ds : List Definition) → IsCodeText c.code ds → ⊥) where
    other_status : (f : ProgramFault) (s : ℕ) → HasNoCode c f → TellsFault lines f line line_after s → (s ≡ 132) ⊎ (s ≡ 133) ⊎ (s ≡ 134)
    other_status (why.Faulty d) s why_not told = absurd why_not
    other_status (why.Unread m) s why_not told = line_status (report_text (report.Code m)) 132 line line_after s told
    other_status (why.Unlined m w) s why_not told = absurd (none why_not.0 why_not.1)
    other_status (why.Unnamed m w) s why_not told = absurd (none why_not.0 why_not.1)
    other_status (why.Unloaded f) s why_not told = absurd (none why_not.0 why_not.1)
    other_status why.Memory s why_not told = inr (inr told.1)

    unread : (f : ProgramFault) → HasNoCode c f → TellsFault lines f line line_after 132 → Writes line (report_text (report.Code n)) line_after
    unread (why.Faulty d) why_not told = absurd why_not
    unread (why.Unread m) why_not told =
        subst (λ (k : ℕ). Writes line (report_text (report.Code k)) line_after) (same_line c.code m n why_not.0 first)
        (was_told (report_text (report.Code m)) 132 line line_after (λ e. omega (arith, e)) (λ e. omega (arith, e)) told)
    unread (why.Unlined m w) why_not told = absurd (none why_not.0 why_not.1)
    unread (why.Unnamed m w) why_not told = absurd (none why_not.0 why_not.1)
    unread (why.Unloaded f) why_not told = absurd (none why_not.0 why_not.1)
    unread why.Memory why_not told = absurd (omega (arith, told.1))

    of_other : ExcludedOfOther c source lines line line_after n
    of_other = record {
      program = λ ds image p. none ds p.text;
      status = λ s h. other_status h.0 s h.1 h.2;
      unread = λ h. unread h.0 h.1 h.2;
      device = λ h. failed lines line line_after h.0 h.2;
    }

pub codes_excluded : WrongCodes
codes_excluded = record {
  texts = λ c source lines line line_after ds is. of_text c source lines line line_after ds is;
  others = λ c source lines line line_after n first none. of_other c source lines line line_after n first none;
}
