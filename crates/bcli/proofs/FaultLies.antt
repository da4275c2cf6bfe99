-- What is told of a source with a fault by the commands that tell of a run.
use Rattle.std.proofs.Common.{◌≡◌, ◌∙◌, ◌++◌, ℕ, List, [], true, Option, Some, None, arith, inl, inr, refl, subst, sym}
use Rattle.bword.specs.ByteEnds.{Outgoing, Writes}
use Rattle.bword.specs.declared.ends.EndFault.{EndFault}
use Rattle.bword.specs.declared.ends.EndFault.TheVariants as end_fault
use Rattle.bword.proofs.Putting.{Writes-append}
use Rattle.blang.specs.Compiles.{status_of}
use Rattle.btools.specs.declared.program.ProgramFault.{ProgramFault}
use Rattle.btools.specs.declared.program.ProgramFault.TheVariants as why
use Rattle.bcli.specs.Explains as explains
use Rattle.bcli.specs.Explains.{Explains, LocatesAndExplains, fault_explained}
use Rattle.bword.specs.declared.edition.Edition.{Edition}
use Rattle.blang.specs.declared.code.Definition.{Definition}
use Rattle.blang.specs.declared.token.Diagnostic.{Diagnostic}
use Rattle.blang.specs.Machine.{Image}
use Rattle.blang.specs.Reports.{RunEnds}
use Rattle.bgrammar.proofs.GoesLaws.{each_source_comes}
use Rattle.btools.specs.FaultPlaces.{fault_lines}
use Rattle.btools.specs.Programs.{HasFault, HasNoProgram, HasProgram, NoProgram}
use Rattle.btools.proofs.ProgramsExcluded as programs
use Rattle.btools.proofs.ProgramsExcluded.{other_answer}
use Rattle.bcount.specs.Counts as counts
use Rattle.bcount.specs.Counts.{Counts}
use Rattle.bcount.specs.Counts.{Asked as Counting}
use Rattle.bcareful.specs.Runs as carefuls
use Rattle.bcareful.specs.Runs.{CarefulAsked, Runs}
use Rattle.bcareful.specs.declared.care.Care.{Care}
use Rattle.bcommand.specs.declared.job.Care as asking
use Rattle.bshow.specs.CarefulPages as first
use Rattle.bshow.specs.CarefulPages.{ShowsCarefully}
use Rattle.bshow.specs.Shows as pages
use Rattle.bshow.specs.Shows.{Asked, Shows}
use Rattle.btrace.specs.Locates as locates
use Rattle.btrace.specs.Locates.{Locates}
use Rattle.btrace.specs.Traces as traces
use Rattle.btrace.specs.Traces.{Traces}
use Rattle.bwatch.specs.declared.trail.TraceRows.{TraceRows}
use Rattle.bcommand.specs.CommandLine.{Question, check, count, draw, fix, format, from_code, from_made, from_source}
use Rattle.bcommand.specs.CommandLine.{go_careful, list, locate, map, show, tell_names, trace, try_out, port}
use Rattle.btools.specs.Origins.{NoProgramOf, Origin, ProgramOf, Source}
use Rattle.bsources.specs.Files.{Files}
use Rattle.bcli.specs.ShellExcluded.{tells_run}
use Rattle.bcli.specs.Serves.{Answers, ShowsBy, care_taken}
use Rattle.bcore.specs.Shelves.{Holdings}

module _ (edition : Edition) (text : List ℕ) (d : Diagnostic) (faulty : HasFault edition text d) where
  no_program : (ds : List Definition) (image : Image) → HasProgram edition text ds image → ⊥
  no_program ds image has =
      let some = each_source_comes [] edition 1 text in
      let no : None ≡ Some d = sym (has.code some.0 some.1).0 ∙ faulty some.0 some.1 in
      cc

  why_told : (files : Files) (line after : Outgoing) → NoProgram edition text (fault_lines files) line after 1 → Writes line (fault_lines files d) after
  why_told files line after why =
      let some = each_source_comes [] edition 1 text in
      let told = (programs.excluded edition text some.0 some.1 (fault_lines files) line after).fault why in
      let same : told.0 ≡ d = the_same (sym told.1 ∙ faulty some.0 some.1) in
      subst (λ (x : Diagnostic). Writes line (fault_lines files x) after) same told.2
    where
      the_same : {a b : Diagnostic} → Some a ≡ Some b → a ≡ b
      the_same e = cc

  by_trace : (files : Files) (steps : ℕ) (shown : TraceRows) (name : Option (List ℕ)) (ends : RunEnds) → Traces (Source edition) text steps shown files name ends 1 → Writes ends.line (fault_lines files d) ends.line_after
  by_trace files steps shown name ends (traces.traced ds image lines frames which result made again t told has lined known named back watched reported tells) = absurd (no_program ds image has)
  by_trace files steps shown name ends (traces.not_begun ds image which result has suits named never finishes quiet) = absurd (no_program ds image has)
  by_trace files steps shown name ends (traces.unnamed ds image has suits unknown reported quiet) = absurd (no_program ds image has)
  by_trace files steps shown name ends (traces.stopped why quiet) = why_told files ends.line ends.line_after why
  by_trace files steps shown name ends (traces.no_memory ds image has suits still same read e) = absurd (no_program ds image has)

  by_place : (files : Files) (steps : ℕ) (ends : RunEnds) → Locates (Source edition) text files steps ends 1 → Writes ends.line (fault_lines files d) ends.line_after
  by_place files steps ends (locates.located told ds image frames lines result answer active made again has named lined gives finishes at over comes tells) = absurd (no_program ds image has)
  by_place files steps ends (locates.unlocated ds image result has suits gives finishes none) = absurd (no_program ds image has)
  by_place files steps ends (locates.not_begun ds image result has suits never finishes quiet) = absurd (no_program ds image has)
  by_place files steps ends (locates.stopped why quiet) = why_told files ends.line ends.line_after why

  -- the only fault of the source is told, and then explained
  the_fault : (fault : ProgramFault) → HasNoProgram edition text fault → (fault ≡ why.Memory → ⊥) → fault_explained (Source edition) fault ≡ fault_explained (Source edition) (why.Faulty d)
  the_fault (why.Faulty other) has some =
      let g = each_source_comes [] edition 1 text in
      let same : Some other ≡ Some d = sym (has g.0 g.1) ∙ faulty g.0 g.1 in
      cc
  the_fault (why.Unloaded f) has some =
      let g = each_source_comes [] edition 1 text in
      let no : None ≡ Some d = sym (has.1 g.0 g.1).0 ∙ faulty g.0 g.1 in
      cc
  the_fault (why.Unread n) has some = absurd has
  the_fault (why.Unlined n w) has some = absurd has
  the_fault (why.Unnamed n w) has some = absurd has
  the_fault why.Memory has some = absurd (some refl)

  no_write_fault : (f : EndFault) → 1 ≡ status_of f → ⊥
  no_write_fault end_fault.Device e = omega (arith, e)
  no_write_fault end_fault.Memory e = omega (arith, e)

  then_explained : (files : Files) (steps : ℕ) (ends : RunEnds) (located : ℕ) (line : Outgoing) → Locates (Source edition) text files steps (record ends { line_after = line }) located → Explains (Source edition) text located line ends.line_after 1
      → Writes ends.line (fault_lines files d ++ fault_explained (Source edition) (why.Faulty d)) ends.line_after
  then_explained files steps ends located line locates (explains.tells fault has some which (inl written)) =
      let at : Locates (Source edition) text files steps (record ends { line_after = line }) 1 = subst (λ n. Locates (Source edition) text files steps (record ends { line_after = line }) n) (sym written.1) locates in
      Writes-append (by_place files steps (record ends { line_after = line }) at) (subst (λ t. Writes line t ends.line_after) (the_fault fault has some) written.0)
  then_explained files steps ends located line locates (explains.tells fault has some which (inr refused)) = absurd (no_write_fault refused.fault refused.status)
  then_explained files steps ends located line locates (explains.has_program ds image has suits same at) = absurd (no_program ds image has)
  then_explained files steps ends located line locates (explains.other_status no_fault loads same at) = absurd (no_fault (sym at))
  then_explained files steps ends located line locates (explains.no_memory same at) = absurd (omega (arith, at))

  by_count : (asked : Counting) → asked.origin ≡ Source edition → (ends : RunEnds) → Counts asked text ends 1 → Writes ends.line (fault_lines asked.files d) ends.line_after
  by_count asked same ends (counts.counted ds image result made tallies lines frames told has watched own known reported tells) = absurd (no_program ds image (subst (λ (o : Origin). ProgramOf o text ds image) same has))
  by_count asked same ends (counts.unread ds image output has suits still gives quiet answer) = absurd (omega (arith, answer))
  by_count asked same ends (counts.not_begun ds image result has suits never finishes quiet) = absurd (no_program ds image (subst (λ (o : Origin). ProgramOf o text ds image) same has))
  by_count asked same ends (counts.stopped why quiet) =
      why_told asked.files ends.line ends.line_after (subst (λ (o : Origin). NoProgramOf o text (fault_lines asked.files) ends.line ends.line_after 1) same why)
  by_count asked same ends (counts.no_memory ds image has suits still quiet read answer) = absurd (omega (arith, answer))

  by_page : (asked : Asked) (ends : RunEnds) → Shows (Source edition) text asked ends 1 → Writes ends.line (fault_lines asked.files d) ends.line_after
  by_page asked ends (pages.shown ds image frames lines result made again page has lined known still back watched w) = absurd (no_program ds image has)
  by_page asked ends (pages.not_begun ds image frames kind has suits known still never w same) = absurd (no_program ds image has)
  by_page asked ends (pages.unread ds image output has suits still gives silent at) = absurd (no_program ds image has)
  by_page asked ends (pages.stopped why quiet) = why_told asked.files ends.line ends.line_after why
  by_page asked ends (pages.no_memory ds image has suits still silent read at) = absurd (no_program ds image has)

  by_careful : (asked : CarefulAsked) → asked.origin ≡ Source edition → (ends : RunEnds) → Runs asked text ends 1 → Writes ends.line (fault_lines asked.files d) ends.line_after
  by_careful asked same ends (carefuls.found ds image frames lines found told has named lined stays at tells) = absurd (no_program ds image (subst (λ (o : Origin). ProgramOf o text ds image) same has))
  by_careful asked same ends (carefuls.unfound ds image frames lines stop again has named lined stays clean back tells) = absurd (no_program ds image (subst (λ (o : Origin). ProgramOf o text ds image) same has))
  by_careful asked same ends (carefuls.warned ds image frames lines stop again more told answer has named lined stays gives back tells reported) = absurd (no_program ds image (subst (λ (o : Origin). ProgramOf o text ds image) same has))
  by_careful asked same ends (carefuls.not_begun ds image result has suits never finishes quiet) = absurd (no_program ds image (subst (λ (o : Origin). ProgramOf o text ds image) same has))
  by_careful asked same ends (carefuls.stopped why quiet) = why_told asked.files ends.line ends.line_after (subst (λ (o : Origin). NoProgramOf o text (fault_lines asked.files) ends.line ends.line_after 1) same why)

  by_careful_page : (care : Care) (asked : Asked) (ends : RunEnds) → ShowsCarefully care (Source edition) text asked ends 1 → Writes ends.line (fault_lines asked.files d) ends.line_after
  by_careful_page care asked ends (first.shown ds image frames stop meaning taken left has suits named finds read ran took shows) = absurd (no_program ds image has)
  by_careful_page care asked ends (first.unkept ds image frames stop meaning has suits named finds nothing) = absurd (no_program ds image has)
  by_careful_page care asked ends (first.unread ds image frames stop meaning has suits named finds device nothing) = absurd (no_program ds image has)
  by_careful_page care asked ends (first.not_begun ds image result has suits never ran shows) = absurd (no_program ds image has)
  by_careful_page care asked ends (first.stopped why quiet) = why_told asked.files ends.line ends.line_after why
  by_careful_page care asked ends (first.no_memory ds image has suits read nothing) = absurd (no_program ds image has)

  by_any_page : (it : Option asking.Care) (asked : Asked) (ends : RunEnds) → ShowsBy it (Source edition) text asked ends 1 → Writes ends.line (fault_lines asked.files d) ends.line_after
  by_any_page None asked ends shows = by_page asked ends shows
  by_any_page (Some it) asked ends shows = by_careful_page (care_taken it) asked ends shows

pub fault_told : (shelf : Holdings) (edition : Edition) (files : Files) (text : List ℕ) (question : Question) (ends : RunEnds) (d : Diagnostic) → HasFault edition text d → tells_run question ≡ true
    → Answers shelf edition files text question ends 1 → Writes ends.line (fault_lines files d) ends.line_after
fault_told shelf edition files text (list origin name) ends d faulty tells answers = cc
fault_told shelf edition files text (map origin) ends d faulty tells answers = cc
fault_told shelf edition files text (draw origin steps) ends d faulty tells answers = cc
fault_told shelf edition files text (check for_editor) ends d faulty tells answers = cc
fault_told shelf edition files text fix ends d faulty tells answers = cc
fault_told shelf edition files text tell_names ends d faulty tells answers = cc
fault_told shelf edition files text (trace from_source steps shown function) ends d faulty tells answers = by_trace edition text d faulty files steps _ function ends answers
fault_told shelf edition files text (trace from_code steps shown function) ends d faulty tells answers = cc
fault_told shelf edition files text (trace (from_made made lined named) steps shown function) ends d faulty tells answers = cc
fault_told shelf edition files text (locate origin steps) ends d faulty tells answers = cc
fault_told shelf edition files text (go_careful from_source it steps) ends d faulty tells answers = by_careful edition text d faulty _ refl ends answers
fault_told shelf edition files text (go_careful from_code it steps) ends d faulty tells answers = cc
fault_told shelf edition files text (go_careful (from_made made lined named) it steps) ends d faulty tells answers = cc
fault_told shelf edition files text (try_out steps) ends d faulty tells answers = cc
fault_told shelf edition files text (count from_source steps for_editor) ends d faulty tells answers = by_count edition text d faulty _ refl ends answers
fault_told shelf edition files text (count from_code steps for_editor) ends d faulty tells answers = cc
fault_told shelf edition files text (count (from_made made lined named) steps for_editor) ends d faulty tells answers = cc
fault_told shelf edition files text (show from_source it steps shown None) ends d faulty tells answers = by_any_page edition text d faulty it _ ends answers
fault_told shelf edition files text (show from_source it steps shown (Some given)) ends d faulty tells answers = by_any_page edition text d faulty it _ _ answers.2
fault_told shelf edition files text (show from_code it steps shown input) ends d faulty tells answers = cc
fault_told shelf edition files text (show (from_made made lined named) it steps shown input) ends d faulty tells answers = cc
fault_told shelf edition files text (format is_check) ends d faulty tells answers = cc
fault_told shelf edition files text port ends d faulty tells answers = cc

pub fault_meant : (shelf : Holdings) (edition : Edition) (files : Files) (text : List ℕ) (steps : ℕ) (ends : RunEnds) (d : Diagnostic) → HasFault edition text d
    → Answers shelf edition files text (locate from_source steps) ends 1 → Writes ends.line (fault_lines files d ++ fault_explained (Source edition) (why.Faulty d)) ends.line_after
fault_meant shelf edition files text steps ends d faulty answers = then_explained edition text d faulty files steps ends answers.located answers.line answers.locates answers.explains
