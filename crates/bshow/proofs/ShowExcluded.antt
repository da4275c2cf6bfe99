-- What no page is.
use Rattle.std.proofs.Common.{◌≡◌, ◌∙◌, ◌⊎◌, ℕ, List, [], ◌++◌, Some, None, ap, append_assoc, arith, inl, inr, refl, subst}
use Rattle.bword.specs.declared.edition.Edition.{Edition}
use Rattle.bword.specs.ByteEnds.{Grew, Incoming, Writes, outgoing_of}
use Rattle.blang.specs.declared.code.Definition.{Definition}
use Rattle.blang.specs.declared.run.LoadFault.{LoadFault}
use Rattle.blang.specs.declared.run.Outcome.{Outcome}
use Rattle.blang.specs.declared.run.Outcome.TheVariants as outcome
use Rattle.blang.specs.declared.token.Diagnostic.{Diagnostic}
use Rattle.blang.specs.Compiles.{Compilation, CompilesTo}
use Rattle.blang.specs.Cut.{tokens_from}
use Rattle.blang.specs.Layout.{load_fault}
use Rattle.blang.specs.Machine.{image_of, machine}
use Rattle.blang.specs.Reports.{RunEnds}
use Rattle.bmach.specs.Readings.{LeftBySteps}
use Rattle.bmach.proofs.Readings.{left_by, run_left}
use Rattle.bmach.proofs.Running.{device_failed}
use Rattle.btools.specs.ProgramsExcluded.{Excluded, code_in}
use Rattle.btools.specs.Programs.{load_line, nothing_written}
use Rattle.btools.specs.FaultPlaces.{fault_lines}
use Rattle.btools.specs.Origins.{Source}
use Rattle.bmach.proofs.MachineExcluded.{not_grown}
use Rattle.btools.proofs.ProgramsExcluded.{device_grew, excluded, no_done, other_answer, was_told}
use Rattle.btools.proofs.Unasked.{program_left, untaken}
use Rattle.bwatch.specs.declared.trail.TraceRows.{TraceRows}
use Rattle.bwatch.specs.Sights.{Sights, sights_of}
use Rattle.bwatch.specs.Watches.{Watches}
use Rattle.bshow.specs.Facts.{no_run_text, program_text, sentence, unbegun_sentence}
use Rattle.bshow.specs.Rows.{LinedCode, lined_code}
use Rattle.bshow.specs.ShowExcluded.{NoPages}
use Rattle.bshow.specs.Shows as pages
use Rattle.bshow.specs.Shows.{Asked, IsPageOf, Shows, facts_text, head, last_facts, next_text, page_text, rows_text, run_page, said_text, tail}

-- the page of a run that was read without a failure
page_is : (code : LinedCode) (which : TraceRows) (last : List ℕ) (program page : List ℕ) (sights : Sights) (made : ℕ) (r : Outcome) → IsPageOf code which last program page sights made r → page ≡ run_page code which last program sights made r
page_is code which last program page sights made (outcome.Exit status) h = h
page_is code which last program page sights made (outcome.Trap kind) h = h
page_is code which last program page sights made outcome.Limit h = h
page_is code which last program page sights made outcome.Device h = absurd h
page_is code which last program page sights made outcome.Memory h = h

unfailed : (ds : List Definition) (n : ℕ) (i j : Incoming) (code : LinedCode) (which : TraceRows) (last : List ℕ) (program page : List ℕ) (made : ℕ) (r : Outcome) → Watches (image_of ds).functions (machine ds) n i j r made (IsPageOf code which last program page) → j.failures ≡ i.failures
unfailed ds n i j code which last program page made (outcome.Exit status) w = w.gives.no_failure
unfailed ds n i j code which last program page made (outcome.Trap kind) w = w.gives.no_failure
unfailed ds n i j code which last program page made outcome.Limit w = w.gives.no_failure
unfailed ds n i j code which last program page made outcome.Device w = absurd (w.told [] (λ e. refl))
unfailed ds n i j code which last program page made outcome.Memory w = absurd (w.ends [] (λ e. refl))

module _ (edition : Edition) (source : List ℕ) (r : Compilation) (g : CompilesTo [] (tokens_from edition 1 source) r) (asked : Asked) (ends : RunEnds) where
  abbrev code : List Definition
  code = code_in edition source r g

  told : Excluded edition source r g (fault_lines asked.files) ends.line ends.line_after
  told = excluded edition source r g (fault_lines asked.files) ends.line ends.line_after

  abbrev wrote : (page : List ℕ) → pages.IsWritten page ends 0 → Writes ends.out page ends.out_after
  wrote page w = was_told page 0 ends.out ends.out_after (λ e. omega (arith, e)) (λ e. omega (arith, e)) w

  done : Shows (Source edition) source asked ends 0
      → (r.stop ≡ None) × (load_fault code ≡ None) × ((rows sentence program facts : List ℕ) × Writes ends.out (page_text rows sentence program facts) ends.out_after)
  done (pages.shown ds image frames lines result made again page is lined known still back p w) =
      let t = told.program ds image is in
      let sights = sights_of (image_of ds).functions (machine ds) (p.taken ++ []) in
      let code = lined_code ds lines in
      let program = program_text asked.files source asked.given ds frames in
      let rows = rows_text code asked.which sights made ++ next_text code sights made result in
      let facts = facts_text code sights made result in
      let last = last_facts code asked.finding again in
      let whole = page_is code asked.which last program page sights made result (p.told [] (λ e. refl))
      ∙ ap (λ x. x ++ tail) (append_assoc (head ++ rows ++ said_text (sentence result made) program) facts last) in
      (t.0, t.2, (rows, sentence result made, program, facts ++ last, subst (λ (x : List ℕ). Writes ends.out x ends.out_after) whole (wrote page w)))
  done (pages.not_begun ds image frames kind is suits known still never w same) =
      let t = told.program ds image is in
      (t.0, t.2, ([], unbegun_sentence kind, program_text asked.files source asked.given ds frames, no_run_text, wrote _ w))
  done (pages.unread ds image output is suits still gives silent status) = absurd (omega (arith, status))
  done (pages.stopped why quiet) = absurd (no_done 0 refl (told.status 0 why))
  done (pages.no_memory ds image is suits still silent same status) = absurd (omega (arith, status))

  unread : (status : ℕ) → Shows (Source edition) source asked ends status → (ends.input_after.failures ≡ ends.input.failures → ⊥) → (status ≡ 133) × (ends.out_after ≡ ends.out)
  unread status (pages.shown ds image frames lines result made again page is lined known still back p w) failed =
      absurd (failed (unfailed ds asked.steps ends.input ends.input_after (lined_code ds lines) asked.which (last_facts (lined_code ds lines) asked.finding again) (program_text asked.files source asked.given ds frames) page made result p))
  unread status (pages.not_begun ds image frames kind is suits known still never w same) failed = absurd (failed (ap (λ (x : Incoming). x.failures) same))
  unread status (pages.unread ds image output is suits still gives silent at) failed = (at, silent)
  unread status (pages.stopped why quiet) failed = absurd (failed (ap (λ (x : Incoming). x.failures) quiet.unread))
  unread status (pages.no_memory ds image is suits still silent read at) failed = absurd (failed read.no_failure)

  device : Shows (Source edition) source asked ends 133 → Grew ends.input.failures ends.input_after.failures ⊎ Grew ends.out.failures ends.out_after.failures ⊎ Grew ends.line.failures ends.line_after.failures
  device (pages.shown ds image frames lines result made again page is lined known still back p w) = inr (inl (device_grew page 0 ends.out ends.out_after (λ e. omega (arith, e)) w))
  device (pages.not_begun ds image frames kind is suits known still never w same) = inr (inl (device_grew _ 0 ends.out ends.out_after (λ e. omega (arith, e)) w))
  device (pages.unread ds image output is suits still gives silent at) =
      elim (device_failed (machine ds) asked.steps ends.input ends.input_after nothing_written (outgoing_of output) gives) [ inl read ↦ inl read | inr written ↦ absurd (not_grown 0 0 refl refl written) ]
  device (pages.stopped why quiet) = inr (inr (told.device why))
  device (pages.no_memory ds image is suits still silent same at) = absurd (omega (arith, at))

  fault : Shows (Source edition) source asked ends 1
      → ((d : Diagnostic) × (r.stop ≡ Some d) × Writes ends.line (fault_lines asked.files d) ends.line_after) × (ends.out_after ≡ ends.out) × (ends.input_after ≡ ends.input)
  fault (pages.shown ds image frames lines result made again page is lined known still back p w) = absurd (other_answer page 0 ends.out ends.out_after 1 (λ e. omega (arith, e)) (λ e. omega (arith, e)) (λ e. omega (arith, e)) w)
  fault (pages.not_begun ds image frames kind is suits known still never w same) = absurd (other_answer _ 0 ends.out ends.out_after 1 (λ e. omega (arith, e)) (λ e. omega (arith, e)) (λ e. omega (arith, e)) w)
  fault (pages.unread ds image output is suits still gives silent at) = absurd (omega (arith, at))
  fault (pages.stopped why quiet) = (told.fault why, quiet.silent, quiet.unread)
  fault (pages.no_memory ds image is suits still silent same at) = absurd (omega (arith, at))

  unloaded : Shows (Source edition) source asked ends 132
      → ((f : LoadFault) × (text : List ℕ) × (load_fault code ≡ Some f) × (load_line f ≡ Some text) × Writes ends.line text ends.line_after) × (ends.out_after ≡ ends.out) × (ends.input_after ≡ ends.input)
  unloaded (pages.shown ds image frames lines result made again page is lined known still back p w) = absurd (other_answer page 0 ends.out ends.out_after 132 (λ e. omega (arith, e)) (λ e. omega (arith, e)) (λ e. omega (arith, e)) w)
  unloaded (pages.not_begun ds image frames kind is suits known still never w same) = absurd (other_answer _ 0 ends.out ends.out_after 132 (λ e. omega (arith, e)) (λ e. omega (arith, e)) (λ e. omega (arith, e)) w)
  unloaded (pages.unread ds image output is suits still gives silent at) = absurd (omega (arith, at))
  unloaded (pages.stopped why quiet) = (told.unloaded why, quiet.silent, quiet.unread)
  unloaded (pages.no_memory ds image is suits still silent same at) = absurd (omega (arith, at))

  unasked : (status : ℕ) → Shows (Source edition) source asked ends status → LeftBySteps (machine code) asked.steps ends.input ends.input_after
  unasked status (pages.shown ds image frames lines result made again page is lined known still back p w) =
      program_left edition source r g asked.steps ends.input ends.input_after ds image is
      (run_left (machine ds) asked.steps ends.input ends.input_after nothing_written (outgoing_of p.output) result p.gives)
  unasked status (pages.not_begun ds image frames kind is suits known still never w same) = untaken edition source r g asked.steps ends.input ends.input_after same
  unasked status (pages.unread ds image output is suits still gives silent at) =
      program_left edition source r g asked.steps ends.input ends.input_after ds image is
      (run_left (machine ds) asked.steps ends.input ends.input_after nothing_written (outgoing_of output) outcome.Device gives)
  unasked status (pages.stopped why quiet) = untaken edition source r g asked.steps ends.input ends.input_after quiet.unread
  unasked status (pages.no_memory ds image is suits still silent read at) =
      program_left edition source r g asked.steps ends.input ends.input_after ds image is
      (left_by (machine ds) asked.steps ends.input ends.input_after read)

pub no_pages : NoPages
no_pages edition source r g asked ends = record {
  done = done edition source r g asked ends;
  unread = unread edition source r g asked ends;
  device = device edition source r g asked ends;
  fault = fault edition source r g asked ends;
  unloaded = unloaded edition source r g asked ends;
  unasked = unasked edition source r g asked ends;
}
