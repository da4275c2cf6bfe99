-- What no page of a careful run is.
use Rattle.std.proofs.Common.{◌≡◌, ◌⊎◌, ℕ, List, [], Option, Some, None, arith, inl, inr, refl, sym, ⊎_elim, ◌∙◌}
use Rattle.bword.specs.declared.edition.Edition.{Edition}
use Rattle.bword.specs.ByteEnds.{Grew, Kept, Unread, Writes, outgoing_of}
use Rattle.blang.specs.declared.code.Definition.{Definition}
use Rattle.blang.specs.declared.run.LoadFault.{LoadFault}
use Rattle.blang.specs.declared.run.Outcome.{Outcome}
use Rattle.blang.specs.declared.run.Outcome.TheVariants as outcome
use Rattle.blang.specs.declared.token.Diagnostic.{Diagnostic}
use Rattle.blang.specs.Compiles.{Compilation, CompilesTo}
use Rattle.blang.specs.Cut.{tokens_from}
use Rattle.blang.specs.Layout.{load_fault}
use Rattle.blang.specs.Machine.{image_of, machine}
use Rattle.blang.specs.Reports.{ComesTo, RunEnds, RunGives}
use Rattle.bmach.proofs.MachineExcluded.{not_grown}
use Rattle.bmach.specs.declared.machine.Stop.{Stop}
use Rattle.btools.specs.ProgramsExcluded.{Excluded, code_in}
use Rattle.btools.specs.FaultPlaces.{fault_lines}
use Rattle.btools.specs.Origins.{Source}
use Rattle.btools.specs.Programs.{load_line, nothing_written}
use Rattle.btools.specs.declared.names.Frame.{Frame}
use Rattle.btools.proofs.ProgramsExcluded.{excluded, no_done}
use Rattle.bcareful.proofs.CareExcluded.{no_careful_runs}
use Rattle.bcareful.specs.First.{FindsFirst}
use Rattle.bcareful.specs.Runs.{careful_machine, finds_wraps}
use Rattle.bcareful.specs.Things.{atlas_in}
use Rattle.bcareful.specs.declared.care.Care.{Care}
use Rattle.bshow.specs.CarefulExcluded.{NoCarefulPages, WasMade}
use Rattle.bshow.specs.CarefulPages as pages
use Rattle.bshow.specs.CarefulPages.{ShowsCarefully, asked_up_to, ends_over}
use Rattle.bshow.specs.Shows.{Asked, Shows, page_text}
use Rattle.bshow.proofs.ShowExcluded.{no_pages}

module _ (edition : Edition) (source : List ℕ) (r : Compilation) (g : CompilesTo [] (tokens_from edition 1 source) r) (care : Care) (asked : Asked) (ends : RunEnds) where
  told : Excluded edition source r g (fault_lines asked.files) ends.line ends.line_after
  told = excluded edition source r g (fault_lines asked.files) ends.line ends.line_after

  done : ShowsCarefully care (Source edition) source asked ends 0
      → (r.stop ≡ None) × (load_fault (code_in edition source r g) ≡ None) × ((rows sentence program facts : List ℕ) × Writes ends.out (page_text rows sentence program facts) ends.out_after)
  done (pages.shown ds image frames stop meaning taken left has suits named finds read ran took shows) =
      (no_pages edition source r g (asked_up_to asked stop meaning) (ends_over taken left ends)).done shows
  done (pages.unkept ds image frames stop meaning has suits named finds nothing) = absurd (omega (arith, nothing.status_is))
  done (pages.unread ds image frames stop meaning has suits named finds device nothing) = absurd (omega (arith, nothing.status_is))
  done (pages.not_begun ds image result has suits never ran shows) = (no_pages edition source r g asked ends).done shows
  done (pages.stopped why quiet) = absurd (no_done 0 refl (told.status 0 why))
  done (pages.no_memory ds image has suits read nothing) = absurd (omega (arith, nothing.status_is))

  -- whether or not something was found
  fault_shown : (stop : Stop) (meaning : Option (List ℕ)) (taken : List ℕ) (left : Unread) → Shows (Source edition) source (asked_up_to asked stop meaning) (ends_over taken left ends) 1
      → ((d : Diagnostic) × (r.stop ≡ Some d) × Writes ends.line (fault_lines asked.files d) ends.line_after) × (ends.out_after ≡ ends.out)
  fault_shown stop None taken left shows =
      let it = (no_pages edition source r g asked (ends_over taken left ends)).fault shows in (it.0, it.1)
  fault_shown stop (Some meaning) taken left shows =
      let it = (no_pages edition source r g (asked_up_to asked stop (Some meaning)) (ends_over taken left ends)).fault shows in (it.0, it.1)

  fault : ShowsCarefully care (Source edition) source asked ends 1
      → ((d : Diagnostic) × (r.stop ≡ Some d) × Writes ends.line (fault_lines asked.files d) ends.line_after) × (ends.out_after ≡ ends.out)
  fault (pages.shown ds image frames stop meaning taken left has suits named finds read ran took shows) = fault_shown stop meaning taken left shows
  fault (pages.unkept ds image frames stop meaning has suits named finds nothing) = absurd (omega (arith, nothing.status_is))
  fault (pages.unread ds image frames stop meaning has suits named finds device nothing) = absurd (omega (arith, nothing.status_is))
  fault (pages.not_begun ds image result has suits never ran shows) =
      let it = (no_pages edition source r g asked ends).fault shows in (it.0, it.1)
  fault (pages.stopped why quiet) = (told.fault why, quiet.silent)
  fault (pages.no_memory ds image has suits read nothing) = absurd (omega (arith, nothing.status_is))

  -- what a silent run came to that was not broken off
  come_to : (ds : List Definition) (frames : List Frame) (stop : Stop) (meaning : Option (List ℕ))
      → (stop.outcome ≡ outcome.Device → ⊥) → (stop.outcome ≡ outcome.Memory → ⊥)
      → FindsFirst (atlas_in ds frames (finds_wraps care)) (image_of ds).functions (machine ds) asked.steps ends.input ends.input_after stop meaning
      → (result : Outcome) × (output : Kept) × ComesTo (careful_machine ds frames (finds_wraps care)) asked.steps ends.input ends.input_after nothing_written (outgoing_of output) result
  come_to ds frames stop (Some text) read ran finds = (outcome.Limit, finds.output, finds.gives)
  come_to ds frames stop None read ran finds = (stop.outcome, finds.0, whole stop.outcome read ran finds.1.gives)
    where
      whole : (result : Outcome) → (result ≡ outcome.Device → ⊥) → (result ≡ outcome.Memory → ⊥)
          → RunGives (careful_machine ds frames (finds_wraps care)) asked.steps ends.input ends.input_after nothing_written (outgoing_of finds.0) result
          → ComesTo (careful_machine ds frames (finds_wraps care)) asked.steps ends.input ends.input_after nothing_written (outgoing_of finds.0) result
      whole (outcome.Exit status) read ran gives = gives
      whole (outcome.Trap kind) read ran gives = gives
      whole outcome.Limit read ran gives = gives
      whole outcome.Device read ran gives = absurd (read refl)
      whole outcome.Memory read ran gives = absurd (ran refl)

  broken : ShowsCarefully care (Source edition) source asked ends 0 → WasMade edition source care asked.steps ends
  broken (pages.shown ds image frames stop meaning taken left has suits named finds read ran took shows) =
      let came = come_to ds frames stop meaning read ran finds in
      record { ds = ds; image = image; program = has; frames = frames; result = came.0; output = came.1; came = inr (named, came.2) }
  broken (pages.unkept ds image frames stop meaning has suits named finds nothing) = absurd (omega (arith, nothing.status_is))
  broken (pages.unread ds image frames stop meaning has suits named finds device nothing) = absurd (omega (arith, nothing.status_is))
  broken (pages.not_begun ds image result has suits never ran shows) =
      record { ds = ds; image = image; program = has; frames = []; result = result; output = record { bytes = []; refusals = 0 }; came = inl never }
  broken (pages.stopped why quiet) = absurd (no_done 0 refl (told.status 0 why))
  broken (pages.no_memory ds image has suits read nothing) = absurd (omega (arith, nothing.status_is))

  -- a failed read, write or line
  abbrev Failed : Type 0
  Failed = Grew ends.input.failures ends.input_after.failures ⊎ Grew ends.out.failures ends.out_after.failures ⊎ Grew ends.line.failures ends.line_after.failures

  device : ShowsCarefully care (Source edition) source asked ends 133 → Failed
  device (pages.shown ds image frames stop meaning taken left has suits named finds read ran took shows) =
      ⊎_elim (λ read. absurd (not_grown 0 0 refl refl read)) (λ others. inr others) ((no_pages edition source r g (asked_up_to asked stop meaning) (ends_over taken left ends)).device shows)
  device (pages.unkept ds image frames stop meaning has suits named finds nothing) = absurd (omega (arith, nothing.status_is))
  device (pages.unread ds image frames stop None has suits named finds failed nothing) =
      inl ((no_careful_runs.1 ds image asked.steps ends.input ends.input_after).device (atlas_in ds frames (finds_wraps care)) stop failed finds)
  device (pages.unread ds image frames stop (Some text) has suits named finds failed nothing) = absurd (limit (sym finds.limit ∙ failed))
    where
      limit : outcome.Limit ≡ outcome.Device → ⊥
      limit e = cc
  device (pages.not_begun ds image result has suits never ran shows) = (no_pages edition source r g asked ends).device shows
  device (pages.stopped why quiet) = inr (inr (told.device why))
  device (pages.no_memory ds image has suits read nothing) = absurd (omega (arith, nothing.status_is))

  abbrev Unloaded : Type 0
  Unloaded = ((f : LoadFault) × (text : List ℕ) × (load_fault (code_in edition source r g) ≡ Some f) × (load_line f ≡ Some text) × Writes ends.line text ends.line_after) × (ends.out_after ≡ ends.out)

  unloaded : ShowsCarefully care (Source edition) source asked ends 132 → Unloaded
  unloaded (pages.shown ds image frames stop meaning taken left has suits named finds read ran took shows) =
      let it = (no_pages edition source r g (asked_up_to asked stop meaning) (ends_over taken left ends)).unloaded shows in (it.0, it.1)
  unloaded (pages.unkept ds image frames stop meaning has suits named finds nothing) = absurd (omega (arith, nothing.status_is))
  unloaded (pages.unread ds image frames stop meaning has suits named finds device nothing) = absurd (omega (arith, nothing.status_is))
  unloaded (pages.not_begun ds image result has suits never ran shows) =
      let it = (no_pages edition source r g asked ends).unloaded shows in (it.0, it.1)
  unloaded (pages.stopped why quiet) = (told.unloaded why, quiet.silent)
  unloaded (pages.no_memory ds image has suits read nothing) = absurd (omega (arith, nothing.status_is))

pub no_careful_pages : NoCarefulPages
no_careful_pages edition source r g care asked ends = record {
  done = done edition source r g care asked ends;
  broken = broken edition source r g care asked ends;
  device = device edition source r g care asked ends;
  fault = fault edition source r g care asked ends;
  unloaded = unloaded edition source r g care asked ends;
}
