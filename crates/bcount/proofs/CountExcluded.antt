-- What no counts are.
use Rattle.std.proofs.Common.{◌≡◌, ◌∙◌, ℕ, zero, suc, List, [], ◌∷◌, ◌++◌, ap, arith, map, refl}
use Rattle.bword.specs.declared.edition.Edition.{Edition}
use Rattle.bword.specs.ByteEnds.{Incoming, outgoing_of}
use Rattle.blang.specs.declared.code.Definition.{Definition}
use Rattle.blang.specs.declared.run.Outcome.{Outcome}
use Rattle.blang.specs.declared.run.Outcome.TheVariants as outcome
use Rattle.blang.specs.declared.status.TheConstants.{DEVICE}
use Rattle.blang.specs.Compiles.{Compilation, CompilesTo}
use Rattle.blang.specs.Cut.{tokens_from}
use Rattle.blang.specs.Reports.{HasNotRun, RunEnds}
use Rattle.blang.specs.Machine.{image_of, machine}
use Rattle.blang.specs.Text.{IsCodeText}
use Rattle.bmach.specs.Readings.{LeftBySteps}
use Rattle.bmach.proofs.Readings.{left_by, run_left}
use Rattle.btools.specs.Functions.{Placed, functions_of}
use Rattle.btools.specs.FaultPlaces.{fault_lines}
use Rattle.btools.specs.Origins.{Code, IsSuited, NoProgramOf, Source}
use Rattle.btools.specs.PlaceLines.{CodeText}
use Rattle.btools.specs.ProgramsExcluded.{code_in}
use Rattle.btools.specs.Programs.{nothing_written}
use Rattle.btools.proofs.Unasked.{left_by_code, program_left, untaken, untaken_by_code}
use Rattle.bwatch.specs.Sights.{Sights, sights_of}
use Rattle.bwatch.specs.Watches.{Watches}
use Rattle.bcount.specs.Counts as count
use Rattle.bcount.specs.Counts.{AreCounts, Asked, Counts}
use Rattle.bcount.specs.CountExcluded.{CountsExcluded, CountsOnly, nothing}
use Rattle.bcount.specs.Tallies.{counts_of}

-- the sights of its run
abbrev seen : (input : List ℕ) → Sights
seen input = sights_of (image_of nothing).functions (machine nothing) input

at_limit : (steps : ℕ) (tallies : List (List ℕ)) → ((input : List ℕ) → map (counts_of (seen input) steps) (functions_of nothing) ≡ tallies) → CountsOnly steps outcome.Limit tallies
at_limit steps tallies is i j made other h =
    h.told [] (λ e. refl) ∙ ap (λ n. map (counts_of (seen (h.taken ++ [])) n) (functions_of nothing)) (h.ends [] (λ e. refl)).0 ∙ is (h.taken ++ [])

at_end : (made : ℕ) (i j : Incoming) (other : List (List ℕ)) → Watches (image_of nothing).functions (machine nothing) 2 i j (outcome.Exit 0) made (AreCounts (functions_of nothing) other) → other ≡ (1 ∷ 1 ∷ []) ∷ []
at_end zero i j other h = let e = (h.ends [] (λ e. refl)).1 in absurd (omega (arith, e))
at_end (suc zero) i j other h = let e = (h.ends [] (λ e. refl)).3 in cc
at_end (suc (suc zero)) i j other h = h.told [] (λ e. refl)
at_end (suc (suc (suc made))) i j other h = let le = h.within in absurd (omega (arith, le))

-- a run that has counts read without a failure
reads_whole : (fs : List Placed) (ds : List Definition) (n : ℕ) (i j : Incoming) (made : ℕ) (tallies : List (List ℕ)) → (j.failures ≡ i.failures → ⊥) → (result : Outcome) → Watches (image_of ds).functions (machine ds) n i j result made (AreCounts fs tallies) → ⊥
reads_whole fs ds n i j made tallies failed (outcome.Exit status) h = failed h.gives.no_failure
reads_whole fs ds n i j made tallies failed (outcome.Trap kind) h = failed h.gives.no_failure
reads_whole fs ds n i j made tallies failed outcome.Limit h = failed h.gives.no_failure
reads_whole fs ds n i j made tallies failed outcome.Device h = h.told [] (λ e. refl)
reads_whole fs ds n i j made tallies failed outcome.Memory h = h.ends [] (λ e. refl)

read_lost : (asked : Asked) (source : List ℕ) (ends : RunEnds) (status : ℕ) → (ends.input_after.failures ≡ ends.input.failures → ⊥) → Counts asked source ends status → (status ≡ DEVICE) × (ends.out_after ≡ ends.out)
read_lost asked source ends status failed (count.counted ds image result made tallies lines frames told program counts own known reported tells) =
    absurd (reads_whole (functions_of ds) ds asked.steps ends.input ends.input_after made tallies failed result counts)
read_lost asked source ends status failed (count.unread ds image output program suits still gives same answer) = (answer, same)
read_lost asked source ends status failed (count.not_begun ds image result program suits never told quiet) = absurd (failed (ap (λ (i : Incoming). i.failures) quiet.unread))
read_lost asked source ends status failed (count.stopped none quiet) = absurd (failed (ap (λ (i : Incoming). i.failures) quiet.unread))
read_lost asked source ends status failed (count.no_memory ds image program suits still same read answer) = absurd (failed read.no_failure)

-- a file that doesn't suit the code is told
unsuited : (asked : Asked) (source : List ℕ) → (IsSuited asked.origin source → ⊥) → (ends : RunEnds) (status : ℕ) → Counts asked source ends status
    → NoProgramOf asked.origin source (fault_lines asked.files) ends.line ends.line_after status × HasNotRun ends
unsuited asked source without ends status (count.counted ds image result made tallies lines frames told program counts own known reported tells) = absurd (without ((lines, own), (frames, known)))
unsuited asked source without ends status (count.unread ds image output program suits still gives same answer) = absurd (without suits)
unsuited asked source without ends status (count.not_begun ds image result program suits never told quiet) = absurd (without suits)
unsuited asked source without ends status (count.stopped none quiet) = (none, quiet)
unsuited asked source without ends status (count.no_memory ds image program suits still same read answer) = absurd (without suits)

module _ (edition : Edition) (source : List ℕ) (r : Compilation) (g : CompilesTo [] (tokens_from edition 1 source) r) (asked : Asked) (ends : RunEnds) (status : ℕ) where
  -- what was read of the input was asked for
  was_asked : Counts (record asked { origin = Source edition }) source ends status → LeftBySteps (machine (code_in edition source r g)) asked.steps ends.input ends.input_after
  was_asked (count.counted ds image result made tallies lines frames told has counts own known reported tells) =
      program_left edition source r g asked.steps ends.input ends.input_after ds image has
      (run_left (machine ds) asked.steps ends.input ends.input_after nothing_written (outgoing_of counts.output) result counts.gives)
  was_asked (count.unread ds image output has suits still gives same answer) =
      program_left edition source r g asked.steps ends.input ends.input_after ds image has
      (run_left (machine ds) asked.steps ends.input ends.input_after nothing_written (outgoing_of output) outcome.Device gives)
  was_asked (count.not_begun ds image result has suits never told quiet) = untaken edition source r g asked.steps ends.input ends.input_after quiet.unread
  was_asked (count.stopped none quiet) = untaken edition source r g asked.steps ends.input ends.input_after quiet.unread
  was_asked (count.no_memory ds image has suits still same read answer) =
      program_left edition source r g asked.steps ends.input ends.input_after ds image has
      (left_by (machine ds) asked.steps ends.input ends.input_after read)

module _ (c : CodeText) (ds : List Definition) (is : IsCodeText c.code ds) (source : List ℕ) (asked : Asked) (ends : RunEnds) (status : ℕ) where
  asked_by_code : Counts (record asked { origin = Code c }) source ends status → LeftBySteps (machine ds) asked.steps ends.input ends.input_after
  asked_by_code (count.counted other image result made tallies lines frames told has counts own known reported tells) =
      left_by_code c.code ds is asked.steps ends.input ends.input_after other has.text (run_left (machine other) asked.steps ends.input ends.input_after nothing_written (outgoing_of counts.output) result counts.gives)
  asked_by_code (count.unread other image output has suits still gives same answer) =
      left_by_code c.code ds is asked.steps ends.input ends.input_after other has.text (run_left (machine other) asked.steps ends.input ends.input_after nothing_written (outgoing_of output) outcome.Device gives)
  asked_by_code (count.not_begun other image result has suits never told quiet) = untaken_by_code c.code ds is asked.steps ends.input ends.input_after quiet.unread
  asked_by_code (count.stopped none quiet) = untaken_by_code c.code ds is asked.steps ends.input ends.input_after quiet.unread
  asked_by_code (count.no_memory other image has suits still same read answer) = left_by_code c.code ds is asked.steps ends.input ends.input_after other has.text (left_by (machine other) asked.steps ends.input ends.input_after read)

pub excluded : CountsExcluded
excluded = record {
  no_step = at_limit 0 ((0 ∷ 0 ∷ []) ∷ []) (λ input. refl);
  one_step = at_limit 1 ((1 ∷ 0 ∷ []) ∷ []) (λ input. refl);
  last_step = λ i j made other h. at_end made i j other h;
  read_failed = read_lost;
  unsuited = unsuited;
  unasked = was_asked;
  unasked_by_code = asked_by_code;
}
