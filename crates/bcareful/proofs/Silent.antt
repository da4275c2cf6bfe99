-- What is found first in a run that is made in silence.
use Rattle.std.proofs.Common.{◌≡◌, ◌∙◌, ℕ, List, ◌∷◌, None, Some, ap, map, refl, subst, sym}
use Rattle.bword.specs.ByteEnds.{Incoming, Kept, outgoing_of}
use Rattle.blang.specs.declared.code.Definition.{Definition}
use Rattle.blang.specs.declared.run.Outcome.{Outcome}
use Rattle.blang.specs.declared.run.Outcome.TheVariants as outcome
use Rattle.blang.specs.Machine.{Image, image_of, machine}
use Rattle.bmach.specs.Readings.{ReadBySteps}
use Rattle.bmach.specs.Resolved.{IsLoadedFrom}
use Rattle.bmach.specs.Stepping.{BeginsNot, IsUnstarted, Paused}
use Rattle.bmach.specs.Stops.{active_of}
use Rattle.bmach.specs.declared.machine.Stop.{Stop}
use Rattle.bmach.proofs.LoadedRuns.{read_of_loaded}
use Rattle.bmach.proofs.Readings.{none_at_first}
use Rattle.btools.specs.Programs.{nothing_written, steps_from}
use Rattle.bwatch.specs.Sights.{Sight}
use Rattle.bcareful.specs.Things.{Atlas}
use Rattle.bcareful.specs.Carefuls.{CarefulGives, IsClean}
use Rattle.bcareful.specs.First.{FindsFirst, FindsNothing}
use Rattle.bcareful.specs.Tellings.{calls_in, finding_meaning}
use Rattle.bcareful.specs.declared.watching.Ended.TheVariants as ended
use Rattle.bcareful.specs.declared.watching.Found.{Found}
use Rattle.bcareful.proofs.Loaded.{clean_alike, found_alike, gives_alike}

-- a run that did not begin
pub not_begun : (ds : List Definition) (image : Image) (n : ℕ) (i : Incoming) (r : Outcome) → BeginsNot image r → FindsNothing ds image n i i r
not_begun ds image n i outcome.Memory begins = none_at_first (image_of ds) n i i refl
not_begun ds image n i (outcome.Exit status) begins = (begins, refl)
not_begun ds image n i (outcome.Trap kind) begins = (begins, refl)
not_begun ds image n i outcome.Limit begins = (begins, refl)
not_begun ds image n i outcome.Device begins = (begins, refl)

module _ (ds : List Definition) (image : Image) (p now : Paused) (loaded : IsLoadedFrom ds image) (begins : IsUnstarted image p) (a b : Atlas) (whole : a ≡ b) (n : ℕ) (i j : Incoming) (kept : Kept) where
  -- one without a finding
  pub none_first : (stop : Stop) → CarefulGives a p.image.functions (steps_from p) n i j nothing_written (outgoing_of kept) now (ended.Over stop) → FindsFirst b (image_of ds).functions (machine ds) n i j stop None
  none_first stop clean =
      (kept, clean_alike ds image p loaded begins b n i j nothing_written (outgoing_of kept) stop (subst (λ (x : Atlas). IsClean x p.image.functions (steps_from p) n i j nothing_written (outgoing_of kept) stop) whole clean))

  -- one that stays at a finding
  module _ (f : Found) (gives : CarefulGives a p.image.functions (steps_from p) n i j nothing_written (outgoing_of kept) now (ended.Found f)) where
    pub read_first : ReadBySteps (machine ds) n i j
    read_first = read_of_loaded ds image p loaded begins n i j gives.1.read

    pub found_first : (stop : Stop) → stop ≡ record { outcome = outcome.Limit; call = f.call; steps = f.made } → (text : List ℕ) → text ≡ finding_meaning a (active_of now.call ∷ map active_of now.below) f.finding
        → FindsFirst b (image_of ds).functions (machine ds) n i j stop (Some text)
    found_first stop at text is =
        let g : CarefulGives b p.image.functions (steps_from p) n i j nothing_written (outgoing_of kept) now (ended.Found f) =
        subst (λ (x : Atlas). CarefulGives x p.image.functions (steps_from p) n i j nothing_written (outgoing_of kept) now (ended.Found f)) whole gives in
        let here = found_alike ds image p loaded begins b n i j now f g.1 in
        subst (λ (x : Stop). FindsFirst b (image_of ds).functions (machine ds) n i j x (Some text)) (sym at)
        (record {
          output = kept;
          gives = gives_alike ds image p loaded begins b n i j nothing_written (outgoing_of kept) outcome.Limit g.0;
          limit = refl;
          taken = here.taken;
          took = here.took;
          first = λ more can. let s = here.stays more can in record {
            within = s.within;
            stays = s.made;
            finding = f.finding;
            found = s.finding;
            told = is ∙ (λ k. finding_meaning (whole k) (active_of now.call ∷ map active_of now.below) f.finding) ∙ ap (λ (x : Sight). finding_meaning b (calls_in x) f.finding) (sym s.seen);
          };
        })
