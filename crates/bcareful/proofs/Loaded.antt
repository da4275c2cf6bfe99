-- What a careful run of a program that was loaded comes to is what one of its definitions comes to.
use Rattle.std.proofs.Common.{◌≡◌, ◌∙◌, ℕ, List, [], ◌∷◌, ◌++◌, Some, ap, map, refl, subst, sym}
use Rattle.bword.specs.ByteEnds.{Incoming, Outgoing}
use Rattle.blang.specs.declared.code.Definition.{Definition}
use Rattle.blang.specs.declared.run.Outcome.{Outcome}
use Rattle.blang.specs.Machine.{Call, Halted, Image, Running, State, States, Stuck, image_of, machine, state_world}
use Rattle.blang.specs.Reports.{AsksForByte, RunGives, state_outcome}
use Rattle.bmach.specs.Resolved.{IsLoadedFrom, call_resolved, resolved, state_resolved}
use Rattle.bmach.specs.Stepping.{IsUnstarted, Paused}
use Rattle.bmach.specs.Stops.{active_of}
use Rattle.bmach.specs.declared.machine.Stop.{Stop}
use Rattle.bmach.proofs.LoadedRuns.{asks-resolved, outcome-resolved, read_of_loaded, world-resolved}
use Rattle.bmach.proofs.Resolving.{stored-resolved}
use Rattle.bmach.proofs.Running.{run_alike}
use Rattle.btools.specs.Programs.{steps_from}
use Rattle.btools.proofs.Stopped.{runs_whole, states_loaded, stops_run}
use Rattle.bwatch.specs.Sights.{Sights, sight_of, sights_of}
use Rattle.bcareful.specs.Things.{Atlas}
use Rattle.bcareful.specs.Findings.{careful, made_by}
use Rattle.bcareful.specs.Carefuls.{IsClean, IsFound, IsUnfound, StaysAt}
use Rattle.bcareful.specs.Warned.{IsAll, WarnGives}
use Rattle.bcareful.specs.declared.watching.Found.{Found}
use Rattle.btrace.specs.RowTexts.{Legend}

below_same : (I : Image) (below : List Call) → map active_of (map (call_resolved I) below) ≡ map active_of below
below_same I [] = refl
below_same I (c ∷ below) = ap (λ rest. active_of c ∷ rest) (below_same I below)

sight_same : (I : Image) (s : State) → sight_of (resolved I).functions (state_resolved I s) ≡ sight_of I.functions s
sight_same I (Running c below w) = λ i. record {
  call = Some (active_of c);
  operands = c.operands;
  below = below_same I below i;
  storing = stored-resolved I (Running c below w) (Running c below w) i;
  store = w.store;
  output = w.output;
}
sight_same I (Halted e w) = refl
sight_same I (Stuck w) = refl

module _ (ds : List Definition) (image : Image) (p : Paused) (loaded : IsLoadedFrom ds image) (begins : IsUnstarted image p) (a : Atlas) where
  abbrev I : Image
  I = image_of ds

  same : (input : List ℕ) (k : ℕ) → steps_from p input k ≡ state_resolved I (machine ds input k)
  same = states_loaded ds image p loaded begins

  -- both are seen alike
  pub seen_alike : (input : List ℕ) → sights_of p.image.functions (steps_from p) input ≡ sights_of I.functions (machine ds) input
  seen_alike input =
      let fns : p.image.functions ≡ (resolved I).functions = ap (λ (x : Image). x.functions) begins.image_is ∙ loaded.functions in
      λ k m. ((λ l. sight_of (fns l) (same input m l)) ∙ sight_same I (machine ds input m)) k

  abbrev own : States
  own = careful a p.image.functions (steps_from p)

  abbrev meant : States
  meant = careful a I.functions (machine ds)

  alike : (input : List ℕ) (n : ℕ) → own input n ≡ state_resolved I (meant input n)
  alike input n = ap (λ (s : Sights). steps_from p input (made_by a s n)) (seen_alike input) ∙ same input (made_by a (sights_of I.functions (machine ds) input) n)

  shown_alike : (input : List ℕ) (n : ℕ) → (state_outcome (meant input n) ≡ state_outcome (own input n)) × (state_world (meant input n) ≡ state_world (own input n))
  shown_alike input n = (
    sym (ap state_outcome (alike input n) ∙ outcome-resolved I (meant input n)),
    sym (ap state_world (alike input n) ∙ world-resolved I (meant input n)),
  )

  asked_alike : (input : List ℕ) (n : ℕ) → AsksForByte (own input n) → AsksForByte (meant input n)
  asked_alike input n asks = asks-resolved I (meant input n) (subst AsksForByte (alike input n) asks)

  pub gives_alike : (n : ℕ) (i j : Incoming) (o q : Outgoing) (r : Outcome) → RunGives own n i j o q r → RunGives meant n i j o q r
  gives_alike n i j o q r h = run_alike meant own shown_alike asked_alike n i j o q r h

  pub found_alike : (n : ℕ) (i j : Incoming) (now : Paused) (found : Found) → IsFound a p.image.functions (steps_from p) n i j now found → IsFound a I.functions (machine ds) n i j now found
  found_alike n i j now found h = record {
    read = read_of_loaded ds image p loaded begins n i j h.read;
    taken = h.taken;
    took = h.took;
    stays = λ more can. subst (λ (s : Sights). StaysAt a s n now found) (seen_alike (h.taken ++ more)) (h.stays more can);
  }

  unfound_alike : (n : ℕ) (i j : Incoming) → IsUnfound a p.image.functions (steps_from p) n i j → IsUnfound a I.functions (machine ds) n i j
  unfound_alike n i j h = record {
    taken = h.taken;
    took = h.took;
    all = λ more can. subst (λ (s : Sights). made_by a s n ≡ n) (seen_alike (h.taken ++ more)) (h.all more can);
  }

  pub clean_alike : (n : ℕ) (i j : Incoming) (o q : Outgoing) (stop : Stop) → IsClean a p.image.functions (steps_from p) n i j o q stop → IsClean a I.functions (machine ds) n i j o q stop
  clean_alike n i j o q stop h = record {
    gives = gives_alike n i j o q stop.outcome h.gives;
    unfound = λ limit. unfound_alike n i j (h.unfound limit);
    stops = stops_run ds image p loaded begins n i j stop.outcome stop.call stop.steps h.stops;
    read = λ other. read_of_loaded ds image p loaded begins n i j (h.read other);
  }

  -- a run that goes on after its findings
  pub warned_alike : (legend : Legend) (source : List ℕ) (n : ℕ) (i j : Incoming) (o q : Outgoing) (stop : Stop) (text : List ℕ) → WarnGives a legend source p.image.functions (steps_from p) n i j o q stop text → WarnGives a legend source I.functions (machine ds) n i j o q stop text
  warned_alike legend source n i j o q stop text h = record {
    gives = runs_whole ds image p loaded begins n i j stop.outcome o q h.gives;
    stops = stops_run ds image p loaded begins n i j stop.outcome stop.call stop.steps h.stops;
    taken = h.taken;
    took = h.took;
    told = λ more can. subst (λ (s : Sights). IsAll a legend source stop.outcome s n text) (seen_alike (h.taken ++ more)) (h.told more can);
  }
