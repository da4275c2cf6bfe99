-- What is seen of a program that was loaded is what its definitions do.
use Rattle.std.proofs.Common.{◌≡◌, ◌∙◌, ℕ, List, [], ◌∷◌, ◌++◌, Some, ap, map, refl, subst, sym}
use Rattle.bword.specs.ByteEnds.{Incoming, outgoing_of}
use Rattle.blang.specs.declared.code.Definition.{Definition}
use Rattle.blang.specs.declared.run.Outcome.{Outcome}
use Rattle.blang.specs.declared.run.Outcome.TheVariants as outcome
use Rattle.blang.specs.Layout.{World}
use Rattle.blang.specs.Machine.{Call, Halted, Image, Running, State, Stuck, image_of, machine, state_world}
use Rattle.blang.specs.Reports.{AsksForByte, state_outcome}
use Rattle.bmach.specs.Resolved.{IsLoadedFrom, call_resolved, resolved, state_resolved}
use Rattle.bmach.specs.Stepping.{IsUnstarted, Paused}
use Rattle.bmach.specs.Stops.{active_of}
use Rattle.bmach.proofs.Resolving.{stored-resolved}
use Rattle.bmach.proofs.LoadedRuns.{asks-resolved, outcome-resolved, world-resolved}
use Rattle.btools.specs.Programs.{nothing_written, steps_from}
use Rattle.btools.proofs.Stopped.{runs_whole, states_loaded}
use Rattle.bwatch.specs.Sights.{Sights, sight_of, sights_of}
use Rattle.bwatch.specs.Watches.{EndsAfter, Watches}

below_same : (I : Image) (below : List Call) → map active_of (map (call_resolved I) below) ≡ map active_of below
below_same I [] = refl
below_same I (c ∷ below) = ap (λ rest. active_of c ∷ rest) (below_same I below)

sight_same : (I : Image) (s : State) → sight_of (resolved I).functions (state_resolved I s) ≡ sight_of I.functions s
sight_same I (Running c below w) = λ i. record {
  call = Some (active_of c);
  operands = c.operands;
  below = below_same I below i;
  storing = stored-resolved I (Running c below w) (Running c below w) i;
  store = w.store;
  output = w.output;
}
sight_same I (Halted e w) = refl
sight_same I (Stuck w) = refl

-- The states of one machine are those of the other, resolved.
module _ (I : Image) (f g : ℕ → State) (e : (n : ℕ) → g n ≡ state_resolved I (f n)) where
  world_same : (n : ℕ) → state_world (g n) ≡ state_world (f n)
  world_same n = ap state_world (e n) ∙ world-resolved I (f n)

  outcome_same : (n : ℕ) → state_outcome (g n) ≡ state_outcome (f n)
  outcome_same n = ap state_outcome (e n) ∙ outcome-resolved I (f n)

  ends_same : (made n : ℕ) (r : Outcome) (left : List ℕ) → EndsAfter g made n r left → EndsAfter f made n r left
  ends_same made n (outcome.Exit status) left h = (h.0, h.1, sym (outcome_same h.0) ∙ h.2, sym (outcome_same made) ∙ h.3)
  ends_same made n (outcome.Trap kind) left h = (h.0, h.1, sym (outcome_same h.0) ∙ h.2, sym (outcome_same made) ∙ h.3)
  ends_same made n outcome.Limit left h = (h.0, sym (outcome_same made) ∙ h.1)
  ends_same made n outcome.Device left h = (asks-resolved I (f made) (subst AsksForByte (e made) h.0), sym (ap (λ (w : World). w.input) (world_same made)) ∙ h.1)
  ends_same made n outcome.Memory left h = h

-- a run that was watched from its first state on
pub watched_loaded : (ds : List Definition) (image : Image) (p : Paused) → IsLoadedFrom ds image → IsUnstarted image p → (n : ℕ) (i j : Incoming) (r : Outcome) (made : ℕ) (tells : Sights → ℕ → Outcome → Type 0)
    → Watches p.image.functions (steps_from p) n i j r made tells → Watches (image_of ds).functions (machine ds) n i j r made tells
watched_loaded ds image p loaded begins n i j r made tells w =
    let I = image_of ds in
    let e : (input : List ℕ) (k : ℕ) → steps_from p input k ≡ state_resolved I (machine ds input k) = states_loaded ds image p loaded begins in
    let fns : p.image.functions ≡ (resolved I).functions = ap (λ (x : Image). x.functions) begins.image_is ∙ loaded.functions in
    let sights : (input : List ℕ) → sights_of p.image.functions (steps_from p) input ≡ sights_of I.functions (machine ds) input =
    λ input k m. ((λ l. sight_of (fns l) (e input m l)) ∙ sight_same I (machine ds input m)) k in
    record {
      output = w.output;
      gives = runs_whole ds image p loaded begins n i j r nothing_written (outgoing_of w.output) w.gives;
      within = w.within;
      taken = w.taken;
      took = w.took;
      ends = λ more can. ends_same I (machine ds (w.taken ++ more)) (steps_from p (w.taken ++ more)) (e (w.taken ++ more)) made n r more (w.ends more can);
      told = λ more can. subst (λ (s : Sights). tells s made r) (sights (w.taken ++ more)) (w.told more can);
    }
