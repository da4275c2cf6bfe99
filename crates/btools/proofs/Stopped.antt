-- Where a program that was loaded stopped is where its definitions stop.
use Rattle.std.proofs.Common.{◌≡◌, ◌∙◌, ℕ, ◌+◌, List, ◌++◌, Option, None, Some, ap, sym}
use Rattle.bword.specs.ByteEnds.{Incoming, Outgoing}
use Rattle.blang.specs.declared.code.Definition.{Definition}
use Rattle.blang.specs.declared.run.Outcome.{Outcome}
use Rattle.blang.specs.declared.run.Outcome.TheVariants as outcome
use Rattle.blang.specs.Layout.{World}
use Rattle.blang.specs.Machine.{Call, Halted, Image, Running, State, Stuck, image_of, machine, run}
use Rattle.blang.specs.Reports.{RunGives, state_outcome}
use Rattle.bmach.specs.Resolved.{IsLoadedFrom, call_resolved, state_resolved}
use Rattle.bmach.specs.Stepping.{IsUnstarted, Paused}
use Rattle.bmach.specs.Stops.{EndsAt, IsOverAt, RunsCall, active_of}
use Rattle.bmach.specs.declared.machine.Active.{Active}
use Rattle.bmach.proofs.Beginning.{run_from}
use Rattle.bmach.proofs.Resolving.{run-resolved}
use Rattle.bmach.proofs.Running.{same_run}
use Rattle.bmach.proofs.LoadedRuns.{outcome-resolved, run_loaded, run_of_loaded}
use Rattle.btools.specs.Programs.{steps_from}

pub no_other : (r : Option ℕ) (s t : ℕ) → r ≡ Some s → (s ≡ t → ⊥) → r ≡ Some t → ⊥
no_other None s t is differs same = cc
no_other (Some r) s t is differs same = differs cc

pub not_none : (r : Option ℕ) (t : ℕ) → r ≡ None → r ≡ Some t → ⊥
not_none r t is same = cc

unresolved : (I : Image) (s : State) (call : Call) (below : List Call) (w : World) → state_resolved I s ≡ Running call below w → (c : Call) × (b : List Call) × (s ≡ Running c b w) × (call_resolved I c ≡ call)
unresolved I (Running c b v) call below w h =
    let same : v ≡ w = cc in
    (c, b, ap (Running c b) same, cc)
unresolved I (Halted e v) call below w h = cc
unresolved I (Stuck v) call below w h = cc

-- The states of one machine are those of the other, resolved.
module _ (I : Image) (f g : ℕ → State) (e : (n : ℕ) → g n ≡ state_resolved I (f n)) (active : Active) where
  stands_same : (n : ℕ) → RunsCall (g n) active → RunsCall (f n) active
  stands_same n s =
      let r = unresolved I (f n) s.call s.below s.world (sym (e n) ∙ s.state_is) in
      record {
        call = r.0;
        below = r.1;
        world = s.world;
        state_is = r.2;
        active_is = ap active_of r.3 ∙ s.active_is;
      }

  ends_at_same : (made n : ℕ) (r : Outcome) → EndsAt g n r active made → EndsAt f n r active made
  ends_at_same made n (outcome.Trap kind) h = (
    h.0,
    h.1,
    stands_same h.0 h.2,
    sym (outcome-resolved I (f (h.0 + 1))) ∙ ap state_outcome (sym (e (h.0 + 1))) ∙ h.3,
    h.4,
  )
  ends_at_same made n outcome.Limit h = (stands_same n h.0, h.1)
  ends_at_same made n _ h = tt

-- a run that was loaded and begun comes to the states of its definitions, resolved
pub states_loaded : (ds : List Definition) (image : Image) (p : Paused) → IsLoadedFrom ds image → IsUnstarted image p → (input : List ℕ) (k : ℕ) → steps_from p input k ≡ state_resolved (image_of ds) (machine ds input k)
states_loaded ds image p loaded begins input k = sym (run_from image p begins input k) ∙ run_loaded ds image loaded input k ∙ run-resolved (image_of ds) input k

module _ (ds : List Definition) (image : Image) (p : Paused) (loaded : IsLoadedFrom ds image) (begins : IsUnstarted image p) (n : ℕ) (i j : Incoming) (r : Outcome) where
  pub stops_run : (active : Active) (made : ℕ) → IsOverAt (steps_from p) n i j r active made → IsOverAt (machine ds) n i j r active made
  stops_run active made s = record {
    taken = s.taken;
    took = s.took;
    ends = λ more can. ends_at_same (image_of ds) (machine ds (s.taken ++ more)) (steps_from p (s.taken ++ more)) (states_loaded ds image p loaded begins (s.taken ++ more)) active made n r (s.ends more can);
  }

  pub runs_whole : (o q : Outgoing) → RunGives (steps_from p) n i j o q r → RunGives (machine ds) n i j o q r
  runs_whole o q gives = run_of_loaded ds image loaded n i j o q r (same_run (run image) (steps_from p) n i j o q r (run_from image p begins) gives)
