-- Pictures of a run on which somebody looked.
use Rattle.std.proofs.Common.{◌≡◌, ◌∙◌, ℕ, zero, suc, ◌+◌, ◌-◌, ◌≤◌, List, [], ◌∷◌, ◌++◌, Option, Some, None, ap, arith, map, refl, sym}
use Rattle.std.specs.Option.{option_map_or}
use Rattle.blang.specs.declared.code.Definition.{Definition}
use Rattle.blang.specs.declared.run.Outcome.{Outcome}
use Rattle.blang.specs.declared.run.Outcome.TheVariants as outcome
use Rattle.blang.specs.Layout.{first_world}
use Rattle.blang.specs.Machine.{Halted, Image, Loaded, Running, State, Stuck, image_of, machine, machine_started, state_world, steps}
use Rattle.blang.specs.Reports.{state_outcome}
use Rattle.bmach.specs.Stepping.{Paused}
use Rattle.bmach.specs.Stops.{active_of}
use Rattle.bmach.specs.declared.machine.Active.{Active}
use Rattle.bmach.specs.declared.machine.Stop.{Stop}
use Rattle.bword.specs.ByteEnds.{Incoming, Outgoing}
use Rattle.blang.specs.declared.status.TheConstants.{MEMORY}
use Rattle.bmach.proofs.Readings.{none_at_first}
use Rattle.bmach.proofs.Running.{steps_add}
use Rattle.bwatch.specs.Sights.{Sight, Sights, sight_of}
use Rattle.bwatch.specs.Watches.{Ending, EndsAfter, IsLast, Leaves}
use Rattle.bdraw.specs.Draws as draws
use Rattle.bdraw.specs.Draws.{DrawsProgram, IsDrawn, calls_in, moment_of, picture_at, running_in}
use Rattle.bdraw.specs.Pictures.{DrawnProgram}
use Rattle.bdraw.specs.declared.scene.Moment.TheVariants as moment

-- the call that ran before the last step
runs : (s : Sight) (call : Active) → s.call ≡ Some call → call ∷ [] ≡ running_in s
runs s call is = sym (ap (λ (o : Option Active). option_map_or (λ (c : Active). c ∷ []) o []) is)

module _ (q : DrawnProgram) (text : List ℕ) (p : Paused) (sights : Sights) (P : Type 0) (stop : Stop) where
  before : (is : IsLast p sights (λ made. P) stop) → sights is.last ≡ sights (stop.steps - 1)
  before is = let e : is.last ≡ stop.steps - 1 = omega (arith, is.made) in ap sights e

  last_call : (is : IsLast p sights (λ made. P) stop) → stop.call ∷ [] ≡ running_in (sights (stop.steps - 1))
  last_call is = runs (sights is.last) stop.call is.ran ∙ ap running_in (before is)

  -- where a run ends, its words and calls are those that are seen
  pub drawn_there : (r : Outcome) → Ending p sights (λ made. P) (λ made. P) r stop → text ≡ picture_at q (moment_of r stop.steps) p.store (stop.call ∷ map active_of p.below)
      → P × IsDrawn q text sights stop.steps r
  drawn_there (outcome.Exit status) h e = (
    h.awaited,
    (map active_of p.below, e ∙ (λ i. picture_at q (moment.End stop.steps) (ap (λ (s : Sight). s.store) (sym h.over) i) (last_call h i ++ map active_of p.below))),
  )
  drawn_there (outcome.Trap kind) h e = (
    h.0.awaited,
    e ∙ (λ i. picture_at q (moment.End stop.steps) (ap (λ (s : Sight). s.store) (sym h.0.over) i) (last_call h.0 i ++ (sym h.1 ∙ ap (λ (s : Sight). s.below) (before h.0)) i)),
  )
  drawn_there outcome.Limit h e = (
    h.0,
    e ∙ (λ i. picture_at q (moment.After stop.steps) (ap (λ (s : Sight). s.store) (sym h.1) i) (h.2 i ∷ map active_of p.below))
        ∙ ap (picture_at q (moment.After stop.steps) (sights stop.steps).store) (sym (ap calls_in h.1)),
  )
  drawn_there outcome.Device h e = absurd h
  drawn_there outcome.Memory h e = absurd h

module _ (q : DrawnProgram) (text : List ℕ) where
  -- what was told of a run that was read without a failure is its picture
  pub drawn_so : (awaits : Sights → ℕ → Type 0) (r : Outcome) → (r ≡ outcome.Device → ⊥) → (made : ℕ) (sights : Sights)
      → Leaves awaits (λ s m x. IsDrawn q text s m x) sights made r → IsDrawn q text sights made r
  drawn_so awaits (outcome.Exit status) own made sights h = h
  drawn_so awaits (outcome.Trap kind) own made sights h = h
  drawn_so awaits outcome.Limit own made sights h = h
  drawn_so awaits outcome.Device own made sights h = absurd (own refl)
  drawn_so awaits outcome.Memory own made sights h = h

  pub is_picture : (r : Outcome) (made : ℕ) (sights : Sights) → IsDrawn q text sights made r
      → (r ≡ outcome.Device → ⊥) × ((calls : List Active) × (text ≡ picture_at q (moment_of r made) (sights made).store calls))
  is_picture (outcome.Exit status) made sights h = (λ e. cc, (running_in (sights (made - 1)) ++ h.0, h.1))
  is_picture (outcome.Trap kind) made sights h = (λ e. cc, (calls_in (sights (made - 1)), h))
  is_picture outcome.Limit made sights h = (λ e. cc, (calls_in (sights made), h))
  is_picture outcome.Device made sights h = absurd h
  is_picture outcome.Memory made sights h = absurd h

-- nothing is read or written where memory is refused before a run
pub refused : (p : DrawnProgram) (steps : Option ℕ) (i : Incoming) (o : Outgoing) → DrawsProgram p steps i i o o MEMORY
refused p None i o = (draws.no_memory refl refl, refl)
refused p (Some n) i o = draws.no_memory (none_at_first (image_of p.definitions) n i i refl) refl refl

pub seen_store : (functions : List Loaded) (s : State) → (sight_of functions s).store ≡ (state_world s).store
seen_store functions (Running call below w) = refl
seen_store functions (Halted e w) = refl
seen_store functions (Stuck w) = refl

-- a state after which nothing happens
abbrev HasStopped : State → Type 0
HasStopped (Running call below w) = ⊥
HasStopped (Halted e w) = Unit {0}
HasStopped (Stuck w) = Unit {0}

stays : (image : Image) (n : ℕ) (s : State) → HasStopped s → steps image n s ≡ s
stays image zero s o = refl
stays image (suc n) (Running call below w) o = elim o [ ]
stays image (suc n) (Halted e w) o = stays image n (Halted e w) o
stays image (suc n) (Stuck w) o = stays image n (Stuck w) o

stopped : (r : Outcome) → (outcome.Limit ≡ r → ⊥) → (s : State) → state_outcome s ≡ r → HasStopped s
stopped r other (Running call below w) e = other e
stopped r other (Halted h w) e = tt
stopped r other (Stuck w) e = tt

-- where a run has ended, it stays
module _ (ds : List Definition) (bytes : List ℕ) (made n : ℕ) (within : made ≤ n) where
  stays_on : HasStopped (machine ds bytes made) → machine ds bytes n ≡ machine ds bytes made
  stays_on over =
      let I = image_of ds in
      let all : made + (n - made) ≡ n = omega (arith, within) in
      ap (machine ds bytes) (sym all) ∙ steps_add I made (n - made) (machine_started I I.main (first_world I bytes)) ∙ stays I (n - made) (machine ds bytes made) over

  pub same_end : (r : Outcome) (left : List ℕ) → (r ≡ outcome.Device → ⊥) → EndsAfter (machine ds bytes) made n r left → machine ds bytes n ≡ machine ds bytes made
  same_end (outcome.Exit status) left own h = stays_on (stopped (outcome.Exit status) (λ e. cc) (machine ds bytes made) h.3)
  same_end (outcome.Trap kind) left own h = stays_on (stopped (outcome.Trap kind) (λ e. cc) (machine ds bytes made) h.3)
  same_end outcome.Limit left own h = ap (machine ds bytes) (sym h.0)
  same_end outcome.Device left own h = absurd (own refl)
  same_end outcome.Memory left own h = absurd h
