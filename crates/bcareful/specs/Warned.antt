-- Promise: what is told of a run that goes on after its findings.
use Rattle.std.specs.Prelude.{◌≡◌, ℕ, zero, suc, ◌==◌, ◌&&◌, ◌||◌, Bool, List, [], ◌∷◌, ◌++◌, Option, Some, None}
use Rattle.std.specs.Prelude.{⊤, if◌then◌else◌}
use Rattle.std.specs.List.{list_any}
use Rattle.std.specs.Option.{option_map_or}
use Rattle.bword.specs.ByteEnds.{CanFollow, Incoming, Outgoing, Took}
use Rattle.blang.specs.declared.run.Outcome.{Outcome}
use Rattle.blang.specs.declared.run.Outcome.TheVariants as outcome
use Rattle.blang.specs.Machine.{Loaded, States}
use Rattle.blang.specs.Reports.{RunGives}
use Rattle.blang.specs.declared.status.TheConstants.{DEVICE, MEMORY}
use Rattle.bmach.specs.Stops.{IsOverAt}
use Rattle.bmach.specs.declared.machine.Active.{Active}
use Rattle.bmach.specs.declared.machine.Stop.{Stop}
use Rattle.btrace.specs.RowTexts.{Legend}
use Rattle.bwatch.specs.Sights.{Sight, Sights, sights_of}
use Rattle.bcareful.specs.Things.{Atlas}
use Rattle.bcareful.specs.Findings.{finding_at}
use Rattle.bcareful.specs.Tellings.{careful_text}
use Rattle.bcareful.specs.declared.finding.Finding.{Finding}
use Rattle.bcareful.specs.declared.warnings as told
use Rattle.bcareful.specs.declared.warnings.Place.{Place}

-- the places of which something is told, and what
pub record Warnings : Type 0 where
  pub places : List Place
  pub text : List ℕ

abbrev pub warnings_of : told.Warnings.Warnings → Warnings
warnings_of w = record { places = w.places.items; text = w.text }

abbrev pub no_warnings : Warnings
no_warnings = record { places = []; text = [] }

abbrev pub is_at : Active → Place → Bool
is_at call p = p.strings == call.strings && p.place == call.place

-- Each place is told once.
abbrev pub noted : Active → (text : List ℕ) → Warnings → Warnings
noted call text w =
    if list_any (is_at call) w.places then w
    else record {
      places = w.places ++ record { strings = call.strings; place = call.place } ∷ [];
      text = w.text ++ text;
    }

-- Nothing is told where memory was refused.
abbrev pub kept_text : Outcome → (text : List ℕ) → List ℕ
kept_text outcome.Memory text = []
kept_text result text = text

-- Nothing more is told where a write or a read failed, or memory ran out.
abbrev pub told_after : (answer : ℕ) → (text : List ℕ) → List ℕ
told_after answer text = if answer == DEVICE || answer == MEMORY then [] else text

-- what is told with a run: its things and names, and the source
module _ (a : Atlas) (legend : Legend) (source : List ℕ) where
  -- where this is found at the step after so many
  abbrev pub warned : Sight → (made : ℕ) → Option Finding → Warnings → Warnings
  warned s made None w = w
  warned s made (Some f) w = option_map_or
      (λ call. noted call (careful_text a legend source s (record { finding = f; call = call; made = made })) w) s.call
      w

  -- after so many steps
  abbrev pub warnings_at : Sights → (made : ℕ) → Warnings
  warnings_at sights zero = no_warnings
  warnings_at sights (suc n) = warned (sights n) n (finding_at a sights n) (warnings_at sights n)

  -- This is all that is told of a run with this outcome, of so many steps at most: nothing is found at a step after its
  -- end. Where a read or a write failed, nothing is told, whatever text this is.
  abbrev pub IsAll : Outcome → Sights → (steps : ℕ) → (text : List ℕ) → Type 0
  IsAll outcome.Device sights steps text = ⊤
  IsAll result sights steps text = text ≡ kept_text result (warnings_at sights steps).text

  -- The machine came to this, and was over there, and this is all that is told of it.
  pub record WarnGives (functions : List Loaded) (states : States) (steps : ℕ) (i j : Incoming) (o p : Outgoing)
      (stop : Stop) (text : List ℕ) : Type 0 where
    pub gives : RunGives states steps i j o p stop.outcome
    pub stops : IsOverAt states steps i j stop.outcome stop.call stop.steps
    pub taken : List ℕ
    pub took : Took i taken j
    pub told : (more : List ℕ) → CanFollow j more
        → IsAll stop.outcome (sights_of functions states (taken ++ more)) steps text
