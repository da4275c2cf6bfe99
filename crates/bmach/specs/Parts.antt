-- Inner words: what the loader has so far.
use Rattle.std.specs.Prelude.{◌≡◌, ℕ, List, map, Option, None, Result, MatchResult}
use Rattle.blang.specs.declared.code.Definition.{Definition}
use Rattle.blang.specs.declared.run.LoadFault.{LoadFault}
use Rattle.bmach.specs.declared.part.Part.{Part as LoadedPart}
use Rattle.bmach.specs.Images.{loaded_of}
use Rattle.blang.specs.Layout.{first_undefined, names_in}
use Rattle.bmach.specs.Loading.{IsFault, Part, undefined_fault, with_definition}

abbrev pub part_of : LoadedPart → Part
part_of a = record { words = a.words.items; functions = map loaded_of a.functions.items; first_label = a.first_label }

-- A definition was added, or one of its names has no address.
abbrev pub AddsDefinition : (address_of : List ℕ → Option ℕ) → LoadedPart → Definition → Result (Unit {0}) LoadFault
    → LoadedPart → Type 0
AddsDefinition address_of old d result new =
    MatchResult result
    (λ _. (part_of new ≡ with_definition address_of (part_of old) d) × (first_undefined address_of (names_in d) ≡ None))
    (λ f. IsFault f (undefined_fault address_of (names_in d)))
