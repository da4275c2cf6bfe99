-- Inner words: what the loader's parts do.
use Rattle.std.specs.Prelude.{◌≡◌, ℕ, ◌+◌, ◌||◌, not, Bool, List, [], ◌∷◌, ◌++◌, length, nat_lt, Option, Some, None}
use Rattle.std.specs.Prelude.{option_map, if◌then◌else◌}
use Rattle.blang.specs.declared.code.Definition.{Definition}
use Rattle.blang.specs.declared.run.LoadFault.{LoadFault}
use Rattle.blang.specs.declared.run.LoadFault.TheVariants as fault
use Rattle.blang.specs.Layout.{store_words, Shape, Spot, shape_of, words_before_strings, functions_in, labels_in}
use Rattle.blang.specs.Layout.{data_end, label_count, definition_words, is_main, first_undefined, Addresses, address_in}
use Rattle.blang.specs.Layout.{library_addresses}
use Rattle.bword.specs.Words.{same_name}
use Rattle.blang.specs.Machine.{Loaded, loaded_at}
use Rattle.bmach.specs.Resolved.{resolved_function}
use Rattle.blang.specs.declared.limits.TheConstants.{MAX_PROGRAM_LABELS}

-- a fault is want of memory, or this one
abbrev pub IsFault : LoadFault → Option LoadFault → Type 0
IsFault fault.Memory first = Unit {0}
IsFault f first = first ≡ Some f

-- the address of a name among the definitions' and the library's
abbrev pub known_in : Addresses → List ℕ → Option ℕ
known_in entries x = address_in (entries ++ library_addresses) x

-- the same addresses, but for one name's
abbrev pub Knows : Addresses → (x : List ℕ) → (address : ℕ) → Addresses → Type 0
Knows old x address new = (y : List ℕ) → address_in new y ≡ (if same_name x y then Some address else address_in old y)

-- the fault of names of which one has no address
abbrev pub undefined_fault : (address_of : List ℕ → Option ℕ) → List (List ℕ) → Option LoadFault
undefined_fault address_of names = option_map fault.Undefined (first_undefined address_of names)

abbrev pub fits_store : List Shape → Bool
fits_store ds = not (nat_lt store_words (data_end ds) || nat_lt MAX_PROGRAM_LABELS (label_count ds))

-- the words and functions of the definitions so far, and the value of the label after theirs
pub record Part : Type 0 where
  pub words : List ℕ
  pub functions : List Loaded
  pub first_label : ℕ

abbrev pub first_part : Part
first_part = record { words = 0 ∷ 1 ∷ 2 ∷ 3 ∷ 4 ∷ 5 ∷ 6 ∷ []; functions = []; first_label = 1 }

-- where the next definition lies
abbrev pub next_spot : Part → Shape → Spot
next_spot p d = record {
  address = length p.words;
  strings = length p.words + words_before_strings d.kind d.values;
  value = 7 + length p.functions;
  first_label = p.first_label;
}

-- a function, resolved
abbrev pub loaded_functions : (address_of : List ℕ → Option ℕ) → Option Loaded → List Loaded
loaded_functions address_of (Some f) = resolved_function address_of f ∷ []
loaded_functions address_of None = []

-- with one definition more
abbrev pub with_definition : (address_of : List ℕ → Option ℕ) → Part → Definition → Part
with_definition address_of p d =
    let shape = shape_of d in
    let spot = next_spot p shape in
    record {
      words = p.words ++ definition_words address_of spot shape;
      functions = p.functions ++ loaded_functions address_of (loaded_at (spot, d));
      first_label = p.first_label + labels_in shape.kind;
    }

-- which of the functions is main, where so many come before
abbrev pub main_from : ℕ → List Definition → Option ℕ
main_from k [] = None
main_from k (d ∷ ds) = if is_main d then Some k else main_from (k + functions_in (shape_of d).kind) ds
