-- Inner words: the slots in which the loader looks for a name first.
use Rattle.std.specs.Prelude.{◌≡◌, ℕ, List, Option, Some, slice_get}
use Rattle.blang.specs.Layout.{Addresses, address_in}
use Rattle.bmach.specs.declared.address_table.Known.{Known}

-- Each name in a slot stands there with its address.
abbrev pub AreKept : Addresses → List (Option Known) → Type 0
AreKept known slots = (i : ℕ) (k : Known) → slice_get slots i ≡ Some (Some k) → address_in known k.name ≡ Some k.address
