-- Inner words: how the depths of a function's places are found.
use Rattle.std.specs.Prelude.{ℕ, ◌&&◌, Bool, true, false, if◌then◌else◌, List, [], ◌∷◌, ◌++◌, Option, Some, None, fold}
use Rattle.std.specs.Prelude.{nat_le, nat_lt, set, slice_get}
use Rattle.blang.specs.declared.code.Instr.{Instr}
use Rattle.bverify.specs.Depths.{Depths, Way, operands_taken, ways}
use Rattle.bverify.specs.declared.search.Search.{Search}
use Rattle.bverify.specs.declared.search.TheConstants.{MOST_OPERANDS}

-- the depths so far, and the places from which no way was followed yet
pub record Found : Type 0 where
  pub depths : Depths
  pub pending : List ℕ

abbrev pub found_by : Search → Found
found_by s = record { depths = s.depths.items; pending = s.pending.items }

-- a place without a depth
abbrev pub is_unknown : Option (Option ℕ) → Bool
is_unknown (Some None) = true
is_unknown known = false

-- The first way to a place gives it its depth.
abbrev pub with_way : Found → Way → Found
with_way s w =
    if is_unknown (slice_get s.depths w.place) && nat_le w.depth MOST_OPERANDS
    then record { depths = set s.depths w.place (Some w.depth); pending = s.pending ++ w.place ∷ [] }
    else s

-- the ways of an instruction that has its operands
abbrev pub followed : (targets : List ℕ) → Instr → (place depth : ℕ) → Found → Found
followed targets i place depth s =
    if nat_lt depth (operands_taken i) then s else fold with_way s (ways targets i place depth)

-- the ways from a place that has an instruction and a depth
abbrev pub followed_from : (targets : List ℕ) → Option Instr → Option (Option ℕ) → (place : ℕ) → Found → Found
followed_from targets (Some i) (Some (Some depth)) place s = followed targets i place depth s
followed_from targets i depth place s = s

abbrev pub looked_at : (targets : List ℕ) → List Instr → (place : ℕ) → Found → Found
looked_at targets code place s = followed_from targets (slice_get code place) (slice_get s.depths place) place s
