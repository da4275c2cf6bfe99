-- Promise: what is told of the places of a function: where operands can lack, and what is never reached or left over.
use Rattle.std.specs.Prelude.{ℕ, ◌+◌, ◌-◌, ◌==◌, ◌&&◌, Bool, true, false, if◌then◌else◌, List, [], ◌∷◌, ◌++◌, fold, map}
use Rattle.std.specs.Prelude.{Option, Some, None, is_some, nat_lt, slice_get, unwrap_or, zip}
use Rattle.std.specs.List.{list_any}
use Rattle.blang.specs.declared.code.Instr.{Instr}
use Rattle.blang.specs.declared.code.Instr.TheVariants as instr
use Rattle.bverify.specs.Depths.{Depths, Way, depth_at, operands_taken, way, ways}
use Rattle.bverify.specs.declared.flaws.Flaw.{Flaw}
use Rattle.bverify.specs.declared.flaws.Flaw.TheVariants as flaw
use Rattle.bverify.specs.declared.flaws.PlacedFlaw.{PlacedFlaw}

-- With such a flaw some run may lack an operand or an instruction.
abbrev pub can_be_stuck : Flaw → Bool
can_be_stuck (flaw.Lacks depth taken) = true
can_be_stuck (flaw.Differs to depth other) = true
can_be_stuck (flaw.Leaves to) = true
can_be_stuck other = false

abbrev pub some_can_be_stuck : List PlacedFlaw → Bool
some_can_be_stuck flaws = list_any (λ f. can_be_stuck f.flaw) flaws

abbrev pub is_depth : (known : Option ℕ) → (depth : ℕ) → Bool
is_depth (Some known) depth = known == depth
is_depth None depth = false

-- a way to a place with another depth, or to none
abbrev pub known_flaws : Option (Option ℕ) → Way → List Flaw
known_flaws None w = flaw.Leaves w.place ∷ []
known_flaws (Some known) w =
    if is_depth known w.depth then [] else flaw.Differs w.place w.depth (unwrap_or known 0) ∷ []

abbrev pub way_flaws : Depths → Way → List Flaw
way_flaws depths w = known_flaws (slice_get depths w.place) w

-- operands that a return drops
abbrev pub left_flaws : Instr → (depth : ℕ) → List Flaw
left_flaws instr.Return depth = if nat_lt 1 depth then flaw.Left (depth - 1) ∷ [] else []
left_flaws i depth = []

abbrev pub placed : (place : ℕ) → List Flaw → List PlacedFlaw
placed place flaws = map (λ f. record { place = place; flaw = f }) flaws

-- the flaws so far, and those of a way from a place
abbrev pub with_way_flaws : Depths → (place : ℕ) → List PlacedFlaw → Way → List PlacedFlaw
with_way_flaws depths place flaws w = flaws ++ placed place (way_flaws depths w)

-- the flaws so far, and those of an instruction at a place with so many operands
abbrev pub with_instr_flaws : (targets : List ℕ) → Depths → Instr → (place depth : ℕ) → List PlacedFlaw
    → List PlacedFlaw
with_instr_flaws targets depths i place depth flaws =
    if nat_lt depth (operands_taken i) then flaws ++ placed place (flaw.Lacks depth (operands_taken i) ∷ [])
    else fold (with_way_flaws depths place) flaws (ways targets i place depth) ++ placed place (left_flaws i depth)

-- Of places that no way leads to, the first one after another is told.
abbrev pub unreached_flaws : (before : Option ℕ) → List Flaw
unreached_flaws (Some depth) = flaw.Unreached ∷ []
unreached_flaws None = []

abbrev pub with_place_flaws : (targets : List ℕ) → Depths → Instr → (place : ℕ) → Option ℕ → List PlacedFlaw
    → List PlacedFlaw
with_place_flaws targets depths i place (Some depth) flaws = with_instr_flaws targets depths i place depth flaws
with_place_flaws targets depths i place None flaws =
    flaws ++ placed place (unreached_flaws (depth_at depths (place - 1)))

-- the flaws so far, and those of instructions from a place on
abbrev pub flaws_from : (targets : List ℕ) → Depths → (place : ℕ) → List Instr → List PlacedFlaw → List PlacedFlaw
flaws_from targets depths place [] flaws = flaws
flaws_from targets depths place (i ∷ is) flaws =
    flaws_from targets depths (place + 1) is (with_place_flaws targets depths i place (depth_at depths place) flaws)

-- those of all instructions: a call begins at the first place without operands
abbrev pub place_flaws : (targets : List ℕ) → List Instr → Depths → List PlacedFlaw
place_flaws targets code depths = flaws_from targets depths 0 code (with_way_flaws depths 0 [] (way 0 0))

abbrev pub is_goto : Instr → Bool
is_goto instr.Goto = true
is_goto i = false

-- Some way leads to a goto.
abbrev pub comes_to_goto : List Instr → Depths → Bool
comes_to_goto code depths = list_any (λ p. is_goto p.0 && is_some p.1) (zip code depths)

-- the labels from a number on, each at its target
abbrev pub labels_from : (label : ℕ) → (targets : List ℕ) → List PlacedFlaw
labels_from label [] = []
labels_from label (t ∷ ts) = record { place = t; flaw = flaw.NoGoto label } ∷ labels_from (label + 1) ts

-- Only a goto of the same function leads to a label.
abbrev pub label_flaws : (targets : List ℕ) → List Instr → Depths → List PlacedFlaw
label_flaws targets code depths = if comes_to_goto code depths then [] else labels_from 0 targets

-- the flaws of a function
abbrev pub flaws_of : (targets : List ℕ) → List Instr → Depths → List PlacedFlaw
flaws_of targets code depths = place_flaws targets code depths ++ label_flaws targets code depths
