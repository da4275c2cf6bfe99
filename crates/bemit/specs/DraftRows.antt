-- Closed facts: what is full, labels by their numbers, frames, and the first fault of a draft.
use Rattle.std.specs.Prelude.{◌≡◌, ◌<◌, List, [], ◌∷◌, map, codes, Option, Some, None, refl}
use Rattle.std.proofs.Common.{arith}
use Rattle.blang.specs.declared.limits.TheConstants.{MAX_INSTRUCTIONS}
use Rattle.blang.specs.declared.token.Letters.TheVariants as letters
use Rattle.blang.specs.declared.token.Diagnostic.{Diagnostic}
use Rattle.blang.specs.declared.code.Instr.{Instr}
use Rattle.blang.specs.declared.code.Instr.TheVariants as instr
use Rattle.blang.specs.Scan.{Entry, External, Unlabelled, Labelled, fault, name_fault, no_scope}
use Rattle.bemit.specs.Buffers.{empty_buffer, with_numbers}
use Rattle.bemit.specs.Drafts.{Draft, Going, Made, declared, emitted, failed, fault_in, filled, frame_of, fresh}
use Rattle.bemit.specs.Tables.{word}

-- There is room for the 4096th instruction, and for no more.
last_instruction : 4095 < MAX_INSTRUCTIONS
last_instruction = omega arith

no_more_instructions : 4096 < MAX_INSTRUCTIONS → ⊥
no_more_instructions more = omega (arith, more)

-- an external, and two labels, of which the second has the first number
abbrev entries : List Entry
entries =
    record { name = codes "g"; kind = External }
    ∷ record { name = codes "l"; kind = Labelled 1 }
    ∷ record { name = codes "m"; kind = Labelled 0 }
    ∷ []

labels_by_number : (with_numbers entries (record empty_buffer {
  code = instr.Label 1 ∷ instr.Pop ∷ instr.Label 2 ∷ [];
})).code ≡ instr.Label 1 ∷ instr.Pop ∷ instr.Label 0 ∷ []
labels_by_number = refl

abbrev code_in : Draft → List Instr
code_in (Going scope (Some made)) = made.code
code_in _ = []

filled_at_its_place : code_in (filled 1 (instr.Jump 7) (emitted (instr.Jump 0) (emitted instr.Pop fresh)))
    ≡ instr.Pop ∷ instr.Jump 7 ∷ []
filled_at_its_place = refl

-- a word, and a vector to its last word, which has a word more for its address
frames : map (λ size. frame_of (declared (word (codes "a") 1) size fresh)) (None ∷ Some 0 ∷ Some 3 ∷ [])
    ≡ 1 ∷ 2 ∷ 5 ∷ []
frames = refl

-- The first fault is told, then a name without a label, and then what is too large.
abbrev unlabelled : Option Made → Draft
unlabelled made = Going (record no_scope { names = record { name = codes "l"; kind = Unlabelled 3 } ∷ [] }) made

abbrev redeclared : Diagnostic
redeclared = name_fault letters.Redeclared (word (codes "a") 5)

faults_in_order : map (fault_in 9) (
    failed redeclared (unlabelled None) ∷ unlabelled None ∷ Going no_scope None ∷ fresh ∷ []
    ) ≡ Some redeclared ∷ Some (name_fault letters.Undefined (word (codes "l") 3)) ∷ Some (fault letters.TooLarge 9) ∷
    None ∷ []
faults_in_order = refl
