-- Closed facts: careful runs of small programs, and what is told of them.
use Rattle.std.specs.Prelude.{◌≡◌, ℕ, Bool, true, false, List, [], ◌∷◌, Option, Some, None, codes, map, refl}
use Rattle.bword.specs.declared.operators.BinOp.TheVariants as op
use Rattle.blang.specs.declared.code.Definition.{Definition}
use Rattle.blang.specs.declared.code.Definition.TheVariants as definition
use Rattle.blang.specs.declared.code.Increment.{Increment}
use Rattle.blang.specs.declared.code.Increment.TheVariants as increment
use Rattle.blang.specs.declared.code.Instr.{Instr}
use Rattle.blang.specs.declared.code.Instr.TheVariants as instr
use Rattle.blang.specs.declared.code.Ival.TheVariants as ival
use Rattle.blang.specs.declared.run.Outcome.TheVariants as outcome
use Rattle.blang.specs.declared.run.Trap.TheVariants as trap
use Rattle.blang.specs.Machine.{image_of, machine}
use Rattle.bmach.specs.declared.machine.Active.{Active}
use Rattle.bparse.specs.Locals.{NamedWord}
use Rattle.btrace.specs.RowTexts.{Legend}
use Rattle.bwatch.specs.Sights.{Sight, Sights, sights_of}
use Rattle.bcareful.specs.Things.{Atlas, atlas_in, of_data, owned}
use Rattle.bcareful.specs.Findings.{finding_at, made_by}
use Rattle.bcareful.specs.Tellings.{careful_text}
use Rattle.bcareful.specs.TellingRows.{at_place, told_so}
use Rattle.bcareful.specs.Warned.{kept_text, noted, warned, warnings_at}
use Rattle.bcareful.specs.declared.finding.Finding.{Finding}
use Rattle.bcareful.specs.declared.finding.Finding.TheVariants.{Index, Never, Wraps}
use Rattle.bcareful.specs.declared.thing.Part.TheVariants as part
use Rattle.bcareful.specs.declared.warnings.Place.{Place}

-- the function `main` with so many words in its frame
abbrev pub main_of : (frame : ℕ) → List Instr → Definition
main_of frame code = definition.Function (record {
  name = codes "main";
  parameters = 0;
  frame = frame;
  targets = [];
  strings = [];
  code = code;
})

-- of definitions, of which `main` alone has a frame, whose words have these names
abbrev pub atlas_with : List Definition → List NamedWord → (wraps : Bool) → Atlas
atlas_with ds words wraps = record (atlas_in ds [] wraps) { frames = words ∷ [] }

abbrev pub sights_in : List Definition → Sights
sights_in ds = sights_of (image_of ds).functions (machine ds) []

abbrev pub word_at : (name : List ℕ) → (is_vector : Bool) → NamedWord
word_at name is_vector = record { name = name; offset = 0; is_vector = is_vector }

-- auto x; return(x); with x in the word 8
abbrev pub unset : List Definition
unset = main_of 1 (instr.Automatic 0 ∷ instr.Load ∷ instr.Return ∷ []) ∷ []

abbrev pub unset_found : ℕ → Option Finding
unset_found made = finding_at (atlas_with unset (word_at (codes "x") false ∷ []) false) (sights_in unset) made

unset_stays : made_by (atlas_with unset (word_at (codes "x") false ∷ []) false) (sights_in unset) 9 ≡ 1
unset_stays = refl

finds_unset : map unset_found (0 ∷ 1 ∷ 2 ∷ []) ≡ None ∷ Some (Never part.Whole 8) ∷ None ∷ []
finds_unset = refl

-- x = 1; x =+ 32767; with x in the word 8
abbrev pub wrapping : List Definition
wrapping = main_of 1
    (instr.Automatic 0 ∷ instr.Constant 1 ∷ instr.Store ∷ instr.Pop
    ∷ instr.Automatic 0 ∷ instr.Constant 32767 ∷ instr.Modify op.Add ∷ instr.Pop
    ∷ instr.Constant 0 ∷ instr.Return ∷ []) ∷ []

abbrev pub made_wrapping : (wraps : Bool) → ℕ
made_wrapping wraps = made_by (atlas_with wrapping (word_at (codes "x") false ∷ []) wraps) (sights_in wrapping) 12

wrapping_stays : map made_wrapping (true ∷ false ∷ []) ≡ 6 ∷ 12 ∷ []
wrapping_stays = refl

finds_wrapped : finding_at (atlas_with wrapping (word_at (codes "x") false ∷ []) true) (sights_in wrapping) 6
    ≡ Some (Wraps op.Add 1 32767)
finds_wrapped = refl

-- x = 32767; x++; with x in the word 8, counted in each way
abbrev pub counting_up : Increment → List Definition
counting_up which = main_of 1
    (instr.Automatic 0 ∷ instr.Constant 32767 ∷ instr.Store ∷ instr.Pop ∷ instr.Automatic 0 ∷ instr.Increment which
    ∷ instr.Pop ∷ instr.Constant 0 ∷ instr.Return ∷ []) ∷ []

abbrev pub made_counting : (wraps : Bool) → Increment → ℕ
made_counting wraps which =
    made_by (atlas_with (counting_up which) (word_at (codes "x") false ∷ []) wraps) (sights_in (counting_up which)) 12

counting_stays : (map (made_counting true) (increment.PreIncrement ∷ increment.PostIncrement
    ∷ increment.PreDecrement ∷ increment.PostDecrement ∷ []) ≡ 5 ∷ 5 ∷ 12 ∷ 12 ∷ [])
    × (made_counting false increment.PostIncrement ≡ 12)
counting_stays = (refl, refl)

finds_counted : finding_at (atlas_with (counting_up increment.PostIncrement) (word_at (codes "x") false ∷ []) true)
    (sights_in (counting_up increment.PostIncrement)) 5 ≡ Some (Wraps op.Add 32767 1)
finds_counted = refl

-- auto v 1; v[2] = 5; with v in the word 8 and its words after it
abbrev pub storing : List Definition
storing = main_of 3
    (instr.Automatic 0 ∷ instr.Automatic 1 ∷ instr.Store ∷ instr.Pop
    ∷ instr.Automatic 0 ∷ instr.Load ∷ instr.Constant 2 ∷ instr.Binary op.Add ∷ instr.Constant 5 ∷ instr.Store
    ∷ instr.Return ∷ []) ∷ []

storing_stays : made_by (atlas_with storing (word_at (codes "v") true ∷ []) false) (sights_in storing) 12 ≡ 9
storing_stays = refl

finds_stored : finding_at (atlas_with storing (word_at (codes "v") true ∷ []) false) (sights_in storing) 9
    ≡ Some (Index (owned (record { depth = 1; number = 0 }) 9 2) 11)
finds_stored = refl

-- w[2]; with w in the word 7, its words from 8 to 10, and w[3] read
abbrev pub external : List Definition
external = definition.Vector (record { name = codes "w"; words = 3; values = ival.Number 5 ∷ []; strings = [] })
    ∷ main_of 0
    (instr.External (codes "w") ∷ instr.Load ∷ instr.Constant 3 ∷ instr.Binary op.Add ∷ instr.Load ∷ instr.Return ∷ [])
    ∷ []

external_stays : made_by (atlas_with external [] false) (sights_in external) 9 ≡ 4
external_stays = refl

finds_external : finding_at (atlas_with external [] false) (sights_in external) 4 ≡ Some (Index (of_data 8 3 false) 11)
finds_external = refl

-- x; x; and so on without an end, with x in the word 8: two places, each found once
abbrev pub reading_twice : List Definition
reading_twice = main_of 1
    (instr.Automatic 0 ∷ instr.Load ∷ instr.Pop ∷ instr.Automatic 0 ∷ instr.Load ∷ instr.Pop ∷ instr.Jump 0 ∷ []) ∷ []

abbrev pub place : (place : ℕ) → Place
place n = record { strings = 8; place = n }

warns_of_each_place : (legend : Legend) (source : List ℕ)
    → map
    (λ made. (warnings_at (atlas_with reading_twice (word_at (codes "x") false ∷ []) false) legend source
    (sights_in reading_twice) made).places) (1 ∷ 2 ∷ 4 ∷ 5 ∷ 12 ∷ [])
    ≡ [] ∷ (place 1 ∷ []) ∷ (place 1 ∷ []) ∷ (place 1 ∷ place 4 ∷ []) ∷ (place 1 ∷ place 4 ∷ []) ∷ []
warns_of_each_place legend source = refl

-- With a call and a finding a text is noted; without one of them nothing is.
abbrev pub sight_with : Option Active → Sight
sight_with call = record { call = call; operands = []; below = []; storing = []; store = []; output = [] }

warned_of_calls : (a : Atlas) (legend : Legend) (source : List ℕ)
    → warned a legend source (sight_with (Some (at_place 9 5))) 3 (Some (Never part.Whole 28)) told_so
    ≡ noted (at_place 9 5)
    (careful_text a legend source (sight_with (Some (at_place 9 5)))
    (record { finding = Never part.Whole 28; call = at_place 9 5; made = 3 })) told_so
warned_of_calls a legend source = refl

warned_of_nothing : (a : Atlas) (legend : Legend) (source : List ℕ)
    → warned a legend source (sight_with (Some (at_place 9 5))) 3 None told_so ≡ told_so
warned_of_nothing a legend source = refl

warned_at_the_end : (a : Atlas) (legend : Legend) (source : List ℕ)
    → warned a legend source (sight_with None) 3 (Some (Never part.Whole 28)) told_so ≡ told_so
warned_at_the_end a legend source = refl

-- Nothing is told where memory was refused, and there alone.
kept_texts : map (λ result. kept_text result (codes "a"))
    (outcome.Exit 0 ∷ outcome.Trap trap.ZeroDivisor ∷ outcome.Limit ∷ outcome.Device ∷ outcome.Memory ∷ [])
    ≡ codes "a" ∷ codes "a" ∷ codes "a" ∷ codes "a" ∷ [] ∷ []
kept_texts = refl
