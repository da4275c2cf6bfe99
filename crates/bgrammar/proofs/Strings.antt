-- The words of strings, and initial values.
use Rattle.std.proofs.Common.{◌≡◌, ℕ, ◌+◌, ◌<◌, ◌≤◌, List, [], ◌∷◌, ◌++◌, map, length, length-append, refl, arith}
use Rattle.std.specs.List.{flat_map}
use Rattle.std.proofs.lemmas.List.Sums.{sum_by-append, sum_by-cons}
use Rattle.blang.specs.CodeParts.{IsWord, IsIvalWithin}
use Rattle.blang.specs.Trees.{Ival, Ival_constant, Ival_text, Ival_name}
use Rattle.bgrammar.specs.Spelling.{comma_spelling, list_spelling, ival_spelling}
use Rattle.bgrammar.specs.Fitting.{EachAfter, ival_words, values_words, IvalFits, strings_in, ival_strings}
use Rattle.blang.specs.Code.{ival_code}
use Rattle.blang.specs.WellFormed.{packed}
use Rattle.blang.specs.Walk.{Walk, TextHere, Level, ◌▸◌, tokens_in, walk_value}
use Rattle.bgrammar.proofs.WalkLaws.{length-strings}
use Rattle.bgrammar.proofs.Holds.{Holds, Holds-nil, Holds-cons, Holds-first, Holds-rest, Holds-append, Holds-front, Holds-back}
use Rattle.bgrammar.proofs.Tokens.{IsByte, AreSound}
use Rattle.bgrammar.proofs.ExpressionCode.{word-value_of}

packed_within : (bytes : List ℕ) → Holds IsByte bytes → Holds IsWord (packed bytes)
packed_within [] h = Holds-cons (omega arith) Holds-nil
packed_within (x ∷ []) h = let l : x < 256 = Holds-first h in Holds-cons (omega arith) Holds-nil
packed_within (x ∷ y ∷ bytes) h =
    let l : x < 256 = Holds-first h in
    let m : y < 256 = Holds-first (Holds-rest h) in
    Holds-cons (omega arith) (packed_within bytes (Holds-rest (Holds-rest h)))

pub strings_within : (w : Walk) → AreSound (tokens_in w) → Holds IsWord (strings_in w)
strings_within (TextHere t) s = packed_within t.bytes (Holds-first s)
strings_within (Level p w end) s = strings_within w (Holds-rest s)
strings_within (v ▸ w) s = Holds-append (strings_within v (Holds-front (tokens_in v) _ s)) (strings_within w (Holds-back (tokens_in v) _ s))
strings_within _ s = Holds-nil

-- Initial values.
abbrev IsSoundValue : Ival → Type 0
IsSoundValue v = AreSound (ival_spelling v)

comma-sound : (values : List Ival) → AreSound (comma_spelling walk_value values) → Holds IsSoundValue values
comma-sound [] s = Holds-nil
comma-sound (v ∷ values) s = Holds-cons (Holds-front (ival_spelling v) _ (Holds-rest s)) (comma-sound values (Holds-back (ival_spelling v) _ (Holds-rest s)))

pub values-sound : (values : List Ival) → AreSound (list_spelling walk_value values) → Holds IsSoundValue values
values-sound [] s = Holds-nil
values-sound (v ∷ values) s = Holds-cons (Holds-front (ival_spelling v) _ s) (comma-sound values (Holds-back (ival_spelling v) _ s))

pub values_strings_within : (values : List Ival) → Holds IsSoundValue values → Holds IsWord (flat_map ival_strings values)
values_strings_within [] s = Holds-nil
values_strings_within (v ∷ values) s = Holds-append (strings_within (walk_value v) (Holds-first s)) (values_strings_within values (Holds-rest s))

length-values_strings : (values : List Ival) → length (flat_map ival_strings values) ≡ values_words values
length-values_strings [] = refl
length-values_strings (v ∷ values) =
    omega (arith, length-append (ival_strings v) (flat_map ival_strings values), length-strings (walk_value v), length-values_strings values, sum_by-cons ival_words v values)

ival_within : (total : ℕ) (before : List Ival) (v : Ival) → IsSoundValue v → IvalFits before v → values_words before + ival_words v ≤ total → IsIvalWithin total (ival_code v)
ival_within total before (Ival_constant c) s f l = word-value_of c (Holds-first s)
ival_within total before (Ival_text bytes offset) s f l = let e : offset ≡ values_words before = f in omega arith
ival_within total before (Ival_name w) s f l = Holds-first s

values_within : (total : ℕ) (before values : List Ival) → Holds IsSoundValue values → EachAfter IvalFits before values → values_words before + values_words values ≤ total
    → Holds (IsIvalWithin total) (map ival_code values)
values_within total before [] s f l = Holds-nil
values_within total before (v ∷ values) s f l =
    Holds-cons (ival_within total before v (Holds-first s) f.0 (omega (arith, sum_by-cons ival_words v values)))
    (values_within total (before ++ v ∷ []) values (Holds-rest s) f.1
    (omega (arith, sum_by-cons ival_words v values, sum_by-append ival_words before (v ∷ []), sum_by-cons ival_words v [])))

pub initial_values_within : (values : List Ival) → Holds IsSoundValue values → EachAfter IvalFits [] values
    → Holds (IsIvalWithin (length (flat_map ival_strings values))) (map ival_code values)
initial_values_within values s f = values_within _ [] values s f (omega (arith, length-values_strings values))
