-- What a walk finds: its strings with their words, its levels, and its events.
use Rattle.std.proofs.Common.{◌≡◌, ◌≤◌, ℕ, zero, suc, ◌+◌, ◌/◌, List, [], ◌∷◌, ◌++◌, map, length, length-append, append-nil, refl, ap, ◌∙◌, subst, arith, Option, Some, None}
use Rattle.std.specs.List.{flat_map}
use Rattle.std.proofs.lemmas.List.Concat.{flat_map-append}
use Rattle.blang.specs.Trees.{Identifier, Expr, Arguments, Named, No_arguments, Another, Declared, Heading, Auto, Extrn, Label, Case, Default, Stmt}
use Rattle.blang.specs.Walk.{TextAt, Event, AutoHere, Walk, TextHere, Level, ◌▸◌, levels_in, texts_in, events_in, name, walk_commas, walk_list, comma_before_next, callee, walk, walk_size, walk_declared, walk_import, walk_heading, walk_statement, walk_parameter}
use Rattle.blang.specs.WellFormed.{packed, OffsetsFrom}
use Rattle.blang.specs.Scan.{function_events}
use Rattle.bgrammar.specs.Fitting.{text_words, words_in, FitsIn, strings_in}

-- what is found in a name whatever it is mentioned for is found alike in what is called
pub callee_as : {B : Type 0} (find : Walk → B) → ((w : Identifier) (a b : Event) → find (name w a) ≡ find (name w b)) → (e : Expr) → find (callee e (walk e)) ≡ find (walk e)
callee_as find same (Named w) = same w _ _
callee_as find same _ = refl

pub callee_words : (e : Expr) → words_in (callee e (walk e)) ≡ words_in (walk e)
callee_words e = callee_as words_in (λ w a b. refl) e

-- Strings.
pub length-packed : (bytes : List ℕ) → length (packed bytes) ≡ text_words bytes
length-packed [] = refl
length-packed (x ∷ []) = refl
length-packed (x ∷ y ∷ bytes) = let ih : length (packed bytes) ≡ (length bytes + 2) / 2 = length-packed bytes in omega arith

pub length-strings : (w : Walk) → length (strings_in w) ≡ words_in w
length-strings (TextHere t) = length-packed t.bytes
length-strings (Level p w end) = length-strings w
length-strings (v ▸ w) = omega (arith, length-append (strings_in v) (strings_in w), length-strings v, length-strings w)
length-strings _ = refl

abbrev packed_all : List TextAt → List ℕ
packed_all ts = flat_map (λ t. packed t.bytes) ts

pub strings_are : (w : Walk) → packed_all (texts_in w) ≡ strings_in w
strings_are (TextHere t) = append-nil (packed t.bytes)
strings_are (Level p w end) = strings_are w
strings_are (v ▸ w) = flat_map-append (λ (t : TextAt). packed t.bytes) (texts_in v) (texts_in w) ∙ ap (λ l. l ++ packed_all (texts_in w)) (strings_are v) ∙ ap (λ l. strings_in v ++ l) (strings_are w)
strings_are _ = refl

counted : (w : Walk) → length (packed_all (texts_in w)) ≡ words_in w
counted w = ap length (strings_are w) ∙ length-strings w

-- Offsets of strings, one part after another.
apart : (ts us : List TextAt) (off n : ℕ) → length (packed_all ts) ≡ n → OffsetsFrom off (ts ++ us) → OffsetsFrom off ts × OffsetsFrom (off + n) us
apart [] us off n e h = let same : off ≡ off + n = omega (arith, e) in (tt, subst (λ k. OffsetsFrom k us) same h)
apart (t ∷ ts) us off n e h =
    let i = apart ts us (off + length (packed t.bytes)) (length (packed_all ts)) refl h.1 in
    let same : off + length (packed t.bytes) + length (packed_all ts) ≡ off + n = omega (arith, e, length-append (packed t.bytes) (packed_all ts)) in
    ((h.0, i.0), subst (λ k. OffsetsFrom k us) same i.1)

together : (ts us : List TextAt) (off n : ℕ) → length (packed_all ts) ≡ n → OffsetsFrom off ts → OffsetsFrom (off + n) us → OffsetsFrom off (ts ++ us)
together [] us off n e h k = let same : off + n ≡ off = omega (arith, e) in subst (λ k. OffsetsFrom k us) same k
together (t ∷ ts) us off n e h k =
    let same : off + n ≡ off + length (packed t.bytes) + length (packed_all ts) = omega (arith, e, length-append (packed t.bytes) (packed_all ts)) in
    (h.0, together ts us (off + length (packed t.bytes)) (length (packed_all ts)) refl h.1 (subst (λ k. OffsetsFrom k us) same k))

-- Levels and offsets: what fits in a walk.
pub fits_in : (w : Walk) (room off : ℕ) → levels_in w ≤ room → OffsetsFrom off (texts_in w) → FitsIn w room off
fits_in (TextHere t) room off l o = o.0
fits_in (Level p w end) zero off l o = absurd (omega arith)
fits_in (Level p w end) (suc k) off l o = fits_in w k off (omega arith) o
fits_in (v ▸ w) room off l o =
    let s = apart (texts_in v) (texts_in w) off (words_in v) (counted v) o in
    (fits_in v room off (omega arith) s.0, fits_in w room (off + words_in v) (omega arith) s.1)
fits_in _ room off l o = tt

pub in_room : (w : Walk) (room off : ℕ) → FitsIn w room off → levels_in w ≤ room
in_room (Level p w end) zero off h = absurd h
in_room (Level p w end) (suc k) off h = let i = in_room w k off h in omega arith
in_room (v ▸ w) room off h = let i = in_room v room off h.0 in let j = in_room w room (off + words_in v) h.1 in omega arith
in_room _ room off h = omega arith

pub in_order : (w : Walk) (room off : ℕ) → FitsIn w room off → OffsetsFrom off (texts_in w)
in_order (TextHere t) room off h = (h, tt)
in_order (Level p w end) zero off h = absurd h
in_order (Level p w end) (suc k) off h = in_order w k off h
in_order (v ▸ w) room off h = together (texts_in v) (texts_in w) off (words_in v) (counted v) (in_order v room off h.0) (in_order w room (off + words_in v) h.1)
in_order _ room off h = tt

-- the same from an equal offset
pub at_offset : (w : Walk) (room a b : ℕ) → a ≡ b → FitsIn w room a → FitsIn w room b
at_offset w room a b e h = subst (λ k. FitsIn w room k) e h

pub to_callee : (e : Expr) (room off : ℕ) → FitsIn (walk e) room off → FitsIn (callee e (walk e)) room off
to_callee (Named w) room off h = (tt, tt)
to_callee _ room off h = h

pub from_callee : (e : Expr) (room off : ℕ) → FitsIn (callee e (walk e)) room off → FitsIn (walk e) room off
from_callee (Named w) room off h = (tt, tt)
from_callee _ room off h = h

-- Walks without strings and levels.
abbrev pub IsPlain : Walk → Type 0
IsPlain (TextHere t) = ⊥
IsPlain (Level p w end) = ⊥
IsPlain (v ▸ w) = IsPlain v × IsPlain w
IsPlain _ = Unit {0}

pub plain_words : (w : Walk) → IsPlain w → words_in w ≡ 0
plain_words (TextHere t) h = absurd h
plain_words (Level p w end) h = absurd h
plain_words (v ▸ w) h = omega (arith, plain_words v h.0, plain_words w h.1)
plain_words _ h = refl

pub plain_strings : (w : Walk) → IsPlain w → strings_in w ≡ []
plain_strings (TextHere t) h = absurd h
plain_strings (Level p w end) h = absurd h
plain_strings (v ▸ w) h = rw (plain_strings v h.0) (plain_strings w h.1)
plain_strings _ h = refl

pub plain_fits : (w : Walk) → IsPlain w → (room off : ℕ) → FitsIn w room off
plain_fits (TextHere t) h room off = absurd h
plain_fits (Level p w end) h room off = absurd h
plain_fits (v ▸ w) h room off = (plain_fits v h.0 room off, plain_fits w h.1 room (off + words_in v))
plain_fits _ h room off = tt

module _ {A : Type 0} (say : A → Walk) (each : (x : A) → IsPlain (say x)) where
  commas_plain : (xs : List A) → IsPlain (walk_commas say xs)
  commas_plain [] = tt
  commas_plain (x ∷ xs) = (tt, (each x, commas_plain xs))

  pub list_plain : (xs : List A) → IsPlain (walk_list say xs)
  list_plain [] = tt
  list_plain (x ∷ xs) = (each x, commas_plain xs)

pub size_plain : (size : Option ℕ) → IsPlain (walk_size size)
size_plain None = tt
size_plain (Some n) = tt

pub comma_plain : (args : Arguments) → IsPlain (comma_before_next args)
comma_plain No_arguments = tt
comma_plain (Another before e) = tt

pub parameters_plain : (ws : List Identifier) → IsPlain (walk_list walk_parameter ws)
parameters_plain ws = list_plain walk_parameter (λ w. (tt, tt)) ws

pub heading_plain : (h : Heading) → IsPlain (walk_heading h)
heading_plain (Auto declared) = (tt, (list_plain walk_declared (λ d. ((tt, tt), size_plain d.size)) declared, tt))
heading_plain (Extrn names) = (tt, (list_plain walk_import (λ w. (tt, tt)) names, tt))
heading_plain (Label w) = ((tt, tt), tt)
heading_plain (Case line c) = (tt, (tt, (tt, tt)))
heading_plain (Default line) = (tt, (tt, tt))

-- Events.
-- a list of which each has one event
module _ {A : Type 0} (say : A → Walk) (event : A → Event) (each : (x : A) → events_in (say x) ≡ event x ∷ []) where
  after_events : (xs : List A) → events_in (walk_commas say xs) ≡ map event xs
  after_events [] = refl
  after_events (x ∷ xs) = rw (each x, after_events xs) refl

  pub list_events : (xs : List A) → events_in (walk_list say xs) ≡ map event xs
  list_events [] = refl
  list_events (x ∷ xs) = rw (each x, after_events xs) refl

pub comma_events : (args : Arguments) → events_in (comma_before_next args) ≡ []
comma_events No_arguments = refl
comma_events (Another before e) = refl

pub declared_events : (d : Declared) → events_in (walk_declared d) ≡ AutoHere d.word d.size ∷ []
declared_events d = ap (λ l. AutoHere d.word d.size ∷ l) (size_events d.size)
  where
    size_events : (size : Option ℕ) → events_in (walk_size size) ≡ []
    size_events None = refl
    size_events (Some n) = refl

pub function_events_are : (parameters : List Identifier) (body : Stmt) → function_events parameters body ≡ map (λ w. AutoHere w None) parameters ++ events_in (walk_statement body)
function_events_are parameters body = ap (λ l. l ++ events_in (walk_statement body)) (list_events walk_parameter (λ w. AutoHere w None) (λ w. refl) parameters)
