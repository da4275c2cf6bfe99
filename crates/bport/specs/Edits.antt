-- Promise: what is edited in an old source, and what stays.
use Rattle.std.specs.Prelude.{ℕ, nat_le, Bool, true, false, List, [], ◌∷◌, ◌++◌, ◌≡◌, ◌⊎◌, ◌&&◌, ◌||◌, Option, Some}
use Rattle.std.specs.Prelude.{codes, drop, if◌then◌else◌, length, not, slice_get, take}
use Rattle.std.specs.List.{list_all}
use Rattle.std.specs.Str.{bytes_eq}
use Rattle.bword.specs.declared.edition.Edition.{Edition}
use Rattle.bword.specs.declared.edition.Edition.TheVariants as edition
use Rattle.blang.specs.declared.code.Definition.{Definition}
use Rattle.blang.specs.Machine.{Image}
use Rattle.btools.specs.Programs.{HasNoProgram, HasProgram}
use Rattle.btools.specs.declared.program.ProgramFault.{ProgramFault}
use Rattle.btools.specs.declared.program.ProgramFault.TheVariants as why
use Rattle.bport.specs.Escapes.{escape_for, is_cut_short}
use Rattle.bport.specs.Places.{is_own_text, is_within_text, places_of}
use Rattle.bport.specs.Words.{are_kept}
use Rattle.bport.specs.declared.edit.Edit.{Edit}
use Rattle.bport.specs.declared.row.Row.{Row}
use Rattle.bport.specs.declared.row.Row.TheVariants as row
use Rattle.bport.specs.declared.within.Within.{Within}
use Rattle.bport.specs.declared.within.Within.TheVariants as within

-- the source from a place on, with these edits
abbrev pub edited : List ℕ → (at : ℕ) → List Edit → List ℕ
edited source at [] = drop at source
edited source at (e ∷ es) = drop at (take e.start source) ++ (e.text ++ edited source e.end es)

-- the first byte stands in quotes, and isn't that of an escape after its mark
abbrev pub is_in_quotes : List Within → Bool
is_in_quotes (within.String ∷ places) = true
is_in_quotes (within.Char ∷ places) = true
is_in_quotes _ = false

abbrev pub is_escape_row : Row → Bool
is_escape_row row.Escape = true
is_escape_row _ = false

-- an escape in the place of another one, by its bytes, their places, and its new text
abbrev pub is_escape : (old : List ℕ) → List Within → (new : List ℕ) → Bool
is_escape [] places new = false
is_escape (b ∷ bs) places new =
    is_in_quotes places && (not (bytes_eq new []) && bytes_eq new (escape_for (b ∷ bs)))

-- no comment and no string has the place before a byte, which stands in this, within it; nothing comes after the end
abbrev pub stands_apart : Option ℕ → Option Within → Bool
stands_apart (Some b) (Some place) = not (is_within_text place b)
stands_apart _ _ = true

-- the signs that begin a comment for others that do
abbrev pub opens_comment : (old new : List ℕ) → Bool
opens_comment old new = bytes_eq new (codes "/*") && (bytes_eq old (codes "//") || bytes_eq old (codes "#"))

-- An edit for an escape puts the same character there. Any other one takes out no byte of a comment or of a string, nor
-- what begins it, and puts nothing within it.
abbrev pub fits : List ℕ → List Within → Edit → Bool
fits source places e =
    let old = drop e.start (take e.end source) in
    let stood = drop e.start (take e.end places) in
    if is_escape_row e.row then is_escape old stood e.text && not (is_cut_short old (slice_get source e.end))
    else (list_all (λ place. not (is_own_text place)) stood
    && (stands_apart (slice_get source e.end) (slice_get places e.end) || opens_comment old e.text))

-- edits from a place on, in order, apart, within the source, and each fits
abbrev pub are_sound : List ℕ → List Within → (at : ℕ) → List Edit → Bool
are_sound source places at [] = nat_le at (length source)
are_sound source places at (e ∷ es) =
    (nat_le at e.start && nat_le e.start e.end) && (fits source places e && are_sound source places e.end es)

abbrev pub are_edits_of : List ℕ → List Edit → Bool
are_edits_of source es = are_sound source (places_of within.Start source) 0 es && are_kept source 0 0 es

-- why a source doesn't compile or load, but for want of memory
abbrev pub is_reason : ProgramFault → Bool
is_reason why.Memory = false
is_reason _ = true

-- a source compiles and loads
abbrev pub HasSomeProgram : Edition → (whole : List ℕ) → Type 0
HasSomeProgram edition whole = (ds : List Definition) × (image : Image) × HasProgram edition whole ds image

-- a source doesn't compile or load
abbrev pub IsFaulty : Edition → (whole : List ℕ) → Type 0
IsFaulty edition whole = (fault : ProgramFault) × HasNoProgram edition whole fault × (is_reason fault ≡ true)

-- a source doesn't compile in edition 1, or doesn't load without what comes after it
abbrev pub IsFaultyAlone : (own : List ℕ) → Type 0
IsFaultyAlone own = IsFaulty edition.One own

-- A program has no edit, and compiles and loads with what comes after it. Anything else doesn't, or not alone.
abbrev pub EditsIfFaulty : Edition → (own rest : List ℕ) → (is_program : Bool) → List Edit → Type 0
EditsIfFaulty edition own rest true es = HasSomeProgram edition (own ++ rest) × (es ≡ [])
EditsIfFaulty edition own rest false es = IsFaulty edition (own ++ rest) ⊎ IsFaultyAlone own
