-- Promise: the sections of a source after a fault. Each begins where a function does, and ends where the next one does.
use Rattle.std.specs.Prelude.{◌≡◌, ℕ, zero, suc, ◌-◌, ◌==◌, ◌&&◌, Bool, true, false, nat_lt, List, [], ◌∷◌, ◌++◌}
use Rattle.std.specs.Prelude.{length, take, drop, slice_index_or, Option, Some, None, if◌then◌else◌}
use Rattle.std.specs.List.{AllZip, list_any}
use Rattle.std.specs.Option.{option_or}
use Rattle.bword.specs.declared.edition.Edition.{Edition}
use Rattle.blang.specs.Compiles.{Compilation, CompilesTo}
use Rattle.blang.specs.Cut.{tokens_from}
use Rattle.blang.specs.declared.token.Diagnostic.{Diagnostic}
use Rattle.blex.specs.declared.lexeme.Lexeme.{Lexeme}
use Rattle.blex.specs.declared.lexeme.Lexeme.TheVariants as lexeme
use Rattle.blex.specs.declared.scanner.PlacedPiece.{PlacedPiece}
use Rattle.blex.specs.Places.{next_piece}

abbrev pub is_any_name : Option Lexeme → Bool
is_any_name (Some (lexeme.Name name)) = true
is_any_name l = false

-- what may come before the `{` of a function: names, commas, parentheses and comments
abbrev pub is_in_head : Option Lexeme → Bool
is_in_head None = true
is_in_head (Some (lexeme.Name name)) = true
is_in_head (Some lexeme.Comma) = true
is_in_head (Some lexeme.OpenParen) = true
is_in_head (Some lexeme.CloseParen) = true
is_in_head l = false

-- a place at the beginning of a line
abbrev pub is_first_column : List ℕ → (place : ℕ) → Bool
is_first_column source zero = true
is_first_column source (suc before) = slice_index_or source before 10 == 10

-- The head of a function begins with a name in the first column, here of a line after this one.
abbrev pub begins_head : (line : ℕ) → List ℕ → PlacedPiece → Bool
begins_head line source p = is_any_name p.lexeme && (nat_lt line p.line && is_first_column source p.first)

abbrev pub place_if : Bool → ℕ → Option ℕ
place_if b place = if b then Some place else None

-- where the head began that goes on after a comment or token, if one does
abbrev pub head_after : (line : ℕ) → List ℕ → (head : Option ℕ) → PlacedPiece → Option ℕ
head_after line source head p =
    if is_in_head p.lexeme then option_or head (place_if (begins_head line source p) p.first) else None

-- where the function begins whose `{` comes after this head
abbrev pub opened : (head : Option ℕ) → Option Lexeme → List ℕ
opened (Some place) (Some lexeme.OpenBrace) = place ∷ []
opened head l = []

abbrev pub is_end : Option Lexeme → Bool
is_end (Some lexeme.End) = true
is_end l = false

-- Where functions begin, whose `{` comes from a place on; there are at most as many comments and tokens as the fuel.
-- What is wrong is one of them, and others come after it.
unfoldable pub places_from : Edition → (line fuel : ℕ) → List ℕ → (head : Option ℕ) → (at : ℕ) → List ℕ
places_from edition line zero source head at = []
places_from edition line (suc fuel) source head at =
    let p = next_piece edition source at in
    opened head p.lexeme
    ++ (if is_end p.lexeme then [] else places_from edition line fuel source (head_after line source head p) p.end)

abbrev pub head_places : Edition → (line : ℕ) → List ℕ → List ℕ
head_places edition line source = places_from edition line (suc (length source)) source None 0

abbrev pub has_return : List ℕ → Bool
has_return source = list_any (λ b. b == 13) source

-- Where functions begin on lines after this one. Of a source with carriage returns, which are a fault of each line, no
-- place is known.
abbrev pub section_places : Edition → (line : ℕ) → List ℕ → List ℕ
section_places edition line source =
    if has_return source then [] else head_places edition line source

-- a section, and what comes before it
pub record Section : Type 0 where
  pub before : List ℕ
  pub text : List ℕ

-- the first of these places, or the end of the source
abbrev pub section_end : List ℕ → List ℕ → ℕ
section_end source [] = length source
section_end source (place ∷ places) = place

-- from a place up to this end
abbrev pub section_at : List ℕ → (place end : ℕ) → Section
section_at source place end = record { before = take place source; text = take (end - place) (drop place source) }

abbrev pub sections_at : List ℕ → (places : List ℕ) → List Section
sections_at source [] = []
sections_at source (place ∷ places) = section_at source place (section_end source places) ∷ sections_at source places

-- the sections after a line
abbrev pub sections : Edition → (line : ℕ) → List ℕ → List Section
sections edition line source = sections_at source (section_places edition line source)

-- A text alone comes to this diagnostic, or to none.
abbrev pub StopsAlone : Edition → (text : List ℕ) → Option Diagnostic → Type 0
StopsAlone edition text stop = (r : Compilation) → CompilesTo [] (tokens_from edition 1 text) r → r.stop ≡ stop

abbrev pub StopsEach : Edition → List Section → List (Option Diagnostic) → Type 0
StopsEach edition ss stops = AllZip (λ s stop. StopsAlone edition s.text stop) ss stops

-- the sections with a diagnostic, each with it
abbrev pub at_fault : List Section → List (Option Diagnostic) → List (Section × Diagnostic)
at_fault (s ∷ ss) (Some d ∷ stops) = (s, d) ∷ at_fault ss stops
at_fault (s ∷ ss) (None ∷ stops) = at_fault ss stops
at_fault ss stops = []
