-- Promise: the places before the comments and tokens of the line of a fault, and a `;` at one of them.
use Rattle.std.specs.Prelude.{◌≡◌, ℕ, ◌==◌, List, [], ◌∷◌, ◌++◌, codes, drop, take, Option, Some, None, if◌then◌else◌}
use Rattle.bword.specs.declared.edition.Edition.{Edition}
use Rattle.blang.specs.declared.token.Diagnostic.{Diagnostic}
use Rattle.blex.specs.declared.scanner.PlacedPiece.{PlacedPiece}
use Rattle.bcheck.specs.Tokens.{pieces_of}
use Rattle.bcheck.specs.declared.change.Change.{Change}

-- the place, if what comes after it is on this line
abbrev pub boundary_on : (line place : ℕ) → PlacedPiece → List ℕ
boundary_on line place p = if p.line == line then place ∷ [] else []

-- the place before each of these pieces that is on this line, right after the piece before it
abbrev pub boundaries : (line last : ℕ) → List PlacedPiece → List ℕ
boundaries line last [] = []
boundaries line last (p ∷ ps) = boundary_on line last p ++ boundaries line p.end ps

-- those on the line of a fault of a source
abbrev pub fault_boundaries : Edition → List ℕ → Option Diagnostic → List ℕ
fault_boundaries edition source None = []
fault_boundaries edition source (Some d) = boundaries d.line 0 (pieces_of edition source)

abbrev pub semicolon : List ℕ
semicolon = codes ";"

-- a text with a `;` at a place, and the change that puts it there
abbrev pub with_semicolon : List ℕ → (place : ℕ) → List ℕ
with_semicolon text place = take place text ++ (semicolon ++ drop place text)

abbrev pub PutsSemicolon : (place : ℕ) → Change → Type 0
PutsSemicolon place c = (c.start ≡ place) × (c.len ≡ 0) × (c.text ≡ semicolon)
