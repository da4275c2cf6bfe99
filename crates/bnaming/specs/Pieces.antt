-- Promise: the comments and tokens of a source, each with its places.
use Rattle.std.specs.Prelude.{ℕ, zero, suc, Bool, true, false, List, [], ◌∷◌, length, Option, None, Some, if◌then◌else◌}
use Rattle.bword.specs.declared.edition.Edition.{Edition}
use Rattle.blex.specs.declared.lexeme.Lexeme.{Lexeme}
use Rattle.blex.specs.declared.lexeme.Lexeme.TheVariants as lexeme
use Rattle.blex.specs.declared.scanner.PlacedPiece.{PlacedPiece}
use Rattle.blex.specs.Places.{next_piece}
use Rattle.btree.specs.declared.sorts.Sort.{Sort}
use Rattle.btree.specs.Machine.{sort_of_lexeme}
use Rattle.bnaming.specs.declared.reading.Comment.{Comment}
use Rattle.bnaming.specs.declared.reading.Piece.{Piece}
use Rattle.bnaming.specs.declared.reading.PlacedToken.{PlacedToken}
use Rattle.bnaming.specs.Spots.{spot_at}

abbrev pub is_end : Option Lexeme → Bool
is_end (Some lexeme.End) = true
is_end _ = false

abbrev pub placed : (source : List ℕ) → PlacedPiece → Piece
placed source p = record { lexeme = p.lexeme; first = spot_at source p.first; end = spot_at source p.end }

-- those from a place on, of which there are at most as many as the fuel
unfoldable pub pieces_from : Edition → (fuel : ℕ) → List ℕ → (at : ℕ) → List Piece
pieces_from edition zero source at = []
pieces_from edition (suc fuel) source at =
    let p = next_piece edition source at in
    if is_end p.lexeme then [] else placed source p ∷ pieces_from edition fuel source p.end

-- all of them, also those that are wrong
abbrev pub pieces_of : Edition → List ℕ → List Piece
pieces_of edition source = pieces_from edition (length source) source 0

abbrev token_with : Option Lexeme → Piece → Option PlacedToken
token_with (Some (lexeme.Bad letters)) p = None
token_with (Some l) p = Some (record { lexeme = l; first = p.first; end = p.end })
token_with None p = None

-- a piece as a token; what is wrong is none
abbrev pub token_in : Piece → Option PlacedToken
token_in p = token_with p.lexeme p

abbrev comment_with : Option Lexeme → Piece → Option Comment
comment_with (Some l) p = None
comment_with None p = Some (record { first = p.first; end = p.end })

-- a piece as a comment
abbrev pub comment_in : Piece → Option Comment
comment_in p = comment_with p.lexeme p

abbrev pub sort_in : PlacedToken → Sort
sort_in t = sort_of_lexeme t.lexeme
