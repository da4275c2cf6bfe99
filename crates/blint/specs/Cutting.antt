-- Inner words: what a cut of a source has.
use Rattle.std.specs.Prelude.{◌≡◌, List, [], ◌++◌}
use Rattle.std.specs.List.{cons_option}
use Rattle.blex.specs.declared.scanner.PlacedPiece.{PlacedPiece}
use Rattle.blint.specs.declared.cutting.CutSource.{CutSource}
use Rattle.blint.specs.SourceTokens.{PlacedToken, lexemes_in, token_places, token_of}

abbrev pub Cuts : List PlacedToken → CutSource → Type 0
Cuts ts c = (c.lexemes.items ≡ lexemes_in ts) × (c.places.items ≡ token_places ts)

-- and one more, if the piece is one
abbrev pub TakesPiece : PlacedPiece → (old new : CutSource) → Type 0
TakesPiece p old new =
    (new.lexemes.items ≡ old.lexemes.items ++ lexemes_in (cons_option (token_of p) []))
    × (new.places.items ≡ old.places.items ++ token_places (cons_option (token_of p) []))
