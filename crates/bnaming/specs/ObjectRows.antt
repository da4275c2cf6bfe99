-- Closed facts: the objects of a comment and of rows, in a source of two files.
use Rattle.std.specs.Prelude.{◌≡◌, ℕ, [], ◌∷◌, ◌++◌, codes, map, None, refl, Some}
use Rattle.std.specs.Fmt.{digits}
use Rattle.bword.specs.declared.edition.Edition.TheVariants as editions
use Rattle.blang.specs.Cut.{fixed_of, greatest, keyword_of, longest, number_in, operator_of, other_of}
use Rattle.blang.specs.Cut.{whole, word_token}
use Rattle.bsources.specs.Files.{Files}
use Rattle.bnaming.specs.declared.places.Spot.{Spot}
use Rattle.bnaming.specs.declared.rows.Content.TheVariants as content
use Rattle.bnaming.specs.Names.{names_text}
use Rattle.bnaming.specs.Pieces.{pieces_from}
use Rattle.bnaming.specs.Rows.{row}
use Rattle.bnaming.specs.Texts.{declared_text, span_text, spot_text}

abbrev two_files : Files
two_files = record {
  first = record { name = codes "a"; lines = 1 };
  rest = record { name = codes "b"; lines = 1 } ∷ [];
}

abbrev longer_files : Files
longer_files = record {
  first = record { name = codes "a"; lines = 2 };
  rest = record { name = codes "b"; lines = 1 } ∷ [];
}

-- a comment and a value whose name the second file defines
objects : names_text editions.One two_files (codes "/**/n m;\nm;")
    ≡ codes "{\"comment\":1,\"at\":[\"a\",1,1,5]}\n"
    ++ codes "{\"begins\":\"definition\",\"at\":[\"a\",1,5]}\n"
    ++ codes "{\"name\":\"n\",\"role\":\"external\",\"kind\":\"external\",\"at\":[\"a\",1,5,6]}\n"
    ++ codes "{\"name\":\"m\",\"role\":\"value\",\"kind\":\"external\",\"at\":[\"a\",1,7,8],\"declared\":[\"b\",1,1]}\n"
    ++ codes "{\"token\":\";\",\"at\":[\"a\",1,8,9]}\n"
    ++ codes "{\"ends\":1,\"at\":[\"a\",1,9]}\n"
    ++ codes "{\"begins\":\"definition\",\"at\":[\"b\",1,1]}\n"
    ++ codes "{\"name\":\"m\",\"role\":\"external\",\"kind\":\"external\",\"at\":[\"b\",1,1,2]}\n"
    ++ codes "{\"token\":\";\",\"at\":[\"b\",1,2,3]}\n"
    ++ codes "{\"ends\":1,\"at\":[\"b\",1,3]}\n"
unfolding pieces_from longest greatest whole word_token keyword_of number_in operator_of other_of fixed_of digits
objects = refl

abbrev spot : (line column unit : ℕ) → Spot
spot line column unit = record { line = line; column = column; unit = unit }

-- within a line; on to the next one, of the same file and of the next one; and where units are others at either end
spans : map (λ (s : Spot × Spot). span_text longer_files s.0 s.1)
    ((spot 2 1 1, spot 2 3 3) ∷ (spot 1 4 4, spot 2 5 5) ∷ (spot 2 4 4, spot 3 5 5) ∷ (spot 1 4 3, spot 1 6 6)
    ∷ (spot 1 4 4, spot 1 6 5) ∷ (spot 1 4 3, spot 2 6 5) ∷ [])
    ≡ codes ",\"at\":[\"a\",2,1,3]" ∷ codes ",\"at\":[\"a\",1,4,2,5]" ∷ codes ",\"at\":[\"a\",2,4,1,5]"
    ∷ codes ",\"at\":[\"a\",1,4,6],\"utf16\":[3,6]" ∷ codes ",\"at\":[\"a\",1,4,6],\"utf16\":[4,5]"
    ∷ codes ",\"at\":[\"a\",1,4,2,6],\"utf16\":[3,5]" ∷ []
unfolding digits
spans = refl

-- a place, whose unit stands there where it is another one
spots : map (spot_text two_files (codes "[")) (spot 1 3 3 ∷ spot 2 3 2 ∷ [])
    ≡ codes "[\"a\",1,3]" ∷ codes "[\"b\",1,3,2]" ∷ []
unfolding digits
spots = refl

-- what is declared here, in another column and in another line
declared : map (λ (s : Spot). declared_text two_files (spot 1 3 3) (Some (row content.Ends s s)))
    (spot 1 3 3 ∷ spot 1 2 2 ∷ spot 2 3 2 ∷ [])
    ≡ [] ∷ codes ",\"declared\":[\"a\",1,2]" ∷ codes ",\"declared\":[\"b\",1,3,2]" ∷ []
unfolding digits
declared = refl

undeclared : declared_text two_files (spot 1 3 3) None ≡ []
undeclared = refl
