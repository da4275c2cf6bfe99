-- Closed facts: which comments and tokens a source has, and which tokens are wrong.
use Rattle.std.specs.Prelude.{◌≡◌, ℕ, List, [], ◌∷◌, codes, map, refl, true, false}
use Rattle.bword.specs.declared.edition.Edition.TheVariants as editions
use Rattle.blang.specs.Cut.{cut, escape_of, fixed_of, greatest, keyword_of, longest, number_in, operator_of, other_of}
use Rattle.blang.specs.Cut.{tokens_from, whole, with_quoted_byte, word_token}
use Rattle.bformat.specs.Formats.{has_wrong_token}
use Rattle.bformat.specs.Pieces.{pieces_from, pieces_of}

abbrev pieces : List ℕ → List (List ℕ)
pieces source = pieces_of editions.One source

outside : map pieces (codes "a  =\t1 ;\n" ∷ codes "  " ∷ [])
    ≡ (codes "a" ∷ codes "=" ∷ codes "1" ∷ codes ";" ∷ []) ∷ [] ∷ []
unfolding pieces_from longest greatest whole word_token keyword_of number_in operator_of other_of fixed_of
outside = refl

in_quotes : map pieces (codes "f( \" x \", ' ' )" ∷ codes "'*''\"*\" \"" ∷ [])
    ≡ (codes "f" ∷ codes "(" ∷ codes "\" x \"" ∷ codes "," ∷ codes "' '" ∷ codes ")" ∷ [])
    ∷ (codes "'*''" ∷ codes "\"*\" \"" ∷ []) ∷ []
unfolding pieces_from longest greatest whole word_token keyword_of number_in operator_of other_of fixed_of escape_of with_quoted_byte
in_quotes = refl

in_comments : map pieces (codes "a/* b  c */d" ∷ codes "/*/ a */b" ∷ codes "/** ' **/ /**/" ∷ [])
    ≡ (codes "a" ∷ codes "/* b  c */" ∷ codes "d" ∷ []) ∷ (codes "/*/ a */" ∷ codes "b" ∷ [])
    ∷ (codes "/** ' **/" ∷ codes "/**/" ∷ []) ∷ []
unfolding pieces_from longest greatest whole word_token keyword_of number_in operator_of other_of fixed_of
in_comments = refl

-- blanks part words; a letter right after a number begins a word
between_words : map pieces (codes "0 07" ∷ codes "00\t\n7" ∷ codes "ab12" ∷ codes "12ab" ∷ [])
    ≡ (codes "0" ∷ codes "07" ∷ []) ∷ (codes "00" ∷ codes "7" ∷ []) ∷ (codes "ab12" ∷ []) ∷ (codes "12" ∷ codes "ab" ∷ []) ∷ []
unfolding pieces_from longest greatest whole word_token keyword_of number_in operator_of other_of fixed_of
between_words = refl

-- the slash of `=/` opens no comment, and one after another operator that ends in `=` does
after_signs : map pieces (codes "=/*b" ∷ codes "==/*b*/" ∷ codes "<=/*b*/" ∷ codes "//*b*/" ∷ codes "/ *b" ∷ [])
    ≡ (codes "=/" ∷ codes "*" ∷ codes "b" ∷ []) ∷ (codes "==" ∷ codes "/*b*/" ∷ []) ∷ (codes "<=" ∷ codes "/*b*/" ∷ [])
    ∷ (codes "/" ∷ codes "/*b*/" ∷ []) ∷ (codes "/" ∷ codes "*" ∷ codes "b" ∷ []) ∷ []
unfolding pieces_from longest greatest whole word_token keyword_of number_in operator_of other_of fixed_of
after_signs = refl

wrong_tokens : map (has_wrong_token editions.One) (codes "a 9;" ∷ codes "a @" ∷ codes "a 09;" ∷ codes "abcdefghi" ∷ [])
    ≡ false ∷ true ∷ true ∷ true ∷ []
unfolding tokens_from cut longest greatest whole word_token keyword_of number_in operator_of other_of fixed_of
wrong_tokens = refl
