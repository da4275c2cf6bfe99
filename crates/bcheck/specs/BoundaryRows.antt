-- Closed facts: between which comments and tokens a `;` is tried, and what it makes of a text.
use Rattle.std.specs.Prelude.{◌≡◌, ℕ, Some, None, [], ◌∷◌, codes, map, refl}
use Rattle.bword.specs.declared.edition.Edition.TheVariants as editions
use Rattle.blang.specs.declared.token.About.TheVariants as about
use Rattle.blang.specs.declared.token.Diagnostic.{Diagnostic}
use Rattle.blang.specs.declared.token.Letters.TheVariants as letters
use Rattle.blang.specs.Cut.{escape_of, fixed_of, greatest, keyword_of, longest, number_in, operator_of, other_of, whole}
use Rattle.blang.specs.Cut.{with_quoted_byte, word_token}
use Rattle.bcheck.specs.Boundaries.{fault_boundaries, boundaries, with_semicolon}
use Rattle.bcheck.specs.Tokens.{pieces_from, pieces_of}

-- before the first token of a line, between two, and before the end; no line 0
by_line : map (λ line. boundaries line 0 (pieces_of editions.One (codes "a b\nc;\n"))) (0 ∷ 1 ∷ 2 ∷ 3 ∷ 4 ∷ [])
    ≡ [] ∷ (0 ∷ 1 ∷ []) ∷ (3 ∷ 5 ∷ []) ∷ (6 ∷ []) ∷ [] ∷ []
unfolding pieces_from longest greatest whole word_token keyword_of number_in operator_of other_of fixed_of escape_of
    with_quoted_byte
by_line = refl

-- before a comment, after it, and over lines that have nothing; none after a wrong token
beside : map (λ source. boundaries 1 0 (pieces_of editions.One source)) (codes "a/*c*/b" ∷ [] ∷ codes "a @ b" ∷ [])
    ≡ (0 ∷ 1 ∷ 6 ∷ 7 ∷ []) ∷ (0 ∷ []) ∷ (0 ∷ 1 ∷ []) ∷ []
unfolding pieces_from longest greatest whole word_token keyword_of number_in operator_of other_of fixed_of escape_of
    with_quoted_byte
beside = refl

after_lines : boundaries 3 0 (pieces_of editions.One (codes "a\n\nb")) ≡ 1 ∷ 4 ∷ []
unfolding pieces_from longest greatest whole word_token keyword_of number_in operator_of other_of fixed_of escape_of
    with_quoted_byte
after_lines = refl

abbrev syntax_on : ℕ → Diagnostic
syntax_on line = record { letters = letters.Syntax; about = about.Nothing; line = line }

-- on the line of a fault, whatever that line is
by_fault : map (λ line. fault_boundaries editions.One (codes "a b\nc;\n") (Some (syntax_on line)))
    (0 ∷ 1 ∷ 2 ∷ 3 ∷ 4 ∷ [])
    ≡ [] ∷ (0 ∷ 1 ∷ []) ∷ (3 ∷ 5 ∷ []) ∷ (6 ∷ []) ∷ [] ∷ []
unfolding pieces_from longest greatest whole word_token keyword_of number_in operator_of other_of fixed_of escape_of
    with_quoted_byte
by_fault = refl

no_fault : fault_boundaries editions.One (codes "a b") None ≡ []
no_fault = refl

-- at the first place, between two bytes, at the end and past it
put : map (with_semicolon (codes "ab")) (0 ∷ 1 ∷ 2 ∷ 3 ∷ [])
    ≡ codes ";ab" ∷ codes "a;b" ∷ codes "ab;" ∷ codes "ab;" ∷ []
put = refl
