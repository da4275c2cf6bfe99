-- Closed facts: where the comments and tokens of some sources stand.
use Rattle.std.specs.Prelude.{◌≡◌, ℕ, List, [], ◌∷◌, Option, Some, None, codes, map, refl}
use Rattle.bword.specs.declared.edition.Edition.TheVariants as editions
use Rattle.bword.specs.declared.operators.BinOp.TheVariants as op
use Rattle.blang.specs.declared.token.Keyword.TheVariants as keyword
use Rattle.blang.specs.declared.token.Letters.TheVariants as letters
use Rattle.blang.specs.Cut.{fixed_of, greatest, keyword_of, longest, number_in, operator_of, other_of, whole, word_token}
use Rattle.blang.specs.Cut.{escape_of, with_quoted_byte}
use Rattle.blex.specs.declared.lexeme.Lexeme.{Lexeme}
use Rattle.blex.specs.declared.lexeme.Lexeme.TheVariants as lexeme
use Rattle.blex.specs.Places.{next_piece}

-- what comes next after a place: its first byte and its end, and its line
abbrev next_at : List ℕ → ℕ → ℕ × ℕ × ℕ
next_at source at = let p = next_piece editions.One source at in (p.first, p.end, p.line)

abbrev lexeme_at : List ℕ → ℕ → Option Lexeme
lexeme_at source at = (next_piece editions.One source at).lexeme

abbrev small : List ℕ
small = codes "ab /*\n*/\t=-1\n"

-- a token, the middle of it, a comment after a blank, tokens right after one another, and the end
places : map (next_at small) (0 ∷ 1 ∷ 2 ∷ 8 ∷ 11 ∷ 12 ∷ 13 ∷ [])
    ≡ (0, 2, 1) ∷ (1, 2, 1) ∷ (3, 8, 1) ∷ (9, 11, 2) ∷ (11, 12, 2) ∷ (13, 13, 3) ∷ (13, 13, 3) ∷ []
unfolding longest greatest whole word_token keyword_of number_in operator_of other_of fixed_of
places = refl

lexemes : map (lexeme_at small) (0 ∷ 2 ∷ 8 ∷ 11 ∷ 12 ∷ [])
    ≡ Some (lexeme.Name (codes "ab")) ∷ None ∷ Some (lexeme.Assign (Some op.Sub)) ∷ Some (lexeme.Number 1) ∷ Some lexeme.End ∷ []
unfolding longest greatest whole word_token keyword_of number_in operator_of other_of fixed_of
lexemes = refl

-- a string with an escaped quote, a wrong constant up to what doesn't fit, and a comment without an end
quoted_places : map (λ source. next_at source 0) (codes "\"*\"/**/\" x" ∷ codes "'abc'" ∷ codes " /* a" ∷ []) ≡ (0, 8, 1) ∷ (0, 4, 1) ∷ (1, 5, 1) ∷ []
unfolding longest greatest whole word_token keyword_of number_in operator_of other_of fixed_of escape_of with_quoted_byte
quoted_places = refl

quoted_lexemes : map (λ source. lexeme_at source 0) (codes "\"*\"/**/\" x" ∷ codes "'abc'" ∷ codes " /* a" ∷ [])
    ≡ Some lexeme.String ∷ Some (lexeme.Bad letters.Constant) ∷ Some (lexeme.Bad letters.OpenComment) ∷ []
unfolding longest greatest whole word_token keyword_of number_in operator_of other_of fixed_of escape_of with_quoted_byte
quoted_lexemes = refl

-- one of each kind of token that has no row above
abbrev sources_of_kinds : List (List ℕ)
sources_of_kinds =
    codes "goto" ∷ codes "'a'" ∷ codes "<=" ∷ codes "=" ∷ codes "!" ∷ codes "++" ∷ codes "--" ∷ codes "?" ∷ codes ":"
    ∷ codes "," ∷ codes ";" ∷ codes "(" ∷ codes ")" ∷ codes "[" ∷ codes "]" ∷ codes "{" ∷ codes "}" ∷ codes "@" ∷ []

lexemes_of_kinds : map (λ source. lexeme_at source 0) sources_of_kinds
    ≡ map Some (lexeme.Keyword keyword.Goto ∷ lexeme.Character 97 ∷ lexeme.Operator op.Le ∷ lexeme.Assign None
    ∷ lexeme.Not ∷ lexeme.Increment ∷ lexeme.Decrement ∷ lexeme.Question ∷ lexeme.Colon ∷ lexeme.Comma
    ∷ lexeme.Semicolon ∷ lexeme.OpenParen ∷ lexeme.CloseParen ∷ lexeme.OpenBracket ∷ lexeme.CloseBracket
    ∷ lexeme.OpenBrace ∷ lexeme.CloseBrace ∷ lexeme.Bad letters.Character ∷ [])
unfolding longest greatest whole word_token keyword_of number_in operator_of other_of fixed_of escape_of with_quoted_byte
lexemes_of_kinds = refl
