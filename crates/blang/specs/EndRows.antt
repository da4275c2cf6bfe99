-- Closed facts: the tokens that bytes end with.
use Rattle.std.specs.Prelude.{◌≡◌, ℕ, List, [], ◌∷◌, map, replicate, codes, Option, Some, refl}
use Rattle.std.specs.List.{flat_map}
use Rattle.bword.specs.declared.edition.Edition.TheVariants as editions
use Rattle.bword.specs.declared.operators.BinOp.TheVariants as op
use Rattle.blang.specs.Cut.{Piece, Word, whole, word_token, keyword_of, number_in, with_quoted_byte, operator_of}
use Rattle.blang.specs.Cut.{other_of, fixed_of, string_token}
use Rattle.blang.specs.declared.token.Token.{Token}
use Rattle.blang.specs.declared.token.Token.TheVariants as token
use Rattle.blang.specs.declared.token.Keyword.TheVariants as keyword
use Rattle.blang.specs.declared.token.Letters.TheVariants as letters
use Rattle.blang.specs.Endings.{EndsWith}

-- the bytes, and all that they end with
abbrev tails : List ℕ → List (List ℕ)
tails [] = [] ∷ []
tails (b ∷ bs) = (b ∷ bs) ∷ tails bs

abbrev token_in : Option Piece → List Token
token_in (Some (Word t)) = t ∷ []
token_in _ = []

-- the tokens that bytes end with, that of the longest text first
abbrev endings : List ℕ → List Token
endings bytes = flat_map (λ text. token_in (whole editions.One text)) (tails bytes)

abbrev name : List ℕ → Token
name text = token.Name text

-- The end of a source is after all bytes. A name is no longer after blanks or a comment: that ends with a slash.
of_a_name : map endings (codes "a;bc" ∷ codes "a;bc " ∷ codes "a;bc\n" ∷ codes "bc/* d */" ∷ [])
    ≡ (name (codes "bc") ∷ name (codes "c") ∷ token.End ∷ []) ∷ (token.End ∷ []) ∷ (token.End ∷ [])
    ∷ (token.Operator op.Div ∷ token.End ∷ []) ∷ []
unfolding whole word_token keyword_of operator_of other_of fixed_of
of_a_name = refl

-- Nor is it with the token after, if that doesn't end so.
of_the_next : map endings (codes "bc(" ∷ codes "bc 7" ∷ codes "bc\"d\"" ∷ [])
    ≡ (token.OpenParen ∷ token.End ∷ []) ∷ (token.Number 7 ∷ token.End ∷ [])
    ∷ (string_token (codes "d") ∷ token.Bad letters.Constant ∷ token.End ∷ []) ∷ []
unfolding whole word_token keyword_of number_in with_quoted_byte operator_of other_of fixed_of
of_the_next = refl

-- A wrong byte looks like each of its kind.
of_wrong_bytes : map endings (codes "bc#" ∷ codes "bc# d#" ∷ [])
    ≡ replicate 2 (token.Bad letters.Character ∷ token.End ∷ [])
unfolding whole word_token keyword_of operator_of other_of fixed_of
of_wrong_bytes = refl

-- The two editions differ in two words alone, which are other tokens in each.
abbrev in_both : List ℕ → List (Option Piece)
in_both text = map (λ e. whole e text) (editions.One ∷ editions.Two ∷ [])

of_editions : map in_both (codes "break" ∷ codes "case" ∷ codes "brea" ∷ [])
    ≡ (Some (Word (name (codes "break"))) ∷ Some (Word (token.Keyword keyword.Break)) ∷ [])
    ∷ replicate 2 (Some (Word (token.Keyword keyword.Case)))
    ∷ replicate 2 (Some (Word (name (codes "brea")))) ∷ []
unfolding whole word_token keyword_of
of_editions = refl

a_name_ends : EndsWith editions.One (name (codes "bc")) (codes "a; bc")
unfolding whole word_token keyword_of
a_name_ends = record { before = codes "a; "; text = codes "bc"; split = refl; is = refl }
