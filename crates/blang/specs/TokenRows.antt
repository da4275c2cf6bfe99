-- Closed facts: each kind of token, where a rule keeps or drops its line; tokens before more than a hundred others.
use Rattle.std.specs.Prelude.{◌≡◌, ℕ, List, [], ◌∷◌, ◌++◌, map, replicate, codes, Some, None, true, false, refl}
use Rattle.std.specs.List.{range_with_len}
use Rattle.bword.specs.declared.operators.BinOp.TheVariants as op
use Rattle.blang.specs.declared.token.Keyword.{Keyword}
use Rattle.blang.specs.declared.token.Letters.TheVariants as letters
use Rattle.blang.specs.declared.token.Placed.{Placed}
use Rattle.blang.specs.declared.token.Token.{Token}
use Rattle.blang.specs.declared.token.Keyword.TheVariants as keyword
use Rattle.blang.specs.declared.token.Token.TheVariants as token
use Rattle.blang.specs.Cut.{Space, Word, placed, is_last, token_first, piece_first}
use Rattle.blang.specs.Trees.{keeps_line, mark, kept, bare}

-- words whose line a tree keeps, and the others
abbrev kept_keywords : List Keyword
kept_keywords = keyword.Case ∷ keyword.Break ∷ keyword.Default ∷ []

abbrev other_keywords : List Keyword
other_keywords =
    keyword.Auto ∷ keyword.Extrn ∷ keyword.If ∷ keyword.Else ∷ keyword.While ∷ keyword.Switch ∷ keyword.Goto
    ∷ keyword.Return ∷ []

-- tokens whose line a tree keeps, and the others
abbrev kept_ones : List Token
kept_ones =
    token.Name (codes "a") ∷ map token.Keyword kept_keywords ++ token.Operator op.Sub ∷ token.Assign None
    ∷ token.Assign (Some op.Add) ∷ token.Not ∷ token.Increment ∷ token.Decrement ∷ []

abbrev dropped_ones : List Token
dropped_ones =
    map token.Keyword other_keywords ++ token.Number 5 ∷ token.Character 5
    ∷ token.String (record { items = codes "a" }) ∷ token.Question ∷ token.Colon ∷ token.Comma ∷ token.Semicolon
    ∷ token.OpenParen ∷ token.CloseParen ∷ token.OpenBracket ∷ token.CloseBracket ∷ token.OpenBrace
    ∷ token.CloseBrace ∷ []

abbrev pub inner_ones : List Token
inner_ones = kept_ones ++ dropped_ones

-- those after which no token comes
abbrev pub last_ones : List Token
last_ones = token.Bad letters.Character ∷ token.Bad letters.Constant ∷ token.End ∷ []

abbrev pub at_line : ℕ → Token → Placed
at_line n t = record { token = t; line = n }

abbrev pub lines : List ℕ
lines = 0 ∷ 1 ∷ 2 ∷ 10 ∷ 255 ∷ 256 ∷ 257 ∷ 65535 ∷ 65536 ∷ []

places : map (λ n. map (λ t. placed t n) (inner_ones ++ last_ones)) lines
    ≡ map (λ n. map (at_line n) (inner_ones ++ last_ones)) lines
places = refl

marks : map mark (inner_ones ++ last_ones) ≡ map (at_line 0) (inner_ones ++ last_ones)
marks = refl

lines_kept : map keeps_line (kept_ones ++ dropped_ones) ≡ replicate 10 true ++ replicate 21 false
lines_kept = refl

kept_at_each_line : map (λ n. map (λ t. kept (at_line n t)) inner_ones) lines
    ≡ map (λ n. map (at_line n) kept_ones ++ map (at_line 0) dropped_ones) lines
kept_at_each_line = refl

alone : map (λ t. bare (at_line 5 t)) (inner_ones ++ last_ones) ≡ inner_ones ++ last_ones
alone = refl

lasts : map is_last (inner_ones ++ last_ones) ≡ replicate 31 false ++ replicate 3 true
lasts = refl

abbrev many : List Placed
many = map (λ n. at_line n token.Not) (range_with_len 1 150)

tokens_first : map (λ t. token_first t 256 many) (inner_ones ++ last_ones)
    ≡ map (λ t. at_line 256 t ∷ many) inner_ones ++ map (λ t. at_line 256 t ∷ []) last_ones
tokens_first = refl

pieces_first : piece_first (Some Space) 256 many ∷ map (λ t. piece_first (Some (Word t)) 256 many) inner_ones
    ≡ many ∷ map (λ t. at_line 256 t ∷ many) inner_ones
pieces_first = refl

last_pieces : map (λ t. piece_first (Some (Word t)) 256 many) last_ones ≡ map (λ t. at_line 256 t ∷ []) last_ones
last_pieces = refl
