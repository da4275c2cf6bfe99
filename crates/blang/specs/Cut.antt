-- Promise: the cut of a source into tokens: what a whole piece of it is, and each piece the longest at its place.
use Rattle.std.specs.Prelude.{ℕ, ◌+◌, ◌-◌, ◌*◌, Bool, true, false, ◌&&◌, ◌||◌, ◌==◌, nat_le, nat_lt, List, [], ◌∷◌}
use Rattle.std.specs.Prelude.{◌++◌, length, take, drop, fold, codes, nat_eq, Option, Some, None, if◌then◌else◌, suc}
use Rattle.std.specs.Prelude.{zero, min, is_some}
use Rattle.std.specs.List.{list_all, find}
use Rattle.std.specs.Map.{lookup}
use Rattle.std.specs.Option.{option_map, option_or}
use Rattle.std.specs.Cmp.Lexicographic.{pointwise}
use Rattle.bword.specs.Words.{is_name_start, is_name_byte, operators, operator_text}
use Rattle.bword.specs.declared.operators.BinOp.{BinOp}
use Rattle.bword.specs.declared.edition.Edition.{Edition}
use Rattle.bword.specs.ByteEnds.{most}
use Rattle.bword.specs.declared.edition.Edition.TheVariants as editions
use Rattle.blang.specs.declared.token.TheConstants.{STRING_LEN}
use Rattle.blang.specs.declared.token.Keyword.{Keyword}
use Rattle.blang.specs.declared.token.Token.{Token}
use Rattle.blang.specs.declared.token.Placed.{Placed}
use Rattle.blang.specs.declared.token.Keyword.TheVariants as keyword
use Rattle.blang.specs.declared.token.Token.TheVariants as token
use Rattle.blang.specs.declared.token.Letters.TheVariants as letters

-- what a piece is: space, which is no token, or a token
pub data Piece : Type 0 where
  Space : Piece
  Word : Token → Piece

abbrev pub is_text : List ℕ → List ℕ → Bool
is_text = pointwise nat_eq

-- space, tab and newline
abbrev pub is_blank : ℕ → Bool
is_blank b = (b == 32) || ((b == 9) || (b == 10))

-- a piece of one byte
abbrev pub alone : Piece → List ℕ → Option Piece
alone piece [] = Some piece
alone piece (b ∷ bs) = None

abbrev pub piece_when : Bool → Piece → Option Piece
piece_when b piece = if b then Some piece else None

-- Words.

abbrev pub first_keywords : List (List ℕ × Keyword)
first_keywords =
    (codes "auto", keyword.Auto) ∷ (codes "extrn", keyword.Extrn) ∷ (codes "case", keyword.Case) ∷
    (codes "if", keyword.If) ∷ (codes "else", keyword.Else) ∷ (codes "while", keyword.While) ∷
    (codes "switch", keyword.Switch) ∷ (codes "goto", keyword.Goto) ∷ (codes "return", keyword.Return) ∷ []

-- the words that are no names
abbrev pub keywords : Edition → List (List ℕ × Keyword)
keywords editions.One = first_keywords
keywords editions.Two = (codes "break", keyword.Break) ∷ (codes "default", keyword.Default) ∷ first_keywords

unfoldable pub keyword_of : Edition → List ℕ → Option Keyword
keyword_of edition text = lookup (is_text text) (keywords edition)

abbrev pub keyword_or_name : List ℕ → Option Keyword → Token
keyword_or_name text (Some k) = token.Keyword k
keyword_or_name text None = token.Name text

-- a run of letters, underscores and digits: a keyword, else a name of at most eight characters
unfoldable pub word_token : Edition → List ℕ → Token
word_token edition text =
    if nat_le (length text) 8 then keyword_or_name text (keyword_of edition text) else token.Bad letters.LongName

-- Numbers.

abbrev pub is_digit : ℕ → Bool
is_digit b = nat_le 48 b && nat_le b 57

-- the number of these digits
abbrev pub digits_value : ℕ → List ℕ → ℕ
digits_value base digits = fold (λ value digit. value * base + (digit - 48)) 0 digits

-- a digit below the base
abbrev pub is_digit_of : ℕ → ℕ → Bool
is_digit_of base b = nat_lt (b - 48) base

-- the base of a number that begins with this byte: octal after a 0
abbrev pub base_of : ℕ → ℕ
base_of b = if b == 48 then 8 else 10

-- a number that is at most 65535, if its digits are right
abbrev pub number_when : Bool → ℕ → Token
number_when is_right value = if is_right && nat_le value 65535 then token.Number value else token.Bad letters.Constant

-- a run of digits of a base: of that base alone, and at most 65535
unfoldable pub number_in : ℕ → List ℕ → Token
number_in base digits = number_when (list_all (is_digit_of base) digits) (digits_value base digits)

abbrev pub number_token : List ℕ → Token
number_token [] = token.Bad letters.Constant
number_token (b ∷ bs) = number_in (base_of b) (b ∷ bs)

-- Comments.

-- what follows the first "*/", if there is one
abbrev pub after_close : List ℕ → Option (List ℕ)
after_close [] = None
after_close (a ∷ []) = None
after_close (a ∷ b ∷ bs) = if (a == 42) && (b == 47) then Some bs else after_close (b ∷ bs)

-- the body of a comment ends with the first "*/", or never ends
abbrev pub comment_of : Option (List ℕ) → Option Piece
comment_of None = Some (Word (token.Bad letters.OpenComment))
comment_of (Some []) = Some Space
comment_of (Some (b ∷ bs)) = None

-- Constants in quotes.

-- in quotes a tab and what can be printed is itself, if it is neither a star nor the quote
abbrev pub plain_of : ℕ → Option ℕ
plain_of b = if (b == 9) || (nat_le 32 b && nat_le b 126) then Some b else None

-- what comes after the star of an escape, and the byte that the escape means
abbrev pub escapes : List (List ℕ × ℕ)
escapes =
    (codes "0", 0) ∷ (codes "e", 4) ∷ (codes "(", 123) ∷ (codes ")", 125) ∷ (codes "n", 10) ∷ (codes "t", 9) ∷
    (codes "*", 42) ∷ (codes "'", 39) ∷ (codes "\"", 34) ∷ []

unfoldable pub escape_of : ℕ → Option ℕ
escape_of b = lookup (is_text (b ∷ [])) escapes

-- What the bytes after an opening quote are so far.
pub data Quoted : Type 0 where
  -- characters, and the star of an escape too
  Open : (characters : List ℕ) → Quoted
  Starred : (characters : List ℕ) → Quoted
  -- characters and the closing quote
  Closed : (characters : List ℕ) → Quoted
  -- a byte that doesn't fit
  Wrong : Quoted
  -- bytes after a closing quote or a byte that doesn't fit
  Past : Quoted

-- the same with a character more
abbrev pub with_character : List ℕ → Option ℕ → Quoted
with_character characters None = Wrong
with_character characters (Some b) = Open (characters ++ b ∷ [])

-- the same with a byte more, where there is room for so many characters between these quotes
unfoldable pub with_quoted_byte : ℕ → ℕ → Quoted → ℕ → Quoted
with_quoted_byte quote room (Open characters) b =
    if b == quote then Closed characters else
    if length characters == room then Wrong else
    if b == 42 then Starred characters else
    with_character characters (plain_of b)
with_quoted_byte quote room (Starred characters) b = with_character characters (escape_of b)
with_quoted_byte quote room _ b = Past

abbrev pub quoted : ℕ → ℕ → List ℕ → Quoted
quoted quote room bytes = fold (with_quoted_byte quote room) (Open []) bytes

-- a constant whose characters are closed; one that is still open, or has a byte that doesn't fit, is wrong
abbrev pub quoted_constant : (List ℕ → Token) → Quoted → Option Piece
quoted_constant constant (Closed characters) = Some (Word (constant characters))
quoted_constant constant Past = None
quoted_constant constant _ = Some (Word (token.Bad letters.Constant))

-- one character is its byte, of two the first is the high byte
abbrev pub character_token : List ℕ → Token
character_token (a ∷ []) = token.Character a
character_token (a ∷ b ∷ []) = token.Character (a * 256 + b)
character_token _ = token.Bad letters.Constant

abbrev pub string_token : List ℕ → Token
string_token characters = token.String (record { items = characters })

-- Operators and the like.

unfoldable pub operator_of : List ℕ → Option BinOp
operator_of text = find (λ op. is_text text (operator_text op)) operators

-- `=` directly followed by a binary operator
abbrev pub assignment_of : List ℕ → Option Token
assignment_of [] = None
assignment_of (b ∷ bs) = if b == 61 then option_map (λ op. token.Assign (Some op)) (operator_of bs) else None

abbrev pub others : List (List ℕ × Token)
others =
    (codes "=", token.Assign None) ∷ (codes "!", token.Not) ∷ (codes "++", token.Increment) ∷
    (codes "--", token.Decrement) ∷ (codes "?", token.Question) ∷ (codes ":", token.Colon) ∷
    (codes ",", token.Comma) ∷ (codes ";", token.Semicolon) ∷ (codes "(", token.OpenParen) ∷
    (codes ")", token.CloseParen) ∷ (codes "[", token.OpenBracket) ∷ (codes "]", token.CloseBracket) ∷
    (codes "{", token.OpenBrace) ∷ (codes "}", token.CloseBrace) ∷ []

unfoldable pub other_of : List ℕ → Option Token
other_of text = lookup (is_text text) others

-- a token whose text is always the same
unfoldable pub fixed_of : List ℕ → Option Token
fixed_of text =
    option_or (option_map token.Operator (operator_of text)) (option_or (assignment_of text) (other_of text))

-- a token, or a byte alone where nothing fits
abbrev pub fixed_or_stray : Option Token → List ℕ → Option Piece
fixed_or_stray (Some t) bs = Some (Word t)
fixed_or_stray None bs = alone (Word (token.Bad letters.Character)) bs

-- What the bytes are, all of them as one piece. No byte is the end, and each byte begins some piece.
unfoldable pub whole : Edition → List ℕ → Option Piece
whole edition [] = Some (Word token.End)
whole edition (b ∷ bs) =
    if is_blank b then alone Space bs else
    if is_name_start b then piece_when (list_all is_name_byte bs) (Word (word_token edition (b ∷ bs))) else
    if is_digit b then piece_when (list_all is_digit bs) (Word (number_token (b ∷ bs))) else
    if b == 39 then quoted_constant character_token (quoted 39 2 bs) else
    if b == 34 then quoted_constant string_token (quoted 34 STRING_LEN bs) else
    if is_text (take 2 (b ∷ bs)) (codes "/*") then comment_of (after_close (drop 1 bs)) else
    fixed_or_stray (fixed_of (b ∷ bs)) bs

-- the greatest number up to n that passes, or 0
unfoldable pub greatest : (ℕ → Bool) → ℕ → ℕ
greatest p zero = 0
greatest p (suc n) = if p (suc n) then suc n else greatest p n

-- the length of the longest piece that the bytes begin with, or 0
unfoldable pub longest : Edition → List ℕ → ℕ
longest edition bytes = greatest (λ n. is_some (whole edition (take n bytes))) (length bytes)

-- the line after a byte: a newline begins the next one, if there is a number for it
abbrev pub next_line : ℕ → ℕ → ℕ
next_line line byte = if byte == 10 then min (line + 1) most else line

-- the line after a text
abbrev pub line_number_after : ℕ → List ℕ → ℕ
line_number_after line [] = line
line_number_after line (b ∷ bs) = line_number_after (next_line line b) bs

abbrev pub placed : Token → ℕ → Placed
placed t line = record { token = t; line = line }

-- the end of a source, or a piece that is wrong: no token comes after it
abbrev pub is_last : Token → Bool
is_last (token.Bad letters) = true
is_last token.End = true
is_last _ = false

abbrev pub token_first : Token → ℕ → List Placed → List Placed
token_first t line rest = placed t line ∷ (if is_last t then [] else rest)

-- the tokens from a piece on, with those after it; there is always a piece
abbrev pub piece_first : Option Piece → ℕ → List Placed → List Placed
piece_first None line rest = placed (token.Bad letters.Character) line ∷ []
piece_first (Some Space) line rest = rest
piece_first (Some (Word t)) line rest = token_first t line rest

-- The tokens of the bytes from this line on, of which there are at most as many as the fuel.
unfoldable pub cut : Edition → ℕ → ℕ → List ℕ → List Placed
cut edition zero line bytes = placed token.End line ∷ []
cut edition (suc fuel) line [] = placed token.End line ∷ []
cut edition (suc fuel) line (b ∷ bs) =
    let n = longest edition (b ∷ bs) in
    let text = take n (b ∷ bs) in
    piece_first (whole edition text) line (cut edition fuel (line_number_after line text) (drop n (b ∷ bs)))

-- the tokens of a source from this line on
unfoldable pub tokens_from : Edition → ℕ → List ℕ → List Placed
tokens_from edition line bytes = cut edition (length bytes) line bytes
