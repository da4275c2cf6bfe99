-- Closed facts: what each of the 256 bytes is in a source, in each place where a rule looks at a byte. Long runs,
-- strings and comments.
use Rattle.std.specs.Prelude.{◌≡◌, ◌+◌, ◌*◌, ℕ, List, [], ◌∷◌, ◌++◌, map, filter, replicate, codes, Option, Some, None}
use Rattle.std.specs.Prelude.{take, true, false, decimal, is_some, refl}
use Rattle.std.specs.Fmt.{digits}
use Rattle.std.specs.List.{range_with_len}
use Rattle.bword.specs.ByteEnds.{most}
use Rattle.bword.specs.declared.edition.Edition.TheVariants as editions
use Rattle.bword.specs.declared.operators.BinOp.TheVariants as op
use Rattle.blang.specs.declared.token.Token.{Token}
use Rattle.blang.specs.declared.token.Keyword.TheVariants as keyword
use Rattle.blang.specs.declared.token.Letters.TheVariants as letters
use Rattle.blang.specs.declared.token.Token.TheVariants as token
use Rattle.blang.specs.Cut.{Piece, Space, Word, whole, is_digit, is_digit_of, base_of, plain_of, escape_of, keyword_of}
use Rattle.blang.specs.Cut.{Quoted, Open, Starred, Closed, Wrong, Past, with_quoted_byte, character_token, string_token}
use Rattle.blang.specs.Cut.{number_token, number_in, next_line, line_number_after, is_last, tokens_from, placed, cut}
use Rattle.blang.specs.Cut.{longest, after_close, greatest, keywords, word_token, operator_of, other_of, fixed_of}

abbrev bytes : List ℕ
bytes = range_with_len 0 256

-- Lines: a newline alone begins one, and no carriage return does.
next_lines : map (next_line 5) bytes ≡ replicate 10 5 ++ 6 ∷ replicate 245 5
next_lines = refl

last_lines : map (next_line most) bytes ≡ replicate 256 most
last_lines = refl

-- after each line
abbrev lines : List ℕ
lines = 1 ∷ 2 ∷ 10 ∷ 13 ∷ 255 ∷ 256 ∷ 65535 ∷ 65536 ∷ []

lines_of_tokens : map (λ n. tokens_from editions.One n (codes "x\n y")) lines
    ≡ map (λ n. placed (token.Name (codes "x")) n ∷ placed (token.Name (codes "y")) (n + 1) ∷ placed token.End (n + 1)
    ∷ [])
    lines
unfolding tokens_from cut longest greatest whole word_token keyword_of
lines_of_tokens = refl

lines_of_ends : map (λ n. map (tokens_from editions.One n) ([] ∷ codes " " ∷ codes "#" ∷ [])) lines
    ≡ map (λ n. (placed token.End n ∷ []) ∷ (placed token.End n ∷ []) ∷ (placed (token.Bad letters.Character) n ∷ [])
    ∷ []) lines
unfolding tokens_from cut longest greatest whole operator_of other_of fixed_of
lines_of_ends = refl

-- the end of a source after a token of two bytes
lines_of_longer_tokens : map (λ n. tokens_from editions.One n (codes "ab")) lines
    ≡ map (λ n. placed (token.Name (codes "ab")) n ∷ placed token.End n ∷ []) lines
unfolding tokens_from cut longest greatest whole word_token keyword_of
lines_of_longer_tokens = refl

after_each_byte : line_number_after 1 bytes ≡ 2
after_each_byte = refl

-- no byte in a comment keeps it from its end
closed_after_each_byte : map (λ b. after_close (120 ∷ b ∷ codes "*/")) bytes ≡ replicate 256 (Some [])
closed_after_each_byte = refl

-- The comment has each byte, and then two carriage returns, of which one is before a newline.
abbrev comment : List ℕ
comment = codes "/*" ++ bytes ++ 13 ∷ 13 ∷ codes "\n*/"

after_comments : tokens_from editions.One 1 (comment ++ codes "x" ++ comment ++ codes "\nx")
    ≡ placed (token.Name (codes "x")) 3 ∷ placed (token.Name (codes "x")) 6 ∷ placed token.End 6 ∷ []
unfolding tokens_from cut longest greatest whole word_token keyword_of operator_of other_of fixed_of
after_comments = refl

-- The piece that each byte is, where it stands alone.
abbrev stray : Option Piece
stray = Some (Word (token.Bad letters.Character))

abbrev unclosed : Option Piece
unclosed = Some (Word (token.Bad letters.Constant))

abbrev word : Token → Option Piece
word t = Some (Word t)

alone : map (λ b. whole editions.One (b ∷ [])) bytes ≡
    replicate 9 stray ++ replicate 2 (Some Space) ++ replicate 21 stray ++ Some Space ∷ word token.Not ∷ unclosed
    ∷ stray ∷ stray ∷
    map word (token.Operator op.Rem ∷ token.Operator op.And ∷ []) ++ unclosed ∷
    map word (token.OpenParen ∷ token.CloseParen ∷ token.Operator op.Mul ∷ token.Operator op.Add ∷ token.Comma ∷
    token.Operator op.Sub ∷ []) ++ stray ∷ word (token.Operator op.Div) ∷
    map (λ n. word (token.Number n)) (range_with_len 0 10) ++
    map word (token.Colon ∷ token.Semicolon ∷ token.Operator op.Lt ∷ token.Assign None ∷ token.Operator op.Gt ∷
    token.Question ∷ []) ++ stray ∷
    map (λ b. word (token.Name (b ∷ []))) (range_with_len 65 26) ++
    word token.OpenBracket ∷ stray ∷ word token.CloseBracket ∷ stray ∷ word (token.Name (codes "_")) ∷ stray ∷
    map (λ b. word (token.Name (b ∷ []))) (range_with_len 97 26) ++
    map word (token.OpenBrace ∷ token.Operator op.Or ∷ token.CloseBrace ∷ []) ++ replicate 130 stray
unfolding whole word_token keyword_of number_in with_quoted_byte operator_of other_of fixed_of
alone = refl

-- The bytes with which each mark goes on as a piece of two.
goes_on : map (λ a. filter (λ b. is_some (whole editions.One (a ∷ b ∷ []))) bytes) (codes "!%&()*+,-/:;<=>?[]{|}")
    ≡ codes "=" ∷ [] ∷ [] ∷ [] ∷ [] ∷ [] ∷ codes "+" ∷ [] ∷ codes "-" ∷ codes "*" ∷ [] ∷ [] ∷ codes "<=" ∷
    codes "%&*+-/<=>|" ∷ codes "=>" ∷ replicate 6 []
unfolding whole operator_of other_of fixed_of
goes_on = refl

-- Names: a keyword is one in no other letters, and with nothing after it.
no_keywords : map (λ k. filter (λ b. is_some (keyword_of editions.Two (k.0 ++ b ∷ []))) bytes) (keywords editions.Two)
    ≡ replicate 11 []
unfolding keyword_of
no_keywords = refl

beginnings_of_keywords : map (λ k. filter (λ n. is_some (keyword_of editions.Two (take n k.0))) (range_with_len 0 8))
    (keywords editions.Two)
    ≡ (5 ∷ 6 ∷ 7 ∷ []) ∷ (7 ∷ []) ∷ (4 ∷ 5 ∷ 6 ∷ 7 ∷ []) ∷ (5 ∷ 6 ∷ 7 ∷ []) ∷ (4 ∷ 5 ∷ 6 ∷ 7 ∷ [])
    ∷ range_with_len 2 6 ∷
    (4 ∷ 5 ∷ 6 ∷ 7 ∷ []) ∷ (5 ∷ 6 ∷ 7 ∷ []) ∷ (6 ∷ 7 ∷ []) ∷ (4 ∷ 5 ∷ 6 ∷ 7 ∷ []) ∷ (6 ∷ 7 ∷ []) ∷ []
unfolding keyword_of
beginnings_of_keywords = refl

-- Numbers.
all_digits : filter is_digit bytes ≡ codes "0123456789"
all_digits = refl

bases : map base_of bytes ≡ replicate 48 10 ++ 8 ∷ replicate 207 10
bases = refl

digits_of_bases : map (λ base. filter (is_digit_of base) (codes "0123456789")) (8 ∷ 10 ∷ [])
    ≡ codes "01234567" ∷ codes "0123456789" ∷ []
digits_of_bases = refl

-- written in decimals, and in octals after a 0, or after many
abbrev words : List ℕ
words = range_with_len 0 300 ++ 511 ∷ 512 ∷ 4095 ∷ 4096 ∷ 9999 ∷ 10000 ∷ 32767 ∷ 32768 ∷ 65534 ∷ 65535 ∷ []

decimals : map (λ n. number_token (decimal n)) words ≡ map token.Number words
unfolding number_in digits
decimals = refl

octals : map (λ n. number_token (48 ∷ digits 8 false n)) words ≡ map token.Number words
unfolding number_in digits
octals = refl

after_zeros : map (λ n. number_token (replicate 300 48 ++ digits 8 false n)) (0 ∷ 7 ∷ 65535 ∷ [])
    ≡ map token.Number (0 ∷ 7 ∷ 65535 ∷ [])
unfolding number_in digits
after_zeros = refl

too_large : map (λ n. number_token (decimal n)) (range_with_len 65536 20 ++ 99999 ∷ 100000 ∷ 131072 ∷ 655350
    ∷ 4294967296 ∷ [])
    ≡ replicate 25 (token.Bad letters.Constant)
unfolding number_in digits
too_large = refl

-- of more than a hundred digits each counts
many_digits : map number_token ((49 ∷ replicate 100 48) ∷ (49 ∷ replicate 300 48) ∷ (48 ∷ 49 ∷ replicate 100 48)
    ∷ (48 ∷ 56 ∷ replicate 100 48) ∷ []) ≡ replicate 4 (token.Bad letters.Constant)
unfolding number_in
many_digits = refl

too_large_octals : map (λ n. number_token (48 ∷ digits 8 false n)) (range_with_len 65536 20 ++ 262144 ∷ 4294967296 ∷ [])
    ≡ replicate 22 (token.Bad letters.Constant)
unfolding number_in digits
too_large_octals = refl

-- In quotes.
plain_bytes : map plain_of bytes
    ≡ replicate 9 None ++ Some 9 ∷ replicate 22 None ++ map Some (range_with_len 32 95) ++ replicate 129 None
plain_bytes = refl

-- What the escape of each byte means.
abbrev after_a_star : List (Option ℕ)
after_a_star =
    replicate 34 None ++ Some 34 ∷ replicate 4 None ++ map Some (39 ∷ 123 ∷ 125 ∷ 42 ∷ []) ++ replicate 5 None
    ++ Some 0 ∷
    replicate 52 None ++ Some 4 ∷ replicate 8 None ++ Some 10 ∷ replicate 5 None ++ Some 9 ∷ replicate 139 None

escapes : map escape_of bytes ≡ after_a_star
unfolding escape_of
escapes = refl

-- after a character and a star
abbrev open_with : Option ℕ → Quoted
open_with None = Wrong
open_with (Some b) = Open (97 ∷ b ∷ [])

starred : map (with_quoted_byte 34 254 (Starred (codes "a"))) bytes ≡ map open_with after_a_star
unfolding with_quoted_byte escape_of
starred = refl

-- after a character: one more, a star, or the quote
abbrev opened : ℕ → ℕ → List Quoted
opened from n = map (λ b. Open (97 ∷ b ∷ [])) (range_with_len from n)

in_a_string : map (with_quoted_byte 34 254 (Open (codes "a"))) bytes
    ≡ replicate 9 Wrong ++ opened 9 1 ++ replicate 22 Wrong ++ opened 32 2 ++ Closed (codes "a") ∷ opened 35 7
    ++ Starred (codes "a") ∷ opened 43 84 ++ replicate 129 Wrong
unfolding with_quoted_byte
in_a_string = refl

in_a_character : map (with_quoted_byte 39 2 (Open (codes "a"))) bytes
    ≡ replicate 9 Wrong ++ opened 9 1 ++ replicate 22 Wrong ++ opened 32 7 ++ Closed (codes "a") ∷ opened 40 2
    ++ Starred (codes "a") ∷ opened 43 84 ++ replicate 129 Wrong
unfolding with_quoted_byte
in_a_character = refl

-- where there is room for no more, an escape has none either
in_a_full_string : map (with_quoted_byte 34 254 (Open (replicate 254 97))) bytes
    ≡ replicate 34 Wrong ++ Closed (replicate 254 97) ∷ replicate 221 Wrong
unfolding with_quoted_byte
in_a_full_string = refl

in_a_full_character : map (with_quoted_byte 39 2 (Open (codes "ab"))) bytes
    ≡ replicate 39 Wrong ++ Closed (codes "ab") ∷ replicate 216 Wrong
unfolding with_quoted_byte
in_a_full_character = refl

past : map (λ q. map (with_quoted_byte 34 254 q) bytes) (Closed (codes "a") ∷ Wrong ∷ Past ∷ [])
    ≡ replicate 3 (replicate 256 Past)
unfolding with_quoted_byte
past = refl

-- 253 characters and an escape are a whole string. After 254 a star is wrong.
ends_in_an_escape : whole editions.One (34 ∷ replicate 253 97 ++ codes "*n\"")
    ≡ Some (Word (string_token (replicate 253 97 ++ 10 ∷ [])))
unfolding whole with_quoted_byte escape_of
ends_in_an_escape = refl

a_star_too_many : map (λ text. whole editions.One (34 ∷ replicate 254 97 ++ text)) (codes "*" ∷ codes "*n"
    ∷ codes "*n\"" ∷ [])
    ≡ unclosed ∷ None ∷ None ∷ []
unfolding whole with_quoted_byte escape_of
a_star_too_many = refl

-- A string has all of its characters.
string_tokens : map (λ n. string_token (range_with_len 1 n)) (0 ∷ 1 ∷ 2 ∷ 9 ∷ 10 ∷ 100 ∷ 101 ∷ 254 ∷ [])
    ≡ map (λ n. token.String (record { items = range_with_len 1 n })) (0 ∷ 1 ∷ 2 ∷ 9 ∷ 10 ∷ 100 ∷ 101 ∷ 254 ∷ [])
string_tokens = refl

-- One character is its byte. Of two each is each.
one_character : map (λ b. character_token (b ∷ [])) bytes ≡ map token.Character bytes
one_character = refl

first_character : map (λ b. character_token (b ∷ 7 ∷ [])) bytes ≡ map (λ b. token.Character (b * 256 + 7)) bytes
first_character = refl

second_character : map (λ b. character_token (7 ∷ b ∷ [])) bytes ≡ map token.Character (range_with_len 1792 256)
second_character = refl

no_character : map (λ n. character_token (range_with_len 1 n)) (0 ∷ 3 ∷ 4 ∷ [])
    ≡ replicate 3 (token.Bad letters.Constant)
no_character = refl

-- What ends a source: a wrong piece, whatever its letters, and the end. No other token does.
ends : map is_last (token.End
    ∷ map token.Bad (letters.OpenComment ∷ letters.Character ∷ letters.LongName ∷ letters.Constant ∷ []))
    ≡ replicate 5 true
ends = refl

ends_not : map is_last (token.Name [] ∷ token.Keyword keyword.Auto ∷ token.Keyword keyword.Default ∷ token.Number 0 ∷
    token.Character 4 ∷ string_token [] ∷ token.Operator op.Or ∷ token.Assign None ∷ token.Assign (Some op.Div)
    ∷ token.Not ∷
    token.Increment ∷ token.Decrement ∷ token.Question ∷ token.Colon ∷ token.Comma ∷ token.Semicolon ∷ token.OpenParen ∷
    token.CloseParen ∷ token.OpenBracket ∷ token.CloseBracket ∷ token.OpenBrace ∷ token.CloseBrace ∷ [])
    ≡ replicate 22 false
ends_not = refl
