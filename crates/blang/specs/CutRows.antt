-- Closed facts: how sources are cut, one source a line.
use Rattle.std.specs.Prelude.{◌≡◌, ℕ, List, [], ◌∷◌, ◌++◌, map, length, filter, replicate, codes, refl, is_some, Some}
use Rattle.std.specs.Prelude.{None, true, false}
use Rattle.std.specs.List.{range_with_len}
use Rattle.bword.specs.ByteEnds.{most}
use Rattle.bword.specs.declared.edition.Edition.{Edition}
use Rattle.bword.specs.declared.edition.Edition.TheVariants as editions
use Rattle.bword.specs.declared.operators.BinOp.TheVariants as op
use Rattle.blang.specs.declared.token.Token.{Token}
use Rattle.blang.specs.Cut.{Word, whole, is_blank, word_token, keyword_of, number_in, with_quoted_byte, plain_of}
use Rattle.blang.specs.Cut.{number_token, escape_of, operator_of, other_of, fixed_of, string_token, tokens_from, placed}
use Rattle.blang.specs.Cut.{cut, longest, greatest, is_last}
use Rattle.blang.specs.Cut as cut_rules
use Rattle.blang.specs.declared.token.Token.TheVariants as token
use Rattle.blang.specs.declared.token.Keyword.TheVariants as keyword
use Rattle.blang.specs.declared.token.Letters.TheVariants as letters

abbrev tokens_in : Edition → List ℕ → List Token
tokens_in edition bytes = map (λ p. p.token) (tokens_from edition 1 bytes)

abbrev pub tokens : List ℕ → List Token
tokens bytes = tokens_in editions.One bytes

-- a source and its tokens, without the `End` after them
abbrev Row : Type 0
Row = List ℕ × List Token

abbrev Cut : List Row → Type 0
Cut rows = map (λ r. tokens r.0) rows ≡ map (λ r. r.1 ++ token.End ∷ []) rows

-- sources of one token
abbrev Single : List (List ℕ × Token) → Type 0
Single rows = map (λ r. tokens r.0) rows ≡ map (λ r. r.1 ∷ token.End ∷ []) rows

-- sources whose first piece fits nothing
abbrev Wrong : Token → List (List ℕ) → Type 0
Wrong bad sources = map tokens sources ≡ replicate (length sources) (bad ∷ [])

abbrev name : List ℕ → Token
name text = token.Name text

abbrev x : Token
x = name (codes "x")

abbrev y : Token
y = name (codes "y")

-- Blanks, and bytes that begin nothing.
blanks : Cut (
    ([], []) ∷ (codes " ", []) ∷ (codes "\t", []) ∷ (codes "\n", []) ∷ (codes "x \t\n y\n", x ∷ y ∷ []) ∷
    [])
unfolding tokens_from cut longest greatest whole word_token keyword_of
blanks = refl

all_blanks : filter is_blank (range_with_len 0 256) ≡ codes "\t\n "
all_blanks = refl

-- 11 to 13 among them, which are vertical tab, form feed and carriage return
strays : Wrong (token.Bad letters.Character) (map (λ b. b ∷ codes "x") (
    range_with_len 0 9 ++ range_with_len 11 21 ++ codes "#$.@\\^`~" ++ range_with_len 127 129))
unfolding tokens_from cut longest greatest whole operator_of other_of fixed_of
strays = refl

-- Words.
keywords : Single (
    (codes "auto", token.Keyword keyword.Auto) ∷
    (codes "extrn", token.Keyword keyword.Extrn) ∷
    (codes "case", token.Keyword keyword.Case) ∷
    (codes "if", token.Keyword keyword.If) ∷
    (codes "else", token.Keyword keyword.Else) ∷
    (codes "while", token.Keyword keyword.While) ∷
    (codes "switch", token.Keyword keyword.Switch) ∷
    (codes "goto", token.Keyword keyword.Goto) ∷
    (codes "return", token.Keyword keyword.Return) ∷
    [])
unfolding tokens_from cut longest greatest whole word_token keyword_of
keywords = refl

-- the words of the second edition, where the others stay, are names in the first
keywords_of_two : map (tokens_in editions.Two) (codes "break" ∷ codes "default" ∷ codes "case" ∷ []) ≡
    (token.Keyword keyword.Break ∷ token.End ∷ []) ∷ (token.Keyword keyword.Default ∷ token.End ∷ [])
    ∷ (token.Keyword keyword.Case ∷ token.End ∷ []) ∷ []
unfolding tokens_from cut longest greatest whole word_token keyword_of
keywords_of_two = refl

abbrev name_texts : List (List ℕ)
name_texts =
    codes "x" ∷ codes "_" ∷ codes "Z" ∷ codes "a9" ∷ codes "_0_" ∷ codes "abcdefgh" ∷ codes "x1234567" ∷
    codes "extern" ∷ codes "Auto" ∷ codes "autos" ∷ codes "aut" ∷ codes "IF" ∷ codes "int" ∷ codes "if0" ∷
    codes "_if" ∷ codes "break" ∷ codes "default" ∷ []

names : map tokens name_texts ≡ map (λ text. name text ∷ token.End ∷ []) name_texts
unfolding tokens_from cut longest greatest whole word_token keyword_of
names = refl

long_names : Wrong (token.Bad letters.LongName) (codes "abcdefghi" ∷ codes "x12345678" ∷ codes "_________ x" ∷ [])
unfolding tokens_from cut longest greatest whole word_token keyword_of
long_names = refl

-- Numbers.
numbers : Cut (
    (codes "0", token.Number 0 ∷ []) ∷
    (codes "00", token.Number 0 ∷ []) ∷
    (codes "017", token.Number 15 ∷ []) ∷
    (codes "007", token.Number 7 ∷ []) ∷
    (codes "0177777", token.Number 65535 ∷ []) ∷
    (codes "8", token.Number 8 ∷ []) ∷
    (codes "9", token.Number 9 ∷ []) ∷
    (codes "10", token.Number 10 ∷ []) ∷
    (codes "65535", token.Number 65535 ∷ []) ∷
    (codes "12x", token.Number 12 ∷ x ∷ []) ∷
    (codes "1 2", token.Number 1 ∷ token.Number 2 ∷ []) ∷
    [])
unfolding tokens_from cut longest greatest whole word_token keyword_of number_in
numbers = refl

wrong_numbers : Wrong (token.Bad letters.Constant) (
    codes "08" ∷ codes "09" ∷ codes "018" ∷ codes "0200000" ∷ codes "65536" ∷ codes "70000" ∷ codes "99999999999" ∷ [])
unfolding tokens_from cut longest greatest whole number_in
wrong_numbers = refl

-- Constants in quotes.
characters : Single (
    (codes "'a'", token.Character 97) ∷
    (codes "'ab'", token.Character 24930) ∷
    (codes "'ba'", token.Character 25185) ∷
    (codes "' '", token.Character 32) ∷
    (codes "'~'", token.Character 126) ∷
    (codes "'\t'", token.Character 9) ∷
    (codes "'\"'", token.Character 34) ∷
    (codes "'*0'", token.Character 0) ∷
    (codes "'*e'", token.Character 4) ∷
    (codes "'*('", token.Character 123) ∷
    (codes "'*)'", token.Character 125) ∷
    (codes "'*n'", token.Character 10) ∷
    (codes "'*t'", token.Character 9) ∷
    (codes "'**'", token.Character 42) ∷
    (codes "'*''", token.Character 39) ∷
    (codes "'*\"'", token.Character 34) ∷
    (codes "'*n*t'", token.Character 2569) ∷
    (codes "'a**'", token.Character 24874) ∷
    [])
unfolding tokens_from cut longest greatest whole with_quoted_byte escape_of
characters = refl

-- none, three, an escape that there is not, a star, no end, and what may not stand in quotes
wrong_characters : Wrong (token.Bad letters.Constant) (
    codes "''" ∷ codes "'abc'" ∷ codes "'*a'" ∷ codes "'*1'" ∷ codes "'*N'" ∷ codes "'*'" ∷ codes "'" ∷ codes "'a" ∷
    codes "'\n'" ∷ (39 ∷ 0 ∷ 39 ∷ []) ∷ (39 ∷ 8 ∷ 39 ∷ []) ∷ (39 ∷ 11 ∷ 39 ∷ []) ∷ (39 ∷ 13 ∷ 39 ∷ []) ∷
    (39 ∷ 31 ∷ 39 ∷ []) ∷ (39 ∷ 127 ∷ 39 ∷ []) ∷ (39 ∷ 128 ∷ 39 ∷ []) ∷ (39 ∷ 255 ∷ 39 ∷ []) ∷ [])
unfolding tokens_from cut longest greatest whole with_quoted_byte escape_of
wrong_characters = refl

-- what stands for itself in quotes, and what an escape goes on with
plain : filter (λ b. is_some (plain_of b)) (range_with_len 0 256) ≡ 9 ∷ range_with_len 32 95
plain = refl

escapes : filter (λ b. is_some (escape_of b)) (range_with_len 0 256) ≡ codes "\"'()*0ent"
unfolding escape_of
escapes = refl

strings : Single (
    (codes "\"\"", string_token []) ∷
    (codes "\"ab c\"", string_token (codes "ab c")) ∷
    (codes "\"'\"", string_token (codes "'")) ∷
    (codes "\"a*\"*n\"", string_token (codes "a\"\n")) ∷
    (codes "\"*0*e*(*)*t***'\"", string_token (0 ∷ 4 ∷ codes "{}\t*'")) ∷
    (codes "\"/** x\"", string_token (codes "/* x")) ∷
    [])
unfolding tokens_from cut longest greatest whole with_quoted_byte escape_of
strings = refl

wrong_strings : Wrong (token.Bad letters.Constant) (
    codes "\"" ∷ codes "\"a" ∷ codes "\"*\"" ∷ codes "\"a\n\"" ∷ codes "\"*x\"" ∷ (34 ∷ 127 ∷ 34 ∷ []) ∷ (34 ∷ 128 ∷
    34 ∷ []) ∷ [])
unfolding tokens_from cut longest greatest whole with_quoted_byte escape_of
wrong_strings = refl

-- 254 characters and the quote are a whole string; with the 255th it is wrong, and that is all of the piece
abbrev many : ℕ → List ℕ
many count = 34 ∷ replicate count 97

greatest_string : whole editions.One (many 254 ++ codes "\"") ≡ Some (Word (string_token (replicate 254 97)))
unfolding whole with_quoted_byte
greatest_string = refl

too_long : whole editions.One (many 255) ≡ Some (Word (token.Bad letters.Constant))
unfolding whole with_quoted_byte
too_long = refl

past_the_255th : whole editions.One (many 255 ++ codes "\"") ≡ None
unfolding whole with_quoted_byte
past_the_255th = refl

-- Operators and the like.
operators : Single (
    (codes "|", token.Operator op.Or) ∷
    (codes "&", token.Operator op.And) ∷
    (codes "==", token.Operator op.Eq) ∷
    (codes "!=", token.Operator op.Ne) ∷
    (codes "<", token.Operator op.Lt) ∷
    (codes "<=", token.Operator op.Le) ∷
    (codes ">", token.Operator op.Gt) ∷
    (codes ">=", token.Operator op.Ge) ∷
    (codes "<<", token.Operator op.Shl) ∷
    (codes ">>", token.Operator op.Shr) ∷
    (codes "-", token.Operator op.Sub) ∷
    (codes "+", token.Operator op.Add) ∷
    (codes "%", token.Operator op.Rem) ∷
    (codes "*", token.Operator op.Mul) ∷
    (codes "/", token.Operator op.Div) ∷
    [])
unfolding tokens_from cut longest greatest whole operator_of other_of fixed_of
operators = refl

assignments : Single (
    (codes "=", token.Assign None) ∷
    (codes "=|", token.Assign (Some op.Or)) ∷
    (codes "=&", token.Assign (Some op.And)) ∷
    (codes "===", token.Assign (Some op.Eq)) ∷
    (codes "=!=", token.Assign (Some op.Ne)) ∷
    (codes "=<", token.Assign (Some op.Lt)) ∷
    (codes "=<=", token.Assign (Some op.Le)) ∷
    (codes "=>", token.Assign (Some op.Gt)) ∷
    (codes "=>=", token.Assign (Some op.Ge)) ∷
    (codes "=<<", token.Assign (Some op.Shl)) ∷
    (codes "=>>", token.Assign (Some op.Shr)) ∷
    (codes "=-", token.Assign (Some op.Sub)) ∷
    (codes "=+", token.Assign (Some op.Add)) ∷
    (codes "=%", token.Assign (Some op.Rem)) ∷
    (codes "=*", token.Assign (Some op.Mul)) ∷
    (codes "=/", token.Assign (Some op.Div)) ∷
    [])
unfolding tokens_from cut longest greatest whole operator_of other_of fixed_of
assignments = refl

others : Single (
    (codes "!", token.Not) ∷
    (codes "++", token.Increment) ∷
    (codes "--", token.Decrement) ∷
    (codes "?", token.Question) ∷
    (codes ":", token.Colon) ∷
    (codes ",", token.Comma) ∷
    (codes ";", token.Semicolon) ∷
    (codes "(", token.OpenParen) ∷
    (codes ")", token.CloseParen) ∷
    (codes "[", token.OpenBracket) ∷
    (codes "]", token.CloseBracket) ∷
    (codes "{", token.OpenBrace) ∷
    (codes "}", token.CloseBrace) ∷
    [])
unfolding tokens_from cut longest greatest whole operator_of other_of fixed_of
others = refl

-- the longest piece at each place
longest_pieces : Cut (
    (codes "x=-1", x ∷ token.Assign (Some op.Sub) ∷ token.Number 1 ∷ []) ∷
    (codes "x=!y", x ∷ token.Assign None ∷ token.Not ∷ y ∷ []) ∷
    (codes "x=!=y", x ∷ token.Assign (Some op.Ne) ∷ y ∷ []) ∷
    (codes "x==-y", x ∷ token.Operator op.Eq ∷ token.Operator op.Sub ∷ y ∷ []) ∷
    (codes "x====y", x ∷ token.Assign (Some op.Eq) ∷ token.Assign None ∷ y ∷ []) ∷
    (codes "x+++y", x ∷ token.Increment ∷ token.Operator op.Add ∷ y ∷ []) ∷
    (codes "x---y", x ∷ token.Decrement ∷ token.Operator op.Sub ∷ y ∷ []) ∷
    (codes "= =", token.Assign None ∷ token.Assign None ∷ []) ∷
    (codes "=++", token.Assign (Some op.Add) ∷ token.Operator op.Add ∷ []) ∷
    (codes "<<=", token.Operator op.Shl ∷ token.Assign None ∷ []) ∷
    (codes ">>>", token.Operator op.Shr ∷ token.Operator op.Gt ∷ []) ∷
    (codes "!==", token.Operator op.Ne ∷ token.Assign None ∷ []) ∷
    (codes "=<<=", token.Assign (Some op.Shl) ∷ token.Assign None ∷ []) ∷
    (codes "ifx", name (codes "ifx") ∷ []) ∷
    (codes "if(x", token.Keyword keyword.If ∷ token.OpenParen ∷ x ∷ []) ∷
    [])
unfolding tokens_from cut longest greatest whole word_token keyword_of number_in operator_of other_of fixed_of
longest_pieces = refl

-- Comments.
comments : Cut (
    (codes "/**/x", x ∷ []) ∷
    (codes "x/*y*/y", x ∷ y ∷ []) ∷
    (codes "=/*x", token.Assign (Some op.Div) ∷ token.Operator op.Mul ∷ x ∷ []) ∷
    (codes "/ *x", token.Operator op.Div ∷ token.Operator op.Mul ∷ x ∷ []) ∷
    (codes "/*/**/*/", token.Operator op.Mul ∷ token.Operator op.Div ∷ []) ∷
    (codes "/***/x", x ∷ []) ∷
    (codes "/*/*/x", x ∷ []) ∷
    (47 ∷ 42 ∷ 0 ∷ 255 ∷ codes "\n'\"*/x", x ∷ []) ∷
    [])
unfolding tokens_from cut longest greatest whole word_token keyword_of operator_of other_of fixed_of
comments = refl

open_comments : Wrong (token.Bad letters.OpenComment) (codes "/*/" ∷ codes "/*" ∷ codes "/* x * /" ∷ codes "/*x*" ∷ [])
unfolding tokens_from cut longest greatest whole operator_of other_of fixed_of
open_comments = refl

-- After a piece that fits nothing there are no tokens.
stops : map tokens (codes "x # y" ∷ codes "x 08 y" ∷ []) ≡
    (x ∷ token.Bad letters.Character ∷ []) ∷ (x ∷ token.Bad letters.Constant ∷ []) ∷ []
unfolding tokens_from cut longest greatest whole word_token keyword_of number_in operator_of other_of fixed_of
stops = refl

last_tokens : map is_last (token.Bad letters.Character ∷ token.End ∷ token.Semicolon ∷ token.Name (codes "x") ∷ [])
    ≡ true ∷ true ∷ false ∷ false ∷ []
last_tokens = refl

-- How far a piece reaches that fits nothing: through its run, the byte in quotes that doesn't fit, its one byte,
-- or to the end.
reaches : map (longest editions.One) (
    codes "abcdefghij9_ x" ∷ codes "0899x" ∷ codes "'ab\n'" ∷ codes "'abc'" ∷ codes "'*xy'" ∷ codes "\"a\n\"" ∷
    codes "'a" ∷ codes "\"ab" ∷
    codes "##" ∷ codes "/* x" ∷ []) ≡ 12 ∷ 4 ∷ 4 ∷ 4 ∷ 3 ∷ 3 ∷ 2 ∷ 3 ∷ 1 ∷ 4 ∷ []
unfolding longest greatest whole word_token keyword_of number_in with_quoted_byte escape_of operator_of other_of
    fixed_of
reaches = refl

-- Lines: those of the first byte of each token, and of `End`.
abbrev lines : List ℕ → List ℕ
lines bytes = map (λ p. p.line) (tokens_from editions.One 1 bytes)

lines_of_tokens : map lines (
    [] ∷ codes "\n" ∷ codes "x y" ∷ codes "x\ny" ∷ codes " \n\n x" ∷ codes "/*\n*/ x\n" ∷ codes "x /*\n\n*/ y z" ∷
    codes "\n/*\n*/x\n'\n'" ∷
    codes "x;\ny /*\n" ∷ []) ≡
    (1 ∷ []) ∷ (2 ∷ []) ∷ (1 ∷ 1 ∷ 1 ∷ []) ∷ (1 ∷ 2 ∷ 2 ∷ []) ∷ (3 ∷ 3 ∷ []) ∷ (2 ∷ 3 ∷ []) ∷ (1 ∷ 3 ∷ 3 ∷ 3 ∷ []) ∷
    (3 ∷ 4 ∷ []) ∷
    (1 ∷ 1 ∷ 2 ∷ 2 ∷ []) ∷ []
unfolding tokens_from cut longest greatest whole word_token keyword_of with_quoted_byte operator_of other_of fixed_of
lines_of_tokens = refl

-- the last line that has a number stays
last_line : tokens_from editions.One most (codes "\nx") ≡ placed x most ∷ placed token.End most ∷ []
unfolding tokens_from cut longest greatest whole word_token keyword_of
last_line = refl

-- 4294967297, 18446744073709551617, and a long octal
long_numbers : map number_token (codes "4294967297" ∷ codes "18446744073709551617" ∷ codes "040000000001" ∷ []) ≡
    replicate 3 (token.Bad letters.Constant)
unfolding number_in
long_numbers = refl

-- the second edition has two keywords more
two_more : cut_rules.keywords editions.Two ≡
    (codes "break", keyword.Break) ∷ (codes "default", keyword.Default) ∷ cut_rules.keywords editions.One
two_more = refl

-- what each escape is
escaped : map escape_of (codes "0e()nt*'\"") ≡ map Some (0 ∷ 4 ∷ 123 ∷ 125 ∷ 10 ∷ 9 ∷ 42 ∷ 39 ∷ 34 ∷ [])
unfolding escape_of
escaped = refl
