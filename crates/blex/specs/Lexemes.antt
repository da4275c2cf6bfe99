-- Promise: what a lexeme stands for.
use Rattle.std.specs.Prelude.{◌≡◌, ℕ, List, Option}
use Rattle.std.specs.Option.{option_map}
use Rattle.blex.specs.declared.lexeme.Lexeme.{Lexeme}
use Rattle.blex.specs.declared.lexeme.Lexeme.TheVariants as lexeme
use Rattle.blang.specs.declared.token.Token.{Token}
use Rattle.blang.specs.declared.token.Token.TheVariants as token
use Rattle.blex.specs.declared.lexeme.Seen.{Seen}
use Rattle.blang.specs.declared.token.Placed.{Placed}
use Rattle.blang.specs.Cut.{string_token, placed}

-- the token of a lexeme, and of the characters where it is a string
abbrev pub token_of_lexeme : Lexeme → List ℕ → Token
token_of_lexeme (lexeme.Name name) characters = token.Name name
token_of_lexeme (lexeme.Keyword keyword) characters = token.Keyword keyword
token_of_lexeme (lexeme.Number value) characters = token.Number value
token_of_lexeme (lexeme.Character value) characters = token.Character value
token_of_lexeme lexeme.String characters = string_token characters
token_of_lexeme (lexeme.Operator op) characters = token.Operator op
token_of_lexeme (lexeme.Assign op) characters = token.Assign op
token_of_lexeme lexeme.Not characters = token.Not
token_of_lexeme lexeme.Increment characters = token.Increment
token_of_lexeme lexeme.Decrement characters = token.Decrement
token_of_lexeme lexeme.Question characters = token.Question
token_of_lexeme lexeme.Colon characters = token.Colon
token_of_lexeme lexeme.Comma characters = token.Comma
token_of_lexeme lexeme.Semicolon characters = token.Semicolon
token_of_lexeme lexeme.OpenParen characters = token.OpenParen
token_of_lexeme lexeme.CloseParen characters = token.CloseParen
token_of_lexeme lexeme.OpenBracket characters = token.OpenBracket
token_of_lexeme lexeme.CloseBracket characters = token.CloseBracket
token_of_lexeme lexeme.OpenBrace characters = token.OpenBrace
token_of_lexeme lexeme.CloseBrace characters = token.CloseBrace
token_of_lexeme (lexeme.Bad letters) characters = token.Bad letters
token_of_lexeme lexeme.End characters = token.End

-- the lexeme of a token
abbrev pub lexeme_of : Token → Lexeme
lexeme_of (token.Name name) = lexeme.Name name
lexeme_of (token.Keyword keyword) = lexeme.Keyword keyword
lexeme_of (token.Number value) = lexeme.Number value
lexeme_of (token.Character value) = lexeme.Character value
lexeme_of (token.String characters) = lexeme.String
lexeme_of (token.Operator op) = lexeme.Operator op
lexeme_of (token.Assign op) = lexeme.Assign op
lexeme_of token.Not = lexeme.Not
lexeme_of token.Increment = lexeme.Increment
lexeme_of token.Decrement = lexeme.Decrement
lexeme_of token.Question = lexeme.Question
lexeme_of token.Colon = lexeme.Colon
lexeme_of token.Comma = lexeme.Comma
lexeme_of token.Semicolon = lexeme.Semicolon
lexeme_of token.OpenParen = lexeme.OpenParen
lexeme_of token.CloseParen = lexeme.CloseParen
lexeme_of token.OpenBracket = lexeme.OpenBracket
lexeme_of token.CloseBracket = lexeme.CloseBracket
lexeme_of token.OpenBrace = lexeme.OpenBrace
lexeme_of token.CloseBrace = lexeme.CloseBrace
lexeme_of (token.Bad letters) = lexeme.Bad letters
lexeme_of token.End = lexeme.End

-- the token that was seen, and its line
abbrev pub placed_of : List ℕ → Seen → Placed
placed_of characters seen = placed (token_of_lexeme seen.lexeme characters) seen.line

-- the lexeme stands for the token, whatever the characters: it is no string
abbrev pub IsLexemeOf : Lexeme → Token → Type 0
IsLexemeOf l t = (characters : List ℕ) → token_of_lexeme l characters ≡ t

-- the same where there may be none
abbrev pub MayStandFor : Option Lexeme → Option Token → Type 0
MayStandFor l t = (characters : List ℕ) → option_map (λ x. token_of_lexeme x characters) l ≡ t
