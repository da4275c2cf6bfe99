-- Inner words: the last token, as a lexer keeps it.
use Rattle.std.specs.Prelude.{Option, Some, None}
use Rattle.blang.specs.declared.token.Token.{Token}
use Rattle.blang.specs.declared.token.Token.TheVariants as token
use Rattle.blex.specs.declared.lexeme.Last.{Last}
use Rattle.blex.specs.declared.lexeme.Last.TheVariants as last

-- a last token
abbrev pub token_of : Last → Token
token_of (last.Bad letters) = token.Bad letters
token_of last.End = token.End

-- the token, if it is a last one: the end of a source, or a piece that is wrong
abbrev pub last_of : Token → Option Last
last_of (token.Bad letters) = Some (last.Bad letters)
last_of token.End = Some last.End
last_of _ = None
