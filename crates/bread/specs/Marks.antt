-- Inner words: tokens that stand at fixed places.
use Rattle.std.specs.Prelude.{Bool, true, false}
use Rattle.blang.specs.declared.token.Token.{Token}
use Rattle.blang.specs.declared.token.Token.TheVariants as token
use Rattle.bgrammar.specs.ExpressionReader.{is_close_paren, is_close_bracket, is_question, is_colon}
use Rattle.bgrammar.specs.StatementReader.{is_open_paren, is_open_brace, is_close_brace, is_semicolon, is_else}
use Rattle.bread.specs.declared.mark.Mark.{Mark}
use Rattle.bread.specs.declared.mark.Mark.TheVariants as mark

abbrev pub is_open_bracket : Token → Bool
is_open_bracket token.OpenBracket = true
is_open_bracket _ = false

abbrev pub is_comma : Token → Bool
is_comma token.Comma = true
is_comma _ = false

abbrev pub is_mark : Mark → Token → Bool
is_mark mark.OpenParen t = is_open_paren t
is_mark mark.CloseParen t = is_close_paren t
is_mark mark.OpenBracket t = is_open_bracket t
is_mark mark.CloseBracket t = is_close_bracket t
is_mark mark.OpenBrace t = is_open_brace t
is_mark mark.CloseBrace t = is_close_brace t
is_mark mark.Question t = is_question t
is_mark mark.Colon t = is_colon t
is_mark mark.Comma t = is_comma t
is_mark mark.Semicolon t = is_semicolon t
is_mark mark.Else t = is_else t
