-- Closed facts: the word of each role, construct and token.
use Rattle.std.specs.Prelude.{◌≡◌, [], ◌∷◌, codes, map, refl}
use Rattle.btree.specs.declared.tags.Construct.TheVariants as construct
use Rattle.bnaming.specs.declared.roles.Role.TheVariants as role
use Rattle.bnaming.specs.declared.rows.OtherToken.TheVariants as other
use Rattle.bnaming.specs.Texts.{construct_word, role_word, token_word}

roles_told : map role_word (role.Function ∷ role.External ∷ role.Parameter ∷ role.Automatic ∷ role.Import ∷ role.Label
    ∷ role.Mention ∷ role.Value ∷ [])
    ≡ codes "function" ∷ codes "external" ∷ codes "parameter" ∷ codes "automatic" ∷ codes "extrn" ∷ codes "label"
    ∷ codes "mention" ∷ codes "value" ∷ []
roles_told = refl

-- those of parentheses have no tags, so their word is never told
constructs_told : map construct_word (construct.Definition ∷ construct.Block ∷ construct.If ∷ construct.IfElse
    ∷ construct.While ∷ construct.Switch ∷ construct.Heading ∷ construct.Plain ∷ construct.Parens ∷ [])
    ≡ codes "definition" ∷ codes "block" ∷ codes "if" ∷ codes "else" ∷ codes "while" ∷ codes "switch"
    ∷ codes "heading" ∷ codes "statement" ∷ codes "parentheses" ∷ []
constructs_told = refl

tokens_told : map token_word (other.Keyword ∷ other.Number ∷ other.Character ∷ other.String ∷ other.Operator
    ∷ other.Question ∷ other.Colon ∷ other.Comma ∷ other.Semicolon ∷ other.OpenParen ∷ other.CloseParen
    ∷ other.OpenBracket ∷ other.CloseBracket ∷ other.OpenBrace ∷ other.CloseBrace ∷ [])
    ≡ codes "keyword" ∷ codes "number" ∷ codes "character" ∷ codes "string" ∷ codes "operator" ∷ codes "?"
    ∷ codes ":" ∷ codes "," ∷ codes ";" ∷ codes "(" ∷ codes ")" ∷ codes "[" ∷ codes "]" ∷ codes "{" ∷ codes "}" ∷ []
tokens_told = refl
