-- Promise: the object of each comment and each row.
use Rattle.std.specs.Prelude.{ℕ, ◌==◌, ◌&&◌, List, [], ◌∷◌, ◌++◌, codes, decimal, Option, None, Some, if◌then◌else◌}
use Rattle.std.specs.List.{flat_map}
use Rattle.bsources.specs.Files.{Files, own_line}
use Rattle.btools.specs.Quoting.{json_text}
use Rattle.btree.specs.declared.tags.Construct.{Construct}
use Rattle.btree.specs.declared.tags.Construct.TheVariants as construct
use Rattle.bnaming.specs.declared.places.Spot.{Spot}
use Rattle.bnaming.specs.declared.reading.Comment.{Comment}
use Rattle.bnaming.specs.declared.roles.Role.{Role}
use Rattle.bnaming.specs.declared.roles.Role.TheVariants as role
use Rattle.bnaming.specs.declared.rows.Content.{Content}
use Rattle.bnaming.specs.declared.rows.Content.TheVariants as content
use Rattle.bnaming.specs.declared.rows.OtherToken.{OtherToken}
use Rattle.bnaming.specs.declared.rows.OtherToken.TheVariants as other
use Rattle.bnaming.specs.declared.rows.Row.{Row}

abbrev pub role_word : Role → List ℕ
role_word role.Function = codes "function"
role_word role.External = codes "external"
role_word role.Parameter = codes "parameter"
role_word role.Automatic = codes "automatic"
role_word role.Import = codes "extrn"
role_word role.Label = codes "label"
role_word role.Mention = codes "mention"
role_word role.Value = codes "value"

-- the innermost construct ends without a word
abbrev pub construct_word : Construct → List ℕ
construct_word construct.Definition = codes "definition"
construct_word construct.Block = codes "block"
construct_word construct.If = codes "if"
construct_word construct.IfElse = codes "else"
construct_word construct.While = codes "while"
construct_word construct.Switch = codes "switch"
construct_word construct.Heading = codes "heading"
construct_word construct.Plain = codes "statement"
construct_word construct.Parens = codes "parentheses"

abbrev pub token_word : OtherToken → List ℕ
token_word other.Keyword = codes "keyword"
token_word other.Number = codes "number"
token_word other.Character = codes "character"
token_word other.String = codes "string"
token_word other.Operator = codes "operator"
token_word other.Question = codes "?"
token_word other.Colon = codes ":"
token_word other.Comma = codes ","
token_word other.Semicolon = codes ";"
token_word other.OpenParen = codes "("
token_word other.CloseParen = codes ")"
token_word other.OpenBracket = codes "["
token_word other.CloseBracket = codes "]"
token_word other.OpenBrace = codes "{"
token_word other.CloseBrace = codes "}"

-- what the row that declares a name makes it
abbrev pub content_kind : Content → List ℕ
content_kind (content.Name r name) = role_word r
content_kind c = []

abbrev pub kind_word : Option Row → List ℕ
kind_word None = codes "undefined"
kind_word (Some r) = content_kind r.content

-- a text of these parts
abbrev pub joined : List (List ℕ) → List ℕ
joined parts = flat_map (λ part. part) parts

-- the beginning of a list: the file of a place, the line in that, and the column in bytes
abbrev pub place_text : Files → (head : List ℕ) → Spot → List ℕ
place_text files head s =
    joined (head ∷ json_text (own_line files s.line).file ∷ codes "," ∷ decimal (own_line files s.line).line
    ∷ codes "," ∷ decimal s.column ∷ [])

-- the column in units of UTF-16, where that is another one
abbrev pub unit_text : Spot → List ℕ
unit_text s = if s.column == s.unit then codes "]" else joined (codes "," ∷ decimal s.unit ∷ codes "]" ∷ [])

-- a place, after the beginning of its list
abbrev pub spot_text : Files → (head : List ℕ) → Spot → List ℕ
spot_text files head s = place_text files head s ++ unit_text s

-- where something ends that begins at a place: the line, where that is another one, and the column in bytes
abbrev pub end_text : Files → (first end : Spot) → List ℕ
end_text files first end =
    if first.line == end.line then joined (codes "," ∷ decimal end.column ∷ codes "]" ∷ [])
    else joined (codes "," ∷ decimal (own_line files end.line).line ∷ codes "," ∷ decimal end.column ∷ codes "]" ∷ [])

-- both columns in units of UTF-16, where one is another one
abbrev pub units_text : (first end : Spot) → List ℕ
units_text first end =
    if first.column == first.unit && end.column == end.unit then []
    else joined (codes ",\"utf16\":[" ∷ decimal first.unit ∷ codes "," ∷ decimal end.unit ∷ codes "]" ∷ [])

-- where something begins and ends
abbrev pub span_text : Files → (first end : Spot) → List ℕ
span_text files first end =
    place_text files (codes ",\"at\":[") first ++ (end_text files first end ++ units_text first end)

-- where a name is declared, unless it is here
abbrev pub declared_text : Files → (here : Spot) → Option Row → List ℕ
declared_text files here None = []
declared_text files here (Some r) =
    if here.line == r.first.line && here.column == r.first.column then []
    else spot_text files (codes ",\"declared\":[") r.first

abbrev pub member_text : (head word : List ℕ) → List ℕ
member_text head word = joined (head ∷ word ∷ codes "\"" ∷ [])

abbrev pub name_text : Role → List ℕ → Option Row → List ℕ
name_text r name bound =
    joined (codes "{\"name\":\"" ∷ name ∷ codes "\",\"role\":\"" ∷ role_word r
    ∷ codes "\",\"kind\":\"" ∷ kind_word bound ∷ codes "\"" ∷ [])

abbrev pub content_text : Content → Option Row → List ℕ
content_text (content.Begins c) bound = member_text (codes "{\"begins\":\"") (construct_word c)
content_text content.Ends bound = codes "{\"ends\":1"
content_text (content.Name r name) bound = name_text r name bound
content_text (content.Other t) bound = member_text (codes "{\"token\":\"") (token_word t)

-- where what is in a row stands: a construct begins or ends at one place
abbrev pub at_text : Files → Content → (first end : Spot) → List ℕ
at_text files (content.Begins c) first end = spot_text files (codes ",\"at\":[") first
at_text files content.Ends first end = spot_text files (codes ",\"at\":[") first
at_text files (content.Name r name) first end = span_text files first end
at_text files (content.Other t) first end = span_text files first end

-- a row, whose name is declared by this one
abbrev pub row_text : Files → Row → Option Row → List ℕ
row_text files r bound =
    content_text r.content bound
    ++ (at_text files r.content r.first r.end ++ (declared_text files r.first bound ++ codes "}\n"))

abbrev pub comment_text : Files → Comment → List ℕ
comment_text files c = codes "{\"comment\":1" ++ (span_text files c.first c.end ++ codes "}\n")
