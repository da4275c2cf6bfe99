-- Inner words: reading a definition from the left, with one token ahead.
use Rattle.std.specs.Prelude.{ℕ, Bool, false, List, [], if◌then◌else◌}
use Rattle.blang.specs.declared.token.Token.{Token}
use Rattle.blang.specs.declared.token.Token.TheVariants as token
use Rattle.blang.specs.Trees.{Identifier, Number, Character, Ival, Ival_constant, Ival_text, Ival_name, Definition}
use Rattle.blang.specs.Trees.{Simple, Vector, Function}
use Rattle.bgrammar.specs.Reading.{Got, Stop, Reader, ◌>>=◌, first, line_ahead, after, expect}
use Rattle.bgrammar.specs.ExpressionReader.{is_close_paren, is_close_bracket}
use Rattle.bgrammar.specs.Commas.{list_reader}
use Rattle.bgrammar.specs.StatementReader.{is_semicolon, name, size, statement}
use Rattle.blang.specs.WellFormed.{is_open}
use Rattle.blang.specs.declared.limits.TheConstants.{MAX_NESTING}
use Rattle.bgrammar.specs.Fitting.{values_words}

abbrev pub ival_at : ℕ → Token → Reader Ival
ival_at off (token.Number n) ts = Got (Ival_constant (Number n)) (after ts)
ival_at off (token.Character n) ts = Got (Ival_constant (Character n)) (after ts)
ival_at off (token.String s) ts = Got (Ival_text s.items off) (after ts)
ival_at off (token.Name x) ts = Got (Ival_name (record { text = x; line = line_ahead ts })) (after ts)
ival_at off _ ts = Stop ts

abbrev pub ival : List Ival → Reader Ival
ival before ts = ival_at (values_words before) (first ts) ts

-- initial values, perhaps none, and a semicolon
abbrev pub valued : (List Ival → Definition) → Reader Definition
valued made ts =
    if is_semicolon (first ts)
    then Got (made []) (after ts)
    else list_reader ival ts >>= (λ values r. expect is_semicolon r >>= λ o. Got (made values))

-- after an opening bracket
abbrev pub vector : Identifier → Reader Definition
vector w ts = size ts >>= λ n r. expect is_close_bracket r >>= λ o. valued (Vector w n)

abbrev pub function_body : Identifier → List Identifier → Reader Definition
function_body w parameters ts = statement MAX_NESTING 0 ts >>= λ s. Got (Function w parameters s)

-- after the parenthesis that opens the parameters
abbrev pub function : Identifier → Reader Definition
function w ts =
    if is_close_paren (first ts)
    then function_body w [] (after ts)
    else list_reader (λ before. name) ts
    >>= (λ parameters r. expect is_close_paren r >>= λ o. function_body w parameters)

abbrev pub after_name_at : Identifier → Token → Reader Definition
after_name_at w token.OpenBracket ts = vector w (after ts)
after_name_at w token.OpenParen ts = function w (after ts)
after_name_at w _ ts = valued (Simple w) ts

abbrev pub after_name : Identifier → Reader Definition
after_name w ts = after_name_at w (first ts) ts

abbrev pub definition : Reader Definition
definition ts = name ts >>= after_name

-- whether an else after it would be its own
abbrev pub is_open_definition : Definition → Bool
is_open_definition (Function w parameters body) = is_open body
is_open_definition _ = false
