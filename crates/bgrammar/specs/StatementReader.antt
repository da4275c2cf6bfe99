-- Inner words: reading a statement from the left, with one token ahead.
use Rattle.std.specs.Prelude.{ℕ, zero, suc, ◌+◌, List, ◌∷◌, Bool, true, false, Option, Some, None, if◌then◌else◌}
use Rattle.blang.specs.declared.token.Token.{Token}
use Rattle.blang.specs.declared.token.Token.TheVariants as token
use Rattle.blang.specs.declared.token.Keyword.TheVariants as keyword
use Rattle.blang.specs.Trees.{Identifier, Constant, Number, Character, Expr, name_token, Declared, Heading, Auto, Extrn}
use Rattle.blang.specs.Trees.{Label, Case, Default, Stmt, Headed, Compound, If, IfElse, While, Switch, Goto, Break}
use Rattle.blang.specs.Trees.{Return, ReturnValue, Evaluate, Empty, Stmts, Nothing, More}
use Rattle.bgrammar.specs.Fitting.{words, statement_words, body_words}
use Rattle.bgrammar.specs.Reading.{Got, Stop, Reader, ◌>>=◌, first, line_ahead, after, expect, many}
use Rattle.bgrammar.specs.ExpressionReader.{is_close_paren, is_colon, always, Rvalue, reader}
use Rattle.bgrammar.specs.Commas.{list_reader}

abbrev pub is_open_paren : Token → Bool
is_open_paren token.OpenParen = true
is_open_paren _ = false

abbrev pub is_open_brace : Token → Bool
is_open_brace token.OpenBrace = true
is_open_brace _ = false

abbrev pub is_close_brace : Token → Bool
is_close_brace token.CloseBrace = true
is_close_brace _ = false

abbrev pub is_semicolon : Token → Bool
is_semicolon token.Semicolon = true
is_semicolon _ = false

abbrev pub is_else : Token → Bool
is_else (token.Keyword keyword.Else) = true
is_else _ = false

abbrev pub name_at : Token → Reader Identifier
name_at (token.Name x) ts = Got (record { text = x; line = line_ahead ts }) (after ts)
name_at _ ts = Stop ts

abbrev pub name : Reader Identifier
name ts = name_at (first ts) ts

abbrev pub constant_at : Token → Reader Constant
constant_at (token.Number n) ts = Got (Number n) (after ts)
constant_at (token.Character n) ts = Got (Character n) (after ts)
constant_at _ ts = Stop ts

abbrev pub constant : Reader Constant
constant ts = constant_at (first ts) ts

abbrev pub size_at : Token → Reader (Option ℕ)
size_at (token.Number n) ts = Got (Some n) (after ts)
size_at _ ts = Got None ts

abbrev pub size : Reader (Option ℕ)
size ts = size_at (first ts) ts

abbrev pub declared : Reader Declared
declared ts = name ts >>= λ w r. size r >>= λ n. Got (record { word = w; size = n })

-- the headings before a statement, the last one outermost
pub data Headings : Type 0 where
  No_heading : Headings
  Then : (before : Headings) → (h : Heading) → Headings

abbrev pub headed : Headings → Stmt → Stmt
headed No_heading s = s
headed (Then before h) s = headed before (Headed h s)

-- what was taken before a statement: headings, and perhaps a name, which is a label if a colon comes
pub record Lead : Type 0 where
  pub headings : Headings
  pub word : Option Identifier

abbrev pub no_lead : Lead
no_lead = record { headings = No_heading; word = None }

abbrev pub with_heading : Lead → Heading → Lead
with_heading lead h = record { headings = Then lead.headings h; word = None }

-- how a token goes on before a statement
pub data Step : Type 0 where
  Declares : Step
  Imports : Step
  Selects : Step
  Defaults : Step
  Mentions : (text : List ℕ) → Step
  Labels : (w : Identifier) → Step

abbrev pub step_at : Option Identifier → Token → Option Step
step_at None (token.Keyword keyword.Auto) = Some Declares
step_at None (token.Keyword keyword.Extrn) = Some Imports
step_at None (token.Keyword keyword.Case) = Some Selects
step_at None (token.Keyword keyword.Default) = Some Defaults
step_at None (token.Name x) = Some (Mentions x)
step_at (Some w) token.Colon = Some (Labels w)
step_at _ _ = None

abbrev pub lead_step : Lead → Token → Option Step
lead_step lead t = step_at lead.word t

abbrev pub lead_turn : Step → Lead → Reader Lead
lead_turn Declares lead ts =
    list_reader (λ before. declared) (after ts) >>= λ ds r. expect is_semicolon r
    >>= λ o. Got (with_heading lead (Auto ds))
lead_turn Imports lead ts =
    list_reader (λ before. name) (after ts) >>= λ names r. expect is_semicolon r
    >>= λ o. Got (with_heading lead (Extrn names))
lead_turn Selects lead ts =
    constant (after ts) >>= λ c r. expect is_colon r >>= λ o. Got (with_heading lead (Case (line_ahead ts) c))
lead_turn Defaults lead ts = expect is_colon (after ts) >>= λ o. Got (with_heading lead (Default (line_ahead ts)))
lead_turn (Mentions x) lead ts =
    Got (record { headings = lead.headings; word = Some (record { text = x; line = line_ahead ts }) }) (after ts)
lead_turn (Labels w) lead ts = Got (with_heading lead (Label w)) (after ts)

abbrev pub lead : Reader Lead
lead ts = many lead_step lead_turn no_lead ts

-- a body goes on up to its end
abbrev pub goes_on : Token → Option (Unit {0})
goes_on token.CloseBrace = None
goes_on token.End = None
goes_on _ = Some tt

-- what is one level deeper
pub record Level : Type 0 where
  pub enter : Reader (Unit {0})
  pub expr : ℕ → Reader Expr
  pub stmt : ℕ → Reader Stmt

-- a condition in its parentheses, and what comes after it
abbrev pub tested : Level → ℕ → (Expr → Reader Stmt) → Reader Stmt
tested level off following ts =
    level.enter ts >>= λ o r. expect is_open_paren r >>= λ o r. level.expr off r >>= λ e r. expect is_close_paren r
    >>= λ o. following e

abbrev pub else_part : Level → ℕ → Expr → Stmt → Reader Stmt
else_part level off e s ts =
    if is_else (first ts)
    then level.stmt (off + words e + statement_words s) (after ts) >>= (λ other. Got (IfElse e s other))
    else Got (If e s) ts

abbrev pub chosen : Level → ℕ → Expr → Reader Stmt
chosen level off e ts = level.stmt (off + words e) ts >>= else_part level off e

abbrev pub looped : Level → ℕ → Expr → Reader Stmt
looped level off e ts = level.stmt (off + words e) ts >>= λ s. Got (While e s)

abbrev pub one_more : Level → ℕ → Unit {0} → Stmts → Reader Stmts
one_more level off o before ts = level.stmt (off + body_words before) ts >>= λ s. Got (More before s)

-- statements up to a closing brace
abbrev pub body : Level → ℕ → (Stmts → Stmt) → Reader Stmt
body level off made ts =
    many (always goes_on) (one_more level off) Nothing ts >>= λ ss r. expect is_close_brace r >>= λ o. Got (made ss)

abbrev pub compound : Level → ℕ → Reader Stmt
compound level off ts = level.enter ts >>= λ o. body level off Compound

abbrev pub switched : Level → ℕ → Reader Stmt
switched level off ts =
    level.enter ts >>= λ o r. level.expr off r >>= λ e r. expect is_open_brace r
    >>= λ o. body level (off + words e) (Switch e)

-- an rvalue, and a semicolon
abbrev pub ended : ℕ → ℕ → (Expr → Stmt) → Reader Stmt
ended room off made ts = reader room Rvalue off ts >>= λ e r. expect is_semicolon r >>= λ o. Got (made e)

abbrev pub returned : ℕ → ℕ → Reader Stmt
returned room off ts =
    if is_open_paren (first ts)
    then reader room Rvalue off (after ts)
    >>= (λ e r. expect is_close_paren r >>= λ o r. expect is_semicolon r >>= λ o. Got (ReturnValue e))
    else expect is_semicolon ts >>= (λ o. Got Return)

abbrev pub stmt_at : ℕ → Level → ℕ → Token → Reader Stmt
stmt_at room level off token.OpenBrace ts = compound level off ts
stmt_at room level off (token.Keyword keyword.If) ts = tested level off (chosen level off) ts
stmt_at room level off (token.Keyword keyword.While) ts = tested level off (looped level off) ts
stmt_at room level off (token.Keyword keyword.Switch) ts = switched level off ts
stmt_at room level off (token.Keyword keyword.Goto) ts = ended room off Goto (after ts)
stmt_at room level off (token.Keyword keyword.Break) ts =
    expect is_semicolon (after ts) >>= λ o. Got (Break (line_ahead ts))
stmt_at room level off (token.Keyword keyword.Return) ts = returned room off (after ts)
stmt_at room level off token.Semicolon ts = Got Empty (after ts)
stmt_at room level off _ ts = ended room off Evaluate ts

-- a statement after its headings; an expression may begin with the name that was taken
abbrev pub stmt_after : ℕ → Level → ℕ → Option Identifier → Reader Stmt
stmt_after room level off None ts = stmt_at room level off (first ts) ts
stmt_after room level off (Some w) ts = ended room off Evaluate (name_token w ∷ ts)

abbrev pub stmt_with : ℕ → Level → ℕ → Reader Stmt
stmt_with room level off ts = lead ts >>= λ l r. stmt_after room level off l.word r >>= λ s. Got (headed l.headings s)

abbrev pub level : ℕ → Level
level zero = record { enter = λ ts. Stop ts; expr = λ off ts. Stop ts; stmt = λ off ts. Stop ts }
level (suc room) = record {
  enter = λ ts. Got tt (after ts);
  expr = λ off ts. reader room Rvalue off ts;
  stmt = λ off ts. stmt_with room (level room) off ts;
}

abbrev pub statement : ℕ → ℕ → Reader Stmt
statement room off ts = stmt_with room (level room) off ts
