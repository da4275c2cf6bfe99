-- Inner words: what the calls of the parser do with the tokens and with the draft.
use Rattle.std.specs.Prelude.{◌≡◌, ℕ, List, ◌+◌, ◌<◌, nat_le, if◌then◌else◌, min, Bool, Option, Some, None, Result, Ok, Err}
use Rattle.bword.specs.declared.operators.BinOp.{BinOp}
use Rattle.blang.specs.declared.token.Token.{Token}
use Rattle.blang.specs.declared.token.Token.TheVariants as token
use Rattle.blang.specs.Trees as tree
use Rattle.blang.specs.WellFormed as tree_wellformed
use Rattle.blang.specs.Trees.{Expr, Arguments, Called}
use Rattle.bgrammar.specs.Reading.{Reader, Got, Stop, first, line_ahead, expect}
use Rattle.bgrammar.specs.ExpressionReader as reader
use Rattle.bgrammar.specs.ExpressionReader.{inner}
use Rattle.bgrammar.specs.StatementReader.{is_open_paren}
use Rattle.blang.specs.Code.{argument_count}
use Rattle.bemit.specs.Drafts.{Draft}
use Rattle.bemit.specs.Effects.{form, held, passed, evaluated, most_arguments}
use Rattle.bemit.specs.declared.form.Form.{Form}
use Rattle.bemit.specs.declared.form.Form.TheVariants.{Place, Lone, Joined}
use Rattle.bemit.specs.Trails.{Lines, Trail, trail, took, noted_at, trailed, trailed_arguments}
use Rattle.bread.specs.Tokens.{Tokens, IsSingle, Runs, TokensFail, Advances, AdvancesTo, PassesOne, work}
use Rattle.bread.specs.declared.halt.Halt.{Halt}
use Rattle.bread.specs.declared.halt.Halt.TheVariants as halt
use Rattle.bread.specs.declared.parser.Parser.{Parser}
use Rattle.bread.specs.declared.operators.Prefix.{Prefix}
use Rattle.bread.specs.declared.operators.Prefix.TheVariants as prefixes
use Rattle.bread.specs.declared.operators.Suffix.{Suffix}
use Rattle.bread.specs.declared.operators.Suffix.TheVariants as suffixes

-- a call does with the tokens and the draft of a parser what is said of these
abbrev pub Does : {I A : Type 0} → (Tokens → Draft → Result A Halt → Tokens → Draft → Type 0)
    → Parser I → Result A Halt → Parser I → Type 0
Does said old result new = said old.tokens old.draft result new.tokens new.draft

-- Reading stops at the current token, or a read failed.
abbrev pub Halts : {A : Type 0} → Reader A → Tokens → Halt → Tokens → Type 0
Halts reader old halt.Fault new = Runs old new reader (λ v. Stop v) × IsSingle new
Halts reader old halt.Device new = TokensFail old new

-- a name is called if an opening parenthesis is the current token after it
abbrev pub called_at : Tokens → Bool
called_at t = is_open_paren (first t.ahead)

-- Where a trail led up to these tokens, this one leads over those that were passed.
abbrev pub Leads : (lead step : Trail → Trail) (old : Tokens) (passed : List ℕ → List ℕ) (new : Tokens) → Type 0
Leads lead step old passed new =
    (t : Trail) (ls : List ℕ) → lead t ≡ trail (passed ls) old.noted → step t ≡ trail ls new.noted

-- An expression was read, whose trail led up to here, and compiled onto a draft.
pub record ExpressionAfter (lead : Trail → Trail) (reader : Reader Expr) (start : Draft) (called : Bool)
    (old new : Tokens) (draft : Draft) (found : Form) : Type 0 where
  pub tree : Expr
  pub runs : Runs old new reader (λ v. Got tree v)
  pub made : draft ≡ held called tree start
  pub form_is : found ≡ form tree draft
  pub leads : Leads lead (trailed tree start) old runs.passed new

-- the same, where the expression begins here
abbrev pub ExpressionTaken : Reader Expr → Draft → Bool → Tokens → Tokens → Draft → Form → Type 0
ExpressionTaken reader start called old new draft found =
    ExpressionAfter (λ t. t) reader start called old new draft found

-- what reads an expression does so, whatever the offset of its strings is
abbrev pub Follows : (ℕ → Reader Expr) → Bool → Tokens → Draft → Result Form Halt → Tokens → Draft → Type 0
Follows reader called old before (Ok found) new draft =
    ((offset : ℕ) → ExpressionTaken (reader offset) before called old new draft found) × IsSingle new
Follows reader called old before (Err halt) new draft = (offset : ℕ) → Halts (reader offset) old halt new

-- what reads on after an expression does so, whatever that is, where the draft holds it
abbrev pub Continues : (ℕ → Expr → Reader Expr) → Bool → Form → Bool → Tokens → Draft
    → Result Form Halt → Tokens → Draft → Type 0
Continues reader was given called old before (Ok found) new draft =
    ((offset : ℕ) (e : Expr) (start : Draft) → before ≡ held was e start → given ≡ form e before
    → ExpressionAfter (trailed e start) (reader offset e) start called old new draft found) × IsSingle new
Continues reader was given called old before (Err halt) new draft =
    (offset : ℕ) (e : Expr) → Halts (reader offset e) old halt new

-- An expression was read, and compiled so that it leaves its word.
pub record TookWord (reader : Reader Expr) (start : Draft) (old new : Tokens) (draft : Draft) : Type 0 where
  pub tree : Expr
  pub runs : Runs old new reader (λ v. Got tree v)
  pub made : draft ≡ evaluated tree start
  pub leads : Leads (λ t. t) (trailed tree start) old runs.passed new

abbrev pub Evaluates : (ℕ → Reader Expr) → Tokens → Draft → Result (Unit {0}) Halt → Tokens → Draft → Type 0
Evaluates reader old before (Ok u) new draft =
    ((offset : ℕ) → TookWord (reader offset) before old new draft) × IsSingle new
Evaluates reader old before (Err halt) new draft = (offset : ℕ) → Halts (reader offset) old halt new

-- The arguments of a call were read, through the parenthesis after them, and compiled.
pub record TookArguments (reader : Reader Expr) (callee : Expr) (start : Draft) (old new : Tokens)
    (draft : Draft) (count : ℕ) : Type 0 where
  pub arguments : Arguments
  pub runs : Runs old new reader (λ v. Got (Called callee arguments) v)
  pub made : draft ≡ passed arguments start
  pub count_is : count ≡ min (argument_count arguments) most_arguments
  pub leads : Leads (λ t. t) (λ t. took (trailed_arguments arguments start t)) old runs.passed new

-- whatever is called
abbrev pub Passes : (ℕ → Expr → Reader Expr) → Tokens → Draft → Result ℕ Halt → Tokens → Draft → Type 0
Passes reader old before (Ok count) new draft =
    ((offset : ℕ) (e : Expr) → TookArguments (reader offset e) e before old new draft count) × IsSingle new
Passes reader old before (Err halt) new draft = (offset : ℕ) (e : Expr) → Halts (reader offset e) old halt new

-- A token that must come was taken. These lines are noted.
pub record ExpectedTo (noted : Lines) (is : Token → Bool) (old new : Tokens) : Type 0 where
  pub runs : Runs old new (expect is) (λ v. Got tt v)
  pub single : IsSingle new
  pub falls : work new < work old
  pub one : PassesOne old runs.passed
  pub noted_is : new.noted ≡ noted

abbrev pub ExpectsTo : Lines → (Token → Bool) → Tokens → Result (Unit {0}) Halt → Tokens → Type 0
ExpectsTo noted is old (Ok u) new = ExpectedTo noted is old new
ExpectsTo noted is old (Err halt) new = Halts (expect is) old halt new

-- the same, and nothing was noted
abbrev pub Expected : (Token → Bool) → Tokens → Tokens → Type 0
Expected is old new = ExpectedTo old.noted is old new

abbrev pub Expects : (Token → Bool) → Tokens → Result (Unit {0}) Halt → Tokens → Type 0
Expects is old r new = ExpectsTo old.noted is old r new

-- the token that opens a level was taken, if there is room for one
abbrev pub Enters : ℕ → Tokens → Result ℕ Halt → Tokens → Type 0
Enters room old (Ok left) new = (room ≡ left + 1) × Advances old new
Enters room old (Err halt) new = Halts (inner room).enter old halt new

-- the current token was taken, of whose line is what was made from this place on, and this answered
abbrev pub TakesCurrent : ℕ → Tokens → Form → Result Form Halt → Tokens → Type 0
TakesCurrent place old given (Ok found) new =
    AdvancesTo (noted_at place (line_ahead old.ahead) old.noted) old new × (found ≡ given)
TakesCurrent place old given (Err why) new = (why ≡ halt.Device) × TokensFail old new

abbrev pub prefix_meant : Prefix → tree.PrefixOp
prefix_meant prefixes.Negate = tree.Negate
prefix_meant prefixes.Not = tree.Not
prefix_meant prefixes.Indirection = tree.Indirection
prefix_meant prefixes.Address = tree.Address
prefix_meant prefixes.Increment = tree.PreIncrement
prefix_meant prefixes.Decrement = tree.PreDecrement

-- what an operand with this operator leaves
abbrev pub prefix_form : Prefix → Form
prefix_form prefixes.Indirection = Place
prefix_form _ = Lone

abbrev pub suffix_meant : Suffix → reader.Suffix
suffix_meant suffixes.Index = reader.Index
suffix_meant suffixes.Call = reader.Call
suffix_meant suffixes.Increment = reader.Step tree.PostIncrement
suffix_meant suffixes.Decrement = reader.Step tree.PostDecrement

abbrev pub some_prefix : Option Prefix → Option tree.PrefixOp
some_prefix None = None
some_prefix (Some op) = Some (prefix_meant op)

abbrev pub some_suffix : Option Suffix → Option reader.Suffix
some_suffix None = None
some_suffix (Some s) = Some (suffix_meant s)

-- the operator of an assignment that a token begins after what has this form
abbrev pub assigned_at : Form → Token → Option (Option BinOp)
assigned_at Joined t = None
assigned_at form (token.Assign op) = Some op
assigned_at form _ = None

-- the binary operator that a token is, if it binds at most so loosely
abbrev pub op_within : ℕ → Token → Option BinOp
op_within loosest (token.Operator op) = if nat_le (tree_wellformed.rank op) loosest then Some op else None
op_within loosest _ = None
