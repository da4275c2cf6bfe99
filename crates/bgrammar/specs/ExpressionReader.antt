-- Inner words: reading an expression from the left, with one token ahead.
use Rattle.std.specs.Prelude.{ℕ, zero, suc, ◌+◌, Bool, true, false, Option, Some, None, nat_eq, if◌then◌else◌}
use Rattle.bword.specs.declared.operators.BinOp.{BinOp}
use Rattle.bword.specs.declared.operators.BinOp.TheVariants as op
use Rattle.blang.specs.declared.token.Token.{Token}
use Rattle.blang.specs.declared.token.Token.TheVariants as token
use Rattle.blang.specs.Trees.{Expr, Arguments, PrefixOp, Negate, Not, Indirection, Address, PreIncrement, PreDecrement}
use Rattle.blang.specs.Trees.{PostfixOp, PostIncrement, PostDecrement, Number, Character, Named, Literal, Text, Grouped}
use Rattle.blang.specs.Trees.{Indexed, Called, Postfixed, Prefixed, Binary, Conditional, Assigned, No_arguments}
use Rattle.blang.specs.Trees.{Another}
use Rattle.blang.specs.WellFormed.{rank, or_rank}
use Rattle.bgrammar.specs.Fitting.{words, argument_words}
use Rattle.bgrammar.specs.Reading.{Got, Stop, Reader, ◌>>=◌, at_some, first, line_ahead, after, expect, many}

-- an expression that no binary operator, conditional or assignment joins
abbrev pub is_operand : Expr → Bool
is_operand (Binary op line e f) = false
is_operand (Conditional e f g) = false
is_operand (Assigned op line e f) = false
is_operand _ = true

abbrev pub is_close_paren : Token → Bool
is_close_paren token.CloseParen = true
is_close_paren _ = false

abbrev pub is_close_bracket : Token → Bool
is_close_bracket token.CloseBracket = true
is_close_bracket _ = false

abbrev pub is_question : Token → Bool
is_question token.Question = true
is_question _ = false

abbrev pub is_colon : Token → Bool
is_colon token.Colon = true
is_colon _ = false

abbrev pub prefix_binary : BinOp → Option PrefixOp
prefix_binary op.Sub = Some Negate
prefix_binary op.Mul = Some Indirection
prefix_binary op.And = Some Address
prefix_binary _ = None

-- the prefix operator that a token is
abbrev pub prefix_op : Token → Option PrefixOp
prefix_op (token.Operator op) = prefix_binary op
prefix_op token.Not = Some Not
prefix_op token.Increment = Some PreIncrement
prefix_op token.Decrement = Some PreDecrement
prefix_op _ = None

abbrev pub having_rank : ℕ → BinOp → Option BinOp
having_rank r op = if nat_eq (rank op) r then Some op else None

-- the binary operator that a token is, where it has the rank
abbrev pub op_at : ℕ → Token → Option BinOp
op_at r (token.Operator op) = having_rank r op
op_at r _ = None

-- what goes on after a postfix expression
pub data Suffix : Type 0 where
  Index : Suffix
  Call : Suffix
  Step : (op : PostfixOp) → Suffix

abbrev pub suffix : Token → Option Suffix
suffix token.OpenBracket = Some Index
suffix token.OpenParen = Some Call
suffix token.Increment = Some (Step PostIncrement)
suffix token.Decrement = Some (Step PostDecrement)
suffix _ = None

abbrev pub comma : Token → Option (Unit {0})
comma token.Comma = Some tt
comma _ = None

-- whatever was read so far
abbrev pub always : {A B : Type 0} → (Token → Option B) → A → Token → Option B
always more a t = more t

-- which expressions may stand at a place: `prefix`, `cond` and `rvalue` of the grammar
pub data ExpressionKind : Type 0 where
  Operand : ExpressionKind
  Choice : ExpressionKind
  Rvalue : ExpressionKind

-- What is one level deeper: the token that opens it, where there is room, and what stands there.
-- Each reader of expressions is given the offset of the next string.
pub record Inner : Type 0 where
  pub enter : Reader (Unit {0})
  pub read : ExpressionKind → ℕ → Reader Expr

abbrev pub group : Inner → ℕ → Reader Expr
group inner off ts =
    inner.enter ts >>= λ o r. inner.read Rvalue off r >>= λ e r. expect is_close_paren r >>= λ o. Got (Grouped e)

abbrev pub primary_at : Inner → ℕ → Token → Reader Expr
primary_at inner off (token.Name x) ts = Got (Named (record { text = x; line = line_ahead ts })) (after ts)
primary_at inner off (token.Number n) ts = Got (Literal (Number n)) (after ts)
primary_at inner off (token.Character n) ts = Got (Literal (Character n)) (after ts)
primary_at inner off (token.String s) ts = Got (Text s.items off) (after ts)
primary_at inner off token.OpenParen ts = group inner off ts
primary_at inner off _ ts = Stop ts

abbrev pub primary : Inner → ℕ → Reader Expr
primary inner off ts = primary_at inner off (first ts) ts

-- the argument after a comma
abbrev pub another : Inner → ℕ → Unit {0} → Arguments → Reader Arguments
another inner off o args ts = inner.read Rvalue (off + argument_words args) (after ts) >>= λ e. Got (Another args e)

abbrev pub arguments : Inner → ℕ → Reader Arguments
arguments inner off ts =
    inner.read Rvalue off ts >>= λ e. many (always comma) (another inner off) (Another No_arguments e)

-- after the parenthesis that opens the arguments
abbrev pub call : Inner → ℕ → Expr → Reader Expr
call inner off e ts =
    if is_close_paren (first ts)
    then Got (Called e No_arguments) (after ts)
    else arguments inner (off + words e) ts >>= λ args r. expect is_close_paren r >>= λ o. Got (Called e args)

abbrev pub postfix_with : Inner → ℕ → Suffix → Expr → Reader Expr
postfix_with inner off Index e ts =
    inner.enter ts >>= λ o r. inner.read Rvalue (off + words e) r >>= λ f r. expect is_close_bracket r
    >>= λ o. Got (Indexed e f)
postfix_with inner off Call e ts = inner.enter ts >>= λ o. call inner off e
postfix_with inner off (Step op) e ts = Got (Postfixed op (line_ahead ts) e) (after ts)

abbrev pub postfix : Inner → ℕ → Reader Expr
postfix inner off ts = primary inner off ts >>= many (always suffix) (postfix_with inner off)

abbrev pub prefixed : Inner → ℕ → PrefixOp → Reader Expr
prefixed inner off op ts =
    inner.enter ts >>= λ o r. inner.read Operand off r >>= λ e. Got (Prefixed op (line_ahead ts) e)

abbrev pub operand : Inner → ℕ → Reader Expr
operand inner off ts = at_some (prefix_op (first ts)) (λ op. prefixed inner off op ts) (postfix inner off ts)

-- one more operator of a rank, and what stands after it
abbrev pub operation : (ℕ → Reader Expr) → ℕ → BinOp → Expr → Reader Expr
operation tighter off op e ts = tighter (off + words e) (after ts) >>= λ f. Got (Binary op (line_ahead ts) e f)

-- operands and the binary operators up to this rank
abbrev pub chain : Inner → ℕ → ℕ → Reader Expr
chain inner zero off ts = operand inner off ts
chain inner (suc r) off ts = chain inner r off ts >>= many (always (op_at (suc r))) (operation (chain inner r) off)

-- after the question mark
abbrev pub choices : Inner → ℕ → Expr → Reader Expr
choices inner off e ts =
    inner.read Rvalue (off + words e) ts >>= λ f r. expect is_colon r
    >>= λ o r. inner.read Choice (off + words e + words f) r >>= λ g. Got (Conditional e f g)

abbrev pub conditional : Inner → ℕ → Expr → Reader Expr
conditional inner off e ts = if is_question (first ts) then inner.enter ts >>= (λ o. choices inner off e) else Got e ts

-- only an operand is assigned to
abbrev pub assigns : Expr → Token → Option (Option BinOp)
assigns e (token.Assign op) = if is_operand e then Some op else None
assigns e _ = None

abbrev pub assigned : Inner → ℕ → Expr → Option BinOp → Reader Expr
assigned inner off e op ts =
    inner.enter ts >>= λ o r. inner.read Rvalue (off + words e) r >>= λ f. Got (Assigned op (line_ahead ts) e f)

abbrev pub rvalue_from : Inner → ℕ → Expr → Reader Expr
rvalue_from inner off e ts =
    at_some (assigns e (first ts)) (λ op. assigned inner off e op ts) (conditional inner off e ts)

abbrev pub read_at : Inner → ExpressionKind → ℕ → Reader Expr
read_at inner Operand off ts = operand inner off ts
read_at inner Choice off ts = chain inner or_rank off ts >>= conditional inner off
read_at inner Rvalue off ts = chain inner or_rank off ts >>= rvalue_from inner off

-- what is one level deeper, where so many levels are left
abbrev pub inner : ℕ → Inner
inner zero = record { enter = λ ts. Stop ts; read = λ kind off ts. Stop ts }
inner (suc room) = record { enter = λ ts. Got tt (after ts); read = λ kind off ts. read_at (inner room) kind off ts }

abbrev pub reader : ℕ → ExpressionKind → ℕ → Reader Expr
reader room kind off ts = read_at (inner room) kind off ts
