-- Inner words: the nodes of tokens, made from the left with one token ahead. An operator waits for the end of its last
-- operand, which comes with a token that binds looser. Tokens of no program make some nodes, too.
use Rattle.std.specs.Prelude.{ℕ, suc, List, [], ◌∷◌, ◌++◌, nat_lt, if◌then◌else◌, None, Option, Some}
use Rattle.bword.specs.declared.operators.BinOp.TheVariants as op
use Rattle.blang.specs.declared.token.Keyword.{Keyword}
use Rattle.blang.specs.declared.token.Keyword.TheVariants as keyword
use Rattle.blang.specs.WellFormed.{conditional_rank, or_rank, rank, rvalue_rank}
use Rattle.blex.specs.declared.lexeme.Lexeme.{Lexeme}
use Rattle.blex.specs.declared.lexeme.Lexeme.TheVariants as lexeme
use Rattle.btree.specs.declared.nodes.Node.{Node}
use Rattle.btree.specs.declared.nodes.Node.TheVariants as node
use Rattle.btree.specs.declared.nodes.NodeTag.{NodeTag}
use Rattle.btree.specs.declared.nodes.NodeTag.TheVariants as tag
use Rattle.btree.specs.declared.nodes.Pending.{Pending}
use Rattle.btree.specs.declared.nodes.Pending.TheVariants as pending
use Rattle.btree.specs.declared.nodes.Stage.{Stage}
use Rattle.btree.specs.declared.nodes.Stage.TheVariants as stage

-- how loosely an operator binds that waits for its last operand
abbrev pub looseness : Node → ℕ
looseness (node.Binary op) = rank op
looseness node.Conditional = conditional_rank
looseness (node.Assigned op) = rvalue_rank
looseness _ = 0

-- After an operand, operators that bind looser than so wait on for this token. Nothing is over with a postfix operator.
abbrev pub bound : Lexeme → ℕ
bound lexeme.OpenBracket = 0
bound lexeme.OpenParen = 0
bound lexeme.Increment = 0
bound lexeme.Decrement = 0
bound (lexeme.Assign op) = 1
bound (lexeme.Operator op) = suc (rank op)
bound lexeme.Question = suc or_rank
bound _ = suc rvalue_rank

-- the first one that is read, from here on
abbrev pub ahead : List Lexeme → Lexeme
ahead [] = lexeme.End
ahead (l ∷ ls) = l

-- what a token makes: its tags, and how reading goes on while this waits, the innermost one first
pub record NodeTurn : Type 0 where
  pub tags : List NodeTag
  pub stage : Stage
  pub waiting : List Pending

abbrev pub node_turn : List NodeTag → Stage → List Pending → NodeTurn
node_turn tags s waiting = record { tags = tags; stage = s; waiting = waiting }

-- a token that makes no node
abbrev pub pass : Stage → List Pending → NodeTurn
pass s waiting = node_turn (tag.Token ∷ []) s waiting

-- a token with which a node ends
abbrev pub finish : Node → Stage → List Pending → NodeTurn
finish n s waiting = node_turn (tag.Token ∷ tag.Made n ∷ []) s waiting

-- and an operand is over
abbrev pub complete : Node → List Pending → NodeTurn
complete n waiting = finish n stage.Operated waiting

-- a node that ends before the token
abbrev pub after_made : Node → NodeTurn → NodeTurn
after_made n t = node_turn (tag.Made n ∷ t.tags) t.stage t.waiting

-- an operator before its operand
abbrev pub before_operand : Node → List Pending → NodeTurn
before_operand n waiting = pass stage.Operand (pending.Operator n ∷ waiting)

abbrev pub innermost : List Pending → Option Pending
innermost [] = None
innermost (p ∷ waiting) = Some p

-- what waits around it
abbrev pub outer : List Pending → List Pending
outer [] = []
outer (p ∷ waiting) = waiting

abbrev pub operand : List Pending → Lexeme → NodeTurn
operand waiting (lexeme.Name name) = complete node.Name waiting
operand waiting (lexeme.Number n) = complete node.Constant waiting
operand waiting (lexeme.Character n) = complete node.Constant waiting
operand waiting lexeme.String = complete node.Text waiting
operand waiting lexeme.OpenParen = pass stage.Operand (pending.Group ∷ waiting)
operand waiting lexeme.CloseParen = complete node.Called (outer waiting)
operand waiting (lexeme.Operator op.Sub) = before_operand node.Negate waiting
operand waiting (lexeme.Operator op.Mul) = before_operand node.Indirection waiting
operand waiting (lexeme.Operator op.And) = before_operand node.Address waiting
operand waiting lexeme.Not = before_operand node.Not waiting
operand waiting lexeme.Increment = before_operand node.PreIncrement waiting
operand waiting lexeme.Decrement = before_operand node.PreDecrement waiting
operand waiting _ = pass stage.Operand waiting

abbrev pub close_paren : List Pending → NodeTurn
close_paren (pending.Group ∷ waiting) = complete node.Grouped waiting
close_paren (pending.Call ∷ waiting) = after_made node.Argument (complete node.Called waiting)
close_paren (pending.Condition ∷ waiting) = finish node.Tested stage.Start waiting
close_paren (pending.Result ∷ waiting) = finish node.Returned stage.Rest waiting
close_paren waiting = pass stage.Operated (outer waiting)

-- the ( of a call, before its first argument
abbrev pub open_arguments : List Pending → NodeTurn
open_arguments waiting = finish node.NoArguments stage.Operand (pending.Call ∷ waiting)

-- a ; after an expression
abbrev pub end_statement : List Pending → NodeTurn
end_statement (pending.Goto ∷ waiting) = finish node.Target stage.Over waiting
end_statement waiting = finish node.Evaluated stage.Over waiting

-- the { of a switch
abbrev pub open_switch : List Pending → NodeTurn
open_switch waiting = finish node.Switched stage.Start (pending.Block ∷ waiting)

-- a token after an operand, where no operator is over with it
abbrev pub joining : List Pending → Lexeme → NodeTurn
joining waiting lexeme.OpenBracket = pass stage.Operand (pending.Index ∷ waiting)
joining waiting lexeme.OpenParen = open_arguments waiting
joining waiting lexeme.Increment = complete node.PostIncrement waiting
joining waiting lexeme.Decrement = complete node.PostDecrement waiting
joining waiting (lexeme.Operator op) = before_operand (node.Binary op) waiting
joining waiting (lexeme.Assign op) = before_operand (node.Assigned op) waiting
joining waiting lexeme.Question = pass stage.Operand (pending.Choice ∷ waiting)
joining waiting lexeme.Colon = before_operand node.Conditional (outer waiting)
joining waiting lexeme.Comma = after_made node.Argument (pass stage.Operand waiting)
joining waiting lexeme.CloseBracket = complete node.Indexed (outer waiting)
joining waiting lexeme.CloseParen = close_paren waiting
joining waiting lexeme.Semicolon = end_statement waiting
joining waiting lexeme.OpenBrace = open_switch waiting
joining waiting _ = pass stage.Operated waiting

-- the operators that are over before a token of this bound
abbrev pub over_before : (bound : ℕ) → List Pending → List NodeTag
over_before bound (pending.Operator n ∷ waiting) =
    if nat_lt (looseness n) bound then tag.Made n ∷ over_before bound waiting else []
over_before bound waiting = []

-- what waits on for it
abbrev pub left_before : (bound : ℕ) → List Pending → List Pending
left_before bound (pending.Operator n ∷ waiting) =
    if nat_lt (looseness n) bound then left_before bound waiting else pending.Operator n ∷ waiting
left_before bound waiting = waiting

abbrev pub operated : List Pending → Lexeme → NodeTurn
operated waiting l =
    let t = joining (left_before (bound l) waiting) l in
    node_turn (over_before (bound l) waiting ++ t.tags) t.stage t.waiting

-- a name with which a statement begins
abbrev pub begin_named : List Pending → (next : Lexeme) → NodeTurn
begin_named waiting lexeme.Colon = pass stage.Heading waiting
begin_named waiting next = complete node.Name waiting

abbrev pub begin_keyword : List Pending → Keyword → NodeTurn
begin_keyword waiting keyword.If = pass stage.Parenthesis (pending.Condition ∷ waiting)
begin_keyword waiting keyword.While = pass stage.Parenthesis (pending.Condition ∷ waiting)
begin_keyword waiting keyword.Return = pass stage.Parenthesis (pending.Result ∷ waiting)
begin_keyword waiting keyword.Switch = pass stage.Operand waiting
begin_keyword waiting keyword.Goto = pass stage.Operand (pending.Goto ∷ waiting)
begin_keyword waiting keyword.Break = pass stage.Rest waiting
begin_keyword waiting keyword.Else = pass stage.Start waiting
begin_keyword waiting _ = pass stage.Heading waiting

abbrev pub start : List Pending → Lexeme → (next : Lexeme) → NodeTurn
start waiting (lexeme.Name name) next = begin_named waiting next
start waiting (lexeme.Keyword k) next = begin_keyword waiting k
start waiting lexeme.Semicolon next = pass stage.Over waiting
start waiting lexeme.OpenBrace next = pass stage.Start (pending.Block ∷ waiting)
start waiting lexeme.CloseBrace next = pass stage.Over (outer waiting)
start waiting l next = operand waiting l

-- outside of all blocks a name begins a definition, and an else goes on with the one before
abbrev pub outside : Lexeme → NodeTurn
outside (lexeme.Name name) = pass stage.Rest []
outside (lexeme.Keyword keyword.Else) = pass stage.Start []
outside _ = pass stage.Over []

abbrev pub after_statement : List Pending → Lexeme → (next : Lexeme) → NodeTurn
after_statement [] l next = outside l
after_statement (p ∷ waiting) l next = start (p ∷ waiting) l next

abbrev pub rest : List Pending → Lexeme → NodeTurn
rest waiting lexeme.Semicolon = pass stage.Over waiting
rest waiting lexeme.OpenParen = pass stage.Heading waiting
rest waiting _ = pass stage.Rest waiting

abbrev pub heading : List Pending → Lexeme → NodeTurn
heading waiting lexeme.Semicolon = pass stage.Start waiting
heading waiting lexeme.Colon = pass stage.Start waiting
heading waiting lexeme.CloseParen = pass stage.Start waiting
heading waiting _ = pass stage.Heading waiting

abbrev pub parenthesis : List Pending → Lexeme → NodeTurn
parenthesis waiting lexeme.OpenParen = pass stage.Operand waiting
parenthesis waiting lexeme.Semicolon = pass stage.Over (outer waiting)
parenthesis waiting _ = pass stage.Parenthesis waiting

abbrev pub node_step : Stage → List Pending → Lexeme → (next : Lexeme) → NodeTurn
node_step stage.Start waiting l next = start waiting l next
node_step stage.Over waiting l next = after_statement waiting l next
node_step stage.Rest waiting l next = rest waiting l
node_step stage.Heading waiting l next = heading waiting l
node_step stage.Parenthesis waiting l next = parenthesis waiting l
node_step stage.Operand waiting l next = operand waiting l
node_step stage.Operated waiting l next = operated waiting l

-- the tags from here on
abbrev pub node_run : Stage → List Pending → List Lexeme → List NodeTag
node_run s waiting [] = []
node_run s waiting (l ∷ ls) =
    let t = node_step s waiting l (ahead ls) in
    t.tags ++ node_run t.stage t.waiting ls
