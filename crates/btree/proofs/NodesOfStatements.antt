-- The nodes that are made of a statement's tokens are those of its tree.
use Rattle.std.proofs.Common.{◌≡◌, ◌∙◌, ap, append_assoc, arith, Bool, false, true, List, [], ◌∷◌, ◌++◌, ℕ, ◌<◌, Option, Some, None, refl, sym, subst}
use Rattle.blang.specs.declared.token.Keyword.TheVariants as keyword
use Rattle.blang.specs.declared.token.Token.TheVariants as token
use Rattle.blang.specs.Trees.{Expr, Named, Literal, Text, Grouped, Indexed, Called, Postfixed, Prefixed, Binary, Conditional, Assigned, Constant, Number, Character, PostfixOp, PostIncrement, PostDecrement, PrefixOp, Negate, Not, Indirection, Address, PreIncrement, PreDecrement, Identifier, Declared, Heading, Auto, Extrn, Label, Case, Default, Stmt, Headed, Compound, If, IfElse, While, Switch, Goto, Break, Return, ReturnValue, Evaluate, Empty, Stmts, Nothing, More, constant_token, postfix_token, prefix_token}
use Rattle.blang.specs.Walk.{Event, Walk, ◌▸◌, callee, name, plain, walk, walk_arguments, walk_body, walk_commas, walk_declared, walk_heading, walk_import, walk_list, walk_parenthesized, walk_size, walk_statement}
use Rattle.blang.specs.WellFormed.{Binds, BodyBinds, StatementBinds, rvalue_rank}
use Rattle.blex.specs.declared.lexeme.Lexeme.{Lexeme}
use Rattle.blex.specs.declared.lexeme.Lexeme.TheVariants as lexeme
use Rattle.blex.specs.Lexemes.{lexeme_of}
use Rattle.btree.specs.declared.nodes.NodeTag.TheVariants as tag
use Rattle.btree.specs.declared.nodes.Node.TheVariants as node
use Rattle.btree.specs.declared.nodes.Pending.{Pending}
use Rattle.btree.specs.declared.nodes.Pending.TheVariants as pending
use Rattle.btree.specs.declared.nodes.Stage.{Stage}
use Rattle.btree.specs.declared.nodes.Stage.TheVariants as stage
use Rattle.btree.specs.Nodes.{between, blank, body_nodes, condition_nodes, ending, nodes, statement_nodes}
use Rattle.btree.specs.NodeMachine.{NodeTurn, ahead, begin_named, bound, complete, node_run}
use Rattle.btree.specs.NodeReading.{Stands}
use Rattle.btree.proofs.NodeSteps.{joins, lexemes, onward}
use Rattle.btree.proofs.NodesOfExpressions.{callee_lexemes, parses, up_to}

-- What stands where no expression does keeps the stage, with a tag for each token.
pub record Stays (s : Stage) (w : Walk) : Type 0 where
  pub goes : (waiting : List Pending) (rest : List Lexeme)
      → node_run s waiting (lexemes w ++ rest) ≡ blank w ++ node_run s waiting rest

pub both : {s : Stage} {v w : Walk} → Stays s v → Stays s w → Stays s (v ▸ w)
both {s} {v} {w} f g = record {
  goes = λ waiting rest. ap (node_run s waiting) (append_assoc (lexemes v) (lexemes w) rest)
      ∙ onward (blank v) (blank w) _ (f.goes waiting (lexemes w ++ rest)) (g.goes waiting rest);
}

module _ (s : Stage) (comma : Stays s (plain token.Comma)) {A : Type 0} (say : A → Walk) (stays : (x : A) → Stays s (say x)) where
  commas : (xs : List A) → Stays s (walk_commas say xs)
  commas [] = record { goes = λ waiting rest. refl }
  commas (x ∷ xs) = both comma (both (stays x) (commas xs))

  pub list : (xs : List A) → Stays s (walk_list say xs)
  list [] = record { goes = λ waiting rest. refl }
  list (x ∷ xs) = both (stays x) (commas xs)

pub heading_comma : Stays stage.Heading (plain token.Comma)
heading_comma = record { goes = λ waiting rest. refl }

pub heading_name : (w : Identifier) (e : Event) → Stays stage.Heading (name w e)
heading_name w e = record { goes = λ waiting rest. refl }

heading_size : (size : Option ℕ) → Stays stage.Heading (walk_size size)
heading_size None = record { goes = λ waiting rest. refl }
heading_size (Some n) = record { goes = λ waiting rest. refl }

heading_declared : (d : Declared) → Stays stage.Heading (walk_declared d)
heading_declared d = both (heading_name d.word _) (heading_size d.size)

-- up to a token after it
pub ended : {s : Stage} {w : Walk} → Stays s w → (waiting : List Pending) (l : Lexeme) (ls rest : List Lexeme)
    → node_run s waiting ((lexemes w ++ l ∷ ls) ++ rest) ≡ blank w ++ node_run s waiting (l ∷ (ls ++ rest))
ended {s} {w} f waiting l ls rest = ap (node_run s waiting) (append_assoc (lexemes w) (l ∷ ls) rest) ∙ f.goes waiting (l ∷ (ls ++ rest))

heading : (h : Heading) (waiting : List Pending) (rest : List Lexeme)
    → node_run stage.Start waiting (lexemes (walk_heading h) ++ rest) ≡ blank (walk_heading h) ++ node_run stage.Start waiting rest
heading (Auto ds) waiting rest =
    let stays = list stage.Heading heading_comma walk_declared heading_declared ds in
    ap (λ k. tag.Token ∷ k)
    (onward (blank (walk_list walk_declared ds)) (tag.Token ∷ []) _ (ended stays waiting lexeme.Semicolon [] rest) refl)
heading (Extrn names) waiting rest =
    let stays = list stage.Heading heading_comma walk_import (λ w. heading_name w _) names in
    ap (λ k. tag.Token ∷ k)
    (onward (blank (walk_list walk_import names)) (tag.Token ∷ []) _ (ended stays waiting lexeme.Semicolon [] rest) refl)
heading (Label w) waiting rest = refl
heading (Case line (Number n)) waiting rest = refl
heading (Case line (Character n)) waiting rest = refl
heading (Default line) waiting rest = refl

-- How expressions begin: as no other statement does, and with no name before a colon.
abbrev is_colon : Lexeme → Bool
is_colon lexeme.Colon = true
is_colon _ = false

pub record Begins (ls : List Lexeme) : Type 0 where
  pub begun : (waiting : List Pending) → node_run stage.Start waiting ls ≡ node_run stage.Operand waiting ls

no_label : (waiting : List Pending) (l : Lexeme) → is_colon l ≡ false → begin_named waiting l ≡ complete node.Name waiting
no_label waiting lexeme.Colon h = cc
no_label waiting _ h = refl

name_first : (text : List ℕ) (rest : List Lexeme) → is_colon (ahead rest) ≡ false → Begins (lexeme.Name text ∷ rest)
name_first text rest h = record {
  begun = λ waiting. ap (λ (t : NodeTurn). t.tags ++ node_run t.stage t.waiting rest) (no_label waiting (ahead rest) h);
}

on : (a b rest : List Lexeme) → Begins (a ++ (b ++ rest)) → Begins ((a ++ b) ++ rest)
on a b rest h = subst Begins (sym (append_assoc a b rest)) h

constant_first : (c : Constant) (rest : List Lexeme) → Begins (lexemes (plain (constant_token c)) ++ rest)
constant_first (Number n) rest = record { begun = λ waiting. refl }
constant_first (Character n) rest = record { begun = λ waiting. refl }

prefix_first : (op : PrefixOp) (rest : List Lexeme) → Begins (lexeme_of (prefix_token op) ∷ rest)
prefix_first Negate rest = record { begun = λ waiting. refl }
prefix_first Not rest = record { begun = λ waiting. refl }
prefix_first Indirection rest = record { begun = λ waiting. refl }
prefix_first Address rest = record { begun = λ waiting. refl }
prefix_first PreIncrement rest = record { begun = λ waiting. refl }
prefix_first PreDecrement rest = record { begun = λ waiting. refl }

postfix_colon : (op : PostfixOp) → is_colon (lexeme_of (postfix_token op)) ≡ false
postfix_colon PostIncrement = refl
postfix_colon PostDecrement = refl

begins : (e : Expr) (rest : List Lexeme) → is_colon (ahead rest) ≡ false → Begins (lexemes (walk e) ++ rest)
begins (Named w) rest h = name_first w.text rest h
begins (Literal c) rest h = constant_first c rest
begins (Text bytes offset) rest h = record { begun = λ waiting. refl }
begins (Grouped e) rest h = record { begun = λ waiting. refl }
begins (Indexed e f) rest h = on (lexemes (walk e)) _ rest (begins e _ refl)
begins (Called e args) rest h =
    let given = lexeme.OpenParen ∷ (lexemes (walk_arguments args) ++ lexeme.CloseParen ∷ []) in
    on (lexemes (callee e (walk e))) given rest
    (subst (λ (a : List Lexeme). Begins (a ++ (given ++ rest))) (sym (callee_lexemes e)) (begins e (given ++ rest) refl))
begins (Postfixed op line e) rest h = on (lexemes (walk e)) (lexeme_of (postfix_token op) ∷ []) rest (begins e _ (postfix_colon op))
begins (Prefixed op line e) rest h = prefix_first op _
begins (Binary op line e f) rest h = on (lexemes (walk e)) _ rest (begins e _ refl)
begins (Conditional e f g) rest h = on (lexemes (walk e)) _ rest (begins e _ refl)
begins (Assigned op line e f) rest h = on (lexemes (walk e)) _ rest (begins e _ refl)

-- where a statement stands
abbrev pub AtStatement : List Pending → Type 0
AtStatement [] = Unit {0}
AtStatement (pending.Block ∷ waiting) = Unit {0}
AtStatement _ = ⊥

stands_at : (b : ℕ) (waiting : List Pending) → AtStatement waiting → Stands b waiting
stands_at b [] at = tt
stands_at b (pending.Block ∷ waiting) at = tt
stands_at b _ at = absurd at

-- an expression of a statement, up to a token after it
module _ (e : Expr) (b : Binds e rvalue_rank) (waiting : List Pending) (at : AtStatement waiting) (l : Lexeme) (ls rest : List Lexeme) where
  pub evaluated : rvalue_rank < bound l
      → node_run stage.Operand waiting ((lexemes (walk e) ++ l ∷ ls) ++ rest) ≡ nodes e ++ node_run stage.Operated waiting (l ∷ (ls ++ rest))
  evaluated over = up_to e (parses e) waiting l ls rest rvalue_rank b (λ c x y z. stands_at c waiting at) over

semicolon : (waiting : List Pending) → AtStatement waiting → (rest : List Lexeme)
    → node_run stage.Operated waiting (lexeme.Semicolon ∷ rest) ≡ ending node.Evaluated ++ node_run stage.Over waiting rest
semicolon [] at rest = refl
semicolon (pending.Block ∷ waiting) at rest = refl
semicolon (_ ∷ waiting) at rest = absurd at

plainly : (e : Expr) → Binds e rvalue_rank → (waiting : List Pending) → AtStatement waiting → (rest : List Lexeme)
    → node_run stage.Operand waiting ((lexemes (walk e) ++ lexeme.Semicolon ∷ []) ++ rest)
    ≡ (nodes e ++ ending node.Evaluated) ++ node_run stage.Over waiting rest
plainly e b waiting at rest =
    onward (nodes e) (ending node.Evaluated) _ (evaluated e b waiting at lexeme.Semicolon [] rest (omega arith)) (semicolon waiting at rest)

-- in the parentheses of an if, a while or a return
condition : (e : Expr) → Binds e rvalue_rank → (waiting : List Pending) (rest : List Lexeme)
    → node_run stage.Parenthesis (pending.Condition ∷ waiting) (lexemes (walk_parenthesized e) ++ rest)
    ≡ condition_nodes e ++ node_run stage.Start waiting rest
condition e b waiting rest =
    ap (λ k. tag.Token ∷ k)
    (onward (nodes e) (ending node.Tested) _
    (up_to e (parses e) (pending.Condition ∷ waiting) lexeme.CloseParen [] rest rvalue_rank b (λ c x y z. tt) (omega arith)) refl)

returned : (e : Expr) → Binds e rvalue_rank → (waiting : List Pending) (rest : List Lexeme)
    → node_run stage.Parenthesis (pending.Result ∷ waiting) (lexemes (walk_parenthesized e) ++ rest)
    ≡ between (nodes e) node.Returned ++ node_run stage.Rest waiting rest
returned e b waiting rest =
    ap (λ k. tag.Token ∷ k)
    (onward (nodes e) (ending node.Returned) _
    (up_to e (parses e) (pending.Result ∷ waiting) lexeme.CloseParen [] rest rvalue_rank b (λ c x y z. tt) (omega arith)) refl)

else_step : (waiting : List Pending) (ls : List Lexeme)
    → node_run stage.Over waiting (lexeme.Keyword keyword.Else ∷ ls) ≡ tag.Token ∷ node_run stage.Start waiting ls
else_step [] ls = refl
else_step (p ∷ waiting) ls = refl

start_is_over : (p : Pending) (waiting : List Pending) (ls : List Lexeme)
    → node_run stage.Over (p ∷ waiting) ls ≡ node_run stage.Start (p ∷ waiting) ls
start_is_over p waiting [] = refl
start_is_over p waiting (l ∷ ls) = refl

abbrev pub IsNoded : Stmt → Type 0
IsNoded s =
    (waiting : List Pending) → AtStatement waiting → (rest : List Lexeme)
    → node_run stage.Start waiting (lexemes (walk_statement s) ++ rest) ≡ statement_nodes s ++ node_run stage.Over waiting rest

abbrev AreNoded : Stmts → Type 0
AreNoded body =
    (waiting : List Pending) (rest : List Lexeme)
    → node_run stage.Over (pending.Block ∷ waiting) (lexemes (walk_body body) ++ rest)
    ≡ body_nodes body ++ node_run stage.Over (pending.Block ∷ waiting) rest

-- up to the } of a block
braced : (body : Stmts) → AreNoded body → (waiting : List Pending) (rest : List Lexeme)
    → node_run stage.Start (pending.Block ∷ waiting) ((lexemes (walk_body body) ++ lexeme.CloseBrace ∷ []) ++ rest)
    ≡ (body_nodes body ++ tag.Token ∷ []) ++ node_run stage.Over waiting rest
braced body f waiting rest =
    let inner = pending.Block ∷ waiting in
    onward (body_nodes body) (tag.Token ∷ []) _
    (ap (node_run stage.Start inner) (append_assoc (lexemes (walk_body body)) (lexeme.CloseBrace ∷ []) rest)
    ∙ sym (start_is_over pending.Block waiting (lexemes (walk_body body) ++ lexeme.CloseBrace ∷ rest))
    ∙ f waiting (lexeme.CloseBrace ∷ rest)) refl

-- a statement after a condition
conditional : (e : Expr) → Binds e rvalue_rank → (waiting : List Pending) (more rest : List Lexeme)
    → node_run stage.Parenthesis (pending.Condition ∷ waiting) ((lexemes (walk_parenthesized e) ++ more) ++ rest)
    ≡ condition_nodes e ++ node_run stage.Start waiting (more ++ rest)
conditional e b waiting more rest =
    ap (node_run stage.Parenthesis (pending.Condition ∷ waiting)) (append_assoc (lexemes (walk_parenthesized e)) more rest)
    ∙ condition e b waiting (more ++ rest)

mutual
  pub noded : (s : Stmt) → StatementBinds s → IsNoded s
  noded (Headed h s) b waiting at rest =
      onward (blank (walk_heading h)) (statement_nodes s) _
      (ap (node_run stage.Start waiting) (append_assoc (lexemes (walk_heading h)) (lexemes (walk_statement s)) rest)
      ∙ heading h waiting (lexemes (walk_statement s) ++ rest)) (noded s b.1 waiting at rest)
  noded (Compound body) b waiting at rest = ap (λ k. tag.Token ∷ k) (braced body (all_noded body b) waiting rest)
  noded (If e s) b waiting at rest =
      ap (λ k. tag.Token ∷ k)
      (onward (condition_nodes e) (statement_nodes s) _
      (conditional e b.0 waiting (lexemes (walk_statement s)) rest) (noded s b.1 waiting at rest))
  noded (IfElse e s other) b waiting at rest =
      let more = lexeme.Keyword keyword.Else ∷ lexemes (walk_statement other) in
      ap (λ k. tag.Token ∷ k)
      (onward (condition_nodes e) (statement_nodes s ++ tag.Token ∷ statement_nodes other) _
      (conditional e b.1 waiting (lexemes (walk_statement s) ++ more) rest)
      (onward (statement_nodes s) (tag.Token ∷ statement_nodes other) _
      (ap (node_run stage.Start waiting) (append_assoc (lexemes (walk_statement s)) more rest) ∙ noded s b.2 waiting at (more ++ rest))
      (else_step waiting (lexemes (walk_statement other) ++ rest) ∙ ap (λ k. tag.Token ∷ k) (noded other b.3 waiting at rest))))
  noded (While e s) b waiting at rest =
      ap (λ k. tag.Token ∷ k)
      (onward (condition_nodes e) (statement_nodes s) _
      (conditional e b.0 waiting (lexemes (walk_statement s)) rest) (noded s b.1 waiting at rest))
  noded (Switch e body) b waiting at rest =
      let block = lexemes (walk_body body) ++ lexeme.CloseBrace ∷ [] in
      ap (λ k. tag.Token ∷ k)
      (onward (nodes e ++ ending node.Switched) (body_nodes body ++ tag.Token ∷ []) _
      (onward (nodes e) (ending node.Switched) _
      (evaluated e b.0 waiting at lexeme.OpenBrace block rest (omega arith))
      (joins waiting lexeme.OpenBrace (block ++ rest) (stands_at _ waiting at)))
      (braced body (all_noded body b.1) waiting rest))
  noded (Goto e) b waiting at rest =
      ap (λ k. tag.Token ∷ k)
      (onward (nodes e) (ending node.Target) _
      (up_to e (parses e) (pending.Goto ∷ waiting) lexeme.Semicolon [] rest rvalue_rank b (λ c x y z. tt) (omega arith)) refl)
  noded (Break line) b waiting at rest = refl
  noded Return b waiting at rest = refl
  noded (ReturnValue e) b waiting at rest =
      ap (λ k. tag.Token ∷ k)
      (onward (between (nodes e) node.Returned) (tag.Token ∷ []) _
      (ap (node_run stage.Parenthesis (pending.Result ∷ waiting)) (append_assoc (lexemes (walk_parenthesized e)) (lexeme.Semicolon ∷ []) rest)
      ∙ returned e b waiting (lexeme.Semicolon ∷ rest)) refl)
  noded (Evaluate e) b waiting at rest =
      ap (node_run stage.Start waiting) (append_assoc (lexemes (walk e)) (lexeme.Semicolon ∷ []) rest)
      ∙ (begins e (lexeme.Semicolon ∷ rest) refl).begun waiting
      ∙ ap (node_run stage.Operand waiting) (sym (append_assoc (lexemes (walk e)) (lexeme.Semicolon ∷ []) rest))
      ∙ plainly e b waiting at rest
  noded Empty b waiting at rest = refl

  all_noded : (body : Stmts) → BodyBinds body → AreNoded body
  all_noded Nothing b waiting rest = refl
  all_noded (More before s) b waiting rest =
      let inner = pending.Block ∷ waiting in
      onward (body_nodes before) (statement_nodes s) _
      (ap (node_run stage.Over inner) (append_assoc (lexemes (walk_body before)) (lexemes (walk_statement s)) rest)
      ∙ all_noded before b.0 waiting (lexemes (walk_statement s) ++ rest))
      (start_is_over pending.Block waiting (lexemes (walk_statement s) ++ rest) ∙ noded s b.1 inner tt rest)
