-- The nodes that are made of an expression's tokens are those of its tree.
use Rattle.std.proofs.Common.{◌≡◌, ◌∙◌, ap, append_assoc, arith, List, [], ◌∷◌, ◌++◌, ℕ, ◌<◌, ◌-◌, suc, refl, sym, inl, inr, ◌⊎◌}
use Rattle.blang.specs.Trees.{Expr, Named, Literal, Text, Grouped, Indexed, Called, Postfixed, Prefixed, Binary, Conditional, Assigned, Constant, Number, Character, PostIncrement, PostDecrement, Arguments, No_arguments, Another, constant_token}
use Rattle.blang.specs.WellFormed.{ArgumentsBind, Binds, IsPostfix, conditional_rank, or_rank, rank, rvalue_rank}
use Rattle.blang.specs.Walk.{callee, comma_before_next, plain, walk, walk_arguments}
use Rattle.blex.specs.declared.lexeme.Lexeme.{Lexeme}
use Rattle.blex.specs.declared.lexeme.Lexeme.TheVariants as lexeme
use Rattle.btree.specs.declared.nodes.Node.{Node}
use Rattle.btree.specs.declared.nodes.Node.TheVariants as node
use Rattle.btree.specs.declared.nodes.NodeTag.{NodeTag}
use Rattle.btree.specs.declared.nodes.NodeTag.TheVariants as tag
use Rattle.btree.specs.declared.nodes.Pending.{Pending}
use Rattle.btree.specs.declared.nodes.Pending.TheVariants as pending
use Rattle.btree.specs.declared.nodes.Stage.TheVariants as stage
use Rattle.btree.specs.Nodes.{argument_nodes, between, blank, ending, joined, nodes, prefix_node}
use Rattle.btree.specs.NodeMachine.{bound, looseness, node_run}
use Rattle.btree.proofs.NodeSteps.{Holds, IsOver, joins, lexemes, made_over, onward, prefix_loose, prefix_step, rank_least, rank_most, tighter, zero_stands}

-- What waits for an expression gets its nodes. Where it is no postfix expression, operators of it leave what waits, and
-- the token after it leaves none of them.
abbrev pub Parses : Expr → Type 0
Parses e =
    (loose : ℕ) → Binds e loose → (waiting : List Pending) (rest : List Lexeme)
    → IsPostfix e ⊎ (Holds loose waiting × IsOver loose rest)
    → node_run stage.Operand waiting (lexemes (walk e) ++ rest) ≡ nodes e ++ node_run stage.Operated waiting rest

-- up to a token after it
module _ (e : Expr) (f : Parses e) (waiting : List Pending) (l : Lexeme) (ls rest : List Lexeme) where
  abbrev pub UpTo : Type 0
  UpTo = node_run stage.Operand waiting ((lexemes (walk e) ++ l ∷ ls) ++ rest) ≡ nodes e ++ node_run stage.Operated waiting (l ∷ (ls ++ rest))

  pub up_to : (loose : ℕ) → Binds e loose → Holds loose waiting → loose < bound l → UpTo
  up_to loose b holds over =
      ap (node_run stage.Operand waiting) (append_assoc (lexemes (walk e)) (l ∷ ls) rest) ∙ f loose b waiting (l ∷ (ls ++ rest)) (inr (holds, over))

  pub postfix_to : IsPostfix e → Binds e 0 → UpTo
  postfix_to is b =
      ap (node_run stage.Operand waiting) (append_assoc (lexemes (walk e)) (l ∷ ls) rest) ∙ f 0 b waiting (l ∷ (ls ++ rest)) (inl is)

-- up to the end of an operator's last operand
last_operand : (e : Expr) → Parses e → (n : Node) (loose : ℕ) → Binds e loose → (waiting : List Pending) (rest : List Lexeme)
    → Holds loose (pending.Operator n ∷ waiting) → IsOver loose rest → IsOver (looseness n) rest
    → node_run stage.Operand (pending.Operator n ∷ waiting) (lexemes (walk e) ++ rest)
    ≡ (nodes e ++ tag.Made n ∷ []) ++ node_run stage.Operated waiting rest
last_operand e f n loose b waiting rest holds over made =
    onward (nodes e) (tag.Made n ∷ []) _ (f loose b (pending.Operator n ∷ waiting) rest (inr (holds, over))) (made_over n waiting rest made)

premise : {P : Type 0} → ⊥ ⊎ P → P
premise (inl e) = absurd e
premise (inr p) = p

constant : (c : Constant) (waiting : List Pending) (rest : List Lexeme)
    → node_run stage.Operand waiting (lexemes (plain (constant_token c)) ++ rest) ≡ ending node.Constant ++ node_run stage.Operated waiting rest
constant (Number n) waiting rest = refl
constant (Character n) waiting rest = refl

pub callee_lexemes : (e : Expr) → lexemes (callee e (walk e)) ≡ lexemes (walk e)
callee_lexemes (Named w) = refl
callee_lexemes _ = refl

-- arguments, the last of which isn't over
abbrev given : Arguments → List NodeTag
given No_arguments = []
given (Another before e) = argument_nodes before ++ (blank (comma_before_next before) ++ nodes e)

abbrev after_given : Arguments → List Pending → List Lexeme → List NodeTag
after_given No_arguments waiting ls = node_run stage.Operand (pending.Call ∷ waiting) ls
after_given (Another before e) waiting ls = node_run stage.Operated (pending.Call ∷ waiting) ls

abbrev AreGiven : Arguments → Type 0
AreGiven args =
    (waiting : List Pending) (l : Lexeme) (ls : List Lexeme) → rvalue_rank < bound l
    → node_run stage.Operand (pending.Call ∷ waiting) (lexemes (walk_arguments args) ++ (l ∷ ls)) ≡ given args ++ after_given args waiting (l ∷ ls)

closed : (args : Arguments) → AreGiven args → (waiting : List Pending) (rest : List Lexeme)
    → node_run stage.Operand (pending.Call ∷ waiting) ((lexemes (walk_arguments args) ++ lexeme.CloseParen ∷ []) ++ rest)
    ≡ (argument_nodes args ++ ending node.Called) ++ node_run stage.Operated waiting rest
closed No_arguments f waiting rest = refl
closed (Another before e) f waiting rest =
    let r = node_run stage.Operated waiting rest in
    ap (node_run stage.Operand (pending.Call ∷ waiting)) (append_assoc (lexemes (walk_arguments (Another before e))) (lexeme.CloseParen ∷ []) rest)
    ∙ onward (given (Another before e)) (tag.Made node.Argument ∷ ending node.Called) _ (f waiting lexeme.CloseParen rest (omega arith)) refl
    ∙ ap (λ k. k ++ r) (sym (append_assoc (given (Another before e)) (tag.Made node.Argument ∷ []) (ending node.Called)))

one_more : (before : Arguments) (e : Expr) → Parses e → AreGiven before → Binds e rvalue_rank → AreGiven (Another before e)
one_more No_arguments e f g b waiting l ls h = f rvalue_rank b (pending.Call ∷ waiting) (l ∷ ls) (inr ((λ c x y z. tt), h))
one_more (Another before d) e f g b waiting l ls h =
    let args = Another before d in
    let call = pending.Call ∷ waiting in
    let last = lexemes (walk e) in
    ap (node_run stage.Operand call) (append_assoc (lexemes (walk_arguments args)) (lexeme.Comma ∷ last) (l ∷ ls))
    ∙ onward (given args) (tag.Made node.Argument ∷ tag.Token ∷ nodes e) _ (g waiting lexeme.Comma (last ++ l ∷ ls) (omega arith))
    (ap (λ k. tag.Made node.Argument ∷ tag.Token ∷ k) (f rvalue_rank b call (l ∷ ls) (inr ((λ c x y z. tt), h))))
    ∙ ap (λ k. k ++ node_run stage.Operated call (l ∷ ls)) (sym (append_assoc (given args) (tag.Made node.Argument ∷ []) (tag.Token ∷ nodes e)))

mutual
  pub parses : (e : Expr) → Parses e
  parses (Named w) loose b waiting rest h = refl
  parses (Literal c) loose b waiting rest h = constant c waiting rest
  parses (Text bytes offset) loose b waiting rest h = refl
  parses (Grouped e) loose b waiting rest h =
      ap (λ k. tag.Token ∷ k)
      (onward (nodes e) (ending node.Grouped) _
      (up_to e (parses e) (pending.Group ∷ waiting) lexeme.CloseParen [] rest rvalue_rank b (λ b x y z. tt) (omega arith)) refl)
  parses (Indexed e f) loose b waiting rest h =
      let inside = lexemes (walk f) ++ lexeme.CloseBracket ∷ [] in
      onward (nodes e) (between (nodes f) node.Indexed) _
      (postfix_to e (parses e) waiting lexeme.OpenBracket inside rest b.0 b.1)
      (joins waiting lexeme.OpenBracket (inside ++ rest) (zero_stands waiting)
      ∙ ap (λ k. tag.Token ∷ k)
      (onward (nodes f) (ending node.Indexed) _
      (up_to f (parses f) (pending.Index ∷ waiting) lexeme.CloseBracket [] rest rvalue_rank b.2 (λ b x y z. tt) (omega arith)) refl))
  parses (Called e args) loose b waiting rest h =
      let inside = lexemes (walk_arguments args) ++ lexeme.CloseParen ∷ [] in
      ap (λ k. node_run stage.Operand waiting ((k ++ lexeme.OpenParen ∷ inside) ++ rest)) (callee_lexemes e)
      ∙ onward (nodes e) (between (tag.Made node.NoArguments ∷ argument_nodes args) node.Called) _
      (postfix_to e (parses e) waiting lexeme.OpenParen inside rest b.0 b.1)
      (joins waiting lexeme.OpenParen (inside ++ rest) (zero_stands waiting)
      ∙ ap (λ k. tag.Token ∷ tag.Made node.NoArguments ∷ k) (closed args (are_given args b.2) waiting rest))
  parses (Postfixed PostIncrement line e) loose b waiting rest h =
      onward (nodes e) (ending node.PostIncrement) _
      (postfix_to e (parses e) waiting lexeme.Increment [] rest b.0 b.1) (joins waiting lexeme.Increment rest (zero_stands waiting))
  parses (Postfixed PostDecrement line e) loose b waiting rest h =
      onward (nodes e) (ending node.PostDecrement) _
      (postfix_to e (parses e) waiting lexeme.Decrement [] rest b.0 b.1) (joins waiting lexeme.Decrement rest (zero_stands waiting))
  parses (Prefixed op line e) loose b waiting rest h =
      let n = prefix_node op in
      let over = (premise h).1 in
      prefix_step op waiting (lexemes (walk e) ++ rest)
      ∙ ap (λ k. tag.Token ∷ k)
      (last_operand e (parses e) n 0 b waiting rest (λ c x y z. omega (arith, z refl)) (tighter 0 loose (omega arith) rest over)
      (tighter (looseness n) loose (omega (arith, prefix_loose op)) rest over))
  parses (Binary op line e f) loose b waiting rest h =
      let n = node.Binary op in
      let l = lexeme.Operator op in
      let holds = (premise h).0 in
      let over = (premise h).1 in
      onward (nodes e) (joined (nodes f) n) _
      (up_to e (parses e) waiting l (lexemes (walk f)) rest (rank op) b.1
      (λ c x y z. holds c (omega (arith, b.0, x)) y (λ u. omega (arith, u, b.0, rank_least op))) (omega arith))
      (joins waiting l (lexemes (walk f) ++ rest)
      (holds (suc (rank op)) (omega (arith, b.0)) (omega (arith, rank_most op)) (λ u. omega (arith, u, b.0, rank_least op)))
      ∙ ap (λ k. tag.Token ∷ k)
      (last_operand f (parses f) n (rank op - 1) b.2 waiting rest (λ c x y z. omega (arith, x, rank_least op))
      (tighter (rank op - 1) loose (omega (arith, b.0)) rest over) (tighter (rank op) loose b.0 rest over)))
  parses (Conditional e f g) loose b waiting rest h =
      let holds = (premise h).0 in
      let over = (premise h).1 in
      let last = lexemes (walk g) in
      let more = lexemes (walk f) ++ lexeme.Colon ∷ last in
      onward (nodes e) (tag.Token ∷ (nodes f ++ joined (nodes g) node.Conditional)) _
      (up_to e (parses e) waiting lexeme.Question more rest or_rank b.1
      (λ c x y z. holds c (omega (arith, b.0, x)) y (λ u. omega (arith, u, b.0))) (omega arith))
      (joins waiting lexeme.Question (more ++ rest) (holds (suc or_rank) (omega (arith, b.0)) (omega arith) (λ u. omega (arith, u, b.0)))
      ∙ ap (λ k. tag.Token ∷ k)
      (onward (nodes f) (joined (nodes g) node.Conditional) _
      (up_to f (parses f) (pending.Choice ∷ waiting) lexeme.Colon last rest rvalue_rank b.2 (λ b x y z. tt) (omega arith))
      (ap (λ k. tag.Token ∷ k)
      (last_operand g (parses g) node.Conditional conditional_rank b.3 waiting rest (λ c x y z. omega (arith, y))
      (tighter conditional_rank loose b.0 rest over) (tighter conditional_rank loose b.0 rest over)))))
  parses (Assigned op line e f) loose b waiting rest h =
      let n = node.Assigned op in
      let l = lexeme.Assign op in
      let holds = (premise h).0 in
      let over = (premise h).1 in
      onward (nodes e) (joined (nodes f) n) _
      (up_to e (parses e) waiting l (lexemes (walk f)) rest 0 b.1 (λ c x y z. holds c (omega (arith, z refl)) y (λ u. z refl)) (omega arith))
      (joins waiting l (lexemes (walk f) ++ rest) (holds 1 (omega arith) (omega arith) (λ u. omega (arith, u, b.0)))
      ∙ ap (λ k. tag.Token ∷ k)
      (last_operand f (parses f) n rvalue_rank b.2 waiting rest (λ c x y z. omega (arith, y))
      (tighter rvalue_rank loose b.0 rest over) (tighter rvalue_rank loose b.0 rest over)))

  are_given : (args : Arguments) → ArgumentsBind args → AreGiven args
  are_given No_arguments b waiting l ls h = refl
  are_given (Another before e) b waiting l ls h = one_more before e (parses e) (are_given before b.0) b.1 waiting l ls h
