-- Promise: programs as trees, and the value of an expression.
use Rattle.std.specs.Prelude.{ℕ, Option, Some, None, List, [], ◌∷◌, ◌++◌, if◌then◌else◌, ◌+◌, ◌%◌, length, Bool}
use Rattle.std.specs.Prelude.{not, unwrap_or, ◌==◌}
use Rattle.bword.specs.declared.operators.BinOp.{BinOp}
use Rattle.bword.specs.Words.{binary_of, negate_of, not_of}
use Rattle.blang.specs.declared.code.Increment.{Increment}
use Rattle.blang.specs.declared.code.Increment.TheVariants as increments
use Rattle.blang.specs.declared.run.Trap.{Trap}
use Rattle.blang.specs.declared.run.Trap.TheVariants.{ZeroDivisor, NotAFunction}
use Rattle.blang.specs.Layout.{World, word_at, with_word, Ending, Trapped, Reply, store_words, with_words}
use Rattle.blang.specs.Layout.{library, Callee, NoFunction, OfLibrary, OfProgram, callee_of, refusal, parameter_words}
use Rattle.blang.specs.Layout.{address_in, LaidOut, stored_word, left_word}
use Rattle.blang.specs.Scan.{Scope, function_scope}
use Rattle.blang.specs.Code.{Targets, no_targets, both_targets, heading_targets, Environment, environment_of}
use Rattle.blang.specs.Code.{Referent, In_frame, Outside, At_label, clean}
use Rattle.blang.specs.Trees.{Stmt, Headed, Compound, If, IfElse, While, Switch, Stmts, Nothing, More, Identifier, Expr}
use Rattle.blang.specs.Trees.{Arguments, Negate, Not, Indirection, Address, PreIncrement, PreDecrement, PostIncrement}
use Rattle.blang.specs.Trees.{PostDecrement, Named, Literal, Text, Grouped, Indexed, Called, Postfixed, Prefixed}
use Rattle.blang.specs.Trees.{Binary, Conditional, Assigned, No_arguments, Another, constant_value}

-- a result, an end of the run, or want of fuel, each with its world
pub data Answer (A : Type 0) : Type 0 where
  Gives : A → World → Answer A
  Ends : Ending → World → Answer A
  Wants : World → Answer A

abbrev pub Computation : Type 0 → Type 0
Computation A = World → Answer A

-- goes on with a result
abbrev pub and_then : {A B : Type 0} → Answer A → (A → Computation B) → Answer B
and_then (Gives a w) next = next a w
and_then (Ends e w) next = Ends e w
and_then (Wants w) next = Wants w

infixl 10 ◌>>=◌
abbrev pub ◌>>=◌ : {A B : Type 0} → Computation A → (A → Computation B) → Computation B
◌>>=◌ first next w = and_then (first w) next

abbrev pub gives : {A : Type 0} → A → Computation A
gives a w = Gives a w

abbrev pub trap : {A : Type 0} → Trap → Computation A
trap t w = Ends (Trapped t) w

abbrev pub fetch : ℕ → Computation ℕ
fetch a w = Gives (word_at w a) w

-- stores a word, and gives it
abbrev pub store : ℕ → ℕ → Computation ℕ
store a v w = Gives v (with_word w a v)

-- increments or decrements a word, and gives what that leaves
abbrev pub increment : Increment → ℕ → Computation ℕ
increment which a = do
  x ← fetch a
  v ← store a (stored_word which x)
  gives (left_word which x)

-- an operator makes nothing of a zero divisor
abbrev pub operated : Option ℕ → Computation ℕ
operated (Some v) = gives v
operated None = trap ZeroDivisor

-- what an operator makes of two words
abbrev pub operate : BinOp → ℕ → ℕ → Computation ℕ
operate op x y = operated (binary_of op x y)

-- the reply of the library
abbrev pub answer_of : Reply → Answer ℕ
answer_of (Reply.Gives v w) = Gives v w
answer_of (Reply.Ends e w) = Ends e w

-- a statement still to do, or a mark, which ends what a break drops: after a loop's body, or a switch's
pub data Item : Type 0 where
  Do : (s : Stmt) → Item
  Loop_mark : Item
  Switch_mark : Item

-- what is still to do in a call, the next one first
abbrev pub Remaining : Type 0
Remaining = List Item

abbrev mutual
  -- What the labels and arms of a statement lead to: the statement there and what remains after it, where this remains
  -- after the whole. After the body of a while come a mark and the while again, after that of a switch a mark. A switch
  -- keeps its own arms.
  pub targets : Stmt → Remaining → Targets Remaining
  targets (Headed h s) rest = both_targets (heading_targets h (Do s ∷ rest)) (targets s rest)
  targets (Compound body) rest = body_targets body rest
  targets (If e s) rest = targets s rest
  targets (IfElse e s other) rest = both_targets (targets s rest) (targets other rest)
  targets (While e s) rest = targets s (Loop_mark ∷ Do (While e s) ∷ rest)
  targets (Switch e body) rest = record (body_targets body (Switch_mark ∷ rest)) { arms = [] }
  targets _ rest = no_targets

  pub body_targets : Stmts → Remaining → Targets Remaining
  body_targets Nothing rest = no_targets
  body_targets (More before s) rest = both_targets (body_targets before (Do s ∷ rest)) (targets s rest)

-- a function, the address of its first string word and the value of its first label
pub record SourceFunction : Type 0 where
  pub parameters : List Identifier
  pub body : Stmt
  pub strings : ℕ
  pub first_label : ℕ

-- what the meaning looks at in a program
abbrev pub Program : Type 0
Program = LaidOut SourceFunction

abbrev pub scope_of : SourceFunction → Scope
scope_of f = clean (function_scope f.parameters f.body)

abbrev pub frame_words : SourceFunction → ℕ
frame_words f = (scope_of f).frame

abbrev pub labels_of : SourceFunction → List Remaining
labels_of f = (targets f.body []).labels

abbrev pub environment_in : SourceFunction → Environment
environment_in f = environment_of (scope_of f).names

-- the function that is executed, where its frame starts, and how many calls are active
pub record Frame : Type 0 where
  pub function : SourceFunction
  pub start : ℕ
  pub active : ℕ

-- an evaluator of expressions, and of what remains of a call
pub record Evaluator : Type 0 where
  pub value : Frame → Expr → Computation ℕ
  pub go_on : Frame → Remaining → Computation ℕ

-- the evaluator with one fuel less, or none where no fuel is left
abbrev pub Fuel : Type 0
Fuel = Option Evaluator

abbrev pub spend : {A : Type 0} → Fuel → (Evaluator → Computation A) → Computation A
spend None next w = Wants w
spend (Some less) next w = next less w

abbrev pub is_true : ℕ → Bool
is_true x = not (x == 0)

module _ (program : Program) (fuel : Fuel) (frame : Frame) where
  -- a call that isn't refused stores its parameters and spends one fuel
  abbrev pub body_value : Option Trap → SourceFunction → List ℕ → (start : ℕ) → Computation ℕ
  body_value (Some t) f args start = trap t
  body_value None f args start =
      spend fuel (λ less w. less.go_on (record { function = f; start = start; active = frame.active + 1 })
      (Do f.body ∷ []) (with_words w start (parameter_words (length f.parameters) args)))

  -- the frame of a called function begins after the caller's
  abbrev pub call_value : Callee SourceFunction → List ℕ → Computation ℕ
  call_value NoFunction args = trap NotAFunction
  call_value (OfLibrary f) args = λ w. answer_of (library f args w)
  call_value (OfProgram f) args =
      let start = frame.start + frame_words frame.function in
      body_value (refusal frame.active (start + frame_words f)) f args start

  abbrev pub name_address : Referent → List ℕ → Computation ℕ
  name_address (In_frame k) x = gives ((frame.start + k) % store_words)
  name_address Outside x = gives (unwrap_or (address_in program.addresses x) 0)
  name_address (At_label k) x = gives ((frame.function.first_label + k) % store_words)

  -- a label is its own value
  abbrev pub name_value : Referent → List ℕ → Computation ℕ
  name_value (In_frame k) x = name_address (In_frame k) x >>= fetch
  name_value Outside x = name_address Outside x >>= fetch
  name_value (At_label k) x = name_address (At_label k) x

  abbrev mutual
    pub value : Expr → Computation ℕ
    value (Named w) = name_value (environment_in frame.function w.text) w.text
    value (Literal c) = gives (constant_value c)
    value (Text bytes offset) = gives ((frame.function.strings + offset) % store_words)
    value (Grouped e) = value e
    value (Indexed e f) = do
      x ← value e
      y ← value f
      fetch ((x + y) % store_words)
    value (Called e args) = do
      f ← value e
      vs ← values args
      call_value (callee_of program.functions f) vs
    value (Postfixed PostIncrement line e) = address e >>= increment increments.PostIncrement
    value (Postfixed PostDecrement line e) = address e >>= increment increments.PostDecrement
    value (Prefixed Negate line e) = value e >>= λ x. gives (negate_of x)
    value (Prefixed Not line e) = value e >>= λ x. gives (not_of x)
    value (Prefixed Indirection line e) = value e >>= fetch
    value (Prefixed Address line e) = address e
    value (Prefixed PreIncrement line e) = address e >>= increment increments.PreIncrement
    value (Prefixed PreDecrement line e) = address e >>= increment increments.PreDecrement
    value (Binary op line e f) = do
      left ← value e
      right ← value f
      operate op left right
    value (Conditional e f g) = do
      x ← value e
      if is_true x then value f else value g
    value (Assigned None line e f) = do
      a ← address e
      v ← value f
      store a v
    value (Assigned (Some op) line e f) = do
      a ← address e
      new ← value f
      old ← fetch a
      v ← operate op old new
      store a v

    -- of an lvalue; of anything else, which a scan refuses, 0
    pub address : Expr → Computation ℕ
    address (Named w) = name_address (environment_in frame.function w.text) w.text
    address (Grouped e) = address e
    address (Prefixed Indirection line e) = value e
    address (Indexed e f) = do
      x ← value e
      y ← value f
      gives ((x + y) % store_words)
    address _ = gives 0

    pub values : Arguments → Computation (List ℕ)
    values No_arguments = gives []
    values (Another before e) = do
      vs ← values before
      v ← value e
      gives (vs ++ v ∷ [])
