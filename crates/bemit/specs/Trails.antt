-- Inner words: which lines one pass notes while it reads trees, and at which places of the code.
use Rattle.std.specs.Prelude.{ℕ, List, [], ◌∷◌, length, true, false, Option, Some, None}
use Rattle.blang.specs.declared.code.Instr.TheVariants as instr
use Rattle.blang.specs.Trees.{Identifier, Expr, Arguments, Named, Literal, Text, Grouped, Indexed, Called, Postfixed}
use Rattle.blang.specs.Trees.{Prefixed, Binary, Conditional, Assigned, No_arguments, Another, Declared, Heading, Auto}
use Rattle.blang.specs.Trees.{Extrn, Label, Case, Default, Stmt, Headed, Compound, If, IfElse, While, Switch, Goto}
use Rattle.blang.specs.Trees.{Break, Return, ReturnValue, Evaluate, Empty, Stmts, Nothing, More, Ival, Definition}
use Rattle.blang.specs.Trees.{Simple, Vector, Function}
use Rattle.blang.specs.Scan.{rest_of}
pub use Rattle.blang.specs.Lines.{Lines, no_lines, padded, filled_to, noted_at}
use Rattle.bemit.specs.Drafts.{Draft, Going, emitted, place_of, filled, declared, imported, begun, loop_begun}
use Rattle.bemit.specs.Drafts.{checked, closed, fresh}
use Rattle.bemit.specs.Effects.{form, loaded, held, passed, evaluated, headed, done, all_done, ival_done}
use Rattle.bemit.specs.Effects.{values_done, parameters_done}

-- the lines of the tokens to come, and those that were noted
pub record Trail : Type 0 where
  pub coming : List ℕ
  pub noted : Lines

abbrev pub trail : List ℕ → Lines → Trail
trail coming noted = record { coming = coming; noted = noted }

abbrev pub first_line : List ℕ → ℕ
first_line [] = 0
first_line (l ∷ ls) = l

-- a token is taken
abbrev pub took : Trail → Trail
took t = trail (rest_of t.coming) t.noted

-- what comes after this draft is of this line
abbrev pub marked : ℕ → Draft → Trail → Trail
marked line d t = trail t.coming (noted_at (place_of d) line t.noted)

-- what comes after this draft is of the line of the token to come
abbrev pub noted : Draft → Trail → Trail
noted d t = marked (first_line t.coming) d t

-- the draft before the second of two ways, whose test is after this one
abbrev pub between_ways : (Draft → Draft) → Draft → Draft
between_ways first d =
    let j = emitted (instr.Jump 0) (first (emitted (instr.JumpIfZero 0) d)) in
    filled (place_of d) (instr.JumpIfZero (place_of j)) j

abbrev mutual
  -- an expression from left to right, where the draft before it is this one
  pub trailed : Expr → Draft → Trail → Trail
  trailed (Named w) d t = took (noted d t)
  trailed (Literal c) d t = took (noted d t)
  trailed (Text bytes offset) d t = took (noted d t)
  trailed (Grouped e) d t = took (trailed e d (took t))
  trailed (Indexed e f) d t = took (trailed f (evaluated e d) (took (trailed e d t)))
  trailed (Called e args) d t = took (trailed_arguments args (loaded e (held true e d)) (took (trailed e d t)))
  trailed (Postfixed op line e) d t = took (noted (held false e d) (trailed e d t))
  -- a prefix operator is noted when its operand was read
  trailed (Prefixed op line e) d t = marked (first_line t.coming) (held false e d) (trailed e d (took t))
  trailed (Binary op line e f) d t = trailed f (evaluated e d) (took (trailed e d t))
  trailed (Conditional e f g) d t =
      let b = evaluated e d in
      let u = trailed f (emitted (instr.JumpIfZero 0) b) (took (trailed e d t)) in
      trailed g (between_ways (evaluated f) b) (took u)
  trailed (Assigned op line e f) d t =
      let b = held false e d in
      trailed f (checked (form e b) line b) (took (trailed e d t))

  -- arguments, with the commas between them
  pub trailed_arguments : Arguments → Draft → Trail → Trail
  trailed_arguments No_arguments d t = t
  trailed_arguments (Another before e) d t =
      trailed e (passed before d) (past_comma before (trailed_arguments before d t))

  -- the comma after these arguments, if there are any
  pub past_comma : Arguments → Trail → Trail
  past_comma No_arguments t = t
  past_comma (Another before e) t = took t

-- an expression and the token after it
abbrev pub trailed_ended : Expr → Draft → Trail → Trail
trailed_ended e d t = took (trailed e d t)

-- a condition in its parentheses
abbrev pub trailed_condition : Expr → Draft → Trail → Trail
trailed_condition e d t = took (trailed e d (took t))

-- the constant of a vector, if there is one
abbrev pub took_size : Option ℕ → Trail → Trail
took_size None t = t
took_size (Some n) t = took t

abbrev pub trailed_declared : Declared → Draft → Trail → Trail
trailed_declared x d t = took_size x.size (took (noted d t))

abbrev pub trailed_name : Identifier → Draft → Trail → Trail
trailed_name w d t = took (noted d t)

-- things, each after a comma
abbrev pub trailed_more : {A : Type 0} → (A → Draft → Draft) → (A → Draft → Trail → Trail) → List A → Draft → Trail
    → Trail
trailed_more effect step [] d t = t
trailed_more effect step (x ∷ xs) d t = trailed_more effect step xs (effect x d) (step x d (took t))

-- things with commas between them
abbrev pub trailed_list : {A : Type 0} → (A → Draft → Draft) → (A → Draft → Trail → Trail) → List A → Draft → Trail
    → Trail
trailed_list effect step [] d t = t
trailed_list effect step (x ∷ xs) d t = trailed_more effect step xs (effect x d) (step x d t)

-- a heading after its first token
abbrev pub trailed_heading : Heading → Draft → Trail → Trail
trailed_heading (Auto declared_here) d t =
    took (trailed_list (λ x b. declared x.word x.size b) trailed_declared declared_here d t)
trailed_heading (Extrn names) d t = took (trailed_list imported trailed_name names d t)
trailed_heading (Label w) d t = took t
trailed_heading (Case line c) d t = took (took t)
trailed_heading (Default line) d t = took t

abbrev mutual
  -- a statement from left to right; the brace after statements is noted
  pub trailed_statement : Stmt → Draft → Trail → Trail
  trailed_statement (Headed h s) d t = trailed_statement s (headed h d) (trailed_heading h d (took t))
  trailed_statement (Compound body) d t = took (noted (all_done body d) (trailed_body body d (took t)))
  trailed_statement (If e s) d t =
      trailed_statement s (emitted (instr.JumpIfZero 0) (evaluated e d)) (trailed_condition e d (took t))
  trailed_statement (IfElse e s other) d t =
      let b = evaluated e d in
      let c = trailed_statement s (emitted (instr.JumpIfZero 0) b) (trailed_condition e d (took t)) in
      trailed_statement other (between_ways (done s) b) (took c)
  -- a loop's or a switch's keyword is noted when all of it was read
  trailed_statement (While e s) d t =
      let b = loop_begun (emitted (instr.JumpIfZero 0) (evaluated e d)) in
      marked (first_line t.coming) (done s b) (trailed_statement s b (trailed_condition e d (took t)))
  trailed_statement (Switch e body) d t =
      let b = begun (emitted (instr.Jump 0) (evaluated e d)) in
      let c = all_done body b in
      marked (first_line t.coming) c (took (noted c (trailed_body body b (took (trailed e d (took t))))))
  trailed_statement (Goto e) d t = took (trailed e d (took t))
  trailed_statement (Break line) d t = took (took (noted d t))
  trailed_statement Return d t = took (took (noted d t))
  trailed_statement (ReturnValue e) d t = took (took (trailed e d (took (took (noted d t)))))
  trailed_statement (Evaluate e) d t = took (trailed e d t)
  trailed_statement Empty d t = took (noted d t)

  pub trailed_body : Stmts → Draft → Trail → Trail
  trailed_body Nothing d t = t
  trailed_body (More before s) d t = trailed_statement s (all_done before d) (trailed_body before d t)

-- statements through the brace after them
abbrev pub trailed_through : Stmts → Draft → Trail → Trail
trailed_through body d t = took (noted (all_done body d) (trailed_body body d t))

-- how many initial values there are so far
abbrev pub value_place : Draft → ℕ
value_place (Going s (Some m)) = length m.values
value_place _ = 0

-- an initial value is noted at its own number
abbrev pub trailed_value : Ival → Draft → Trail → Trail
trailed_value v d t = took (trail t.coming (noted_at (value_place d) (first_line t.coming) t.noted))

-- initial values and their semicolon
abbrev pub trailed_values : List Ival → Draft → Trail → Trail
trailed_values values d t = took (trailed_list (λ v b. ival_done b v) trailed_value values d t)

-- parameters and their parenthesis
abbrev pub trailed_parameters : List Identifier → Draft → Trail → Trail
trailed_parameters parameters d t = took (trailed_list (λ w b. declared w None b) trailed_name parameters d t)

-- What was made up to this place is of the line that was noted last.
abbrev pub made_to : ℕ → Trail → Trail
made_to place t = trail t.coming (filled_to place t.noted)

-- a definition after its name
abbrev pub trailed_definition : Definition → Draft → Trail → Trail
trailed_definition (Simple w values) d t = made_to (value_place (values_done values d)) (trailed_values values d t)
trailed_definition (Vector w size values) d t =
    made_to (value_place (values_done values d)) (trailed_values values d (took (took_size size (took t))))
trailed_definition (Function w parameters body) d t =
    let b = parameters_done parameters d in
    made_to (place_of (closed (done body b))) (trailed_statement body b (trailed_parameters parameters d (took t)))

-- a whole definition, where its tokens and those after it have these lines
abbrev pub definition_trail : Definition → List ℕ → Trail
definition_trail d coming = trailed_definition d fresh (took (trail coming no_lines))
