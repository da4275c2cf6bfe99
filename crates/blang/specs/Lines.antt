-- Promise: the source line of each instruction of a definition, and of each of its initial values. It is that of the
-- token by which it was made, or else of the one after which it was made.
use Rattle.std.specs.Prelude.{ℕ, zero, suc, ◌+◌, List, [], ◌∷◌, ◌++◌, length, fold, take, drop, get_or, Bool, true}
use Rattle.std.specs.Prelude.{false, if◌then◌else◌}
use Rattle.blang.specs.Trees.{Identifier, Expr, Arguments, Indirection, Named, Literal, Text, Grouped, Indexed, Called}
use Rattle.blang.specs.Trees.{Postfixed, Prefixed, Binary, Conditional, Assigned, No_arguments, Another, Declared}
use Rattle.blang.specs.Trees.{Heading, Auto, Extrn, Stmt, Headed, Compound, If, IfElse, While}
use Rattle.blang.specs.Trees.{Switch, Goto, Break, Return, ReturnValue, Evaluate, Empty, Stmts, Nothing, More, Ival}
use Rattle.blang.specs.Trees.{Definition, Simple, Vector, Function}
use Rattle.blang.specs.Walk.{Walk, tokens_in, walk, walk_arguments, comma_before_next, walk_size, walk_declared}
use Rattle.blang.specs.Walk.{walk_heading, walk_list, walk_parameter, walk_statement, walk_body, spell_definition}
use Rattle.blang.specs.Scan.{function_scope}
use Rattle.blang.specs.Code.{Environment, Referent, In_frame, Outside, At_label, environment_of, clean, word_code}
use Rattle.blang.specs.Code.{address_code, argument_code, vector_code, heading_code, fragment, body_fragment, code_of}
use Rattle.blang.specs.declared.code.Definition as coded
use Rattle.blang.specs.declared.code.Definition.TheVariants as code

-- The lines of what stands up to a place, and the line of what stands there and after it.
pub record Lines : Type 0 where
  pub lines : List ℕ
  pub line : ℕ

abbrev pub no_lines : Lines
no_lines = record { lines = []; line = 0 }

-- with this line for each one up to this number that has none
abbrev pub padded : ℕ → ℕ → List ℕ → List ℕ
padded zero line lines = lines
padded (suc n) line [] = line ∷ padded n line []
padded (suc n) line (l ∷ lines) = l ∷ padded n line lines

-- up to this place
abbrev pub filled_to : ℕ → Lines → Lines
filled_to place t = record { lines = padded place t.line t.lines; line = t.line }

-- what stands at this place and after it is of this line
abbrev pub noted_at : ℕ → ℕ → Lines → Lines
noted_at place line t = record { lines = padded place t.line t.lines; line = line }

-- What stands at a place and after it is of the line of a token, up to the next one. The tokens of a definition count
-- from 0, which is its name.
pub record Origin : Type 0 where
  pub place : ℕ
  pub token : ℕ

abbrev pub origin : ℕ → ℕ → Origin
origin place token = record { place = place; token = token }

-- how many tokens there are
abbrev pub count : Walk → ℕ
count w = length (tokens_in w)

-- what a name means that has an address
abbrev pub is_variable : Referent → Bool
is_variable (In_frame word) = true
is_variable Outside = true
is_variable (At_label number) = false

-- each name of a list of which no code comes, with the comma before the next one
abbrev pub name_origins : List Identifier → (p t : ℕ) → List Origin
name_origins [] p t = []
name_origins (w ∷ ws) p t = origin p t ∷ name_origins ws p (t + 2)

module _ (names : Environment) where
  -- whether an expression's code leaves an address, by which its word is loaded
  abbrev pub has_address : Expr → Bool
  has_address (Named w) = is_variable (names w.text)
  has_address (Grouped e) = has_address e
  has_address (Indexed e f) = true
  has_address (Prefixed Indirection line e) = true
  has_address _ = false

  -- how many instructions leave an expression's address if it has one, or else its word
  abbrev pub held_length : Expr → ℕ → ℕ
  held_length e p = length (if has_address e then address_code names e p else word_code names e p)

  abbrev mutual
    -- An expression at a place, whose first token has this number: each name, constant and string; `++` and `--` after
    -- an operand; and a prefix operator where the code of its operand ends.
    pub origins : Expr → (p t : ℕ) → List Origin
    origins (Named w) p t = origin p t ∷ []
    origins (Literal c) p t = origin p t ∷ []
    origins (Text bytes offset) p t = origin p t ∷ []
    origins (Grouped e) p t = origins e p (t + 1)
    origins (Indexed e f) p t = origins e p t ++ origins f (p + length (word_code names e p)) (t + count (walk e) + 1)
    origins (Called e args) p t =
        origins e p t ++ argument_origins args (p + length (word_code names e p)) (t + count (walk e) + 1)
    origins (Postfixed op line e) p t = origins e p t ++ origin (p + held_length e p) (t + count (walk e)) ∷ []
    origins (Prefixed op line e) p t = origins e p (t + 1) ++ origin (p + held_length e p) t ∷ []
    origins (Binary op line e f) p t =
        origins e p t ++ origins f (p + length (word_code names e p)) (t + count (walk e) + 1)
    origins (Conditional e f g) p t =
        let q = p + length (word_code names e p) + 1 in
        let u = t + count (walk e) + 1 in
        origins e p t ++ origins f q u ++ origins g (q + length (word_code names f q) + 1) (u + count (walk f) + 1)
    origins (Assigned op line e f) p t = origins e p t ++ origins f (p + held_length e p) (t + count (walk e) + 1)

    pub argument_origins : Arguments → (p t : ℕ) → List Origin
    argument_origins No_arguments p t = []
    argument_origins (Another before e) p t =
        argument_origins before p t
        ++ origins e (p + length (argument_code names before p))
        (t + count (walk_arguments before) + count (comma_before_next before))

  -- each name that is declared, where the code begins that sets the own word of its vector
  abbrev pub auto_origins : List Declared → (p t : ℕ) → List Origin
  auto_origins [] p t = []
  auto_origins (x ∷ xs) p t =
      origin p t
      ∷ auto_origins xs (p + length (vector_code names (names x.word.text) x.size)) (t + count (walk_declared x) + 1)

  abbrev pub heading_origins : Heading → (p t : ℕ) → List Origin
  heading_origins (Auto declared) p t = auto_origins declared p (t + 1)
  heading_origins (Extrn names) p t = name_origins names p (t + 1)
  heading_origins _ p t = []

  -- the brace after statements, the first of which begins with this token
  abbrev pub brace_origin : Stmts → (p t : ℕ) → Origin
  brace_origin body p t = origin (body_fragment names body p).end (t + count (walk_body body))

  abbrev mutual
    -- A statement at a place, whose first token has this number: each expression; a `return`, a `break` and a `;`
    -- alone; the brace after statements; and the keyword of a loop or a switch where the code of its statements ends.
    pub statement_origins : Stmt → (p t : ℕ) → List Origin
    statement_origins (Headed h s) p t =
        heading_origins h p t ++ statement_origins s (p + length (heading_code names h)) (t + count (walk_heading h))
    statement_origins (Compound body) p t = body_origins body p (t + 1) ++ brace_origin body p (t + 1) ∷ []
    statement_origins (If e s) p t =
        origins e p (t + 2) ++ statement_origins s (p + length (word_code names e p) + 1) (t + 2 + count (walk e) + 1)
    statement_origins (IfElse e s other) p t =
        let q = p + length (word_code names e p) + 1 in
        let u = t + 2 + count (walk e) + 1 in
        origins e p (t + 2) ++ statement_origins s q u
        ++ statement_origins other ((fragment names s q).end + 1) (u + count (walk_statement s) + 1)
    statement_origins (While e s) p t =
        let q = p + length (word_code names e p) + 1 in
        origins e p (t + 2) ++ statement_origins s q (t + 2 + count (walk e) + 1)
        ++ origin (fragment names s q).end t ∷ []
    statement_origins (Switch e body) p t =
        let q = p + length (word_code names e p) + 1 in
        let u = t + 1 + count (walk e) + 1 in
        origins e p (t + 1) ++ body_origins body q u
        ++ brace_origin body q u ∷ origin (body_fragment names body q).end t ∷ []
    statement_origins (Goto e) p t = origins e p (t + 1)
    statement_origins (Break line) p t = origin p t ∷ []
    statement_origins Return p t = origin p t ∷ []
    statement_origins (ReturnValue e) p t = origin p t ∷ origins e p (t + 2)
    statement_origins (Evaluate e) p t = origins e p t
    statement_origins Empty p t = origin p t ∷ []

    pub body_origins : Stmts → (p t : ℕ) → List Origin
    body_origins Nothing p t = []
    body_origins (More before s) p t =
        body_origins before p t ++ statement_origins s (body_fragment names before p).end (t + count (walk_body before))

-- each initial value, with the comma before the next one
abbrev pub value_origins : List Ival → (p t : ℕ) → List Origin
value_origins [] p t = []
value_origins (v ∷ vs) p t = origin p t ∷ value_origins vs (p + 1) (t + 2)

-- a definition
abbrev pub definition_origins : Definition → List Origin
definition_origins (Simple w values) = value_origins values 0 1
definition_origins (Vector w size values) = value_origins values 0 (2 + count (walk_size size) + 1)
definition_origins (Function w parameters body) =
    let names = environment_of (clean (function_scope parameters body)).names in
    name_origins parameters 0 2
    ++ statement_origins names body 0 (2 + count (walk_list walk_parameter parameters) + 1)

-- how many instructions and initial values there are
abbrev pub size_of : coded.Definition → ℕ
size_of (code.Simple s) = length s.values
size_of (code.Vector v) = length v.values
size_of (code.Function f) = length f.code

-- the lines by origins, where this gives the line of each token
abbrev pub noted_by : (line_at : ℕ → ℕ) → List Origin → Lines → Lines
noted_by line_at origins t = fold (λ n m. noted_at m.place (line_at m.token) n) t origins

-- the lines of a definition
abbrev pub lines_of : (line_at : ℕ → ℕ) → Definition → List ℕ
lines_of line_at d = (filled_to (size_of (code_of d)) (noted_by line_at (definition_origins d) no_lines)).lines

-- the lines of definitions, one after another, where these are the lines of their tokens and of those after them
abbrev pub program_lines : List Definition → List ℕ → List ℕ
program_lines [] lines = []
program_lines (d ∷ ds) lines =
    let n = length (spell_definition d) in
    lines_of (λ k. get_or (take n lines) k 0) d ++ program_lines ds (drop n lines)

-- the lines of the tokens after these definitions
abbrev pub lines_after : List Definition → List ℕ → List ℕ
lines_after [] lines = lines
lines_after (d ∷ ds) lines = lines_after ds (drop (length (spell_definition d)) lines)
