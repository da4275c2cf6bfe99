-- Promise: which trees are well formed, by three rules (how operators and `else` bind, how deep trees nest, where
-- strings lie), and where the tokens of a source stop being those of a program.
use Rattle.std.specs.Prelude.{List, [], ◌∷◌, ◌++◌, ◌≡◌, ℕ, ◌+◌, ◌-◌, ◌*◌, ◌≤◌, length, Bool, true, false, Option}
use Rattle.std.specs.Prelude.{Some, None, map, ◌⊎◌}
use Rattle.bword.specs.declared.operators.BinOp.{BinOp}
use Rattle.bword.specs.declared.operators.BinOp.TheVariants as op
use Rattle.blang.specs.declared.token.Placed.{Placed}
use Rattle.blang.specs.declared.token.Token.{Token}
use Rattle.blang.specs.Trees.{Another, Arguments, Assigned, Binary, Called, Conditional, Expr, Grouped, Indexed}
use Rattle.blang.specs.Trees.{No_arguments, Postfixed, Prefixed, Auto, Compound, Evaluate, Extrn, Goto, Headed}
use Rattle.blang.specs.Trees.{Heading, If, IfElse, More, Nothing, ReturnValue, Stmt, Stmts, Switch, While, Definition}
use Rattle.blang.specs.Trees.{Function, kept, bare}
use Rattle.blang.specs.Walk.{TextAt, levels_in, texts_in, walk_statement, walk_definition, spell_definition, spell_all}
use Rattle.blang.specs.declared.limits.TheConstants.{MAX_NESTING}
use Rattle.blang.specs.declared.token.Letters.{Letters}
use Rattle.blang.specs.declared.token.Diagnostic.{Diagnostic}
use Rattle.blang.specs.declared.token.Token.TheVariants as token
use Rattle.blang.specs.declared.token.Letters.TheVariants as letters
use Rattle.blang.specs.declared.token.About.TheVariants as about

-- Binding: where an operator and an `else` may be.

-- how loosely an operator binds: 0 is an operand of a prefix operator, then the binary operators
abbrev pub rank : BinOp → ℕ
rank op.Mul = 1
rank op.Div = 1
rank op.Rem = 1
rank op.Add = 2
rank op.Sub = 2
rank op.Shl = 3
rank op.Shr = 3
rank op.Lt = 4
rank op.Le = 4
rank op.Gt = 4
rank op.Ge = 4
rank op.Eq = 5
rank op.Ne = 5
rank op.And = 6
rank op.Or = 7

-- the loosest binary operator, a conditional, an assignment
abbrev pub or_rank : ℕ
or_rank = 7

abbrev pub conditional_rank : ℕ
conditional_rank = 8

abbrev pub rvalue_rank : ℕ
rvalue_rank = 9

-- a primary, with any number of indices, arguments and operators after it
abbrev pub IsPostfix : Expr → Type 0
IsPostfix (Prefixed op line e) = ⊥
IsPostfix (Binary op line e f) = ⊥
IsPostfix (Conditional e f g) = ⊥
IsPostfix (Assigned op line e f) = ⊥
IsPostfix _ = Unit {0}

abbrev mutual
  -- The expression may be where operators of this rank may be, and so may each part of it.
  pub Binds : Expr → ℕ → Type 0
  Binds (Grouped e) loose = Binds e rvalue_rank
  Binds (Indexed e f) loose = IsPostfix e × Binds e 0 × Binds f rvalue_rank
  Binds (Called e args) loose = IsPostfix e × Binds e 0 × ArgumentsBind args
  Binds (Postfixed op line e) loose = IsPostfix e × Binds e 0
  Binds (Prefixed op line e) loose = Binds e 0
  Binds (Binary op line e f) loose = (rank op ≤ loose) × Binds e (rank op) × Binds f (rank op - 1)
  Binds (Conditional e f g) loose =
      (conditional_rank ≤ loose) × Binds e or_rank × Binds f rvalue_rank × Binds g conditional_rank
  Binds (Assigned op line e f) loose = (rvalue_rank ≤ loose) × Binds e 0 × Binds f rvalue_rank
  Binds _ loose = Unit {0}

  pub ArgumentsBind : Arguments → Type 0
  ArgumentsBind No_arguments = Unit {0}
  ArgumentsBind (Another before e) = ArgumentsBind before × Binds e rvalue_rank

-- whether an else after it would be its own
abbrev pub is_open : Stmt → Bool
is_open (Headed h s) = is_open s
is_open (If e s) = true
is_open (IfElse e s other) = is_open other
is_open (While e s) = is_open s
is_open _ = false

abbrev pub IsNonempty : {A : Type 0} → List A → Type 0
IsNonempty [] = ⊥
IsNonempty (x ∷ xs) = Unit {0}

abbrev pub IsHeading : Heading → Type 0
IsHeading (Auto declared) = IsNonempty declared
IsHeading (Extrn names) = IsNonempty names
IsHeading _ = Unit {0}

abbrev mutual
  -- Its expressions bind, its declarations have names, and each else belongs to the nearest if that has none.
  pub StatementBinds : Stmt → Type 0
  StatementBinds (Headed h s) = IsHeading h × StatementBinds s
  StatementBinds (Compound body) = BodyBinds body
  StatementBinds (If e s) = Binds e rvalue_rank × StatementBinds s
  StatementBinds (IfElse e s other) =
      (is_open s ≡ false) × Binds e rvalue_rank × StatementBinds s × StatementBinds other
  StatementBinds (While e s) = Binds e rvalue_rank × StatementBinds s
  StatementBinds (Switch e body) = Binds e rvalue_rank × BodyBinds body
  StatementBinds (Goto e) = Binds e rvalue_rank
  StatementBinds (ReturnValue e) = Binds e rvalue_rank
  StatementBinds (Evaluate e) = Binds e rvalue_rank
  StatementBinds _ = Unit {0}

  pub BodyBinds : Stmts → Type 0
  BodyBinds Nothing = Unit {0}
  BodyBinds (More before s) = BodyBinds before × StatementBinds s

-- Offsets: where the strings of a definition lie among its string words.

-- the strings of a definition
abbrev pub texts_of : Definition → List TextAt
texts_of d = texts_in (walk_definition d)

-- the words of a string: the characters and a final 4, two to a word, the even one in the low byte
abbrev pub packed : List ℕ → List ℕ
packed [] = 4 ∷ []
packed (x ∷ []) = (x + 256 * 4) ∷ []
packed (x ∷ y ∷ bytes) = (x + 256 * y) ∷ packed bytes

-- Each string's offset is the words of those before it, counted up from this number.
abbrev pub OffsetsFrom : ℕ → List TextAt → Type 0
OffsetsFrom off [] = Unit {0}
OffsetsFrom off (t ∷ ts) = (t.offset ≡ off) × OffsetsFrom (off + length (packed t.bytes)) ts

-- The three rules. Initial values have no operators and no levels.
abbrev pub IsFormed : Definition → Type 0
IsFormed (Function w parameters body) =
    StatementBinds body × (levels_in (walk_statement body) ≤ MAX_NESTING)
    × OffsetsFrom 0 (texts_in (walk_statement body))
IsFormed d = OffsetsFrom 0 (texts_of d)

abbrev pub AllFormed : List Definition → Type 0
AllFormed [] = Unit {0}
AllFormed (d ∷ ds) = IsFormed d × AllFormed ds

-- the tokens of a well-formed program
pub record IsProgram (tokens : List Token) : Type 0 where
  pub definitions : List Definition
  pub formed : AllFormed definitions
  pub spelled : map bare (spell_all definitions) ≡ tokens

-- a beginning of them
pub record BeginsProgram (tokens : List Token) : Type 0 where
  pub more : List Token
  pub program : IsProgram (tokens ++ more)

-- a program goes on so with the next token, or ends where the source does
abbrev pub IsViable : List Token → Token → Type 0
IsViable before token.End = IsProgram before
IsViable before t = BeginsProgram (before ++ t ∷ [])

-- the letters of a token with which no program goes on
abbrev pub token_letters : Token → Letters
token_letters (token.Bad l) = l
token_letters _ = letters.Syntax

abbrev pub fault_at : Placed → Diagnostic
fault_at p = record { letters = token_letters p.token; about = about.Nothing; line = p.line }

-- A program begins with the tokens before this one. It ends there, or none goes on with this one.
abbrev pub StopsAt : List Token → Placed → Option Diagnostic → Type 0
StopsAt before at None = (at.token ≡ token.End) × IsProgram before
StopsAt before at (Some d) = BeginsProgram before × (IsViable before at.token → ⊥) × (d ≡ fault_at at)

-- nothing, or a proper beginning of a definition
abbrev pub IsPart : List Token → Type 0
IsPart tokens =
    (tokens ≡ [])
    ⊎ ((d : Definition) × (t : Token) × (more : List Token) × IsFormed d
    × (map bare (spell_definition d) ≡ tokens ++ t ∷ more))

-- the tokens are those of the definitions, with the lines that these keep, and a part of one more
pub record Parts (tokens : List Placed) (definitions : List Definition) : Type 0 where
  pub part : List Placed
  pub split : map kept tokens ≡ spell_all definitions ++ part
  pub formed : AllFormed definitions
  pub is_part : IsPart (map bare part)

-- The tokens up to where they stop being a program's: as many definitions as possible, and a part of one more.
pub record Parted (tokens : List Placed) (definitions : List Definition) (stop : Option Diagnostic) : Type 0 where
  pub before : List Placed
  pub at : Placed
  pub following : List Placed
  pub split : tokens ≡ before ++ at ∷ following
  pub stops : StopsAt (map bare before) at stop
  pub parts : Parts before definitions
  pub longest : (others : List Definition) → Parts before others → length others ≤ length definitions
