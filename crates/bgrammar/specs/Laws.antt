-- Promise: the laws of reading a definition, and of what comes of a source.
use Rattle.std.specs.Prelude.{◌≡◌, ℕ, map, List, [], ◌∷◌, ◌++◌, true, false}
use Rattle.blang.specs.declared.token.Token.TheVariants as token
use Rattle.blang.specs.declared.token.Keyword.TheVariants as keyword
use Rattle.blang.specs.declared.token.Placed.{Placed}
use Rattle.bword.specs.declared.edition.Edition.{Edition}
use Rattle.blang.specs.Cut.{tokens_from}
use Rattle.blang.specs.Trees.{mark, kept_tokens, bare, Identifier, Expr, name_token, Stmt, keyword_mark, Definition}
use Rattle.bgrammar.specs.Spelling.{spell, spell_statement}
use Rattle.blang.specs.Walk.{spell_definition}
use Rattle.blang.specs.WellFormed.{rvalue_rank, IsFormed}
use Rattle.bgrammar.specs.Fitting.{Fits, Sits}
use Rattle.bgrammar.specs.Reading.{Got, first}
use Rattle.bgrammar.specs.ReadingOn.{Fine, Closer}
use Rattle.blang.specs.WellFormed as statements
use Rattle.bgrammar.specs.ExpressionReader.{Rvalue, reader}
use Rattle.bgrammar.specs.StatementReader.{is_else, statement}
use Rattle.bgrammar.specs.DefinitionReader.{definition, is_open_definition}
use Rattle.blang.specs.Compiles.{Defined, Compilation, CompilesTo}
use Rattle.bgrammar.specs.Compiled.{has}

-- What a definition is read as is spelled by the tokens that were taken, and well formed.
abbrev pub ReadsSpelling : Type 0
ReadsSpelling =
    (tokens rest : List Placed) (d : Definition) → definition (kept_tokens tokens) ≡ Got d rest
    → (kept_tokens tokens ≡ spell_definition d ++ rest) × IsFormed d

-- The same of any tokens, but for lines that trees don't keep; and no else of an open definition was left.
abbrev pub DefinitionRead : Type 0
DefinitionRead =
    (tokens rest : List Placed) (d : Definition) → definition tokens ≡ Got d rest
    → (kept_tokens tokens ≡ spell_definition d ++ kept_tokens rest) × IsFormed d
    × (is_open_definition d ≡ true → is_else (first rest) ≡ false)

abbrev pub StatementRead : Type 0
StatementRead =
    (tokens rest : List Placed) (room off : ℕ) (s : Stmt) → statement room off tokens ≡ Got s rest
    → (kept_tokens tokens ≡ spell_statement s ++ kept_tokens rest) × Sits s room off
    × (statements.is_open s ≡ true → is_else (first rest) ≡ false)

abbrev pub ExpressionRead : Type 0
ExpressionRead =
    (tokens rest : List Placed) (room off : ℕ) (e : Expr) → reader room Rvalue off tokens ≡ Got e rest
    → (kept_tokens tokens ≡ spell e ++ kept_tokens rest) × Fits e rvalue_rank room off

-- The spelling of a well-formed definition is read as that definition, whatever stands after it but its own else.
abbrev pub ReadsAgain : Type 0
ReadsAgain =
    (d : Definition) (rest : List Placed) → IsFormed d → (is_open_definition d ≡ true → is_else (first rest) ≡ false)
    → definition (spell_definition d ++ rest) ≡ Got d rest

-- An else after an open definition goes on with it.
abbrev pub GoesOnWithElse : Type 0
GoesOnWithElse =
    (d : Definition) → IsFormed d → is_open_definition d ≡ true
    → (d2 : Definition) × IsFormed d2
    × (spell_definition d2 ≡ spell_definition d ++ (keyword_mark keyword.Else ∷ mark token.Semicolon ∷ []))

-- A definition that is spelled by tokens but for their lines has a twin with those lines.
abbrev pub HasTwin : Type 0
HasTwin =
    (d : Definition) (tokens : List Placed) → IsFormed d → map bare (spell_definition d) ≡ map bare tokens
    → (d2 : Definition) × IsFormed d2 × (is_open_definition d2 ≡ is_open_definition d)
    × (spell_definition d2 ≡ kept_tokens tokens)

-- Reading a definition depends on the tokens taken and one more, and can be ended wherever it stops.
abbrev pub ReadsOn : Type 0
ReadsOn = (tokens : List Placed) → Fine Closer definition tokens

abbrev pub BeginsWithName : Type 0
BeginsWithName = (d : Definition) → (w : Identifier) × (rest : List Placed) × (spell_definition d ≡ name_token w ∷ rest)

-- no two well-formed trees have the same spelling
abbrev pub OneExpression : Type 0
OneExpression =
    (e f : Expr) (room off : ℕ) → Fits e rvalue_rank room off → Fits f rvalue_rank room off → spell e ≡ spell f → e ≡ f

abbrev pub OneStatement : Type 0
OneStatement =
    (s t : Stmt) (room off : ℕ) → Sits s room off → Sits t room off → spell_statement s ≡ spell_statement t → s ≡ t

abbrev pub OneDefinition : Type 0
OneDefinition = (d e : Definition) → IsFormed d → IsFormed e → spell_definition d ≡ spell_definition e → d ≡ e

-- each source has an outcome
abbrev pub EachSourceComes : Type 0
EachSourceComes =
    (names : Defined) (edition : Edition) (line : ℕ) (bytes : List ℕ)
    → (r : Compilation) × CompilesTo names (tokens_from edition line bytes) r

-- what comes of tokens looks at the names before them by membership alone
abbrev pub ByMembership : Type 0
ByMembership =
    (names these : Defined) (tokens : List Placed) (r : Compilation) → ((x : List ℕ) → has x names ≡ has x these) →
    CompilesTo names tokens r → CompilesTo these tokens r

-- the same tokens come to the same
abbrev pub OutcomesAreEqual : Type 0
OutcomesAreEqual =
    (names : Defined) (tokens : List Placed) (r q : Compilation) → CompilesTo names tokens r → CompilesTo names tokens q
    → r ≡ q
