-- Promise: laws of programs: one stands for tokens, and there is one way of parts.
use Rattle.bword.specs.declared.edition.Edition.{Edition}
use Rattle.std.specs.Prelude.{◌≡◌, ℕ, List, Option}
use Rattle.blang.specs.declared.token.Placed.{Placed}
use Rattle.blang.specs.declared.token.Diagnostic.{Diagnostic}
use Rattle.blang.specs.Cut.{tokens_from}
use Rattle.blang.specs.Trees.{kept_tokens, Definition}
use Rattle.blang.specs.Walk.{spell_all}
use Rattle.blang.specs.WellFormed.{AllFormed, Parted}
use Rattle.blang.specs.declared.limits.TheConstants.{MAX_NESTING}
use Rattle.bgrammar.specs.Levels.{AllFormedIn}

-- A well-formed program stands for tokens that are its spelling, with the lines that trees keep.
pub record IsSpelling (ds : List Definition) (tokens : List Placed) : Type 0 where
  pub formed : AllFormed ds
  pub spelled : spell_all ds ≡ kept_tokens tokens

-- Two programs that stand for the same tokens are equal.
abbrev pub OneProgram : Type 0
OneProgram = (ds es : List Definition) (tokens : List Placed) → IsSpelling ds tokens → IsSpelling es tokens → ds ≡ es

-- The three rules of a well-formed program are those that a reader meets, with as many levels as the limit.
abbrev pub FormedWithin : Type 0
FormedWithin = (ds : List Definition) → (AllFormed ds → AllFormedIn MAX_NESTING ds) × (AllFormedIn MAX_NESTING ds
    → AllFormed ds)

-- Each source stops being a program's somewhere, and has parts before.
abbrev pub HasParts : Type 0
HasParts = (edition : Edition) (line : ℕ) (bytes : List ℕ)
    → (ds : List Definition) × (stop : Option Diagnostic) × Parted (tokens_from edition line bytes) ds stop

-- It stops at one place, and has one list of definitions before it.
abbrev pub OneWay : Type 0
OneWay =
    (tokens : List Placed) (ds es : List Definition) (s t : Option Diagnostic)
    (p : Parted tokens ds s) (q : Parted tokens es t) →
    (p.before ≡ q.before) × (p.at ≡ q.at) × (ds ≡ es) × (s ≡ t)
