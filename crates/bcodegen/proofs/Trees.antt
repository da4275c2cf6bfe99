-- What statements add.
use Rattle.std.specs.Prelude.{ℕ, List}
use Rattle.blang.specs.Trees.{Stmt, Stmts}
use Rattle.blang.specs.Code.{Environment, Fragment, fragment, body_fragment}
use Rattle.bgrammar.specs.Fitting.{statement_strings, body_strings}
use Rattle.bcodegen.proofs.Breaks.{statement_breaks, body_breaks}
use Rattle.bcodegen.proofs.Parts.{Parts}

-- a fragment whose breaks have no target yet
abbrev pub open_fragment : (ℕ → Fragment) → (strings : List ℕ) → (breaks : ℕ → List ℕ) → Parts
open_fragment a strings breaks = record { code = λ p. (a p).code 0; strings = strings; targets = λ p. (a p).targets.labels; arms = λ p. (a p).targets.arms; breaks = breaks }

abbrev pub statement_parts : Environment → Stmt → Parts
statement_parts names s = open_fragment (fragment names s) (statement_strings s) (statement_breaks names s)

abbrev pub body_parts : Environment → Stmts → Parts
body_parts names ss = open_fragment (body_fragment names ss) (body_strings ss) (body_breaks names ss)
