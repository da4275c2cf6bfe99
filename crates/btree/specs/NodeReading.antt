-- Promise: the nodes of tokens.
use Rattle.std.specs.Prelude.{◌≡◌, ◌∷◌, ◌++◌, ◌≤◌, ℕ, List, [], map}
use Rattle.blang.specs.declared.token.Token.{Token}
use Rattle.blang.specs.Trees.{Definition, bare}
use Rattle.blang.specs.Walk.{spell_all}
use Rattle.blang.specs.WellFormed.{AllFormed}
use Rattle.blex.specs.declared.lexeme.Lexeme.{Lexeme}
use Rattle.blex.specs.Lexemes.{lexeme_of}
use Rattle.btree.specs.declared.nodes.NodeTag.{NodeTag}
use Rattle.btree.specs.declared.nodes.Pending.{Pending}
use Rattle.btree.specs.declared.nodes.Pending.TheVariants as pending
use Rattle.btree.specs.declared.nodes.Stage.TheVariants as stage
use Rattle.btree.specs.declared.node_reading.NodeReader.{NodeReader}
use Rattle.btree.specs.NodeMachine.{NodeTurn, left_before, looseness, node_run, over_before}
use Rattle.btree.specs.Nodes.{program_nodes}

-- The nodes of these tokens: those of a program's tree, where the tokens are a program's; where definitions stand
-- before other tokens, those of their trees come first.
pub record AreNodes (lexemes : List Lexeme) (tags : List NodeTag) : Type 0 where
  pub of_tree : (definitions : List Definition) → AllFormed definitions
      → lexemes ≡ map lexeme_of (map bare (spell_all definitions)) → tags ≡ program_nodes definitions
  pub of_beginning : (definitions : List Definition) (more : List Token) → AllFormed definitions
      → lexemes ≡ map lexeme_of (map bare (spell_all definitions) ++ more)
      → (later : List NodeTag) × (tags ≡ program_nodes definitions ++ later)
  pub made : tags ≡ node_run stage.Over [] lexemes

-- A reader has made what a token makes.
pub record TookNodes (old : NodeReader) (t : NodeTurn) (new : NodeReader) : Type 0 where
  pub tags : new.tags.items ≡ old.tags.items ++ t.tags
  pub stage : new.stage ≡ t.stage
  pub waiting : new.waiting ≡ t.waiting

-- a reader has made the operators that are over before a token of this bound
pub record MadeBefore (bound : ℕ) (old new : NodeReader) : Type 0 where
  pub tags : new.tags.items ≡ old.tags.items ++ over_before bound old.waiting
  pub waiting : new.waiting ≡ left_before bound old.waiting

-- no operator waits innermost that is over before a token of this bound
abbrev pub Stands : ℕ → List Pending → Type 0
Stands bound (pending.Operator n ∷ waiting) = bound ≤ looseness n
Stands bound waiting = Unit {0}

-- and what waits stays
abbrev pub StaysBefore : ℕ → List Pending → List Pending → Type 0
StaysBefore bound old new = (new ≡ old) × Stands bound old
