-- Promise: the laws of the tags and of the nodes.
use Rattle.std.specs.Prelude.{◌≡◌, ◌≢◌, ◌++◌, List, [], map}
use Rattle.blang.specs.declared.token.Token.{Token}
use Rattle.blang.specs.Trees.{Definition, bare}
use Rattle.blang.specs.Walk.{spell_all}
use Rattle.blang.specs.WellFormed.{AllFormed}
use Rattle.blex.specs.Lexemes.{lexeme_of}
use Rattle.btree.specs.declared.tags.Phase.TheVariants as phase
use Rattle.btree.specs.declared.sorts.Sort.TheVariants as sort
use Rattle.btree.specs.Machine.{first, run, sort_of}
use Rattle.btree.specs.Tags.{program_tags}
use Rattle.btree.specs.declared.nodes.Stage.TheVariants as stage
use Rattle.btree.specs.NodeMachine.{node_run}
use Rattle.btree.specs.Nodes.{program_nodes}

-- The tags that are made of definitions, and of tokens after them, begin with those of the definitions' trees. An else
-- would go on with the last one.
abbrev pub TagsOfProgram : Type 0
TagsOfProgram =
    (definitions : List Definition) (tokens more : List Token) → AllFormed definitions
    → map bare (spell_all definitions) ≡ tokens → first (map sort_of more) ≢ sort.Else
    → run phase.Start [] (map sort_of (tokens ++ more))
    ≡ program_tags definitions ++ run phase.Over [] (map sort_of more)

-- The nodes that are made of definitions, and of tokens after them, begin with those of the definitions' trees.
abbrev pub NodesOfProgram : Type 0
NodesOfProgram =
    (definitions : List Definition) (tokens more : List Token) → AllFormed definitions
    → map bare (spell_all definitions) ≡ tokens
    → node_run stage.Over [] (map lexeme_of (tokens ++ more))
    ≡ program_nodes definitions ++ node_run stage.Over [] (map lexeme_of more)
