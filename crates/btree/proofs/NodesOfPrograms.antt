-- The nodes that are made of a program's tokens are those of its tree.
use Rattle.std.proofs.Common.{◌≡◌, ◌∙◌, ap, append_assoc, append-nil, List, [], ◌∷◌, ◌++◌, ℕ, Option, Some, None, map, refl, sym}
use Rattle.std.proofs.lemmas.List.{map-append}
use Rattle.blang.specs.declared.token.Token.{Token}
use Rattle.blang.specs.declared.token.Token.TheVariants as token
use Rattle.blang.specs.Trees.{bare, Number, Character, Definition, Function, Identifier, Ival, Ival_constant, Ival_name, Ival_text, Simple, Vector}
use Rattle.blang.specs.Walk.{Walk, Level, ◌▸◌, plain, spell_all, spell_definition, tokens_in, walk_definition, walk_list, walk_parameter, walk_size, walk_statement, walk_value, walk_values}
use Rattle.blang.specs.WellFormed.{AllFormed, IsFormed}
use Rattle.blex.specs.declared.lexeme.Lexeme.{Lexeme}
use Rattle.blex.specs.declared.lexeme.Lexeme.TheVariants as lexeme
use Rattle.blex.specs.Lexemes.{lexeme_of}
use Rattle.btree.specs.declared.nodes.NodeTag.{NodeTag}
use Rattle.btree.specs.declared.nodes.NodeTag.TheVariants as tag
use Rattle.btree.specs.declared.nodes.Stage.TheVariants as stage
use Rattle.btree.specs.Laws.{NodesOfProgram}
use Rattle.btree.specs.Nodes.{blank, definition_nodes, program_nodes, statement_nodes}
use Rattle.btree.specs.NodeMachine.{node_run}
use Rattle.btree.specs.NodeReading.{AreNodes}
use Rattle.btree.proofs.NodeSteps.{lexemes, onward}
use Rattle.btree.proofs.NodesOfStatements.{Stays, ended, heading_comma, heading_name, list, noded}

-- the lexemes of a walk are those of its tokens
lexemes_are : (w : Walk) → lexemes w ≡ map lexeme_of (map bare (tokens_in w))
lexemes_are (Level p w after) = ap (λ l. lexeme_of p.token ∷ l) (lexemes_are w)
lexemes_are (v ▸ w) =
    ap (λ l. l ++ lexemes w) (lexemes_are v) ∙ ap (λ l. map lexeme_of (map bare (tokens_in v)) ++ l) (lexemes_are w)
    ∙ sym (map-append lexeme_of (map bare (tokens_in v)) (map bare (tokens_in w)))
    ∙ ap (map lexeme_of) (sym (map-append bare (tokens_in v) (tokens_in w)))
lexemes_are _ = refl

comma : Stays stage.Rest (plain token.Comma)
comma = record { goes = λ waiting rest. refl }

value : (v : Ival) → Stays stage.Rest (walk_value v)
value (Ival_constant (Number n)) = record { goes = λ waiting rest. refl }
value (Ival_constant (Character n)) = record { goes = λ waiting rest. refl }
value (Ival_text bytes offset) = record { goes = λ waiting rest. refl }
value (Ival_name w) = record { goes = λ waiting rest. refl }

size_stays : (size : Option ℕ) → Stays stage.Rest (walk_size size)
size_stays None = record { goes = λ waiting rest. refl }
size_stays (Some n) = record { goes = λ waiting rest. refl }

-- up to the ; of values
values_over : (values : List Ival) (rest : List Lexeme)
    → node_run stage.Rest [] (lexemes (walk_values values) ++ rest) ≡ blank (walk_values values) ++ node_run stage.Over [] rest
values_over values rest =
    onward (blank (walk_list walk_value values)) (tag.Token ∷ []) _
    (ended (list stage.Rest comma walk_value value values) [] lexeme.Semicolon [] rest) refl

parameters_over : (parameters : List Identifier) (more rest : List Lexeme)
    → node_run stage.Heading [] ((lexemes (walk_list walk_parameter parameters) ++ lexeme.CloseParen ∷ more) ++ rest)
    ≡ (blank (walk_list walk_parameter parameters) ++ tag.Token ∷ []) ++ node_run stage.Start [] (more ++ rest)
parameters_over parameters more rest =
    onward (blank (walk_list walk_parameter parameters)) (tag.Token ∷ []) _
    (ended (list stage.Heading heading_comma walk_parameter (λ w. heading_name w _) parameters) [] lexeme.CloseParen more rest) refl

definition_noded : (d : Definition) → IsFormed d → (rest : List Lexeme)
    → node_run stage.Over [] (lexemes (walk_definition d) ++ rest) ≡ definition_nodes d ++ node_run stage.Over [] rest
definition_noded (Simple w values) formed rest = ap (λ k. tag.Token ∷ k) (values_over values rest)
definition_noded (Vector w size values) formed rest =
    let after : Walk = plain token.CloseBracket ▸ walk_values values in
    ap (λ k. tag.Token ∷ tag.Token ∷ k)
    (onward (blank (walk_size size)) (blank after) _
    (ended (size_stays size) [] lexeme.CloseBracket (lexemes (walk_values values)) rest)
    (ap (λ k. tag.Token ∷ k) (values_over values rest)))
definition_noded (Function w parameters body) formed rest =
    let list = blank (walk_list walk_parameter parameters) ++ tag.Token ∷ [] in
    ap (λ k. tag.Token ∷ tag.Token ∷ k)
    (onward list (statement_nodes body) _ (parameters_over parameters (lexemes (walk_statement body)) rest) (noded body formed.0 [] tt rest))

abbrev all_lexemes : List Definition → List Lexeme
all_lexemes [] = []
all_lexemes (d ∷ ds) = lexemes (walk_definition d) ++ all_lexemes ds

all_noded : (ds : List Definition) → AllFormed ds → (rest : List Lexeme)
    → node_run stage.Over [] (all_lexemes ds ++ rest) ≡ program_nodes ds ++ node_run stage.Over [] rest
all_noded [] formed rest = refl
all_noded (d ∷ ds) formed rest =
    onward (definition_nodes d) (program_nodes ds) _
    (ap (node_run stage.Over []) (append_assoc (lexemes (walk_definition d)) (all_lexemes ds) rest)
    ∙ definition_noded d formed.0 (all_lexemes ds ++ rest)) (all_noded ds formed.1 rest)

all_lexemes_are : (ds : List Definition) → all_lexemes ds ≡ map lexeme_of (map bare (spell_all ds))
all_lexemes_are [] = refl
all_lexemes_are (d ∷ ds) =
    ap (λ l. l ++ all_lexemes ds) (lexemes_are (walk_definition d))
    ∙ ap (λ l. map lexeme_of (map bare (spell_definition d)) ++ l) (all_lexemes_are ds)
    ∙ sym (map-append lexeme_of (map bare (spell_definition d)) (map bare (spell_all ds)))
    ∙ ap (map lexeme_of) (sym (map-append bare (spell_definition d) (spell_all ds)))

pub nodes_of_program : NodesOfProgram
nodes_of_program definitions tokens more formed spelled =
    ap (λ ts. node_run stage.Over [] (map lexeme_of (ts ++ more))) (sym spelled)
    ∙ ap (node_run stage.Over []) (map-append lexeme_of (map bare (spell_all definitions)) more
    ∙ ap (λ l. l ++ map lexeme_of more) (sym (all_lexemes_are definitions)))
    ∙ all_noded definitions formed (map lexeme_of more)

pub are_nodes : (ls : List Lexeme) (tags : List NodeTag) → tags ≡ node_run stage.Over [] ls → AreNodes ls tags
are_nodes ls tags made = record {
  of_tree = λ definitions formed same.
      made ∙ ap (node_run stage.Over []) (same ∙ ap (map lexeme_of) (sym (append-nil (map bare (spell_all definitions)))))
      ∙ nodes_of_program definitions (map bare (spell_all definitions)) [] formed refl
      ∙ append-nil (program_nodes definitions);
  of_beginning = λ definitions more formed same.
      (node_run stage.Over [] (map lexeme_of more), made ∙ ap (node_run stage.Over []) same ∙ nodes_of_program definitions (map bare (spell_all definitions)) more formed refl);
  made = made;
}
