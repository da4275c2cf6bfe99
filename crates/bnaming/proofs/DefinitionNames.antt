-- The names of a source's tokens begin with those of its definitions.
use Rattle.std.proofs.Common.{◌≡◌, ◌∙◌, ap, append-nil, append_assoc, false, true, Bool, List, [], ◌∷◌, ◌++◌, ℕ, Option, Some, None, map, refl, sym}
use Rattle.std.specs.Prelude.{flat_map}
use Rattle.std.specs.List.{cons_option, filter_map}
use Rattle.std.proofs.lemmas.List.{map-append}
use Rattle.blang.specs.declared.token.Token.{Token}
use Rattle.blang.specs.Trees.{Definition, Function, Identifier, Ival, Ival_constant, Ival_name, Ival_text, Number, Character, Simple, Vector, bare}
use Rattle.blang.specs.Walk.{Level, Walk, ◌▸◌, spell_all, spell_definition, tokens_in, walk_definition, walk_list, walk_parameter, walk_size, walk_value, walk_values}
use Rattle.blex.specs.declared.lexeme.Lexeme.{Lexeme}
use Rattle.blex.specs.declared.lexeme.Lexeme.TheVariants as lexeme
use Rattle.blex.specs.Lexemes.{lexeme_of, token_of_lexeme}
use Rattle.btree.specs.declared.tags.Construct.TheVariants as construct
use Rattle.btree.specs.declared.tags.Phase.TheVariants as phase
use Rattle.btree.specs.declared.tags.Tag.{Tag}
use Rattle.btree.specs.declared.tags.Tag.TheVariants as tag
use Rattle.btree.specs.Machine.{first, run, sort_of, sort_of_lexeme}
use Rattle.btree.specs.Tags.{definition_tags, program_tags, statement_tags, tokens, within}
use Rattle.btree.specs.Laws.{TagsOfProgram}
use Rattle.bnaming.specs.declared.places.Spot.{Spot}
use Rattle.bnaming.specs.declared.reading.PlacedToken.{PlacedToken}
use Rattle.bnaming.specs.declared.roles.Mode.{Mode}
use Rattle.bnaming.specs.declared.roles.Mode.TheVariants as mode
use Rattle.bnaming.specs.declared.roles.Role.TheVariants as role
use Rattle.bnaming.specs.declared.rows.Row.{Row}
use Rattle.bnaming.specs.Laws.{AreDefined, NamedAs, NamesOfProgram, content_name, definition_names, names_in, parameter_name, value_name}
use Rattle.bnaming.specs.Pieces.{sort_in}
use Rattle.bnaming.specs.Roles.{defined_as, mode_after, mode_in, mode_of_definition}
use Rattle.bnaming.specs.Rows.{content_of, is_before_paren, row, rows_from}
use Rattle.bnaming.specs.Spots.{first_spot}
use Rattle.bnaming.proofs.TreeNames.{Says, is_before, is_told, lexes, list_of, names_from, says_as, says_both, says_list, says_within}

-- the tokens of a walk, by their tokens
lexes_are : (w : Walk) → lexes w ≡ map lexeme_of (map bare (tokens_in w))
lexes_are (Level p w after) = ap (λ l. lexeme_of p.token ∷ l) (lexes_are w)
lexes_are (v ▸ w) =
    ap (λ l. l ++ lexes w) (lexes_are v) ∙ ap (λ l. map lexeme_of (map bare (tokens_in v)) ++ l) (lexes_are w)
    ∙ sym (map-append lexeme_of (map bare (tokens_in v)) (map bare (tokens_in w)))
    ∙ ap (map lexeme_of) (sym (map-append bare (tokens_in v) (tokens_in w)))
lexes_are _ = refl

-- initial values
says_value : (v : Ival) → Says mode.Values (lexes (walk_value v)) (tokens (walk_value v)) (list_of (value_name v)) mode.Values
says_value (Ival_constant (Number n)) = record { goes = λ ls tags. refl }
says_value (Ival_constant (Character n)) = record { goes = λ ls tags. refl }
says_value (Ival_text bytes offset) = record { goes = λ ls tags. refl }
says_value (Ival_name w) = record { goes = λ ls tags. refl }

value_names : (vs : List Ival) → flat_map (λ v. list_of (value_name v)) vs ≡ filter_map value_name vs
value_names [] = refl
value_names (Ival_name w ∷ vs) = ap (λ l. (role.Value, w.text) ∷ l) (value_names vs)
value_names (Ival_constant c ∷ vs) = value_names vs
value_names (Ival_text bytes offset ∷ vs) = value_names vs

says_values : (vs : List Ival) → Says mode.Values (lexes (walk_values vs)) (tokens (walk_values vs)) (filter_map value_name vs) mode.Values
says_values vs =
    let comma : Says mode.Values (lexeme.Comma ∷ []) (tag.Token ∷ []) [] mode.Values = record { goes = λ ls tags. refl } in
    let semicolon : Says mode.Values (lexeme.Semicolon ∷ []) (tag.Token ∷ []) [] mode.Values = record { goes = λ ls tags. refl } in
    says_as (append-nil (flat_map (λ v. list_of (value_name v)) vs) ∙ value_names vs)
    (says_both (says_list walk_value mode.Values (λ v. list_of (value_name v)) says_value comma vs) semicolon)

no_paren : (vs : List Ival) (ls : List Lexeme) → is_before (lexes (walk_values vs) ++ ls) ≡ false
no_paren [] ls = refl
no_paren (Ival_constant (Number n) ∷ vs) ls = refl
no_paren (Ival_constant (Character n) ∷ vs) ls = refl
no_paren (Ival_text bytes offset ∷ vs) ls = refl
no_paren (Ival_name w ∷ vs) ls = refl

-- the name of a definition, and what comes after it
headed : (w : Identifier) (b : Bool) {k : List Lexeme} {s : List Tag} {a : List NamedAs} {n : Mode} → ((ls : List Lexeme) → is_before (k ++ ls) ≡ b) → Says (mode_of_definition b) k s a n
    → (m : Mode) → Says m (lexeme.Name w.text ∷ k) (within construct.Definition (tag.Token ∷ s)) ((defined_as b, w.text) ∷ a) mode.Statement
headed w b {k} {s} {a} {n} h f m = says_within construct.Definition {l = mode.Definition} {n = n} {k = lexeme.Name w.text ∷ k} {s = tag.Token ∷ s} {a = (defined_as b, w.text) ∷ a} refl (record {
  goes = λ ls tags. ap (λ y. list_of (content_name (content_of mode.Definition (lexeme.Name w.text) y)) ++ names_from (mode_of_definition y) (k ++ ls) (s ++ tags)) (h ls)
      ∙ ap (λ l. (defined_as b, w.text) ∷ l) (f.goes ls tags);
})

says_tags : {m n : Mode} {k : List Lexeme} {s t : List Tag} {a : List NamedAs} → s ≡ t → Says m k s a n → Says m k t a n
says_tags {m} {n} {k} e f = record { goes = λ ls tags. ap (λ x. names_from m (k ++ ls) (x ++ tags)) (sym e) ∙ f.goes ls tags }

says_parameter : (w : Identifier) → Says mode.Parameters (lexes (walk_parameter w)) (tokens (walk_parameter w)) (parameter_name w ∷ []) mode.Parameters
says_parameter w = record { goes = λ ls tags. refl }

parameter_names : (ws : List Identifier) → flat_map (λ w. parameter_name w ∷ []) ws ≡ map parameter_name ws
parameter_names [] = refl
parameter_names (w ∷ ws) = ap (λ l. parameter_name w ∷ l) (parameter_names ws)

says_size : (size : Option ℕ) → Says mode.Values (lexes (walk_size size)) (tokens (walk_size size)) [] mode.Values
says_size None = record { goes = λ ls tags. refl }
says_size (Some n) = record { goes = λ ls tags. refl }

pub definition_says : (d : Definition) (m : Mode) → Says m (lexes (walk_definition d)) (definition_tags d) (definition_names d) mode.Statement
definition_says (Simple w values) m = headed w false (no_paren values) (says_values values) m
definition_says (Vector w size values) m =
    let opening : Says mode.Values (lexeme.OpenBracket ∷ []) (tag.Token ∷ []) [] mode.Values = record { goes = λ ls tags. refl } in
    let closing : Says mode.Values (lexeme.CloseBracket ∷ []) (tag.Token ∷ []) [] mode.Values = record { goes = λ ls tags. refl } in
    headed w false (λ ls. refl) (says_both opening (says_both (says_size size) (says_both closing (says_values values)))) m
definition_says (Function w parameters body) m =
    let list = walk_list walk_parameter parameters in
    let comma : Says mode.Parameters (lexeme.Comma ∷ []) (tag.Token ∷ []) [] mode.Parameters = record { goes = λ ls tags. refl } in
    let opening : Says mode.Parameters (lexeme.OpenParen ∷ []) (tag.Token ∷ []) [] mode.Parameters = record { goes = λ ls tags. refl } in
    let closing : Says mode.Parameters (lexeme.CloseParen ∷ []) (tag.Token ∷ []) [] mode.Statement = record { goes = λ ls tags. refl } in
    let named = says_as (parameter_names parameters) (says_list walk_parameter mode.Parameters (λ w. parameter_name w ∷ []) says_parameter comma parameters) in
    headed w true (λ ls. refl)
    (says_tags (ap (λ l. tag.Token ∷ l) (sym (append_assoc (tokens list) (tag.Token ∷ []) (statement_tags body))))
    (says_both opening (says_both named (says_both closing (is_told body mode.Statement))))) m

abbrev pub all_lexes : List Definition → List Lexeme
all_lexes [] = []
all_lexes (d ∷ ds) = lexes (walk_definition d) ++ all_lexes ds

all_say : (ds : List Definition) → Says mode.Statement (all_lexes ds) (program_tags ds) (flat_map definition_names ds) mode.Statement
all_say [] = record { goes = λ ls tags. refl }
all_say (d ∷ ds) = says_both (definition_says d mode.Statement) (all_say ds)

all_lexes_are : (ds : List Definition) → all_lexes ds ≡ map lexeme_of (map bare (spell_all ds))
all_lexes_are [] = refl
all_lexes_are (d ∷ ds) =
    ap (λ l. l ++ all_lexes ds) (lexes_are (walk_definition d))
    ∙ ap (λ l. map lexeme_of (map bare (spell_definition d)) ++ l) (all_lexes_are ds)
    ∙ sym (map-append lexeme_of (map bare (spell_definition d)) (map bare (spell_all ds)))
    ∙ ap (map lexeme_of) (sym (map-append bare (spell_definition d) (spell_all ds)))

-- the names in rows are those of the tokens
abbrev pub lexemes : List PlacedToken → List Lexeme
lexemes ts = map (λ t. t.lexeme) ts

pub cons_is : (o : Option NamedAs) (ns : List NamedAs) → cons_option o ns ≡ list_of o ++ ns
cons_is None ns = refl
cons_is (Some n) ns = refl

name_first : (r : Row) (rs : List Row) → names_in (r ∷ rs) ≡ list_of (content_name r.content) ++ names_in rs
name_first r rs = cons_is (content_name r.content) (names_in rs)

before_is : (ts : List PlacedToken) → is_before_paren ts ≡ is_before (lexemes ts)
before_is [] = refl
before_is (t ∷ ts) = refl

pub names_are : (m : Mode) (last : Spot) (ts : List PlacedToken) (tags : List Tag) → names_in (rows_from m last ts tags) ≡ names_from m (lexemes ts) tags
names_are m last ts [] = refl
names_are m last ts (tag.Begins c ∷ tags) = names_are (mode_in c) last ts tags
names_are m last ts (tag.Ends ∷ tags) = names_are mode.Statement last ts tags
names_are m last [] (tag.Token ∷ tags) = names_are m last [] tags
names_are m last (t ∷ ts) (tag.Token ∷ tags) =
    name_first (row (content_of m t.lexeme (is_before_paren ts)) t.first t.end) (rows_from (mode_after m t.lexeme (is_before_paren ts)) t.end ts tags)
    ∙ ap (λ l. list_of (content_name (content_of m t.lexeme (is_before_paren ts))) ++ l) (names_are (mode_after m t.lexeme (is_before_paren ts)) t.end ts tags)
    ∙ ap (λ b. list_of (content_name (content_of m t.lexeme b)) ++ names_from (mode_after m t.lexeme b) (lexemes ts) tags) (before_is ts)

-- a token of each lexeme
lexeme_again : (l : Lexeme) → lexeme_of (token_of_lexeme l []) ≡ l
lexeme_again (lexeme.Name n) = refl
lexeme_again (lexeme.Keyword k) = refl
lexeme_again (lexeme.Number n) = refl
lexeme_again (lexeme.Character n) = refl
lexeme_again (lexeme.Operator op) = refl
lexeme_again (lexeme.Assign op) = refl
lexeme_again (lexeme.Bad letters) = refl
lexeme_again _ = refl

abbrev a_token : PlacedToken → Token
a_token t = token_of_lexeme t.lexeme []

sorts_again : (ts : List PlacedToken) → map sort_of (map a_token ts) ≡ map sort_in ts
sorts_again [] = refl
sorts_again (t ∷ ts) = ap (λ l. sort_of_lexeme l ∷ map sort_of (map a_token ts)) (lexeme_again t.lexeme) ∙ ap (λ l. sort_in t ∷ l) (sorts_again ts)

sorts_of_lexemes : (ts : List PlacedToken) → map sort_in ts ≡ map sort_of_lexeme (lexemes ts)
sorts_of_lexemes [] = refl
sorts_of_lexemes (t ∷ ts) = ap (λ l. sort_in t ∷ l) (sorts_of_lexemes ts)

sorts_of_tokens : (ts : List Token) → map sort_of ts ≡ map sort_of_lexeme (map lexeme_of ts)
sorts_of_tokens [] = refl
sorts_of_tokens (t ∷ ts) = ap (λ l. sort_of t ∷ l) (sorts_of_tokens ts)

-- the tags of tokens that begin with those of whole definitions
pub tagged : TagsOfProgram → (ds : List Definition) (own more : List PlacedToken) → AreDefined ds own more
    → run phase.Start [] (map sort_in (own ++ more)) ≡ program_tags ds ++ run phase.Over [] (map sort_in more)
tagged tags_of_program ds own more are =
    let spelled_tokens = map bare (spell_all ds) in
    let own_sorts : map sort_in own ≡ map sort_of spelled_tokens =
    sorts_of_lexemes own ∙ ap (map sort_of_lexeme) are.same ∙ sym (sorts_of_tokens spelled_tokens) in
    ap (run phase.Start []) (map-append sort_in own more ∙ ap (λ l. l ++ map sort_in more) own_sorts
    ∙ ap (λ l. map sort_of spelled_tokens ++ l) (sym (sorts_again more)) ∙ sym (map-append sort_of spelled_tokens (map a_token more)))
    ∙ tags_of_program ds spelled_tokens (map a_token more) are.formed refl (λ e. are.no_else (ap first (sym (sorts_again more)) ∙ e))
    ∙ ap (λ ss. program_tags ds ++ run phase.Over [] ss) (sorts_again more)

-- their lexemes
pub front_lexemes : (ds : List Definition) (own more : List PlacedToken) → AreDefined ds own more → lexemes own ≡ all_lexes ds
front_lexemes ds own more are = are.same ∙ sym (all_lexes_are ds)

pub lexemes_defined : (ds : List Definition) (own more : List PlacedToken) → AreDefined ds own more → lexemes (own ++ more) ≡ all_lexes ds ++ lexemes more
lexemes_defined ds own more are =
    map-append (λ (t : PlacedToken). t.lexeme) own more ∙ ap (λ ls. ls ++ lexemes more) (front_lexemes ds own more are)

pub names_of_program : TagsOfProgram → NamesOfProgram
names_of_program tags_of_program ds own more are =
    let after = run phase.Over [] (map sort_in more) in
    ap (λ ts. names_in (rows_from mode.Statement first_spot (own ++ more) ts)) (tagged tags_of_program ds own more are)
    ∙ names_are mode.Statement first_spot (own ++ more) (program_tags ds ++ after)
    ∙ ap (λ ls. names_from mode.Statement ls (program_tags ds ++ after)) (lexemes_defined ds own more are)
    ∙ (all_say ds).goes (lexemes more) after
    ∙ ap (λ ns. flat_map definition_names ds ++ ns) (sym (names_are mode.Statement first_spot more after))
