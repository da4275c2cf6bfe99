-- The tags of a program's tokens are those of its tree.
use Rattle.std.proofs.Common.{◌≡◌, ◌≢◌, ◌∙◌, ap, append_assoc, append-nil, false, true, List, [], ◌∷◌, ◌++◌, map, refl, sym}
use Rattle.std.proofs.lemmas.List.{map-append}
use Rattle.blang.specs.declared.token.Placed.{Placed}
use Rattle.blang.specs.declared.token.Token.{Token}
use Rattle.blang.specs.declared.token.Token.TheVariants as token
use Rattle.blang.specs.Trees.{bare, Definition, Function, Identifier, Ival, Simple, Vector, Number, Character, Ival_constant, Ival_name, Ival_text}
use Rattle.blang.specs.Walk.{Walk, Said, Level, ◌▸◌, plain, spell_all, spell_definition, tokens_in, walk_definition, walk_list, walk_parameter, walk_size, walk_statement, walk_value, walk_values}
use Rattle.blang.specs.WellFormed.{AllFormed, IsFormed, is_open}
use Rattle.btree.specs.declared.tags.Tag.{Tag}
use Rattle.btree.specs.declared.tags.Tag.TheVariants as tag
use Rattle.btree.specs.declared.tags.Construct.{Construct}
use Rattle.btree.specs.declared.tags.Construct.TheVariants as construct
use Rattle.btree.specs.declared.tags.Phase.TheVariants as phase
use Rattle.btree.specs.declared.sorts.Sort.{Sort}
use Rattle.btree.specs.declared.sorts.Sort.TheVariants as sort
use Rattle.btree.specs.Laws.{TagsOfProgram}
use Rattle.btree.specs.Machine.{first, named, run, sort_of}
use Rattle.btree.specs.Reading.{AreTags}
use Rattle.btree.specs.Tags.{definition_tags, program_tags, statement_tags, tokens, walk_parameters}
use Rattle.btree.proofs.Beginning.{is_else}
use Rattle.btree.proofs.Moving.{Moves, bears_condition, bears_inside, moved, quiet_list, quiet_name, quiet_other, quiet_size, quiet_value}
use Rattle.btree.proofs.Passing.{sorts}
use Rattle.btree.proofs.Statements.{definition_over, tagged, within_then}

-- the sorts of a walk are those of its tokens
sorts_are : (w : Walk) → sorts w ≡ map sort_of (map bare (tokens_in w))
sorts_are (Level p w after) = ap (λ l. sort_of p.token ∷ l) (sorts_are w)
sorts_are (v ▸ w) =
    ap (λ l. l ++ sorts w) (sorts_are v) ∙ ap (λ l. map sort_of (map bare (tokens_in v)) ++ l) (sorts_are w)
    ∙ sym (map-append sort_of (map bare (tokens_in v)) (map bare (tokens_in w)))
    ∙ ap (map sort_of) (sym (map-append bare (tokens_in v) (tokens_in w)))
sorts_are _ = refl

abbrev D : List Construct
D = construct.Definition ∷ []

-- up to the ; of values
values_over : (values : List Ival) → Moves (walk_values values) phase.Inside D phase.Over D
values_over values = moved ((quiet_list walk_value quiet_value values).stays phase.Inside bears_inside D) (record { goes = λ rest. refl })

named_values : (values : List Ival) (rest : List Sort) → named (first (sorts (walk_values values) ++ rest)) ≡ phase.Inside
named_values [] rest = refl
named_values (Ival_constant (Number n) ∷ vs) rest = refl
named_values (Ival_constant (Character n) ∷ vs) rest = refl
named_values (Ival_text bytes offset ∷ vs) rest = refl
named_values (Ival_name w ∷ vs) rest = refl

-- a definition of values after its name
valued : (w : Walk) → Moves w phase.Inside D phase.Over D → (rest : List Sort)
    → run phase.Inside D (sorts w ++ rest) ≡ tokens w ++ tag.Ends ∷ run phase.Over [] rest
valued w f rest = f.goes rest ∙ ap (λ l. tokens w ++ l) (definition_over [] rest)

abbrev IsLeft : Definition → List Sort → Type 0
IsLeft (Function w parameters body) rest = is_open body ≡ true → is_else (first rest) ≡ false
IsLeft d rest = Unit {0}

quiet_one : (p : Placed) → sort_of p.token ≡ sort.Other → Moves (Said p) phase.Inside D phase.Inside D
quiet_one p e = (quiet_other p e).stays phase.Inside bears_inside D

parameters_over : (parameters : List Identifier) → Moves (walk_parameters parameters) phase.Condition D phase.Start D
parameters_over parameters =
    let opening : Moves (plain token.OpenParen) phase.Condition D phase.Condition (construct.Parens ∷ D) = record { goes = λ rest. refl } in
    let closing : Moves (plain token.CloseParen) phase.Condition (construct.Parens ∷ D) phase.Start D = record { goes = λ rest. refl } in
    moved opening (moved ((quiet_list walk_parameter (λ w. quiet_name w _) parameters).stays phase.Condition bears_condition (construct.Parens ∷ D)) closing)

definition_tagged : (d : Definition) → IsFormed d → (rest : List Sort) → IsLeft d rest
    → run phase.Over [] (sorts (walk_definition d) ++ rest) ≡ definition_tags d ++ run phase.Over [] rest
definition_tagged (Simple w values) formed rest left =
    ap (λ p. tag.Begins construct.Definition ∷ tag.Token ∷ run p D (sorts (walk_values values) ++ rest)) (named_values values rest)
    ∙ ap (λ l. tag.Begins construct.Definition ∷ tag.Token ∷ l) (valued (walk_values values) (values_over values) rest)
    ∙ sym (within_then construct.Definition (tag.Token ∷ tokens (walk_values values)) (run phase.Over [] rest))
definition_tagged (Vector w size values) formed rest left =
    let after : Walk = plain token.OpenBracket ▸ walk_size size ▸ plain token.CloseBracket ▸ walk_values values in
    let goes : Moves after phase.Inside D phase.Over D =
    moved (quiet_one _ refl) (moved ((quiet_size size).stays phase.Inside bears_inside D) (moved (quiet_one _ refl) (values_over values))) in
    ap (λ l. tag.Begins construct.Definition ∷ tag.Token ∷ l) (valued after goes rest)
    ∙ sym (within_then construct.Definition (tag.Token ∷ tokens after) (run phase.Over [] rest))
definition_tagged (Function w parameters body) formed rest left =
    let list = sorts (walk_list walk_parameter parameters) in
    let more = sort.CloseParen ∷ sorts (walk_statement body) in
    ap (λ l. tag.Begins construct.Definition ∷ tag.Token ∷ l)
    (ap (λ l. run phase.Condition D (sort.OpenParen ∷ l))
    (append_assoc list more rest ∙ sym (append_assoc list (sort.CloseParen ∷ []) (sorts (walk_statement body) ++ rest)))
    ∙ (parameters_over parameters).goes (sorts (walk_statement body) ++ rest)
    ∙ ap (λ l. tokens (walk_parameters parameters) ++ l)
    (tagged body formed.0 construct.Definition [] rest left ∙ ap (λ l. statement_tags body ++ l) (definition_over [] rest))
    ∙ sym (append_assoc (tokens (walk_parameters parameters)) (statement_tags body) (tag.Ends ∷ run phase.Over [] rest)))
    ∙ sym (within_then construct.Definition (tag.Token ∷ (tokens (walk_parameters parameters) ++ statement_tags body)) (run phase.Over [] rest))

abbrev all_sorts : List Definition → List Sort
all_sorts [] = []
all_sorts (d ∷ ds) = sorts (walk_definition d) ++ all_sorts ds

definition_first : (d : Definition) (rest : List Sort) → is_else (first (sorts (walk_definition d) ++ rest)) ≡ false
definition_first (Simple w values) rest = refl
definition_first (Vector w size values) rest = refl
definition_first (Function w parameters body) rest = refl

first_of_all : (ds : List Definition) (rest : List Sort) → is_else (first rest) ≡ false → is_else (first (all_sorts ds ++ rest)) ≡ false
first_of_all [] rest h = h
first_of_all (d ∷ ds) rest h =
    ap (λ ss. is_else (first ss)) (append_assoc (sorts (walk_definition d)) (all_sorts ds) rest)
    ∙ definition_first d (all_sorts ds ++ rest)

left_of : (d : Definition) (rest : List Sort) → is_else (first rest) ≡ false → IsLeft d rest
left_of (Function w parameters body) rest h = λ is. h
left_of (Simple w values) rest h = tt
left_of (Vector w size values) rest h = tt

all_tagged : (ds : List Definition) → AllFormed ds → (rest : List Sort) → is_else (first rest) ≡ false
    → run phase.Over [] (all_sorts ds ++ rest) ≡ program_tags ds ++ run phase.Over [] rest
all_tagged [] formed rest h = refl
all_tagged (d ∷ ds) formed rest h =
    ap (run phase.Over []) (append_assoc (sorts (walk_definition d)) (all_sorts ds) rest)
    ∙ definition_tagged d formed.0 (all_sorts ds ++ rest) (left_of d (all_sorts ds ++ rest) (first_of_all ds rest h))
    ∙ ap (λ l. definition_tags d ++ l) (all_tagged ds formed.1 rest h)
    ∙ sym (append_assoc (definition_tags d) (program_tags ds) (run phase.Over [] rest))

all_sorts_are : (ds : List Definition) → all_sorts ds ≡ map sort_of (map bare (spell_all ds))
all_sorts_are [] = refl
all_sorts_are (d ∷ ds) =
    ap (λ l. l ++ all_sorts ds) (sorts_are (walk_definition d))
    ∙ ap (λ l. map sort_of (map bare (spell_definition d)) ++ l) (all_sorts_are ds)
    ∙ sym (map-append sort_of (map bare (spell_definition d)) (map bare (spell_all ds)))
    ∙ ap (map sort_of) (sym (map-append bare (spell_definition d) (spell_all ds)))

begin_is_over : (ss : List Sort) → run phase.Start [] ss ≡ run phase.Over [] ss
begin_is_over [] = refl
begin_is_over (s ∷ ss) = refl

no_else : (s : Sort) → s ≢ sort.Else → is_else s ≡ false
no_else sort.Else h = absurd (h refl)
no_else _ h = refl

pub tags_of_program : TagsOfProgram
tags_of_program definitions tokens more formed spelled h =
    ap (λ ts. run phase.Start [] (map sort_of (ts ++ more))) (sym spelled)
    ∙ begin_is_over (map sort_of (map bare (spell_all definitions) ++ more))
    ∙ ap (run phase.Over []) (map-append sort_of (map bare (spell_all definitions)) more
    ∙ ap (λ l. l ++ map sort_of more) (sym (all_sorts_are definitions)))
    ∙ all_tagged definitions formed (map sort_of more) (no_else (first (map sort_of more)) h)

pub are_tags : (ss : List Sort) (tags : List Tag) → tags ≡ run phase.Start [] ss → AreTags ss tags
are_tags ss tags made = record {
  of_tree = λ definitions formed same.
      made ∙ ap (run phase.Start []) (same ∙ ap (map sort_of) (sym (append-nil (map bare (spell_all definitions)))))
      ∙ tags_of_program definitions (map bare (spell_all definitions)) [] formed refl (λ e. cc)
      ∙ append-nil (program_tags definitions);
  of_beginning = λ definitions more formed same h. (
    run phase.Over [] (map sort_of more),
    made ∙ ap (run phase.Start []) same ∙ tags_of_program definitions (map bare (spell_all definitions)) more formed refl h,
  );
  made = made;
}
