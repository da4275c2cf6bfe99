-- A name of a whole definition is looked for among the names of that definition.
use Rattle.std.proofs.Common.{◌≡◌, ◌∙◌, ◌+◌, add-zero, ap, append-nil, append_assoc, arith, drop, drop_at, drop-drop, length, length-append, zero, suc, pred, List, [], ◌∷◌, ◌++◌, ℕ, Bool, Option, Some, None, map, refl, subst, sym}
use Rattle.std.specs.Prelude.{flat_map}
use Rattle.std.proofs.Math.Nat.{zero-add}
use Rattle.std.specs.List.{cons_option, filter_map}
use Rattle.std.specs.Option.{option_map}
use Rattle.std.proofs.lemmas.List.{drop-map, drop_all, length-map}
use Rattle.blang.specs.Trees.{Definition, Function, Simple, Vector}
use Rattle.blang.specs.Trees.{Break, Compound, Empty, Evaluate, Goto, Headed, If, IfElse, More, Nothing, Return, ReturnValue, Stmt, Stmts, Switch, While}
use Rattle.blang.specs.Walk.{Level, Said, TextHere, Walk, ◌▸◌, walk, walk_body, walk_definition, walk_heading, walk_list, walk_parameter, walk_parenthesized, walk_statement}
use Rattle.blex.specs.declared.lexeme.Lexeme.{Lexeme}
use Rattle.blex.specs.declared.lexeme.Lexeme.TheVariants as lexeme
use Rattle.btree.specs.declared.tags.Construct.{Construct}
use Rattle.btree.specs.declared.tags.Construct.TheVariants as construct
use Rattle.btree.specs.declared.tags.Phase.TheVariants as phase
use Rattle.btree.specs.declared.tags.Tag.{Tag}
use Rattle.btree.specs.declared.tags.Tag.TheVariants as tag
use Rattle.btree.specs.Laws.{TagsOfProgram}
use Rattle.btree.specs.Machine.{run}
use Rattle.btree.specs.Tags.{body_tags, definition_tags, program_tags, statement_tags, tokens, walk_parameters, within}
use Rattle.bnaming.specs.declared.binding.Reach.TheVariants as reach
use Rattle.bnaming.specs.declared.places.Spot.{Spot}
use Rattle.bnaming.specs.declared.reading.PlacedToken.{PlacedToken}
use Rattle.bnaming.specs.declared.roles.Mode.{Mode}
use Rattle.bnaming.specs.declared.roles.Mode.TheVariants as mode
use Rattle.bnaming.specs.declared.rows.Content.TheVariants as content
use Rattle.bnaming.specs.declared.rows.OtherToken.TheVariants as other
use Rattle.bnaming.specs.declared.rows.Row.{Row}
use Rattle.bnaming.specs.Binding.{reached}
use Rattle.bnaming.specs.Laws.{BindingsOfProgram, NamedAs, content_name, definition_names, name_around, names_around, names_in, names_together}
use Rattle.bnaming.specs.Names.{arounds}
use Rattle.bnaming.specs.Pieces.{sort_in}
use Rattle.bnaming.specs.Roles.{mode_after, mode_in}
use Rattle.bnaming.specs.Rows.{content_of, first_of, is_before_paren, opens_after, row, rows_from}
use Rattle.bnaming.specs.Spots.{first_spot}
use Rattle.bnaming.proofs.DefinitionNames.{all_lexes, definition_says, front_lexemes, lexemes, lexemes_defined, names_are, tagged}
use Rattle.bnaming.proofs.TreeNames.{lexes, names_from}

-- how many constructs are open after a tag
abbrev opened : ℕ → Tag → ℕ
opened n (tag.Begins c) = suc n
opened n tag.Ends = pred n
opened n tag.Token = n

-- the tags up to the end of what is open, and those after it
abbrev upto : ℕ → List Tag → List Tag
upto zero tags = []
upto (suc n) [] = []
upto (suc n) (t ∷ tags) = t ∷ upto (opened (suc n) t) tags

abbrev past : ℕ → List Tag → List Tag
past zero tags = tags
past (suc n) [] = []
past (suc n) (t ∷ tags) = past (opened (suc n) t) tags

abbrev count : List Tag → ℕ
count [] = 0
count (tag.Begins c ∷ tags) = count tags
count (tag.Ends ∷ tags) = count tags
count (tag.Token ∷ tags) = suc (count tags)

count-append : (s t : List Tag) → count (s ++ t) ≡ count s + count t
count-append [] t = sym (zero-add (count t))
count-append (tag.Begins c ∷ s) t = count-append s t
count-append (tag.Ends ∷ s) t = count-append s t
count-append (tag.Token ∷ s) t = let again = count-append s t in omega (arith, again)

-- Tags with these tokens leave open what is open before them.
record Fits (k : List Lexeme) (s : List Tag) : Type 0 where
  kept : (n : ℕ) (tags : List Tag) → upto (suc n) (s ++ tags) ≡ s ++ upto (suc n) tags
  left : (n : ℕ) (tags : List Tag) → past (suc n) (s ++ tags) ≡ past (suc n) tags
  counted : count s ≡ length k

fits_both : {k l : List Lexeme} {s t : List Tag} → Fits k s → Fits l t → Fits (k ++ l) (s ++ t)
fits_both {k} {l} {s} {t} f g = record {
  kept = λ n tags. ap (upto (suc n)) (append_assoc s t tags) ∙ f.kept n (t ++ tags) ∙ ap (λ x. s ++ x) (g.kept n tags) ∙ sym (append_assoc s t (upto (suc n) tags));
  left = λ n tags. ap (past (suc n)) (append_assoc s t tags) ∙ f.left n (t ++ tags) ∙ g.left n tags;
  counted = count-append s t ∙ ap (λ x. x + count t) f.counted ∙ ap (λ x. length k + x) g.counted ∙ sym (length-append k l);
}

fits_none : Fits [] []
fits_none = record { kept = λ n tags. refl; left = λ n tags. refl; counted = refl }

fits_one : (l : Lexeme) → Fits (l ∷ []) (tag.Token ∷ [])
fits_one l = record { kept = λ n tags. refl; left = λ n tags. refl; counted = refl }

fits_within : (c : Construct) {k : List Lexeme} {s : List Tag} → Fits k s → Fits k (within c s)
fits_within c {k} {s} f = record {
  kept = λ n tags. ap (λ x. tag.Begins c ∷ x)
      (ap (upto (suc (suc n))) (append_assoc s (tag.Ends ∷ []) tags) ∙ f.kept (suc n) (tag.Ends ∷ tags) ∙ sym (append_assoc s (tag.Ends ∷ []) (upto (suc n) tags)));
  left = λ n tags. ap (past (suc (suc n))) (append_assoc s (tag.Ends ∷ []) tags) ∙ f.left (suc n) (tag.Ends ∷ tags);
  counted = count-append s (tag.Ends ∷ []) ∙ add-zero (count s) ∙ f.counted;
}

fits_tags : {k : List Lexeme} {s t : List Tag} → s ≡ t → Fits k s → Fits k t
fits_tags {k} e f = subst (Fits k) e f

fits_tokens : (w : Walk) → Fits (lexes w) (tokens w)
fits_tokens (Said p) = fits_one _
fits_tokens (TextHere t) = fits_one _
fits_tokens (Level opening inside after) = fits_both (fits_one _) (fits_tokens inside)
fits_tokens (v ▸ w) = fits_both (fits_tokens v) (fits_tokens w)
fits_tokens _ = fits_none

mutual
  fits_statement : (s : Stmt) → Fits (lexes (walk_statement s)) (statement_tags s)
  fits_statement (Headed h s) = fits_both (fits_within construct.Heading (fits_tokens (walk_heading h))) (fits_statement s)
  fits_statement (Compound body) = fits_within construct.Block (fits_both (fits_one _) (fits_both (fits_body body) (fits_one _)))
  fits_statement (If e s) = fits_within construct.If (fits_both (fits_one _) (fits_both (fits_tokens (walk_parenthesized e)) (fits_statement s)))
  fits_statement (IfElse e s other) =
      fits_within construct.If
      (fits_both (fits_one _) (fits_both (fits_tokens (walk_parenthesized e)) (fits_both (fits_statement s) (fits_both (fits_one _) (fits_statement other)))))
  fits_statement (While e s) = fits_within construct.While (fits_both (fits_one _) (fits_both (fits_tokens (walk_parenthesized e)) (fits_statement s)))
  fits_statement (Switch e body) =
      fits_within construct.Switch
      (fits_both (fits_one _) (fits_both (fits_tokens (walk e)) (fits_within construct.Block (fits_both (fits_one _) (fits_both (fits_body body) (fits_one _))))))
  fits_statement (Goto e) = fits_within construct.Plain (fits_tokens (walk_statement (Goto e)))
  fits_statement (Break line) = fits_within construct.Plain (fits_tokens (walk_statement (Break line)))
  fits_statement Return = fits_within construct.Plain (fits_tokens (walk_statement Return))
  fits_statement (ReturnValue e) = fits_within construct.Plain (fits_tokens (walk_statement (ReturnValue e)))
  fits_statement (Evaluate e) = fits_within construct.Plain (fits_tokens (walk_statement (Evaluate e)))
  fits_statement Empty = fits_within construct.Plain (fits_tokens (walk_statement Empty))

  fits_body : (body : Stmts) → Fits (lexes (walk_body body)) (body_tags body)
  fits_body Nothing = fits_none
  fits_body (More before s) = fits_both (fits_body before) (fits_statement s)

-- what stands in the construct of a definition
abbrev inner : Definition → List Tag
inner (Function w parameters body) = tag.Token ∷ tokens (walk_parameters parameters) ++ statement_tags body
inner d = tokens (walk_definition d)

inner_is : (d : Definition) → definition_tags d ≡ within construct.Definition (inner d)
inner_is (Function w parameters body) = refl
inner_is (Simple w values) = refl
inner_is (Vector w size values) = refl

fits_inner : (d : Definition) → Fits (lexes (walk_definition d)) (inner d)
fits_inner (Function w parameters body) =
    let list = walk_list walk_parameter parameters in
    fits_tags (ap (λ l. tag.Token ∷ tag.Token ∷ l) (sym (append_assoc (tokens list) (tag.Token ∷ []) (statement_tags body))))
    (fits_both (fits_one _) (fits_both (fits_one _) (fits_both (fits_tokens list) (fits_both (fits_one _) (fits_statement body)))))
fits_inner (Simple w values) = fits_tokens (walk_definition (Simple w values))
fits_inner (Vector w size values) = fits_tokens (walk_definition (Vector w size values))

-- A row with a token opens and ends nothing.
stays : (n : ℕ) (m : Mode) (l : Lexeme) (b : Bool) → opens_after n (content_of m l b) ≡ n
stays n m (lexeme.Name x) b = refl
stays n m _ b = refl

-- the rows that are reached are those of the tags up to the end
reached_rows : (n : ℕ) (m : Mode) (last : Spot) (ts : List PlacedToken) (tags : List Tag) → reached reach.Definition n (rows_from m last ts tags) ≡ rows_from m last ts (upto n tags)
reached_rows zero m last ts [] = refl
reached_rows zero m last ts (tag.Begins c ∷ tags) = refl
reached_rows zero m last ts (tag.Ends ∷ tags) = refl
reached_rows zero m last [] (tag.Token ∷ tags) = refl
reached_rows zero m last (t ∷ ts) (tag.Token ∷ tags) = refl
reached_rows (suc n) m last ts [] = refl
reached_rows (suc n) m last ts (tag.Begins c ∷ tags) = ap (λ rs. row (content.Begins c) (first_of ts last) (first_of ts last) ∷ rs) (reached_rows (suc (suc n)) (mode_in c) last ts tags)
reached_rows (suc n) m last ts (tag.Ends ∷ tags) = ap (λ rs. row content.Ends last last ∷ rs) (reached_rows n mode.Statement last ts tags)
reached_rows (suc n) m last [] (tag.Token ∷ tags) = ap (λ rs. row (content.Other other.Operator) last last ∷ rs) (reached_rows (suc n) m last [] tags)
reached_rows (suc n) m last (t ∷ ts) (tag.Token ∷ tags) =
    let b = is_before_paren ts in
    let r = row (content_of m t.lexeme b) t.first t.end in
    let m' = mode_after m t.lexeme b in
    ap (λ k. r ∷ reached reach.Definition k (rows_from m' t.end ts tags)) (stays (suc n) m t.lexeme b) ∙ ap (λ rs. r ∷ rs) (reached_rows (suc n) m' t.end ts tags)

-- the rows after those
abbrev beyond : ℕ → List Row → List Row
beyond zero rows = rows
beyond (suc n) [] = []
beyond (suc n) (r ∷ rs) = beyond (opens_after (suc n) r.content) rs

-- what a name would be after tags, where the last token ended, and the tokens to come
record State : Type 0 where
  now : Mode
  last : Spot
  rest : List PlacedToken

abbrev after : Mode → Spot → List PlacedToken → List Tag → State
after m last ts [] = record { now = m; last = last; rest = ts }
after m last ts (tag.Begins c ∷ tags) = after (mode_in c) last ts tags
after m last ts (tag.Ends ∷ tags) = after mode.Statement last ts tags
after m last [] (tag.Token ∷ tags) = after m last [] tags
after m last (t ∷ ts) (tag.Token ∷ tags) = after (mode_after m t.lexeme (is_before_paren ts)) t.end ts tags

abbrev rows_in : State → List Tag → List Row
rows_in s tags = rows_from s.now s.last s.rest tags

past_rows : (n : ℕ) (m : Mode) (last : Spot) (ts : List PlacedToken) (tags : List Tag) → beyond n (rows_from m last ts tags) ≡ rows_in (after m last ts (upto n tags)) (past n tags)
past_rows zero m last ts tags = refl
past_rows (suc n) m last ts [] = refl
past_rows (suc n) m last ts (tag.Begins c ∷ tags) = past_rows (suc (suc n)) (mode_in c) last ts tags
past_rows (suc n) m last ts (tag.Ends ∷ tags) = past_rows n mode.Statement last ts tags
past_rows (suc n) m last [] (tag.Token ∷ tags) = past_rows (suc n) m last [] tags
past_rows (suc n) m last (t ∷ ts) (tag.Token ∷ tags) =
    let b = is_before_paren ts in
    let m' = mode_after m t.lexeme b in
    ap (λ k. beyond k (rows_from m' t.end ts tags)) (stays (suc n) m t.lexeme b) ∙ past_rows (suc n) m' t.end ts tags

mode_ended : (m : Mode) (last : Spot) (ts : List PlacedToken) (tags : List Tag) → (after m last ts (tags ++ tag.Ends ∷ [])).now ≡ mode.Statement
mode_ended m last ts [] = refl
mode_ended m last ts (tag.Begins c ∷ tags) = mode_ended (mode_in c) last ts tags
mode_ended m last ts (tag.Ends ∷ tags) = mode_ended mode.Statement last ts tags
mode_ended m last [] (tag.Token ∷ tags) = mode_ended m last [] tags
mode_ended m last (t ∷ ts) (tag.Token ∷ tags) = mode_ended (mode_after m t.lexeme (is_before_paren ts)) t.end ts tags

tokens_left : (m : Mode) (last : Spot) (ts : List PlacedToken) (tags : List Tag) → (after m last ts tags).rest ≡ drop (count tags) ts
tokens_left m last ts [] = refl
tokens_left m last ts (tag.Begins c ∷ tags) = tokens_left (mode_in c) last ts tags
tokens_left m last ts (tag.Ends ∷ tags) = tokens_left mode.Statement last ts tags
tokens_left m last [] (tag.Token ∷ tags) = tokens_left m last [] tags ∙ drop_all (count tags) [] (omega arith)
tokens_left m last (t ∷ ts) (tag.Token ∷ tags) = tokens_left (mode_after m t.lexeme (is_before_paren ts)) t.end ts tags

-- the names of rows that are reached are looked for in the same ones
abbrev paired : List NamedAs → List NamedAs → List (NamedAs × List NamedAs)
paired own names = map (λ n. (n, own)) names

looked : (own : List Row) (n : ℕ) (rows : List Row) → filter_map name_around (arounds own n rows) ≡ paired (names_in own) (names_in (reached reach.Definition n rows)) ++ names_around (beyond n rows)
looked own zero [] = refl
looked own (suc n) [] = refl
looked own zero (r ∷ rs) = refl
looked own (suc n) (r ∷ rs) =
    let k = opens_after (suc n) r.content in
    ap (cons_option (name_around (r, own))) (looked own k rs) ∙ one (content_name r.content) (names_in (reached reach.Definition k rs)) (names_around (beyond k rs))
  where
    one : (o : Option NamedAs) (names : List NamedAs) (z : List (NamedAs × List NamedAs))
        → cons_option (option_map (λ n. (n, names_in own)) o) (paired (names_in own) names ++ z) ≡ paired (names_in own) (cons_option o names) ++ z
    one None names z = refl
    one (Some x) names z = refl

-- a definition, and the rows after it
record LooksOn (d : Definition) (last : Spot) (ts : List PlacedToken) (tags : List Tag) : Type 0 where
  ended : Spot
  names : names_around (rows_from mode.Statement last ts (definition_tags d ++ tags))
      ≡ names_together d ++ names_around (rows_from mode.Statement ended (drop (length (lexes (walk_definition d))) ts) tags)

looks_on : (d : Definition) (last : Spot) (ts : List PlacedToken) (ls : List Lexeme) (tags : List Tag) → lexemes ts ≡ lexes (walk_definition d) ++ ls → LooksOn d last ts tags
looks_on d last ts ls tags spelled =
    let f = fits_inner d in
    let whole = inner d ++ tag.Ends ∷ [] in
    let m = mode.Definition in
    let rest = rows_from m last ts (whole ++ tags) in
    let own = reached reach.Definition 1 rest in
    let state = after m last ts whole in
    let kept : upto 1 (whole ++ tags) ≡ whole = ap (upto 1) (append_assoc (inner d) (tag.Ends ∷ []) tags) ∙ f.kept 0 (tag.Ends ∷ tags) in
    let left : past 1 (whole ++ tags) ≡ tags = ap (past 1) (append_assoc (inner d) (tag.Ends ∷ []) tags) ∙ f.left 0 (tag.Ends ∷ tags) in
    let own_is : own ≡ rows_from m last ts whole = reached_rows 1 m last ts (whole ++ tags) ∙ ap (rows_from m last ts) kept in
    let said : names_from m (lexes (walk_definition d) ++ ls) whole ≡ definition_names d =
    ap (names_from m (lexes (walk_definition d) ++ ls)) (sym (append-nil whole))
    ∙ ap (λ t. names_from mode.Statement (lexes (walk_definition d) ++ ls) (t ++ [])) (sym (inner_is d))
    ∙ (definition_says d mode.Statement).goes ls [] ∙ append-nil (definition_names d) in
    let names_own : names_in own ≡ definition_names d =
    ap names_in own_is ∙ names_are m last ts whole ∙ ap (λ l. names_from m l whole) spelled ∙ said in
    let gone : beyond 1 rest ≡ rows_in state tags =
    past_rows 1 m last ts (whole ++ tags) ∙ ap (λ t. rows_in (after m last ts t) (past 1 (whole ++ tags))) kept ∙ ap (rows_in state) left in
    let number : count whole ≡ length (lexes (walk_definition d)) = count-append (inner d) (tag.Ends ∷ []) ∙ add-zero (count (inner d)) ∙ f.counted in
    let gone_on : rows_in state tags ≡ rows_from mode.Statement state.last (drop (length (lexes (walk_definition d))) ts) tags =
    ap (λ x. rows_from x state.last state.rest tags) (mode_ended m last ts (inner d))
    ∙ ap (λ l. rows_from mode.Statement state.last l tags) (tokens_left m last ts whole ∙ ap (λ n. drop n ts) number) in
    record {
      ended = state.last;
      names = ap (λ t. names_around (rows_from mode.Statement last ts (t ++ tags))) (inner_is d)
          ∙ looked own 1 rest
          ∙ ap (λ ns. paired ns ns ++ names_around (beyond 1 rest)) names_own
          ∙ ap (λ rs. names_together d ++ names_around rs) (gone ∙ gone_on);
    }

-- all definitions, and the rows after them
all_look : (ds : List Definition) (last : Spot) (ts : List PlacedToken) (ls : List Lexeme) (tags : List Tag) → lexemes ts ≡ all_lexes ds ++ ls
    → (ended : Spot) × (names_around (rows_from mode.Statement last ts (program_tags ds ++ tags))
    ≡ flat_map names_together ds ++ names_around (rows_from mode.Statement ended (drop (length (all_lexes ds)) ts) tags))
all_look [] last ts ls tags spelled = (last, refl)
all_look (d ∷ ds) last ts ls tags spelled =
    let own = lexes (walk_definition d) in
    let one = looks_on d last ts (all_lexes ds ++ ls) (program_tags ds ++ tags) (spelled ∙ append_assoc own (all_lexes ds) ls) in
    let rest = drop (length own) ts in
    let going : lexemes rest ≡ all_lexes ds ++ ls =
    sym (drop-map (λ (t : PlacedToken). t.lexeme) (length own) ts)
    ∙ ap (drop (length own)) (spelled ∙ append_assoc own (all_lexes ds) ls) ∙ drop_at own (all_lexes ds ++ ls) (length own) refl in
    let others = all_look ds one.ended rest ls tags going in
    let far : drop (length (all_lexes ds)) rest ≡ drop (length (own ++ all_lexes ds)) ts =
    drop-drop (length (all_lexes ds)) (length own) ts ∙ ap (λ n. drop n ts) (sym (length-append own (all_lexes ds))) in (
      others.0,
      ap (λ t. names_around (rows_from mode.Statement last ts t)) (append_assoc (definition_tags d) (program_tags ds) tags)
          ∙ one.names ∙ ap (λ l. names_together d ++ l) others.1
          ∙ sym (append_assoc (names_together d) (flat_map names_together ds) (names_around (rows_from mode.Statement others.0 (drop (length (all_lexes ds)) rest) tags)))
          ∙ ap (λ l. (names_together d ++ flat_map names_together ds) ++ names_around (rows_from mode.Statement others.0 l tags)) far,
    )

pub bindings_of_program : TagsOfProgram → BindingsOfProgram
bindings_of_program tags_of_program ds own more are =
    let tags = run phase.Over [] (map sort_in more) in
    let all = all_look ds first_spot (own ++ more) (lexemes more) tags (lexemes_defined ds own more are) in
    let size : length own ≡ length (all_lexes ds) =
    sym (length-map own (λ (t : PlacedToken). t.lexeme)) ∙ ap length (front_lexemes ds own more are) in (
      all.0,
      ap (λ t. names_around (rows_from mode.Statement first_spot (own ++ more) t)) (tagged tags_of_program ds own more are) ∙ all.1
          ∙ ap (λ l. flat_map names_together ds ++ names_around (rows_from mode.Statement all.0 l tags)) (drop_at own more (length (all_lexes ds)) size),
    )
