-- How the calls that read definitions go on.
use Rattle.std.proofs.Common.{◌≡◌, ℕ, ◌+◌, min, max, Bool, true, false, List, [], ◌∷◌, ◌++◌, length, length-append, fold, Option, None, Result, Ok, Err, IsErrAnd, ◌⊎◌, inl, inr, refl, sym, ap, ◌∙◌, subst, arith, if◌then◌else◌}
use Rattle.std.specs.Prelude.{nat_lt}
use Rattle.std.proofs.lemmas.Bool.Decides.{nat_tests}
use Rattle.blang.specs.declared.token.Token.{Token}
use Rattle.blang.specs.declared.token.Token.TheVariants as token
use Rattle.blang.specs.declared.token.Placed.{Placed}
use Rattle.blang.specs.declared.code.Ival as coded
use Rattle.blang.specs.declared.code.Ival.TheVariants as ival_code
use Rattle.blang.specs.declared.code.Instr.TheVariants as instr
use Rattle.blang.specs.Trees.{Identifier, Number, Character, Ival, Ival_constant, Ival_name, Definition, Simple, Vector, Function}
use Rattle.bgrammar.specs.Reading.{Read, Reader, Got, Stop, ◌>>=◌, first, line_ahead, after, expect}
use Rattle.bgrammar.specs.ExpressionReader.{is_close_paren, is_close_bracket}
use Rattle.bgrammar.specs.Commas.{list_reader}
use Rattle.blang.specs.Code.{vector_constant}
use Rattle.bgrammar.specs.StatementReader.{is_semicolon, name, size, statement}
use Rattle.blang.specs.declared.limits.TheConstants.{MAX_NESTING}
use Rattle.bgrammar.specs.Fitting.{values_words}
use Rattle.bgrammar.specs.DefinitionReader.{ival_at, ival, valued, vector, function_body, function, after_name_at, after_name, definition}
use Rattle.bgrammar.proofs.Fine.{Fine}
use Rattle.bgrammar.proofs.ExpressionFine.{Closer}
use Rattle.bemit.specs.Drafts.{Draft, emitted, worded, started, place_of}
use Rattle.bemit.specs.Drafts as drafts
use Rattle.bemit.specs.Effects.{ival_done, done, values_done, parameters_done, definition_done}
use Rattle.bemit.specs.Trails.{Lines, Trail, trail, no_lines, first_line, took, took_size, noted_at, filled_to, made_to, value_place, trailed_list, trailed_value, trailed_values, trailed_parameters, trailed_statement, trailed_definition}
use Rattle.bread.specs.Tokens.{with_noted, Tokens, IsLoaded, IsSingle, Runs, TokensFail, Advances}
use Rattle.bread.specs.Marks.{is_comma}
use Rattle.bread.specs.Parsers.{Leads, Halts, Expected}
use Rattle.bread.specs.declared.take.Word as take
use Rattle.bread.specs.declared.halt.Halt.{Halt}
use Rattle.bread.specs.declared.halt.Halt.TheVariants as halt
use Rattle.bread.specs.declared.header.DefinitionHead.{DefinitionHead}
use Rattle.bread.specs.declared.header.HeadKind.{HeadKind}
use Rattle.bread.specs.declared.header.HeadKind.TheVariants as kind
use Rattle.bread.specs.Compiling.{PartTaken, CompilesPart, TookName, TookSize}
use Rattle.bread.specs.Definitions.{TakesValue, initial_value_list, parameters, TookList, FindsList, TookKind, FindsKind, TookDefinition, FindsDefinition}
use Rattle.bread.proofs.TokenSteps.{Moves-as, Moves-breaks, noted_moves, noted_loaded}
use Rattle.bread.proofs.Moving.{past, past_expected, one_past, run_here, run_past, run_then, run_bind}
use Rattle.bread.proofs.Steps.{began, went, halts_first, halts_then, halts_after, device}
use Rattle.bread.proofs.Takings.{less}
use Rattle.bread.proofs.Lists.{InList, list_first, list_halts, list_ends}

-- an initial value
pub value_ends : (made : List Ival → Ival) (v : coded.Ival) (old : Tokens) (start d0 : Draft) (r : Result (Unit {0}) Halt) (new : Tokens) (draft : Draft) → ((before : List Ival) (u : List Placed) → first u ≡ first old.ahead → line_ahead u ≡ line_ahead old.ahead → ival before u ≡ Got (made before) (after u)) → ((before : List Ival) → ival_done start (made before) ≡ drafts.valued v d0) → (place : ℕ) → place ≡ value_place start → TakesValue v place old d0 r new draft → CompilesPart ival (λ v d. ival_done d v) trailed_value old start r new draft
value_ends made v old start d0 (Ok o) new draft is same place at t = (λ before. record { tree = made before; runs = run_past {g = λ v. Got (made before) v} t.0 (λ u e l. is before u e l); made = t.1 ∙ sym (same before); leads = λ u ls q. ap (trailed_value (made before) start) q ∙ valued_past ls }, t.0.single, less t.0)
  where
    valued_past : (ls : List ℕ) → took (trail (t.0.moves.passed ls) (noted_at (value_place start) (first_line (t.0.moves.passed ls)) old.noted)) ≡ trail ls new.noted
    valued_past ls =
        ap (λ k. took (trail k (noted_at (value_place start) (first_line k) old.noted))) (t.0.one ls)
        ∙ ap (λ p. trail ls (noted_at p (line_ahead old.ahead) old.noted)) (sym at) ∙ ap (trail ls) (sym t.0.noted_is)
value_ends made v old start d0 (Err why) new draft is same place at t = λ before. device old new (ival before) why t.0 t.1

pub number_ends : (n : ℕ) (old : Tokens) (start : Draft) (r : Result (Unit {0}) Halt) (new : Tokens) (draft : Draft) → (first old.ahead ≡ token.Number n) ⊎ (first old.ahead ≡ token.Character n) → (place : ℕ) → place ≡ value_place start → TakesValue (ival_code.Number n) place old start r new draft → CompilesPart ival (λ v d. ival_done d v) trailed_value old start r new draft
number_ends n old start r new draft (inl k) place at h = value_ends (λ before. Ival_constant (Number n)) (ival_code.Number n) old start start r new draft (λ before u f l. ap (λ t. ival_at (values_words before) t u) (f ∙ k)) (λ before. refl) place at h
number_ends n old start r new draft (inr k) place at h = value_ends (λ before. Ival_constant (Character n)) (ival_code.Number n) old start start r new draft (λ before u f l. ap (λ t. ival_at (values_words before) t u) (f ∙ k)) (λ before. refl) place at h

pub name_ends : (x : List ℕ) (old : Tokens) (start : Draft) (r : Result (Unit {0}) Halt) (new : Tokens) (draft : Draft) → first old.ahead ≡ token.Name x → (place : ℕ) → place ≡ value_place start → TakesValue (ival_code.Name x) place old start r new draft → CompilesPart ival (λ v d. ival_done d v) trailed_value old start r new draft
name_ends x old start r new draft k place at h = value_ends (λ before. Ival_name (record { text = x; line = line_ahead old.ahead })) (ival_code.Name x) old start start r new draft (λ before u f l. ap (λ t. ival_at (values_words before) t u) (f ∙ k) ∙ ap (λ n. Got (Ival_name (record { text = x; line = n })) (after u)) l) (λ before. refl) place at h

-- things with commas between them, if any, and the token after them
module _ {A : Type 0} (item : List A → Reader A) (fine : (before : List A) (ts : List Placed) → Fine Closer (item before) ts) (effect : A → Draft → Draft) (step : A → Draft → Trail → Trail) (is : Token → Bool) (effects : List A → Draft → Draft) (steps : List A → Draft → Trail → Trail) (same : (xs : List A) (d : Draft) → effects xs d ≡ fold (λ b x. effect x b) d xs) (says : (xs : List A) (d : Draft) (t : Trail) → steps xs d t ≡ took (trailed_list effect step xs d t)) (most : ℕ) where
  abbrev closed : List A → Reader (List A)
  closed xs r = expect is r >>= λ o. Got xs

  abbrev perhaps : Reader (List A)
  perhaps ts = if is (first ts) then Got [] (after ts) else list_reader item ts >>= closed

  pub none_took : (old new : Tokens) (start : Draft) → Advances old new → is (first old.ahead) ≡ true → TookList perhaps effects steps most start old new start 0
  none_took old new start a h = record { items = []; runs = run_past {g = λ v. Got [] v} a (λ u e l. ap (λ b. if b then Got [] (after u) else list_reader item u >>= closed) (ap is e ∙ h)); made = sym (same [] start); count_is = omega arith; single = a.single; leads = λ u ls q. says [] start u ∙ ap took q ∙ past a ls }

  module _ (old : Tokens) (l : IsLoaded old) (n : is (first old.ahead) ≡ false) where
    abbrev some_come : Runs old old perhaps (λ u. list_reader item u >>= closed)
    some_come = run_here l (λ u e m. ap (λ b. if b then Got [] (after u) else list_reader item u >>= closed) (ap is e ∙ n))

    some_halts : (new : Tokens) (why : Halt) → Halts (list_reader item) old why new → Halts perhaps old why new
    some_halts new why h = halts_then old old new perhaps (list_reader item) closed why some_come h

    pub some_first : (new : Tokens) (why : Halt) → Halts (item []) old why new → Halts perhaps old why new
    some_first new why h = some_halts new why (list_first item old new why h)

    module _ {start draft : Draft} {now : Tokens} (s : InList item effect step start old now draft) where
      pub some_comma : (mid new : Tokens) (why : Halt) → Advances now mid → is_comma (first now.ahead) ≡ true → Halts (item s.items) mid why new → Halts perhaps old why new
      some_comma mid new why h c k = some_halts new why (list_halts item fine effect step s h c new why k)

      pub some_breaks : (new : Tokens) (why : Halt) → why ≡ halt.Device → TokensFail now new → Halts perhaps old why new
      some_breaks new why e h = some_halts new why (device old new (list_reader item) why e (Moves-breaks s.runs h))

      abbrev some_over : is_comma (first now.ahead) ≡ false → Runs old now perhaps (λ r. expect is r >>= λ o. Got s.items)
      some_over c = went closed some_come (list_ends item fine effect step s c)

      pub some_last : (new : Tokens) (why : Halt) → is_comma (first now.ahead) ≡ false → Halts (expect is) now why new → Halts perhaps old why new
      some_last new why c h = halts_then old now new perhaps (expect is) (λ o. Got s.items) why (some_over c) h

      pub some_took : (new : Tokens) (draft2 : Draft) (count : ℕ) → is_comma (first now.ahead) ≡ false → Expected is now new → draft2 ≡ draft → count ≡ min (length s.items) most → TookList perhaps effects steps most start old new draft2 count
      some_took new draft2 count c r e k = record { items = s.items; runs = went (λ o. Got s.items) (some_over c) r.runs; made = e ∙ s.made ∙ sym (same s.items start); count_is = k; single = r.single; leads = λ u ls q. says s.items start u ∙ ap took (s.leads u (r.runs.passed ls) q) ∙ past_expected r ls }

-- the things so far, counted
pub record InCounted {A : Type 0} (item : List A → Reader A) (effect : A → Draft → Draft) (step : A → Draft → Trail → Trail) (most : ℕ) (start : Draft) (old now : Tokens) (draft : Draft) (count : ℕ) : Type 0 where
  pub list : InList item effect step start old now draft
  pub count_is : count ≡ min (length list.items) most

pub counted_one : {A : Type 0} (x : A) (most : ℕ) → (most ≡ 0 → ⊥) → 1 ≡ min (length (x ∷ [])) most
counted_one x most h = omega (arith, h)

pub counted_more : {A : Type 0} (xs : List A) (x : A) (count next most : ℕ) → count ≡ min (length xs) most → next ≡ min (count + 1) most → next ≡ min (length (xs ++ x ∷ [])) most
counted_more xs x count next most h k = omega (arith, length-append xs (x ∷ []), h, k)

pub list_err : {A : Type 0} (reader : Reader (List A)) (effect : List A → Draft → Draft) (step : List A → Draft → Trail → Trail) (most : ℕ) (old : Tokens) (start : Draft) (r : Result ℕ Halt) (new : Tokens) (draft : Draft) (why : Halt) → IsErrAnd r (λ y. y ≡ why) → Halts reader old why new → FindsList reader effect step most old start r new draft
list_err reader effect step most old start (Ok n) new draft why e h = absurd e
list_err reader effect step most old start (Err s) new draft why e h = subst (λ x. Halts reader old x new) (sym e) h

-- a part after which lines are filled in
pub filled_kind : {lead : Trail → Trail} {reader : Identifier → Reader Definition} {old new : Tokens} {start draft : Draft} {k : HeadKind} (noted : Lines) (m : Tokens) → m ≡ with_noted noted new → ((w : Identifier) → TookKind lead (reader w) w start old (with_noted noted new) draft k) → IsSingle new → FindsKind lead reader old start (Ok k) m draft
filled_kind {lead} {reader} {old} {new} {start} {draft} {k} noted m e t l = subst (λ x. FindsKind lead reader old start (Ok k) x draft) (sym e) (t, (noted_loaded noted l.0, l.1))

-- what stands after a name
pub kind_err : (lead : Trail → Trail) (reader : Identifier → Reader Definition) (old : Tokens) (start : Draft) (r : Result HeadKind Halt) (new : Tokens) (draft : Draft) (why : Halt) → IsErrAnd r (λ y. y ≡ why) → ((w : Identifier) → Halts (reader w) old why new) → FindsKind lead reader old start r new draft
kind_err lead reader old start (Ok n) new draft why e h = absurd e
kind_err lead reader old start (Err s) new draft why e h = λ w. subst (λ x. Halts (reader w) old x new) (sym e) (h w)

pub kind_after : (p q : Identifier → Reader Definition) (old mid : Tokens) (start : Draft) (r : Result HeadKind Halt) (new : Tokens) (draft : Draft) (m : (w : Identifier) → Runs old mid (q w) (p w)) → ((w : Identifier) → Leads (λ t. t) took old (m w).passed mid) → FindsKind took p mid start r new draft → FindsKind (λ t. t) q old start r new draft
kind_after p q old mid start (Ok k) new draft m come h = (λ w. let t = h.0 w in record { tree = t.tree; runs = run_then (m w) t.runs; made = t.made; named = t.named; kind_is = t.kind_is; leads = λ u ls q. t.leads u ls (come w u (t.runs.passed ls) q) }, h.1)
kind_after p q old mid start (Err why) new draft m come h = λ w. halts_after old mid new (q w) (p w) why (m w) (h w)

abbrev pub bracket_runs : (old mid : Tokens) → Advances old mid → first old.ahead ≡ token.OpenBracket → (w : Identifier) → Runs old mid (after_name w) (vector w)
bracket_runs old mid a k w = run_past a (λ u e l. ap (λ t. after_name_at w t u) (e ∙ k))

abbrev pub paren_runs : (old mid : Tokens) → Advances old mid → first old.ahead ≡ token.OpenParen → (w : Identifier) → Runs old mid (after_name w) (function w)
paren_runs old mid a k w = run_past a (λ u e l. ap (λ t. after_name_at w t u) (e ∙ k))

simple_at : (w : Identifier) (t : Token) (u : List Placed) → (t ≡ token.OpenBracket → ⊥) → (t ≡ token.OpenParen → ⊥) → after_name_at w t u ≡ valued (Simple w) u
simple_at w token.OpenBracket u a b = absurd (a refl)
simple_at w token.OpenParen u a b = absurd (b refl)
simple_at w _ u a b = refl

-- initial values as a part of a definition
closed_values : (made : List Ival → Definition) (x : Read (List Ival)) → (x >>= λ vs r. expect is_semicolon r >>= λ o. Got (made vs)) ≡ ((x >>= λ vs r. expect is_semicolon r >>= λ o. Got vs) >>= λ vs. Got (made vs))
closed_values made (Got vs r) = go (is_semicolon (first r)) refl
  where
    go : (b : Bool) → is_semicolon (first r) ≡ b → (expect is_semicolon r >>= λ o. Got (made vs)) ≡ ((expect is_semicolon r >>= λ o. Got vs) >>= λ vs. Got (made vs))
    go true k = rw k refl
    go false k = rw k refl
closed_values made (Stop r) = refl

valued_is : (made : List Ival → Definition) (u : List Placed) → valued made u ≡ (initial_value_list u >>= λ vs. Got (made vs))
valued_is made u = go (is_semicolon (first u)) refl
  where
    go : (b : Bool) → is_semicolon (first u) ≡ b → valued made u ≡ (initial_value_list u >>= λ vs. Got (made vs))
    go true k = rw k refl
    go false k = rw k (closed_values made (list_reader ival u))

module _ (old : Tokens) (l : IsLoaded old) (a : first old.ahead ≡ token.OpenBracket → ⊥) (b : first old.ahead ≡ token.OpenParen → ⊥) where
  abbrev simple_runs : (w : Identifier) → Runs old old (after_name w) (λ u. initial_value_list u >>= λ vs. Got (Simple w vs))
  simple_runs w = run_here l (λ u e m. ap (λ t. after_name_at w t u) e ∙ simple_at w (first old.ahead) u a b ∙ valued_is (Simple w) u)

  pub simple_halts : (w : Identifier) (new : Tokens) (why : Halt) → Halts initial_value_list old why new → Halts (after_name w) old why new
  simple_halts w new why h = halts_then old old new (after_name w) initial_value_list (λ vs. Got (Simple w vs)) why (simple_runs w) h

  pub simple_took : (most : ℕ) (start : Draft) (new : Tokens) (draft : Draft) (count : ℕ) → TookList initial_value_list values_done trailed_values most start old new draft count → (place : ℕ) → place ≡ value_place draft → (w : Identifier) → TookKind (λ t. t) (after_name w) w start old (with_noted (filled_to place new.noted) new) draft kind.Simple
  simple_took most start new draft count t place at w = record {
    tree = Simple w t.items;
    runs = noted_moves (filled_to place new.noted) (went (λ vs. Got (Simple w vs)) (simple_runs w) t.runs);
    made = t.made;
    named = refl;
    kind_is = tt;
    leads = λ u ls q. ap (made_to (value_place (values_done t.items start))) (t.leads u ls q) ∙ ap (λ p. trail ls (filled_to p new.noted)) (sym (at ∙ ap value_place t.made));
  }

-- a count that stops at its most
test_as : (c len count words : ℕ) → count ≡ min len 4294967295 → words ≡ max count (c + 1) → nat_lt 32767 words ≡ nat_lt 32767 (max (c + 1) len)
test_as c len count words h k = grind (arith, nat_tests, h, k)

worded_as : (c len count words : ℕ) (d : Draft) → count ≡ min len 4294967295 → words ≡ max count (c + 1) → worded words d ≡ worded (max (c + 1) len) d
worded_as c len count words d h k = ap (λ b. if b then drafts.with_made (λ m. None) d else d) (test_as c len count words h k)

counted_as : (c len count words : ℕ) → count ≡ min len 4294967295 → words ≡ max count (c + 1) → min words 65535 ≡ min (max (c + 1) len) 65535
counted_as c len count words h k = omega (arith, h, k)

-- a vector
module _ (w : Identifier) where
  abbrev bracketed : Option ℕ → Reader Definition
  bracketed n r = expect is_close_bracket r >>= λ o. valued (Vector w n)

  pub vector_first : (old new : Tokens) (why : Halt) → Halts size old why new → Halts (vector w) old why new
  vector_first old new why h = halts_first old new size bracketed why h

  pub vector_then : (old mid new : Tokens) (n : Option ℕ) (why : Halt) → Runs old mid size (λ v. Got n v) → Halts (expect is_close_bracket) mid why new → Halts (vector w) old why new
  vector_then old mid new n why r h = halts_then old mid new (vector w) (expect is_close_bracket) (λ o. valued (Vector w n)) why (began bracketed r) h

  module _ (old mid next : Tokens) (n : Option ℕ) (r : TookSize old n mid) (s : Expected is_close_bracket mid next) where
    abbrev vector_runs : Runs old next (vector w) (λ u. initial_value_list u >>= λ vs. Got (Vector w n vs))
    vector_runs = Moves-as (λ u v. vector w u ≡ (initial_value_list v >>= λ vs. Got (Vector w n vs))) (λ u v x. x ∙ valued_is (Vector w n) v) (went (λ o. valued (Vector w n)) (began bracketed r.runs) s.runs)

    pub vector_last : (new : Tokens) (why : Halt) → Halts initial_value_list next why new → Halts (vector w) old why new
    vector_last new why h = halts_then old next new (vector w) initial_value_list (λ vs. Got (Vector w n vs)) why vector_runs h

    pub vector_took : (start d1 d2 d3 : Draft) (new : Tokens) (count words k place : ℕ) → place ≡ value_place d2 → d1 ≡ start → TookList initial_value_list values_done trailed_values 4294967295 d1 next new d2 count → words ≡ max count (vector_constant n + 1) → d3 ≡ worded words d2 → k ≡ min words 65535 → TookKind took (vector w) w start old (with_noted (filled_to place new.noted) new) d3 (kind.Vector k)
    vector_took start d1 d2 d3 new count words k place at e t x y z = record {
      tree = Vector w n t.items;
      runs = noted_moves (filled_to place new.noted) (went (λ vs. Got (Vector w n vs)) vector_runs t.runs);
      made = y ∙ ap (worded words) (t.made ∙ ap (values_done t.items) e) ∙ worded_as (vector_constant n) (length t.items) count words (values_done t.items start) t.count_is x;
      named = refl;
      kind_is = z ∙ counted_as (vector_constant n) (length t.items) count words t.count_is x;
      leads = λ u ls q.
          let v = took (took_size n (took u)) in
          let size_read : v ≡ trail (t.runs.passed ls) next.noted =
          ap took (r.leads (took u) (s.runs.passed (t.runs.passed ls)) q) ∙ past_expected s (t.runs.passed ls) in
          ap (made_to (value_place (values_done t.items start))) (ap (λ m. trailed_values t.items m v) (sym e) ∙ t.leads v ls size_read)
          ∙ ap (λ p. trail ls (filled_to p new.noted)) (sym (at ∙ ap value_place (t.made ∙ ap (values_done t.items) e)));
    }

-- a function
function_is : (w : Identifier) (u : List Placed) → function w u ≡ (parameters u >>= function_body w)
function_is w u = go (is_close_paren (first u)) refl
  where
    nested : (x : Read (List Identifier)) → (x >>= λ ps r. expect is_close_paren r >>= λ o. function_body w ps) ≡ ((x >>= λ ps r. expect is_close_paren r >>= λ o. Got ps) >>= function_body w)
    nested (Stop r) = refl
    nested (Got ps r) = at (is_close_paren (first r)) refl
      where
        at : (b : Bool) → is_close_paren (first r) ≡ b → (expect is_close_paren r >>= λ o. function_body w ps) ≡ ((expect is_close_paren r >>= λ o. Got ps) >>= function_body w)
        at true k = rw k refl
        at false k = rw k refl

    go : (b : Bool) → is_close_paren (first u) ≡ b → function w u ≡ (parameters u >>= function_body w)
    go true k = rw k refl
    go false k = rw k (nested (list_reader (λ before. name) u))

module _ (w : Identifier) (old mid : Tokens) where
  pub function_first : (why : Halt) → Halts parameters old why mid → Halts (function w) old why mid
  function_first halt.Fault h = (Moves-as (λ u v. function w u ≡ Stop v) (λ u v x. function_is w u ∙ ap (λ y. y >>= function_body w) x) h.0, h.1)
  function_first halt.Device h = h

  module _ (ps : List Identifier) (r : Runs old mid parameters (λ v. Got ps v)) where
    abbrev function_runs : Runs old mid (function w) (λ v. statement MAX_NESTING 0 v >>= λ s. Got (Function w ps s))
    function_runs = Moves-as (λ u v. function w u ≡ function_body w ps v) (λ u v x. function_is w u ∙ ap (λ y. y >>= function_body w) x) r

    pub function_then : (new : Tokens) (why : Halt) → Halts (statement MAX_NESTING 0) mid why new → Halts (function w) old why new
    function_then new why h = halts_then old mid new (function w) (statement MAX_NESTING 0) (λ s. Got (Function w ps s)) why function_runs h

    pub function_took : (start d1 d2 d3 d4 : Draft) (new : Tokens) (count place : ℕ) → place ≡ place_of d4 → Leads (λ t. t) (trailed_parameters ps start) old r.passed mid → d1 ≡ parameters_done ps start → count ≡ min (length ps) 65535 → PartTaken (statement MAX_NESTING 0) done trailed_statement d1 mid new d2 → d3 ≡ emitted (instr.Constant 0) d2 → d4 ≡ emitted instr.Return d3 → TookKind took (function w) w start old (with_noted (filled_to place new.noted) new) d4 (kind.Function count)
    function_took start d1 d2 d3 d4 new count place at l e c t x y =
        let made_is : d4 ≡ definition_done (Function w ps t.tree) start = y ∙ rw (x, t.made, e) refl in
        record {
          tree = Function w ps t.tree;
          runs = noted_moves (filled_to place new.noted) (went (λ s. Got (Function w ps s)) function_runs t.runs);
          made = made_is;
          named = refl;
          kind_is = c;
          leads = λ u ls q.
              let b = parameters_done ps start in
              let v = trailed_parameters ps start (took u) in
              ap (made_to (place_of (definition_done (Function w ps t.tree) start))) (ap (λ m. trailed_statement t.tree m v) (sym e) ∙ t.leads v ls (l (took u) (t.runs.passed ls) q))
              ∙ ap (λ p. trail ls (filled_to p new.noted)) (sym (at ∙ ap place_of made_is));
        }

-- a definition
pub definition_err : (names : List (List ℕ)) (old : Tokens) (r : Result DefinitionHead Halt) (new : Tokens) (draft : Draft) (why : Halt) → IsErrAnd r (λ y. y ≡ why) → Halts definition old why new → FindsDefinition names old r new draft
definition_err names old (Ok n) new draft why e h = absurd e
definition_err names old (Err s) new draft why e h = subst (λ x. Halts definition old x new) (sym e) h

pub definition_first : (old new : Tokens) (why : Halt) → Halts name old why new → Halts definition old why new
definition_first old new why h = halts_first old new name after_name why h

pub definition_then : (old mid m new : Tokens) (w : Identifier) (why : Halt) → Runs old mid name (λ v. Got w v) → m ≡ with_noted no_lines mid → Halts (after_name w) m why new → Halts definition old why new
definition_then old mid m new w why r e h = halts_after old (with_noted no_lines mid) new definition (after_name w) why (noted_moves no_lines (run_bind after_name r)) (subst (λ t. Halts (after_name w) t why new) e h)

pub definition_took : (names : List (List ℕ)) (old mid m new : Tokens) (w : take.Word) (place : ℕ) (d1 draft : Draft) (k : HeadKind) → TookName place old w mid → m ≡ with_noted no_lines mid → d1 ≡ started names (record { text = w.name; line = w.line }) → TookKind (λ t. t) (after_name (record { text = w.name; line = w.line })) (record { text = w.name; line = w.line }) d1 m new draft k → IsSingle new → TookDefinition names old (record { name = w.name; line = w.line; kind = k }) new draft
definition_took names old mid m new w place d1 draft k r c e h l =
    let x : Identifier = record { text = w.name; line = w.line } in
    let t = subst (λ y. TookKind (λ t. t) (after_name x) x d1 y new draft k) c h in
    record {
      tree = t.tree;
      moves = run_then (noted_moves no_lines (run_bind after_name r.runs)) t.runs;
      heads = record { name = sym (ap (λ (y : Identifier). y.text) t.named); line = sym (ap (λ (y : Identifier). y.line) t.named); kind = t.kind_is };
      made = t.made ∙ ap (definition_done t.tree) (e ∙ ap (started names) (sym t.named));
      falls = let a = t.runs.falls in omega (arith, r.falls);
      loaded = l.0;
      single = l;
      notes = λ ls.
          let u = took (trail (r.runs.passed (t.runs.passed ls)) no_lines) in
          ap (λ d. trailed_definition t.tree d u) (ap (started names) t.named ∙ sym e) ∙ t.leads u ls (one_past old no_lines r.one (t.runs.passed ls));
    }
