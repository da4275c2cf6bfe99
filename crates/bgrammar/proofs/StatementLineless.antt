-- Lines decide nothing in statements and definitions.
use Rattle.std.proofs.Common.{◌≡◌, ℕ, zero, suc, ◌+◌, List, [], ◌∷◌, map, ap, ◌∙◌, refl, subst, arith, Option, Some, None}
use Rattle.blang.specs.declared.token.Token.{Token}
use Rattle.blang.specs.declared.token.Token.TheVariants as token
use Rattle.blang.specs.declared.token.Keyword.TheVariants as keyword
use Rattle.blang.specs.declared.limits.TheConstants.{MAX_NESTING}
use Rattle.blang.specs.Trees.{bare, Identifier, Expr, Declared, name_token, Heading, Auto, Extrn, Label, Case, Default, Stmt, Headed, Compound, IfElse, While, Switch, Goto, Break, Return, ReturnValue, Evaluate, Empty, Nothing, More, Ival, Definition, Simple, Vector, Function}
use Rattle.blang.specs.Walk.{walk_list, walk_declared, walk_import}
use Rattle.bgrammar.specs.Fitting.{words, statement_words, body_words, ival_words, values_words}
use Rattle.bgrammar.specs.Reading.{Got, Reader, ◌>>=◌, first, line_ahead, after}
use Rattle.bgrammar.specs.ExpressionReader.{is_close_paren, is_close_bracket, Rvalue}
use Rattle.bgrammar.specs.Commas.{list_reader}
use Rattle.bgrammar.specs.StatementReader.{is_open_paren, is_semicolon, is_else, name_at, name, constant_at, constant, size_at, size, declared, Headings, headed, Lead, no_lead, with_heading, Step, Declares, Imports, Selects, Defaults, Mentions, Labels, step_at, lead_step, lead_turn, lead, goes_on, Level, else_part, one_more, ended, stmt_at, stmt_after, stmt_with, level, statement}
use Rattle.bgrammar.specs.DefinitionReader.{ival_at, ival, valued, vector, function_body, function, after_name_at, after_name, definition}
use Rattle.bgrammar.proofs.WalkLaws.{plain_words, list_plain, size_plain}
use Rattle.bgrammar.proofs.Fitting.{heading_words, one_value}
use Rattle.bgrammar.proofs.Forms.{Thing, Value, Inner, Body, Declarations, Names, A_constant, words_of, read, Part, Fields, read_parts, flat, block_parts, tested_parts, switch_parts, value_parts, paid_parts, end_parts, declaration_parts, import_parts, case_parts, default_parts}
use Rattle.bgrammar.proofs.FormLaws.{FieldsAlike, parts_lineless}
use Rattle.bgrammar.proofs.Lineless.{after_alike, Lineless, Any, bind_lineless, weaker, map_lineless, after_lineless, if_lineless, expect_lineless, at_first, MaybeAlike, loop_lineless, many_lineless, list_lineless, SameWords, reader_lineless}

name_lineless : Lineless Any name name
name_lineless = at_first Any name_at name_at at
  where
    at : (t : Token) → Lineless Any (name_at t) (name_at t)
    at (token.Name x) ts us e = (tt, after_alike ts us e)
    at _ ts us e = e

size_lineless : Lineless Any size size
size_lineless = at_first Any size_at size_at at
  where
    at : (t : Token) → Lineless Any (size_at t) (size_at t)
    at (token.Number n) ts us e = (tt, after_alike ts us e)
    at _ ts us e = (tt, e)

constant_lineless : Lineless Any constant constant
constant_lineless = at_first Any constant_at constant_at at
  where
    at : (t : Token) → Lineless Any (constant_at t) (constant_at t)
    at (token.Number n) ts us e = (tt, after_alike ts us e)
    at (token.Character n) ts us e = (tt, after_alike ts us e)
    at _ ts us e = e

declared_lineless : Lineless Any declared declared
declared_lineless = bind_lineless Any Any name name _ _ name_lineless (λ w v o. map_lineless Any Any size size (λ n. record { word = w; size = n }) (λ n. record { word = v; size = n }) size_lineless (λ n m o. tt))

names_lineless : Lineless Any (list_reader (λ before. name)) (list_reader (λ before. name))
names_lineless = list_lineless Any Any (λ before. name) (λ xs ys o. name_lineless) tt (λ xs ys x y o p. tt)

no_declared_words : (ds : List Declared) → words_of Declarations ds ≡ 0
no_declared_words ds = plain_words (walk_list walk_declared ds) (list_plain walk_declared (λ d. ((tt, tt), size_plain d.size)) ds)

no_name_words : (ws : List Identifier) → words_of Names ws ≡ 0
no_name_words ws = plain_words (walk_list walk_import ws) (list_plain walk_import (λ w. (tt, tt)) ws)

abbrev SameStatements : Stmt → Stmt → Type 0
SameStatements s t = statement_words s ≡ statement_words t

record LinelessLevel (level : Level) : Type 0 where
  enter : Lineless (λ o p. Unit {0}) level.enter level.enter
  expr : (off : ℕ) → Lineless SameWords (level.expr off) (level.expr off)
  stmt : (off : ℕ) → Lineless SameStatements (level.stmt off) (level.stmt off)

module _ (level : Level) (h : LinelessLevel level) where
  stmt_at_offset : (off off2 : ℕ) → off ≡ off2 → Lineless SameStatements (level.stmt off) (level.stmt off2)
  stmt_at_offset off off2 e = subst (λ n. Lineless SameStatements (level.stmt off) (level.stmt n)) e (h.stmt off)

  things_lineless : (j : Thing) (off : ℕ) → Lineless (λ a b. words_of j a ≡ words_of j b) (read level j off) (read level j off)
  things_lineless Value off = weaker SameWords _ (level.expr off) (level.expr off) (λ e f r. r.0) (h.expr off)
  things_lineless Inner off = h.stmt off
  things_lineless Body off =
      many_lineless (λ xs ys. body_words xs ≡ body_words ys) goes_on (one_more level off)
      (λ o xs ys l. map_lineless SameStatements _ (level.stmt (off + body_words xs)) (level.stmt (off + body_words ys)) (λ s. More xs s) (λ s. More ys s) (stmt_at_offset (off + body_words xs) (off + body_words ys) (ap (λ n. off + n) l)) (λ s t w. omega (arith, l, w))) Nothing Nothing refl
  things_lineless Declarations off = weaker Any _ (read level Declarations off) (read level Declarations off) (λ ds es o. omega (arith, no_declared_words ds, no_declared_words es)) (list_lineless Any Any (λ before. declared) (λ xs ys o. declared_lineless) tt (λ xs ys x y o p. tt))
  things_lineless Names off = weaker Any _ (read level Names off) (read level Names off) (λ ws vs o. omega (arith, no_name_words ws, no_name_words vs)) names_lineless
  things_lineless A_constant off = weaker Any _ constant constant (λ c d o. refl) constant_lineless

flat_level : (room : ℕ) → LinelessLevel (flat room)
flat_level room = record {
  enter = λ ts us e. e;
  expr = λ off. reader_lineless room Rvalue off;
  stmt = λ off. expect_lineless SameStatements is_semicolon (Got Empty) (Got Empty) (λ ts us e. (refl, e));
}

-- a row without statements
flat_lineless : {B : Type 0} (R : B → B → Type 0) (room off : ℕ) (ps : List Part) (made made2 : Fields ps → B) → ((x y : Fields ps) → FieldsAlike (flat room) ps x y → R (made x) (made2 y)) → Lineless R (read_parts (flat room) ps off (λ x. Got (made x))) (read_parts (flat room) ps off (λ x. Got (made2 x)))
flat_lineless R room off ps made made2 h = parts_lineless (flat room) R (things_lineless (flat room) (flat_level room)) ps off off refl (λ x. Got (made x)) (λ x. Got (made2 x)) (λ x y a ts us e. (h x y a, e))

-- what was taken before a statement
abbrev WordAlike : Option Identifier → Option Identifier → Type 0
WordAlike None None = Unit {0}
WordAlike (Some w) (Some v) = w.text ≡ v.text
WordAlike _ _ = ⊥

abbrev HeadingsAlike : Headings → Headings → Type 0
HeadingsAlike hs gs = (s t : Stmt) → SameStatements s t → SameStatements (headed hs s) (headed gs t)

abbrev LeadAlike : Lead → Lead → Type 0
LeadAlike l k = HeadingsAlike l.headings k.headings × WordAlike l.word k.word

abbrev StepAlike : Step → Step → Type 0
StepAlike Declares Declares = Unit {0}
StepAlike Imports Imports = Unit {0}
StepAlike Selects Selects = Unit {0}
StepAlike Defaults Defaults = Unit {0}
StepAlike (Mentions x) (Mentions y) = x ≡ y
StepAlike (Labels w) (Labels v) = Unit {0}
StepAlike _ _ = ⊥

step_alike : (o p : Option Identifier) → WordAlike o p → (t : Token) → MaybeAlike StepAlike (step_at o t) (step_at p t)
step_alike None None h (token.Name x) = refl
step_alike None None h (token.Keyword keyword.Auto) = tt
step_alike None None h _ = tt
step_alike (Some w) (Some v) h token.Colon = tt
step_alike (Some w) (Some v) h _ = tt
step_alike None (Some v) h t = absurd h
step_alike (Some w) None h t = absurd h

module _ (l k : Lead) (r : LeadAlike l k) where
  one_heading_more : (h g : Heading) → LeadAlike (with_heading l h) (with_heading k g)
  one_heading_more h g = ((λ s t e. r.0 (Headed h s) (Headed g t) (omega (arith, e, heading_words h, heading_words g))), tt)

  heading_lineless : (ps : List Part) (made made2 : Fields ps → Heading) → Lineless LeadAlike (λ ts. read_parts (flat 0) ps 0 (λ x. Got (with_heading l (made x))) (after ts)) (λ ts. read_parts (flat 0) ps 0 (λ x. Got (with_heading k (made2 x))) (after ts))
  heading_lineless ps made made2 = after_lineless LeadAlike _ _ (flat_lineless LeadAlike 0 0 ps (λ x. with_heading l (made x)) (λ x. with_heading k (made2 x)) (λ x y a. one_heading_more (made x) (made2 y)))

  turn_lineless : (x y : Step) → StepAlike x y → Lineless LeadAlike (lead_turn x l) (lead_turn y k)
  turn_lineless Declares Declares h = heading_lineless declaration_parts (λ x. Auto x.0) (λ x. Auto x.0)
  turn_lineless Imports Imports h = heading_lineless import_parts (λ x. Extrn x.0) (λ x. Extrn x.0)
  turn_lineless Selects Selects h = λ ts us. heading_lineless case_parts (λ x. Case (line_ahead ts) x.0) (λ x. Case (line_ahead us) x.0) ts us
  turn_lineless Defaults Defaults h = λ ts us. heading_lineless default_parts (λ x. Default (line_ahead ts)) (λ x. Default (line_ahead us)) ts us
  turn_lineless (Mentions x) (Mentions y) h = λ ts us e. ((r.0, h), after_alike ts us e)
  turn_lineless (Labels w) (Labels v) h = λ ts us e. (one_heading_more (Label w) (Label v), after_alike ts us e)
  turn_lineless _ _ h = absurd h

lead_lineless : Lineless LeadAlike lead lead
lead_lineless = loop_lineless LeadAlike StepAlike lead_step lead_turn (λ l k r t. step_alike l.word k.word r.1 t) (λ x y l k h r. turn_lineless l k r x y h) no_lead no_lead ((λ s t e. e), tt)

module _ (room : ℕ) (level : Level) (h : LinelessLevel level) where
  -- a row that opens a level
  entered : (ps : List Part) (off : ℕ) (made : Fields ps → Reader Stmt) → ((x y : Fields ps) → FieldsAlike level ps x y → Lineless SameStatements (made x) (made y)) → Lineless SameStatements (λ ts. level.enter ts >>= λ o. read_parts level ps off made) (λ ts. level.enter ts >>= λ o. read_parts level ps off made)
  entered ps off made hm = bind_lineless Any SameStatements level.enter level.enter _ _ h.enter (λ o p r. parts_lineless level SameStatements (things_lineless level h) ps off off refl made made hm)

  else_lineless : (off : ℕ) (x y : Fields tested_parts) → FieldsAlike level tested_parts x y → Lineless SameStatements (else_part level off x.0 x.1.0) (else_part level off y.0 y.1.0)
  else_lineless off x y a = if_lineless SameStatements is_else _ _ _ _
      (after_lineless SameStatements _ _ (map_lineless SameStatements SameStatements (level.stmt (off + words x.0 + statement_words x.1.0)) (level.stmt (off + words y.0 + statement_words y.1.0)) (λ t. IfElse x.0 x.1.0 t) (λ t. IfElse y.0 y.1.0 t) (stmt_at_offset level h (off + words x.0 + statement_words x.1.0) (off + words y.0 + statement_words y.1.0) (omega (arith, a.0, a.1.0))) (λ s t w. omega (arith, a.0, a.1.0, w))))
      (λ ts us e. (omega (arith, a.0, a.1.0), e))

  ended_lineless : (off : ℕ) (made : Expr → Stmt) → ((e f : Expr) → words e ≡ words f → SameStatements (made e) (made f)) → Lineless SameStatements (ended room off made) (ended room off made)
  ended_lineless off made w = flat_lineless SameStatements room off value_parts (λ x. made x.0) (λ x. made x.0) (λ x y a. w x.0 y.0 a.0)

  evaluated : (off : ℕ) → Lineless SameStatements (ended room off Evaluate) (ended room off Evaluate)
  evaluated off = ended_lineless off Evaluate (λ e f w. omega (arith, w))

  stmt_lineless : (off : ℕ) (t : Token) → Lineless SameStatements (stmt_at room level off t) (stmt_at room level off t)
  stmt_lineless off token.OpenBrace = entered block_parts off (λ x. Got (Compound x.0)) (λ x y a ts us e. (omega (arith, a.0), e))
  stmt_lineless off (token.Keyword keyword.If) = entered tested_parts off (λ x. else_part level off x.0 x.1.0) (else_lineless off)
  stmt_lineless off (token.Keyword keyword.While) = entered tested_parts off (λ x. Got (While x.0 x.1.0)) (λ x y a ts us e. (omega (arith, a.0, a.1.0), e))
  stmt_lineless off (token.Keyword keyword.Switch) = entered switch_parts off (λ x. Got (Switch x.0 x.1.0)) (λ x y a ts us e. (omega (arith, a.0, a.1.0), e))
  stmt_lineless off (token.Keyword keyword.Goto) = after_lineless SameStatements _ _ (ended_lineless off Goto (λ e f w. omega (arith, w)))
  stmt_lineless off (token.Keyword keyword.Break) = λ ts us. after_lineless SameStatements _ _ (flat_lineless SameStatements room off end_parts (λ x. Break (line_ahead ts)) (λ x. Break (line_ahead us)) (λ x y a. refl)) ts us
  stmt_lineless off (token.Keyword keyword.Return) = after_lineless SameStatements _ _ (if_lineless SameStatements is_open_paren _ _ _ _
      (after_lineless SameStatements _ _ (flat_lineless SameStatements room off paid_parts (λ x. ReturnValue x.0) (λ x. ReturnValue x.0) (λ x y a. omega (arith, a.0))))
      (flat_lineless SameStatements room off end_parts (λ x. Return) (λ x. Return) (λ x y a. refl)))
  stmt_lineless off token.Semicolon = λ ts us e. (refl, after_alike ts us e)
  stmt_lineless off _ = evaluated off

  after_lead : (off : ℕ) (o p : Option Identifier) → WordAlike o p → Lineless SameStatements (stmt_after room level off o) (stmt_after room level off p)
  after_lead off None None w = at_first SameStatements (stmt_at room level off) (stmt_at room level off) (stmt_lineless off)
  after_lead off (Some w) (Some v) same = λ ts us e. evaluated off (name_token w ∷ ts) (name_token v ∷ us) (ap (λ x. token.Name x ∷ map bare ts) same ∙ ap (λ l. token.Name v.text ∷ l) e)
  after_lead off None (Some v) w = absurd w
  after_lead off (Some w) None v = absurd v

  with_lineless : (off : ℕ) → Lineless SameStatements (stmt_with room level off) (stmt_with room level off)
  with_lineless off = bind_lineless LeadAlike SameStatements lead lead _ _ lead_lineless (λ l k r. map_lineless SameStatements SameStatements (stmt_after room level off l.word) (stmt_after room level off k.word) (headed l.headings) (headed k.headings) (after_lead off l.word k.word r.1) r.0)

level_lineless : (room : ℕ) → LinelessLevel (level room)
level_lineless zero = record { enter = λ ts us e. e; expr = λ off ts us e. e; stmt = λ off ts us e. e }
level_lineless (suc room) = record { enter = λ ts us e. (tt, after_alike ts us e); expr = λ off. reader_lineless room Rvalue off; stmt = λ off. with_lineless room (level room) (level_lineless room) off }

statement_lineless : (room off : ℕ) → Lineless SameStatements (statement room off) (statement room off)
statement_lineless room off = with_lineless room (level room) (level_lineless room) off

-- definitions
abbrev SameValues : List Ival → List Ival → Type 0
SameValues vs ws = values_words vs ≡ values_words ws

ival_lineless : (vs ws : List Ival) → SameValues vs ws → Lineless (λ v w. ival_words v ≡ ival_words w) (ival vs) (ival ws)
ival_lineless vs ws same = subst (λ n. Lineless (λ v w. ival_words v ≡ ival_words w) (ival vs) (λ ts. ival_at n (first ts) ts)) same (at_first (λ v w. ival_words v ≡ ival_words w) (ival_at (values_words vs)) (ival_at (values_words vs)) (at (values_words vs)))
  where
    at : (off : ℕ) (t : Token) → Lineless (λ v w. ival_words v ≡ ival_words w) (ival_at off t) (ival_at off t)
    at off (token.Number n) ts us e = (refl, after_alike ts us e)
    at off (token.Character n) ts us e = (refl, after_alike ts us e)
    at off (token.String s) ts us e = (refl, after_alike ts us e)
    at off (token.Name x) ts us e = (refl, after_alike ts us e)
    at off _ ts us e = e

valued_lineless : (made made2 : List Ival → Definition) → Lineless Any (valued made) (valued made2)
valued_lineless made made2 = if_lineless Any is_semicolon _ _ _ _ (λ ts us e. (tt, after_alike ts us e))
    (bind_lineless SameValues Any (list_reader ival) (list_reader ival) _ _ (list_lineless (λ v w. ival_words v ≡ ival_words w) SameValues ival ival_lineless refl (λ vs ws v w l r. omega (arith, l, r, one_value vs v, one_value ws w)))
    (λ vs ws l. expect_lineless Any is_semicolon (Got (made vs)) (Got (made2 ws)) (λ ts us e. (tt, e))))

body_lineless : (w v : Identifier) (ws vs : List Identifier) → Lineless Any (function_body w ws) (function_body v vs)
body_lineless w v ws vs = map_lineless SameStatements Any (statement MAX_NESTING 0) (statement MAX_NESTING 0) (λ s. Function w ws s) (λ s. Function v vs s) (statement_lineless MAX_NESTING 0) (λ s t r. tt)

after_name_lineless : (w v : Identifier) (t : Token) → Lineless Any (after_name_at w t) (after_name_at v t)
after_name_lineless w v token.OpenBracket = after_lineless Any (vector w) (vector v) (bind_lineless Any Any size size _ _ size_lineless (λ n m o. expect_lineless Any is_close_bracket _ _ (valued_lineless (Vector w n) (Vector v m))))
after_name_lineless w v token.OpenParen = after_lineless Any (function w) (function v) (if_lineless Any is_close_paren _ _ _ _ (after_lineless Any (function_body w []) (function_body v []) (body_lineless w v [] []))
    (bind_lineless Any Any (list_reader (λ before. name)) (list_reader (λ before. name)) _ _ names_lineless (λ ws vs o. expect_lineless Any is_close_paren _ _ (body_lineless w v ws vs))))
after_name_lineless w v _ = valued_lineless (Simple w) (Simple v)

pub definition_lineless : Lineless Any definition definition
definition_lineless = bind_lineless Any Any name name after_name after_name name_lineless (λ w v o. at_first Any (after_name_at w) (after_name_at v) (after_name_lineless w v))
