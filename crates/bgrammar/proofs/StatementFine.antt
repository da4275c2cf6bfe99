-- Each reader of statements reads on from what it has, and can be ended from wherever it stops.
use Rattle.std.proofs.Common.{◌≡◌, ℕ, zero, suc, ◌+◌, ◌<◌, ◌≤◌, List, [], ◌∷◌, ◌++◌, length, length-append, Bool, true, false, sym, ap, ◌∙◌, refl, subst, inl, inr, Option, Some, None, arith}
use Rattle.blang.specs.declared.token.Token.{Token}
use Rattle.blang.specs.declared.token.Token.TheVariants as token
use Rattle.blang.specs.declared.token.Keyword.TheVariants as keyword
use Rattle.blang.specs.declared.token.Placed.{Placed}
use Rattle.blang.specs.Trees.{mark, kept_tokens, Identifier, Number, Character, Expr, Named, name_token, Heading, Auto, Extrn, Label, Case, Default, Stmt, Headed, Compound, If, IfElse, While, Switch, Goto, Break, Return, ReturnValue, Evaluate, Empty, Stmts, Nothing, More}
use Rattle.bgrammar.specs.Spelling.{spell_statement}
use Rattle.bgrammar.specs.Fitting.{words, statement_words, body_words, Sits}
use Rattle.bgrammar.specs.Reading.{Read, Got, Stop, Reader, ◌>>=◌, first, expect, many}
use Rattle.bgrammar.specs.ExpressionReader.{comma, always, Rvalue, reader}
pub use Rattle.bgrammar.specs.ReadingOn.{closes, Closer}
use Rattle.bgrammar.specs.Commas.{comma_item}
use Rattle.blang.specs.Walk.{walk_heading, walk_statement}
use Rattle.bgrammar.specs.StatementReader.{is_open_paren, is_semicolon, is_else, name, constant, size_at, size, declared, headed, Lead, no_lead, with_heading, Step, Declares, Imports, Selects, Defaults, Mentions, Labels, step_at, lead_step, lead_turn, lead, goes_on, Level, else_part, one_more, ended, returned, stmt_at, stmt_after, stmt_with, level, statement}
use Rattle.bgrammar.proofs.Fine.{Near, Any, Fine, Closing, Start, startable, bind_taking, then_fine, shift, idle, stuck, same_eats, narrower, got_fine, got_start, map_fine, expect_then, expect_takes, closed_fine, closed_eats, Opened, enters, Loop, opened_loop, runs, many_none, many_fine}
use Rattle.bgrammar.proofs.ExpressionFine.{one, one_tree, reader_fine, reader_one, from_name_fine, from_name_one}
use Rattle.bgrammar.proofs.ExpressionFine as E
use Rattle.bgrammar.proofs.ExpressionAgain.{expr_opens, opens}
use Rattle.bgrammar.proofs.CommaLaws.{list_fine}
use Rattle.bgrammar.proofs.KeptLemmas.{kept-length}
use Rattle.bgrammar.proofs.StatementSound.{Spelled, flat_told, level_told, stmt_told, statement_sound}
use Rattle.bgrammar.proofs.Forms.{Thing, Value, Inner, Body, Declarations, Names, A_constant, Part, Fields, onto, onto_is, read_parts, flat, block_parts, tested_parts, switch_parts, value_parts, paid_parts, end_parts, declaration_parts, import_parts, case_parts, default_parts}
use Rattle.bgrammar.proofs.FormLaws.{Elseless, FineThing, Follow, fine_parts}

abbrev pub closing : Closing
closing = record { Is = Closer; at_end = refl }

abbrev elseless : Closing
elseless = record { Is = Elseless; at_end = refl }

-- a token that ends what stands before a statement
abbrev pub begins_last : Token → Bool
begins_last token.Semicolon = true
begins_last token.CloseBrace = true
begins_last token.End = true
begins_last _ = false

abbrev pub Last : Token → Type 0
Last t = begins_last t ≡ true

abbrev pub lasting : Closing
lasting = record { Is = Last; at_end = refl }

-- what holds of the two closers
pub at_closers : (P : Token → Type 0) → P token.CloseBrace → P token.End → (t : Token) → Closer t → P t
at_closers P brace end token.CloseBrace h = brace
at_closers P brace end token.End h = end
at_closers P brace end _ h = cc

pub safer : (t : Token) → Closer t → E.Closer t
safer = at_closers E.Closer refl refl

no_else : (t : Token) → Closer t → Elseless t
no_else = at_closers Elseless refl refl

-- a name, a constant, a declared name
abbrev pub some_word : Identifier
some_word = record { text = 97 ∷ []; line = 0 }

name_fine_at : (t : Token) (ts : List Placed) → first ts ≡ t → Fine E.Closer name ts
name_fine_at (token.Name x) (t ∷ ts) e = shift E.closing name (λ y. Got (record { text = x; line = t.line }) y) t (λ y. rw e refl) ts (got_fine E.closing (record { text = x; line = t.line }) ts)
name_fine_at (token.Name x) [] e = cc
name_fine_at _ ts e = stuck E.closing name ts (λ new n. rw (n ∙ e) refl) (record { with_ = name_token some_word ∷ []; value = some_word; done = λ k h. refl; front = λ k h. tt })

pub name_fine : (ts : List Placed) → Fine E.Closer name ts
name_fine ts = name_fine_at (first ts) ts refl

constant_fine_at : (t : Token) (ts : List Placed) → first ts ≡ t → Fine E.Closer constant ts
constant_fine_at (token.Number x) (t ∷ ts) e = shift E.closing constant (λ y. Got (Number x) y) t (λ y. rw e refl) ts (got_fine E.closing (Number x) ts)
constant_fine_at (token.Number x) [] e = cc
constant_fine_at (token.Character x) (t ∷ ts) e = shift E.closing constant (λ y. Got (Character x) y) t (λ y. rw e refl) ts (got_fine E.closing (Character x) ts)
constant_fine_at (token.Character x) [] e = cc
constant_fine_at _ ts e = stuck E.closing constant ts (λ new n. rw (n ∙ e) refl) (record { with_ = one ∷ []; value = Number 1; done = λ k h. refl; front = λ k h. tt })

pub no_size : (t : Token) → E.Closer t → (ts : List Placed) → size_at t ts ≡ Got None ts
no_size (token.Number n) h ts = cc
no_size _ h ts = refl

pub size_fine_at : (t : Token) (ts : List Placed) → first ts ≡ t → Fine E.Closer size ts
size_fine_at (token.Number x) (t ∷ ts) e = shift E.closing size (λ y. Got (Some x) y) t (λ y. rw e refl) ts (got_fine E.closing (Some x) ts)
size_fine_at (token.Number x) [] e = cc
size_fine_at t ts e = idle E.closing size ts None near
  where
    near : (new : List Placed) → Near E.Closer ts new → size new ≡ Got None new
    near new (inl n) = rw (n ∙ e) refl
    near new (inr n) = no_size (first new) n new

pub declared_fine : (ts : List Placed) → Fine E.Closer declared ts
declared_fine ts = then_fine E.closing name (λ w r. size r >>= λ n. Got (record { word = w; size = n })) (λ w. record { with_ = []; value = record { word = w; size = None }; done = λ k h. ap (λ x. x >>= λ n. Got (record { word = w; size = n })) (no_size (first k) h k); front = λ k h. h }) ts (name_fine ts) (λ w r. map_fine E.closing size (λ n. record { word = w; size = n }) r (size_fine_at (first r) r refl))

-- what stands before a statement
no_step : (o : Option Identifier) (t : Token) → Last t → step_at o t ≡ None
no_step None token.Semicolon h = refl
no_step (Some w) token.Semicolon h = refl
no_step None token.CloseBrace h = refl
no_step (Some w) token.CloseBrace h = refl
no_step None token.End h = refl
no_step (Some w) token.End h = refl
no_step o _ h = cc

-- the things at a level
pub record Good (level : Level) : Type 0 where
  pub expr_fine : (off : ℕ) (ts : List Placed) → Fine E.Closer (level.expr off) ts
  pub expr_one : (off : ℕ) (k : List Placed) → E.Closer (first k) → level.expr off (one ∷ k) ≡ Got one_tree k
  pub stmt_fine : (off : ℕ) (ts : List Placed) → Fine Elseless (level.stmt off) ts
  pub stmt_one : (off : ℕ) (k : List Placed) → level.stmt off (mark token.Semicolon ∷ k) ≡ Got Empty k
  pub stmt_takes : (off : ℕ) (ts r : List Placed) (s : Stmt) → level.stmt off ts ≡ Got s r → length r < length ts

goes_to_end : (t : Token) → Closer t → goes_on t ≡ None
goes_to_end = at_closers (λ t. goes_on t ≡ None) refl refl

no_comma : (t : Token) → E.Closer t → comma t ≡ None
no_comma token.Comma h = cc
no_comma _ h = refl

module _ (level : Level) (good : Good level) where
  pub body_loop : (off : ℕ) → Loop closing (always goes_on) (one_more level off)
  body_loop off = record { closed = λ a t h. goes_to_end t h; takes = λ b a a2 ts r h e. take a a2 ts r (level.stmt (off + body_words a) ts) refl e; turn = λ b a ts h. runs (map_fine closing (level.stmt (off + body_words a)) (λ s. More a s) ts (narrower closing Elseless no_else (good.stmt_fine (off + body_words a) ts))) }
    where
      take : (a a2 : Stmts) (ts r : List Placed) (x : Read Stmt) → level.stmt (off + body_words a) ts ≡ x → (x >>= λ s. Got (More a s)) ≡ Got a2 r → length r < length ts
      take a a2 ts r (Got s r2) eq e = let q : r2 ≡ r = cc in omega (arith, good.stmt_takes (off + body_words a) ts r2 s eq, ap length q)
      take a a2 ts r (Stop r2) eq e = cc

  fine_things : (j : Thing) → FineThing level j
  fine_things Value = record { fine = good.expr_fine; with_ = one ∷ []; least = one_tree; done = good.expr_one }
  fine_things Inner = record { fine = good.stmt_fine; with_ = mark token.Semicolon ∷ []; least = Empty; done = λ off u h. good.stmt_one off u }
  fine_things Body = record { fine = λ off ts. many_fine closing (always goes_on) (one_more level off) (body_loop off) Nothing ts; with_ = []; least = Nothing; done = λ off u h. many_none (always goes_on) (one_more level off) Nothing u (goes_to_end (first u) h) }
  fine_things Declarations = record {
    fine = λ off ts. list_fine (λ before. declared) (λ before. declared_fine) ts;
    with_ = name_token some_word ∷ [];
    least = record { word = some_word; size = None } ∷ [];
    done = λ off u h. ap (λ x. (x >>= λ n. Got (record { word = some_word; size = n })) >>= λ d. many (always comma) (comma_item (λ before. declared)) (d ∷ [])) (no_size (first u) h u) ∙ many_none (always comma) (comma_item (λ before. declared)) (record { word = some_word; size = None } ∷ []) u (no_comma (first u) h);
  }
  fine_things Names = record { fine = λ off ts. list_fine (λ before. name) (λ before. name_fine) ts; with_ = name_token some_word ∷ []; least = some_word ∷ []; done = λ off u h. many_none (always comma) (comma_item (λ before. name)) (some_word ∷ []) u (no_comma (first u) h) }
  fine_things A_constant = record { fine = λ off ts. constant_fine_at (first ts) ts refl; with_ = one ∷ []; least = Number 1; done = λ off u h. refl }

-- a token with which a statement begins
abbrev pub starts : Token → Bool
starts (token.Keyword keyword.Else) = false
starts (token.Keyword k) = true
starts token.OpenBrace = true
starts token.Semicolon = true
starts t = opens t

opens_starts : (t : Token) → opens t ≡ true → starts t ≡ true
opens_starts (token.Keyword k) h = cc
opens_starts token.OpenBrace h = cc
opens_starts token.Semicolon h = cc
opens_starts t h = h

heading_starts : (h : Heading) (rest : List Placed) → starts (first (onto (walk_heading h) rest)) ≡ true
heading_starts (Label w) rest = refl
heading_starts _ rest = refl

pub statement_starts : (s : Stmt) (rest : List Placed) → starts (first (onto (walk_statement s) rest)) ≡ true
statement_starts (Headed h s) rest = heading_starts h (onto (walk_statement s) rest)
statement_starts (Evaluate e) rest = opens_starts _ (expr_opens e (mark token.Semicolon ∷ rest))
statement_starts _ rest = refl

spelled : (ts : List Placed) → starts (first (ts ++ [])) ≡ true → 1 ≤ length ts
spelled [] h = cc
spelled (t ∷ ts) h = omega arith

pub statement_spelled : (s : Stmt) → 1 ≤ length (spell_statement s)
statement_spelled s = spelled (spell_statement s) (ap (λ l. starts (first l)) (sym (onto_is (walk_statement s) [])) ∙ statement_starts s [])

takes : (P : Stmt → Type 0) (ts r : List Placed) (s : Stmt) (x : Read Stmt) → Spelled P (kept_tokens ts) x → x ≡ Got s r → length r < length ts
takes P ts r s x p h = let q = subst (Spelled P (kept_tokens ts)) h p in omega (arith, ap length q.0, kept-length ts, kept-length r, length-append (spell_statement s) (kept_tokens r), statement_spelled s)

-- rows without statements
flat_good : (room : ℕ) → Good (flat room)
flat_good room = record {
  expr_fine = λ off ts. reader_fine room Rvalue off ts;
  expr_one = λ off k h. reader_one room Rvalue off k h;
  stmt_fine = λ off ts. expect_then elseless is_semicolon token.Semicolon refl refl (λ x. Got Empty x) (startable elseless (λ x. Got Empty x) (got_start elseless Empty)) (got_fine elseless Empty) ts;
  stmt_one = λ off k. refl;
  stmt_takes = λ off ts r s h. takes (λ s. Sits s room off) ts r s _ (flat_told room Inner off ts) h;
}

flat_fine : {B : Type 0} (C : Closing) (room : ℕ) (ps : List Part) (off : ℕ) (made : Fields ps → B) → Follow C ps → (ts : List Placed) → Fine C.Is (read_parts (flat room) ps off (λ x. Got (made x))) ts
flat_fine C room ps off made f ts = fine_parts C (flat room) (fine_things (flat room) (flat_good room)) ps off (λ x. Got (made x)) f (λ x. got_start C (made x)) (λ x r. got_fine C (made x) r) ts

-- headings
heading_opened : (ps : List Part) (made : Fields ps → Lead) (turn : Reader Lead) (t : Placed) → ((ts : List Placed) → turn (t ∷ ts) ≡ read_parts (flat 0) ps 0 (λ x. Got (made x)) ts) → Follow lasting ps → Opened lasting turn t
heading_opened ps made turn t agree f = enters (read_parts (flat 0) ps 0 (λ x. Got (made x))) agree (flat_fine lasting 0 ps 0 made f)

lead_opened : (b : Step) (l : Lead) (t : Placed) → Opened lasting (lead_turn b l) t
lead_opened Declares l t = heading_opened declaration_parts (λ x. with_heading l (Auto x.0)) (lead_turn Declares l) t (λ ts. refl) (refl, tt)
lead_opened Imports l t = heading_opened import_parts (λ x. with_heading l (Extrn x.0)) (lead_turn Imports l) t (λ ts. refl) (refl, tt)
lead_opened Selects l t = heading_opened case_parts (λ x. with_heading l (Case t.line x.0)) (lead_turn Selects l) t (λ ts. refl) (refl, tt)
lead_opened Defaults l t = heading_opened default_parts (λ x. with_heading l (Default t.line)) (lead_turn Defaults l) t (λ ts. refl) tt
lead_opened (Mentions x) l t = enters (λ r. Got (record { headings = l.headings; word = Some (record { text = x; line = t.line }) }) r) (λ ts. refl) (got_fine lasting (record { headings = l.headings; word = Some (record { text = x; line = t.line }) }))
lead_opened (Labels w) l t = enters (λ r. Got (with_heading l (Label w)) r) (λ ts. refl) (got_fine lasting (with_heading l (Label w)))

pub lead_loop : Loop lasting lead_step lead_turn
lead_loop = opened_loop lasting lead_step lead_turn (λ l t h. no_step l.word t h) (λ b l t h. lead_opened b l t)

lead_fine : (ts : List Placed) → Fine Last lead ts
lead_fine ts = many_fine lasting lead_step lead_turn lead_loop no_lead ts

-- the rest of an if, after its statement
module _ (level : Level) (off : ℕ) (e : Expr) (s : Stmt) where
  else_start : Start elseless Elseless (else_part level off e s)
  else_start = record { with_ = []; value = If e s; done = λ k h. rw h refl; front = λ k h. h }

  else_fine : Good level → (ts : List Placed) (b : Bool) → is_else (first ts) ≡ b → Fine Elseless (else_part level off e s) ts
  else_fine good [] true h = cc
  else_fine good (t ∷ ts) true h = shift elseless (else_part level off e s) (λ x. level.stmt (off + words e + statement_words s) x >>= λ other. Got (IfElse e s other)) t (λ x. rw h refl) ts (map_fine elseless (level.stmt (off + words e + statement_words s)) (λ other. IfElse e s other) ts (good.stmt_fine (off + words e + statement_words s) ts))
  else_fine good ts false h = idle elseless (else_part level off e s) ts (If e s) near
    where
      near : (new : List Placed) → Near Elseless ts new → else_part level off e s new ≡ Got (If e s) new
      near new (inl n) = rw (ap is_else n ∙ h) refl
      near new (inr n) = rw n refl

-- where there is a level left
abbrev pub LevelGood : ℕ → Type 0
LevelGood zero = Unit {0}
LevelGood (suc k) = Good (level (suc k))

abbrev at_first : ℕ → ℕ → Reader Stmt
at_first room off ts = stmt_at room (level room) off (first ts) ts

abbrev stmt_start : (room off : ℕ) → Start elseless Any (at_first room off)
stmt_start room off = record { with_ = mark token.Semicolon ∷ []; value = Empty; done = λ k h. refl; front = λ k h. tt }

-- a row that opens a level
entered : (room : ℕ) → LevelGood room → (off : ℕ) (t : Token) (ps : List Part) (made : Fields ps → Reader Stmt) → Follow elseless ps → ((x : Fields ps) → Start elseless Elseless (made x)) → (Good (level room) → (x : Fields ps) (r : List Placed) → Fine Elseless (made x) r)
    → ((new : List Placed) → stmt_at room (level room) off t new ≡ ((level room).enter new >>= λ o. read_parts (level room) ps off made)) → (t ≡ token.End → ⊥) → (ts : List Placed) → first ts ≡ t → Fine Elseless (at_first room off) ts
entered room g off t ps made f s h agree n [] e = absurd (n (sym e))
entered zero g off t ps made f s h agree n (p ∷ ts) e = stuck elseless (at_first zero off) (p ∷ ts) (λ new m. ap (λ x. stmt_at zero (level zero) off x new) (m ∙ e) ∙ agree new) (stmt_start zero off)
entered (suc k) g off t ps made f s h agree n (p ∷ ts) e = shift elseless (at_first (suc k) off) (read_parts (level (suc k)) ps off made) p (λ x. ap (λ y. stmt_at (suc k) (level (suc k)) off y (p ∷ x)) e ∙ agree (p ∷ x)) ts (fine_parts elseless (level (suc k)) (fine_things (level (suc k)) g) ps off made f s (h g) ts)

module _ (room : ℕ) (has : LevelGood room) where
  -- a row that opens none, after its first token
  taken : (off : ℕ) (t : Token) (f : ℕ → Reader Stmt) → ((p : Placed) (ts : List Placed) → stmt_at room (level room) off t (p ∷ ts) ≡ f p.line ts) → (t ≡ token.End → ⊥) → ((line : ℕ) (ts : List Placed) → Fine Elseless (f line) ts) → (ts : List Placed) → first ts ≡ t → Fine Elseless (at_first room off) ts
  taken off t f agree n fine [] e = absurd (n (sym e))
  taken off t f agree n fine (p ∷ ts) e = shift elseless (at_first room off) (f p.line) p (λ x. ap (λ y. stmt_at room (level room) off y (p ∷ x)) e ∙ agree p x) ts (fine p.line ts)

  ended_fine : (off : ℕ) (made : Expr → Stmt) (ts : List Placed) → Fine Elseless (ended room off made) ts
  ended_fine off made ts = flat_fine elseless room value_parts off (λ x. made x.0) (refl, tt) ts

  returned_start : (off : ℕ) → Start elseless Any (returned room off)
  returned_start off = record { with_ = mark token.Semicolon ∷ []; value = Return; done = λ k h. refl; front = λ k h. tt }

  returned_fine : (off : ℕ) (ts : List Placed) (b : Bool) → is_open_paren (first ts) ≡ b → Fine Elseless (returned room off) ts
  returned_fine off [] true h = cc
  returned_fine off (t ∷ ts) true h = shift elseless (returned room off) (read_parts (flat room) paid_parts off (λ x. Got (ReturnValue x.0))) t (λ x. rw h refl) ts (flat_fine elseless room paid_parts off (λ x. ReturnValue x.0) (refl, tt) ts)
  returned_fine off ts false h = same_eats elseless (returned room off) (λ r. expect is_semicolon r >>= λ o. Got Return) ts (λ new n. rw (ap is_open_paren n ∙ h) refl) (returned_start off) (λ s e. omega (arith, expect_takes elseless is_semicolon refl (λ x. Got Return x) (got_fine elseless Return) ts ts s e)) (flat_fine elseless room end_parts off (λ x. Return) tt ts)

  other : (off : ℕ) (t : Token) → ((ts : List Placed) → stmt_at room (level room) off t ts ≡ ended room off Evaluate ts) → (ts : List Placed) → first ts ≡ t → Fine Elseless (at_first room off) ts
  other off t is ts e = same_eats elseless (at_first room off) (ended room off Evaluate) ts (λ new n. ap (λ x. stmt_at room (level room) off x new) (n ∙ e) ∙ is new) (stmt_start room off) (closed_eats E.closing (reader room Rvalue off) is_semicolon refl Evaluate ts (reader_fine room Rvalue off ts)) (ended_fine off Evaluate ts)

  stmt_fine_at : (off : ℕ) (t : Token) (ts : List Placed) → first ts ≡ t → Fine Elseless (at_first room off) ts
  stmt_fine_at off token.OpenBrace ts e = entered room has off token.OpenBrace block_parts (λ x. Got (Compound x.0)) (refl, tt) (λ x. got_start elseless (Compound x.0)) (λ g x r. got_fine elseless (Compound x.0) r) (λ new. refl) (λ n. cc) ts e
  stmt_fine_at off (token.Keyword keyword.If) ts e = entered room has off (token.Keyword keyword.If) tested_parts (λ x. else_part (level room) off x.0 x.1.0) (refl, ((λ t h. h), tt)) (λ x. else_start (level room) off x.0 x.1.0) (λ g x r. else_fine (level room) off x.0 x.1.0 g r (is_else (first r)) refl) (λ new. refl) (λ n. cc) ts e
  stmt_fine_at off (token.Keyword keyword.While) ts e = entered room has off (token.Keyword keyword.While) tested_parts (λ x. Got (While x.0 x.1.0)) (refl, ((λ t h. h), tt)) (λ x. got_start elseless (While x.0 x.1.0)) (λ g x r. got_fine elseless (While x.0 x.1.0) r) (λ new. refl) (λ n. cc) ts e
  stmt_fine_at off (token.Keyword keyword.Switch) ts e = entered room has off (token.Keyword keyword.Switch) switch_parts (λ x. Got (Switch x.0 x.1.0)) (refl, (refl, tt)) (λ x. got_start elseless (Switch x.0 x.1.0)) (λ g x r. got_fine elseless (Switch x.0 x.1.0) r) (λ new. refl) (λ n. cc) ts e
  stmt_fine_at off (token.Keyword keyword.Goto) ts e = taken off (token.Keyword keyword.Goto) (λ line. ended room off Goto) (λ p ts. refl) (λ n. cc) (λ line. ended_fine off Goto) ts e
  stmt_fine_at off (token.Keyword keyword.Break) ts e = taken off (token.Keyword keyword.Break) (λ line r. expect is_semicolon r >>= λ o. Got (Break line)) (λ p ts. refl) (λ n. cc) (λ line. flat_fine elseless room end_parts off (λ x. Break line) tt) ts e
  stmt_fine_at off (token.Keyword keyword.Return) ts e = taken off (token.Keyword keyword.Return) (λ line. returned room off) (λ p ts. refl) (λ n. cc) (λ line ts. returned_fine off ts (is_open_paren (first ts)) refl) ts e
  stmt_fine_at off token.Semicolon ts e = taken off token.Semicolon (λ line x. Got Empty x) (λ p ts. refl) (λ n. cc) (λ line. got_fine elseless Empty) ts e
  stmt_fine_at off t ts e = other off t (λ us. refl) ts e

  after_fine : (off : ℕ) (o : Option Identifier) (ts : List Placed) → Fine Elseless (stmt_after room (level room) off o) ts
  after_fine off None ts = stmt_fine_at off (first ts) ts refl
  after_fine off (Some w) ts = closed_fine elseless E.Closer (λ x. reader room Rvalue off (name_token w ∷ x)) is_semicolon token.Semicolon refl refl refl Evaluate ts (from_name_fine room off w ts)

  -- a semicolon ends whatever stands before it
  shortest : Option Identifier → Stmt
  shortest None = Empty
  shortest (Some w) = Evaluate (Named w)

  after_one : (off : ℕ) (o : Option Identifier) (k : List Placed) → stmt_after room (level room) off o (mark token.Semicolon ∷ k) ≡ Got (shortest o) k
  unfolding shortest
  after_one off None k = refl
  after_one off (Some w) k = ap (λ x. x >>= λ e r. expect is_semicolon r >>= λ o. Got (Evaluate e)) (from_name_one room off w (mark token.Semicolon ∷ k) refl)

  -- a statement takes a token
  after_eats : (off : ℕ) (o : Option Identifier) (r : List Placed) (s : Stmt) → stmt_after room (level room) off o r ≡ Got s r → ⊥
  after_eats off None r s e = omega (arith, takes _ r r s _ (stmt_told room (level_told room) off r) e)
  after_eats off (Some w) r s e = closed_eats E.closing (λ x. reader room Rvalue off (name_token w ∷ x)) is_semicolon refl Evaluate r (from_name_fine room off w r) s e

  headed_eats : (off : ℕ) (l : Lead) (r : List Placed) (s : Stmt) → (x : Read Stmt) → stmt_after room (level room) off l.word r ≡ x → (x >>= λ s. Got (headed l.headings s)) ≡ Got s r → ⊥
  headed_eats off l r s (Got s2 r2) h e = let q : r2 ≡ r = cc in after_eats off l.word r s2 (h ∙ ap (λ k. Got s2 k) q)
  headed_eats off l r s (Stop r2) h e = cc

  stmt_with_fine : (off : ℕ) (ts : List Placed) → Fine Elseless (stmt_with room (level room) off) ts
  stmt_with_fine off ts = bind_taking elseless Last lead (λ l r. stmt_after room (level room) off l.word r >>= λ s. Got (headed l.headings s)) (λ l r s e. absurd (headed_eats off l r s _ refl e)) (λ l. record { with_ = mark token.Semicolon ∷ []; value = headed l.headings (shortest l.word); done = λ k h. ap (λ x. x >>= λ s. Got (headed l.headings s)) (after_one off l.word k); front = λ k h. refl }) ts (lead_fine ts) (λ l u r h g. map_fine elseless (stmt_after room (level room) off l.word) (headed l.headings) r (after_fine off l.word r))

statement_takes : (room off : ℕ) (ts r : List Placed) (s : Stmt) → statement room off ts ≡ Got s r → length r < length ts
statement_takes room off ts r s h = takes (λ s. Sits s room off) ts r s _ (statement_sound room off ts) h

pub level_good : (room : ℕ) → LevelGood room
level_good zero = tt
level_good (suc k) = record { expr_fine = λ off ts. reader_fine k Rvalue off ts; expr_one = λ off ts h. reader_one k Rvalue off ts h; stmt_fine = λ off ts. stmt_with_fine k (level_good k) off ts; stmt_one = λ off ts. refl; stmt_takes = λ off. statement_takes k off }

pub statement_fine : (k off : ℕ) (ts : List Placed) → Fine Closer (statement k off) ts
statement_fine k off ts = narrower closing Elseless no_else (stmt_with_fine k (level_good k) off ts)
