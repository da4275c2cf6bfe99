-- The spelling of a statement that sits is read as that statement.
use Rattle.std.proofs.Common.{◌≡◌, ℕ, zero, suc, ◌+◌, List, [], ◌∷◌, ◌++◌, Bool, true, false, sym, ap, ◌∙◌, refl, Option, Some, None}
use Rattle.blang.specs.declared.token.Token.{Token}
use Rattle.blang.specs.declared.token.Token.TheVariants as token
use Rattle.blang.specs.declared.token.Keyword.TheVariants as keyword
use Rattle.blang.specs.declared.token.Placed.{Placed}
use Rattle.blang.specs.Trees.{mark, Identifier, Constant, Number, Character, Expr, Named, name_token, constant_token, Declared, Heading, Auto, Extrn, Label, Case, Default, Stmt, Headed, Compound, If, IfElse, While, Switch, Goto, Break, Return, ReturnValue, Evaluate, Empty, Stmts, Nothing, More, keyword_mark}
use Rattle.blang.specs.Cut.{placed}
use Rattle.blang.specs.WellFormed.{rvalue_rank, IsNonempty, is_open, IsHeading}
use Rattle.bgrammar.specs.Fitting.{words, Fits, EachAfter, statement_words, body_words, Sits, AllSit}
use Rattle.bgrammar.specs.Reading.{Got, Stop, Reader, ◌>>=◌, first, expect, many}
use Rattle.bgrammar.specs.ExpressionReader.{is_colon, always, Rvalue, reader}
use Rattle.bgrammar.specs.Commas.{list_reader}
use Rattle.bgrammar.specs.StatementReader.{is_semicolon, is_else, name, constant, size_at, declared, Headings, No_heading, Then, headed, Lead, Step, Declares, Imports, Selects, Defaults, Mentions, Labels, step_at, lead_step, lead_turn, goes_on, else_part, one_more, ended, stmt_at, stmt_after, level, statement}
use Rattle.bgrammar.proofs.Fine.{many_none, many_some}
use Rattle.bgrammar.proofs.ExpressionFine.{from_name_one}
use Rattle.bgrammar.proofs.ExpressionFine as E
use Rattle.bgrammar.proofs.ExpressionAgain.{opens, expr_opens, reader_again, ends}
use Rattle.bgrammar.proofs.CommaLaws.{list_again}
use Rattle.bgrammar.proofs.StatementFine.{lasting, closing, name_fine, declared_fine, lead_loop, body_loop, starts, statement_starts, level_good}
use Rattle.bgrammar.proofs.Forms.{colon, Body, Fields, read, onto, flat, block_parts, tested_parts, switch_parts, value_parts, paid_parts, declaration_parts, import_parts, case_parts}
use Rattle.bgrammar.proofs.FormLaws.{parts_again}
use Rattle.blang.specs.Walk.{walk, walk_list, walk_size, walk_declared, walk_import, walk_heading, walk_statement, walk_body}

-- a statement from what stands before it on
abbrev pub following : ℕ → ℕ → Lead → Reader Stmt
following room off l r = stmt_after room (level room) off l.word r >>= λ s. Got (headed l.headings s)

abbrev from : ℕ → ℕ → Lead → Reader Stmt
from room off l ts = many lead_step lead_turn l ts >>= following room off

abbrev after_headings : Headings → Lead
after_headings hs = record { headings = hs; word = None }

pub each_any : {A : Type 0} (before xs : List A) → EachAfter (λ before a. Unit {0}) before xs
each_any before [] = tt
each_any before (x ∷ xs) = (tt, each_any (before ++ x ∷ []) xs)

-- no number begins with the token
abbrev Unsized : Token → Type 0
Unsized t = (ts : List Placed) → size_at t ts ≡ Got None ts

declared_again : (d : Declared) (rest : List Placed) → Unsized (first rest) → declared (onto (walk_declared d) rest) ≡ Got d rest
declared_again d rest n = go d.word d.size
  where
    go : (w : Identifier) (o : Option ℕ) → declared (name_token w ∷ onto (walk_size o) rest) ≡ Got (record { word = w; size = o }) rest
    go w (Some m) = refl
    go w None = ap (λ x. x >>= λ n. Got (record { word = w; size = n })) (n rest)

-- headings, which are rows without statements after their first token
declarations_read : (ds : List Declared) → IsNonempty ds → (rest : List Placed) → list_reader (λ before. declared) (onto (walk_list walk_declared ds) (mark token.Semicolon ∷ rest)) ≡ Got ds (mark token.Semicolon ∷ rest)
declarations_read ds n rest =
    list_again (λ before. declared) walk_declared (λ before a. Unit {0}) (λ before. declared_fine) Unsized (λ ts. refl) (λ before d rest o n. declared_again d rest n) ds (mark token.Semicolon ∷ rest) n (each_any [] ds) (λ ts. refl) refl

names_read : (ws : List Identifier) → IsNonempty ws → (rest : List Placed) → list_reader (λ before. name) (onto (walk_list walk_import ws) (mark token.Semicolon ∷ rest)) ≡ Got ws (mark token.Semicolon ∷ rest)
names_read ws n rest =
    list_again (λ before. name) walk_import (λ before a. Unit {0}) (λ before. name_fine) (λ t. Unit {0}) tt (λ before w rest o n. refl) ws (mark token.Semicolon ∷ rest) n (each_any [] ws) tt refl

constant_read : (c : Constant) (rest : List Placed) → constant (mark (constant_token c) ∷ rest) ≡ Got c rest
constant_read (Number n) rest = refl
constant_read (Character n) rest = refl

module _ (hs : Headings) (rest : List Placed) where
  -- the turn of the loop in which a heading is read
  turn_reads : (b : Step) (h : Heading) → lead_step (after_headings hs) (first (onto (walk_heading h) rest)) ≡ Some b → lead_turn b (after_headings hs) (onto (walk_heading h) rest) ≡ Got (after_headings (Then hs h)) rest
      → many lead_step lead_turn (after_headings hs) (onto (walk_heading h) rest) ≡ many lead_step lead_turn (after_headings (Then hs h)) rest
  turn_reads b h step read = many_some lasting lead_step lead_turn lead_loop b (after_headings hs) (onto (walk_heading h) rest) step ∙ ap (λ y. y >>= many lead_step lead_turn) read

  heading_again : (h : Heading) → IsHeading h → many lead_step lead_turn (after_headings hs) (onto (walk_heading h) rest) ≡ many lead_step lead_turn (after_headings (Then hs h)) rest
  heading_again (Auto ds) is = turn_reads Declares (Auto ds) refl (parts_again (flat 0) declaration_parts (ds, tt) 0 (λ x. Got (after_headings (Then hs (Auto x.0)))) rest (declarations_read ds is rest, tt))
  heading_again (Extrn ws) is = turn_reads Imports (Extrn ws) refl (parts_again (flat 0) import_parts (ws, tt) 0 (λ x. Got (after_headings (Then hs (Extrn x.0)))) rest (names_read ws is rest, tt))
  heading_again (Label w) is =
      many_some lasting lead_step lead_turn lead_loop (Mentions w.text) (after_headings hs) (name_token w ∷ mark token.Colon ∷ rest) refl
      ∙ many_some lasting lead_step lead_turn lead_loop (Labels w) (record { headings = hs; word = Some w }) (mark token.Colon ∷ rest) refl
  heading_again (Case line c) is = turn_reads Selects (Case line c) refl (parts_again (flat 0) case_parts (c, tt) 0 (λ x. Got (after_headings (Then hs (Case line x.0)))) rest (constant_read c (mark token.Colon ∷ rest), tt))
  heading_again (Default line) is = turn_reads Defaults (Default line) refl refl

-- a statement that no heading or name begins
direct : (room off : ℕ) (hs : Headings) (s : Stmt) (ts rest : List Placed) → step_at None (first ts) ≡ None → stmt_at room (level room) off (first ts) ts ≡ Got s rest → from room off (after_headings hs) ts ≡ Got (headed hs s) rest
direct room off hs s ts rest n e =
    ap (λ x. x >>= following room off) (many_none lead_step lead_turn (after_headings hs) ts n)
    ∙ ap (λ x. x >>= λ s. Got (headed hs s)) e

pub no_label : (w : Identifier) (t : Token) → is_colon t ≡ false → step_at (Some w) t ≡ None
no_label w token.Colon h = cc
no_label w _ h = refl

ended_again : (room off : ℕ) (made : Expr → Stmt) (e : Expr) → Fits e rvalue_rank room off → (rest : List Placed) → ended room off made (onto (walk e) (mark token.Semicolon ∷ rest)) ≡ Got (made e) rest
ended_again room off made e f rest = ap (λ x. x >>= λ e r. expect is_semicolon r >>= λ o. Got (made e)) (reader_again e room off f (mark token.Semicolon ∷ rest) (ends token.Semicolon refl))

opens_no_step : (t : Token) → opens t ≡ true → ((x : List ℕ) → t ≡ token.Name x → ⊥) → step_at None t ≡ None
opens_no_step (token.Name x) h n = absurd (n x refl)
opens_no_step (token.Keyword k) h n = cc
opens_no_step _ h n = refl

opens_ends : (room off : ℕ) (t : Token) (ts : List Placed) → opens t ≡ true → stmt_at room (level room) off t ts ≡ ended room off Evaluate ts
opens_ends room off (token.Keyword k) ts h = cc
opens_ends room off token.OpenBrace ts h = cc
opens_ends room off token.Semicolon ts h = cc
opens_ends room off _ ts h = refl

-- a name that an expression begins with has no colon after it
not_labelled : (room off : ℕ) (w : Identifier) (ts rest : List Placed) (s : Stmt) → ended room off Evaluate (name_token w ∷ ts) ≡ Got s rest → is_colon (first ts) ≡ false
not_labelled room off w ts rest s h = go (is_colon (first ts)) refl
  where
    go : (b : Bool) → is_colon (first ts) ≡ b → is_colon (first ts) ≡ false
    go false e = e
    go true e =
        let colon : first ts ≡ token.Colon = colon.only (first ts) e in
        let alone : ended room off Evaluate (name_token w ∷ ts) ≡ (expect is_semicolon ts >>= λ o. Got (Evaluate (Named w))) = ap (λ x. x >>= λ e r. expect is_semicolon r >>= λ o. Got (Evaluate e)) (from_name_one room off w ts (ap E.closes colon)) in
        let stops : (expect is_semicolon ts >>= λ o. Got (Evaluate (Named w))) ≡ Stop ts = rw (ap is_semicolon colon) refl in
        let never : Got s rest ≡ Stop ts = sym h ∙ alone ∙ stops in cc

-- an expression as a statement; the reader may have to take a name before it knows
expression_again : (room off : ℕ) (hs : Headings) (e : Expr) (rest ts : List Placed) (t : Token) → first ts ≡ t → opens t ≡ true → ended room off Evaluate ts ≡ Got (Evaluate e) rest → from room off (after_headings hs) ts ≡ Got (headed hs (Evaluate e)) rest
expression_again room off hs e rest [] t f o read = let g : opens token.End ≡ true = ap opens f ∙ o in cc
expression_again room off hs e rest (p ∷ ts) (token.Name x) f o read =
    let w : Identifier = record { text = x; line = p.line } in
    let named : ended room off Evaluate (name_token w ∷ ts) ≡ Got (Evaluate e) rest = ap (λ t. ended room off Evaluate (placed t p.line ∷ ts)) (sym f) ∙ read in
    ap (λ y. y >>= following room off)
    (many_some lasting lead_step lead_turn lead_loop (Mentions x) (after_headings hs) (p ∷ ts) (ap (step_at None) f)
    ∙ many_none lead_step lead_turn (record { headings = hs; word = Some w }) ts (no_label w (first ts) (not_labelled room off w ts rest (Evaluate e) named)))
    ∙ ap (λ y. y >>= λ s. Got (headed hs s)) named
expression_again room off hs e rest (p ∷ ts) t f o read = direct room off hs (Evaluate e) (p ∷ ts) rest (ap (step_at None) f ∙ opens_no_step t o (λ x e. cc)) (ap (λ y. stmt_at room (level room) off y (p ∷ ts)) f ∙ opens_ends room off t (p ∷ ts) o ∙ read)

-- what may follow it
abbrev Follows : Stmt → List Placed → Type 0
Follows s rest = is_open s ≡ true → is_else (first rest) ≡ false

record Reads (s : Stmt) : Type 0 where
  again : (room off : ℕ) → Sits s room off → (hs : Headings) (rest : List Placed) → Follows s rest → from room off (after_headings hs) (onto (walk_statement s) rest) ≡ Got (headed hs s) rest

record ReadsBody (ss : Stmts) : Type 0 where
  again : (k off : ℕ) → AllSit ss k off → (rest : List Placed) → is_else (first rest) ≡ false → many (always goes_on) (one_more (level (suc k)) off) Nothing (onto (walk_body ss) rest) ≡ many (always goes_on) (one_more (level (suc k)) off) ss rest

-- things, before a token that ends them
value : (e : Expr) (k off : ℕ) → Fits e rvalue_rank k off → (rest : List Placed) → E.Closer (first rest) → reader k Rvalue off (onto (walk e) rest) ≡ Got e rest
value e k off f rest n = reader_again e k off f rest (ends (first rest) n)

inner : {s : Stmt} → Reads s → (k off : ℕ) → Sits s k off → (rest : List Placed) → Follows s rest → (level (suc k)).stmt off (onto (walk_statement s) rest) ≡ Got s rest
inner rs k off f rest n = rs.again k off f No_heading rest n

body_read : {ss : Stmts} → ReadsBody ss → (k off : ℕ) → AllSit ss k off → (rest : List Placed) → read (level (suc k)) Body off (onto (walk_body ss) (mark token.CloseBrace ∷ rest)) ≡ Got ss (mark token.CloseBrace ∷ rest)
body_read {ss} rb k off f rest = rb.again k off f (mark token.CloseBrace ∷ rest) refl ∙ many_none (always goes_on) (one_more (level (suc k)) off) ss (mark token.CloseBrace ∷ rest) refl

-- a statement that opens a level
deep : (s : Stmt) → ((rest : List Placed) → step_at None (first (onto (walk_statement s) rest)) ≡ None) → ((off : ℕ) → Sits s zero off → ⊥)
    → ((k off : ℕ) → Sits s (suc k) off → (rest : List Placed) → Follows s rest → stmt_at (suc k) (level (suc k)) off (first (onto (walk_statement s) rest)) (onto (walk_statement s) rest) ≡ Got s rest) → Reads s
deep s step none read = record { again = again }
  where
    again : (room off : ℕ) → Sits s room off → (hs : Headings) (rest : List Placed) → Follows s rest → from room off (after_headings hs) (onto (walk_statement s) rest) ≡ Got (headed hs s) rest
    again zero off f hs rest n = absurd (none off f)
    again (suc k) off f hs rest n = direct (suc k) off hs s (onto (walk_statement s) rest) rest (step rest) (read k off f rest n)

no_else_after : (off : ℕ) (e : Expr) (s : Stmt) (k : ℕ) (rest : List Placed) → is_else (first rest) ≡ false → else_part (level (suc k)) off e s rest ≡ Got (If e s) rest
no_else_after off e s k rest h = rw h refl

abbrev else_after : ℕ → ℕ → Fields tested_parts → Reader Stmt
else_after k off x = else_part (level (suc k)) off x.0 x.1.0

reads_if : (e : Expr) (s : Stmt) → Reads s → Reads (If e s)
reads_if e s rs =
    deep (If e s) (λ rest. refl) (λ off f. f)
    (λ k off f rest n. parts_again (level (suc k)) tested_parts (e, (s, tt)) off (else_after k off) rest (value e k off f.0 _ refl, (inner rs k (off + words e) f.1 rest (λ o. n refl), tt)) ∙ no_else_after off e s k rest (n refl))

reads_if_else : (e : Expr) (s other : Stmt) → Reads s → Reads other → Reads (IfElse e s other)
reads_if_else e s other rs ro =
    deep (IfElse e s other) (λ rest. refl) (λ off f. f.1)
    (λ k off f rest n.
    let after = keyword_mark keyword.Else ∷ onto (walk_statement other) rest in
    parts_again (level (suc k)) tested_parts (e, (s, tt)) off (else_after k off) after (value e k off f.1.0 _ refl, (inner rs k (off + words e) f.1.1 after (λ o. let b : false ≡ true = sym f.0 ∙ o in cc), tt))
    ∙ ap (λ x. x >>= λ other. Got (IfElse e s other)) (inner ro k (off + words e + statement_words s) f.1.2 rest n))

reads_while : (e : Expr) (s : Stmt) → Reads s → Reads (While e s)
reads_while e s rs = deep (While e s) (λ rest. refl) (λ off f. f) (λ k off f rest n. parts_again (level (suc k)) tested_parts (e, (s, tt)) off (λ x. Got (While x.0 x.1.0)) rest (value e k off f.0 _ refl, (inner rs k (off + words e) f.1 rest n, tt)))

reads_compound : (ss : Stmts) → ReadsBody ss → Reads (Compound ss)
reads_compound ss rb = deep (Compound ss) (λ rest. refl) (λ off f. f) (λ k off f rest n. parts_again (level (suc k)) block_parts (ss, tt) off (λ x. Got (Compound x.0)) rest (body_read rb k off f rest, tt))

reads_switch : (e : Expr) (ss : Stmts) → ReadsBody ss → Reads (Switch e ss)
reads_switch e ss rb = deep (Switch e ss) (λ rest. refl) (λ off f. f) (λ k off f rest n. parts_again (level (suc k)) switch_parts (e, (ss, tt)) off (λ x. Got (Switch x.0 x.1.0)) rest (value e k off f.0 _ refl, (body_read rb k (off + words e) f.1 rest, tt)))

-- one that opens none, after its first token
here : (s : Stmt) → ((rest : List Placed) → step_at None (first (onto (walk_statement s) rest)) ≡ None)
    → ((room off : ℕ) → Sits s room off → (rest : List Placed) → stmt_at room (level room) off (first (onto (walk_statement s) rest)) (onto (walk_statement s) rest) ≡ Got s rest) → Reads s
here s step read = record { again = λ room off f hs rest n. direct room off hs s (onto (walk_statement s) rest) rest (step rest) (read room off f rest) }

reads_evaluate : (e : Expr) → Reads (Evaluate e)
reads_evaluate e = record {
  again = λ room off f hs rest n.
      expression_again room off hs e rest (onto (walk e) (mark token.Semicolon ∷ rest)) (first (onto (walk e) (mark token.Semicolon ∷ rest))) refl (expr_opens e (mark token.Semicolon ∷ rest)) (ended_again room off Evaluate e f rest);
}

reads_headed : (h : Heading) (s : Stmt) → Reads s → Reads (Headed h s)
reads_headed h s rs = record { again = λ room off f hs rest n. ap (λ x. x >>= following room off) (heading_again hs (onto (walk_statement s) rest) h f.0) ∙ rs.again room off f.1 (Then hs h) rest n }

-- what a token with which a statement begins does
starts_goes_on : (t : Token) → starts t ≡ true → goes_on t ≡ Some tt
starts_goes_on token.CloseBrace h = cc
starts_goes_on token.End h = cc
starts_goes_on _ h = refl

starts_no_else : (t : Token) → starts t ≡ true → is_else t ≡ false
starts_no_else (token.Keyword keyword.Else) h = cc
starts_no_else _ h = refl

reads_more : (before : Stmts) (s : Stmt) → ReadsBody before → Reads s → ReadsBody (More before s)
reads_more before s rb rs = record {
  again = λ k off f rest n.
      rb.again k off f.0 (onto (walk_statement s) rest) (starts_no_else _ (statement_starts s rest))
      ∙ many_some closing (always goes_on) (one_more (level (suc k)) off) (body_loop (level (suc k)) (level_good (suc k)) off) tt before (onto (walk_statement s) rest) (starts_goes_on _ (statement_starts s rest))
      ∙ ap (λ x. (x >>= λ s. Got (More before s)) >>= many (always goes_on) (one_more (level (suc k)) off)) (inner rs k (off + body_words before) f.1 rest (λ o. n));
}

mutual
  reads : (s : Stmt) → Reads s
  reads (Headed h s) = reads_headed h s (reads s)
  reads (Compound ss) = reads_compound ss (reads_body ss)
  reads (If e s) = reads_if e s (reads s)
  reads (IfElse e s other) = reads_if_else e s other (reads s) (reads other)
  reads (While e s) = reads_while e s (reads s)
  reads (Switch e ss) = reads_switch e ss (reads_body ss)
  reads (Goto e) = here (Goto e) (λ rest. refl) (λ room off f rest. parts_again (flat room) value_parts (e, tt) off (λ x. Got (Goto x.0)) rest (value e room off f _ refl, tt))
  reads (Break line) = here (Break line) (λ rest. refl) (λ room off f rest. refl)
  reads Return = here Return (λ rest. refl) (λ room off f rest. refl)
  reads (ReturnValue e) = here (ReturnValue e) (λ rest. refl) (λ room off f rest. parts_again (flat room) paid_parts (e, tt) off (λ x. Got (ReturnValue x.0)) rest (value e room off f _ refl, tt))
  reads (Evaluate e) = reads_evaluate e
  reads Empty = here Empty (λ rest. refl) (λ room off f rest. refl)

  reads_body : (ss : Stmts) → ReadsBody ss
  reads_body Nothing = record { again = λ k off f rest n. refl }
  reads_body (More before s) = reads_more before s (reads_body before) (reads s)

pub statement_read_again : (s : Stmt) (room off : ℕ) → Sits s room off → (rest : List Placed) → (is_open s ≡ true → is_else (first rest) ≡ false) → statement room off (onto (walk_statement s) rest) ≡ Got s rest
statement_read_again s room off f rest n = (reads s).again room off f No_heading rest n
