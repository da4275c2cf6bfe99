-- How the calls that read statements go on.
use Rattle.std.proofs.Common.{◌≡◌, ℕ, zero, suc, ◌+◌, ◌<◌, ◌≤◌, Bool, true, false, List, length, Option, Some, None, Result, Ok, Err, IsErrAnd, refl, sym, ap, ◌∙◌, subst, arith, add-one, if◌then◌else◌}
use Rattle.std.specs.Option.{is_some}
use Rattle.blang.specs.declared.token.Token.{Token}
use Rattle.blang.specs.declared.token.Token.TheVariants as token
use Rattle.blang.specs.declared.token.Keyword.{Keyword}
use Rattle.blang.specs.declared.token.Keyword.TheVariants as keyword
use Rattle.blang.specs.declared.token.Placed.{Placed}
use Rattle.blang.specs.Trees.{Expr, Heading, Stmt, Headed, Compound, If, IfElse, While, Switch, Goto, Break, Return, ReturnValue, Evaluate, Empty, Stmts, Nothing, More}
use Rattle.bgrammar.specs.Fitting.{words, statement_words, body_words}
use Rattle.bgrammar.specs.Reading.{Read, Reader, Got, Stop, ◌>>=◌, first, line_ahead, after, expect, many}
use Rattle.bgrammar.specs.ExpressionReader.{is_close_paren, always, Rvalue, reader, inner}
use Rattle.bgrammar.specs.StatementReader.{is_open_paren, is_open_brace, is_close_brace, is_semicolon, is_else, Headings, No_heading, Then, headed, goes_on, Level, else_part, chosen, looped, one_more, body, compound, switched, tested, returned, stmt_at, level, statement}
use Rattle.bgrammar.specs.StatementReader as whole
use Rattle.bgrammar.proofs.Fine.{many_some, many_none}
use Rattle.bgrammar.proofs.StatementFine.{closing, body_loop, level_good}
use Rattle.blang.specs.declared.code.Instr.{Instr}
use Rattle.blang.specs.declared.code.Instr.TheVariants as instr
use Rattle.bemit.specs.Views.{IfMade}
use Rattle.bemit.specs.Drafts.{Draft, Faulty, Going, emitted, filled, place_of, mark_of, begun, loop_begun, break_drafted as broken_here}
use Rattle.bemit.specs.Effects.{evaluated, done, all_done}
use Rattle.bemit.specs.Effects as effects
use Rattle.bemit.specs.Trails.{Trail, trail, first_line, took, noted, noted_at, between_ways, trailed, trailed_ended, trailed_condition, trailed_statement, trailed_body, trailed_through}
use Rattle.bread.specs.Tokens.{Tokens, with_noted, IsLoaded, IsSingle, work, Moves, Runs, Advances, AdvancesTo}
use Rattle.bread.specs.Parsers.{Leads, Halts, TookWord, Expects, ExpectsTo, Expected, ExpectedTo}
use Rattle.bread.specs.declared.halt.Halt.{Halt}
use Rattle.bread.specs.declared.halt.Halt.TheVariants as halt
use Rattle.bread.specs.Headings.{unheaded, IsHeadedBy, IsUnheaded, StopsHeading}
use Rattle.bread.specs.Compiling.{untold, PartTaken, PartAfter, CompilesPart, CompilesAfter, NoHeading, TookHeading, FindsHeading}
use Rattle.bread.specs.Statements.{after_current, rvalue_ended, evaluated_to, break_after, return_value, condition, conditional_after, repeated, statements, closed_loop, closed_switch, after_keyword, after_parenthesis, after_first, Chooses}
use Rattle.bread.proofs.TokenSteps.{Moves-append, Moves-as, Moves-breaks, noted_moves}
use Rattle.bread.proofs.Moving.{run_here, run_past, run_then, notes, again_marked, past, past_expected, noted_past}
use Rattle.bread.proofs.Steps.{began, went, halts_first, halts_then, halts_after, run_seen}
use Rattle.bread.proofs.Takings.{falls_after, falls_all}

-- what a call reads, as a part of what its caller reads
module _ {I A B : Type 0} (q : I → Reader B) (effects : B → Draft → Draft) (steps : B → Draft → Trail → Trail) (p : I → Reader A) (effect : A → Draft → Draft) (step : A → Draft → Trail → Trail) (made : A → B) (same : (a : A) (d : Draft) → effects (made a) d ≡ effect a d) (first_ : Trail → Trail) (says : (a : A) (d : Draft) (u : Trail) → steps (made a) d u ≡ step a d (first_ u)) where
  pub compiles_after : (old mid : Tokens) (start : Draft) (r : Result (Unit {0}) Halt) (new : Tokens) (draft : Draft) → work mid ≤ work old → (m : (i : I) → Runs old mid (q i) (λ v. p i v >>= λ a. Got (made a))) → ((i : I) → Leads (λ t. t) first_ old (m i).passed mid) → CompilesPart p effect step mid start r new draft → CompilesPart q effects steps old start r new draft
  compiles_after old mid start (Ok u) new draft l m come k = (λ i. let t = k.0 i in record { tree = made t.tree; runs = went (λ a. Got (made a)) (m i) t.runs; made = t.made ∙ sym (same t.tree start); leads = λ v ls q. says t.tree start v ∙ t.leads (first_ v) ls (come i v (t.runs.passed ls) q) }, k.1, falls_after l k.2)
  compiles_after old mid start (Err why) new draft l m come k = λ i. halts_then old mid new (q i) (p i) (λ a. Got (made a)) why (m i) (k i)

-- a reader with a token after it
closed_map : {A B : Type 0} (is : Token → Bool) (made : A → B) (x : Read A) → (x >>= λ a r. expect is r >>= λ o. Got (made a)) ≡ ((x >>= λ a r. expect is r >>= λ o. Got a) >>= λ a. Got (made a))
closed_map {A} {B} is made (Got a r) = go (is (first r)) refl
  where
    go : (b : Bool) → is (first r) ≡ b → (expect is r >>= λ o. Got (made a)) ≡ ((expect is r >>= λ o. Got a) >>= λ a. Got (made a))
    go true e = rw e refl
    go false e = rw e refl
closed_map is made (Stop r) = refl

-- an rvalue and a semicolon
module _ (room : ℕ) where
  abbrev semicolon : Expr → Reader Expr
  semicolon e r = expect is_semicolon r >>= λ o. Got e

  pub ended_first : (off : ℕ) (old new : Tokens) (why : Halt) → Halts (reader room Rvalue off) old why new → Halts (rvalue_ended room off) old why new
  ended_first off old new why h = halts_first old new (reader room Rvalue off) semicolon why h

  pub ended_then : (off : ℕ) (old mid new : Tokens) (e : Expr) (why : Halt) → Runs old mid (reader room Rvalue off) (λ v. Got e v) → Halts (expect is_semicolon) mid why new → Halts (rvalue_ended room off) old why new
  ended_then off old mid new e why r h = halts_then old mid new (rvalue_ended room off) (expect is_semicolon) (λ o. Got e) why (began semicolon r) h

  pub ended_took : {off : ℕ} {old mid new : Tokens} {start draft draft2 : Draft} (last : Instr) → TookWord (reader room Rvalue off) start old mid draft → Expected is_semicolon mid new → draft2 ≡ emitted last draft → PartTaken (rvalue_ended room off) (evaluated_to last) trailed_ended start old new draft2
  ended_took last t r e = record { tree = t.tree; runs = went (λ o. Got t.tree) (began semicolon t.runs) r.runs; made = e ∙ ap (emitted last) t.made; leads = λ u ls q. ap took (t.leads u (r.runs.passed ls) q) ∙ past_expected r ls }

  -- the value of a return
  abbrev close_then : Expr → Reader Stmt
  close_then e r = expect is_close_paren r >>= λ o r. expect is_semicolon r >>= λ o. Got (ReturnValue e)

  pub value_first : (off : ℕ) (old new : Tokens) (why : Halt) → Halts (reader room Rvalue off) old why new → Halts (return_value room off) old why new
  value_first off old new why h = halts_first old new (reader room Rvalue off) close_then why h

  pub value_then : (off : ℕ) (old mid new : Tokens) (e : Expr) (why : Halt) → Runs old mid (reader room Rvalue off) (λ v. Got e v) → Halts (expect is_close_paren) mid why new → Halts (return_value room off) old why new
  value_then off old mid new e why r h = halts_then old mid new (return_value room off) (expect is_close_paren) (λ o r. expect is_semicolon r >>= λ o. Got (ReturnValue e)) why (began close_then r) h

  abbrev value_closed : {off : ℕ} {old mid next : Tokens} {e : Expr} → Runs old mid (reader room Rvalue off) (λ v. Got e v) → Runs mid next (expect is_close_paren) (λ v. Got tt v) → Runs old next (return_value room off) (λ r. expect is_semicolon r >>= λ o. Got (ReturnValue e))
  value_closed {off} {old} {mid} {next} {e} r s = went (λ o r. expect is_semicolon r >>= λ o. Got (ReturnValue e)) (began close_then r) s

  pub value_last : (off : ℕ) (old mid next new : Tokens) (e : Expr) (why : Halt) → Runs old mid (reader room Rvalue off) (λ v. Got e v) → Runs mid next (expect is_close_paren) (λ v. Got tt v) → Halts (expect is_semicolon) next why new → Halts (return_value room off) old why new
  value_last off old mid next new e why r s h = halts_then old next new (return_value room off) (expect is_semicolon) (λ o. Got (ReturnValue e)) why (value_closed r s) h

  pub value_took : {off : ℕ} {old mid next new : Tokens} {start draft draft2 : Draft} → TookWord (reader room Rvalue off) start old mid draft → Expected is_close_paren mid next → Expected is_semicolon next new → draft2 ≡ emitted instr.Return draft → PartAfter after_parenthesis (return_value room off) done trailed_statement start old new draft2
  value_took {start = start} t r s e = record { tree = ReturnValue t.tree; runs = went (λ o. Got (ReturnValue t.tree)) (value_closed t.runs r.runs) s.runs; made = e ∙ ap (emitted instr.Return) t.made; leads = λ u ls q. ap took (ap took (t.leads (after_parenthesis start u) (r.runs.passed (s.runs.passed ls)) q) ∙ past_expected r (s.runs.passed ls)) ∙ past_expected s ls }

  -- a condition
  abbrev shut : Expr → Reader Expr
  shut e r = expect is_close_paren r >>= λ o. Got e

  abbrev opened : Unit {0} → ℕ → Reader Expr
  opened o off r = reader room Rvalue off r >>= shut

  pub condition_first : (off : ℕ) (old new : Tokens) (why : Halt) → Halts (expect is_open_paren) old why new → Halts (condition room off) old why new
  condition_first off old new why h = halts_first old new (expect is_open_paren) (λ o. opened o off) why h

  abbrev condition_opened : {off : ℕ} {old mid : Tokens} → Runs old mid (expect is_open_paren) (λ v. Got tt v) → Runs old mid (condition room off) (λ r. reader room Rvalue off r >>= shut)
  condition_opened {off} h = began (λ o. opened o off) h

  pub condition_then : (off : ℕ) (old mid new : Tokens) (why : Halt) → Runs old mid (expect is_open_paren) (λ v. Got tt v) → Halts (reader room Rvalue off) mid why new → Halts (condition room off) old why new
  condition_then off old mid new why r h = halts_then old mid new (condition room off) (reader room Rvalue off) shut why (condition_opened r) h

  pub condition_ends : (old mid next : Tokens) (start d0 draft draft2 : Draft) (r : Result (Unit {0}) Halt) (new : Tokens) → Expected is_open_paren old mid → d0 ≡ start → ((off : ℕ) → TookWord (reader room Rvalue off) d0 mid next draft) → Expects is_close_paren next r new → draft2 ≡ draft → CompilesPart (condition room) evaluated trailed_condition old start r new draft2
  condition_ends old mid next start d0 draft draft2 (Ok o) new r same t k e = (λ off. let w = t off in record { tree = w.tree; runs = went (λ o. Got w.tree) (went shut (condition_opened r.runs) w.runs) k.runs; made = e ∙ w.made ∙ ap (evaluated w.tree) same; leads = λ u ls q. ap took (ap (λ m. trailed w.tree m (took u)) (sym same) ∙ w.leads (took u) (k.runs.passed ls) (ap took q ∙ past_expected r (w.runs.passed (k.runs.passed ls)))) ∙ past_expected k ls }, k.single, let w = (t 0).runs.falls in falls_all r.falls w k.falls)
  condition_ends old mid next start d0 draft draft2 (Err why) new r same t k e = λ off. let w = t off in halts_then old next new (condition room off) (expect is_close_paren) (λ o. Got w.tree) why (went shut (condition_opened r.runs) w.runs) k

-- a level of nesting
pub at_level : (room left : ℕ) → room ≡ left + 1 → level room ≡ level (suc left)
at_level room left h = ap level (h ∙ add-one left)

enter_same : (room : ℕ) (u : List Placed) → (level room).enter u ≡ (inner room).enter u
enter_same zero u = refl
enter_same (suc room) u = refl

-- a token was taken that opens a level
abbrev pub entered : {A : Type 0} {old new : Tokens} (room left : ℕ) (p q : Level → Reader A) → ((u : List Placed) → p (level (suc left)) u ≡ q (level (suc left)) (after u)) → (room ≡ left + 1) × Advances old new → Runs old new (p (level room)) (q (level (suc left)))
entered {A} {old} {new} room left p q same h = run_past h.1 (λ u e l. ap (λ x. p x u) (at_level room left h.0) ∙ same u)

pub enter_halts : {A : Type 0} (old new : Tokens) (room : ℕ) (f : Level → Unit {0} → Reader A) (why : Halt) → Halts (inner room).enter old why new → Halts (λ u. (level room).enter u >>= f (level room)) old why new
enter_halts old new room f why h = halts_first old new (level room).enter (f (level room)) why (same why h)
  where
    same : (why : Halt) → Halts (inner room).enter old why new → Halts (level room).enter old why new
    same halt.Fault h = (Moves-as (λ u v. (level room).enter u ≡ Stop v) (λ u v e. enter_same room u ∙ e) h.0, h.1)
    same halt.Device h = h

-- a condition after its keyword
shut_then : (following : Expr → Reader Stmt) (y : Read Expr) → (y >>= λ e r. expect is_close_paren r >>= λ o. following e) ≡ ((y >>= λ e r. expect is_close_paren r >>= λ o. Got e) >>= following)
shut_then following (Got e r) = go (is_close_paren (first r)) refl
  where
    go : (b : Bool) → is_close_paren (first r) ≡ b → (expect is_close_paren r >>= λ o. following e) ≡ ((expect is_close_paren r >>= λ o. Got e) >>= following)
    go true k = rw k refl
    go false k = rw k refl
shut_then following (Stop r) = refl

pub asked : (k off : ℕ) (following : Expr → Reader Stmt) (x : Read (Unit {0})) → (x >>= λ o r. reader k Rvalue off r >>= λ e r. expect is_close_paren r >>= λ o. following e) ≡ ((x >>= λ o r. reader k Rvalue off r >>= λ e r. expect is_close_paren r >>= λ o. Got e) >>= following)
asked k off following (Got o r) = shut_then following (reader k Rvalue off r)
asked k off following (Stop r) = refl

module _ (room k off : ℕ) (old mid : Tokens) (h : (room ≡ k + 1) × Advances old mid) (following : Level → ℕ → Expr → Reader Stmt) where
  abbrev testing : Reader Stmt
  testing ts = tested (level room) off (following (level room) off) ts

  abbrev pub tested_runs : Runs old mid testing (λ v. condition k off v >>= following (level (suc k)) off)
  tested_runs = entered room k (λ l ts. tested l off (following l off) ts) (λ l ts. condition k off ts >>= following l off) (λ u. asked k off (following (level (suc k)) off) (expect is_open_paren (after u))) h

  pub tested_halts : (new : Tokens) (why : Halt) → Halts (condition k off) mid why new → Halts testing old why new
  tested_halts new why c = halts_then old mid new testing (condition k off) (following (level (suc k)) off) why tested_runs c

  module _ (next : Tokens) (e : Expr) (c : Runs mid next (condition k off) (λ v. Got e v)) (rest : Stmt → Reader Stmt) (is : (ts : List Placed) → following (level (suc k)) off e ts ≡ (statement k (off + words e) ts >>= rest)) where
    abbrev pub tested_on : Runs old next testing (λ v. statement k (off + words e) v >>= rest)
    tested_on = Moves-as (λ u v. testing u ≡ (statement k (off + words e) v >>= rest)) (λ u v x. x ∙ is v) (went (following (level (suc k)) off) tested_runs c)

    pub tested_body_halts : (new : Tokens) (why : Halt) → Halts (statement k (off + words e)) next why new → Halts testing old why new
    tested_body_halts new why x = halts_then old next new testing (statement k (off + words e)) rest why tested_on x

pub tested_enter : (room off : ℕ) (old new : Tokens) (following : Level → ℕ → Expr → Reader Stmt) (why : Halt) → Halts (inner room).enter old why new → Halts (λ ts. tested (level room) off (following (level room) off) ts) old why new
tested_enter room off old new following why h = enter_halts old new room (λ l o ts. expect is_open_paren ts >>= λ o r. l.expr off r >>= λ e r. expect is_close_paren r >>= λ o. following l off e) why h

-- an if
pub conditional_body : (room k off : ℕ) (old mid next new : Tokens) (h : (room ≡ k + 1) × Advances old mid) (e : Expr) (c : Runs mid next (condition k off) (λ v. Got e v)) (why : Halt) → Halts (statement k (off + words e)) next why new → Halts (conditional_after room off) old why new
conditional_body room k off old mid next new h e c why x = tested_body_halts room k off old mid h chosen next e c (else_part (level (suc k)) off e) (λ ts. refl) new why x

module _ (room k test : ℕ) (old mid next last : Tokens) (start d0 d1 d2 d3 : Draft) (h : (room ≡ k + 1) × Advances old mid) (same : d0 ≡ start) (c : (off : ℕ) → PartTaken (condition k off) evaluated trailed_condition d0 mid next d1) (test_is : test ≡ place_of d1) (jumped : d2 ≡ emitted (instr.JumpIfZero 0) d1) (b : (off : ℕ) → PartTaken (statement k off) done trailed_statement d2 next last d3) (less_b : work last < work next) where
  evaluated_is : (off : ℕ) → d1 ≡ evaluated (c off).tree start
  evaluated_is off = (c off).made ∙ ap (evaluated (c off).tree) same

  body_of : (off : ℕ) → PartTaken (statement k (off + words (c off).tree)) done trailed_statement d2 next last d3
  body_of off = b (off + words (c off).tree)

  abbrev conditional_runs : (off : ℕ) → Runs old last (conditional_after room off) (else_part (level (suc k)) off (c off).tree (body_of off).tree)
  conditional_runs off = went (else_part (level (suc k)) off (c off).tree) (tested_on room k off old mid h chosen next (c off).tree (c off).runs (else_part (level (suc k)) off (c off).tree) (λ ts. refl)) (body_of off).runs

  pub conditional_ends : (r : Result (Unit {0}) Halt) (new : Tokens) (draft : Draft) → Chooses k test last d3 r new draft → CompilesPart (conditional_after room) done trailed_statement old start r new draft
  conditional_ends (Ok o) new draft x = (read_all, x.1, falls_to x.2)
    where
      read_all : (off : ℕ) → PartTaken (conditional_after room off) done trailed_statement start old new draft
      read_all off =
          let t = x.0 off (c off).tree (body_of off).tree start (test_is ∙ ap place_of (evaluated_is off)) ((body_of off).made ∙ ap (done (body_of off).tree) (jumped ∙ ap (emitted (instr.JumpIfZero 0)) (evaluated_is off))) in
          record {
            tree = t.tree;
            runs = run_then (conditional_runs off) t.runs;
            made = t.made;
            leads = λ u ls q.
                let e = (c off).tree in
                let s = (body_of off).tree in
                let d2_is : d2 ≡ emitted (instr.JumpIfZero 0) (evaluated e start) = jumped ∙ ap (emitted (instr.JumpIfZero 0)) (evaluated_is off) in
                let test_read : trailed_condition e start (took u) ≡ trail ((body_of off).runs.passed (t.runs.passed ls)) next.noted =
                ap (λ m. trailed_condition e m (took u)) (sym same) ∙ (c off).leads (took u) ((body_of off).runs.passed (t.runs.passed ls)) (ap took q ∙ past h.1 ((c off).runs.passed ((body_of off).runs.passed (t.runs.passed ls)))) in
                t.leads u ls (ap (λ m. trailed_statement s m (trailed_condition e start (took u))) (sym d2_is) ∙ (body_of off).leads (trailed_condition e start (took u)) (t.runs.passed ls) test_read);
          }

      falls_to : work new ≤ work last → work new < work old
      falls_to l = let a = h.1.falls in let m = (c 0).runs.falls in omega (arith, l, less_b)
  conditional_ends (Err why) new draft x = λ off. halts_after old last new (conditional_after room off) (else_part (level (suc k)) off (c off).tree (body_of off).tree) why (went (else_part (level (suc k)) off (c off).tree) (tested_on room k off old mid h chosen next (c off).tree (c off).runs (else_part (level (suc k)) off (c off).tree) (λ ts. refl)) (body_of off).runs) (x off (c off).tree (body_of off).tree)

-- the jumps round two statements
joined : (other s : Stmt) (d : Draft) (test jump : ℕ) (f d1 d2 g : Draft) → test ≡ place_of d → f ≡ done s (emitted (instr.JumpIfZero 0) d) → jump ≡ place_of f → d1 ≡ emitted (instr.Jump 0) f → d2 ≡ filled test (instr.JumpIfZero (place_of d1)) d1 → g ≡ done other d2 → filled jump (instr.Jump (place_of g)) g ≡ effects.ways (λ b. done s b) (λ b. done other b) d
joined other s d test jump f d1 d2 g at b j e1 e2 o = rw (o, e2, e1, j, b, at) refl

-- the draft between them
between : (s : Stmt) (d : Draft) (test : ℕ) (f d1 d2 : Draft) → test ≡ place_of d → f ≡ done s (emitted (instr.JumpIfZero 0) d) → d1 ≡ emitted (instr.Jump 0) f → d2 ≡ filled test (instr.JumpIfZero (place_of d1)) d1 → d2 ≡ between_ways (done s) d
between s d test f d1 d2 at b e1 e2 = rw (e2, e1, b, at) refl

-- after the statement of an if
pub otherwise_absent : (k test : ℕ) (old : Tokens) (start draft : Draft) → IsSingle old → is_else (first old.ahead) ≡ false → draft ≡ filled test (instr.JumpIfZero (place_of start)) start → Chooses k test old start (Ok tt) old draft
otherwise_absent k test old start draft l n f = (read_all, l, omega arith)
  where
    read_all : (off : ℕ) (e : Expr) (s : Stmt) (d : Draft) → test ≡ place_of (evaluated e d) → start ≡ done s (emitted (instr.JumpIfZero 0) (evaluated e d)) → PartAfter (after_first e s) (else_part (level (suc k)) off e s) done trailed_statement d old old draft
    read_all off e s d t b = record {
      tree = If e s;
      runs = run_here {g = λ v. Got (If e s) v} l.0 (λ u f m. ap (λ b. if b then statement k (off + words e + statement_words s) (after u) >>= (λ other. Got (IfElse e s other)) else Got (If e s) u) (ap is_else f ∙ n));
      made = f ∙ ap (λ p. filled p (instr.JumpIfZero (place_of start)) start) t ∙ ap (λ x. filled (place_of (evaluated e d)) (instr.JumpIfZero (place_of x)) x) b;
      leads = λ u ls q. q;
    }

module _ (k : ℕ) (old mid : Tokens) (a : Advances old mid) (y : is_else (first old.ahead) ≡ true) where
  abbrev else_runs : (off : ℕ) (e : Expr) (s : Stmt) → Runs old mid (else_part (level (suc k)) off e s) (λ v. statement k (off + words e + statement_words s) v >>= λ other. Got (IfElse e s other))
  else_runs off e s = run_past a (λ u f m. ap (λ b. if b then statement k (off + words e + statement_words s) (after u) >>= (λ other. Got (IfElse e s other)) else Got (If e s) u) (ap is_else f ∙ y))

  pub otherwise_halts : (off : ℕ) (e : Expr) (s : Stmt) (new : Tokens) (why : Halt) → Halts (statement k (off + words e + statement_words s)) mid why new → Halts (else_part (level (suc k)) off e s) old why new
  otherwise_halts off e s new why h = halts_then old mid new (else_part (level (suc k)) off e s) (statement k (off + words e + statement_words s)) (λ other. Got (IfElse e s other)) why (else_runs off e s) h

  pub otherwise_took : (test jump : ℕ) (new : Tokens) (start d1 d2 d3 draft : Draft) → jump ≡ place_of start → d1 ≡ emitted (instr.Jump 0) start → d2 ≡ filled test (instr.JumpIfZero (place_of d1)) d1 → ((off : ℕ) → PartTaken (statement k off) done trailed_statement d2 mid new d3) → IsSingle new → work new < work mid → draft ≡ filled jump (instr.Jump (place_of d3)) d3 → Chooses k test old start (Ok tt) new draft
  otherwise_took test jump new start d1 d2 d3 draft j e1 e2 t l f x = (read_all, l, let b = a.falls in omega (arith, f))
    where
      read_all : (off : ℕ) (e : Expr) (s : Stmt) (d : Draft) → test ≡ place_of (evaluated e d) → start ≡ done s (emitted (instr.JumpIfZero 0) (evaluated e d)) → PartAfter (after_first e s) (else_part (level (suc k)) off e s) done trailed_statement d old new draft
      read_all off e s d at b =
          let o = t (off + words e + statement_words s) in
          record {
            tree = IfElse e s o.tree;
            runs = went (λ other. Got (IfElse e s other)) (else_runs off e s) o.runs;
            made = x ∙ joined o.tree s (evaluated e d) test jump start d1 d2 d3 at b j e1 e2 o.made;
            leads = λ u ls q. ap (λ m. trailed_statement o.tree m (took (after_first e s d u))) (sym (between s (evaluated e d) test start d1 d2 at b e1 e2)) ∙ o.leads (took (after_first e s d u)) ls (ap took q ∙ past a (o.runs.passed ls));
          }

pub chooses_err : (k test : ℕ) (old : Tokens) (start : Draft) (r : Result (Unit {0}) Halt) (new : Tokens) (draft : Draft) (why : Halt) → IsErrAnd r (λ y. y ≡ why) → ((off : ℕ) (e : Expr) (s : Stmt) → Halts (else_part (level (suc k)) off e s) old why new) → Chooses k test old start r new draft
chooses_err k test old start (Ok o) new draft why e h = absurd e
chooses_err k test old start (Err w) new draft why e h = λ off x s. subst (λ y. Halts (else_part (level (suc k)) off x s) old y new) (sym e) (h off x s)

-- a while
pub repeated_body : (room k off : ℕ) (old mid next new : Tokens) (h : (room ≡ k + 1) × Advances old mid) (e : Expr) (c : Runs mid next (condition k off) (λ v. Got e v)) (why : Halt) → Halts (statement k (off + words e)) next why new → Halts (repeated room off) old why new
repeated_body room k off old mid next new h e c why x = tested_body_halts room k off old mid h looped next e c (λ s. Got (While e s)) (λ ts. refl) new why x

-- a jump back after the statement, and one past it
jumped_back : (s : Stmt) (d f start : Draft) (top test mark : ℕ) (d2 d3 g draft : Draft) → top ≡ place_of start → test ≡ place_of d → d2 ≡ emitted (instr.JumpIfZero 0) d → mark ≡ mark_of d2 → d3 ≡ loop_begun d2 → f ≡ done s d3 → g ≡ closed_loop top mark f → draft ≡ filled test (instr.JumpIfZero (place_of g)) g → draft ≡ effects.skipping (λ b. effects.breaking (λ c. effects.turning (place_of start) (λ x. done s x) c) b) d
jumped_back s d f start top test mark d2 d3 g draft t e b m l o j x = x ∙ rw (j, o, l, m, b, t, e) refl

pub repeated_took : (room k top test mark place line : ℕ) (old mid next new : Tokens) (start d0 d1 d2 d3 d4 d5 draft : Draft) (h : (room ≡ k + 1) × Advances old mid) → place ≡ place_of d4 → line ≡ line_ahead old.ahead → top ≡ place_of start → d0 ≡ start → ((off : ℕ) → PartTaken (condition k off) evaluated trailed_condition d0 mid next d1) → test ≡ place_of d1 → d2 ≡ emitted (instr.JumpIfZero 0) d1 → mark ≡ mark_of d2 → d3 ≡ loop_begun d2 → ((off : ℕ) → PartTaken (statement k off) done trailed_statement d3 next new d4) → d5 ≡ closed_loop top mark d4 → draft ≡ filled test (instr.JumpIfZero (place_of d5)) d5 → (off : ℕ) → PartTaken (repeated room off) done trailed_statement start old (with_noted (noted_at place line new.noted) new) draft
repeated_took room k top test mark place line old mid next new start d0 d1 d2 d3 d4 d5 draft h at_place at_line t same c at j m l b back x off =
    let w = c off in
    let s = b (off + words w.tree) in
    record {
      tree = While w.tree s.tree;
      runs = noted_moves (noted_at place line new.noted) (went (λ s. Got (While w.tree s)) (tested_on room k off old mid h looped next w.tree w.runs (λ s. Got (While w.tree s)) (λ ts. refl)) s.runs);
      made = jumped_back s.tree d1 d4 start top test mark d2 d3 d5 draft t at j m l s.made back x ∙ ap (effects.skipping (λ b. effects.breaking (λ c. effects.turning (place_of start) (λ x. done s.tree x) c) b)) (w.made ∙ ap (evaluated w.tree) same);
      leads = λ u ls q.
          let b = loop_begun (emitted (instr.JumpIfZero 0) (evaluated w.tree start)) in
          let d3_is : d3 ≡ b = l ∙ ap loop_begun (j ∙ ap (emitted (instr.JumpIfZero 0)) (w.made ∙ ap (evaluated w.tree) same)) in
          let v = trailed_condition w.tree start (took u) in
          let test_read : v ≡ trail (s.runs.passed ls) next.noted =
          ap (λ m. trailed_condition w.tree m (took u)) (sym same) ∙ w.leads (took u) (s.runs.passed ls) (ap took q ∙ past h.1 (w.runs.passed (s.runs.passed ls))) in
          let body_read : trailed_statement s.tree b v ≡ trail ls new.noted = ap (λ m. trailed_statement s.tree m v) (sym d3_is) ∙ s.leads v ls test_read in
          again_marked u ls place line (done s.tree b) (at_place ∙ ap place_of (s.made ∙ ap (done s.tree) d3_is)) new.noted (ap (λ k. first_line k.coming) q ∙ ap first_line (h.1.one (w.runs.passed (s.runs.passed ls))) ∙ sym at_line) body_read;
    }

-- statements in braces
body_map : (k off : ℕ) (made : Stmts → Stmt) (u : List Placed) → body (level (suc k)) off made u ≡ (statements k off u >>= λ ss. Got (made ss))
body_map k off made u = closed_map is_close_brace made (many (always goes_on) (one_more (level (suc k)) off) Nothing u)

pub compound_enter : (room off : ℕ) (old new : Tokens) (why : Halt) → Halts (inner room).enter old why new → Halts (compound (level room) off) old why new
compound_enter room off old new why h = enter_halts old new room (λ l o. body l off Compound) why h

pub compound_ends : (room k : ℕ) (old mid : Tokens) (start d0 : Draft) (r : Result (Unit {0}) Halt) (new : Tokens) (draft : Draft) → (room ≡ k + 1) × Advances old mid → d0 ≡ start → CompilesPart (statements k) all_done trailed_through mid d0 r new draft → CompilesPart (compound (level room)) done trailed_statement old start r new draft
compound_ends room k old mid start d0 r new draft h same x =
    compiles_after (compound (level room)) done trailed_statement (statements k) all_done trailed_through Compound (λ a d. refl) took (λ a d u. refl) old mid start r new draft h.1.moves.falls
    (λ off. entered room k (λ l. compound l off) (λ l u. statements k off u >>= λ ss. Got (Compound ss)) (λ u. body_map k off Compound (after u)) h)
    (λ off u ls q. ap took q ∙ past h.1 ls)
    (subst (λ d. CompilesPart (statements k) all_done trailed_through mid d r new draft) same x)

-- a switch
abbrev switch_body : Level → ℕ → Expr → Reader Stmt
switch_body l off e r = expect is_open_brace r >>= λ o. body l (off + words e) (Switch e)

pub switched_enter : (room off : ℕ) (old new : Tokens) (why : Halt) → Halts (inner room).enter old why new → Halts (switched (level room) off) old why new
switched_enter room off old new why h = enter_halts old new room (λ l o r. l.expr off r >>= switch_body l off) why h

module _ (room k off : ℕ) (old mid : Tokens) (h : (room ≡ k + 1) × Advances old mid) where
  abbrev switched_runs : Runs old mid (switched (level room) off) (λ v. reader k Rvalue off v >>= switch_body (level (suc k)) off)
  switched_runs = entered room k (λ l. switched l off) (λ l r. l.expr off r >>= switch_body l off) (λ u. refl) h

  pub switched_value : (new : Tokens) (why : Halt) → Halts (reader k Rvalue off) mid why new → Halts (switched (level room) off) old why new
  switched_value new why x = halts_then old mid new (switched (level room) off) (reader k Rvalue off) (switch_body (level (suc k)) off) why switched_runs x

  module _ (next : Tokens) (e : Expr) (c : Runs mid next (reader k Rvalue off) (λ v. Got e v)) where
    abbrev switched_open : Runs old next (switched (level room) off) (switch_body (level (suc k)) off e)
    switched_open = went (switch_body (level (suc k)) off) switched_runs c

    pub switched_brace : (new : Tokens) (why : Halt) → Halts (expect is_open_brace) next why new → Halts (switched (level room) off) old why new
    switched_brace new why x = halts_then old next new (switched (level room) off) (expect is_open_brace) (λ o. body (level (suc k)) (off + words e) (Switch e)) why switched_open x

    module _ (last : Tokens) (o : Expected is_open_brace next last) where
      abbrev switched_body : Runs old last (switched (level room) off) (λ v. statements k (off + words e) v >>= λ ss. Got (Switch e ss))
      switched_body = Moves-as (λ u v. switched (level room) off u ≡ (statements k (off + words e) v >>= λ ss. Got (Switch e ss))) (λ u v x. x ∙ body_map k (off + words e) (Switch e) v) (went (λ o. body (level (suc k)) (off + words e) (Switch e)) switched_open o.runs)

      pub switched_body_halts : (new : Tokens) (why : Halt) → Halts (statements k (off + words e)) last why new → Halts (switched (level room) off) old why new
      switched_body_halts new why x = halts_then old last new (switched (level room) off) (statements k (off + words e)) (λ ss. Got (Switch e ss)) why switched_body x

      pub switched_took : (jump mark place line : ℕ) (new : Tokens) (start d0 d1 d2 d3 d4 draft : Draft) → place ≡ place_of d4 → line ≡ line_ahead old.ahead → d0 ≡ start → Leads (λ t. t) (trailed e d0) mid c.passed next → d1 ≡ evaluated e start → mark ≡ mark_of d1 → jump ≡ place_of d1 → d2 ≡ emitted (instr.Jump 0) d1 → d3 ≡ begun d2 → PartTaken (statements k (off + words e)) all_done trailed_through d3 last new d4 → draft ≡ closed_switch jump mark d4 → PartTaken (switched (level room) off) done trailed_statement start old (with_noted (noted_at place line new.noted) new) draft
      switched_took jump mark place line new start d0 d1 d2 d3 d4 draft at_place at_line same w v m j e2 e3 b x = record {
        tree = Switch e b.tree;
        runs = noted_moves (noted_at place line new.noted) (went (λ ss. Got (Switch e ss)) switched_body b.runs);
        made = x ∙ rw (b.made, e3, e2, j, m, v) refl;
        leads = λ u ls q.
            let a = begun (emitted (instr.Jump 0) (evaluated e start)) in
            let d3_is : d3 ≡ a = e3 ∙ ap begun (e2 ∙ ap (emitted (instr.Jump 0)) v) in
            let y = took (trailed e start (took u)) in
            let value_read : y ≡ trail (b.runs.passed ls) last.noted =
            ap took (ap (λ m. trailed e m (took u)) (sym same) ∙ w (took u) (o.runs.passed (b.runs.passed ls)) (ap took q ∙ past h.1 (c.passed (o.runs.passed (b.runs.passed ls))))) ∙ past_expected o (b.runs.passed ls) in
            let body_read : trailed_through b.tree a y ≡ trail ls new.noted = ap (λ m. trailed_through b.tree m y) (sym d3_is) ∙ b.leads y ls value_read in
            again_marked u ls place line (all_done b.tree a) (at_place ∙ ap place_of (b.made ∙ ap (all_done b.tree) d3_is)) new.noted (ap (λ k. first_line k.coming) q ∙ ap first_line (h.1.one (c.passed (o.runs.passed (b.runs.passed ls)))) ∙ sym at_line) body_read;
      }

-- the loop of a body: the statements so far
pub record InBody (room off : ℕ) (start : Draft) (old now : Tokens) (draft : Draft) : Type 0 where
  pub body : Stmts
  pub runs : Runs old now (statements room off) (λ v. many (always goes_on) (one_more (level (suc room)) off) body v >>= λ ss r. expect is_close_brace r >>= λ o. Got ss)
  pub made : draft ≡ all_done body start
  pub leads : Leads (λ t. t) (trailed_body body start) old runs.passed now

pub body_begins : (room off : ℕ) (start : Draft) (old : Tokens) → IsLoaded old → InBody room off start old old start
body_begins room off start old l = record { body = Nothing; runs = run_here l (λ u e m. refl); made = refl; leads = λ u ls q. q }

is_further : (t : Token) → is_some (goes_on t) ≡ true → goes_on t ≡ Some tt
is_further t h = at (goes_on t) refl h
  where
    at : (o : Option (Unit {0})) → goes_on t ≡ o → is_some (goes_on t) ≡ true → goes_on t ≡ Some tt
    at (Some u) e h = e
    at None e h = let n : is_some (goes_on t) ≡ false = ap is_some e in cc

is_over : (t : Token) → is_some (goes_on t) ≡ false → goes_on t ≡ None
is_over t h = at (goes_on t) refl h
  where
    at : (o : Option (Unit {0})) → goes_on t ≡ o → is_some (goes_on t) ≡ false → goes_on t ≡ None
    at (Some u) e h = let n : is_some (goes_on t) ≡ true = ap is_some e in cc
    at None e h = e

module _ (room off : ℕ) (start : Draft) (old now : Tokens) (draft : Draft) (b : InBody room off start old now draft) (l : IsLoaded now) where
  abbrev end_of : Stmts → Reader Stmts
  end_of ss r = expect is_close_brace r >>= λ o. Got ss

  abbrev more : Stmts → Reader Stmts
  more ss r = many (always goes_on) (one_more (level (suc room)) off) ss r >>= end_of

  module _ (g : is_some (goes_on (first now.ahead)) ≡ true) where
    abbrev body_runs : Runs old now (statements room off) (λ v. statement room (off + body_words b.body) v >>= λ s. more (More b.body s))
    body_runs = run_then b.runs (run_here l (λ u e m. ap (λ x. x >>= end_of) (many_some closing (always goes_on) (one_more (level (suc room)) off) (body_loop (level (suc room)) (level_good (suc room)) off) tt b.body u (ap goes_on e ∙ is_further (first now.ahead) g)) ∙ nested (statement room (off + body_words b.body) u)))
      where
        nested : (x : Read Stmt) → (((x >>= λ s. Got (More b.body s)) >>= many (always goes_on) (one_more (level (suc room)) off)) >>= end_of) ≡ (x >>= λ s. more (More b.body s))
        nested (Got s r) = refl
        nested (Stop r) = refl

    pub body_goes : (new : Tokens) (draft2 : Draft) → PartTaken (statement room (off + body_words b.body)) done trailed_statement draft now new draft2 → InBody room off start old new draft2
    body_goes new draft2 t = record { body = More b.body t.tree; runs = went (λ s. more (More b.body s)) body_runs t.runs; made = t.made ∙ ap (done t.tree) b.made; leads = λ u ls q. ap (λ m. trailed_statement t.tree m (trailed_body b.body start u)) (sym b.made) ∙ t.leads (trailed_body b.body start u) ls (b.leads u (t.runs.passed ls) q) }

    pub body_halts : (new : Tokens) (why : Halt) → Halts (statement room (off + body_words b.body)) now why new → Halts (statements room off) old why new
    body_halts new why h = halts_then old now new (statements room off) (statement room (off + body_words b.body)) (λ s. more (More b.body s)) why body_runs h

  module _ (g : is_some (goes_on (first now.ahead)) ≡ false) where
    abbrev body_over : Runs old now (statements room off) (end_of b.body)
    body_over = run_then b.runs (run_here l (λ u e m. ap (λ x. x >>= end_of) (many_none (always goes_on) (one_more (level (suc room)) off) b.body u (ap goes_on e ∙ is_over (first now.ahead) g))))

    pub body_took : (new : Tokens) (draft2 : Draft) (place : ℕ) → place ≡ place_of draft → ExpectedTo (noted_at place (line_ahead now.ahead) now.noted) is_close_brace now new → draft2 ≡ draft → PartTaken (statements room off) all_done trailed_through start old new draft2
    body_took new draft2 place at r e = record { tree = b.body; runs = went (λ o. Got b.body) body_over r.runs; made = e ∙ b.made; leads = λ u ls q. ap (λ v. took (noted (all_done b.body start) v)) (b.leads u (r.runs.passed ls) q) ∙ noted_past now new place (all_done b.body start) (at ∙ ap place_of b.made) r.one r.noted_is ls }

    pub body_stops : (new : Tokens) (why : Halt) → Halts (expect is_close_brace) now why new → Halts (statements room off) old why new
    body_stops new why h = halts_then old now new (statements room off) (expect is_close_brace) (λ o. Got b.body) why body_over h

pub body_ends : (room : ℕ) (start : Draft) (old now : Tokens) (draft : Draft) → ((off : ℕ) → InBody room off start old now draft) → IsLoaded now → is_some (goes_on (first now.ahead)) ≡ false → (r : Result (Unit {0}) Halt) (new : Tokens) (draft2 : Draft) (place : ℕ) → place ≡ place_of draft → ExpectsTo (noted_at place (line_ahead now.ahead) now.noted) is_close_brace now r new → draft2 ≡ draft → CompilesPart (statements room) all_done trailed_through old start r new draft2
body_ends room start old now draft b l g (Ok o) new draft2 place at t e = (λ off. body_took room off start old now draft (b off) l g new draft2 place at t e, t.single, falls_after (b 0).runs.falls t.falls)
body_ends room start old now draft b l g (Err why) new draft2 place at t e = λ off. body_stops room off start old now draft (b off) l g new why t

-- what another reader does with these tokens
pub compiles_as : {A : Type 0} (q p : ℕ → Reader A) (effect : A → Draft → Draft) (step : A → Draft → Trail → Trail) (old : Tokens) (start : Draft) (r : Result (Unit {0}) Halt) (new : Tokens) (draft : Draft) → IsLoaded old → ((off : ℕ) (u : List Placed) → first u ≡ first old.ahead → q off u ≡ p off u) → CompilesPart p effect step old start r new draft → CompilesPart q effect step old start r new draft
compiles_as q p effect step old start (Ok o) new draft l same k = (λ off. let t = k.0 off in record { tree = t.tree; runs = run_then (run_here l (λ u e m. same off u e)) t.runs; made = t.made; leads = t.leads }, k.1, k.2)
compiles_as q p effect step old start (Err why) new draft l same k = λ off. halts_after old old new (q off) (p off) why (run_here l (λ u e m. same off u e)) (k off)

-- by the token that comes
pub at_brace : (room : ℕ) (old : Tokens) → first old.ahead ≡ token.OpenBrace → (off : ℕ) (u : List Placed) → first u ≡ first old.ahead → unheaded room off u ≡ compound (level room) off u
at_brace room old h off u e = ap (λ t. stmt_at room (level room) off t u) (e ∙ h)

pub empty_ends : (room : ℕ) (old : Tokens) (start : Draft) (r : Result (Unit {0}) Halt) (new : Tokens) (draft : Draft) (place : ℕ) → place ≡ place_of start → IsLoaded old → first old.ahead ≡ token.Semicolon → ExpectsTo (noted_at place (line_ahead old.ahead) old.noted) is_semicolon old r new → draft ≡ start → CompilesPart (unheaded room) done trailed_statement old start r new draft
empty_ends room old start r new draft place at l h t e = go r t
  where
    is : (off : ℕ) (u : List Placed) → first u ≡ first old.ahead → unheaded room off u ≡ (expect is_semicolon u >>= λ o. Got Empty)
    is off u f = ap (λ t. stmt_at room (level room) off t u) (f ∙ h) ∙ ap (λ t. (if is_semicolon t then Got tt (after u) else Stop u) >>= λ o. Got Empty) (sym (f ∙ h))

    go : (r : Result (Unit {0}) Halt) → ExpectsTo (noted_at place (line_ahead old.ahead) old.noted) is_semicolon old r new → CompilesPart (unheaded room) done trailed_statement old start r new draft
    go (Ok o) t = (λ off. record { tree = Empty; runs = went (λ o. Got Empty) (run_here l (λ u f m. is off u f)) t.runs; made = e; leads = λ u ls q. ap (λ v. took (noted start v)) q ∙ noted_past old new place start at t.one t.noted_is ls }, t.single, t.falls)
    go (Err why) t = λ off. halts_then old old new (unheaded room off) (expect is_semicolon) (λ o. Got Empty) why (run_here l (λ u f m. is off u f)) t

pub ends_with : (room : ℕ) (made : Expr → Stmt) (last : Instr) → ((e : Expr) (d : Draft) → done (made e) d ≡ emitted last (evaluated e d)) → (first_ : Trail → Trail) → ((e : Expr) (d : Draft) (u : Trail) → trailed_statement (made e) d u ≡ trailed_ended e d (first_ u)) → (q : ℕ → Reader Stmt) (old mid : Tokens) (start : Draft) (r : Result (Unit {0}) Halt) (new : Tokens) (draft : Draft) → work mid ≤ work old → (m : (off : ℕ) → Runs old mid (q off) (λ v. whole.ended room off made v)) → ((off : ℕ) → Leads (λ t. t) first_ old (m off).passed mid) → CompilesPart (rvalue_ended room) (evaluated_to last) trailed_ended mid start r new draft → CompilesPart q done trailed_statement old start r new draft
ends_with room made last same first_ says q old mid start r new draft l m come k =
    compiles_after q done trailed_statement (rvalue_ended room) (evaluated_to last) trailed_ended made same first_ says old mid start r new draft l (λ off. Moves-as (λ u v. q off u ≡ (rvalue_ended room off v >>= λ e. Got (made e))) (λ u v x. x ∙ closed_map is_semicolon made (reader room Rvalue off v)) (m off)) come k

plain_at : (room off : ℕ) (t : Token) (u : List Placed) → (t ≡ token.OpenBrace → ⊥) → (t ≡ token.Semicolon → ⊥) → ((k : Keyword) → t ≡ token.Keyword k → ⊥) → stmt_at room (level room) off t u ≡ whole.ended room off Evaluate u
plain_at room off token.OpenBrace u a b c = absurd (a refl)
plain_at room off token.Semicolon u a b c = absurd (b refl)
plain_at room off (token.Keyword k) u a b c = absurd (c k refl)
plain_at room off _ u a b c = refl

pub plain_ends : (room : ℕ) (old : Tokens) (start : Draft) (r : Result (Unit {0}) Halt) (new : Tokens) (draft : Draft) → IsLoaded old → (first old.ahead ≡ token.OpenBrace → ⊥) → (first old.ahead ≡ token.Semicolon → ⊥) → ((k : Keyword) → first old.ahead ≡ token.Keyword k → ⊥) → CompilesPart (rvalue_ended room) (evaluated_to instr.Pop) trailed_ended old start r new draft → CompilesPart (unheaded room) done trailed_statement old start r new draft
plain_ends room old start r new draft l a b c k =
    ends_with room Evaluate instr.Pop (λ e d. refl) (λ t. t) (λ e d u. refl) (unheaded room) old old start r new draft (omega arith) (λ off. run_here l (λ u e m. ap (λ t. stmt_at room (level room) off t u) e ∙ plain_at room off (first old.ahead) u a b c)) (λ off u ls q. q) k

-- by the keyword that comes
at_keyword : (room off : ℕ) (old : Tokens) (k : Keyword) (u : List Placed) → first old.ahead ≡ token.Keyword k → first u ≡ first old.ahead → unheaded room off u ≡ stmt_at room (level room) off (token.Keyword k) u
at_keyword room off old k u h e = ap (λ t. stmt_at room (level room) off t u) (e ∙ h)

pub at_if : (room : ℕ) (old : Tokens) → first old.ahead ≡ token.Keyword keyword.If → (off : ℕ) (u : List Placed) → first u ≡ first old.ahead → unheaded room off u ≡ conditional_after room off u
at_if room old h off u e = at_keyword room off old keyword.If u h e

pub at_while : (room : ℕ) (old : Tokens) → first old.ahead ≡ token.Keyword keyword.While → (off : ℕ) (u : List Placed) → first u ≡ first old.ahead → unheaded room off u ≡ repeated room off u
at_while room old h off u e = at_keyword room off old keyword.While u h e

pub at_switch : (room : ℕ) (old : Tokens) → first old.ahead ≡ token.Keyword keyword.Switch → (off : ℕ) (u : List Placed) → first u ≡ first old.ahead → unheaded room off u ≡ switched (level room) off u
at_switch room old h off u e = at_keyword room off old keyword.Switch u h e

pub at_goto : (room : ℕ) (old : Tokens) → first old.ahead ≡ token.Keyword keyword.Goto → (off : ℕ) (u : List Placed) → first u ≡ first old.ahead → unheaded room off u ≡ after_current (λ off. whole.ended room off Goto) off u
at_goto room old h off u e = at_keyword room off old keyword.Goto u h e

pub goto_ends : (room : ℕ) (old mid : Tokens) (start : Draft) (r : Result (Unit {0}) Halt) (new : Tokens) (draft : Draft) → Advances old mid → CompilesPart (rvalue_ended room) (evaluated_to instr.Goto) trailed_ended mid start r new draft → CompilesPart (after_current (λ off. whole.ended room off Goto)) done trailed_statement old start r new draft
goto_ends room old mid start r new draft a k = ends_with room Goto instr.Goto (λ e d. refl) took (λ e d u. refl) (after_current (λ off. whole.ended room off Goto)) old mid start r new draft a.moves.falls (λ off. run_past a (λ u e l. refl)) (λ off u ls q. ap took q ∙ past a ls) k

pub return_ends : (room : ℕ) (old mid : Tokens) (start : Draft) (r : Result (Unit {0}) Halt) (new : Tokens) (draft : Draft) (place : ℕ) → place ≡ place_of start → first old.ahead ≡ token.Keyword keyword.Return → AdvancesTo (noted_at place (line_ahead old.ahead) old.noted) old mid → CompilesAfter after_keyword (returned room) done trailed_statement mid start r new draft → CompilesPart (unheaded room) done trailed_statement old start r new draft
return_ends room old mid start (Ok o) new draft place at h a k = (λ off. let t = k.0 off in record { tree = t.tree; runs = run_then (run_past a (λ u e l. at_keyword room off old keyword.Return u h e)) t.runs; made = t.made; leads = λ u ls q. t.leads u ls (ap (λ v. took (noted start v)) q ∙ noted_past old mid place start at a.one a.noted_is (t.runs.passed ls)) }, k.1, falls_after a.moves.falls k.2)
return_ends room old mid start (Err why) new draft place at h a k = λ off. halts_after old mid new (unheaded room off) (returned room off) why (run_past a (λ u e l. at_keyword room off old keyword.Return u h e)) (k off)

-- a break
pub broken_halts : (line : ℕ) (old new : Tokens) (why : Halt) → Halts (expect is_semicolon) old why new → Halts (break_after line) old why new
broken_halts line old new why h = halts_first old new (expect is_semicolon) (λ o. Got (Break line)) why h

pub broken_took : {old new : Tokens} {start draft : Draft} (line : ℕ) → Expected is_semicolon old new → draft ≡ broken_here line start → PartAfter after_keyword (break_after line) done trailed_statement start old new draft
broken_took line r e = record { tree = Break line; runs = began (λ o. Got (Break line)) r.runs; made = e; leads = λ u ls q. ap took q ∙ past_expected r ls }

module _ (room line : ℕ) (old mid : Tokens) (n : line ≡ line_ahead old.ahead) (h : first old.ahead ≡ token.Keyword keyword.Break) (place : ℕ) (a : AdvancesTo (noted_at place (line_ahead old.ahead) old.noted) old mid) where
  abbrev broken_after : (off : ℕ) → Runs old mid (unheaded room off) (break_after line)
  broken_after off = run_past a (λ u e l. at_keyword room off old keyword.Break u h e ∙ ap (λ m. break_after m (after u)) (l ∙ sym n))

  pub break_ends : (start : Draft) (r : Result (Unit {0}) Halt) (new : Tokens) (draft : Draft) → place ≡ place_of start → CompilesAfter after_keyword (untold (break_after line)) done trailed_statement mid start r new draft → CompilesPart (unheaded room) done trailed_statement old start r new draft
  break_ends start (Ok o) new draft at k = (λ off. let t = k.0 tt in record { tree = t.tree; runs = run_then (broken_after off) t.runs; made = t.made; leads = λ u ls q. t.leads u ls (ap (λ v. took (noted start v)) q ∙ noted_past old mid place start at a.one a.noted_is (t.runs.passed ls)) }, k.1, falls_after a.moves.falls k.2)
  break_ends start (Err why) new draft at k = λ off. halts_after old mid new (unheaded room off) (break_after line) why (broken_after off) (k tt)

other_keyword : (room off : ℕ) (k : Keyword) (u : List Placed) → (k ≡ keyword.If → ⊥) → (k ≡ keyword.While → ⊥) → (k ≡ keyword.Switch → ⊥) → (k ≡ keyword.Goto → ⊥) → (k ≡ keyword.Break → ⊥) → (k ≡ keyword.Return → ⊥) → stmt_at room (level room) off (token.Keyword k) u ≡ whole.ended room off Evaluate u
other_keyword room off keyword.If u a b c d f e = absurd (a refl)
other_keyword room off keyword.While u a b c d f e = absurd (b refl)
other_keyword room off keyword.Switch u a b c d f e = absurd (c refl)
other_keyword room off keyword.Goto u a b c d f e = absurd (d refl)
other_keyword room off keyword.Break u a b c d f e = absurd (f refl)
other_keyword room off keyword.Return u a b c d f e = absurd (e refl)
other_keyword room off _ u a b c d f e = refl

pub other_ends : (room : ℕ) (k : Keyword) (old : Tokens) (start : Draft) (r : Result (Unit {0}) Halt) (new : Tokens) (draft : Draft) → IsLoaded old → first old.ahead ≡ token.Keyword k → (k ≡ keyword.If → ⊥) → (k ≡ keyword.While → ⊥) → (k ≡ keyword.Switch → ⊥) → (k ≡ keyword.Goto → ⊥) → (k ≡ keyword.Break → ⊥) → (k ≡ keyword.Return → ⊥) → CompilesPart (rvalue_ended room) (evaluated_to instr.Pop) trailed_ended old start r new draft → CompilesPart (unheaded room) done trailed_statement old start r new draft
other_ends room k old start r new draft l h a b c d g e x =
    ends_with room Evaluate instr.Pop (λ e d. refl) (λ t. t) (λ e d u. refl) (unheaded room) old old start r new draft (omega arith) (λ off. run_here l (λ u f m. at_keyword room off old k u h f ∙ other_keyword room off k u a b c d g e)) (λ off u ls q. q) x

-- a return
module _ (room : ℕ) (old : Tokens) where
  module _ (mid : Tokens) (a : Advances old mid) (p : is_open_paren (first old.ahead) ≡ true) where
    abbrev value_after : (off : ℕ) → Runs old mid (returned room off) (return_value room off)
    value_after off = run_past a (λ u e l. ap (λ b. if b then return_value room off (after u) else expect is_semicolon u >>= (λ o. Got Return)) (ap is_open_paren e ∙ p))

    pub returned_value : (start : Draft) (r : Result (Unit {0}) Halt) (new : Tokens) (draft : Draft) → CompilesAfter after_parenthesis (return_value room) done trailed_statement mid start r new draft → CompilesAfter after_keyword (returned room) done trailed_statement old start r new draft
    returned_value start (Ok o) new draft k = (λ off. let t = k.0 off in record { tree = t.tree; runs = run_then (value_after off) t.runs; made = t.made; leads = λ u ls q. t.leads u ls (ap took q ∙ past a (t.runs.passed ls)) }, k.1, falls_after a.moves.falls k.2)
    returned_value start (Err why) new draft k = λ off. halts_after old mid new (returned room off) (return_value room off) why (value_after off) (k off)

  module _ (l : IsLoaded old) (p : is_open_paren (first old.ahead) ≡ false) where
    abbrev bare : (off : ℕ) → Runs old old (returned room off) (λ u. expect is_semicolon u >>= (λ o. Got Return))
    bare off = run_here l (λ u e m. ap (λ b. if b then return_value room off (after u) else expect is_semicolon u >>= (λ o. Got Return)) (ap is_open_paren e ∙ p))

    pub returned_halts : (off : ℕ) (new : Tokens) (why : Halt) → Halts (expect is_semicolon) old why new → Halts (returned room off) old why new
    returned_halts off new why h = halts_then old old new (returned room off) (expect is_semicolon) (λ o. Got Return) why (bare off) h

    pub returned_took : (off : ℕ) (new : Tokens) (start d1 d2 draft : Draft) → Expected is_semicolon old new → d1 ≡ start → d2 ≡ emitted (instr.Constant 0) d1 → draft ≡ emitted instr.Return d2 → PartAfter after_keyword (returned room off) done trailed_statement start old new draft
    returned_took off new start d1 d2 draft r e1 e2 e3 = record { tree = Return; runs = went (λ o. Got Return) (bare off) r.runs; made = e3 ∙ rw (e2, e1) refl; leads = λ u ls q. ap took q ∙ past_expected r ls }

-- headings
pub record InHeadings (start : Draft) (old now : Tokens) (draft : Draft) : Type 0 where
  pub headings : Headings
  pub moves : Moves old now (λ u v. (room off : ℕ) → statement room off u ≡ (statement room off v >>= λ s. Got (headed headings s)))
  pub made : (s : Stmt) → done (headed headings s) start ≡ done s draft
  pub leads : (u : Trail) (ls : List ℕ) → u ≡ trail (moves.passed ls) old.noted → (s : Stmt) → trailed_statement (headed headings s) start u ≡ trailed_statement s draft (trail ls now.noted)
  pub loaded : IsLoaded now

unchanged : (x : Read Stmt) → x ≡ (x >>= λ s. Got s)
unchanged (Got s r) = refl
unchanged (Stop r) = refl

pub headings_begin : (start : Draft) (old : Tokens) → IsLoaded old → InHeadings start old old start
headings_begin start old l = record { headings = No_heading; moves = run_seen l (λ u more e f m room off. unchanged (statement room off u)); made = λ s. refl; leads = λ u ls q s. ap (trailed_statement s start) q; loaded = l }

module _ {start draft : Draft} {old now : Tokens} (b : InHeadings start old now draft) where
  abbrev After_headings : List Placed → List Placed → Type 0
  After_headings u v = (room off : ℕ) → statement room off u ≡ (statement room off v >>= λ s. Got (headed b.headings s))

  one_further : (h : Heading) (x : Read Stmt) → ((x >>= λ s. Got (Headed h s)) >>= λ s. Got (headed b.headings s)) ≡ (x >>= λ s. Got (headed b.headings (Headed h s)))
  one_further h (Got s r) = refl
  one_further h (Stop r) = refl

  pub headings_go : {new : Tokens} {draft2 : Draft} → TookHeading draft now new draft2 → InHeadings start old new draft2
  headings_go {new} {draft2} t = record {
    headings = Then b.headings t.heading;
    moves = Moves-append {P = After_headings} {Q = IsHeadedBy t.heading} (λ u w. (room off : ℕ) → statement room off u ≡ (statement room off w >>= λ s. Got (headed b.headings (Headed t.heading s)))) (λ u v w p q room off. p room off ∙ ap (λ x. x >>= λ s. Got (headed b.headings s)) (q room off) ∙ one_further t.heading (statement room off w)) b.moves t.moves;
    made = λ s. b.made (Headed t.heading s) ∙ ap (done s) (sym t.made);
    leads = λ u ls q s. b.leads u (t.moves.passed ls) q (Headed t.heading s) ∙ ap (trailed_statement s (effects.headed t.heading draft)) (notes now new t.leads ls) ∙ ap (λ m. trailed_statement s m (trail ls new.noted)) (sym t.made);
    loaded = t.loaded;
  }

  pub headings_stop : (new : Tokens) (draft2 : Draft) (why : Halt) → FindsHeading now draft (Err why) new draft2 → (room off : ℕ) → Halts (statement room off) old why new
  headings_stop new draft2 halt.Fault h room off = (Moves-append {P = After_headings} {Q = StopsHeading} (λ u w. statement room off u ≡ Stop w) (λ u v w p q. p room off ∙ ap (λ x. x >>= λ s. Got (headed b.headings s)) (q room off)) b.moves h.0, h.1)
  headings_stop new draft2 halt.Device h room off = Moves-breaks b.moves h

  abbrev headings_on : {mid : Tokens} (room : ℕ) → NoHeading now mid → (off : ℕ) → Runs old mid (statement room off) (λ v. unheaded room off v >>= λ s. Got (headed b.headings s))
  headings_on room h off = Moves-append {P = After_headings} {Q = IsUnheaded} (λ u w. statement room off u ≡ (unheaded room off w >>= λ s. Got (headed b.headings s))) (λ u v w p q. p room off ∙ ap (λ x. x >>= λ s. Got (headed b.headings s)) (q room off)) b.moves h.moves

  pub headings_end : (room : ℕ) (mid : Tokens) (d : Draft) → NoHeading now mid × (d ≡ draft) → (r : Result (Unit {0}) Halt) (new : Tokens) (draft2 : Draft) → CompilesPart (unheaded room) done trailed_statement mid d r new draft2 → CompilesPart (statement room) done trailed_statement old start r new draft2
  headings_end room mid d h r new draft2 k = go r k
    where
      go : (r : Result (Unit {0}) Halt) → CompilesPart (unheaded room) done trailed_statement mid d r new draft2 → CompilesPart (statement room) done trailed_statement old start r new draft2
      go (Ok o) k = (
        λ off. let t = k.0 off in record {
          tree = headed b.headings t.tree;
          runs = went (λ s. Got (headed b.headings s)) (headings_on room h.0 off) t.runs;
          made = t.made ∙ ap (done t.tree) h.1 ∙ sym (b.made t.tree);
          leads = λ u ls q. b.leads u (h.0.moves.passed (t.runs.passed ls)) q t.tree
              ∙ ap (λ k. trailed_statement t.tree draft (trail k now.noted)) (h.0.none (t.runs.passed ls)) ∙ ap (λ n. trailed_statement t.tree draft (trail (t.runs.passed ls) n)) (sym h.0.noted) ∙ ap (λ m. trailed_statement t.tree m (trail (t.runs.passed ls) mid.noted)) (sym h.1) ∙ notes mid new t.leads ls;
        },
        k.1,
        falls_after (headings_on room h.0 0).falls k.2,
      )
      go (Err why) k = λ off. halts_then old mid new (statement room off) (unheaded room off) (λ s. Got (headed b.headings s)) why (headings_on room h.0 off) (k off)

-- a place after instructions
pub place_is : (d : Draft) (code : List Instr) (n : ℕ) → n ≡ place_of d → (n ≡ 0 → ⊥) → IfMade d (λ s m. code ≡ m.code) → length code ≡ place_of d
place_is (Faulty f) code n e z h = absurd (z e)
place_is (Going s None) code n e z h = absurd (z e)
place_is (Going s (Some m)) code n e z h = ap length h
