-- A statement that is read is spelled by the tokens that it took, and each else went to the nearest if.
use Rattle.std.proofs.Common.{◌≡◌, ℕ, zero, suc, ◌+◌, List, [], ◌∷◌, ◌++◌, Bool, true, false, sym, ap, ◌∙◌, refl, subst, append_assoc, Option, Some, None}
use Rattle.blang.specs.declared.token.Token.{Token}
use Rattle.blang.specs.declared.token.Token.TheVariants as token
use Rattle.blang.specs.declared.token.Keyword.TheVariants as keyword
use Rattle.blang.specs.declared.token.Placed.{Placed}
use Rattle.blang.specs.Trees.{mark, kept, kept_tokens, Identifier, Constant, name_token, constant_token, Heading, Auto, Extrn, Label, Case, Default, Stmt, Headed, Compound, If, IfElse, While, Switch, Goto, Break, Return, ReturnValue, Evaluate, Empty, Stmts, Nothing, More, keyword_mark}
use Rattle.bgrammar.specs.Spelling.{spell, list_spelling, size_spelling, declared_spelling, name_spelling, spell_heading, spell_statement, spell_body}
use Rattle.blang.specs.Cut.{placed}
use Rattle.blang.specs.WellFormed.{rvalue_rank, IsNonempty, is_open, IsHeading}
use Rattle.bgrammar.specs.Fitting.{Fits, statement_words, words, body_words, Sits, AllSit}
use Rattle.bgrammar.specs.Reading.{Read, Got, Stop, ◌>>=◌, first}
use Rattle.bgrammar.specs.ExpressionReader.{always, Rvalue}
use Rattle.bgrammar.specs.StatementReader.{is_open_paren, is_else, name_at, name, constant_at, constant, size_at, size, declared, Headings, No_heading, Then, headed, Lead, no_lead, Step, Declares, Imports, Selects, Defaults, Mentions, Labels, step_at, lead_step, lead_turn, lead, goes_on, Level, else_part, one_more, ended, returned, stmt_at, stmt_after, stmt_with, level, statement}
use Rattle.bgrammar.proofs.ExpressionSound.{Sound, sound_bind, sound_weaken, sound_turns, by_first, reader_sound}
use Rattle.bgrammar.proofs.CommaLaws.{list_sound}
use Rattle.bgrammar.proofs.KeptLemmas.{first-kept}
use Rattle.bgrammar.proofs.Forms.{semicolon, Thing, Value, Inner, Body, Declarations, Names, A_constant, read, Part, Item, Fields, walk_parts, onto, onto_is, read_parts, FieldsFit, flat, block_parts, tested_parts, switch_parts, value_parts, return_parts, end_parts, declaration_parts, import_parts, case_parts, default_parts}
use Rattle.bgrammar.proofs.FormLaws.{Told, told, ToldThing, expect_mark, sound_parts}
use Rattle.blang.specs.Walk.{walk_declared, walk_import, walk_heading, walk_statement}

-- names, constants and declared names
name_sound_at : (t : Token) (line : ℕ) (ts : List Placed) → Sound name_spelling (λ w. Unit {0}) (kept_tokens (placed t line ∷ ts)) (name_at t (placed t line ∷ ts))
name_sound_at (token.Name x) line ts = (refl, tt)
name_sound_at _ line ts = tt

pub name_sound : (ts : List Placed) → Sound name_spelling (λ w. Unit {0}) (kept_tokens ts) (name ts)
name_sound ts = by_first (λ ts. Sound name_spelling (λ w. Unit {0}) (kept_tokens ts) (name ts)) tt name_sound_at ts

size_sound_at : (t : Token) (line : ℕ) (ts : List Placed) → Sound size_spelling (λ n. Unit {0}) (kept_tokens (placed t line ∷ ts)) (size_at t (placed t line ∷ ts))
size_sound_at (token.Number n) line ts = (refl, tt)
size_sound_at _ line ts = (refl, tt)

pub size_sound : (ts : List Placed) → Sound size_spelling (λ n. Unit {0}) (kept_tokens ts) (size ts)
size_sound ts = by_first (λ ts. Sound size_spelling (λ n. Unit {0}) (kept_tokens ts) (size ts)) (refl, tt) size_sound_at ts

declared_sound : (ts : List Placed) → Sound declared_spelling (λ d. Unit {0}) (kept_tokens ts) (declared ts)
declared_sound ts = sound_bind name_spelling declared_spelling (λ w. Unit {0}) (λ d. Unit {0}) (kept_tokens ts) (name ts) (λ w r. size r >>= λ n. Got (record { word = w; size = n })) (name_sound ts) (λ w rest o. go w rest (size rest) (size_sound rest))
  where
    go : (w : Identifier) (rest : List Placed) (x : Read (Option ℕ)) → Sound size_spelling (λ n. Unit {0}) (kept_tokens rest) x → Sound declared_spelling (λ d. Unit {0}) (name_token w ∷ kept_tokens rest) (x >>= λ n. Got (record { word = w; size = n }))
    go w rest (Got n r) s = (ap (λ l. name_token w ∷ l) s.0, tt)
    go w rest (Stop r) s = tt

abbrev constant_spelling : Constant → List Placed
constant_spelling c = mark (constant_token c) ∷ []

constant_sound_at : (t : Token) (line : ℕ) (ts : List Placed) → Sound constant_spelling (λ c. Unit {0}) (kept_tokens (placed t line ∷ ts)) (constant_at t (placed t line ∷ ts))
constant_sound_at (token.Number n) line ts = (refl, tt)
constant_sound_at (token.Character n) line ts = (refl, tt)
constant_sound_at _ line ts = tt

constant_sound : (ts : List Placed) → Sound constant_spelling (λ c. Unit {0}) (kept_tokens ts) (constant ts)
constant_sound ts = by_first (λ ts. Sound constant_spelling (λ c. Unit {0}) (kept_tokens ts) (constant ts)) tt constant_sound_at ts

-- the tokens are its spelling; and where an else could still be its own, none comes
abbrev pub Spelled : (Stmt → Type 0) → List Placed → Read Stmt → Type 0
Spelled P whole x = Told spell_statement P (λ s t. is_open s ≡ true → is_else t ≡ false) whole x

-- the things at a level, by its expressions and statements
module _ (room : ℕ) (level : Level) (expr : (off : ℕ) (ts : List Placed) → Sound spell (λ e. Fits e rvalue_rank room off) (kept_tokens ts) (level.expr off ts)) (stmt : (off : ℕ) (ts : List Placed) → Spelled (λ s. Sits s room off) (kept_tokens ts) (level.stmt off ts)) where
  one_more_sound : (off : ℕ) (o : Unit {0}) (before : Stmts) (ts : List Placed) → goes_on (first ts) ≡ Some o → AllSit before room off → Sound spell_body (λ ss. AllSit ss room off) (spell_body before ++ kept_tokens ts) (one_more level off o before ts)
  one_more_sound off o before ts h a = go (level.stmt (off + body_words before) ts) (stmt (off + body_words before) ts)
    where
      go : (x : Read Stmt) → Spelled (λ s. Sits s room (off + body_words before)) (kept_tokens ts) x → Sound spell_body (λ ss. AllSit ss room off) (spell_body before ++ kept_tokens ts) (x >>= λ s. Got (More before s))
      go (Got s r) p = (ap (λ x. spell_body before ++ x) p.0 ∙ sym (append_assoc (spell_body before) (spell_statement s) (kept_tokens r)), (a, p.1))
      go (Stop r) p = tt

  pub things_told : (j : Thing) (off : ℕ) (ts : List Placed) → ToldThing room off j (kept_tokens ts) (read level j off ts)
  things_told Value off ts = told spell (λ e. Fits e rvalue_rank room off) (kept_tokens ts) (level.expr off ts) (expr off ts)
  things_told Inner off ts = stmt off ts
  things_told Body off ts = told spell_body (λ ss. AllSit ss room off) (kept_tokens ts) _ (sound_turns spell_body (λ ss. AllSit ss room off) (always goes_on) (one_more level off) (one_more_sound off) _ Nothing ts tt)
  things_told Declarations off ts = told (list_spelling walk_declared) (λ ds. IsNonempty ds) (kept_tokens ts) _ (sound_weaken (list_spelling walk_declared) _ (λ ds. IsNonempty ds) (kept_tokens ts) _ (λ ds l. l.0) (list_sound (λ before. declared) walk_declared (λ before d. Unit {0}) (λ before. declared_sound) ts))
  things_told Names off ts = told (list_spelling walk_import) (λ ws. IsNonempty ws) (kept_tokens ts) _ (sound_weaken (list_spelling walk_import) _ (λ ws. IsNonempty ws) (kept_tokens ts) _ (λ ws l. l.0) (list_sound (λ before. name) walk_import (λ before w. Unit {0}) (λ before. name_sound) ts))
  things_told A_constant off ts = told constant_spelling (λ c. Unit {0}) (kept_tokens ts) (constant ts) (constant_sound ts)

pub flat_told : (room : ℕ) (j : Thing) (off : ℕ) (ts : List Placed) → ToldThing room off j (kept_tokens ts) (read (flat room) j off ts)
flat_told room = things_told room (flat room) (λ off ts. reader_sound room Rvalue off ts) (λ off ts. expect_mark (Spelled (λ s. Sits s room off) (kept_tokens ts)) (λ r. tt) semicolon (λ x. Got Empty x) ts (λ r e. (e, tt, λ n. cc)))

-- what was taken before a statement
abbrev pub spell_headings : Headings → List Placed
spell_headings No_heading = []
spell_headings (Then before h) = spell_headings before ++ spell_heading h

abbrev pub spell_taken : Headings → Option Identifier → List Placed
spell_taken hs None = spell_headings hs
spell_taken hs (Some w) = spell_headings hs ++ (name_token w ∷ [])

abbrev pub spell_lead : Lead → List Placed
spell_lead l = spell_taken l.headings l.word

abbrev pub AllHeadings : Headings → Type 0
AllHeadings No_heading = Unit {0}
AllHeadings (Then before h) = AllHeadings before × IsHeading h

abbrev IsLead : Lead → Type 0
IsLead l = AllHeadings l.headings

pub spell-headed : (hs : Headings) (s : Stmt) → spell_statement (headed hs s) ≡ spell_headings hs ++ spell_statement s
spell-headed No_heading s = refl
spell-headed (Then before h) s = spell-headed before (Headed h s) ∙ sym (append_assoc (spell_headings before) (spell_heading h) (spell_statement s))

pub is_open-headed : (hs : Headings) (s : Stmt) → is_open (headed hs s) ≡ is_open s
is_open-headed No_heading s = refl
is_open-headed (Then before h) s = is_open-headed before (Headed h s)

pub Sits-headed : (hs : Headings) (s : Stmt) (room off : ℕ) → AllHeadings hs → Sits s room off → Sits (headed hs s) room off
Sits-headed No_heading s room off h f = f
Sits-headed (Then before g) s room off h f = Sits-headed before (Headed g s) room off h.0 (h.1, f)

-- what a step is at a token
abbrev pub StepIs : Option Identifier → Token → Step → Type 0
StepIs o t Declares = (o ≡ None) × (t ≡ token.Keyword keyword.Auto)
StepIs o t Imports = (o ≡ None) × (t ≡ token.Keyword keyword.Extrn)
StepIs o t Selects = (o ≡ None) × (t ≡ token.Keyword keyword.Case)
StepIs o t Defaults = (o ≡ None) × (t ≡ token.Keyword keyword.Default)
StepIs o t (Mentions x) = (o ≡ None) × (t ≡ token.Name x)
StepIs o t (Labels w) = (o ≡ Some w) × (t ≡ token.Colon)

pub step_is : (o : Option Identifier) (t : Token) (b : Step) → step_at o t ≡ Some b → StepIs o t b
step_is None (token.Keyword keyword.Auto) b h = let n : Declares ≡ b = cc in subst (StepIs None (token.Keyword keyword.Auto)) n (refl, refl)
step_is None (token.Keyword keyword.Extrn) b h = let n : Imports ≡ b = cc in subst (StepIs None (token.Keyword keyword.Extrn)) n (refl, refl)
step_is None (token.Keyword keyword.Case) b h = let n : Selects ≡ b = cc in subst (StepIs None (token.Keyword keyword.Case)) n (refl, refl)
step_is None (token.Keyword keyword.Default) b h = let n : Defaults ≡ b = cc in subst (StepIs None (token.Keyword keyword.Default)) n (refl, refl)
step_is None (token.Name x) b h = let n : Mentions x ≡ b = cc in subst (StepIs None (token.Name x)) n (refl, refl)
step_is (Some w) token.Colon b h = let n : Labels w ≡ b = cc in subst (StepIs (Some w) token.Colon) n (refl, refl)
step_is o _ b h = cc

module _ (l : Lead) (t : Placed) (ts : List Placed) where
  abbrev Whole : List Placed
  Whole = spell_lead l ++ kept_tokens (t ∷ ts)

  -- the tokens up to one that is known, where no name was taken before it
  begun : (u : Token) → (l.word ≡ None) × (t.token ≡ u) → Whole ≡ spell_headings l.headings ++ (kept (placed u t.line) ∷ kept_tokens ts)
  begun u i = ap (λ o. spell_taken l.headings o ++ kept_tokens (t ∷ ts)) i.0 ∙ ap (λ u. spell_headings l.headings ++ (kept (placed u t.line) ∷ kept_tokens ts)) i.1

  -- a heading as a row, after its first token
  heading_told : (k : Placed) (ps : List Part) (made : Fields ps → Heading) → ((x : Fields ps) (rest : List Placed) → onto (walk_heading (made x)) rest ≡ k ∷ onto (walk_parts ps x) rest) → ((x : Fields ps) (rest : List Placed) → FieldsFit ps x 0 0 rest → IsHeading (made x)) → AllHeadings l.headings
      → Whole ≡ spell_headings l.headings ++ (k ∷ kept_tokens ts) → Sound spell_lead IsLead Whole (read_parts (flat 0) ps 0 (λ x. Got (record { headings = Then l.headings (made x); word = None })) ts)
  heading_told k ps made shape is all eq =
      sound_parts 0 (flat 0) (flat_told 0) (Sound spell_lead IsLead Whole) (λ r. tt) ps 0 (λ x. Got (record { headings = Then l.headings (made x); word = None })) ts
      (λ x r e f. (eq ∙ ap (λ y. spell_headings l.headings ++ y) (ap (λ y. k ∷ y) e ∙ sym (shape x (kept_tokens r)) ∙ onto_is (walk_heading (made x)) (kept_tokens r)) ∙ sym (append_assoc (spell_headings l.headings) (spell_heading (made x)) (kept_tokens r)), (all, is x (kept_tokens r) f)))

  step_told : (b : Step) → StepIs l.word t.token b → AllHeadings l.headings → Sound spell_lead IsLead Whole (lead_turn b l (t ∷ ts))
  step_told Declares i all = heading_told (keyword_mark keyword.Auto) declaration_parts (λ x. Auto x.0) (λ x rest. refl) (λ x rest f. f.0) all (begun (token.Keyword keyword.Auto) i)
  step_told Imports i all = heading_told (keyword_mark keyword.Extrn) import_parts (λ x. Extrn x.0) (λ x rest. refl) (λ x rest f. f.0) all (begun (token.Keyword keyword.Extrn) i)
  step_told Selects i all = heading_told (placed (token.Keyword keyword.Case) t.line) case_parts (λ x. Case t.line x.0) (λ x rest. refl) (λ x rest f. tt) all (begun (token.Keyword keyword.Case) i)
  step_told Defaults i all = heading_told (placed (token.Keyword keyword.Default) t.line) default_parts (λ x. Default t.line) (λ x rest. refl) (λ x rest f. tt) all (begun (token.Keyword keyword.Default) i)
  step_told (Mentions x) i all = (begun (token.Name x) i ∙ sym (append_assoc (spell_headings l.headings) (placed (token.Name x) t.line ∷ []) (kept_tokens ts)), all)
  step_told (Labels w) i all = (
    ap (λ o. spell_taken l.headings o ++ kept_tokens (t ∷ ts)) i.0 ∙ ap (λ u. (spell_headings l.headings ++ (name_token w ∷ [])) ++ (kept (placed u t.line) ∷ kept_tokens ts)) i.1
        ∙ append_assoc (spell_headings l.headings) (name_token w ∷ []) (mark token.Colon ∷ kept_tokens ts) ∙ sym (append_assoc (spell_headings l.headings) (spell_heading (Label w)) (kept_tokens ts)),
    (all, tt),
  )

no_step_at_end : (o : Option Identifier) → step_at o token.End ≡ None
no_step_at_end None = refl
no_step_at_end (Some w) = refl

turn_told : (b : Step) (l : Lead) (ts : List Placed) → lead_step l (first ts) ≡ Some b → IsLead l → Sound spell_lead IsLead (spell_lead l ++ kept_tokens ts) (lead_turn b l ts)
turn_told b l [] h all = let n : None ≡ Some b = sym (no_step_at_end l.word) ∙ h in cc
turn_told b l (t ∷ ts) h all = step_told l t ts b (step_is l.word t.token b h) all

pub lead_sound : (ts : List Placed) → Sound spell_lead IsLead (kept_tokens ts) (lead ts)
lead_sound ts = sound_turns spell_lead IsLead lead_step lead_turn turn_told _ no_lead ts tt

-- a row, after tokens that were read before it
row_told : (here off room at : ℕ) (level : Level) → ((j : Thing) (off : ℕ) (ts : List Placed) → ToldThing room off j (kept_tokens ts) (read level j off ts)) → (before : List Placed → List Placed) (ps : List Part) (made : Fields ps → Stmt) → ((x : Fields ps) (rest : List Placed) → onto (walk_statement (made x)) rest ≡ before (onto (walk_parts ps x) rest))
    → ((x : Fields ps) (rest : List Placed) → FieldsFit ps x room at rest → Sits (made x) here off × (is_open (made x) ≡ true → is_else (first rest) ≡ false)) → (whole ts : List Placed) → whole ≡ before (kept_tokens ts) → Spelled (λ s. Sits s here off) whole (read_parts level ps at (λ x. Got (made x)) ts)
row_told here off room at level each before ps made shape sits whole ts eq =
    sound_parts room level each (Spelled (λ s. Sits s here off) whole) (λ r. tt) ps at (λ x. Got (made x)) ts
    (λ x r e f. let s = sits x (kept_tokens r) f in (eq ∙ ap before e ∙ sym (shape x (kept_tokens r)) ∙ onto_is (walk_statement (made x)) (kept_tokens r), s.0, λ o. ap is_else (sym (first-kept r)) ∙ s.1 o))

abbrev LevelTold : ℕ → Type 0
LevelTold zero = Unit {0}
LevelTold (suc k) = (off : ℕ) (ts : List Placed) → Spelled (λ s. Sits s k off) (kept_tokens ts) ((level (suc k)).stmt off ts)

deep_told : (k : ℕ) → LevelTold (suc k) → (j : Thing) (off : ℕ) (ts : List Placed) → ToldThing k off j (kept_tokens ts) (read (level (suc k)) j off ts)
deep_told k h = things_told k (level (suc k)) (λ off ts. reader_sound k Rvalue off ts) h

-- a row that opens a level
entered : (room : ℕ) → LevelTold room → (off : ℕ) (w t : Placed) (ps : List Part) (made : Fields ps → Stmt) → ((x : Fields ps) (rest : List Placed) → onto (walk_statement (made x)) rest ≡ w ∷ onto (walk_parts ps x) rest)
    → ((k : ℕ) (x : Fields ps) (rest : List Placed) → FieldsFit ps x k off rest → Sits (made x) (suc k) off × (is_open (made x) ≡ true → is_else (first rest) ≡ false)) → (ts : List Placed) → Spelled (λ s. Sits s room off) (w ∷ kept_tokens ts) ((level room).enter (t ∷ ts) >>= λ o. read_parts (level room) ps off (λ x. Got (made x)))
entered zero h off w t ps made shape sits ts = tt
entered (suc k) h off w t ps made shape sits ts = row_told (suc k) off k off (level (suc k)) (deep_told k h) (λ l. w ∷ l) ps made shape (sits k) (w ∷ kept_tokens ts) ts refl

-- the rest of an if, after its statement
pub only_else : (t : Token) → is_else t ≡ true → t ≡ token.Keyword keyword.Else
only_else (token.Keyword keyword.Else) h = refl
only_else _ h = cc

not_open : (s : Stmt) (t : Token) → is_else t ≡ true → (is_open s ≡ true → is_else t ≡ false) → is_open s ≡ false
not_open s t e h = go (is_open s) refl
  where
    go : (b : Bool) → is_open s ≡ b → is_open s ≡ false
    go true o = let n : true ≡ false = sym e ∙ h o in cc
    go false o = o

module _ (k : ℕ) (told_below : LevelTold (suc k)) (off : ℕ) (ts : List Placed) where
  abbrev IfHere : Read Stmt → Type 0
  IfHere x = Spelled (λ s. Sits s (suc k) off) (keyword_mark keyword.If ∷ kept_tokens ts) x

  else_told : (x : Fields tested_parts) (r : List Placed) → kept_tokens ts ≡ onto (walk_parts tested_parts x) (kept_tokens r) → FieldsFit tested_parts x k off (kept_tokens r) → (b : Bool) → is_else (first r) ≡ b → IfHere (else_part (level (suc k)) off x.0 x.1.0 r)
  else_told x [] e f true h = cc
  else_told x (t ∷ r) e f true h =
      rw h (row_told (suc k) off k (off + words x.0 + statement_words x.1.0) (level (suc k)) (deep_told k told_below) (λ l. keyword_mark keyword.If ∷ onto (walk_parts tested_parts x) (keyword_mark keyword.Else ∷ l)) (Item Inner ∷ []) (λ y. IfElse x.0 x.1.0 y.0) (λ y rest. refl)
      (λ y rest g. ((not_open x.1.0 (first (kept_tokens (t ∷ r))) (ap is_else (first-kept (t ∷ r)) ∙ h) f.2.1, (f.0, f.2.0, g.0)), g.1)) (keyword_mark keyword.If ∷ kept_tokens ts) r
      (ap (λ l. keyword_mark keyword.If ∷ l) e ∙ ap (λ u. keyword_mark keyword.If ∷ onto (walk_parts tested_parts x) (kept (placed u t.line) ∷ kept_tokens r)) (only_else t.token h)))
  else_told x r e f false h = rw h (ap (λ l. keyword_mark keyword.If ∷ l) e ∙ onto_is (walk_statement (If x.0 x.1.0)) (kept_tokens r), (f.0, f.2.0), λ o. h)

  if_told : IfHere (read_parts (level (suc k)) tested_parts off (λ x. else_part (level (suc k)) off x.0 x.1.0) ts)
  if_told = sound_parts k (level (suc k)) (deep_told k told_below) IfHere (λ r. tt) tested_parts off (λ x. else_part (level (suc k)) off x.0 x.1.0) ts (λ x r e f. else_told x r e f (is_else (first r)) refl)

module _ (room : ℕ) (h : LevelTold room) where
  abbrev Here : ℕ → Stmt → Type 0
  Here off s = Sits s room off

  here_told : (off : ℕ) (before : List Placed) (ps : List Part) (made : Fields ps → Stmt) → ((x : Fields ps) (rest : List Placed) → onto (walk_statement (made x)) rest ≡ before ++ onto (walk_parts ps x) rest) → ((x : Fields ps) (rest : List Placed) → FieldsFit ps x room off rest → Sits (made x) room off × (is_open (made x) ≡ true → is_else (first rest) ≡ false))
      → (ts : List Placed) → Spelled (Here off) (before ++ kept_tokens ts) (read_parts (flat room) ps off (λ x. Got (made x)) ts)
  here_told off before ps made shape sits ts = row_told room off room off (flat room) (flat_told room) (λ l. before ++ l) ps made shape sits (before ++ kept_tokens ts) ts refl

  tested_told : (off : ℕ) (line : ℕ) (ts : List Placed) → Spelled (Here off) (keyword_mark keyword.If ∷ kept_tokens ts) (stmt_at room (level room) off (token.Keyword keyword.If) (placed (token.Keyword keyword.If) line ∷ ts))
  tested_told off line ts = go room h
    where
      go : (room : ℕ) → LevelTold room → Spelled (λ s. Sits s room off) (keyword_mark keyword.If ∷ kept_tokens ts) (stmt_at room (level room) off (token.Keyword keyword.If) (placed (token.Keyword keyword.If) line ∷ ts))
      go zero h = tt
      go (suc k) h = if_told k h off ts

  evaluated : (off : ℕ) (ts : List Placed) → Spelled (Here off) (kept_tokens ts) (ended room off Evaluate ts)
  evaluated off ts = here_told off [] value_parts (λ x. Evaluate x.0) (λ x rest. refl) (λ x rest f. (f.0, λ n. cc)) ts

  returned_told : (off : ℕ) (ts : List Placed) (b : Bool) → is_open_paren (first ts) ≡ b → Spelled (Here off) (keyword_mark keyword.Return ∷ kept_tokens ts) (returned room off ts)
  returned_told off ts true e = let s = here_told off (keyword_mark keyword.Return ∷ []) return_parts (λ x. ReturnValue x.0) (λ x rest. refl) (λ x rest f. (f.0, λ n. cc)) ts in let t = rw e at s in rw e t
  returned_told off ts false e = rw e (here_told off (keyword_mark keyword.Return ∷ []) end_parts (λ x. Return) (λ x rest. refl) (λ x rest f. (tt, λ n. cc)) ts)

  stmt_told_at : (off : ℕ) (t : Token) (line : ℕ) (ts : List Placed) → Spelled (Here off) (kept_tokens (placed t line ∷ ts)) (stmt_at room (level room) off t (placed t line ∷ ts))
  stmt_told_at off token.OpenBrace line ts = entered room h off (mark token.OpenBrace) (placed token.OpenBrace line) block_parts (λ x. Compound x.0) (λ x rest. refl) (λ k x rest f. (f.0, λ n. cc)) ts
  stmt_told_at off (token.Keyword keyword.If) line ts = tested_told off line ts
  stmt_told_at off (token.Keyword keyword.While) line ts = entered room h off (keyword_mark keyword.While) (placed (token.Keyword keyword.While) line) tested_parts (λ x. While x.0 x.1.0) (λ x rest. refl) (λ k x rest f. ((f.0, f.2.0), f.2.1)) ts
  stmt_told_at off (token.Keyword keyword.Switch) line ts = entered room h off (keyword_mark keyword.Switch) (placed (token.Keyword keyword.Switch) line) switch_parts (λ x. Switch x.0 x.1.0) (λ x rest. refl) (λ k x rest f. ((f.0, f.2.0), λ n. cc)) ts
  stmt_told_at off (token.Keyword keyword.Goto) line ts = here_told off (keyword_mark keyword.Goto ∷ []) value_parts (λ x. Goto x.0) (λ x rest. refl) (λ x rest f. (f.0, λ n. cc)) ts
  stmt_told_at off (token.Keyword keyword.Break) line ts = here_told off (placed (token.Keyword keyword.Break) line ∷ []) end_parts (λ x. Break line) (λ x rest. refl) (λ x rest f. (tt, λ n. cc)) ts
  stmt_told_at off (token.Keyword keyword.Return) line ts = returned_told off ts (is_open_paren (first ts)) refl
  stmt_told_at off token.Semicolon line ts = (refl, tt, λ n. cc)
  stmt_told_at off t line ts = evaluated off (placed t line ∷ ts)

  pub stmt_told : (off : ℕ) (ts : List Placed) → Spelled (Here off) (kept_tokens ts) (stmt_at room (level room) off (first ts) ts)
  stmt_told off ts = by_first (λ ts. Spelled (Here off) (kept_tokens ts) (stmt_at room (level room) off (first ts) ts)) (evaluated off []) (stmt_told_at off) ts

  headed_told : (off : ℕ) (whole : List Placed) (hs : Headings) → AllHeadings hs → (tail : List Placed) → whole ≡ spell_headings hs ++ tail → (x : Read Stmt) → Spelled (Here off) tail x → Spelled (Here off) whole (x >>= λ s. Got (headed hs s))
  headed_told off whole hs all tail eq (Stop r) p = tt
  headed_told off whole hs all tail eq (Got s r) p = (eq ∙ ap (λ l. spell_headings hs ++ l) p.0 ∙ sym (append_assoc (spell_headings hs) (spell_statement s) (kept_tokens r)) ∙ ap (λ l. l ++ kept_tokens r) (sym (spell-headed hs s)), Sits-headed hs s room off all p.1, λ o. p.2 (sym (is_open-headed hs s) ∙ o))

  after_told : (off : ℕ) (whole : List Placed) (hs : Headings) (o : Option Identifier) (r : List Placed) → AllHeadings hs → whole ≡ spell_taken hs o ++ kept_tokens r → Spelled (Here off) whole (stmt_after room (level room) off o r >>= λ s. Got (headed hs s))
  after_told off whole hs None r all eq = headed_told off whole hs all (kept_tokens r) eq (stmt_at room (level room) off (first r) r) (stmt_told off r)
  after_told off whole hs (Some w) r all eq = headed_told off whole hs all (kept_tokens (name_token w ∷ r)) (eq ∙ append_assoc (spell_headings hs) (name_token w ∷ []) (kept_tokens r)) (ended room off Evaluate (name_token w ∷ r)) (evaluated off (name_token w ∷ r))

  stmt_with_told : (off : ℕ) (ts : List Placed) → Spelled (Here off) (kept_tokens ts) (stmt_with room (level room) off ts)
  stmt_with_told off ts = go (lead ts) (lead_sound ts)
    where
      go : (x : Read Lead) → Sound spell_lead IsLead (kept_tokens ts) x → Spelled (Here off) (kept_tokens ts) (x >>= λ l r. stmt_after room (level room) off l.word r >>= λ s. Got (headed l.headings s))
      go (Stop r) s = tt
      go (Got l r) s = after_told off (kept_tokens ts) l.headings l.word r s.1 s.0

pub level_told : (room : ℕ) → LevelTold room
level_told zero = tt
level_told (suc k) = λ off ts. stmt_with_told k (level_told k) off ts

pub statement_sound : (room off : ℕ) (ts : List Placed) → Spelled (λ s. Sits s room off) (kept_tokens ts) (statement room off ts)
statement_sound room off ts = stmt_with_told room (level_told room) off ts
