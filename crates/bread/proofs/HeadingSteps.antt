-- How the calls that read headings go on.
use Rattle.std.proofs.Common.{◌≡◌, ℕ, ◌<◌, Bool, true, false, List, [], ◌∷◌, ◌++◌, if◌then◌else◌, Option, Some, None, Result, Ok, Err, IsErrAnd, refl, sym, ap, ◌∙◌, arith, subst}
use Rattle.bword.specs.declared.edition.Edition.{Edition}
use Rattle.blang.specs.Cut.{is_last, token_first}
use Rattle.blang.specs.declared.token.Token.{Token}
use Rattle.blang.specs.declared.token.Token.TheVariants as token
use Rattle.blang.specs.declared.token.Keyword.TheVariants as keyword
use Rattle.blang.specs.declared.token.Placed.{Placed}
use Rattle.blang.specs.Trees.{Identifier, Heading, Auto, Extrn, Label, Case, Default}
use Rattle.bgrammar.specs.Reading.{Read, Reader, Got, Stop, ◌>>=◌, first, line_ahead, after, expect}
use Rattle.bgrammar.specs.ExpressionReader.{is_colon}
use Rattle.bgrammar.specs.Commas.{list_reader}
use Rattle.bgrammar.specs.StatementReader.{is_semicolon, name, size, constant, declared, no_lead, with_heading, Step, Declares, Imports, Selects, Defaults, step_at, lead_turn}
use Rattle.bemit.specs.Drafts.{Draft, selected, defaulted, labelled, place_of}
use Rattle.bemit.specs.Drafts as drafts
use Rattle.bemit.specs.Effects.{headed}
use Rattle.bemit.specs.Trails.{trail, took, noted, trailed_declared, trailed_name, trailed_heading}
use Rattle.bread.specs.Tokens.{Tokens, IsLoaded, work, Runs, Advances, LooksOn, Same, AreAfter, KeepsAhead, tokens_with}
use Rattle.bread.specs.Parsers.{Leads, Halts, Expected}
use Rattle.bread.specs.declared.take.Word as take
use Rattle.bread.specs.declared.halt.Halt.{Halt}
use Rattle.bread.specs.declared.halt.Halt.TheVariants as halt
use Rattle.bread.specs.Headings.{auto, extrn, case, default, IsHeadedBy, IsUnheaded, StopsHeading}
use Rattle.bread.specs.Compiling.{untold, PartTaken, CompilesPart, TookName, TookSize, TookConstant, NoHeading, TookHeading, FindsHeading}
use Rattle.bgrammar.proofs.Forms.{only_colon}
use Rattle.bread.proofs.Moving.{past, past_expected, one_past, noted_past}
use Rattle.bread.proofs.TokenSteps.{Moves-append, Moves-breaks}
use Rattle.bread.proofs.Steps.{began, went, halts_first, halts_then, run_seen}
use Rattle.bread.proofs.HeadingLemmas.{heading_read, heading_stops, label_read, no_label}

-- a name of `auto`
pub automatic_first : (old new : Tokens) (why : Halt) → Halts name old why new → Halts declared old why new
automatic_first old new why h = halts_first old new name (λ w r. size r >>= λ n. Got (record { word = w; size = n })) why h

pub automatic_then : (old mid new : Tokens) (w : Identifier) (why : Halt) → Runs old mid name (λ v. Got w v) → Halts size mid why new → Halts declared old why new
automatic_then old mid new w why r h = halts_then old mid new declared size (λ n. Got (record { word = w; size = n })) why (began (λ w r. size r >>= λ n. Got (record { word = w; size = n })) r) h

-- the trail past a name
pub past_name : {old mid : Tokens} {w : take.Word} {place : ℕ} (start : Draft) → place ≡ place_of start → (r : TookName place old w mid) → Leads (λ t. t) (λ t. took (noted start t)) old r.runs.passed mid
past_name {old} {mid} {place = place} start at r u ls q = ap (λ v. took (noted start v)) q ∙ noted_past old mid place start at r.one r.noted_is ls

pub automatic_took : {old mid new : Tokens} {start draft : Draft} {place : ℕ} (w : take.Word) (n : Option ℕ) → place ≡ place_of start → TookName place old w mid → TookSize mid n new → draft ≡ drafts.declared (record { text = w.name; line = w.line }) n start → PartTaken declared (λ d b. drafts.declared d.word d.size b) trailed_declared start old new draft
automatic_took {start = start} w n at r s e = record {
  tree = record { word = record { text = w.name; line = w.line }; size = n };
  runs = went (λ n. Got (record { word = record { text = w.name; line = w.line }; size = n })) (began (λ w r. size r >>= λ n. Got (record { word = w; size = n })) r.runs) s.runs;
  made = e;
  leads = λ u ls q. s.leads (took (noted start u)) ls (past_name start at r u (s.runs.passed ls) q);
}

-- a name alone
pub named_took : {old new : Tokens} {start draft : Draft} {place : ℕ} (effect : Identifier → Draft → Draft) (w : take.Word) → place ≡ place_of start → TookName place old w new → draft ≡ effect (record { text = w.name; line = w.line }) start → CompilesPart (untold name) effect trailed_name old start (Ok tt) new draft
named_took {start = start} effect w at r e = ((λ o. record { tree = record { text = w.name; line = w.line }; runs = r.runs; made = e; leads = past_name start at r }), r.single, r.falls)

-- a case
pub case_first : (line : ℕ) (old new : Tokens) (why : Halt) → Halts constant old why new → Halts (case line) old why new
case_first line old new why h = halts_first old new constant (λ c r. expect is_colon r >>= λ o. Got (Case line c)) why h

pub case_then : (line n : ℕ) (old mid new : Tokens) (why : Halt) → TookConstant n old mid → Halts (expect is_colon) mid why new → Halts (case line) old why new
case_then line n old mid new why t h = halts_then old mid new (case line) (expect is_colon) (λ o. Got (Case line t.tree)) why (began (λ c r. expect is_colon r >>= λ o. Got (Case line c)) t.runs) h

pub case_took : {old mid new : Tokens} {start draft : Draft} (line n : ℕ) → TookConstant n old mid → Expected is_colon mid new → draft ≡ selected line n start → PartTaken (case line) headed trailed_heading start old new draft
case_took {old} {start = start} line n t r e = record { tree = Case line t.tree; runs = went (λ o. Got (Case line t.tree)) (began (λ c r. expect is_colon r >>= λ o. Got (Case line c)) t.runs) r.runs; made = e ∙ ap (λ n. selected line n start) (sym t.value); leads = λ u ls q. ap took (ap took q ∙ one_past old old.noted t.one (r.runs.passed ls) ∙ ap (trail (r.runs.passed ls)) (sym t.noted_is)) ∙ past_expected r ls }

-- a default
pub default_halts : (line : ℕ) (old new : Tokens) (why : Halt) → Halts (expect is_colon) old why new → Halts (default line) old why new
default_halts line old new why h = halts_first old new (expect is_colon) (λ o. Got (Default line)) why h

pub default_took : {old new : Tokens} {start draft : Draft} (line : ℕ) → Expected is_colon old new → draft ≡ defaulted line start → PartTaken (default line) headed trailed_heading start old new draft
default_took line r e = record { tree = Default line; runs = began (λ o. Got (Default line)) r.runs; made = e; leads = λ u ls q. ap took q ∙ past_expected r ls }

-- a heading after its keyword
turned : {A : Type 0} (is : Token → Bool) (made : A → Heading) (x : Read A) → (x >>= λ a r. expect is r >>= λ o. Got (with_heading no_lead (made a))) ≡ ((x >>= λ a r. expect is r >>= λ o. Got (made a)) >>= λ h. Got (with_heading no_lead h))
turned {A} is made (Got a r) = go (is (first r)) refl
  where
    go : (b : Bool) → is (first r) ≡ b → (expect is r >>= λ o. Got (with_heading no_lead (made a))) ≡ ((expect is r >>= λ o. Got (made a)) >>= λ h. Got (with_heading no_lead h))
    go true e = rw e refl
    go false e = rw e refl
turned is made (Stop r) = refl

-- the reader of what stands after the keyword
pub record Turns (old : Tokens) (p : Reader Heading) : Type 0 where
  pub step : Step
  pub comes : step_at None (first old.ahead) ≡ Some step
  pub turn : (u : List Placed) → line_ahead u ≡ line_ahead old.ahead → lead_turn step no_lead u ≡ (p (after u) >>= λ h. Got (with_heading no_lead h))

pub auto_turns : {old : Tokens} → first old.ahead ≡ token.Keyword keyword.Auto → Turns old auto
auto_turns h = record { step = Declares; comes = ap (step_at None) h; turn = λ u e. turned is_semicolon Auto (list_reader (λ before. declared) (after u)) }

pub extrn_turns : {old : Tokens} → first old.ahead ≡ token.Keyword keyword.Extrn → Turns old extrn
extrn_turns h = record { step = Imports; comes = ap (step_at None) h; turn = λ u e. turned is_semicolon Extrn (list_reader (λ before. name) (after u)) }

case_turns : {old : Tokens} → first old.ahead ≡ token.Keyword keyword.Case → Turns old (case (line_ahead old.ahead))
case_turns {old} h = record { step = Selects; comes = ap (step_at None) h; turn = λ u e. turned is_colon (Case (line_ahead u)) (constant (after u)) ∙ ap (λ n. case n (after u) >>= λ h. Got (with_heading no_lead h)) e }

pub case_turns_on : {old : Tokens} (line : ℕ) → line ≡ line_ahead old.ahead → first old.ahead ≡ token.Keyword keyword.Case → Turns old (case line)
case_turns_on {old} line e h = subst (λ l. Turns old (case l)) (sym e) (case_turns h)

default_turns : {old : Tokens} → first old.ahead ≡ token.Keyword keyword.Default → Turns old (default (line_ahead old.ahead))
default_turns {old} h = record { step = Defaults; comes = ap (step_at None) h; turn = λ u e. turned is_colon (λ o. Default (line_ahead u)) (Got (tt {0}) (after u)) ∙ ap (λ n. default n (after u) >>= λ h. Got (with_heading no_lead h)) e }

pub default_turns_on : {old : Tokens} (line : ℕ) → line ≡ line_ahead old.ahead → first old.ahead ≡ token.Keyword keyword.Default → Turns old (default line)
default_turns_on {old} line e h = subst (λ l. Turns old (default l)) (sym e) (default_turns h)

module _ {old mid : Tokens} {p : Reader Heading} (t : Turns old p) (a : Advances old mid) where
  pub heading_took : {start draft : Draft} {new : Tokens} → PartTaken p headed trailed_heading start mid new draft → IsLoaded new → work new < work mid → TookHeading start old new draft
  heading_took {start} {draft} {new} k l f = record {
    heading = k.tree;
    moves = Moves-append (IsHeadedBy k.tree) (λ u v w b r. heading_read t.step k.tree u w (ap (step_at None) b.token ∙ t.comes) (t.turn u b.line ∙ ap (λ v. p v >>= λ h. Got (with_heading no_lead h)) (sym b.rest) ∙ ap (λ x. x >>= λ h. Got (with_heading no_lead h)) r)) a.moves k.runs;
    made = k.made;
    loaded = l;
    falls = let x = a.falls in omega (arith, f);
    leads = λ u ls q. k.leads (took u) ls (ap took q ∙ past a (k.runs.passed ls));
  }

  pub heading_halts : (start draft : Draft) (new : Tokens) (why : Halt) → Halts p mid why new → FindsHeading old start (Err why) new draft
  heading_halts start draft new halt.Fault k = (Moves-append StopsHeading (λ u v w b r. heading_stops t.step u w (ap (step_at None) b.token ∙ t.comes) (t.turn u b.line ∙ ap (λ v. p v >>= λ h. Got (with_heading no_lead h)) (sym b.rest) ∙ ap (λ x. x >>= λ h. Got (with_heading no_lead h)) r)) a.moves k.0, k.1)
  heading_halts start draft new halt.Device k = Moves-breaks a.moves k

pub heading_err : (old : Tokens) (start : Draft) (r : Result Bool Halt) (new : Tokens) (draft : Draft) (why : Halt) → IsErrAnd r (λ y. y ≡ why) → FindsHeading old start (Err why) new draft → FindsHeading old start r new draft
heading_err old start (Ok b) new draft why e h = absurd e
heading_err old start (Err s) new draft why e h = subst (λ x. FindsHeading old start (Err x) new draft) (sym e) h

second_of : (ahead : List Placed) (edition : Edition) (line : ℕ) (bytes : List ℕ) (p q : Placed) (ps : List Placed) (x : List ℕ) → ahead ≡ p ∷ ps → after ahead ≡ q ∷ [] → first ahead ≡ token.Name x → first (after (tokens_with ahead edition line bytes)) ≡ first (after ahead)
second_of [] edition line bytes p q ps x e k h = cc
second_of (a ∷ []) edition line bytes p q ps x e k h = cc
second_of (a ∷ b ∷ bs) edition line bytes p q ps x e k h = ap (λ t. first (if is_last t then [] else token_first b.token b.line (tokens_with bs edition line bytes))) h

module _ {old mid : Tokens} (x : List ℕ) (name_is : first old.ahead ≡ token.Name x) (h : LooksOn old mid) where
  name_there : first mid.ahead ≡ token.Name x
  name_there = h.first_is ∙ name_is

  pub label_absent : is_colon (first (after mid.ahead)) ≡ false → NoHeading old mid
  label_absent k = record {
    loaded = h.loaded;
    none = h.none;
    noted = h.noted;
    moves = Moves-append {P = Same} {Q = IsUnheaded} IsUnheaded (λ u v w e n. subst (λ t. IsUnheaded t w) (sym e) n) h.moves
        (run_seen h.loaded (λ u more e f m. no_label x u (f ∙ name_there) (ap is_colon (ap (λ t. first (after t)) e ∙ second_of mid.ahead mid.source.edition mid.source.line (mid.source.ahead ++ more) h.loaded.current h.second h.loaded.following x h.loaded.ahead h.second_is name_there) ∙ k)));
  }

  module _ (k : is_colon (first (after mid.ahead)) ≡ true) {next new : Tokens} (a : Advances mid next) (b : Advances next new) where
    colon_there : first next.ahead ≡ token.Colon
    colon_there = (subst (λ ps. KeepsAhead ps next.ahead) h.second_is a.keeps).0 ∙ sym (ap first h.second_is) ∙ only_colon (first (after mid.ahead)) k

    pub label_took : {start draft : Draft} → draft ≡ labelled (record { text = x; line = line_ahead old.ahead }) start → TookHeading start old new draft
    label_took {start} {draft} e = record {
      heading = Label (record { text = x; line = line_ahead old.ahead });
      moves = Moves-append {P = Same} {Q = IsHeadedBy (Label (record { text = x; line = line_ahead old.ahead }))} (IsHeadedBy (Label (record { text = x; line = line_ahead old.ahead }))) (λ u v t s m. subst (λ r. IsHeadedBy (Label (record { text = x; line = line_ahead old.ahead })) r t) (sym s) m) h.moves (Moves-append (IsHeadedBy (Label (record { text = x; line = line_ahead old.ahead }))) headed_there a.moves b.moves);
      made = e;
      loaded = b.single.0;
      falls = let p = a.falls in let q = b.falls in let r = h.moves.falls in omega arith;
      leads = λ u ls q. ap took (ap took (q ∙ ap (λ k. trail k old.noted) (h.none (a.moves.passed (b.moves.passed ls))) ∙ ap (trail (a.moves.passed (b.moves.passed ls))) (sym h.noted)) ∙ past a (b.moves.passed ls)) ∙ past b ls;
    }
      where
        headed_there : (u v t : List Placed) → AreAfter mid.ahead u v → AreAfter next.ahead v t → IsHeadedBy (Label (record { text = x; line = line_ahead old.ahead })) u t
        headed_there u v t p q = subst (λ l. IsHeadedBy (Label (record { text = x; line = l })) u t) (p.line ∙ h.line_is) (subst (λ r. IsHeadedBy (Label (record { text = x; line = line_ahead u })) u r) (sym (q.rest ∙ ap after p.rest)) (label_read x u (p.token ∙ name_there) (ap first (sym p.rest) ∙ q.token ∙ colon_there)))
