-- A statement after a heading is read as one without it is.
use Rattle.std.proofs.Common.{◌≡◌, ℕ, zero, suc, List, [], ◌∷◌, length, Bool, true, false, sym, ap, ◌∙◌, refl, Option, Some, None}
use Rattle.blang.specs.declared.token.Token.{Token}
use Rattle.blang.specs.declared.token.Token.TheVariants as token
use Rattle.blang.specs.declared.token.Placed.{Placed}
use Rattle.blang.specs.Trees.{Identifier, Heading, Auto, Extrn, Label, Case, Default, Stmt, Headed, Evaluate}
use Rattle.bgrammar.specs.Reading.{Read, Got, Stop, ◌>>=◌, first, line_ahead, after, expect, turns, many}
use Rattle.bgrammar.specs.ExpressionReader.{is_colon}
use Rattle.bgrammar.specs.Commas.{list_reader}
use Rattle.bgrammar.specs.StatementReader.{is_semicolon, name, constant, declared, Headings, No_heading, Then, headed, Lead, no_lead, with_heading, Step, Declares, Imports, Selects, Defaults, Mentions, Labels, step_at, lead_step, lead_turn, lead, stmt_at, stmt_after, level, ended, statement}
use Rattle.bgrammar.proofs.Fine.{many_some, many_none}
use Rattle.bgrammar.proofs.StatementFine.{lasting, lead_loop}
use Rattle.bgrammar.proofs.StatementAgain.{following as read_after, no_label as no_labels}
use Rattle.bread.specs.Headings.{unheaded, IsHeadedBy, IsUnheaded, StopsHeading}

-- headings after these
abbrev joined : Headings → Headings → Headings
joined hs No_heading = hs
joined hs (Then before h) = Then (joined hs before) h

abbrev following : Headings → Lead → Lead
following hs l = record { headings = joined hs l.headings; word = l.word }

abbrev put : Headings → Read Lead → Read Lead
put hs x = x >>= λ l. Got (following hs l)

closed_after : {A : Type 0} (hs : Headings) (is : Token → Bool) (made : A → Heading) (l : Lead) (x : Read A) → (x >>= λ a r. expect is r >>= λ o. Got (with_heading (following hs l) (made a))) ≡ put hs (x >>= λ a r. expect is r >>= λ o. Got (with_heading l (made a)))
closed_after {A} hs is made l (Got a r) = go (is (first r)) refl
  where
    go : (b : Bool) → is (first r) ≡ b → (expect is r >>= λ o. Got (with_heading (following hs l) (made a))) ≡ put hs (expect is r >>= λ o. Got (with_heading l (made a)))
    go true e = rw e refl
    go false e = rw e refl
closed_after hs is made l (Stop r) = refl

turn_after : (b : Step) (hs : Headings) (l : Lead) (ts : List Placed) → lead_turn b (following hs l) ts ≡ put hs (lead_turn b l ts)
turn_after Declares hs l ts = closed_after hs is_semicolon Auto l (list_reader (λ before. declared) (after ts))
turn_after Imports hs l ts = closed_after hs is_semicolon Extrn l (list_reader (λ before. name) (after ts))
turn_after Selects hs l ts = closed_after hs is_colon (Case (line_ahead ts)) l (constant (after ts))
turn_after Defaults hs l ts = closed_after hs is_colon (λ o. Default (line_ahead ts)) l (Got (tt {0}) (after ts))
turn_after (Mentions x) hs l ts = refl
turn_after (Labels w) hs l ts = refl

turns_after : (n : ℕ) (hs : Headings) (l : Lead) (ts : List Placed) → turns lead_step lead_turn n (following hs l) ts ≡ put hs (turns lead_step lead_turn n l ts)
turns_after zero hs l ts = refl
turns_after (suc n) hs l ts = go (lead_step l (first ts)) refl (λ l2 r. turns_after n hs l2 r)
  where
    next : ((l2 : Lead) (r : List Placed) → turns lead_step lead_turn n (following hs l2) r ≡ put hs (turns lead_step lead_turn n l2 r)) → (x : Read Lead) → (put hs x >>= turns lead_step lead_turn n) ≡ put hs (x >>= turns lead_step lead_turn n)
    next ih (Got l2 r) = ih l2 r
    next ih (Stop r) = refl

    go : (o : Option Step) → lead_step l (first ts) ≡ o → ((l2 : Lead) (r : List Placed) → turns lead_step lead_turn n (following hs l2) r ≡ put hs (turns lead_step lead_turn n l2 r)) → turns lead_step lead_turn (suc n) (following hs l) ts ≡ put hs (turns lead_step lead_turn (suc n) l ts)
    go None e ih = rw e refl
    go (Some b) e ih = rw e (ap (λ x. x >>= turns lead_step lead_turn n) (turn_after b hs l ts) ∙ next ih (lead_turn b l ts))

headed_after : (hs : Headings) (h : Heading) (s : Stmt) → headed (joined (Then No_heading h) hs) s ≡ Headed h (headed hs s)
headed_after No_heading h s = refl
headed_after (Then before k) h s = headed_after before h (Headed k s)

heading_after : (room off : ℕ) (h : Heading) (x : Read Lead) → (put (Then No_heading h) x >>= read_after room off) ≡ ((x >>= read_after room off) >>= λ s. Got (Headed h s))
heading_after room off h (Stop r) = refl
heading_after room off h (Got l r) = go (stmt_after room (level room) off l.word r)
  where
    go : (y : Read Stmt) → (y >>= λ s. Got (headed (joined (Then No_heading h) l.headings) s)) ≡ ((y >>= λ s. Got (headed l.headings s)) >>= λ s. Got (Headed h s))
    go (Got s r) = ap (λ t. Got t r) (headed_after l.headings h s)
    go (Stop r) = refl

headed_by : (h : Heading) (u v : List Placed) → lead u ≡ many lead_step lead_turn (with_heading no_lead h) v → IsHeadedBy h u v
headed_by h u v e room off = ap (λ x. x >>= read_after room off) (e ∙ turns_after (length v) (Then No_heading h) no_lead v) ∙ heading_after room off h (lead v)

lead_turns : (b : Step) (u : List Placed) → step_at None (first u) ≡ Some b → lead u ≡ (lead_turn b no_lead u >>= many lead_step lead_turn)
lead_turns b u h = many_some lasting lead_step lead_turn lead_loop b no_lead u h

-- a heading that begins with its keyword
pub heading_read : (b : Step) (h : Heading) (u v : List Placed) → step_at None (first u) ≡ Some b → lead_turn b no_lead u ≡ Got (with_heading no_lead h) v → IsHeadedBy h u v
heading_read b h u v s e = headed_by h u v (lead_turns b u s ∙ ap (λ x. x >>= many lead_step lead_turn) e)

pub heading_stops : (b : Step) (u v : List Placed) → step_at None (first u) ≡ Some b → lead_turn b no_lead u ≡ Stop v → StopsHeading u v
heading_stops b u v s e room off = ap (λ x. x >>= read_after room off) (lead_turns b u s ∙ ap (λ x. x >>= many lead_step lead_turn) e)

abbrev word_at : List ℕ → List Placed → Identifier
word_at x u = record { text = x; line = line_ahead u }

-- a name with a colon after it
pub label_read : (x : List ℕ) (u : List Placed) → first u ≡ token.Name x → first (after u) ≡ token.Colon → IsHeadedBy (Label (record { text = x; line = line_ahead u })) u (after (after u))
label_read x u h k = let w = word_at x u in headed_by (Label w) u (after (after u)) (lead_turns (Mentions x) u (ap (step_at None) h) ∙ many_some lasting lead_step lead_turn lead_loop (Labels w) (record { headings = No_heading; word = Some w }) (after u) (ap (step_at (Some w)) k))

-- no heading
unheaded_at : (room off : ℕ) (u : List Placed) (o : Option Identifier) (v : List Placed) → lead u ≡ Got (record { headings = No_heading; word = o }) v → stmt_after room (level room) off o v ≡ unheaded room off u → statement room off u ≡ unheaded room off u
unheaded_at room off u o v e same = ap (λ x. x >>= read_after room off) e ∙ go (stmt_after room (level room) off o v) ∙ same
  where
    go : (y : Read Stmt) → (y >>= λ s. Got (headed No_heading s)) ≡ y
    go (Got s r) = refl
    go (Stop r) = refl

pub no_heading : (u : List Placed) → step_at None (first u) ≡ None → IsUnheaded u u
no_heading u h room off = unheaded_at room off u None u (many_none lead_step lead_turn no_lead u h) refl

pub no_label : (x : List ℕ) (u : List Placed) → first u ≡ token.Name x → is_colon (first (after u)) ≡ false → IsUnheaded u u
no_label x [] h k room off = cc
no_label x (p ∷ ts) h k room off = let w = word_at x (p ∷ ts) in unheaded_at room off (p ∷ ts) (Some w) ts (lead_turns (Mentions x) (p ∷ ts) (ap (step_at None) h) ∙ many_none lead_step lead_turn (record { headings = No_heading; word = Some w }) ts (no_labels w (first ts) k)) (ap (λ t. ended room off Evaluate (record { token = t; line = p.line } ∷ ts)) (sym h) ∙ sym (ap (λ t. stmt_at room (level room) off t (p ∷ ts)) h))
