-- One pass over an expression makes its code.
use Rattle.std.proofs.Common.{◌≡◌, ℕ, ◌+◌, Bool, true, false, List, [], ◌∷◌, ◌++◌, length, Option, Some, None, Result, Ok, Err, refl, sym, ap, ◌∙◌, subst, arith, le_refl, append_assoc, append-nil, length-append}
use Rattle.blang.specs.declared.token.Diagnostic.{Diagnostic}
use Rattle.bword.specs.declared.operators.BinOp.TheVariants as op
use Rattle.blang.specs.declared.code.Instr.{Instr}
use Rattle.blang.specs.declared.code.Instr.TheVariants as instr
use Rattle.blang.specs.Trees.{Identifier, Expr, Arguments, Indirection, Named, Literal, Text, Grouped, Indexed, Called, Prefixed, Binary, Conditional, Assigned}
use Rattle.blang.specs.Scan.{Entry, NameKind, Automatic, kind_of, Scope, scan_event, scanned, is_lvalue}
use Rattle.blang.specs.Walk.{Event, Mention, LvalueWanted}
use Rattle.bgrammar.specs.Events.{events, argument_events}
use Rattle.blang.specs.Scan as scan
use Rattle.blang.specs.Code.{Environment, Referent, In_frame, Outside, At_label, name_address_code, name_word_code, word_code, address_code}
use Rattle.blang.specs.WellFormed.{packed}
use Rattle.bgrammar.specs.Fitting.{strings}
use Rattle.bgrammar.proofs.CodeLaws.{scanned-append}
use Rattle.bgrammar.proofs.ScanSteps.{mentions, scanned-Err}
use Rattle.bemit.specs.Drafts.{Made, Draft, Faulty, Going, following, event_done, emitted, stringed, offset_of, address_instr, address_at, named, draft_names, form_at, grouped, checked, entry_of}
use Rattle.bemit.specs.Effects.{form, loads, loaded, held, evaluated}
use Rattle.bemit.specs.declared.form.Form.{Form}
use Rattle.bemit.specs.declared.form.Form.TheVariants.{Place, Lone, Joined}
use Rattle.bcodegen.proofs.Names.{standing, Agrees, kind_mentioned_is}
use Rattle.bcodegen.proofs.Parts.{Parts, added, add_arms, add_arms-none, drafted, kept, Roomy, smaller, kept_within, changed, put, emit, put_ending, offset_is, scope_of, scope_kept, scope_stepped, level_by, level_then, Makes, scanned_twice, retold, ended_twice, rescanned}

-- code and strings alone
abbrev pub only : (ℕ → List Instr) → List ℕ → Parts
only code strings = record { code = code; strings = strings; targets = λ p. []; arms = λ p. []; breaks = λ p. [] }

abbrev pub meaning_form : Referent → Form
meaning_form (In_frame word) = Place
meaning_form Outside = Place
meaning_form (At_label number) = Lone

-- what an expression leaves, by what the names stand for
abbrev pub form_by : Environment → Expr → Form
form_by names (Named w) = meaning_form (names w.text)
form_by names (Grouped e) = grouped (form_by names e)
form_by names (Indexed e f) = Place
form_by names (Prefixed Indirection line e) = Place
form_by names (Binary op line e f) = Joined
form_by names (Conditional e f g) = Joined
form_by names (Assigned op line e f) = Joined
form_by names _ = Lone

-- the address of a place, and the word of anything else
abbrev pub held_code : Environment → Expr → ℕ → List Instr
held_code names (Named w) p = name_address_code (names w.text) w.text ∷ []
held_code names (Grouped e) p = held_code names e p
held_code names (Indexed e f) p = address_code names (Indexed e f) p
held_code names (Prefixed Indirection line e) p = word_code names e p
held_code names e p = word_code names e p

abbrev pub load_code : Form → List Instr
load_code Place = instr.Load ∷ []
load_code Lone = []
load_code Joined = []

load_grouped : (f : Form) → load_code (grouped f) ≡ load_code f
load_grouped Place = refl
load_grouped Lone = refl
load_grouped Joined = refl

name_is_held : (x : List ℕ) (m : Referent) → name_word_code m x ≡ (name_address_code m x ∷ []) ++ load_code (meaning_form m)
name_is_held x (In_frame k) = refl
name_is_held x Outside = refl
name_is_held x (At_label k) = refl

-- the word is what is held, loaded
pub word_is_held : (names : Environment) (e : Expr) (p : ℕ) → word_code names e p ≡ held_code names e p ++ load_code (form_by names e)
word_is_held names (Named w) p = name_is_held w.text (names w.text)
word_is_held names (Literal c) p = refl
word_is_held names (Text bytes offset) p = refl
word_is_held names (Grouped e) p = word_is_held names e p ∙ ap (λ l. held_code names e p ++ l) (sym (load_grouped (form_by names e)))
word_is_held names (Indexed e f) p =
    let ce = word_code names e p in
    let cf = word_code names f (p + length ce) in
    sym (append_assoc ce (cf ++ (instr.Binary op.Add ∷ [])) (instr.Load ∷ []) ∙ ap (λ l. ce ++ l) (append_assoc cf (instr.Binary op.Add ∷ []) (instr.Load ∷ [])))
word_is_held names (Prefixed Indirection line e) p = refl
word_is_held names e p = sym (append-nil (word_code names e p))

grouped_place : (f : Form) → grouped f ≡ Place → f ≡ Place
grouped_place Place h = refl
grouped_place Lone h = cc
grouped_place Joined h = cc

pub address_is_held : (names : Environment) (e : Expr) (p : ℕ) → form_by names e ≡ Place → address_code names e p ≡ held_code names e p
address_is_held names (Named w) p h = refl
address_is_held names (Grouped e) p h = address_is_held names e p (grouped_place _ h)
address_is_held names (Indexed e f) p h = refl
address_is_held names (Prefixed Indirection line e) p h = refl
address_is_held names e p h = cc

-- the events of an expression that may be a called name
abbrev pub events_of : Bool → Expr → List Event
events_of called (Named w) = Mention called w ∷ []
events_of called e = events e

pub events_false : (e : Expr) → events_of false e ≡ events e
events_false (Named w) = refl
events_false e = refl

pub events_called : (e : Expr) (args : Arguments) → events_of true e ++ argument_events args ≡ events (Called e args)
events_called (Named w) args = ap (λ l. Mention true w ∷ l) (ended_twice (argument_events args))
events_called e args = ap (λ l. events e ++ l) (ended_twice (argument_events args))

-- the name of an expression that is one in parentheses is in the table
abbrev Rooted : List Entry → Expr → Type 0
Rooted names (Named w) = (k : NameKind) × (kind_of w.text names ≡ Some k)
Rooted names (Grouped e) = Rooted names e
Rooted names e = Unit {0}

rooted : (e : Expr) (called : Bool) (s s2 : Scope) → scanned (events_of called e) (Ok s) ≡ Ok s2 → Rooted s2.names e
rooted (Named w) called s s2 h =
    let d = mentions called w s s2 h in
    let k = kind_mentioned_is called w s.names d.names d.come in
    (k.0, subst (λ (t : Scope). kind_of w.text t.names ≡ Some k.0) (sym d.is) k.1)
rooted (Grouped e) called s s2 h = rooted e false s s2 (ap (λ es. scanned es (Ok s)) (events_false e ∙ ended_twice (events e)) ∙ h)
rooted e called s s2 h = tt

form_standing : (i : ℕ) (k : NameKind) → form_at (Some k) ≡ meaning_form (standing i k)
form_standing i (Automatic word) = refl
form_standing i _ = refl

form_is : (names : Environment) (e : Expr) (s : Scope) (made : Option Made) → Rooted s.names e → Agrees names s.names → form e (Going s made) ≡ form_by names e
form_is names (Named w) s made r agree = ap form_at r.1 ∙ form_standing (entry_of w.text s.names) r.0 ∙ ap meaning_form (sym (agree w.text r.0 r.1))
form_is names (Grouped e) s made r agree = ap grouped (form_is names e s made r agree)
form_is names (Prefixed Indirection line e) s made r agree = refl
form_is names e s made r agree = refl

abbrev is_place_form : Form → Bool
is_place_form Place = true
is_place_form Lone = false
is_place_form Joined = false

kind_place : (k : NameKind) → is_place_form (form_at (Some k)) ≡ scan.is_place (Some k)
kind_place (Automatic word) = refl
kind_place _ = refl

place_grouped : (f : Form) → is_place_form (grouped f) ≡ is_place_form f
place_grouped Place = refl
place_grouped Lone = refl
place_grouped Joined = refl

lvalue_is : (e : Expr) (s : Scope) (made : Option Made) → Rooted s.names e → is_place_form (form e (Going s made)) ≡ is_lvalue s.names e
lvalue_is (Named w) s made r = ap (λ o. is_place_form (form_at o)) r.1 ∙ kind_place r.0 ∙ ap scan.is_place (sym r.1)
lvalue_is (Grouped e) s made r = place_grouped (form e (Going s made)) ∙ lvalue_is e s made r
lvalue_is (Prefixed Indirection line e) s made r = refl
lvalue_is e s made r = refl

-- an event that only changes names
pub stepped_is : (e : Event) (s s2 : Scope) (m : Made) → scan_event e s ≡ Ok s2 → s2.frame ≡ s.frame → event_done e (drafted s m) ≡ drafted s2 m
stepped_is e s s2 m h f = ap (λ r. following r (kept s.frame m)) h ∙ ap (λ n. Going s2 (kept n m)) (sym f)

put_only : (m : Made) (i : Instr) → put m i ≡ added m (only (λ p. i ∷ []) [])
put_only m i = λ j. record { code = m.code ++ i ∷ []; strings = sym (append-nil m.strings) j; values = m.values; targets = sym (append-nil m.targets) j; arms = sym (add_arms-none m.arms) j; breaks = sym (append-nil m.breaks) j }

standing_address : (x : List ℕ) (i : ℕ) (k : NameKind) → address_at x i (Some k) ≡ name_address_code (standing i k) x
standing_address x i (Automatic word) = refl
standing_address x i _ = refl

pub names_makes : {names : Environment} {room off : ℕ} (called : Bool) (w : Identifier) → Makes names (named called w) (Mention called w ∷ []) room off (only (λ p. name_address_code (names w.text) w.text ∷ []) [])
names_makes {names = names} called w = record {
  scans = λ d n. scope_kept _ (event_done (Mention called w) d) ∙ scope_stepped (Mention called w) d;
  depth = λ s s2 h. level_by (mentions called w s s2 h).is;
  makes = λ s s2 m n h agree l.
      let d = mentions called w s s2 h in
      let r : Rooted s2.names (Named w) = rooted (Named w) called s s2 h in
      let address : address_instr w.text s2.names ≡ name_address_code (names w.text) w.text =
      ap (λ o. address_at w.text (entry_of w.text s2.names) o) r.1
      ∙ standing_address w.text (entry_of w.text s2.names) r.0
      ∙ ap (λ k. name_address_code k w.text) (sym (agree w.text r.0 r.1)) in
      ap (λ b. emitted (address_instr w.text (draft_names b)) b) (stepped_is (Mention called w) s s2 m h (ap (λ (t : Scope). t.frame) d.is))
      ∙ emit (address_instr w.text s2.names) (name_address_code (names w.text) w.text) s2 m (λ q. address)
      ∙ ap (drafted s2) (put_only m (name_address_code (names w.text) w.text));
  inside = λ s s2 h z p. refl;
}

-- a string, which stands at this offset
pub text_makes : {names : Environment} {room off : ℕ} (bytes : List ℕ) → Makes names (λ d. emitted (instr.Text (offset_of d)) (stringed bytes d)) [] room off (only (λ p. instr.Text off ∷ []) (packed bytes))
text_makes {off = off} bytes = record {
  scans = λ d n. scope_kept _ (stringed bytes d) ∙ scope_kept _ d;
  depth = λ s s2 h. let e : s ≡ s2 = cc in level_by (sym e);
  makes = λ s s2 m n h agree l. let e : s ≡ s2 = cc in text_at s m l ∙ ap (λ t. drafted t (added m (only (λ p. instr.Text off ∷ []) (packed bytes)))) e;
  inside = λ s s2 h z p. refl;
}
  where
    text_at : (s : Scope) (m : Made) → length m.strings ≡ off → emitted (instr.Text (offset_of (drafted s m))) (stringed bytes (drafted s m)) ≡ drafted s (added m (only (λ p. instr.Text off ∷ []) (packed bytes)))
    text_at s m l =
        let m1 : Made = record m { strings = m.strings ++ packed bytes } in
        let less : Roomy s.frame m1 → Roomy s.frame m = smaller _ _ m m1 (le_refl _) (le_refl _) (omega (arith, length-append m.strings (packed bytes))) (le_refl _) in
        ap (emitted (instr.Text (offset_of (drafted s m)))) (changed _ s m m1 less (λ r. sym (kept_within s.frame m1 r.frame_fits)))
        ∙ emit (instr.Text (offset_of (drafted s m))) (instr.Text off) s m1 (λ r. ap (λ n. instr.Text n) (offset_is s m (less r) ∙ l))
        ∙ ap (drafted s) (put_text m)
      where
        put_text : (m : Made) → put (record m { strings = m.strings ++ packed bytes }) (instr.Text off) ≡ added m (only (λ p. instr.Text off ∷ []) (packed bytes))
        put_text m = λ j. record { code = m.code ++ instr.Text off ∷ []; strings = m.strings ++ packed bytes; values = m.values; targets = sym (append-nil m.targets) j; arms = sym (add_arms-none m.arms) j; breaks = sym (append-nil m.breaks) j }

loads_scope : (f : Form) (d : Draft) → scope_of (loads f d) ≡ scope_of d
loads_scope Place d = scope_kept _ d
loads_scope Lone d = refl
loads_scope Joined d = refl

abbrev loading : Parts → Form → Parts
loading a f = record { code = λ p. a.code p ++ load_code f; strings = a.strings; targets = a.targets; arms = a.arms; breaks = a.breaks }

not_loaded : (m : Made) (a : Parts) → added m a ≡ added m (loading a Lone)
not_loaded m a = λ j. record { code = m.code ++ sym (append-nil (a.code (length m.code))) j; strings = m.strings ++ a.strings; values = m.values; targets = m.targets ++ a.targets (length m.code); arms = add_arms (a.arms (length m.code)) m.arms; breaks = m.breaks ++ a.breaks (length m.code) }

loads_is : (f : Form) (s : Scope) (m : Made) (a : Parts) → loads f (drafted s (added m a)) ≡ drafted s (added m (loading a f))
loads_is Place s m a = emit instr.Load instr.Load s (added m a) (λ r. refl) ∙ ap (drafted s) (put_ending m a (λ p. instr.Load))
loads_is Lone s m a = ap (drafted s) (not_loaded m a)
loads_is Joined s m a = ap (drafted s) (not_loaded m a)

loaded_makes : {names : Environment} {room off : ℕ} {a : Parts} (e : Expr) (called : Bool) → Makes names (held called e) (events_of called e) room off a → Makes names (λ d. loaded e (held called e d)) (events_of called e) room off (loading a (form_by names e))
loaded_makes {names = names} {a = a} e called x = record {
  scans = λ d n. loads_scope (form e (held called e d)) (held called e d) ∙ x.scans d n;
  depth = x.depth;
  makes = λ s s2 m n h agree l.
      ap (loaded e) (x.makes s s2 m n h agree l)
      ∙ ap (λ f. loads f (drafted s2 (added m a))) (form_is names e s2 _ (rooted e called s s2 h) agree)
      ∙ loads_is (form_by names e) s2 m a;
  inside = x.inside;
}

-- the word of an expression
pub word_makes : {names : Environment} {room off : ℕ} (e : Expr) (called : Bool) → Makes names (held called e) (events_of called e) room off (only (held_code names e) (strings e)) → Makes names (λ d. loaded e (held called e d)) (events_of called e) room off (only (word_code names e) (strings e))
word_makes {names = names} e called x =
    retold (only (word_code names e) (strings e)) (λ p. record { code = sym (word_is_held names e p); strings = refl; targets = refl; arms = refl; breaks = refl }) (loaded_makes e called x)

pub evaluated_by : {names : Environment} {room off : ℕ} (e : Expr) → Makes names (held false e) (events_of false e) room off (only (held_code names e) (strings e)) → Makes names (evaluated e) (events e) room off (only (word_code names e) (strings e))
evaluated_by e x = rescanned (events_false e) (word_makes e false x)

checked_fault : (f : Form) (line : ℕ) (d : Diagnostic) → checked f line (Faulty d) ≡ Faulty d
checked_fault Place line d = refl
checked_fault Lone line d = refl
checked_fault Joined line d = refl

check_scope : (e : Expr) (line : ℕ) (b : Draft) → ((s : Scope) → scope_of b ≡ Ok s → Rooted s.names e) → scope_of (checked (form e b) line b) ≡ scanned (LvalueWanted line e ∷ []) (scope_of b)
check_scope e line (Faulty d) r = ap scope_of (checked_fault (form e (Faulty d)) line d)
check_scope e line (Going s made) r = go (form e (Going s made)) refl
  where
    same : is_place_form (form e (Going s made)) ≡ is_lvalue s.names e
    same = lvalue_is e s made (r s refl)

    go : (f : Form) → form e (Going s made) ≡ f → scope_of (checked (form e (Going s made)) line (Going s made)) ≡ scan_event (LvalueWanted line e) s
    go Place q = rw q (rw (sym same ∙ ap is_place_form q) refl)
    go Lone q = rw q (rw (sym same ∙ ap is_place_form q) refl)
    go Joined q = rw q (rw (sym same ∙ ap is_place_form q) refl)

rooted_after : (e : Expr) (r : Result Scope Diagnostic) (s : Scope) → scanned (events_of false e) r ≡ Ok s → Rooted s.names e
rooted_after e (Ok t) s h = rooted e false t s h
rooted_after e (Err d) s h = let bad : Err d ≡ Ok s = sym (scanned-Err (events_of false e) d) ∙ h in cc

record IsPlace (e : Expr) (line : ℕ) (s s2 : Scope) : Type 0 where
  same : s2 ≡ s
  lvalue : is_lvalue s.names e ≡ true

check_is : (e : Expr) (line : ℕ) (s s2 : Scope) → scan_event (LvalueWanted line e) s ≡ Ok s2 → IsPlace e line s s2
check_is e line s s2 h = go (is_lvalue s.names e) refl
  where
    go : (b : Bool) → is_lvalue s.names e ≡ b → IsPlace e line s s2
    go true q = let k = rw q at h in record { same = cc; lvalue = q }
    go false q = let bad = rw q at h in cc

place_form : (f : Form) → is_place_form f ≡ true → f ≡ Place
place_form Place h = refl
place_form Lone h = cc
place_form Joined h = cc

-- what an operator wants is a place
pub wanted_place : (names : Environment) (e : Expr) (line : ℕ) (s s3 : Scope) → scanned (events_of false e ++ LvalueWanted line e ∷ []) (Ok s) ≡ Ok s3 → Agrees names s3.names → form_by names e ≡ Place
wanted_place names e line s s3 h agree =
    let t = scanned_twice (events_of false e) (LvalueWanted line e ∷ []) s s3 h in
    let c = check_is e line t.0 s3 t.2 in
    let r = rooted e false s t.0 t.1 in
    sym (form_is names e t.0 None r (subst (λ (u : Scope). Agrees names u.names) c.same agree)) ∙ place_form _ (lvalue_is e t.0 None r ∙ c.lvalue)

-- an lvalue that an operator wants
pub checked_makes : {names : Environment} {room off : ℕ} (e : Expr) (line : ℕ) → Makes names (held false e) (events_of false e) room off (only (held_code names e) (strings e))
    → Makes names (λ d. checked (form e (held false e d)) line (held false e d)) (events e ++ LvalueWanted line e ∷ []) room off (only (address_code names e) (strings e))
checked_makes {names = names} {room = room} {off = off} e line x = rescanned (ap (λ l. l ++ LvalueWanted line e ∷ []) (events_false e)) (record {
  scans = λ d n.
      check_scope e line (held false e d) (λ s q. rooted_after e (scope_of d) s (sym (x.scans d n) ∙ q))
      ∙ ap (scanned (LvalueWanted line e ∷ [])) (x.scans d n)
      ∙ sym (scanned-append (events_of false e) (LvalueWanted line e ∷ []) (scope_of d));
  depth = λ s s3 h.
      let t = scanned_twice (events_of false e) (LvalueWanted line e ∷ []) s s3 h in
      level_then s t.0 s3 (x.depth s t.0 t.1) (level_by (check_is e line t.0 s3 t.2).same);
  makes = λ s s3 m n h agree l.
      let t = scanned_twice (events_of false e) (LvalueWanted line e ∷ []) s s3 h in
      let c = check_is e line t.0 s3 t.2 in
      made s t.0 s3 m t.1 c.same c.lvalue agree (x.makes s t.0 m n t.1 (subst (λ (u : Scope). Agrees names u.names) c.same agree) l);
  inside = λ s s2 h z p. refl;
})
  where
    made : (s s2 s3 : Scope) (m : Made) → scanned (events_of false e) (Ok s) ≡ Ok s2 → s3 ≡ s2 → is_lvalue s2.names e ≡ true → Agrees names s3.names
        → held false e (drafted s m) ≡ drafted s2 (added m (only (held_code names e) (strings e)))
        → checked (form e (held false e (drafted s m))) line (held false e (drafted s m)) ≡ drafted s3 (added m (only (address_code names e) (strings e)))
    made s s2 s3 m h same lvalue agree q =
        let m2 = added m (only (held_code names e) (strings e)) in
        let r = rooted e false s s2 h in
        let place : form e (drafted s2 m2) ≡ Place = place_form _ (lvalue_is e s2 _ r ∙ lvalue) in
        let by : form_by names e ≡ Place = sym (form_is names e s2 (kept s2.frame m2) r (subst (λ (u : Scope). Agrees names u.names) same agree)) ∙ place in
        ap (λ b. checked (form e b) line b) q
        ∙ ap (λ f. checked f line (drafted s2 m2)) place
        ∙ ap (λ u. drafted u m2) (sym same)
        ∙ ap (λ c. drafted s3 (record { code = m.code ++ c; strings = m.strings ++ strings e; values = m.values; targets = m.targets ++ []; arms = add_arms [] m.arms; breaks = m.breaks ++ [] })) (sym (address_is_held names e (length m.code) by))
