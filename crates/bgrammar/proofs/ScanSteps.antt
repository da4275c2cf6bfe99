-- Steps of a scan without a fault: what each tells of the scope before it and of the one after it.
use Rattle.std.proofs.Common.{◌≡◌, ℕ, ◌+◌, ◌<◌, Bool, true, false, List, [], ◌∷◌, ◌++◌, length, length-append, refl, sym, ap, ◌∙◌, arith, if◌then◌else◌, Option, Some, None, Result, Ok, Err, ◌⊎◌, inl, inr}
use Rattle.std.specs.Prelude.{nat_lt, nat_eq}
use Rattle.std.specs.List.{list_any}
use Rattle.std.specs.Option.{option_or}
use Rattle.std.specs.Cmp.Lexicographic.{nat_list_eq_equiv}
use Rattle.std.proofs.lemmas.Bool.Decides.{nat_tests}
use Rattle.blang.specs.declared.token.Diagnostic.{Diagnostic}
use Rattle.blang.specs.Trees.{Identifier, Expr}
use Rattle.blang.specs.Scan.{NameKind, Automatic, External, Unlabelled, Labelled, Entry, kind_of, with_entry, with_declaration, kind_mentioned, with_mention, with_kind, with_label, Scope, automatic_words, Around, is_lvalue, with_names, scan_case, scan_default, can_break, scan_event, scanned}
use Rattle.blang.specs.declared.limits.TheConstants.{MAX_NAMES, MAX_CASES}
use Rattle.blang.specs.Walk.{Event, AutoHere, ExtrnHere, Mention, LabelHere, CaseHere, DefaultHere, BreakHere, LvalueWanted}
use Rattle.bword.specs.Words.{same_name}
use Rattle.bgrammar.proofs.ScopeLaws.{kind_of-push}

-- What becomes of a table.
-- an entry more, of a name that wasn't there
pub record Entered (x : List ℕ) (k : NameKind) (es new : List Entry) : Type 0 where
  pub absent : kind_of x es ≡ None
  pub room : length es < MAX_NAMES
  pub is : new ≡ es ++ record { name = x; kind = k } ∷ []

entered_if : (b : Bool) (x : List ℕ) (k : NameKind) (es new : List Entry) (d : Diagnostic) → kind_of x es ≡ None → (b ≡ true → length es < MAX_NAMES)
    → (let r : Result (List Entry) Diagnostic = if b then Ok (es ++ record { name = x; kind = k } ∷ []) else Err d in r) ≡ Ok new → Entered x k es new
entered_if true x k es new d a room h = record { absent = a; room = room refl; is = let e : es ++ record { name = x; kind = k } ∷ [] ≡ new = cc in sym e }
entered_if false x k es new d a room h = cc

entered_is : (w : Identifier) (k : NameKind) (es new : List Entry) → kind_of w.text es ≡ None → with_entry w k es ≡ Ok new → Entered w.text k es new
entered_is w k es new a h = entered_if (nat_lt (length es) MAX_NAMES) w.text k es new _ a (λ l. grind (arith, nat_tests)) h

declared_is : (w : Identifier) (k : NameKind) (es new : List Entry) → with_declaration w k es ≡ Ok new → Entered w.text k es new
declared_is w k es new h = go (kind_of w.text es) refl
  where
    go : (o : Option NameKind) → kind_of w.text es ≡ o → Entered w.text k es new
    go None e = entered_is w k es new e (rw e at h)
    go (Some old) e = let n = rw e at h in cc

-- the same table, where the name was there
pub record Known (x : List ℕ) (es new : List Entry) : Type 0 where
  pub kind : NameKind
  pub there : kind_of x es ≡ Some kind
  pub is : new ≡ es

abbrev pub Mentioned : (called : Bool) (w : Identifier) (es new : List Entry) → Type 0
Mentioned called w es new = Known w.text es new ⊎ Entered w.text (kind_mentioned called w.line) es new

mentioned_is : (called : Bool) (w : Identifier) (es new : List Entry) → with_mention called w es ≡ Ok new → Mentioned called w es new
mentioned_is called w es new h = go (kind_of w.text es) refl
  where
    go : (o : Option NameKind) → kind_of w.text es ≡ o → Mentioned called w es new
    go None e = inr (entered_is w _ es new e (rw e at h))
    go (Some old) e = let n = rw e at h in let q : new ≡ es = cc in inl (record { kind = old; there = e; is = q })

-- a label for an internal name
pub record Relabelled (x : List ℕ) (k : NameKind) (es new : List Entry) : Type 0 where
  pub line : ℕ
  pub was : kind_of x es ≡ Some (Unlabelled line)
  pub is : new ≡ with_kind x k es

abbrev pub LabelStands : (w : Identifier) (number : ℕ) (es new : List Entry) → Type 0
LabelStands w number es new = Entered w.text (Labelled number) es new ⊎ Relabelled w.text (Labelled number) es new

labelled_is : (w : Identifier) (number : ℕ) (es new : List Entry) → with_label w number es ≡ Ok new → LabelStands w number es new
labelled_is w number es new h = go (kind_of w.text es) refl
  where
    go : (o : Option NameKind) → kind_of w.text es ≡ o → LabelStands w number es new
    go None e = inl (entered_is w _ es new e (rw e at h))
    go (Some (Unlabelled line)) e =
        let n = rw e at h in
        let q : new ≡ with_kind w.text (Labelled number) es = cc in
        inr (record { line = line; was = e; is = q })
    go (Some (Automatic word)) e = let n = rw e at h in cc
    go (Some External) e = let n = rw e at h in cc
    go (Some (Labelled n)) e = let n = rw e at h in cc

-- What the longer table says.
pub length-entered : {x : List ℕ} {k : NameKind} {es new : List Entry} → Entered x k es new → length new ≡ length es + 1
length-entered {x} {k} {es} {new} e = rw e.is (length-append es (record { name = x; kind = k } ∷ []))

pub kind_of-entered : {x : List ℕ} {k : NameKind} {es new : List Entry} → Entered x k es new → kind_of x new ≡ Some k
kind_of-entered {x} {k} {es} {new} e =
    let entry : Entry = record { name = x; kind = k } in
    ap (kind_of x) e.is
    ∙ kind_of-push x es entry
    ∙ ap (λ o. option_or o (if same_name x x then Some k else None)) e.absent
    ∙ ap (λ b. if b then Some k else None) (nat_list_eq_equiv.refl x)

pub kind_of-kept : (x : List ℕ) {y : List ℕ} {j k : NameKind} {es new : List Entry} → Entered y k es new → kind_of x es ≡ Some j → kind_of x new ≡ Some j
kind_of-kept x {y} {j} {k} {es} {new} e h =
    ap (kind_of x) e.is ∙ kind_of-push x es (record { name = y; kind = k }) ∙ ap (λ o. option_or o (if same_name y x then Some k else None)) h

-- What becomes of a scope.
-- another table
pub record Renamed (s : Scope) (P : List Entry → Type 0) (t : Scope) : Type 0 where
  pub names : List Entry
  pub come : P names
  pub is : t ≡ record s { names = names }

with_names_is : {P : List Entry → Type 0} (s t : Scope) (r : Result (List Entry) Diagnostic) → ((new : List Entry) → r ≡ Ok new → P new) → with_names s r ≡ Ok t → Renamed s P t
with_names_is s t (Ok names) p h = let e : record s { names = names } ≡ t = cc in record { names = names; come = p names refl; is = sym e }
with_names_is s t (Err d) p h = cc

pub declares : (w : Identifier) (size : Option ℕ) (s t : Scope) → scan_event (AutoHere w size) s ≡ Ok t
    → Renamed (record s { frame = s.frame + automatic_words size }) (Entered w.text (Automatic s.frame) s.names) t
declares w size s t h = with_names_is (record s { frame = s.frame + automatic_words size }) t _ (declared_is w (Automatic s.frame) s.names) h

pub imports : (w : Identifier) (s t : Scope) → scan_event (ExtrnHere w) s ≡ Ok t → Renamed s (Entered w.text External s.names) t
imports w s t h = with_names_is s t _ (declared_is w External s.names) h

pub mentions : (called : Bool) (w : Identifier) (s t : Scope) → scan_event (Mention called w) s ≡ Ok t → Renamed s (Mentioned called w s.names) t
mentions called w s t h = with_names_is s t _ (mentioned_is called w s.names) h

pub labels_here : (w : Identifier) (s t : Scope) → scan_event (LabelHere w) s ≡ Ok t → Renamed (record s { labels = s.labels + 1 }) (LabelStands w s.labels s.names) t
labels_here w s t h = with_names_is (record s { labels = s.labels + 1 }) t _ (labelled_is w s.labels s.names) h

-- one more arm of the innermost switch
pub record ArmAdded (s t : Scope) : Type 0 where
  pub names : t.names ≡ s.names
  pub frame : t.frame ≡ s.frame
  pub labels : t.labels ≡ s.labels
  pub loops : t.loops ≡ s.loops
  pub depth : length t.switches ≡ length s.switches

arm_added : (around new : Around) (others : List Around) (cases : ℕ) (s t : Scope) → around ∷ others ≡ s.switches → (let r : Result Scope Diagnostic = Ok (record s { switches = new ∷ others; cases = cases }) in r) ≡ Ok t → ArmAdded s t
arm_added around new others cases s t q h =
    let e : record s { switches = new ∷ others; cases = cases } ≡ t = cc in
    rw (← e) (record { names = refl; frame = refl; labels = refl; loops = refl; depth = ap length q })

provided : (b : Bool) (s t : Scope) (r : Result Scope Diagnostic) (d : Diagnostic) → (r ≡ Ok t → ArmAdded s t) → (if b then r else Err d) ≡ Ok t → ArmAdded s t
provided true s t r d f h = f h
provided false s t r d f h = cc

unless : (b : Bool) (s t : Scope) (r : Result Scope Diagnostic) (d : Diagnostic) → (r ≡ Ok t → ArmAdded s t) → (if b then Err d else r) ≡ Ok t → ArmAdded s t
unless true s t r d f h = cc
unless false s t r d f h = f h

selected_is : (line value : ℕ) (s t : Scope) (switches : List Around) → switches ≡ s.switches → scan_case line value s switches ≡ Ok t → ArmAdded s t
selected_is line value s t [] q h = cc
selected_is line value s t (around ∷ others) q h =
    unless (list_any (nat_eq value) around.constants) s t _ _ (provided (nat_lt s.cases MAX_CASES) s t _ _ (arm_added around _ others _ s t q)) h

defaulted_is : (line : ℕ) (s t : Scope) (switches : List Around) → switches ≡ s.switches → scan_default line s switches ≡ Ok t → ArmAdded s t
defaulted_is line s t [] q h = cc
defaulted_is line s t (around ∷ others) q h = unless around.has_default s t _ _ (arm_added around _ others s.cases s t q) h

pub selects : (line value : ℕ) (s t : Scope) → scan_event (CaseHere line value) s ≡ Ok t → ArmAdded s t
selects line value s t h = selected_is line value s t s.switches refl h

pub defaults : (line : ℕ) (s t : Scope) → scan_event (DefaultHere line) s ≡ Ok t → ArmAdded s t
defaults line s t h = defaulted_is line s t s.switches refl h

-- a test that held
pub record Passed (b : Bool) (s t : Scope) : Type 0 where
  pub is : t ≡ s
  pub holds : b ≡ true

passed : (b : Bool) (s t : Scope) (d : Diagnostic) → (let r : Result Scope Diagnostic = if b then Ok s else Err d in r) ≡ Ok t → Passed b s t
passed true s t d h = let e : s ≡ t = cc in record { is = sym e; holds = refl }
passed false s t d h = cc

pub lvalues : (line : ℕ) (e : Expr) (s t : Scope) → scan_event (LvalueWanted line e) s ≡ Ok t → Passed (is_lvalue s.names e) s t
lvalues line e s t h = passed (is_lvalue s.names e) s t _ h

pub breaks : (line : ℕ) (s t : Scope) → scan_event (BreakHere line) s ≡ Ok t → Passed (can_break s) s t
breaks line s t h = passed (can_break s) s t _ h

-- Whole scans.
pub scanned-Err : (es : List Event) (d : Diagnostic) → scanned es (Err d) ≡ Err d
scanned-Err [] d = refl
scanned-Err (e ∷ es) d = refl

-- what no event changes, and each keeps
pub by_steps : (P : List Event → Scope → Scope → Type 0) → ((s : Scope) → P [] s s)
    → ((e : Event) (es : List Event) (s t u : Scope) → scan_event e s ≡ Ok t → P es t u → P (e ∷ es) s u)
    → (es : List Event) (s t : Scope) → scanned es (Ok s) ≡ Ok t → P es s t
by_steps P none one [] s t h = let e : s ≡ t = cc in rw (← e) (none s)
by_steps P none one (e ∷ es) s u h = go (scan_event e s) refl (λ t k. by_steps P none one es t u k)
  where
    go : (r : Result Scope Diagnostic) → scan_event e s ≡ r → ((t : Scope) → scanned es (Ok t) ≡ Ok u → P es t u) → P (e ∷ es) s u
    go (Ok t) q rest = one e es s t u q (rest t (sym (ap (scanned es) q) ∙ h))
    go (Err d) q rest = let bad : Err d ≡ Ok u = sym (scanned-Err es d) ∙ sym (ap (scanned es) q) ∙ h in cc
