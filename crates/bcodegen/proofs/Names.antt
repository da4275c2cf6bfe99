-- A name stands for the same, whatever enters the table after it.
use Rattle.std.proofs.Common.{◌≡◌, ℕ, ◌+◌, ◌≤◌, Bool, true, false, List, [], ◌∷◌, ◌++◌, Option, Some, None, Result, Ok, refl, sym, ◌∙◌, subst, ⊎_elim, unwrap_or, arith, le_refl, ap}
use Rattle.std.specs.List.{position_from}
use Rattle.std.proofs.lemmas.Iterator.Adapters.{position_from-zero}
use Rattle.blang.specs.declared.token.Diagnostic.{Diagnostic}
use Rattle.blang.specs.Trees.{Identifier}
use Rattle.blang.specs.Scan.{Entry, NameKind, Automatic, External, Unlabelled, Labelled, kind_of, kind_mentioned, Scope, scan_event, scanned, automatic_words}
use Rattle.blang.specs.Walk.{Event, AutoHere, ExtrnHere, Mention, LabelHere, CaseHere, DefaultHere, BreakHere, LvalueWanted}
use Rattle.bword.specs.Words.{same_name}
use Rattle.blang.specs.Scan as scope
use Rattle.blang.specs.Code.{Environment, Referent, In_frame, Outside, At_label}
use Rattle.bgrammar.proofs.ScanSteps.{Entered, Mentioned, LabelStands, Renamed, kind_of-entered, declares, imports, mentions, labels_here, selects, defaults, lvalues, breaks, by_steps}
use Rattle.bemit.specs.Drafts.{entry_of}

-- what a name of this kind stands for: an internal one for its entry
abbrev pub standing : ℕ → NameKind → Referent
standing i (Automatic word) = In_frame word
standing i External = Outside
standing i (Unlabelled line) = At_label i
standing i (Labelled number) = At_label i

-- The names stand for what the table says of those that it has.
abbrev pub Agrees : Environment → List Entry → Type 0
Agrees names entries = (x : List ℕ) (k : NameKind) → kind_of x entries ≡ Some k → names x ≡ standing (entry_of x entries) k

-- the names by a table
abbrev pub standing_of : ℕ → Option NameKind → Referent
standing_of i None = Outside
standing_of i (Some k) = standing i k

abbrev pub names_by : List Entry → Environment
names_by entries x = standing_of (entry_of x entries) (kind_of x entries)

pub agrees_by : (entries : List Entry) → Agrees (names_by entries) entries
agrees_by entries x k h = ap (standing_of (entry_of x entries)) h

-- a later table: each entry has its name and stands for the same
abbrev pub Extends : List Entry → List Entry → Type 0
Extends [] fs = Unit {0}
Extends (e ∷ es) [] = ⊥
Extends (e ∷ es) (f ∷ fs) = (e.name ≡ f.name) × ((i : ℕ) → standing i e.kind ≡ standing i f.kind) × Extends es fs

pub extends_same : (es : List Entry) → Extends es es
extends_same [] = tt
extends_same (e ∷ es) = (refl, λ i. refl, extends_same es)

extends_append : (es more : List Entry) → Extends es (es ++ more)
extends_append [] more = tt
extends_append (e ∷ es) more = (refl, λ i. refl, extends_append es more)

abbrev pub is : List ℕ → Entry → Bool
is x e = same_name e.name x

pub kind_here : (x : List ℕ) (e : Entry) (es : List Entry) → is x e ≡ true → kind_of x (e ∷ es) ≡ Some e.kind
kind_here x e es h = rw h refl

pub kind_there : (x : List ℕ) (e : Entry) (es : List Entry) → is x e ≡ false → kind_of x (e ∷ es) ≡ kind_of x es
kind_there x e es h = rw h refl

pub position_here : (x : List ℕ) (e : Entry) (es : List Entry) (j : ℕ) → is x e ≡ true → position_from (is x) j (e ∷ es) ≡ Some j
position_here x e es j h = rw h refl

pub position_there : (x : List ℕ) (e : Entry) (es : List Entry) (j : ℕ) → is x e ≡ false → position_from (is x) j (e ∷ es) ≡ position_from (is x) (j + 1) es
position_there x e es j h = rw h refl

-- what is found of a name in a later table
record Found (x : List ℕ) (es fs : List Entry) (k : NameKind) (j : ℕ) : Type 0 where
  later : NameKind
  kind_is : kind_of x fs ≡ Some later
  stands : (i : ℕ) → standing i k ≡ standing i later
  same_place : position_from (is x) j fs ≡ position_from (is x) j es

found : (x : List ℕ) (es fs : List Entry) (k : NameKind) (j : ℕ) → Extends es fs → kind_of x es ≡ Some k → Found x es fs k j
found x [] fs k j ext h = cc
found x (e ∷ es) [] k j ext h = elim ext [ ]
found x (e ∷ es) (f ∷ fs) k j ext h = go (is x e) refl (found x es fs k (j + 1) ext.2)
  where
    go : (b : Bool) → is x e ≡ b → (kind_of x es ≡ Some k → Found x es fs k (j + 1)) → Found x (e ∷ es) (f ∷ fs) k j
    go true q rest =
        let q2 : is x f ≡ true = ap (λ n. same_name n x) (sym ext.0) ∙ q in
        let same : Some e.kind ≡ Some k = sym (kind_here x e es q) ∙ h in
        let kind : e.kind ≡ k = cc in
        record {
          later = f.kind;
          kind_is = kind_here x f fs q2;
          stands = λ i. ap (standing i) (sym kind) ∙ ext.1 i;
          same_place = position_here x f fs j q2 ∙ sym (position_here x e es j q);
        }
    go false q rest =
        let q2 : is x f ≡ false = ap (λ n. same_name n x) (sym ext.0) ∙ q in
        let r = rest (sym (kind_there x e es q) ∙ h) in
        record {
          later = r.later;
          kind_is = kind_there x f fs q2 ∙ r.kind_is;
          stands = r.stands;
          same_place = position_there x f fs j q2 ∙ r.same_place ∙ sym (position_there x e es j q);
        }

pub agrees_before : (names : Environment) (es fs : List Entry) → Extends es fs → Agrees names fs → Agrees names es
agrees_before names es fs ext a x k h =
    let r = found x es fs k 0 ext h in
    let place : entry_of x fs ≡ entry_of x es = ap (λ o. unwrap_or o 0) (position_from-zero (is x) fs ∙ r.same_place ∙ sym (position_from-zero (is x) es)) in
    a x r.later r.kind_is ∙ ap (λ i. standing i r.later) place ∙ sym (r.stands (entry_of x es))

extends_with_kind : (y : List ℕ) (number line : ℕ) (es : List Entry) → kind_of y es ≡ Some (Unlabelled line) → Extends es (scope.with_kind y (Labelled number) es)
extends_with_kind y number line [] h = tt
extends_with_kind y number line (e ∷ es) h = go (is y e) refl (extends_with_kind y number line es)
  where
    go : (b : Bool) → is y e ≡ b → (kind_of y es ≡ Some (Unlabelled line) → Extends es (scope.with_kind y (Labelled number) es)) → Extends (e ∷ es) (scope.with_kind y (Labelled number) (e ∷ es))
    go true q rest =
        let same : Some e.kind ≡ Some (Unlabelled line) = sym (kind_here y e es q) ∙ h in
        let kind : e.kind ≡ Unlabelled line = cc in
        rw q (refl, λ i. ap (standing i) kind, extends_same es)
    go false q rest = rw q (refl, λ i. refl, rest (sym (kind_there y e es q) ∙ h))

entered_extends : {x : List ℕ} {k : NameKind} {es fs : List Entry} → Entered x k es fs → Extends es fs
entered_extends {es = es} e = subst (Extends es) (sym e.is) (extends_append es _)

mentioned_extends : (called : Bool) (w : Identifier) (es fs : List Entry) → Mentioned called w es fs → Extends es fs
mentioned_extends called w es fs m = ⊎_elim (λ k. subst (Extends es) (sym k.is) (extends_same es)) entered_extends m

labelled_extends : (w : Identifier) (number : ℕ) (es fs : List Entry) → LabelStands w number es fs → Extends es fs
labelled_extends w number es fs l = ⊎_elim entered_extends (λ r. subst (Extends es) (sym r.is) (extends_with_kind w.text number r.line es r.was)) l

-- the kind of a name after its mention
pub kind_mentioned_is : (called : Bool) (w : Identifier) (es fs : List Entry) → Mentioned called w es fs → (k : NameKind) × (kind_of w.text fs ≡ Some k)
kind_mentioned_is called w es fs m =
    ⊎_elim (λ k. (k.kind, ap (kind_of w.text) k.is ∙ k.there)) (λ e. (kind_mentioned called w.line, kind_of-entered e)) m

-- a later scope
pub record Later (s s2 : Scope) : Type 0 where
  pub longer : Extends s.names s2.names
  pub frame : s.frame ≤ s2.frame

later_renamed : {P : List Entry → Type 0} (s t s2 : Scope) → s.names ≡ t.names → s.frame ≤ t.frame → ((fs : List Entry) → P fs → Extends s.names fs) → Renamed t P s2 → Later s s2
later_renamed s t s2 n f longer d = subst (Later s) (sym d.is) (record { longer = longer d.names d.come; frame = f })

later_at : (s s2 : Scope) → s2.names ≡ s.names → s2.frame ≡ s.frame → Later s s2
later_at s s2 n f = record { longer = subst (Extends s.names) (sym n) (extends_same s.names); frame = subst (λ k. s.frame ≤ k) (sym f) (le_refl s.frame) }

later_same : (s t s2 : Scope) → t.names ≡ s.names → t.frame ≡ s.frame → (let r : Result Scope Diagnostic = Ok t in r) ≡ Ok s2 → Later s s2
later_same s t s2 n f h = let same : t ≡ s2 = cc in subst (Later s) same (later_at s t n f)

later_step : (e : Event) (s s2 : Scope) → scan_event e s ≡ Ok s2 → Later s s2
later_step (AutoHere w size) s s2 h = later_renamed s (record s { frame = s.frame + automatic_words size }) s2 refl (omega arith) (λ fs e. entered_extends e) (declares w size s s2 h)
later_step (ExtrnHere w) s s2 h = later_renamed s s s2 refl (le_refl s.frame) (λ fs e. entered_extends e) (imports w s s2 h)
later_step (Mention called w) s s2 h = later_renamed s s s2 refl (le_refl s.frame) (mentioned_extends called w s.names) (mentions called w s s2 h)
later_step (LabelHere w) s s2 h = later_renamed s (record s { labels = s.labels + 1 }) s2 refl (le_refl s.frame) (labelled_extends w s.labels s.names) (labels_here w s s2 h)
later_step (CaseHere line value) s s2 h = let d = selects line value s s2 h in later_at s s2 d.names d.frame
later_step (DefaultHere line) s s2 h = let d = defaults line s s2 h in later_at s s2 d.names d.frame
later_step (LvalueWanted line e) s s2 h = subst (Later s) (sym (lvalues line e s s2 h).is) (later_at s s refl refl)
later_step (BreakHere line) s s2 h = subst (Later s) (sym (breaks line s s2 h).is) (later_at s s refl refl)
later_step _ s s2 h = later_same s _ s2 refl refl h

extends_trans : (es fs gs : List Entry) → Extends es fs → Extends fs gs → Extends es gs
extends_trans [] fs gs h k = tt
extends_trans (e ∷ es) [] gs h k = elim h [ ]
extends_trans (e ∷ es) (f ∷ fs) [] h k = elim k [ ]
extends_trans (e ∷ es) (f ∷ fs) (g ∷ gs) h k = (h.0 ∙ k.0, λ i. h.1 i ∙ k.1 i, extends_trans es fs gs h.2 k.2)

pub later : (es : List Event) (s s2 : Scope) → scanned es (Ok s) ≡ Ok s2 → Later s s2
later =
    by_steps (λ es s s2. Later s s2) (λ s. later_at s s refl refl)
    (λ e es s t s2 h more.
    let one = later_step e s t h in
    record { longer = extends_trans s.names t.names s2.names one.longer more.longer; frame = omega (arith, one.frame, more.frame) })
