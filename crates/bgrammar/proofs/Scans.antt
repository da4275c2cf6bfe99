-- What scans without a fault keep, and what they count.
use Rattle.std.proofs.Common.{◌≡◌, ℕ, ◌+◌, ◌<◌, ◌≤◌, Bool, true, false, List, [], ◌∷◌, length, refl, sym, ap, ◌∙◌, subst, ⊎_elim, ◌⊎◌, inl, inr, arith, Option, Some, None, Result, Ok}
use Rattle.std.specs.Prelude.{sum_by}
use Rattle.std.proofs.lemmas.List.Sums.{sum_by-cons}
use Rattle.blang.specs.declared.token.Diagnostic.{Diagnostic}
use Rattle.blang.specs.Trees.{Identifier}
use Rattle.blang.specs.Scan.{NameKind, Automatic, Labelled, Entry, kind_of, kind_mentioned, Scope, automatic_words, scan_event, scanned}
use Rattle.blang.specs.Walk.{Event, AutoHere, ExtrnHere, Mention, LabelHere, CaseHere, DefaultHere, BreakHere, LvalueWanted, LoopBegins, LoopEnds, SwitchBegins, SwitchEnds}
use Rattle.bword.specs.Words.{same_name}
use Rattle.bgrammar.proofs.ScopeLaws.{changed, kind_of-with_kind, length-with_kind}
use Rattle.bgrammar.proofs.ScanSteps.{Entered, Relabelled, length-entered, kind_of-entered, kind_of-kept, declares, imports, mentions, labels_here, selects, defaults, lvalues, breaks, by_steps}
use Rattle.bgrammar.proofs.Holds.{Holds, Holds-nil, Holds-cons, Holds-first}
use Rattle.bgrammar.proofs.Scopes.{IsTable, IsTable-entered, IsTable-relabelled}

abbrev pub label_in : Event → ℕ
label_in (LabelHere w) = 1
label_in _ = 0

abbrev pub declaration_in : Event → ℕ
declaration_in (AutoHere w size) = 1
declaration_in _ = 0

-- a name that the table has; if it is automatic, the word after its own is in the frame too
pub record Settled (x : List ℕ) (es : List Entry) (frame : ℕ) : Type 0 where
  pub kind : NameKind
  pub is : kind_of x es ≡ Some kind
  pub room : (k : ℕ) → kind ≡ Automatic k → k + 1 < frame

-- the vector of a declaration is in the frame
abbrev pub IsSettled : Scope → Event → Type 0
IsSettled t (AutoHere w (Some c)) = Settled w.text t.names t.frame
IsSettled t _ = Unit {0}

-- from one scope to another by these events
pub record Advances (es : List Event) (s t : Scope) : Type 0 where
  pub table : IsTable s.names s.frame s.labels → IsTable t.names t.frame t.labels
  pub labels : t.labels ≡ s.labels + sum_by label_in es
  pub frame : s.frame + sum_by declaration_in es ≤ t.frame
  pub names : length s.names + sum_by declaration_in es ≤ length t.names
  pub keeps : (x : List ℕ) → Settled x s.names s.frame → Settled x t.names t.frame
  pub settles : Holds (IsSettled t) es

Settled-entered : {x y : List ℕ} {k : NameKind} {es new : List Entry} (frame frame2 : ℕ) → frame ≤ frame2 → Entered y k es new → Settled x es frame → Settled x new frame2
Settled-entered {x} {y} {k} {es} {new} frame frame2 l e h = record {
  kind = h.kind;
  is = kind_of-kept x e h.is;
  room = λ j q. let r = h.room j q in omega arith;
}

kind_changed : (b : Bool) (k : NameKind) (o : Option NameKind) → (changed b k o ≡ o) ⊎ (changed b k o ≡ Some k)
kind_changed true k (Some j) = inr refl
kind_changed true k None = inl refl
kind_changed false k o = inl refl

Settled-relabelled : {x y : List ℕ} {n : ℕ} {es new : List Entry} (frame : ℕ) → Relabelled y (Labelled n) es new → Settled x es frame → Settled x new frame
Settled-relabelled {x} {y} {n} {es} {new} frame e h =
    let now : kind_of x new ≡ changed (same_name y x) (Labelled n) (kind_of x es) = ap (kind_of x) e.is ∙ kind_of-with_kind y x (Labelled n) es in
    ⊎_elim
    (λ q. record { kind = h.kind; is = now ∙ q ∙ h.is; room = h.room })
    (λ q. record { kind = Labelled n; is = now ∙ q; room = λ k a. let no : ⊥ = cc in absurd no })
    (kind_changed (same_name y x) (Labelled n) (kind_of x es))

length-relabelled : {x : List ℕ} {k : NameKind} {es new : List Entry} → Relabelled x k es new → length new ≡ length es
length-relabelled {x} {k} {es} {new} e = rw e.is (length-with_kind x k es)

-- nothing but the switches and cases changed
same_scope : (e : Event) (s t : Scope) → t.names ≡ s.names → t.frame ≡ s.frame → t.labels ≡ s.labels → label_in e ≡ 0 → declaration_in e ≡ 0 → IsSettled t e → Advances (e ∷ []) s t
same_scope e s t n f l a b c = record {
  table = λ h. rw (n, f, l) h;
  labels = omega (arith, sum_by-cons label_in e []);
  frame = omega (arith, sum_by-cons declaration_in e []);
  names = rw n (omega (arith, sum_by-cons declaration_in e []));
  keeps = λ x h. rw (n, f) h;
  settles = Holds-cons c Holds-nil;
}

-- an entry more
entered_scope : (e : Event) {x : List ℕ} {k : NameKind} (s t : Scope) → Entered x k s.names t.names → s.frame + declaration_in e ≤ t.frame → t.labels ≡ s.labels + label_in e
    → declaration_in e ≤ 1 → (let n : ℕ = t.labels in IsTable s.names s.frame s.labels → IsTable t.names t.frame n) → IsSettled t e → Advances (e ∷ []) s t
entered_scope e s t n f l a h c = record {
  table = h;
  labels = omega (arith, sum_by-cons label_in e []);
  frame = omega (arith, sum_by-cons declaration_in e []);
  names = omega (arith, sum_by-cons declaration_in e [], length-entered n);
  keeps = λ x k. Settled-entered s.frame t.frame (omega arith) n k;
  settles = Holds-cons c Holds-nil;
}

declared_settled : (w : Identifier) (size : Option ℕ) (s : Scope) (new : List Entry) → Entered w.text (Automatic s.frame) s.names new
    → IsSettled (record s { names = new; frame = s.frame + automatic_words size }) (AutoHere w size)
declared_settled w None s new e = tt
declared_settled w (Some c) s new e = record {
  kind = Automatic s.frame;
  is = kind_of-entered e;
  room = λ k q. let same : s.frame ≡ k = cc in omega arith;
}

some_words : (size : Option ℕ) → 1 ≤ automatic_words size
some_words None = omega arith
some_words (Some c) = omega arith

declaration_advances : (w : Identifier) (size : Option ℕ) (s t : Scope) → scan_event (AutoHere w size) s ≡ Ok t → Advances (AutoHere w size ∷ []) s t
declaration_advances w size s t h =
    let n = declares w size s t h in
    let some = some_words size in
    subst (λ t. Advances (AutoHere w size ∷ []) s t) (sym n.is)
    (entered_scope (AutoHere w size) s (record s { frame = s.frame + automatic_words size; names = n.names }) n.come (omega arith) (omega arith) (omega arith)
    (λ k. IsTable-entered s.frame (s.frame + automatic_words size) s.labels s.labels k n.come (omega arith) (omega arith) (omega arith) (omega arith))
    (declared_settled w size s n.names n.come))

import_advances : (w : Identifier) (s t : Scope) → scan_event (ExtrnHere w) s ≡ Ok t → Advances (ExtrnHere w ∷ []) s t
import_advances w s t h =
    let n = imports w s t h in
    subst (λ t. Advances (ExtrnHere w ∷ []) s t) (sym n.is)
    (entered_scope (ExtrnHere w) s (record s { names = n.names }) n.come (omega arith) (omega arith) (omega arith)
    (λ k. IsTable-entered s.frame s.frame s.labels s.labels k n.come (omega arith) (omega arith) tt (omega arith))
    tt)

mention_table : (called : Bool) (line : ℕ) {x : List ℕ} {es new : List Entry} (frame labels : ℕ) → Entered x (kind_mentioned called line) es new → IsTable es frame labels → IsTable new frame labels
mention_table true line frame labels e k = IsTable-entered frame frame labels labels k e (omega arith) (omega arith) tt (omega arith)
mention_table false line frame labels e k = IsTable-entered frame frame labels labels k e (omega arith) (omega arith) tt (omega arith)

mention_advances : (called : Bool) (w : Identifier) (s t : Scope) → scan_event (Mention called w) s ≡ Ok t → Advances (Mention called w ∷ []) s t
mention_advances called w s t h =
    let n = mentions called w s t h in
    subst (λ t. Advances (Mention called w ∷ []) s t) (sym n.is)
    (⊎_elim
    (λ k. same_scope (Mention called w) s (record s { names = n.names }) k.is refl refl refl refl tt)
    (λ e. entered_scope (Mention called w) s (record s { names = n.names }) e (omega arith) (omega arith) (omega arith) (mention_table called w.line s.frame s.labels e) tt)
    n.come)

label_advances : (w : Identifier) (s t : Scope) → scan_event (LabelHere w) s ≡ Ok t → Advances (LabelHere w ∷ []) s t
label_advances w s t h =
    let n = labels_here w s t h in
    let new = record s { labels = s.labels + 1; names = n.names } in
    subst (λ t. Advances (LabelHere w ∷ []) s t) (sym n.is)
    (⊎_elim
    (λ e. entered_scope (LabelHere w) s new e (omega arith) refl (omega arith)
    (λ k. IsTable-entered s.frame s.frame s.labels (s.labels + 1) k e (omega arith) (omega arith) (omega arith) (omega arith)) tt)
    (λ e. record {
      table = λ k. IsTable-relabelled s.frame s.labels k e;
      labels = omega (arith, sum_by-cons label_in (LabelHere w) []);
      frame = omega (arith, sum_by-cons declaration_in (LabelHere w) []);
      names = omega (arith, sum_by-cons declaration_in (LabelHere w) [], length-relabelled e);
      keeps = λ x k. Settled-relabelled s.frame e k;
      settles = Holds-cons tt Holds-nil;
    })
    n.come)

scope_is : (e : Event) (s t u : Scope) → (let r : Result Scope Diagnostic = Ok u in r) ≡ Ok t → Advances (e ∷ []) s u → Advances (e ∷ []) s t
scope_is e s t u h a = let q : u ≡ t = cc in rw (← q) a

advances : (e : Event) (s t : Scope) → scan_event e s ≡ Ok t → Advances (e ∷ []) s t
advances (AutoHere w size) s t h = declaration_advances w size s t h
advances (ExtrnHere w) s t h = import_advances w s t h
advances (Mention called w) s t h = mention_advances called w s t h
advances (LabelHere w) s t h = label_advances w s t h
advances (CaseHere line value) s t h = let k = selects line value s t h in same_scope _ s t k.names k.frame k.labels refl refl tt
advances (DefaultHere line) s t h = let k = defaults line s t h in same_scope _ s t k.names k.frame k.labels refl refl tt
advances (LvalueWanted line e) s t h = subst (Advances (LvalueWanted line e ∷ []) s) (sym (lvalues line e s t h).is) (same_scope _ s s refl refl refl refl refl tt)
advances (BreakHere line) s t h = subst (Advances (BreakHere line ∷ []) s) (sym (breaks line s t h).is) (same_scope _ s s refl refl refl refl refl tt)
advances LoopBegins s t h = scope_is LoopBegins s t _ h (same_scope _ s _ refl refl refl refl refl tt)
advances LoopEnds s t h = scope_is LoopEnds s t _ h (same_scope _ s _ refl refl refl refl refl tt)
advances SwitchBegins s t h = scope_is SwitchBegins s t _ h (same_scope _ s _ refl refl refl refl refl tt)
advances SwitchEnds s t h = scope_is SwitchEnds s t _ h (same_scope _ s _ refl refl refl refl refl tt)

settled_on : (e : Event) (t u : Scope) → ((x : List ℕ) → Settled x t.names t.frame → Settled x u.names u.frame) → IsSettled t e → IsSettled u e
settled_on (AutoHere w (Some c)) t u k h = k w.text h
settled_on (AutoHere w None) t u k h = tt
settled_on _ t u k h = tt

Advances-cons : (e : Event) (es : List Event) (s t u : Scope) → Advances (e ∷ []) s t → Advances es t u → Advances (e ∷ es) s u
Advances-cons e es s t u h k =
    let hl = h.labels in
    let kl = k.labels in
    let hf = h.frame in
    let kf = k.frame in
    let hn = h.names in
    let kn = k.names in
    record {
      table = λ a. k.table (h.table a);
      labels = omega (arith, sum_by-cons label_in e es, sum_by-cons label_in e []);
      frame = omega (arith, sum_by-cons declaration_in e es, sum_by-cons declaration_in e []);
      names = omega (arith, sum_by-cons declaration_in e es, sum_by-cons declaration_in e []);
      keeps = λ x a. k.keeps x (h.keeps x a);
      settles = Holds-cons (settled_on e t u k.keeps (Holds-first h.settles)) k.settles;
    }

pub scan_advances : (es : List Event) (s t : Scope) → scanned es (Ok s) ≡ Ok t → Advances es s t
scan_advances =
    by_steps Advances
    (λ s. record { table = λ a. a; labels = omega arith; frame = omega arith; names = omega arith; keeps = λ x a. a; settles = Holds-nil })
    (λ e es s t u h k. Advances-cons e es s t u (advances e s t h) k)
