-- What a scan without a fault comes to: a table within its limits, and vectors within the frame.
use Rattle.std.proofs.Common.{◌≡◌, ℕ, ◌+◌, ◌<◌, ◌≤◌, Bool, true, false, List, [], ◌∷◌, ◌++◌, length, ap, arith, length-append, if◌then◌else◌, Option, Some}
use Rattle.std.specs.Prelude.{sum_by}
use Rattle.std.proofs.lemmas.List.Sums.{sum_by-append, sum_by-cons}
use Rattle.blang.specs.Scan.{NameKind, Automatic, External, Unlabelled, Labelled, Entry, kind_of, with_kind}
use Rattle.blang.specs.declared.limits.TheConstants.{MAX_NAMES}
use Rattle.bword.specs.Words.{same_name}
use Rattle.bgrammar.proofs.ScopeLaws.{length-with_kind}
use Rattle.bgrammar.proofs.ScanSteps.{Entered, Relabelled}
use Rattle.bgrammar.proofs.Holds.{Holds, Holds-nil, Holds-cons, Holds-first, Holds-rest, Holds-append, Holds-weaker}

-- How many names have a label.
abbrev is_labelled : NameKind → ℕ
is_labelled (Labelled n) = 1
is_labelled _ = 0

abbrev labels_of : List Entry → ℕ
labels_of es = sum_by (λ e. is_labelled e.kind) es

labels_if : (b : Bool) (n line : ℕ) (e : Entry) (es more : List Entry) (o : Option NameKind) → (o ≡ Some (Unlabelled line) → labels_of more ≡ labels_of es + 1)
    → (if b then Some e.kind else o) ≡ Some (Unlabelled line) → labels_of (if b then record { name = e.name; kind = Labelled n } ∷ es else e ∷ more) ≡ labels_of (e ∷ es) + 1
labels_if true n line e es more o f h =
    let k : e.kind ≡ Unlabelled line = cc in
    let z : is_labelled e.kind ≡ 0 = ap is_labelled k in
    omega (arith, sum_by-cons (λ (e : Entry). is_labelled e.kind) e es, sum_by-cons (λ (e : Entry). is_labelled e.kind) (record { name = e.name; kind = Labelled n }) es)
labels_if false n line e es more o f h =
    omega (arith, f h, sum_by-cons (λ (e : Entry). is_labelled e.kind) e es, sum_by-cons (λ (e : Entry). is_labelled e.kind) e more)

labels_of-with_kind : (x : List ℕ) (n line : ℕ) (es : List Entry) → kind_of x es ≡ Some (Unlabelled line) → labels_of (with_kind x (Labelled n) es) ≡ labels_of es + 1
labels_of-with_kind x n line [] h = cc
labels_of-with_kind x n line (e ∷ es) h =
    labels_if (same_name e.name x) n line e es (with_kind x (Labelled n) es) (kind_of x es) (labels_of-with_kind x n line es) h

labels_of-length : (es : List Entry) → labels_of es ≤ length es
labels_of-length [] = omega arith
labels_of-length (e ∷ es) = omega (arith, labels_of-length es, at_most_one e.kind, sum_by-cons (λ (e : Entry). is_labelled e.kind) e es)
  where
    at_most_one : (k : NameKind) → is_labelled k ≤ 1
    at_most_one (Labelled n) = omega arith
    at_most_one _ = omega arith

-- A table with words of this frame, and these many labels.
abbrev pub IsKindWithin : ℕ → ℕ → NameKind → Type 0
IsKindWithin frame labels (Automatic word) = word < frame
IsKindWithin frame labels (Labelled number) = number < labels
IsKindWithin frame labels _ = Unit {0}

abbrev IsEntryWithin : ℕ → ℕ → Entry → Type 0
IsEntryWithin frame labels e = IsKindWithin frame labels e.kind

pub record IsTable (es : List Entry) (frame labels : ℕ) : Type 0 where
  pub few : length es ≤ MAX_NAMES
  pub within : Holds (IsEntryWithin frame labels) es
  pub labelled : labels ≤ labels_of es

pub few_labels : {es : List Entry} {frame labels : ℕ} → IsTable es frame labels → labels ≤ MAX_NAMES
few_labels {es} {frame} {labels} t = let f = t.few in let l = t.labelled in omega (arith, labels_of-length es)

kind_of_within : (b : Bool) (frame labels : ℕ) (k : NameKind) (o : Option NameKind) → IsKindWithin frame labels k → ((j : NameKind) → o ≡ Some j → IsKindWithin frame labels j)
    → (j : NameKind) → (if b then Some k else o) ≡ Some j → IsKindWithin frame labels j
kind_of_within true frame labels k o h f j e = let s : k ≡ j = cc in rw (← s) h
kind_of_within false frame labels k o h f j e = f j e

pub kind_within : (frame labels : ℕ) (x : List ℕ) (es : List Entry) → Holds (IsEntryWithin frame labels) es → (k : NameKind) → kind_of x es ≡ Some k → IsKindWithin frame labels k
kind_within frame labels x [] h k e = cc
kind_within frame labels x (y ∷ es) h k e =
    kind_of_within (same_name y.name x) frame labels y.kind (kind_of x es) (Holds-first h) (kind_within frame labels x es (Holds-rest h)) k e

wider : (frame frame2 labels labels2 : ℕ) → frame ≤ frame2 → labels ≤ labels2 → (k : NameKind) → IsKindWithin frame labels k → IsKindWithin frame2 labels2 k
wider frame frame2 labels labels2 f l (Automatic word) h = omega arith
wider frame frame2 labels labels2 f l (Labelled number) h = omega arith
wider frame frame2 labels labels2 f l External h = tt
wider frame frame2 labels labels2 f l (Unlabelled line) h = tt

pub IsTable-entered : {x : List ℕ} {k : NameKind} {es new : List Entry} (frame frame2 labels labels2 : ℕ) → IsTable es frame labels → Entered x k es new → frame ≤ frame2 → labels ≤ labels2
    → IsKindWithin frame2 labels2 k → labels2 ≤ labels + is_labelled k → IsTable new frame2 labels2
IsTable-entered {x} {k} {es} {new} frame frame2 labels labels2 t e f l h m =
    let room = e.room in
    let table : IsTable (es ++ record { name = x; kind = k } ∷ []) frame2 labels2 = record {
      few = omega (arith, length-append es (record { name = x; kind = k } ∷ []));
      within = Holds-append (Holds-weaker (λ e. wider frame frame2 labels labels2 f l e.kind) t.within) (Holds-cons h Holds-nil);
      labelled = let b = t.labelled in omega (arith, sum_by-append (λ (e : Entry). is_labelled e.kind) es (record { name = x; kind = k } ∷ []), sum_by-cons (λ (e : Entry). is_labelled e.kind) (record { name = x; kind = k }) []);
    } in
    rw e.is table

with_kind_within : (P : Entry → Type 0) (x : List ℕ) (k : NameKind) (es : List Entry) → ((name : List ℕ) → P (record { name = name; kind = k })) → Holds P es → Holds P (with_kind x k es)
with_kind_within P x k [] p h = h
with_kind_within P x k (e ∷ es) p h = go (same_name e.name x) (with_kind_within P x k es p (Holds-rest h))
  where
    go : (b : Bool) → Holds P (with_kind x k es) → Holds P (if b then record { name = e.name; kind = k } ∷ es else e ∷ with_kind x k es)
    go true more = Holds-cons (p e.name) (Holds-rest h)
    go false more = Holds-cons (Holds-first h) more

pub IsTable-relabelled : {x : List ℕ} {es new : List Entry} (frame labels : ℕ) → IsTable es frame labels → Relabelled x (Labelled labels) es new → IsTable new frame (labels + 1)
IsTable-relabelled {x} {es} {new} frame labels t e =
    let table : IsTable (with_kind x (Labelled labels) es) frame (labels + 1) = record {
      few = let f = t.few in omega (arith, length-with_kind x (Labelled labels) es);
      within = with_kind_within _ x (Labelled labels) es (λ name. let l : labels < labels + 1 = omega arith in l) (Holds-weaker (λ e. wider frame frame labels (labels + 1) (omega arith) (omega arith) e.kind) t.within);
      labelled = let b = t.labelled in omega (arith, labels_of-with_kind x labels e.line es e.was);
    } in
    rw e.is table
