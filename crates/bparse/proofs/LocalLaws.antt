-- The words of a frame by the table of its names are those that parameters and automatics take.
use Rattle.std.proofs.Common.{◌≡◌, ℕ, ◌+◌, ◌-◌, Bool, true, false, List, [], ◌∷◌, ◌++◌, Option, Some, None, Result, Ok, refl, sym, ap, ◌∙◌, subst, append_assoc, append-nil, arith, lt-ltb, le-ltb, inl, inr}
use Rattle.std.specs.Prelude.{nat_lt, is_some}
use Rattle.bword.specs.Words.{same_name}
use Rattle.blang.specs.declared.token.Diagnostic.{Diagnostic}
use Rattle.blang.specs.Trees.{Definition, Simple, Vector, Function}
use Rattle.blang.specs.Scan.{Entry, NameKind, Automatic, External, Unlabelled, Labelled, kind_of, with_kind, automatic_words, Scope, no_scope, scan_event, scanned, function_scope, function_events}
use Rattle.blang.specs.Walk.{Event, AutoHere, ExtrnHere, Mention, LabelHere, CaseHere, DefaultHere, BreakHere, LvalueWanted}
use Rattle.blang.specs.Code.{clean, fault_of}
use Rattle.bgrammar.proofs.ScanSteps.{Entered, Mentioned, LabelStands, Renamed, declares, imports, mentions, labels_here, selects, defaults, lvalues, breaks, by_steps}
use Rattle.bemit.specs.Kinds.{kind_seen}
use Rattle.bemit.specs.declared.names.EntryKind.{EntryKind}
use Rattle.bemit.specs.declared.names.EntryKind.TheVariants as kinds
use Rattle.bparse.specs.Locals.{NamedWord, named_from, frames_in, own_word, first_named, words_with, table_words, table_frame, locals_of}
use Rattle.bparse.proofs.CleanLaws.{clean_inner, scope_clean}

first_push : (es : List Entry) (e : Entry) (frame : ℕ) → first_named (es ++ e ∷ []) frame ≡ first_named es (own_word e.kind frame)
first_push [] e frame = refl
first_push (x ∷ es) e frame = ap (own_word x.kind) (first_push es e frame)

words_with-append : (name : List ℕ) (k : NameKind) (following : ℕ) (xs ys : List NamedWord) → words_with name k following (xs ++ ys) ≡ words_with name k following xs ++ ys
words_with-append name (Automatic word) following xs ys = refl
words_with-append name _ following xs ys = refl

-- one name more
words_push : (es : List Entry) (e : Entry) (frame : ℕ) → table_words (es ++ e ∷ []) frame ≡ table_words es (own_word e.kind frame) ++ words_with e.name e.kind frame []
words_push [] e frame = refl
words_push (x ∷ es) e frame =
    let following = own_word e.kind frame in
    let more = words_with e.name e.kind frame [] in
    ap (λ n. words_with x.name x.kind n (table_words (es ++ e ∷ []) frame)) (first_push es e frame)
    ∙ ap (words_with x.name x.kind (first_named es following)) (words_push es e frame)
    ∙ words_with-append x.name x.kind (first_named es following) (table_words es following) more

-- a table in which an internal name has its label
record SameWords (es fs : List Entry) (frame : ℕ) : Type 0 where
  first : first_named fs frame ≡ first_named es frame
  words : table_words fs frame ≡ table_words es frame

same_words : (x : List ℕ) (number line : ℕ) (es : List Entry) (frame : ℕ) → kind_of x es ≡ Some (Unlabelled line) → SameWords es (with_kind x (Labelled number) es) frame
same_words x number line [] frame h = cc
same_words x number line (e ∷ es) frame h = go (same_name e.name x) refl (same_words x number line es frame)
  where
    go : (b : Bool) → same_name e.name x ≡ b → (kind_of x es ≡ Some (Unlabelled line) → SameWords es (with_kind x (Labelled number) es) frame) → SameWords (e ∷ es) (with_kind x (Labelled number) (e ∷ es)) frame
    go true q rest =
        let was : Some e.kind ≡ Some (Unlabelled line) = rw q at h in
        let kind : e.kind ≡ Unlabelled line = cc in
        rw q (record {
          first = sym (ap (λ k. own_word k (first_named es frame)) kind);
          words = sym (ap (λ k. words_with e.name k (first_named es frame) (table_words es frame)) kind);
        })
    go false q rest =
        let r = rest (rw q at h) in
        rw q (record {
          first = ap (own_word e.kind) r.first;
          words = ap (λ n. words_with e.name e.kind n (table_words (with_kind x (Labelled number) es) frame)) r.first ∙ ap (words_with e.name e.kind (first_named es frame)) r.words;
        })

-- a scope with the same words
record SameFrame (s t : Scope) : Type 0 where
  frame : t.frame ≡ s.frame
  words : table_words t.names t.frame ≡ table_words s.names s.frame

same_at : (s t : Scope) → t.names ≡ s.names → t.frame ≡ s.frame → SameFrame s t
same_at s t n f = record { frame = f; words = λ i. table_words (n i) (f i) }

same_after : (s v t : Scope) → v.names ≡ s.names → v.frame ≡ s.frame → (let r : Result Scope Diagnostic = Ok v in r) ≡ Ok t → SameFrame s t
same_after s v t n f h = let same : v ≡ t = cc in subst (SameFrame s) same (same_at s v n f)

other_entered : (x : List ℕ) (k : NameKind) (es fs : List Entry) (frame : ℕ) → Entered x k es fs → own_word k frame ≡ frame → words_with x k frame [] ≡ [] → table_words fs frame ≡ table_words es frame
other_entered x k es fs frame e same none =
    ap (λ l. table_words l frame) e.is ∙ words_push es (record { name = x; kind = k }) frame
    ∙ ap (λ n. table_words es n ++ words_with x k frame []) same ∙ ap (λ l. table_words es frame ++ l) none ∙ append-nil (table_words es frame)

renamed_same : {P : List Entry → Type 0} (s s2 t : Scope) → s2.frame ≡ s.frame → ((fs : List Entry) → P fs → table_words fs s.frame ≡ table_words s.names s.frame) → Renamed s2 P t → SameFrame s t
renamed_same s s2 t f same d = record {
  frame = ap (λ u. u.frame) d.is ∙ f;
  words = ap (λ u. table_words u.names u.frame) d.is ∙ ap (table_words d.names) f ∙ same d.names d.come;
}

mentioned_same : (called : Bool) (x : List ℕ) (line : ℕ) (es fs : List Entry) (frame : ℕ) → Mentioned called (record { text = x; line = line }) es fs → table_words fs frame ≡ table_words es frame
mentioned_same called x line es fs frame (inl k) = ap (λ l. table_words l frame) k.is
mentioned_same true x line es fs frame (inr e) = other_entered x External es fs frame e refl refl
mentioned_same false x line es fs frame (inr e) = other_entered x (Unlabelled line) es fs frame e refl refl

labelled_same : (x : List ℕ) (line number : ℕ) (es fs : List Entry) (frame : ℕ) → LabelStands (record { text = x; line = line }) number es fs → table_words fs frame ≡ table_words es frame
labelled_same x line number es fs frame (inl e) = other_entered x (Labelled number) es fs frame e refl refl
labelled_same x line number es fs frame (inr r) = ap (λ l. table_words l frame) r.is ∙ (same_words x number r.line es frame r.was).words

vector_by_words : (k : ℕ) (size : Option ℕ) → nat_lt 1 (k + automatic_words size - k) ≡ is_some size
vector_by_words k None = le-ltb 1 (k + 1 - k) (omega arith)
vector_by_words k (Some c) = lt-ltb 1 (k + (1 + (c + 1)) - k) (omega arith)

abbrev Goes : List Event → Scope → Scope → Type 0
Goes es s t = table_words t.names t.frame ≡ table_words s.names s.frame ++ named_from s.frame es

goes_on : (es : List Event) (s t u : Scope) → SameFrame s t → Goes es t u → Goes es s u
goes_on es s t u same more = more ∙ (λ i. same.words i ++ named_from (same.frame i) es)

goes_declared : (w : List ℕ) (line : ℕ) (size : Option ℕ) (es : List Event) (s t u : Scope) → scan_event (AutoHere (record { text = w; line = line }) size) s ≡ Ok t → Goes es t u → Goes (AutoHere (record { text = w; line = line }) size ∷ es) s u
goes_declared w line size es s t u h more =
    let d = declares (record { text = w; line = line }) size s t h in
    let frame = s.frame + automatic_words size in
    let own = table_words s.names s.frame in
    let frame_is : t.frame ≡ frame = ap (λ v. v.frame) d.is in
    let word : NamedWord = record { name = w; offset = s.frame; is_vector = is_some size } in
    let here : table_words t.names t.frame ≡ own ++ word ∷ [] =
    ap (λ v. table_words v.names v.frame) d.is ∙ ap (λ l. table_words l frame) d.come.is
    ∙ words_push s.names (record { name = w; kind = Automatic s.frame }) frame
    ∙ ap (λ b. own ++ record { name = w; offset = s.frame; is_vector = b } ∷ []) (vector_by_words s.frame size) in
    more ∙ (λ i. here i ++ named_from (frame_is i) es) ∙ append_assoc own (word ∷ []) (named_from frame es)

goes_one : (e : Event) (es : List Event) (s t u : Scope) → scan_event e s ≡ Ok t → Goes es t u → Goes (e ∷ es) s u
goes_one (AutoHere w size) es s t u h more = goes_declared w.text w.line size es s t u h more
goes_one (ExtrnHere w) es s t u h more =
    goes_on es s t u (renamed_same s s t refl (λ fs e. other_entered w.text External s.names fs s.frame e refl refl) (imports w s t h)) more
goes_one (Mention called w) es s t u h more =
    goes_on es s t u (renamed_same s s t refl (λ fs m. mentioned_same called w.text w.line s.names fs s.frame m) (mentions called w s t h)) more
goes_one (LabelHere w) es s t u h more =
    goes_on es s t u (renamed_same s (record s { labels = s.labels + 1 }) t refl (λ fs l. labelled_same w.text w.line s.labels s.names fs s.frame l) (labels_here w s t h)) more
goes_one (CaseHere line value) es s t u h more = let d = selects line value s t h in goes_on es s t u (same_at s t d.names d.frame) more
goes_one (DefaultHere line) es s t u h more = let d = defaults line s t h in goes_on es s t u (same_at s t d.names d.frame) more
goes_one (LvalueWanted line x) es s t u h more = let d = lvalues line x s t h in goes_on es s t u (same_at s t (ap (λ v. v.names) d.is) (ap (λ v. v.frame) d.is)) more
goes_one (BreakHere line) es s t u h more = let d = breaks line s t h in goes_on es s t u (same_at s t (ap (λ v. v.names) d.is) (ap (λ v. v.frame) d.is)) more
goes_one _ es s t u h more = goes_on es s t u (same_after s _ t refl refl h) more

all_go : (es : List Event) (s : Scope) → scanned es (Ok no_scope) ≡ Ok s → table_words s.names s.frame ≡ named_from 0 es
all_go es s h = by_steps Goes (λ t. sym (append-nil (table_words t.names t.frame))) goes_one es no_scope s h

-- Of a definition without a fault, its table has the words of its frame.
pub frames_noted : (defined : List (List ℕ)) (d : Definition) → fault_of defined d ≡ None → table_frame (locals_of d) ≡ frames_in d
frames_noted defined (Simple w values) none = refl
frames_noted defined (Vector w size values) none = refl
frames_noted defined (Function w parameters body) none =
    let s = scope_clean (function_scope parameters body) (clean_inner defined (Function w parameters body) none) in
    ap (λ r. table_words (clean r).names (clean r).frame ∷ []) s.1 ∙ ap (λ ws. ws ∷ []) (all_go (function_events parameters body) s.0 s.1)

-- the words of a table with one name more, by what its entry in memory says
pub word_more : (es : List Entry) (e : Entry) (end offset : ℕ) (k : EntryKind) → kind_seen k ≡ e.kind → k ≡ kinds.Automatic offset
    → table_words (es ++ e ∷ []) end ≡ table_words es offset ++ record { name = e.name; offset = offset; is_vector = nat_lt 1 (end - offset) } ∷ []
word_more es e end offset k seen is =
    let kind = sym seen ∙ ap kind_seen is in
    words_push es e end ∙ (λ i. table_words es (own_word (kind i) end) ++ words_with e.name (kind i) end [])

no_word : (es : List Entry) (name : List ℕ) (end : ℕ) (k : EntryKind) → ((offset : ℕ) → k ≡ kinds.Automatic offset → ⊥) → table_words es (own_word (kind_seen k) end) ++ words_with name (kind_seen k) end [] ≡ table_words es end
no_word es name end (kinds.Automatic offset) not = absurd (not offset refl)
no_word es name end _ not = append-nil (table_words es end)

pub no_word_more : (es : List Entry) (e : Entry) (end : ℕ) (k : EntryKind) → kind_seen k ≡ e.kind → ((offset : ℕ) → k ≡ kinds.Automatic offset → ⊥) → table_words (es ++ e ∷ []) end ≡ table_words es end
no_word_more es e end k seen not =
    words_push es e end ∙ (λ i. table_words es (own_word (sym seen i) end) ++ words_with e.name (sym seen i) end []) ∙ no_word es e.name end k not
