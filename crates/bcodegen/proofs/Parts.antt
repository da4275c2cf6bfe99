-- What effects on drafts make, piece by piece. Without limits a piece is appended, and what is too large is no more known.
use Rattle.std.proofs.Common.{◌≡◌, ℕ, suc, ◌+◌, ◌≤◌, Bool, true, false, List, [], ◌∷◌, ◌++◌, length, Option, Some, None, Result, Ok, Err, refl, sym, ap, ◌∙◌, subst, arith, le_refl, nat_le, append_assoc, append-nil, length-append, slice_set, if◌then◌else◌, ◌⊎◌, inl, inr, ⊎_elim, le-leb, leb-true, leb-false}
use Rattle.blang.specs.declared.token.Diagnostic.{Diagnostic}
use Rattle.blang.specs.declared.code.Instr.{Instr}
use Rattle.blang.specs.declared.code.Instr.TheVariants as instr
use Rattle.blang.specs.Scan.{Scope, scan_event, scanned}
use Rattle.blang.specs.Walk.{Event}
use Rattle.blang.specs.Code.{Environment, Arms, default_in, tests_code, default_code, arms_code}
use Rattle.bgrammar.proofs.CodeLaws.{scanned-append}
use Rattle.bgrammar.proofs.ScanSteps.{scanned-Err}
use Rattle.bemit.specs.Drafts.{Switch, no_arms, tests, leading, Made, Draft, Faulty, Going, within_room, with_made, emitted, place_of, mark_of, offset_of, filled, following, event_done}
use Rattle.blang.specs.declared.limits.TheConstants.{MAX_INSTRUCTIONS, MAX_STRING_WORDS, MAX_VALUES, MAX_WORDS}
use Rattle.bcodegen.proofs.Names.{Agrees, agrees_before, later}

-- What a piece of a definition adds, by the place where it begins. Its breaks have no target yet.
pub record Parts : Type 0 where
  pub code : ℕ → List Instr
  pub strings : List ℕ
  pub targets : ℕ → List ℕ
  pub arms : ℕ → Arms ℕ
  pub breaks : ℕ → List ℕ

abbrev pub no_parts : Parts
no_parts = record { code = λ p. []; strings = []; targets = λ p. []; arms = λ p. []; breaks = λ p. [] }

-- the constants and places of cases
abbrev pub cases_in : Arms ℕ → List (ℕ × ℕ)
cases_in [] = []
cases_in ((None, t) ∷ arms) = cases_in arms
cases_in ((Some v, t) ∷ arms) = (v, t) ∷ cases_in arms

abbrev pub first_of : Option ℕ → Option ℕ → Option ℕ
first_of None o = o
first_of (Some t) o = Some t

abbrev pub with_arms : Arms ℕ → Switch → Switch
with_arms cs x = record { cases = x.cases ++ cases_in cs; default = first_of x.default (default_in cs) }

abbrev pub add_arms : Arms ℕ → List Switch → List Switch
add_arms cs [] = []
add_arms cs (x ∷ xs) = with_arms cs x ∷ xs

abbrev pub added : Made → Parts → Made
added m a = record {
  code = m.code ++ a.code (length m.code);
  strings = m.strings ++ a.strings;
  values = m.values;
  targets = m.targets ++ a.targets (length m.code);
  arms = add_arms (a.arms (length m.code)) m.arms;
  breaks = m.breaks ++ a.breaks (length m.code);
}

abbrev pub joined : Parts → Parts → Parts
joined a b = record {
  code = λ p. a.code p ++ b.code (p + length (a.code p));
  strings = a.strings ++ b.strings;
  targets = λ p. a.targets p ++ b.targets (p + length (a.code p));
  arms = λ p. a.arms p ++ b.arms (p + length (a.code p));
  breaks = λ p. a.breaks p ++ b.breaks (p + length (a.code p));
}

cases_in-append : (cs ds : Arms ℕ) → cases_in (cs ++ ds) ≡ cases_in cs ++ cases_in ds
cases_in-append [] ds = refl
cases_in-append ((None, t) ∷ cs) ds = cases_in-append cs ds
cases_in-append ((Some v, t) ∷ cs) ds = ap (λ l. (v, t) ∷ l) (cases_in-append cs ds)

default_in-append : (cs ds : Arms ℕ) → default_in (cs ++ ds) ≡ first_of (default_in cs) (default_in ds)
default_in-append [] ds = refl
default_in-append ((None, t) ∷ cs) ds = refl
default_in-append ((Some v, t) ∷ cs) ds = default_in-append cs ds

first_of-two : (a b c : Option ℕ) → first_of (first_of a b) c ≡ first_of a (first_of b c)
first_of-two None b c = refl
first_of-two (Some t) b c = refl

pub first_of-none : (o : Option ℕ) → first_of o None ≡ o
first_of-none None = refl
first_of-none (Some t) = refl

with_arms-two : (cs ds : Arms ℕ) (x : Switch) → with_arms ds (with_arms cs x) ≡ with_arms (cs ++ ds) x
with_arms-two cs ds x =
    let cases = append_assoc x.cases (cases_in cs) (cases_in ds) ∙ ap (λ l. x.cases ++ l) (sym (cases_in-append cs ds)) in
    let default = first_of-two x.default (default_in cs) (default_in ds) ∙ ap (first_of x.default) (sym (default_in-append cs ds)) in
    λ i. record { cases = cases i; default = default i }

pub add_arms-two : (cs ds : Arms ℕ) (k : List Switch) → add_arms ds (add_arms cs k) ≡ add_arms (cs ++ ds) k
add_arms-two cs ds [] = refl
add_arms-two cs ds (x ∷ xs) = ap (λ y. y ∷ xs) (with_arms-two cs ds x)

pub add_arms-none : (k : List Switch) → add_arms [] k ≡ k
add_arms-none [] = refl
add_arms-none (x ∷ xs) = λ i. record { cases = append-nil x.cases i; default = first_of-none x.default i } ∷ xs

tests_are : (cs : Arms ℕ) → tests (cases_in cs) ≡ tests_code cs
tests_are [] = refl
tests_are ((None, t) ∷ cs) = tests_are cs
tests_are ((Some v, t) ∷ cs) = ap (λ l. instr.JumpIfCase v t ∷ l) (tests_are cs)

-- what leads to the arms of a whole switch
pub leading_is : (cs : Arms ℕ) → leading (with_arms cs no_arms) ≡ arms_code cs
leading_is cs = ap (λ l. l ++ default_code (default_in cs)) (tests_are cs)

pub two : (m : Made) (a b : Parts) → added (added m a) b ≡ added m (joined a b)
two m a b =
    let ca = a.code (length m.code) in
    let ta = a.targets (length m.code) in
    let ka = a.arms (length m.code) in
    let ba = a.breaks (length m.code) in
    let q : length (m.code ++ ca) ≡ length m.code + length ca = length-append m.code ca in
    let code : (m.code ++ ca) ++ b.code (length (m.code ++ ca)) ≡ m.code ++ (ca ++ b.code (length m.code + length ca)) =
    append_assoc m.code ca (b.code (length (m.code ++ ca))) ∙ ap (λ n. m.code ++ (ca ++ b.code n)) q in
    let strings : (m.strings ++ a.strings) ++ b.strings ≡ m.strings ++ (a.strings ++ b.strings) = append_assoc m.strings a.strings b.strings in
    let targets : (m.targets ++ ta) ++ b.targets (length (m.code ++ ca)) ≡ m.targets ++ (ta ++ b.targets (length m.code + length ca)) =
    append_assoc m.targets ta (b.targets (length (m.code ++ ca))) ∙ ap (λ n. m.targets ++ (ta ++ b.targets n)) q in
    let arms : add_arms (b.arms (length (m.code ++ ca))) (add_arms ka m.arms) ≡ add_arms (ka ++ b.arms (length m.code + length ca)) m.arms =
    add_arms-two ka (b.arms (length (m.code ++ ca))) m.arms ∙ ap (λ n. add_arms (ka ++ b.arms n) m.arms) q in
    let breaks : (m.breaks ++ ba) ++ b.breaks (length (m.code ++ ca)) ≡ m.breaks ++ (ba ++ b.breaks (length m.code + length ca)) =
    append_assoc m.breaks ba (b.breaks (length (m.code ++ ca))) ∙ ap (λ n. m.breaks ++ (ba ++ b.breaks n)) q in
    λ i. record { code = code i; strings = strings i; values = m.values; targets = targets i; arms = arms i; breaks = breaks i }

-- the same at a place
pub record Same (p : ℕ) (a b : Parts) : Type 0 where
  pub code : a.code p ≡ b.code p
  pub strings : a.strings ≡ b.strings
  pub targets : a.targets p ≡ b.targets p
  pub arms : a.arms p ≡ b.arms p
  pub breaks : a.breaks p ≡ b.breaks p

pub added_same : (m : Made) (a b : Parts) → Same (length m.code) a b → added m a ≡ added m b
added_same m a b s =
    λ i. record { code = m.code ++ s.code i; strings = m.strings ++ s.strings i; values = m.values; targets = m.targets ++ s.targets i; arms = add_arms (s.arms i) m.arms; breaks = m.breaks ++ s.breaks i }

-- what is made, while it is within all room
abbrev pub kept : ℕ → Made → Option Made
kept frame m = if nat_le frame MAX_WORDS then within_room m else None

abbrev pub drafted : Scope → Made → Draft
drafted s m = Going s (kept s.frame m)

pub record Roomy (frame : ℕ) (m : Made) : Type 0 where
  pub frame_fits : frame ≤ MAX_WORDS
  pub code_fits : length m.code ≤ MAX_INSTRUCTIONS
  pub strings_fit : length m.strings ≤ MAX_STRING_WORDS
  pub values_fit : length m.values ≤ MAX_VALUES

pub kept_some : (frame : ℕ) (m : Made) → Roomy frame m → kept frame m ≡ Some m
kept_some frame m r = rw (le-leb _ _ r.frame_fits, le-leb _ _ r.code_fits, le-leb _ _ r.strings_fit, le-leb _ _ r.values_fit) refl

pub kept_within : (frame : ℕ) (m : Made) → frame ≤ MAX_WORDS → kept frame m ≡ within_room m
kept_within frame m h = rw (le-leb _ _ h) refl

pub kept_cases : (frame : ℕ) (m : Made) → (Roomy frame m × (kept frame m ≡ Some m)) ⊎ ((Roomy frame m → ⊥) × (kept frame m ≡ None))
kept_cases frame m = go (nat_le frame MAX_WORDS) (nat_le (length m.code) MAX_INSTRUCTIONS) (nat_le (length m.strings) MAX_STRING_WORDS) (nat_le (length m.values) MAX_VALUES) refl refl refl refl
  where
    go : (a b c d : Bool) → nat_le frame MAX_WORDS ≡ a → nat_le (length m.code) MAX_INSTRUCTIONS ≡ b → nat_le (length m.strings) MAX_STRING_WORDS ≡ c → nat_le (length m.values) MAX_VALUES ≡ d
        → (Roomy frame m × (kept frame m ≡ Some m)) ⊎ ((Roomy frame m → ⊥) × (kept frame m ≡ None))
    go true true true true p q r t =
        let y : Roomy frame m = record { frame_fits = leb-true _ _ p; code_fits = leb-true _ _ q; strings_fit = leb-true _ _ r; values_fit = leb-true _ _ t } in
        inl (y, kept_some frame m y)
    go false b c d p q r t = inr (λ y. omega (arith, leb-false _ _ p, y.frame_fits), rw p refl)
    go true false c d p q r t = inr (λ y. omega (arith, leb-false _ _ q, y.code_fits), rw (p, q) refl)
    go true true false d p q r t = inr (λ y. omega (arith, leb-false _ _ r, y.strings_fit), rw (p, q, r) refl)
    go true true true false p q r t = inr (λ y. omega (arith, leb-false _ _ t, y.values_fit), rw (p, q, r, t) refl)

pub kept_none : (frame : ℕ) (m : Made) → (Roomy frame m → ⊥) → kept frame m ≡ None
kept_none frame m n = ⊎_elim (λ h. absurd (n h.0)) (λ h. h.1) (kept_cases frame m)

-- what is smaller is within room too
pub smaller : (frame frame2 : ℕ) (m m2 : Made) → frame ≤ frame2 → length m.code ≤ length m2.code → length m.strings ≤ length m2.strings → length m.values ≤ length m2.values → Roomy frame2 m2 → Roomy frame m
smaller frame frame2 m m2 f c s v r = record {
  frame_fits = omega (arith, f, r.frame_fits);
  code_fits = omega (arith, c, r.code_fits);
  strings_fit = omega (arith, s, r.strings_fit);
  values_fit = omega (arith, v, r.values_fit);
}

pub changed : (f : Made → Option Made) (s : Scope) (m m2 : Made) → (Roomy s.frame m2 → Roomy s.frame m) → (Roomy s.frame m → f m ≡ kept s.frame m2) → with_made f (drafted s m) ≡ drafted s m2
changed f s m m2 less same = ⊎_elim some none (kept_cases s.frame m)
  where
    some : Roomy s.frame m × (kept s.frame m ≡ Some m) → with_made f (drafted s m) ≡ drafted s m2
    some h = ap (λ o. with_made f (Going s o)) h.1 ∙ ap (λ o. Going s o) (same h.0)

    none : (Roomy s.frame m → ⊥) × (kept s.frame m ≡ None) → with_made f (drafted s m) ≡ drafted s m2
    none h = ap (λ o. with_made f (Going s o)) h.1 ∙ ap (λ o. Going s o) (sym (kept_none s.frame m2 (λ r. h.0 (less r))))

-- what changes no length
pub noted : (f : Made → Option Made) (s : Scope) (m m2 : Made) → (Roomy s.frame m → f m ≡ Some m2) → length m2.code ≡ length m.code → m2.strings ≡ m.strings → m2.values ≡ m.values → with_made f (drafted s m) ≡ drafted s m2
noted f s m m2 e c t v =
    changed f s m m2
    (smaller _ _ m m2 (le_refl _) (omega (arith, c)) (omega (arith, ap length t)) (omega (arith, ap length v)))
    (λ r. e r ∙ sym (kept_some s.frame m2 (smaller _ _ m2 m (le_refl _) (omega (arith, c)) (omega (arith, ap length t)) (omega (arith, ap length v)) r)))

abbrev pub put : Made → Instr → Made
put m i = record m { code = m.code ++ i ∷ [] }

pub put_smaller : (frame : ℕ) (m : Made) (i : Instr) → Roomy frame (put m i) → Roomy frame m
put_smaller frame m i r = smaller _ _ m (put m i) (le_refl _) (omega (arith, length-append m.code (i ∷ []))) (le_refl _) (le_refl _) r

pub emit : (i j : Instr) (s : Scope) (m : Made) → (Roomy s.frame m → i ≡ j) → emitted i (drafted s m) ≡ drafted s (put m j)
emit i j s m e =
    changed _ s m (put m j) (put_smaller s.frame m j) (λ r. ap (λ x. within_room (put m x)) (e r) ∙ sym (kept_within s.frame (put m j) r.frame_fits))

pub fill : (place : ℕ) (i : Instr) (s : Scope) (m : Made) (new : List Instr) → length new ≡ length m.code → (Roomy s.frame m → slice_set m.code place i ≡ new) → filled place i (drafted s m) ≡ drafted s (record m { code = new })
fill place i s m new l e = noted _ s m (record m { code = new }) (λ r. ap (λ c. Some (record m { code = c })) (e r)) l refl refl

pub place_is : (s : Scope) (m : Made) → Roomy s.frame m → place_of (drafted s m) ≡ length m.code
place_is s m r = ap (λ o. place_of (Going s o)) (kept_some s.frame m r)

pub mark_is : (s : Scope) (m : Made) → Roomy s.frame m → mark_of (drafted s m) ≡ length m.breaks
mark_is s m r = ap (λ o. mark_of (Going s o)) (kept_some s.frame m r)

pub offset_is : (s : Scope) (m : Made) → Roomy s.frame m → offset_of (drafted s m) ≡ length m.strings
offset_is s m r = ap (λ o. offset_of (Going s o)) (kept_some s.frame m r)

-- the names of a draft, or its fault
abbrev pub scope_of : Draft → Result Scope Diagnostic
scope_of (Faulty d) = Err d
scope_of (Going s made) = Ok s

pub scope_kept : (f : Made → Option Made) (d : Draft) → scope_of (with_made f d) ≡ scope_of d
scope_kept f (Faulty d) = refl
scope_kept f (Going s None) = refl
scope_kept f (Going s (Some m)) = refl

scope_after : (r : Result Scope Diagnostic) (made : Option Made) → scope_of (following r made) ≡ r
scope_after (Ok s) made = refl
scope_after (Err d) made = refl

pub scope_stepped : (e : Event) (d : Draft) → scope_of (event_done e d) ≡ scanned (e ∷ []) (scope_of d)
scope_stepped e (Faulty d) = refl
scope_stepped e (Going s made) = scope_after (scan_event e s) made

-- how many loops and switches are around
abbrev pub depth_of : Scope → ℕ
depth_of s = s.loops + length s.switches

-- as many loops around, and as many switches
abbrev pub Level : Scope → Scope → Type 0
Level s s2 = (s2.loops ≡ s.loops) × (length s2.switches ≡ length s.switches)

pub level_by : {s t : Scope} → t ≡ s → Level s t
level_by e = (ap (λ (u : Scope). u.loops) e, ap (λ (u : Scope). length u.switches) e)

pub level_then : (s t u : Scope) → Level s t → Level t u → Level s u
level_then s t u h k = (k.0 ∙ h.0, k.1 ∙ h.1)

pub same_depth : (s t : Scope) → Level s t → depth_of t ≡ depth_of s
same_depth s t h = omega (arith, h.0, h.1)

-- No nesting goes deeper.
abbrev pub most_levels : ℕ
most_levels = 200

-- room for loops and switches
abbrev pub Nested : ℕ → Result Scope Diagnostic → Type 0
Nested room (Ok s) = depth_of s + room ≤ most_levels
Nested room (Err d) = Unit {0}

-- what an effect makes of a draft, by what it reads of names and what it adds
pub record Makes (names : Environment) (effect : Draft → Draft) (es : List Event) (room off : ℕ) (a : Parts) : Type 0 where
  pub scans : (d : Draft) → Nested room (scope_of d) → scope_of (effect d) ≡ scanned es (scope_of d)
  pub depth : (s s2 : Scope) → scanned es (Ok s) ≡ Ok s2 → Level s s2
  pub makes : (s s2 : Scope) (m : Made) → depth_of s + room ≤ most_levels → scanned es (Ok s) ≡ Ok s2 → Agrees names s2.names → length m.strings ≡ off → effect (drafted s m) ≡ drafted s2 (added m a)
  -- outside of loops and switches no break is taken
  pub inside : (s s2 : Scope) → scanned es (Ok s) ≡ Ok s2 → depth_of s ≡ 0 → (p : ℕ) → a.breaks p ≡ []

pub scanned_twice : (es fs : List Event) (s s3 : Scope) → scanned (es ++ fs) (Ok s) ≡ Ok s3 → (s2 : Scope) × (scanned es (Ok s) ≡ Ok s2) × (scanned fs (Ok s2) ≡ Ok s3)
scanned_twice es fs s s3 h = go (scanned es (Ok s)) refl
  where
    go : (r : Result Scope Diagnostic) → scanned es (Ok s) ≡ r → (s2 : Scope) × (scanned es (Ok s) ≡ Ok s2) × (scanned fs (Ok s2) ≡ Ok s3)
    go (Ok s2) q = (s2, q, sym (ap (scanned fs) q) ∙ sym (scanned-append es fs (Ok s)) ∙ h)
    go (Err d) q = let bad : Err d ≡ Ok s3 = sym (scanned-Err fs d) ∙ sym (ap (scanned fs) q) ∙ sym (scanned-append es fs (Ok s)) ∙ h in cc

nested_scanned : (es : List Event) (room : ℕ) → ((s s2 : Scope) → scanned es (Ok s) ≡ Ok s2 → depth_of s2 ≡ depth_of s) → (r : Result Scope Diagnostic) → Nested room r → Nested room (scanned es r)
nested_scanned es room depth (Err d) n = subst (Nested room) (sym (scanned-Err es d)) tt
nested_scanned es room depth (Ok s) n = go (scanned es (Ok s)) refl
  where
    go : (r : Result Scope Diagnostic) → scanned es (Ok s) ≡ r → Nested room (scanned es (Ok s))
    go (Ok s2) q = subst (Nested room) (sym q) (let le : depth_of s2 + room ≤ most_levels = omega (arith, n, depth s s2 q) in le)
    go (Err d) q = subst (Nested room) (sym q) tt

pub nested_after : {names : Environment} {f : Draft → Draft} {es : List Event} {room off : ℕ} {a : Parts} → Makes names f es room off a → (d : Draft) → Nested room (scope_of d) → Nested room (scope_of (f d))
nested_after {es = es} {room = room} x d n = subst (Nested room) (sym (x.scans d n)) (nested_scanned es room (λ s s2 h. same_depth s s2 (x.depth s s2 h)) (scope_of d) n)

pub then_ : {names : Environment} {f g : Draft → Draft} {es fs : List Event} {room off off2 : ℕ} {a b : Parts} → Makes names f es room off a → Makes names g fs room off2 b → off2 ≡ off + length a.strings → Makes names (λ d. g (f d)) (es ++ fs) room off (joined a b)
then_ {names = names} {f = f} {g = g} {es = es} {fs = fs} {room = room} {off = off} {off2 = off2} {a = a} {b = b} x y o = record {
  scans = λ d n. y.scans (f d) (nested_after x d n) ∙ ap (scanned fs) (x.scans d n) ∙ sym (scanned-append es fs (scope_of d));
  depth = λ s s3 h. let t = scanned_twice es fs s s3 h in level_then s t.0 s3 (x.depth s t.0 t.1) (y.depth t.0 s3 t.2);
  makes = λ s s3 m n h agree l.
      let t = scanned_twice es fs s s3 h in
      let l2 : length (m.strings ++ a.strings) ≡ off2 = omega (arith, length-append m.strings a.strings, l, o) in
      ap g (x.makes s t.0 m n t.1 (agrees_before names t.0.names s3.names (later fs t.0 s3 t.2).longer agree) l)
      ∙ y.makes t.0 s3 (added m a) (omega (arith, n, same_depth s t.0 (x.depth s t.0 t.1))) t.2 agree l2
      ∙ ap (drafted s3) (two m a b);
  inside = λ s s3 h z p.
      let t = scanned_twice es fs s s3 h in
      ap (λ l. l ++ b.breaks (p + length (a.code p))) (x.inside s t.0 t.1 z p) ∙ y.inside t.0 s3 t.2 (same_depth s t.0 (x.depth s t.0 t.1) ∙ z) (p + length (a.code p));
}

pub retold : {names : Environment} {f : Draft → Draft} {es : List Event} {room off : ℕ} {a : Parts} (b : Parts) → ((p : ℕ) → Same p a b) → Makes names f es room off a → Makes names f es room off b
retold {a = a} b same x = record {
  scans = x.scans;
  depth = x.depth;
  makes = λ s s2 m n h agree l. x.makes s s2 m n h agree l ∙ ap (drafted s2) (added_same m a b (same (length m.code)));
  inside = λ s s2 h z p. sym (same p).breaks ∙ x.inside s s2 h z p;
}

-- the same events where nothing is after them
pub ended : (es : List Event) → es ≡ es ++ []
ended es = sym (append-nil es)

pub ended_twice : (es : List Event) → es ≡ (es ++ []) ++ []
ended_twice es = ended es ∙ ended (es ++ [])

pub rescanned : {names : Environment} {f : Draft → Draft} {es fs : List Event} {room off : ℕ} {a : Parts} → es ≡ fs → Makes names f es room off a → Makes names f fs room off a
rescanned {names = names} {f = f} {room = room} {off = off} {a = a} e x = subst (λ l. Makes names f l room off a) e x

-- where there is room for one level less, there is room for its inside
pub deeper : {names : Environment} {f : Draft → Draft} {es : List Event} {room off : ℕ} {a : Parts} → Makes names f es room off a → Makes names f es (suc room) off a
deeper {room = room} x = record {
  scans = λ d n. x.scans d (less (scope_of d) n);
  depth = x.depth;
  makes = λ s s2 m n. x.makes s s2 m (omega (arith, n));
  inside = x.inside;
}
  where
    less : (r : Result Scope Diagnostic) → Nested (suc room) r → Nested room r
    less (Ok s) n = let le : depth_of s + room ≤ most_levels = omega (arith, n) in le
    less (Err d) n = tt

pub nothing_added : (m : Made) → m ≡ added m no_parts
nothing_added m = λ i. record { code = sym (append-nil m.code) i; strings = sym (append-nil m.strings) i; values = m.values; targets = sym (append-nil m.targets) i; arms = sym (add_arms-none m.arms) i; breaks = sym (append-nil m.breaks) i }

-- nothing is done
pub idle : {names : Environment} {room off : ℕ} → Makes names (λ d. d) [] room off no_parts
idle = record {
  scans = λ d n. refl;
  depth = λ s s2 h. let e : s ≡ s2 = cc in level_by (sym e);
  inside = λ s s2 h z p. refl;
  makes = λ s s2 m n h agree l. let e : s ≡ s2 = cc in ap (λ x. drafted x m) e ∙ ap (drafted s2) (nothing_added m);
}

-- one more instruction at the end
abbrev pub ending : Parts → (ℕ → Instr) → Parts
ending a j = record { code = λ p. a.code p ++ j p ∷ []; strings = a.strings; targets = a.targets; arms = a.arms; breaks = a.breaks }

pub put_ending : (m : Made) (a : Parts) (j : ℕ → Instr) → put (added m a) (j (length m.code)) ≡ added m (ending a j)
put_ending m a j = λ i. record {
  code = append_assoc m.code (a.code (length m.code)) (j (length m.code) ∷ []) i;
  strings = m.strings ++ a.strings;
  values = m.values;
  targets = m.targets ++ a.targets (length m.code);
  arms = add_arms (a.arms (length m.code)) m.arms;
  breaks = m.breaks ++ a.breaks (length m.code);
}

pub emits_known : {names : Environment} {f : Draft → Draft} {es : List Event} {room off : ℕ} {a : Parts} (i j : Instr) → ((p : ℕ) → length (a.code p) ≤ MAX_INSTRUCTIONS → i ≡ j) → Makes names f es room off a → Makes names (λ d. emitted i (f d)) es room off (ending a (λ p. j))
emits_known {f = f} {a = a} i j known x = record {
  scans = λ d n. scope_kept _ (f d) ∙ x.scans d n;
  depth = x.depth;
  makes = λ s s2 m n h agree l.
      ap (emitted i) (x.makes s s2 m n h agree l)
      ∙ emit i j s2 (added m a) (λ r. known (length m.code) (omega (arith, r.code_fits, length-append m.code (a.code (length m.code)))))
      ∙ ap (drafted s2) (put_ending m a (λ p. j));
  inside = x.inside;
}

pub emits : {names : Environment} {f : Draft → Draft} {es : List Event} {room off : ℕ} {a : Parts} (i : Instr) → Makes names f es room off a → Makes names (λ d. emitted i (f d)) es room off (ending a (λ p. i))
emits i x = emits_known i i (λ p l. refl) x
