-- One pass over what stands before a statement.
use Rattle.std.proofs.Common.{◌≡◌, ℕ, ◌+◌, ◌≤◌, Bool, true, false, List, [], ◌∷◌, ◌++◌, length, map, fold, flat_map, Option, Some, None, Ok, refl, sym, ap, ◌∙◌, subst, arith, le_refl, append_assoc, append-nil, length-append, unwrap_or, nat_lt, ltb-true, ltb-false, add-zero}
use Rattle.blang.specs.declared.code.Instr.{Instr}
use Rattle.blang.specs.declared.code.Instr.TheVariants as instr
use Rattle.blang.specs.Trees.{Identifier, Declared, Heading, Auto, Extrn, Label, Case, Default, constant_value}
use Rattle.blang.specs.Scan.{Automatic, kind_of, Scope, scan_event}
use Rattle.blang.specs.Walk.{AutoHere, ExtrnHere, LabelHere, CaseHere, DefaultHere, Event, BreakHere, walk_declared, walk_import}
use Rattle.bgrammar.proofs.WalkLaws.{list_events, declared_events}
use Rattle.bgrammar.specs.Events.{heading_events}
use Rattle.blang.specs.Code.{Environment, Referent, In_frame, Outside, At_label, vector_code, heading_fragment}
use Rattle.bemit.specs.Drafts.{Made, Draft, Going, with_made, following, event_done, emitted, worded, frame_of, vector_set, declared, imported, labelled, within_room, break_drafted, Switch, with_innermost, with_case, with_default}
use Rattle.blang.specs.declared.limits.TheConstants.{MAX_WORDS}
use Rattle.bemit.specs.Effects.{headed, parameters_done}
use Rattle.bgrammar.proofs.ScanSteps.{ArmAdded, kind_of-entered, declares, imports, labels_here, selects, defaults, breaks}
use Rattle.bcodegen.proofs.Names.{later}
use Rattle.bcodegen.proofs.Parts.{Parts, no_parts, added, first_of, first_of-none, add_arms, add_arms-none, drafted, kept, kept_within, kept_none, Roomy, smaller, changed, noted, put, emit, scope_of, scope_kept, scope_stepped, level_by, Makes, nothing_added, then_, retold, rescanned, idle}
use Rattle.bcodegen.proofs.Expressions.{only, stepped_is}
use Rattle.bcodegen.proofs.Trees.{open_fragment}

vector_scope : (size : Option ℕ) (k : ℕ) (d : Draft) → scope_of (vector_set size k d) ≡ scope_of d
vector_scope None k d = refl
vector_scope (Some c) k d = scope_kept _ _ ∙ scope_kept _ _ ∙ scope_kept _ _ ∙ scope_kept _ d

pub worded_scope : (n : ℕ) (d : Draft) → scope_of (worded n d) ≡ scope_of d
worded_scope n d = go (nat_lt MAX_WORDS n) refl
  where
    go : (b : Bool) → nat_lt MAX_WORDS n ≡ b → scope_of (worded n d) ≡ scope_of d
    go true q = rw q (scope_kept _ d)
    go false q = rw q refl

none_made : (s : Scope) (o : Option Made) → with_made (λ m. None) (Going s o) ≡ Going s None
none_made s None = refl
none_made s (Some m) = refl

-- no frame has too many words
worded_is : (s2 : Scope) (frame : ℕ) (m : Made) → frame ≤ s2.frame → worded s2.frame (Going s2 (kept frame m)) ≡ drafted s2 m
worded_is s2 frame m f = go (nat_lt MAX_WORDS s2.frame) refl
  where
    go : (b : Bool) → nat_lt MAX_WORDS s2.frame ≡ b → worded s2.frame (Going s2 (kept frame m)) ≡ drafted s2 m
    go true q = rw q (none_made s2 (kept frame m) ∙ ap (λ o. Going s2 o) (sym (kept_none s2.frame m (λ r. omega (arith, r.frame_fits, ltb-true MAX_WORDS s2.frame q)))))
    go false q =
        let le : s2.frame ≤ MAX_WORDS = omega (arith, ltb-false MAX_WORDS s2.frame q) in
        rw q (ap (λ o. Going s2 o) (kept_within frame m (omega (arith, le, f)) ∙ sym (kept_within s2.frame m le)))

put_vector : (s : Scope) (m : Made) (k c : ℕ) → vector_set (Some c) k (drafted s m) ≡ drafted s (record m { code = m.code ++ (instr.Automatic k ∷ instr.Automatic (k + 1) ∷ instr.Store ∷ instr.Pop ∷ []) })
put_vector s m k c =
    let m1 = put m (instr.Automatic k) in
    let m2 = put m1 (instr.Automatic (k + 1)) in
    let m3 = put m2 instr.Store in
    ap (λ d. emitted instr.Pop (emitted instr.Store (emitted (instr.Automatic (k + 1)) d))) (emit (instr.Automatic k) (instr.Automatic k) s m (λ r. refl))
    ∙ ap (λ d. emitted instr.Pop (emitted instr.Store d)) (emit (instr.Automatic (k + 1)) (instr.Automatic (k + 1)) s m1 (λ r. refl))
    ∙ ap (emitted instr.Pop) (emit instr.Store instr.Store s m2 (λ r. refl))
    ∙ emit instr.Pop instr.Pop s m3 (λ r. refl)
    ∙ ap (λ l. drafted s (record m { code = l }))
    (append_assoc m2.code (instr.Store ∷ []) (instr.Pop ∷ [])
    ∙ append_assoc m1.code (instr.Automatic (k + 1) ∷ []) (instr.Store ∷ instr.Pop ∷ [])
    ∙ append_assoc m.code (instr.Automatic k ∷ []) (instr.Automatic (k + 1) ∷ instr.Store ∷ instr.Pop ∷ []))

code_only : (m : Made) (c : List Instr) → record m { code = m.code ++ c } ≡ added m (only (λ p. c) [])
code_only m c = λ i. record { code = m.code ++ c; strings = sym (append-nil m.strings) i; values = m.values; targets = sym (append-nil m.targets) i; arms = sym (add_arms-none m.arms) i; breaks = sym (append-nil m.breaks) i }

vector_made : (names : Environment) (size : Option ℕ) (k : ℕ) (s : Scope) (m : Made) → vector_set size k (drafted s m) ≡ drafted s (added m (only (λ p. vector_code names (In_frame k) size) []))
vector_made names None k s m = ap (drafted s) (nothing_added m)
vector_made names (Some c) k s m = put_vector s m k c ∙ ap (drafted s) (code_only m _)

-- an automatic name
pub declared_makes : {names : Environment} {room off : ℕ} (w : Identifier) (size : Option ℕ) → Makes names (declared w size) (AutoHere w size ∷ []) room off (only (λ p. vector_code names (names w.text) size) [])
declared_makes {names = names} w size = record {
  scans = λ d n. vector_scope size (frame_of d) _ ∙ worded_scope _ (event_done (AutoHere w size) d) ∙ scope_stepped (AutoHere w size) d;
  depth = λ s s2 h. level_by (declares w size s s2 h).is;
  makes = λ s s2 m n h agree l.
      let d = declares w size s s2 h in
      let kind : kind_of w.text s2.names ≡ Some (Automatic s.frame) = subst (λ (t : Scope). kind_of w.text t.names ≡ Some (Automatic s.frame)) (sym d.is) (kind_of-entered d.come) in
      ap (λ b. vector_set size s.frame (worded (frame_of b) b)) (ap (λ r. following r (kept s.frame m)) h)
      ∙ ap (vector_set size s.frame) (worded_is s2 s.frame m (later (AutoHere w size ∷ []) s s2 h).frame)
      ∙ vector_made names size s.frame s2 m
      ∙ ap (λ k. drafted s2 (added m (only (λ p. vector_code names k size) []))) (sym (agree w.text (Automatic s.frame) kind));
  inside = λ s s2 h z p. refl;
}

pub autos_make : {names : Environment} {room off : ℕ} (ds : List Declared) → Makes names (λ d. fold (λ b x. declared x.word x.size b) d ds) (map (λ d. AutoHere d.word d.size) ds) room off (only (λ p. flat_map (λ d. vector_code names (names d.word.text) d.size) ds) [])
autos_make [] = idle
autos_make {names = names} {off = off} (x ∷ ds) =
    retold (only (λ p. flat_map (λ d. vector_code names (names d.word.text) d.size) (x ∷ ds)) []) (λ p. record { code = refl; strings = refl; targets = refl; arms = refl; breaks = refl })
    (then_ (declared_makes x.word x.size) (autos_make ds) (sym (add-zero off)))

pub no_vector : (names : Environment) (m : Referent) → vector_code names m None ≡ []
no_vector names (In_frame k) = refl
no_vector names Outside = refl
no_vector names (At_label k) = refl

pub parameters_make : {names : Environment} {room off : ℕ} (ws : List Identifier) → Makes names (parameters_done ws) (map (λ w. AutoHere w None) ws) room off no_parts
parameters_make [] = idle
parameters_make {names = names} {off = off} (w ∷ ws) =
    retold no_parts (λ p. record { code = ap (λ l. l ++ []) (no_vector names (names w.text)); strings = refl; targets = refl; arms = refl; breaks = refl })
    (then_ (declared_makes w None) (parameters_make ws) (sym (add-zero off)))

pub imported_makes : {names : Environment} {room off : ℕ} (w : Identifier) → Makes names (imported w) (ExtrnHere w ∷ []) room off no_parts
imported_makes w = record {
  scans = λ d n. scope_stepped (ExtrnHere w) d;
  depth = λ s s2 h. level_by (imports w s s2 h).is;
  makes = λ s s2 m n h agree l.
      stepped_is (ExtrnHere w) s s2 m h (ap (λ (t : Scope). t.frame) (imports w s s2 h).is)
      ∙ ap (drafted s2) (nothing_added m);
  inside = λ s s2 h z p. refl;
}

imports_make : {names : Environment} {room off : ℕ} (ws : List Identifier) → Makes names (λ d. fold (λ b w. imported w b) d ws) (map ExtrnHere ws) room off no_parts
imports_make [] = idle
imports_make {off = off} (w ∷ ws) =
    retold no_parts (λ p. record { code = refl; strings = refl; targets = refl; arms = refl; breaks = refl }) (then_ (imported_makes w) (imports_make ws) (sym (add-zero off)))

abbrev label_parts : Parts
label_parts = record { code = λ p. []; strings = []; targets = λ p. p ∷ []; arms = λ p. []; breaks = λ p. [] }

labelled_makes : {names : Environment} {room off : ℕ} (w : Identifier) → Makes names (labelled w) (LabelHere w ∷ []) room off label_parts
labelled_makes w = record {
  scans = λ d n. scope_kept _ (event_done (LabelHere w) d) ∙ scope_stepped (LabelHere w) d;
  depth = λ s s2 h. level_by (labels_here w s s2 h).is;
  makes = λ s s2 m n h agree l.
      ap (with_made (λ m. Some (record m { targets = m.targets ++ length m.code ∷ [] }))) (stepped_is (LabelHere w) s s2 m h (ap (λ (t : Scope). t.frame) (labels_here w s s2 h).is))
      ∙ noted _ s2 m (record m { targets = m.targets ++ length m.code ∷ [] }) (λ r. refl) refl refl refl
      ∙ ap (drafted s2) (whole m);
  inside = λ s s2 h z p. refl;
}
  where
    whole : (m : Made) → record m { targets = m.targets ++ length m.code ∷ [] } ≡ added m label_parts
    whole m = λ i. record { code = sym (append-nil m.code) i; strings = sym (append-nil m.strings) i; values = m.values; targets = m.targets ++ length m.code ∷ []; arms = sym (add_arms-none m.arms) i; breaks = sym (append-nil m.breaks) i }

with_case-add : (value place : ℕ) (k : List Switch) → with_innermost (with_case value place) k ≡ add_arms ((Some value, place) ∷ []) k
with_case-add value place [] = refl
with_case-add value place (x ∷ xs) = λ i. record { cases = x.cases ++ (value, place) ∷ []; default = sym (first_of-none x.default) i } ∷ xs

first_or : (o : Option ℕ) (place : ℕ) → Some (unwrap_or o place) ≡ first_of o (Some place)
first_or None place = refl
first_or (Some t) place = refl

with_default-add : (place : ℕ) (k : List Switch) → with_innermost (with_default place) k ≡ add_arms ((None, place) ∷ []) k
with_default-add place [] = refl
with_default-add place (x ∷ xs) = λ i. record { cases = sym (append-nil x.cases) i; default = first_or x.default place i } ∷ xs

abbrev arm_parts : Option ℕ → Parts
arm_parts value = record { code = λ p. []; strings = []; targets = λ p. []; arms = λ p. (value, p) ∷ []; breaks = λ p. [] }

abbrev arm_here : (ℕ → Switch → Switch) → Draft → Draft
arm_here f d = with_made (λ m. Some (record m { arms = with_innermost (f (length m.code)) m.arms })) d

-- a case or a default
arm_makes : {names : Environment} {room off : ℕ} (e : Event) (value : Option ℕ) (f : ℕ → Switch → Switch) → ((s s2 : Scope) → scan_event e s ≡ Ok s2 → ArmAdded s s2)
    → ((place : ℕ) (k : List Switch) → with_innermost (f place) k ≡ add_arms ((value, place) ∷ []) k)
    → Makes names (λ d. arm_here f (event_done e d)) (e ∷ []) room off (arm_parts value)
arm_makes e value f adds_arm adds = record {
  scans = λ d n. scope_kept _ (event_done e d) ∙ scope_stepped e d;
  depth = λ s s2 h. let c = adds_arm s s2 h in (c.loops, c.depth);
  makes = λ s s2 m n h agree l.
      ap (arm_here f) (stepped_is e s s2 m h (adds_arm s s2 h).frame)
      ∙ noted _ s2 m (record m { arms = with_innermost (f (length m.code)) m.arms }) (λ r. refl) refl refl refl
      ∙ ap (drafted s2) (whole m);
  inside = λ s s2 h z p. refl;
}
  where
    whole : (m : Made) → record m { arms = with_innermost (f (length m.code)) m.arms } ≡ added m (arm_parts value)
    whole m = λ i. record { code = sym (append-nil m.code) i; strings = sym (append-nil m.strings) i; values = m.values; targets = sym (append-nil m.targets) i; arms = adds (length m.code) m.arms i; breaks = sym (append-nil m.breaks) i }

abbrev pub break_parts : Parts
break_parts = record { code = λ p. instr.Jump 0 ∷ []; strings = []; targets = λ p. []; arms = λ p. []; breaks = λ p. p ∷ [] }

abbrev jumped : Made → Made
jumped m = record m { code = m.code ++ instr.Jump 0 ∷ []; breaks = m.breaks ++ length m.code ∷ [] }

-- a jump without a target
pub broken_makes : {names : Environment} {room off : ℕ} (line : ℕ) → Makes names (break_drafted line) (BreakHere line ∷ []) room off break_parts
broken_makes line = record {
  scans = λ d n. scope_kept _ (event_done (BreakHere line) d) ∙ scope_stepped (BreakHere line) d;
  depth = λ s s2 h. level_by (breaks line s s2 h).is;
  makes = λ s s2 m n h agree l.
      let m2 = jumped m in
      let less : Roomy s2.frame m2 → Roomy s2.frame m = smaller _ _ m m2 (le_refl _) (omega (arith, length-append m.code (instr.Jump 0 ∷ []))) (le_refl _) (le_refl _) in
      ap (with_made (λ m. within_room (jumped m))) (stepped_is (BreakHere line) s s2 m h (ap (λ (t : Scope). t.frame) (breaks line s s2 h).is))
      ∙ changed _ s2 m m2 less (λ r. sym (kept_within s2.frame m2 r.frame_fits))
      ∙ ap (drafted s2) (whole m);
  inside = λ s s2 h z p.
      let bad : nat_lt 0 0 ≡ true = ap (nat_lt 0) (sym z) ∙ (breaks line s s2 h).holds in cc;
}
  where
    whole : (m : Made) → jumped m ≡ added m break_parts
    whole m = λ i. record { code = m.code ++ instr.Jump 0 ∷ []; strings = sym (append-nil m.strings) i; values = m.values; targets = sym (append-nil m.targets) i; arms = sym (add_arms-none m.arms) i; breaks = m.breaks ++ length m.code ∷ [] }

abbrev pub heading_parts : Environment → Heading → Parts
heading_parts names h = open_fragment (heading_fragment names h) [] (λ p. [])

pub heading_makes : {names : Environment} {room off : ℕ} (h : Heading) → Makes names (headed h) (heading_events h) room off (heading_parts names h)
heading_makes {names = names} (Auto ds) = retold (heading_parts names (Auto ds)) (λ p. record { code = refl; strings = refl; targets = refl; arms = refl; breaks = refl }) (rescanned (sym (append-nil _ ∙ list_events walk_declared (λ d. AutoHere d.word d.size) declared_events ds)) (autos_make ds))
heading_makes {names = names} (Extrn ws) = retold (heading_parts names (Extrn ws)) (λ p. record { code = refl; strings = refl; targets = refl; arms = refl; breaks = refl }) (rescanned (sym (append-nil _ ∙ list_events walk_import ExtrnHere (λ w. refl) ws)) (imports_make ws))
heading_makes {names = names} (Label w) = retold (heading_parts names (Label w)) (λ p. record { code = refl; strings = refl; targets = refl; arms = refl; breaks = refl }) (labelled_makes w)
heading_makes {names = names} (Case line c) = retold (heading_parts names (Case line c)) (λ p. record { code = refl; strings = refl; targets = refl; arms = refl; breaks = refl }) (arm_makes (CaseHere line (constant_value c)) (Some (constant_value c)) (with_case (constant_value c)) (selects line (constant_value c)) (with_case-add (constant_value c)))
heading_makes {names = names} (Default line) = retold (heading_parts names (Default line)) (λ p. record { code = refl; strings = refl; targets = refl; arms = refl; breaks = refl }) (arm_makes (DefaultHere line) None with_default (defaults line) with_default-add)
