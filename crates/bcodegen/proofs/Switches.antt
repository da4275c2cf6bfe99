-- The statements of a switch, and what leads to its arms after them.
use Rattle.std.proofs.Common.{◌≡◌, ℕ, suc, ◌+◌, ◌≤◌, List, [], ◌∷◌, ◌++◌, length, Some, Result, Ok, Err, refl, sym, ap, ◌∙◌, subst, arith, le_refl, append_assoc, append-nil, length-append, slice_set, lt-ltb}
use Rattle.std.proofs.Math.Seq.{set-append_seam}
use Rattle.blang.specs.declared.token.Diagnostic.{Diagnostic}
use Rattle.blang.specs.declared.code.Instr.{Instr}
use Rattle.blang.specs.declared.code.Instr.TheVariants as instr
use Rattle.blang.specs.Scan.{Scope, Around, empty_switch, scan_event, scanned, rest_of}
use Rattle.blang.specs.Walk.{Event, SwitchBegins, SwitchEnds}
use Rattle.blang.specs.Code.{Environment, arms_code}
use Rattle.bgrammar.proofs.CodeLaws.{scanned-append}
use Rattle.bemit.specs.Drafts as drafts
use Rattle.bemit.specs.Drafts.{Made, Draft, Faulty, Going, most_switches, with_made, event_done, emitted, place_of, mark_of, filled, breaks_filled, led, begun, ended, arms_size, tested}
use Rattle.bemit.specs.Effects.{switched}
use Rattle.bcodegen.proofs.Breaks.{Fills, fills_before, fills_whole}
use Rattle.bcodegen.proofs.Names.{agrees_before, later}
use Rattle.bcodegen.proofs.Parts.{Parts, added, add_arms-none, leading_is, drafted, kept_some, kept_within, Roomy, smaller, changed, noted, put, put_smaller, emit, fill, place_is, mark_is, scope_of, scope_kept, scope_stepped, Nested, Makes, scanned_twice}
use Rattle.bcodegen.proofs.Jumps.{length_put}
use Rattle.bcodegen.proofs.Closing.{fill_breaks}
use Rattle.bcodegen.proofs.Expressions.{stepped_is}

-- the code of a switch whose statements stand at q, by that of the statements where their breaks lead out
abbrev pub switch_code : Parts → (ℕ → ℕ → List Instr) → ℕ → List Instr
switch_code a c q =
    let arms = arms_code (a.arms q) in
    let d = q + length (a.code q) + 1 in
    instr.Jump d ∷ (c q (d + length arms) ++ (instr.Jump (d + length arms) ∷ arms))

abbrev pub switched_parts : Parts → (ℕ → ℕ → List Instr) → Parts
switched_parts a c = record { code = λ p. switch_code a c (p + 1); strings = a.strings; targets = λ p. a.targets (p + 1); arms = λ p. []; breaks = λ p. [] }

-- with its breaks filled, the first code is the second
pub record Closes (a : Parts) (c : ℕ → ℕ → List Instr) : Type 0 where
  pub fills : (p out : ℕ) → Fills out p (a.breaks p) (a.code p) (c p out)
  pub same_length : (p out : ℕ) → length (c p out) ≡ length (a.code p)

abbrev pub opened : Scope → Scope
opened s = record s { switches = empty_switch ∷ s.switches }

-- where there is room for one switch more
pub begun_is : (s : Scope) (m : Made) → suc (length s.switches) ≤ most_switches → begun (drafted s m) ≡ drafted (opened s) (record m { arms = drafts.no_arms ∷ m.arms })
begun_is s m le = rw (lt-ltb (length s.switches) most_switches le) (noted _ (opened s) m (record m { arms = drafts.no_arms ∷ m.arms }) (λ r. refl) refl refl refl)

begun_scope : (room : ℕ) (d : Draft) → Nested (suc room) (scope_of d) → scope_of (begun d) ≡ scanned (SwitchBegins ∷ []) (scope_of d)
begun_scope room (Faulty d) n = refl
begun_scope room (Going s made) n =
    let le : suc (length s.switches) ≤ most_switches = omega (arith, n) in
    rw (lt-ltb (length s.switches) most_switches le) (scope_kept _ (event_done SwitchBegins (Going s made)))

nested_inside : (room : ℕ) (r : Result Scope Diagnostic) → Nested (suc room) r → Nested room (scanned (SwitchBegins ∷ []) r)
nested_inside room (Ok s) n = let le : s.loops + length (opened s).switches + room ≤ 200 = omega (arith, n) in le
nested_inside room (Err d) n = tt

rest_length : (xs ys : List Around) (y : Around) → length xs ≡ length (y ∷ ys) → length (rest_of xs) ≡ length ys
rest_length [] ys y h = let bad : ⊥ = omega (arith, h) in absurd bad
rest_length (x ∷ xs) ys y h = omega (arith, h)

closed_is : (s s2 : Scope) → scan_event SwitchEnds s ≡ Ok s2 → s2 ≡ record s { switches = rest_of s.switches }
closed_is s s2 h = cc

switch_at : (body : Draft → Draft) (s s2 s3 : Scope) (m : Made) (a : Parts) (c : ℕ → ℕ → List Instr) → Closes a c → suc (length s.switches) ≤ most_switches → s.frame ≤ s2.frame → scan_event SwitchEnds s2 ≡ Ok s3
    → ((x : Made) → x.strings ≡ m.strings → body (drafted (opened s) x) ≡ drafted s2 (added x a))
    → switched body (drafted s m) ≡ drafted s3 (added m (switched_parts a c))
switch_at body s s2 s3 m a c closes le f h k =
    ap ended filled_is
    ∙ ap (with_made (λ m. Some (record m { arms = rest_of m.arms }))) (stepped_is SwitchEnds s2 s3 m7 h (ap (λ (t : Scope). t.frame) (closed_is s2 s3 h)))
    ∙ noted _ s3 m7 (record m7 { arms = rest_of m7.arms }) (λ r. refl) refl refl refl
    ∙ ap (drafted s3) whole
  where
    m2 : Made
    m2 = record (put m (instr.Jump 0)) { arms = drafts.no_arms ∷ m.arms }

    q : ℕ
    q = length m2.code

    q_is : length m2.code ≡ length m.code + 1
    q_is = length_put m (instr.Jump 0)

    ca : List Instr
    ca = a.code q

    arms : List Instr
    arms = arms_code (a.arms q)

    m3 : Made
    m3 = added m2 a

    start : ℕ
    start = q + length ca + 1

    end : ℕ
    end = start + length arms

    after_body : Draft
    after_body = body (begun (emitted (instr.Jump 0) (drafted s m)))

    body_is : after_body ≡ drafted s2 m3
    body_is = ap (λ d. body (begun d)) (emit (instr.Jump 0) (instr.Jump 0) s m (λ r. refl)) ∙ ap body (begun_is s (put m (instr.Jump 0)) le) ∙ k m2 refl

    m4 : Made
    m4 = put m3 (instr.Jump end)

    m5 : Made
    m5 = record m4 { code = m4.code ++ arms }

    closed_code : List Instr
    closed_code = m2.code ++ (c q end ++ (instr.Jump end ∷ arms))

    m6 : Made
    m6 = record m5 { code = closed_code; breaks = m.breaks }

    new : List Instr
    new = m.code ++ switch_code a c q

    m7 : Made
    m7 = record m6 { code = new }

    long3 : length m3.code ≡ q + length ca
    long3 = length-append m2.code ca

    place3 : Roomy s2.frame m3 → place_of after_body ≡ q + length ca
    place3 r = ap place_of body_is ∙ place_is s2 m3 r ∙ long3

    size3 : Roomy s2.frame m3 → arms_size after_body ≡ length arms
    size3 r = ap arms_size body_is ∙ ap (λ o. arms_size (Going s2 o)) (kept_some s2.frame m3 r) ∙ ap length (leading_is (a.arms q))

    end_known : Roomy s2.frame m3 → instr.Jump (place_of after_body + 1 + arms_size after_body) ≡ instr.Jump end
    end_known r = let e : place_of after_body + 1 + arms_size after_body ≡ end = omega (arith, place3 r, size3 r) in ap (λ n. instr.Jump n) e

    after_end : Draft
    after_end = emitted (instr.Jump (place_of after_body + 1 + arms_size after_body)) after_body

    end_is : after_end ≡ drafted s2 m4
    end_is = ap (emitted (instr.Jump (place_of after_body + 1 + arms_size after_body))) body_is ∙ emit (instr.Jump (place_of after_body + 1 + arms_size after_body)) (instr.Jump end) s2 m3 end_known

    less5 : Roomy s2.frame m5 → Roomy s2.frame m4
    less5 r = smaller _ _ m4 m5 (le_refl _) (omega (arith, length-append m4.code arms)) (le_refl _) (le_refl _) r

    tests_are : tested after_end ≡ drafted s2 m5
    tests_are = ap tested end_is ∙ changed _ s2 m4 m5 less5 (λ r. ap (λ l. drafts.within_room (record m4 { code = m4.code ++ l })) (leading_is (a.arms q)) ∙ sym (kept_within s2.frame m5 r.frame_fits))

    less3 : Roomy s2.frame m5 → Roomy s2.frame m3
    less3 r = put_smaller s2.frame m3 (instr.Jump end) (less5 r)

    less : Roomy s2.frame m3 → Roomy s.frame m
    less r = smaller s.frame s2.frame m m3 f (omega (arith, long3, q_is)) (omega (arith, length-append m.strings a.strings)) (le_refl _) r

    flat5 : m5.code ≡ m2.code ++ (ca ++ (instr.Jump end ∷ arms))
    flat5 = append_assoc m3.code (instr.Jump end ∷ []) arms ∙ append_assoc m2.code ca (instr.Jump end ∷ arms)

    long5 : length m5.code ≡ end
    long5 = omega (arith, ap length flat5, length-append m2.code (ca ++ (instr.Jump end ∷ arms)), length-append ca (instr.Jump end ∷ arms))

    long6 : length closed_code ≡ length m5.code
    long6 = omega (arith, long5, length-append m2.code (c q end ++ (instr.Jump end ∷ arms)), length-append (c q end) (instr.Jump end ∷ arms), closes.same_length q end)

    breaks_known : Roomy s2.frame m5 → (mark_of (drafted s m) ≡ length m.breaks) × (place_of (tested after_end) ≡ end)
    breaks_known r = (mark_is s m (less (less3 r)), ap place_of tests_are ∙ place_is s2 m5 r ∙ long5)

    breaks_are : breaks_filled (mark_of (drafted s m)) (place_of (tested after_end)) (tested after_end) ≡ drafted s2 m6
    breaks_are =
        ap (breaks_filled (mark_of (drafted s m)) (place_of (tested after_end))) tests_are
        ∙ fill_breaks (mark_of (drafted s m)) (place_of (tested after_end)) end s2 m5 m.breaks (a.breaks q) closed_code refl long6 breaks_known
        (ap (led end (a.breaks q)) flat5 ∙ fills_whole m2.code (fills_before (instr.Jump end ∷ arms) (closes.fills q end)) refl)

    less6 : Roomy s2.frame m6 → Roomy s2.frame m3
    less6 r = less3 (smaller _ _ m5 m6 (le_refl _) (omega (arith, long6)) (le_refl _) (le_refl _) r)

    after_jump : List Instr
    after_jump = c q end ++ (instr.Jump end ∷ arms)

    flat6 : m6.code ≡ m.code ++ (instr.Jump 0 ∷ after_jump)
    flat6 = append_assoc m.code (instr.Jump 0 ∷ []) after_jump

    long7 : length new ≡ length m6.code
    long7 = omega (arith, ap length flat6, length-append m.code (instr.Jump 0 ∷ after_jump), length-append m.code (switch_code a c q))

    known : Roomy s2.frame m6 → slice_set m6.code (place_of (drafted s m)) (instr.Jump (place_of after_body + 1)) ≡ new
    known r =
        let r3 = less6 r in
        let p : place_of (drafted s m) ≡ length m.code = place_is s m (less r3) in
        let t : place_of after_body + 1 ≡ start = omega (arith, place3 r3) in
        ap (λ n. slice_set m6.code n (instr.Jump (place_of after_body + 1))) p
        ∙ ap (λ n. slice_set m6.code (length m.code) (instr.Jump n)) t
        ∙ ap (λ l. slice_set l (length m.code) (instr.Jump start)) flat6
        ∙ set-append_seam m.code (instr.Jump 0) after_jump (instr.Jump start)

    filled_is : filled (place_of (drafted s m)) (instr.Jump (place_of after_body + 1)) (breaks_filled (mark_of (drafted s m)) (place_of (tested after_end)) (tested after_end)) ≡ drafted s2 m7
    filled_is = ap (filled (place_of (drafted s m)) (instr.Jump (place_of after_body + 1))) breaks_are ∙ fill (place_of (drafted s m)) (instr.Jump (place_of after_body + 1)) s2 m6 new long7 known

    whole : record m7 { arms = rest_of m7.arms } ≡ added m (switched_parts a c)
    whole = λ i. record { code = m.code ++ switch_code a c (q_is i); strings = m.strings ++ a.strings; values = m.values; targets = m.targets ++ a.targets (q_is i); arms = sym (add_arms-none m.arms) i; breaks = sym (append-nil m.breaks) i }

pub switches : {names : Environment} {body : Draft → Draft} {es : List Event} {room off : ℕ} {a : Parts} (c : ℕ → ℕ → List Instr) → Closes a c → Makes names body es room off a → Makes names (switched body) (SwitchBegins ∷ (es ++ SwitchEnds ∷ [])) (suc room) off (switched_parts a c)
switches {names = names} {body = body} {es = es} {room = room} {off = off} {a = a} c closes x = record {
  scans = switch_scans;
  depth = λ s s3 h.
      let t = scanned_twice es (SwitchEnds ∷ []) (opened s) s3 h in
      let end = closed_is t.0 s3 t.2 in
      let d = x.depth (opened s) t.0 t.1 in
      (ap (λ (u : Scope). u.loops) end ∙ d.0, ap (λ (u : Scope). length u.switches) end ∙ rest_length t.0.switches s.switches empty_switch d.1);
  makes = λ s s3 m n h agree l.
      let t = scanned_twice es (SwitchEnds ∷ []) (opened s) s3 h in
      switch_at body s t.0 s3 m a c closes (omega (arith, n)) (later es (opened s) t.0 t.1).frame t.2
      (λ b same. x.makes (opened s) t.0 b (let le : s.loops + length (opened s).switches + room ≤ 200 = omega (arith, n) in le) t.1
      (agrees_before names t.0.names s3.names (later (SwitchEnds ∷ []) t.0 s3 t.2).longer agree) (ap length same ∙ l));
  inside = λ s s3 h z p. refl;
}
  where
    switch_scans : (d : Draft) → Nested (suc room) (scope_of d) → scope_of (switched body d) ≡ scanned (SwitchBegins ∷ (es ++ SwitchEnds ∷ [])) (scope_of d)
    switch_scans d n =
        let d1 = emitted (instr.Jump 0) d in
        let n1 : Nested (suc room) (scope_of d1) = subst (Nested (suc room)) (sym (scope_kept _ d)) n in
        let n2 : Nested room (scope_of (begun d1)) = subst (Nested room) (sym (begun_scope room d1 n1)) (nested_inside room (scope_of d1) n1) in
        let b = body (begun d1) in
        let j = emitted (instr.Jump (place_of b + 1 + arms_size b)) b in
        let e : scope_of b ≡ scanned es (scanned (SwitchBegins ∷ []) (scope_of d)) = x.scans (begun d1) n2 ∙ ap (scanned es) (begun_scope room d1 n1 ∙ ap (scanned (SwitchBegins ∷ [])) (scope_kept _ d)) in
        let t = tested j in
        let same : scope_of (filled (place_of d) (instr.Jump (place_of b + 1)) (breaks_filled (mark_of d) (place_of t) t)) ≡ scope_of b = scope_kept _ (breaks_filled (mark_of d) (place_of t) t) ∙ scope_kept _ t ∙ scope_kept _ j ∙ scope_kept _ b in
        scope_kept _ _ ∙ scope_stepped SwitchEnds _ ∙ ap (scanned (SwitchEnds ∷ [])) (same ∙ e)
        ∙ sym (scanned-append es (SwitchEnds ∷ []) (scanned (SwitchBegins ∷ []) (scope_of d)))
        ∙ sym (scanned-append (SwitchBegins ∷ []) (es ++ SwitchEnds ∷ []) (scope_of d))
