-- A jump is put once its target is known.
use Rattle.std.proofs.Common.{◌≡◌, ℕ, ◌+◌, ◌≤◌, List, [], ◌∷◌, ◌++◌, length, refl, sym, ap, ◌∙◌, subst, arith, le_refl, append_assoc, length-append, slice_set}
use Rattle.std.proofs.Math.Seq.{set-append_seam}
use Rattle.blang.specs.declared.code.Instr.{Instr}
use Rattle.blang.specs.declared.code.Instr.TheVariants as instr
use Rattle.blang.specs.Scan.{Scope, scanned}
use Rattle.blang.specs.Walk.{Event}
use Rattle.blang.specs.Code.{Environment}
use Rattle.bgrammar.proofs.CodeLaws.{scanned-append}
use Rattle.bemit.specs.Drafts.{Made, Draft, emitted, place_of, filled}
use Rattle.bemit.specs.Effects.{ways, skipping}
use Rattle.bcodegen.proofs.Names.{agrees_before, later}
use Rattle.bcodegen.proofs.Parts.{Parts, added, add_arms, add_arms-two, drafted, Roomy, smaller, put, put_smaller, emit, fill, place_is, scope_of, scope_kept, Nested, level_then, same_depth, Makes, scanned_twice, nested_after}

second_jump : (c a b : List Instr) (x j v : Instr) (end : ℕ) → end ≡ length (c ++ (x ∷ a)) → slice_set ((c ++ (x ∷ (a ++ (j ∷ [])))) ++ b) end v ≡ c ++ (x ∷ (a ++ (v ∷ b)))
second_jump c a b x j v end h =
    ap (λ l. slice_set l end v) (append_assoc c (x ∷ (a ++ (j ∷ []))) b ∙ ap (λ l. c ++ (x ∷ l)) (append_assoc a (j ∷ []) b) ∙ sym (append_assoc c (x ∷ a) (j ∷ b)))
    ∙ ap (λ k. slice_set ((c ++ (x ∷ a)) ++ (j ∷ b)) k v) h
    ∙ set-append_seam (c ++ (x ∷ a)) j b v
    ∙ append_assoc c (x ∷ a) (v ∷ b)

pub length_put : (m : Made) (i : Instr) → length (m.code ++ i ∷ []) ≡ length m.code + 1
length_put m i = length-append m.code (i ∷ [])

-- a jump past code, and jumps round two ways
abbrev pub skip_code : (ℕ → List Instr) → ℕ → List Instr
skip_code a p = instr.JumpIfZero (p + 1 + length (a (p + 1))) ∷ a (p + 1)

abbrev pub ways_code : (ℕ → List Instr) → (ℕ → List Instr) → ℕ → List Instr
ways_code a b p =
    let q = p + 1 + length (a (p + 1)) + 1 in
    instr.JumpIfZero q ∷ (a (p + 1) ++ (instr.Jump (q + length (b q)) ∷ b q))

abbrev pub skipped : Parts → Parts
skipped a = record {
  code = skip_code a.code;
  strings = a.strings;
  targets = λ p. a.targets (p + 1);
  arms = λ p. a.arms (p + 1);
  breaks = λ p. a.breaks (p + 1);
}

pub skip_at : (body : Draft → Draft) (s s2 : Scope) (m : Made) (a : Parts) → s.frame ≤ s2.frame
    → body (drafted s (put m (instr.JumpIfZero 0))) ≡ drafted s2 (added (put m (instr.JumpIfZero 0)) a)
    → skipping body (drafted s m) ≡ drafted s2 (added m (skipped a))
skip_at body s s2 m a f h =
    ap (λ b. filled (place_of (drafted s m)) (instr.JumpIfZero (place_of b)) b) after_body
    ∙ fill (place_of (drafted s m)) (instr.JumpIfZero (place_of (drafted s2 m2))) s2 m2 new same_length known
    ∙ ap (drafted s2) whole
  where
    m1 : Made
    m1 = put m (instr.JumpIfZero 0)

    m2 : Made
    m2 = added m1 a

    ca : List Instr
    ca = a.code (length m.code + 1)

    new : List Instr
    new = m.code ++ (instr.JumpIfZero (length m.code + 1 + length ca) ∷ ca)

    place1 : length m1.code ≡ length m.code + 1
    place1 = length_put m (instr.JumpIfZero 0)

    after_body : body (emitted (instr.JumpIfZero 0) (drafted s m)) ≡ drafted s2 m2
    after_body = ap body (emit (instr.JumpIfZero 0) (instr.JumpIfZero 0) s m (λ r. refl)) ∙ h

    flat : m2.code ≡ m.code ++ (instr.JumpIfZero 0 ∷ ca)
    flat = append_assoc m.code (instr.JumpIfZero 0 ∷ []) (a.code (length m1.code)) ∙ ap (λ n. m.code ++ (instr.JumpIfZero 0 ∷ a.code n)) place1

    long : length m2.code ≡ length m.code + 1 + length ca
    long = omega (arith, ap length flat, length-append m.code (instr.JumpIfZero 0 ∷ ca))

    same_length : length new ≡ length m2.code
    same_length = omega (arith, long, length-append m.code (instr.JumpIfZero (length m.code + 1 + length ca) ∷ ca))

    known : Roomy s2.frame m2 → slice_set m2.code (place_of (drafted s m)) (instr.JumpIfZero (place_of (drafted s2 m2))) ≡ new
    known r =
        let p : place_of (drafted s m) ≡ length m.code = place_is s m (smaller s.frame s2.frame m m2 f (omega (arith, long)) (omega (arith, length-append m.strings a.strings)) (le_refl _) r) in
        let q : place_of (drafted s2 m2) ≡ length m.code + 1 + length ca = place_is s2 m2 r ∙ long in
        ap (λ n. slice_set m2.code n (instr.JumpIfZero (place_of (drafted s2 m2)))) p
        ∙ ap (λ n. slice_set m2.code (length m.code) (instr.JumpIfZero n)) q
        ∙ ap (λ l. slice_set l (length m.code) (instr.JumpIfZero (length m.code + 1 + length ca))) flat
        ∙ set-append_seam m.code (instr.JumpIfZero 0) ca (instr.JumpIfZero (length m.code + 1 + length ca))

    whole : record m2 { code = new } ≡ added m (skipped a)
    whole = λ i. record { code = new; strings = m.strings ++ a.strings; values = m.values; targets = m.targets ++ a.targets (place1 i); arms = add_arms (a.arms (place1 i)) m.arms; breaks = m.breaks ++ a.breaks (place1 i) }

pub skips : {names : Environment} {body : Draft → Draft} {es : List Event} {room off : ℕ} {a : Parts} → Makes names body es room off a → Makes names (skipping body) es room off (skipped a)
skips {names = names} {body = body} {es = es} {room = room} {off = off} {a = a} x = record {
  scans = λ d n. scope_kept _ (body (emitted (instr.JumpIfZero 0) d)) ∙ x.scans (emitted (instr.JumpIfZero 0) d) (subst (Nested room) (sym (scope_kept _ d)) n) ∙ ap (scanned es) (scope_kept _ d);
  depth = x.depth;
  makes = λ s s2 m n h agree l. skip_at body s s2 m a (later es s s2 h).frame (x.makes s s2 (put m (instr.JumpIfZero 0)) n h agree l);
  inside = λ s s2 h z p. x.inside s s2 h z (p + 1);
}

abbrev pub ways_parts : Parts → Parts → Parts
ways_parts a b = record {
  code = ways_code a.code b.code;
  strings = a.strings ++ b.strings;
  targets = λ p. a.targets (p + 1) ++ b.targets (p + 1 + length (a.code (p + 1)) + 1);
  arms = λ p. a.arms (p + 1) ++ b.arms (p + 1 + length (a.code (p + 1)) + 1);
  breaks = λ p. a.breaks (p + 1) ++ b.breaks (p + 1 + length (a.code (p + 1)) + 1);
}

ways_at : (first second : Draft → Draft) (s s2 s3 : Scope) (m : Made) (a b : Parts) → s.frame ≤ s2.frame → s2.frame ≤ s3.frame
    → first (drafted s (put m (instr.JumpIfZero 0))) ≡ drafted s2 (added (put m (instr.JumpIfZero 0)) a)
    → ((c : Made) → c.strings ≡ m.strings ++ a.strings → second (drafted s2 c) ≡ drafted s3 (added c b))
    → ways first second (drafted s m) ≡ drafted s3 (added m (ways_parts a b))
ways_at first second s s2 s3 m a b f f2 h k =
    ap (λ g. filled (place_of after_first) (instr.Jump (place_of g)) g) after_second
    ∙ fill (place_of after_first) (instr.Jump (place_of (drafted s3 m5))) s3 m5 new same_length2 known2
    ∙ ap (drafted s3) whole
  where
    m1 : Made
    m1 = put m (instr.JumpIfZero 0)

    m2 : Made
    m2 = added m1 a

    m3 : Made
    m3 = put m2 (instr.Jump 0)

    ca : List Instr
    ca = a.code (length m.code + 1)

    q : ℕ
    q = length m.code + 1 + length ca + 1

    first_code : List Instr
    first_code = m.code ++ (instr.JumpIfZero q ∷ (ca ++ (instr.Jump 0 ∷ [])))

    m4 : Made
    m4 = record m3 { code = first_code }

    m5 : Made
    m5 = added m4 b

    cb : List Instr
    cb = b.code q

    new : List Instr
    new = m.code ++ (instr.JumpIfZero q ∷ (ca ++ (instr.Jump (q + length cb) ∷ cb)))

    place1 : length m1.code ≡ length m.code + 1
    place1 = length_put m (instr.JumpIfZero 0)

    after_first : Draft
    after_first = first (emitted (instr.JumpIfZero 0) (drafted s m))

    first_is : after_first ≡ drafted s2 m2
    first_is = ap first (emit (instr.JumpIfZero 0) (instr.JumpIfZero 0) s m (λ r. refl)) ∙ h

    jump_is : emitted (instr.Jump 0) after_first ≡ drafted s2 m3
    jump_is = ap (emitted (instr.Jump 0)) first_is ∙ emit (instr.Jump 0) (instr.Jump 0) s2 m2 (λ r. refl)

    flat2 : m2.code ≡ m.code ++ (instr.JumpIfZero 0 ∷ ca)
    flat2 = append_assoc m.code (instr.JumpIfZero 0 ∷ []) (a.code (length m1.code)) ∙ ap (λ n. m.code ++ (instr.JumpIfZero 0 ∷ a.code n)) place1

    flat3 : m3.code ≡ m.code ++ (instr.JumpIfZero 0 ∷ (ca ++ (instr.Jump 0 ∷ [])))
    flat3 = ap (λ l. l ++ (instr.Jump 0 ∷ [])) flat2 ∙ append_assoc m.code (instr.JumpIfZero 0 ∷ ca) (instr.Jump 0 ∷ [])

    long2 : length m2.code ≡ length m.code + 1 + length ca
    long2 = omega (arith, ap length flat2, length-append m.code (instr.JumpIfZero 0 ∷ ca))

    long3 : length m3.code ≡ q
    long3 = omega (arith, long2, length_put m2 (instr.Jump 0))

    long4 : length m4.code ≡ q
    long4 = omega (arith, length-append m.code (instr.JumpIfZero q ∷ (ca ++ (instr.Jump 0 ∷ []))), length-append ca (instr.Jump 0 ∷ []))

    less2 : Roomy s2.frame m2 → Roomy s.frame m
    less2 r = smaller s.frame s2.frame m m2 f (omega (arith, long2)) (omega (arith, length-append m.strings a.strings)) (le_refl _) r

    known : Roomy s2.frame m3 → slice_set m3.code (place_of (drafted s m)) (instr.JumpIfZero (place_of (drafted s2 m3))) ≡ first_code
    known r =
        let p : place_of (drafted s m) ≡ length m.code = place_is s m (less2 (put_smaller s2.frame m2 (instr.Jump 0) r)) in
        let t : place_of (drafted s2 m3) ≡ q = place_is s2 m3 r ∙ long3 in
        ap (λ n. slice_set m3.code n (instr.JumpIfZero (place_of (drafted s2 m3)))) p
        ∙ ap (λ n. slice_set m3.code (length m.code) (instr.JumpIfZero n)) t
        ∙ ap (λ l. slice_set l (length m.code) (instr.JumpIfZero q)) flat3
        ∙ set-append_seam m.code (instr.JumpIfZero 0) (ca ++ (instr.Jump 0 ∷ [])) (instr.JumpIfZero q)

    filled_is : filled (place_of (drafted s m)) (instr.JumpIfZero (place_of (emitted (instr.Jump 0) after_first))) (emitted (instr.Jump 0) after_first) ≡ drafted s2 m4
    filled_is =
        ap (λ j. filled (place_of (drafted s m)) (instr.JumpIfZero (place_of j)) j) jump_is
        ∙ fill (place_of (drafted s m)) (instr.JumpIfZero (place_of (drafted s2 m3))) s2 m3 first_code (omega (arith, long3, long4)) known

    after_second : second (filled (place_of (drafted s m)) (instr.JumpIfZero (place_of (emitted (instr.Jump 0) after_first))) (emitted (instr.Jump 0) after_first)) ≡ drafted s3 m5
    after_second = ap second filled_is ∙ k m4 refl

    flat5 : m5.code ≡ first_code ++ cb
    flat5 = ap (λ n. first_code ++ b.code n) long4

    long5 : length m5.code ≡ q + length cb
    long5 = omega (arith, ap length flat5, length-append first_code cb, long4)

    same_length2 : length new ≡ length m5.code
    same_length2 = omega (arith, long5, length-append m.code (instr.JumpIfZero q ∷ (ca ++ (instr.Jump (q + length cb) ∷ cb))), length-append ca (instr.Jump (q + length cb) ∷ cb))

    less5 : Roomy s3.frame m5 → Roomy s2.frame m2
    less5 r = smaller s2.frame s3.frame m2 m5 f2 (omega (arith, long2, long5)) (omega (arith, length-append m2.strings b.strings)) (le_refl _) r

    known2 : Roomy s3.frame m5 → slice_set m5.code (place_of after_first) (instr.Jump (place_of (drafted s3 m5))) ≡ new
    known2 r =
        let p : place_of after_first ≡ length (m.code ++ (instr.JumpIfZero q ∷ ca)) = ap place_of first_is ∙ place_is s2 m2 (less5 r) ∙ (let e : length m2.code ≡ length (m.code ++ (instr.JumpIfZero q ∷ ca)) = omega (arith, long2, length-append m.code (instr.JumpIfZero q ∷ ca)) in e) in
        let t : place_of (drafted s3 m5) ≡ q + length cb = place_is s3 m5 r ∙ long5 in
        ap (λ n. slice_set m5.code (place_of after_first) (instr.Jump n)) t
        ∙ ap (λ l. slice_set l (place_of after_first) (instr.Jump (q + length cb))) flat5
        ∙ second_jump m.code ca cb (instr.JumpIfZero q) (instr.Jump 0) (instr.Jump (q + length cb)) (place_of after_first) p

    strings : (m.strings ++ a.strings) ++ b.strings ≡ m.strings ++ (a.strings ++ b.strings)
    strings = append_assoc m.strings a.strings b.strings

    targets : (m.targets ++ a.targets (length m1.code)) ++ b.targets (length m4.code) ≡ m.targets ++ (a.targets (length m.code + 1) ++ b.targets q)
    targets = append_assoc m.targets (a.targets (length m1.code)) (b.targets (length m4.code)) ∙ ap (λ n. m.targets ++ (a.targets n ++ b.targets (length m4.code))) place1 ∙ ap (λ n. m.targets ++ (a.targets (length m.code + 1) ++ b.targets n)) long4

    arms : add_arms (b.arms (length m4.code)) (add_arms (a.arms (length m1.code)) m.arms) ≡ add_arms (a.arms (length m.code + 1) ++ b.arms q) m.arms
    arms = add_arms-two (a.arms (length m1.code)) (b.arms (length m4.code)) m.arms ∙ ap (λ n. add_arms (a.arms n ++ b.arms (length m4.code)) m.arms) place1 ∙ ap (λ n. add_arms (a.arms (length m.code + 1) ++ b.arms n) m.arms) long4

    breaks : (m.breaks ++ a.breaks (length m1.code)) ++ b.breaks (length m4.code) ≡ m.breaks ++ (a.breaks (length m.code + 1) ++ b.breaks q)
    breaks = append_assoc m.breaks (a.breaks (length m1.code)) (b.breaks (length m4.code)) ∙ ap (λ n. m.breaks ++ (a.breaks n ++ b.breaks (length m4.code))) place1 ∙ ap (λ n. m.breaks ++ (a.breaks (length m.code + 1) ++ b.breaks n)) long4

    whole : record m5 { code = new } ≡ added m (ways_parts a b)
    whole = λ i. record { code = new; strings = strings i; values = m.values; targets = targets i; arms = arms i; breaks = breaks i }

pub parts_ways : {names : Environment} {first second : Draft → Draft} {es fs : List Event} {room off off2 : ℕ} {a b : Parts} → Makes names first es room off a → Makes names second fs room off2 b → off2 ≡ off + length a.strings → Makes names (ways first second) (es ++ fs) room off (ways_parts a b)
parts_ways {names = names} {first = first} {second = second} {es = es} {fs = fs} {room = room} {off = off} {off2 = off2} {a = a} {b = b} x y o = record {
  scans = ways_scans;
  depth = λ s s3 h. let t = scanned_twice es fs s s3 h in level_then s t.0 s3 (x.depth s t.0 t.1) (y.depth t.0 s3 t.2);
  makes = λ s s3 m n h agree l.
      let t = scanned_twice es fs s s3 h in
      let after = later fs t.0 s3 t.2 in
      ways_at first second s t.0 s3 m a b (later es s t.0 t.1).frame after.frame
      (x.makes s t.0 (put m (instr.JumpIfZero 0)) n t.1 (agrees_before names t.0.names s3.names after.longer agree) l)
      (λ c same. y.makes t.0 s3 c (omega (arith, n, same_depth s t.0 (x.depth s t.0 t.1))) t.2 agree (let e : length c.strings ≡ off2 = omega (arith, ap length same, length-append m.strings a.strings, l, o) in e));
  inside = λ s s3 h z p.
      let t = scanned_twice es fs s s3 h in
      let q = p + 1 + length (a.code (p + 1)) + 1 in
      ap (λ l. l ++ b.breaks q) (x.inside s t.0 t.1 z (p + 1)) ∙ y.inside t.0 s3 t.2 (same_depth s t.0 (x.depth s t.0 t.1) ∙ z) q;
}
  where
    ways_scans : (d : Draft) → Nested room (scope_of d) → scope_of (ways first second d) ≡ scanned (es ++ fs) (scope_of d)
    ways_scans d n =
        let d1 = emitted (instr.JumpIfZero 0) d in
        let n1 : Nested room (scope_of d1) = subst (Nested room) (sym (scope_kept _ d)) n in
        let j = emitted (instr.Jump 0) (first d1) in
        let d2 = filled (place_of d) (instr.JumpIfZero (place_of j)) j in
        let e : scope_of d2 ≡ scope_of (first d1) = scope_kept _ j ∙ scope_kept _ (first d1) in
        let n2 : Nested room (scope_of d2) = subst (Nested room) (sym e) (nested_after x d1 n1) in
        scope_kept _ (second d2) ∙ y.scans d2 n2 ∙ ap (scanned fs) (e ∙ x.scans d1 n1 ∙ ap (scanned es) (scope_kept _ d)) ∙ sym (scanned-append es fs (scope_of d))
