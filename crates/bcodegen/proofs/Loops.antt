-- A loop jumps back to its test, and its breaks lead after it.
use Rattle.std.proofs.Common.{◌≡◌, ℕ, suc, ◌+◌, ◌-◌, ◌≤◌, List, [], ◌∷◌, ◌++◌, append-nil, length, Result, Ok, Err, refl, sym, ap, ◌∙◌, subst, arith, le_refl, length-append, lt-ltb}
use Rattle.blang.specs.declared.token.Diagnostic.{Diagnostic}
use Rattle.blang.specs.declared.code.Instr.{Instr}
use Rattle.blang.specs.declared.code.Instr.TheVariants as instr
use Rattle.blang.specs.Trees.{Expr, Stmt, While}
use Rattle.blang.specs.Scan.{Scope, scan_event, scanned}
use Rattle.blang.specs.Walk.{Event, LoopBegins, LoopEnds}
use Rattle.bgrammar.specs.Events.{events, statement_events}
use Rattle.blang.specs.Code.{Environment, word_code, fragment}
use Rattle.bgrammar.specs.Fitting.{strings, statement_strings}
use Rattle.bgrammar.proofs.CodeLaws.{scanned-append, statement_ends}
use Rattle.bemit.specs.Drafts.{Made, Draft, Faulty, Going, most_loops, emitted, place_of, loop_begun, loop_ended}
use Rattle.bemit.specs.Effects.{skipping, breaking, turning, evaluated, done}
use Rattle.bcodegen.proofs.Breaks.{statement_closes, fills_before}
use Rattle.bcodegen.proofs.Names.{agrees_before, later}
use Rattle.bcodegen.proofs.Parts.{Parts, added, drafted, Roomy, smaller, put, emit, put_ending, place_is, scope_of, scope_kept, scope_stepped, Nested, same_depth, Makes, scanned_twice, nested_after, added_same, two, joined, ending}
use Rattle.bcodegen.proofs.Jumps.{skipped, skip_at, length_put}
use Rattle.bcodegen.proofs.Closing.{closed, break_at}
use Rattle.bcodegen.proofs.Expressions.{only, stepped_is}
use Rattle.bcodegen.proofs.Trees.{statement_parts}

abbrev pub within : Scope → Scope
within s = record s { loops = s.loops + 1 }

-- where there is room for one loop more
pub begun_is : (s : Scope) (m : Made) → suc s.loops ≤ most_loops → loop_begun (drafted s m) ≡ drafted (within s) m
begun_is s m le = rw (lt-ltb s.loops most_loops le) refl

begun_scope : (room : ℕ) (d : Draft) → Nested (suc room) (scope_of d) → scope_of (loop_begun d) ≡ scanned (LoopBegins ∷ []) (scope_of d)
begun_scope room (Faulty d) n = refl
begun_scope room (Going s made) n =
    let le : suc s.loops ≤ most_loops = omega (arith, n) in
    rw (lt-ltb s.loops most_loops le) refl

nested_inside : (room : ℕ) (r : Result Scope Diagnostic) → Nested (suc room) r → Nested room (scanned (LoopBegins ∷ []) r)
nested_inside room (Ok s) n = let le : (s.loops + 1) + length s.switches + room ≤ 200 = omega (arith, n) in le
nested_inside room (Err d) n = tt

ended_is : (s s2 : Scope) → scan_event LoopEnds s ≡ Ok s2 → s2 ≡ record s { loops = s.loops - 1 }
ended_is s s2 h = cc

pub loops : {names : Environment} {room off off2 : ℕ} (e : Expr) (s : Stmt) → Makes names (evaluated e) (events e) (suc room) off (only (word_code names e) (strings e)) → Makes names (done s) (statement_events s) room off2 (statement_parts names s) → off2 ≡ off + length (strings e)
    → Makes names (done (While e s)) (events e ++ (LoopBegins ∷ (statement_events s ++ LoopEnds ∷ []))) (suc room) off (statement_parts names (While e s))
loops {names = names} {room = room} {off = off} {off2 = off2} e s x y o = record {
  scans = loop_scans;
  depth = λ s1 s3 h.
      let t = scanned_twice (events e) inner s1 s3 h in
      let u = scanned_twice (statement_events s) (LoopEnds ∷ []) (within t.0) s3 t.2 in
      let b = y.depth (within t.0) u.0 u.1 in
      let end = ended_is u.0 s3 u.2 in
      let loops_end : s3.loops ≡ u.0.loops - 1 = ap (λ (t : Scope). t.loops) end in
      let switches_end : length s3.switches ≡ length u.0.switches = ap (λ (t : Scope). length t.switches) end in
      let a = x.depth s1 t.0 t.1 in
      (omega (arith, loops_end, b.0, a.0), switches_end ∙ b.1 ∙ a.1);
  makes = λ s1 s3 m n h agree l.
      let t = scanned_twice (events e) inner s1 s3 h in
      let u = scanned_twice (statement_events s) (LoopEnds ∷ []) (within t.0) s3 t.2 in
      let last = later (LoopEnds ∷ []) u.0 s3 u.2 in
      let after = later inner t.0 s3 t.2 in
      let deep = same_depth s1 t.0 (x.depth s1 t.0 t.1) in
      loop_at s1 t.0 u.0 s3 m (later (events e) s1 t.0 t.1).frame (later (statement_events s) (within t.0) u.0 u.1).frame (omega (arith, n, deep)) u.2
      (x.makes s1 t.0 m n t.1 (agrees_before names t.0.names s3.names after.longer agree) l)
      (λ c same. y.makes (within t.0) u.0 c (omega (arith, n, deep)) u.1 (agrees_before names u.0.names s3.names last.longer agree)
      (let q : length c.strings ≡ off2 = omega (arith, ap length same, length-append m.strings (strings e), l, o) in q));
  inside = λ s1 s3 h z p. refl;
}
  where
    inner : List Event
    inner = LoopBegins ∷ (statement_events s ++ LoopEnds ∷ [])

    ex : Parts
    ex = only (word_code names e) (strings e)

    loop_scans : (d : Draft) → Nested (suc room) (scope_of d) → scope_of (done (While e s) d) ≡ scanned (events e ++ inner) (scope_of d)
    loop_scans d n =
        let d1 = emitted (instr.JumpIfZero 0) (evaluated e d) in
        let n1 : Nested (suc room) (scope_of d1) = subst (Nested (suc room)) (sym (scope_kept _ (evaluated e d))) (nested_after x d n) in
        let b1 = begun_scope room d1 n1 in
        let n2 : Nested room (scope_of (loop_begun d1)) = subst (Nested room) (sym b1) (nested_inside room (scope_of d1) n1) in
        let d2 = done s (loop_begun d1) in
        let test : scope_of d1 ≡ scanned (events e) (scope_of d) = scope_kept _ (evaluated e d) ∙ x.scans d n in
        let there : scope_of d2 ≡ scanned (statement_events s) (scanned (LoopBegins ∷ []) (scope_of d1)) = y.scans (loop_begun d1) n2 ∙ ap (scanned (statement_events s)) b1 in
        scope_kept _ _ ∙ scope_kept _ _ ∙ scope_stepped LoopEnds _ ∙ ap (scanned (LoopEnds ∷ [])) (scope_kept _ d2 ∙ there)
        ∙ sym (scanned-append (statement_events s) (LoopEnds ∷ []) (scanned (LoopBegins ∷ []) (scope_of d1)))
        ∙ sym (scanned-append (LoopBegins ∷ []) (statement_events s ++ LoopEnds ∷ []) (scope_of d1))
        ∙ ap (scanned inner) test
        ∙ sym (scanned-append (events e) inner (scope_of d))

    loop_at : (s1 s2 s3 s4 : Scope) (m : Made) → s1.frame ≤ s2.frame → s2.frame ≤ s3.frame → suc s2.loops ≤ most_loops → scan_event LoopEnds s3 ≡ Ok s4
        → evaluated e (drafted s1 m) ≡ drafted s2 (added m ex)
        → ((c : Made) → c.strings ≡ m.strings ++ strings e → done s (drafted (within s2) c) ≡ drafted s3 (added c (statement_parts names s)))
        → done (While e s) (drafted s1 m) ≡ drafted s4 (added m (statement_parts names (While e s)))
    loop_at s1 s2 s3 s4 m f f2 le ends h k =
        ap (skipping (λ b. breaking (λ c. turning start (λ x. done s x) c) b)) h
        ∙ skip_at (λ b. breaking (λ c. turning start (λ x. done s x) c) b) s2 s4 m1 whole (omega (arith, f2, same_frame))
        (break_at (λ c. turning start (λ x. done s x) c) s2 s4 m2 back closed_code out (omega (arith, f2, same_frame)) same_length end (fills_before (instr.Jump (length m.code) ∷ []) (statement_closes names s q out)) turned)
        ∙ ap (drafted s4) (two m ex (skipped whole))
        ∙ ap (drafted s4) (added_same m (joined ex (skipped whole)) (statement_parts names (While e s)) (record { code = code; strings = ap (λ l. l ++ statement_strings s) (sym (append-nil (strings e))); targets = refl; arms = refl; breaks = refl }))
      where
        start : ℕ
        start = place_of (drafted s1 m)

        m1 : Made
        m1 = added m ex

        m2 : Made
        m2 = put m1 (instr.JumpIfZero 0)

        q : ℕ
        q = length m2.code

        out : ℕ
        out = (fragment names s q).end + 1

        back : Parts
        back = ending (statement_parts names s) (λ p. instr.Jump (length m.code))

        closed_code : ℕ → List Instr
        closed_code p = (fragment names s p).code ((fragment names s p).end + 1) ++ (instr.Jump (length m.code) ∷ [])

        whole : Parts
        whole = closed back closed_code

        m3 : Made
        m3 = added m2 (statement_parts names s)

        same_frame : s4.frame ≡ s3.frame
        same_frame = ap (λ (t : Scope). t.frame) (ended_is s3 s4 ends)

        less : Roomy s3.frame m3 → Roomy s1.frame m
        less r = smaller s1.frame s3.frame m m3 (omega (arith, f, f2))
            (omega (arith, length-append m.code (word_code names e (length m.code)), length_put m1 (instr.JumpIfZero 0), length-append m2.code ((fragment names s q).code 0)))
            (omega (arith, length-append m.strings (strings e), length-append m1.strings (statement_strings s))) (le_refl _) r

        turned : turning start (λ x. done s x) (drafted s2 m2) ≡ drafted s4 (added m2 back)
        turned =
            ap (λ b. loop_ended (emitted (instr.Jump start) (done s b))) (begun_is s2 m2 le)
            ∙ ap (λ b. loop_ended (emitted (instr.Jump start) b)) (k m2 refl)
            ∙ ap loop_ended (emit (instr.Jump start) (instr.Jump (length m.code)) s3 m3 (λ r. ap (λ n. instr.Jump n) (place_is s1 m (less r))))
            ∙ ap (λ x. loop_ended (drafted s3 x)) (put_ending m2 (statement_parts names s) (λ p. instr.Jump (length m.code)))
            ∙ stepped_is LoopEnds s3 s4 (added m2 back) ends same_frame

        same_length : length (closed_code q) ≡ length (back.code q)
        same_length = omega (arith, length-append ((fragment names s q).code out) (instr.Jump (length m.code) ∷ []), length-append ((fragment names s q).code 0) (instr.Jump (length m.code) ∷ []), statement_ends names s q out, statement_ends names s q 0)

        end : q + length (back.code q) ≡ out
        end = omega (arith, length-append ((fragment names s q).code 0) (instr.Jump (length m.code) ∷ []), statement_ends names s q 0)

        ce : List Instr
        ce = word_code names e (length m.code)

        following : List Instr
        following = closed_code (length m.code + length ce + 1)

        code : ce ++ (instr.JumpIfZero (length m.code + length ce + 1 + length following) ∷ following) ≡ ce ++ (instr.JumpIfZero ((fragment names s (length m.code + length ce + 1)).end + 1) ∷ following)
        code =
            let r = length m.code + length ce + 1 in
            let there = (fragment names s r).end + 1 in
            let e : r + length following ≡ there = omega (arith, length-append ((fragment names s r).code there) (instr.Jump (length m.code) ∷ []), statement_ends names s r there) in
            ap (λ n. ce ++ (instr.JumpIfZero n ∷ following)) e
