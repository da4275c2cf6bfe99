-- What is noted while a statement is read is what origins say: by induction on the tree.
use Rattle.std.proofs.Common.{◌≡◌, ℕ, zero, suc, ◌+◌, List, [], ◌∷◌, ◌++◌, length, refl, sym, ap, ◌∙◌, arith, le_refl, append_assoc, length-append, add-zero}
use Rattle.blang.specs.declared.code.Instr.TheVariants as instr
use Rattle.blang.specs.Trees.{mark, Expr, Stmt, Headed, Compound, If, IfElse, While, Switch, Goto, Break, Return, ReturnValue, Evaluate, Empty, Stmts, Nothing, More}
use Rattle.blang.specs.WellFormed.{rvalue_rank}
use Rattle.blang.specs.declared.token.Token.TheVariants as token
use Rattle.blang.specs.declared.token.Keyword.TheVariants as keyword
use Rattle.blang.specs.Walk.{Walk, Noted, ◌▸◌, tokens_in, plain, Event, LoopBegins, LoopEnds, SwitchBegins, SwitchEnds, walk, walk_parenthesized, walk_heading, walk_statement, walk_body}
use Rattle.blang.specs.Code.{Environment, word_code, arms_code, fragment, body_fragment}
use Rattle.blang.specs.Lines.{origin, origins, count, noted_at, noted_by, statement_origins, body_origins}
use Rattle.bgrammar.specs.Fitting.{words, Deeper, Fits, statement_words, body_words, Sits, AllSit, strings_in, strings, statement_strings, body_strings}
use Rattle.bgrammar.specs.Events.{events, statement_events, body_events}
use Rattle.bgrammar.proofs.CodeLaws.{statement_ends, body_ends}
use Rattle.bemit.specs.Drafts.{no_arms, Draft, emitted, place_of, loop_begun, begun}
use Rattle.bemit.specs.Effects.{evaluated, done, all_done}
use Rattle.bemit.specs.Trails.{Trail, trail, took, marked, noted, trailed, trailed_condition, trailed_statement, trailed_body}
use Rattle.bcodegen.proofs.Names.{agrees_before, later}
use Rattle.bcodegen.proofs.Parts.{Parts, added, drafted, Roomy, smaller, put, emit, place_is, same_depth, Makes, scanned_twice, idle, ended, ended_twice}
use Rattle.bcodegen.proofs.Jumps.{length_put}
use Rattle.bcodegen.proofs.Expressions.{only}
use Rattle.bcodegen.proofs.ExpressionMakes.{expression_words, evaluated_makes}
use Rattle.bcodegen.proofs.Headings.{heading_makes}
use Rattle.bcodegen.proofs.Trees.{statement_parts, body_parts}
use Rattle.bcodegen.proofs.Loops as loop
use Rattle.bcodegen.proofs.Switches as switch
use Rattle.bcodegen.proofs.StatementMakes.{level, statement_offset, body_offset, tested_events, looped_events, switched_events, if_same, ways_same, more_same, done_makes, all_make}
use Rattle.bcodegen.proofs.Notes.{Say, Found, lines_in, Notes, renoted, rescanned_notes, deeper_notes, here, past, past_two, through, ends_noted, notes_then, nothing_noted, after_jump, notes_ways, noted_twice}
use Rattle.bcodegen.proofs.ExpressionNotes.{evaluated_notes}
use Rattle.bcodegen.proofs.HeadingNotes.{heading_notes}

-- what stands one level deeper
deep : {names : Environment} {x : Draft → Trail → Trail} {es : List Event} {off : ℕ} {a : Parts} {say : Say} {found : Found} (P : ℕ → Type 0) → ((k : ℕ) → P k → Notes names x es k off a say found) → (room : ℕ) → Deeper P room → Notes names x es room off a say found
deep P h zero d = elim d [ ]
deep P h (suc k) d = deeper_notes (h k d)

-- the tokens of a condition, the first of which is the keyword
parenthesized : (e : Expr) (t : ℕ) → t + 1 + count (walk_parenthesized e) ≡ t + 2 + count (walk e) + 1
parenthesized e t = omega (arith, length-append (tokens_in (walk e)) (mark token.CloseParen ∷ []))

condition_lines : (e : Expr) (at : ℕ → ℕ) (t : ℕ) (rest : List ℕ) → lines_in at (walk_parenthesized e) (t + 1) rest ≡ at (t + 1) ∷ lines_in at (walk e) (t + 2) (at (t + 2 + count (walk e)) ∷ rest)
condition_lines e at t rest = ap (λ c. at (t + 1) ∷ lines_in at (walk e) c (at (c + count (walk e)) ∷ rest)) (let q : t + 1 + 1 ≡ t + 2 = omega arith in q)

condition_before : (e : Expr) (w : Walk) (at : ℕ → ℕ) (t : ℕ) (rest : List ℕ) → at t ∷ lines_in at (walk_parenthesized e ▸ w) (t + 1) rest
    ≡ at t ∷ at (t + 1) ∷ lines_in at (walk e) (t + 2) (at (t + 2 + count (walk e)) ∷ lines_in at w (t + 2 + count (walk e) + 1) rest)
condition_before e w at t rest =
    ap (λ l. at t ∷ l) (condition_lines e at t (lines_in at w (t + 1 + count (walk_parenthesized e)) rest))
    ∙ ap (λ c. at t ∷ at (t + 1) ∷ lines_in at (walk e) (t + 2) (at (t + 2 + count (walk e)) ∷ lines_in at w c rest)) (parenthesized e t)

while_lines : (e : Expr) (s : Stmt) (at : ℕ → ℕ) (t : ℕ) (rest : List ℕ) → lines_in at (walk_statement (While e s)) t rest
    ≡ at t ∷ at (t + 1) ∷ lines_in at (walk e) (t + 2) (at (t + 2 + count (walk e)) ∷ lines_in at (walk_statement s) (t + 2 + count (walk e) + 1) rest)
while_lines e s at t rest =
    condition_before e (Noted LoopBegins ▸ walk_statement s) at t rest
    ∙ ap (λ c. at t ∷ at (t + 1) ∷ lines_in at (walk e) (t + 2) (at (t + 2 + count (walk e)) ∷ lines_in at (walk_statement s) c rest)) (add-zero (t + 2 + count (walk e) + 1))

switch_lines : (e : Expr) (body : Stmts) (at : ℕ → ℕ) (t : ℕ) (rest : List ℕ) → lines_in at (walk_statement (Switch e body)) t rest
    ≡ at t ∷ lines_in at (walk e) (t + 1) (at (t + 1 + count (walk e)) ∷ lines_in at (walk_body body) (t + 1 + count (walk e) + 1) (at (t + 1 + count (walk e) + 1 + count (walk_body body)) ∷ rest))
switch_lines e body at t rest = ap (λ c. at t ∷ lines_in at (walk e) (t + 1) (at (t + 1 + count (walk e)) ∷ lines_in at (walk_body body) c (at (c + count (walk_body body)) ∷ rest))) (add-zero (t + 1 + count (walk e) + 1))

module _ (names : Environment) where
  -- a condition in its parentheses, after a keyword
  condition_notes : (e : Expr) (k off room : ℕ) → Fits e rvalue_rank k off → Notes names (λ d t. trailed_condition e d (took t)) (events e) room off (only (word_code names e) (strings e))
      (λ at t rest. at t ∷ at (t + 1) ∷ lines_in at (walk e) (t + 2) (at (t + 2 + count (walk e)) ∷ rest)) (λ p t. origins names e p (t + 2))
  condition_notes e k off room h = past_two (through (λ t. t + count (walk e)) (evaluated_notes names e k off room h))

  abbrev Done : Stmt → (room off : ℕ) → Type 0
  Done s room off = Notes names (trailed_statement s) (statement_events s) room off (statement_parts names s) (λ at t rest. lines_in at (walk_statement s) t rest) (statement_origins names s)

  abbrev AllDone : Stmts → (room off : ℕ) → Type 0
  AllDone ss room off = Notes names (trailed_body ss) (body_events ss) room off (body_parts names ss) (λ at t rest. lines_in at (walk_body ss) t rest) (body_origins names ss)

  ways_origins : (e : Expr) (s other : Stmt) (p t : ℕ) → (let q = p + length (word_code names e p) + 1 in let u = t + 2 + count (walk e) + 1 in
      origins names e p (t + 2) ++ (statement_origins names s q u ++ statement_origins names other (q + length ((fragment names s q).code 0) + 1) (u + count (walk_statement s) + 1)))
      ≡ statement_origins names (IfElse e s other) p t
  ways_origins e s other p t =
      let q = p + length (word_code names e p) + 1 in
      let u = t + 2 + count (walk e) + 1 in
      let v = u + count (walk_statement s) + 1 in
      ap (λ c. origins names e p (t + 2) ++ (statement_origins names s q u ++ statement_origins names other (c + 1) v)) (statement_ends names s q 0)
      ∙ sym (append_assoc (origins names e p (t + 2)) (statement_origins names s q u) (statement_origins names other ((fragment names s q).end + 1) v))

  -- a loop, whose keyword is noted when its statement was read
  loop_notes : {room off off2 : ℕ} (e : Expr) (s : Stmt) → Makes names (evaluated e) (events e) (suc room) off (only (word_code names e) (strings e))
      → Notes names (λ d t. trailed_condition e d (took t)) (events e) (suc room) off (only (word_code names e) (strings e)) (λ at t rest. at t ∷ at (t + 1) ∷ lines_in at (walk e) (t + 2) (at (t + 2 + count (walk e)) ∷ rest)) (λ p t. origins names e p (t + 2))
      → Makes names (done s) (statement_events s) room off2 (statement_parts names s) → Done s room off2 → off2 ≡ off + length (strings e)
      → Notes names (trailed_statement (While e s)) (events e ++ (LoopBegins ∷ (statement_events s ++ LoopEnds ∷ []))) (suc room) off (statement_parts names (While e s)) (λ at t rest. lines_in at (walk_statement (While e s)) t rest) (statement_origins names (While e s))
  loop_notes {off2 = off2} e s x hx y hy oo = record {
    notes = λ s1 s3 m l h agree o r at t rest n.
        let q = scanned_twice (events e) (LoopBegins ∷ (statement_events s ++ LoopEnds ∷ [])) s1 s3 h in
        let v = scanned_twice (statement_events s) (LoopEnds ∷ []) (loop.within q.0) s3 q.2 in
        let d = same_depth s1 q.0 (x.depth s1 q.0 q.1) in
        let after = later (LoopBegins ∷ (statement_events s ++ LoopEnds ∷ [])) q.0 s3 q.2 in
        let last = later (LoopEnds ∷ []) v.0 s3 v.2 in
        let agree1 = agrees_before names q.0.names s3.names after.longer agree in
        let agree2 = agrees_before names v.0.names s3.names last.longer agree in
        let p = length m.code in
        let ce = word_code names e p in
        let at_s = p + length ce + 1 in
        let u = t + 2 + count (walk e) + 1 in
        let m1 = added m (only (word_code names e) (strings e)) in
        let m2 = put m1 (instr.JumpIfZero 0) in
        let m3 = added m2 (statement_parts names s) in
        let end = (fragment names s at_s).end in
        let long2 : length m2.code ≡ at_s = omega (arith, length_put m1 (instr.JumpIfZero 0), length-append m.code ce) in
        let long3 : length m3.code ≡ end = length-append m2.code ((fragment names s (length m2.code)).code 0) ∙ statement_ends names s (length m2.code) 0 ∙ ap (λ c. (fragment names s c).end) long2 in
        let whole : length (m.code ++ (fragment names (While e s) p).code 0) ≡ end + 1 = length-append m.code ((fragment names (While e s) p).code 0) ∙ statement_ends names (While e s) p 0 in
        let words1 = length-append m.strings (strings e) in
        let words2 = length-append m1.strings (statement_strings s) in
        let words3 : length (m.strings ++ statement_strings (While e s)) ≡ length m.strings + length (strings e) + length (statement_strings s) =
        omega (arith, length-append m.strings (statement_strings (While e s)), length-append (strings e ++ []) (statement_strings s), length-append (strings e) []) in
        let r3 : Roomy v.0.frame m3 = smaller v.0.frame s3.frame m3 (added m (statement_parts names (While e s))) last.frame (omega (arith, long3, whole)) (omega (arith, words1, words2, words3)) (le_refl _) r in
        let r1 : Roomy q.0.frame m1 = smaller q.0.frame v.0.frame m1 m3 (later (statement_events s) (loop.within q.0) v.0 v.1).frame (omega (arith, length_put m1 (instr.JumpIfZero 0), length-append m2.code ((fragment names s (length m2.code)).code 0))) (omega (arith, words2)) (le_refl _) r3 in
        let o2 : length m2.strings ≡ off2 = omega (arith, words1, o, oo) in
        let rest1 = lines_in at (walk_statement s) u rest in
        let n1 = noted_by at (origins names e p (t + 2)) n in
        let begun : loop_begun (emitted (instr.JumpIfZero 0) (evaluated e (drafted s1 m))) ≡ drafted (loop.within q.0) m2 =
        ap (λ b. loop_begun (emitted (instr.JumpIfZero 0) b)) (x.makes s1 q.0 m l q.1 agree1 o) ∙ ap loop_begun (emit (instr.JumpIfZero 0) (instr.JumpIfZero 0) q.0 m1 (λ r. refl)) ∙ loop.begun_is q.0 m2 (omega (arith, l, d)) in
        let b = loop_begun (emitted (instr.JumpIfZero 0) (evaluated e (drafted s1 m))) in
        ap (λ ls. trailed_statement (While e s) (drafted s1 m) (trail ls n)) (while_lines e s at t rest)
        ∙ ap (λ w. marked (at t) (done s b) (trailed_statement s b w)) (hx.notes s1 q.0 m l q.1 agree1 o r1 at t rest1 n)
        ∙ ap (λ d. marked (at t) (done s d) (trailed_statement s d (trail rest1 n1))) begun
        ∙ ap (λ w. marked (at t) (done s (drafted (loop.within q.0) m2)) w) (hy.notes (loop.within q.0) v.0 m2 (omega (arith, l, d)) v.1 agree2 o2 r3 at u rest n1)
        ∙ ap (λ d. marked (at t) d (trail rest (noted_by at (statement_origins names s (length m2.code) u) n1))) (y.makes (loop.within q.0) v.0 m2 (omega (arith, l, d)) v.1 agree2 o2)
        ∙ ap (λ c. trail rest (noted_at c (at t) (noted_by at (statement_origins names s (length m2.code) u) n1))) (place_is v.0 m3 r3 ∙ long3)
        ∙ ap (λ c. trail rest (noted_at end (at t) (noted_by at (statement_origins names s c u) n1))) long2
        ∙ ap (λ w. trail rest (noted_at end (at t) w)) (noted_twice at (origins names e p (t + 2)) (statement_origins names s at_s u) n)
        ∙ ap (trail rest) (noted_twice at (origins names e p (t + 2) ++ statement_origins names s at_s u) (origin end t ∷ []) n);
  }

  -- a switch, whose keyword is noted when its statements and their brace were read
  switch_notes : {room off off2 : ℕ} (e : Expr) (body : Stmts) → Makes names (evaluated e) (events e) (suc room) off (only (word_code names e) (strings e))
      → Notes names (λ d t. took (trailed e d (took t))) (events e) (suc room) off (only (word_code names e) (strings e)) (λ at t rest. at t ∷ lines_in at (walk e) (t + 1) (at (t + 1 + count (walk e)) ∷ rest)) (λ p t. origins names e p (t + 1))
      → Makes names (all_done body) (body_events body) room off2 (body_parts names body) → AllDone body room off2 → off2 ≡ off + length (strings e)
      → Notes names (trailed_statement (Switch e body)) (events e ++ (SwitchBegins ∷ (body_events body ++ SwitchEnds ∷ []))) (suc room) off (statement_parts names (Switch e body)) (λ at t rest. lines_in at (walk_statement (Switch e body)) t rest) (statement_origins names (Switch e body))
  switch_notes {off2 = off2} e body x hx y hy oo = record {
    notes = λ s1 s3 m l h agree o r at t rest n.
        let q = scanned_twice (events e) (SwitchBegins ∷ (body_events body ++ SwitchEnds ∷ [])) s1 s3 h in
        let v = scanned_twice (body_events body) (SwitchEnds ∷ []) (switch.opened q.0) s3 q.2 in
        let d = same_depth s1 q.0 (x.depth s1 q.0 q.1) in
        let after = later (SwitchBegins ∷ (body_events body ++ SwitchEnds ∷ [])) q.0 s3 q.2 in
        let last = later (SwitchEnds ∷ []) v.0 s3 v.2 in
        let agree1 = agrees_before names q.0.names s3.names after.longer agree in
        let agree2 = agrees_before names v.0.names s3.names last.longer agree in
        let p = length m.code in
        let ce = word_code names e p in
        let at_s = p + length ce + 1 in
        let u = t + 1 + count (walk e) + 1 in
        let brace = u + count (walk_body body) in
        let m1 = added m (only (word_code names e) (strings e)) in
        let m2 = record (put m1 (instr.Jump 0)) { arms = no_arms ∷ m1.arms } in
        let m3 = added m2 (body_parts names body) in
        let end = (body_fragment names body at_s).end in
        let long2 : length m2.code ≡ at_s = omega (arith, length_put m1 (instr.Jump 0), length-append m.code ce) in
        let long3 : length m3.code ≡ end = length-append m2.code ((body_fragment names body (length m2.code)).code 0) ∙ body_ends names body (length m2.code) 0 ∙ ap (λ c. (body_fragment names body c).end) long2 in
        let whole : length (m.code ++ (fragment names (Switch e body) p).code 0) ≡ end + 1 + length (arms_code ((body_fragment names body at_s).targets.arms)) = length-append m.code ((fragment names (Switch e body) p).code 0) ∙ statement_ends names (Switch e body) p 0 in
        let words1 = length-append m.strings (strings e) in
        let words2 = length-append m1.strings (body_strings body) in
        let words3 : length (m.strings ++ statement_strings (Switch e body)) ≡ length m.strings + length (strings e) + length (body_strings body) =
        omega (arith, length-append m.strings (statement_strings (Switch e body)), length-append (strings e) (body_strings body ++ []), length-append (body_strings body) []) in
        let r3 : Roomy v.0.frame m3 = smaller v.0.frame s3.frame m3 (added m (statement_parts names (Switch e body))) last.frame (omega (arith, long3, whole)) (omega (arith, words1, words2, words3)) (le_refl _) r in
        let r1 : Roomy q.0.frame m1 = smaller q.0.frame v.0.frame m1 m3 (later (body_events body) (switch.opened q.0) v.0 v.1).frame (omega (arith, length_put m1 (instr.Jump 0), length-append m2.code ((body_fragment names body (length m2.code)).code 0))) (omega (arith, words2)) (le_refl _) r3 in
        let o2 : length m2.strings ≡ off2 = omega (arith, words1, o, oo) in
        let rest1 = lines_in at (walk_body body) u (at brace ∷ rest) in
        let n1 = noted_by at (origins names e p (t + 1)) n in
        let begun_is : begun (emitted (instr.Jump 0) (evaluated e (drafted s1 m))) ≡ drafted (switch.opened q.0) m2 =
        ap (λ b. begun (emitted (instr.Jump 0) b)) (x.makes s1 q.0 m l q.1 agree1 o) ∙ ap begun (emit (instr.Jump 0) (instr.Jump 0) q.0 m1 (λ r. refl)) ∙ switch.begun_is q.0 (put m1 (instr.Jump 0)) (omega (arith, l, d)) in
        let b = begun (emitted (instr.Jump 0) (evaluated e (drafted s1 m))) in
        let c = all_done body (drafted (switch.opened q.0) m2) in
        ap (λ ls. trailed_statement (Switch e body) (drafted s1 m) (trail ls n)) (switch_lines e body at t rest)
        ∙ ap (λ w. marked (at t) (all_done body b) (took (noted (all_done body b) (trailed_body body b w)))) (hx.notes s1 q.0 m l q.1 agree1 o r1 at t rest1 n)
        ∙ ap (λ d. marked (at t) (all_done body d) (took (noted (all_done body d) (trailed_body body d (trail rest1 n1))))) begun_is
        ∙ ap (λ w. marked (at t) c (took (noted c w))) (hy.notes (switch.opened q.0) v.0 m2 (omega (arith, l, d)) v.1 agree2 o2 r3 at u (at brace ∷ rest) n1)
        ∙ ap (λ d. trail rest (noted_at (place_of d) (at t) (noted_at (place_of d) (at brace) (noted_by at (body_origins names body (length m2.code) u) n1)))) (y.makes (switch.opened q.0) v.0 m2 (omega (arith, l, d)) v.1 agree2 o2)
        ∙ ap (λ k. trail rest (noted_at k (at t) (noted_at k (at brace) (noted_by at (body_origins names body (length m2.code) u) n1)))) (place_is v.0 m3 r3 ∙ long3)
        ∙ ap (λ k. trail rest (noted_at end (at t) (noted_at end (at brace) (noted_by at (body_origins names body k u) n1)))) long2
        ∙ ap (λ w. trail rest (noted_at end (at t) (noted_at end (at brace) w))) (noted_twice at (origins names e p (t + 1)) (body_origins names body at_s u) n)
        ∙ ap (trail rest) (noted_twice at (origins names e p (t + 1) ++ body_origins names body at_s u) (origin end brace ∷ origin end t ∷ []) n);
  }

  mutual
    pub statement_notes : (s : Stmt) (room off : ℕ) → Sits s room off → Done s room off
    statement_notes (Headed h s) room off sits =
        renoted (statement_parts names (Headed h s)) (λ at t rest. lines_in at (walk_statement (Headed h s)) t rest) (statement_origins names (Headed h s)) (λ p. le_refl _) (omega (arith, length-append (strings_in (walk_heading h)) (statement_strings s))) (λ at t rest. refl) (λ p t. refl)
        (notes_then (λ t. t + count (walk_heading h)) (heading_makes h) (heading_notes names h room off) (statement_notes s room off sits.1) (sym (add-zero off)))
    statement_notes (Compound body) room off sits =
        rescanned_notes (ended_twice (body_events body))
        (renoted (statement_parts names (Compound body)) (λ at t rest. lines_in at (walk_statement (Compound body)) t rest) (statement_origins names (Compound body)) (λ p. le_refl _) (omega (arith, length-append (body_strings body) []))
        (λ at t rest. ap (λ c. at t ∷ lines_in at (walk_body body) (t + 1) (at c ∷ rest)) (let q : t + suc (count (walk_body body)) ≡ t + 1 + count (walk_body body) = omega arith in q))
        (λ p t. ap (λ c. body_origins names body p (t + 1) ++ origin c (t + 1 + count (walk_body body)) ∷ []) (body_ends names body p 0))
        (past (ends_noted (λ t. t + count (walk_body body)) (level (λ k. AllSit body k off) (λ k h. all_make names body k off h) room sits) (deep (λ k. AllSit body k off) (λ k h. body_notes body k off h) room sits))))
    statement_notes (If e s) room off sits =
        rescanned_notes (tested_events (events e) (statement_events s))
        (renoted (statement_parts names (If e s)) (λ at t rest. lines_in at (walk_statement (If e s)) t rest) (statement_origins names (If e s)) (λ p. omega (arith, ap length (if_same names e s p).code)) (omega (arith, ap length (if_same names e s 0).strings))
        (λ at t rest. condition_before e (walk_statement s) at t rest) (λ p t. refl)
        (deep (λ k. Fits e rvalue_rank k off × Sits s k (off + words e)) (λ k h. notes_then (λ t. t + 2 + count (walk e) + 1) (evaluated_makes names e k off k h.0) (condition_notes e k off k h.0) (after_jump (instr.JumpIfZero 0) (statement_notes s k (off + words e) h.1)) (expression_words e off)) room sits))
    statement_notes (IfElse e s other) room off sits =
        rescanned_notes (tested_events (events e) (statement_events s ++ statement_events other))
        (renoted (statement_parts names (IfElse e s other)) (λ at t rest. lines_in at (walk_statement (IfElse e s other)) t rest) (statement_origins names (IfElse e s other)) (λ p. omega (arith, ap length (ways_same names e s other p).code)) (omega (arith, ap length (ways_same names e s other 0).strings))
        (λ at t rest. condition_before e (walk_statement s ▸ plain (token.Keyword keyword.Else) ▸ walk_statement other) at t rest)
        (λ p t. ways_origins e s other p t)
        (deep (λ k. Fits e rvalue_rank k off × Sits s k (off + words e) × Sits other k (off + words e + statement_words s))
        (λ k h. notes_then (λ t. t + 2 + count (walk e) + 1) (evaluated_makes names e k off k h.0) (condition_notes e k off k h.0)
        (notes_ways (λ t. t + count (walk_statement s)) (λ t. t + count (walk_statement s) + 1) (done_makes names s k (off + words e) h.1) (statement_notes s k (off + words e) h.1) (statement_notes other k (off + words e + statement_words s) h.2) (statement_offset s (off + words e))) (expression_words e off)) room sits.1))
    statement_notes (While e s) zero off sits = elim sits [ ]
    statement_notes (While e s) (suc k) off sits =
        rescanned_notes (looped_events (events e) (statement_events s))
        (loop_notes e s (evaluated_makes names e k off (suc k) sits.0) (condition_notes e k off (suc k) sits.0) (done_makes names s k (off + words e) sits.1) (statement_notes s k (off + words e) sits.1) (expression_words e off))
    statement_notes (Switch e body) zero off sits = elim sits [ ]
    statement_notes (Switch e body) (suc k) off sits =
        rescanned_notes (switched_events (events e) (body_events body))
        (switch_notes e body (evaluated_makes names e k off (suc k) sits.0) (past (through (λ t. t + count (walk e)) (evaluated_notes names e k off (suc k) sits.0))) (all_make names body k (off + words e) sits.1) (body_notes body k (off + words e) sits.1) (expression_words e off))
    statement_notes (Goto e) room off sits =
        rescanned_notes (ended (events e))
        (renoted (statement_parts names (Goto e)) (λ at t rest. lines_in at (walk_statement (Goto e)) t rest) (statement_origins names (Goto e)) (λ p. omega (arith, length-append (word_code names e p) (instr.Goto ∷ []))) (omega (arith, length-append (strings e) [])) (λ at t rest. refl) (λ p t. refl)
        (past (through (λ t. t + count (walk e)) (evaluated_notes names e room off room sits))))
    statement_notes (Break line) room off sits = through (λ t. t + 1 + 0) here
    statement_notes Return room off sits = through (λ t. t + 1) here
    statement_notes (ReturnValue e) room off sits =
        let cw = count (walk e) in
        rescanned_notes (ended_twice (events e))
        (renoted (statement_parts names (ReturnValue e)) (λ at t rest. lines_in at (walk_statement (ReturnValue e)) t rest) (statement_origins names (ReturnValue e)) (λ p. omega (arith, length-append (word_code names e p) (instr.Return ∷ []), ap (λ c. length (word_code names e c)) (add-zero p))) (omega (arith, length-append (strings e) [], length-append (strings e ++ []) []))
        (λ at t rest.
        ap (λ l. at t ∷ l) (condition_lines e at t (at (t + 1 + count (walk_parenthesized e)) ∷ rest))
        ∙ ap (λ c. at t ∷ at (t + 1) ∷ lines_in at (walk e) (t + 2) (at (t + 2 + cw) ∷ at c ∷ rest)) (parenthesized e t)
        ∙ ap (λ c. at t ∷ at (t + 1) ∷ lines_in at (walk e) c (at (c + cw) ∷ at (c + cw + 1) ∷ rest)) (let q : t + 2 ≡ t + 1 + 1 = omega arith in q))
        (λ p t. ap (λ c. origin p t ∷ origins names e c (t + 1 + 1)) (add-zero p) ∙ ap (λ c. origin p t ∷ origins names e p c) (let q : t + 1 + 1 ≡ t + 2 = omega arith in q))
        (notes_then (λ t. t + 1) idle here (past (through (λ t. t + cw + 1) (through (λ t. t + cw) (evaluated_notes names e room off room sits)))) (sym (add-zero off))))
    statement_notes (Evaluate e) room off sits =
        rescanned_notes (ended (events e))
        (renoted (statement_parts names (Evaluate e)) (λ at t rest. lines_in at (walk_statement (Evaluate e)) t rest) (statement_origins names (Evaluate e)) (λ p. omega (arith, length-append (word_code names e p) (instr.Pop ∷ []))) (omega (arith, length-append (strings e) [])) (λ at t rest. refl) (λ p t. refl)
        (through (λ t. t + count (walk e)) (evaluated_notes names e room off room sits)))
    statement_notes Empty room off sits = here

    body_notes : (ss : Stmts) (room off : ℕ) → AllSit ss room off → AllDone ss room off
    body_notes Nothing room off sits = nothing_noted
    body_notes (More before s) room off sits =
        renoted (body_parts names (More before s)) (λ at t rest. lines_in at (walk_body (More before s)) t rest) (body_origins names (More before s)) (λ p. omega (arith, ap length (more_same names before s p).code)) (le_refl _) (λ at t rest. refl)
        (λ p t. ap (λ c. body_origins names before p t ++ statement_origins names s c (t + count (walk_body before))) (body_ends names before p 0))
        (notes_then (λ t. t + count (walk_body before)) (all_make names before room off sits.0) (body_notes before room off sits.0) (statement_notes s room (off + body_words before) sits.1) (body_offset before off))
