-- One pass over a statement makes its code: by induction on the tree.
use Rattle.std.proofs.Common.{◌≡◌, ℕ, zero, suc, ◌+◌, List, [], ◌∷◌, ◌++◌, append-nil, append_assoc, length, refl, sym, ap, ◌∙◌, arith, add-zero}
use Rattle.blang.specs.declared.code.Instr.{Instr}
use Rattle.blang.specs.declared.code.Instr.TheVariants as instr
use Rattle.blang.specs.Trees.{Expr, Stmt, Headed, Compound, If, IfElse, While, Switch, Goto, Break, Return, ReturnValue, Evaluate, Empty, Stmts, Nothing, More}
use Rattle.blang.specs.WellFormed.{rvalue_rank}
use Rattle.bgrammar.specs.Fitting.{words, Deeper, Fits, statement_words, body_words, Sits, AllSit, strings, statement_strings, body_strings}
use Rattle.blang.specs.Walk.{Event, LoopBegins, LoopEnds, SwitchBegins, SwitchEnds, walk_heading, walk_statement, walk_body}
use Rattle.bgrammar.specs.Events.{events, statement_events, body_events}
use Rattle.blang.specs.Code.{Environment, word_code, arms_code, fragment, body_fragment}
use Rattle.bgrammar.proofs.CodeLaws.{statement_ends, body_ends}
use Rattle.bgrammar.proofs.WalkLaws.{length-strings, plain_strings, heading_plain}
use Rattle.bemit.specs.Drafts.{Draft}
use Rattle.bemit.specs.Effects.{done, all_done}
use Rattle.bcodegen.proofs.Breaks.{statement_breaks, body_breaks, body_closes}
use Rattle.bcodegen.proofs.Parts.{Parts, Same, Makes, joined, then_, retold, ended, ended_twice, rescanned, deeper, idle, emits}
use Rattle.bcodegen.proofs.Jumps.{skipped, skips, ways_parts, parts_ways}
use Rattle.bcodegen.proofs.Trees.{statement_parts, body_parts}
use Rattle.bcodegen.proofs.Loops.{loops}
use Rattle.bcodegen.proofs.Switches.{switched_parts, Closes, switches}
use Rattle.bcodegen.proofs.Expressions.{only}
use Rattle.bcodegen.proofs.ExpressionMakes.{expression_words, evaluated_makes}
use Rattle.bcodegen.proofs.Headings.{heading_makes, broken_makes}

-- what stands one level deeper
pub level : {names : Environment} {f : Draft → Draft} {es : List Event} {off : ℕ} {a : Parts} (P : ℕ → Type 0) → ((k : ℕ) → P k → Makes names f es k off a) → (room : ℕ) → Deeper P room → Makes names f es room off a
level P x zero h = elim h [ ]
level P x (suc k) h = deeper (x k h)

pub statement_offset : (s : Stmt) (off : ℕ) → off + statement_words s ≡ off + length (statement_strings s)
statement_offset s off = ap (λ n. off + n) (sym (length-strings (walk_statement s)))

pub body_offset : (ss : Stmts) (off : ℕ) → off + body_words ss ≡ off + length (body_strings ss)
body_offset ss off = ap (λ n. off + n) (sym (length-strings (walk_body ss)))

-- the events of a statement with a condition, of a loop and of a switch
pub tested_events : (es fs : List Event) → es ++ fs ≡ ((es ++ []) ++ fs) ++ []
tested_events es fs = ap (λ l. l ++ fs) (ended es) ∙ ended ((es ++ []) ++ fs)

pub looped_events : (es fs : List Event) → es ++ (LoopBegins ∷ (fs ++ LoopEnds ∷ [])) ≡ ((es ++ []) ++ (LoopBegins ∷ fs)) ++ LoopEnds ∷ []
looped_events es fs = sym (append_assoc es (LoopBegins ∷ fs) (LoopEnds ∷ [])) ∙ ap (λ l. (l ++ LoopBegins ∷ fs) ++ LoopEnds ∷ []) (ended es)

pub switched_events : (es fs : List Event) → es ++ (SwitchBegins ∷ (fs ++ SwitchEnds ∷ [])) ≡ (es ++ (SwitchBegins ∷ (fs ++ []))) ++ SwitchEnds ∷ []
switched_events es fs = sym (append_assoc es (SwitchBegins ∷ fs) (SwitchEnds ∷ [])) ∙ ap (λ l. (es ++ SwitchBegins ∷ l) ++ SwitchEnds ∷ []) (ended fs)

module _ (names : Environment) where
  pub if_same : (e : Expr) (s : Stmt) (p : ℕ) → Same p (joined (only (word_code names e) (strings e)) (skipped (statement_parts names s))) (statement_parts names (If e s))
  if_same e s p =
      let ce = word_code names e p in
      let q = p + length ce + 1 in
      record { code = ap (λ n. ce ++ (instr.JumpIfZero n ∷ (fragment names s q).code 0)) (statement_ends names s q 0); strings = ap (λ l. l ++ statement_strings s) (sym (append-nil (strings e))); targets = refl; arms = refl; breaks = refl }

  pub ways_same : (e : Expr) (s other : Stmt) (p : ℕ) → Same p (joined (only (word_code names e) (strings e)) (ways_parts (statement_parts names s) (statement_parts names other))) (statement_parts names (IfElse e s other))
  ways_same e s other p = record {
    code =
        ap (λ n. ce ++ (instr.JumpIfZero n ∷ (cs ++ (instr.Jump (n + length ((fragment names other n).code 0)) ∷ (fragment names other n).code 0)))) following
        ∙ ap (λ n. ce ++ (instr.JumpIfZero a ∷ (cs ++ (instr.Jump n ∷ (fragment names other a).code 0)))) (statement_ends names other a 0);
    strings = ap (λ l. l ++ (statement_strings s ++ statement_strings other)) (sym (append-nil (strings e)));
    targets = ap (λ n. (fragment names s q).targets.labels ++ (fragment names other n).targets.labels) following;
    arms = ap (λ n. (fragment names s q).targets.arms ++ (fragment names other n).targets.arms) following;
    breaks = ap (λ n. statement_breaks names s q ++ statement_breaks names other n) following;
  }
    where
      ce : List Instr
      ce = word_code names e p

      q : ℕ
      q = p + length ce + 1

      cs : List Instr
      cs = (fragment names s q).code 0

      a : ℕ
      a = (fragment names s q).end + 1

      following : q + length cs + 1 ≡ a
      following = ap (λ n. n + 1) (statement_ends names s q 0)

  abbrev pub body_code : Stmts → (p out : ℕ) → List Instr
  body_code ss p out = (body_fragment names ss p).code out

  pub closes : (ss : Stmts) → Closes (body_parts names ss) (body_code ss)
  closes ss = record { fills = λ p out. body_closes names ss p out; same_length = λ p out. omega (arith, body_ends names ss p out, body_ends names ss p 0) }

  pub switch_same : (e : Expr) (ss : Stmts) (p : ℕ) → Same p (joined (only (word_code names e) (strings e)) (switched_parts (body_parts names ss) (body_code ss))) (statement_parts names (Switch e ss))
  switch_same e ss p =
      let ce = word_code names e p in
      let q = p + length ce + 1 in
      let arms = arms_code ((body_fragment names ss q).targets.arms) in
      record {
        code = ap (λ n. ce ++ (instr.Jump (n + 1) ∷ ((body_fragment names ss q).code (n + 1 + length arms) ++ (instr.Jump (n + 1 + length arms) ∷ arms)))) (body_ends names ss q 0);
        strings = ap (λ l. strings e ++ l) (sym (append-nil (body_strings ss)));
        targets = refl;
        arms = refl;
        breaks = refl;
      }

  pub more_same : (before : Stmts) (s : Stmt) (p : ℕ) → Same p (joined (body_parts names before) (statement_parts names s)) (body_parts names (More before s))
  more_same before s p =
      let following = body_ends names before p 0 in
      record {
        code = ap (λ n. (body_fragment names before p).code 0 ++ (fragment names s n).code 0) following;
        strings = refl;
        targets = ap (λ n. (body_fragment names before p).targets.labels ++ (fragment names s n).targets.labels) following;
        arms = ap (λ n. (body_fragment names before p).targets.arms ++ (fragment names s n).targets.arms) following;
        breaks = ap (λ n. body_breaks names before p ++ statement_breaks names s n) following;
      }

  mutual
    pub done_makes : (s : Stmt) (room off : ℕ) → Sits s room off → Makes names (done s) (statement_events s) room off (statement_parts names s)
    done_makes (Headed h s) room off sits =
        retold (statement_parts names (Headed h s)) (λ p. record { code = refl; strings = ap (λ l. l ++ statement_strings s) (sym (plain_strings (walk_heading h) (heading_plain h))); targets = refl; arms = refl; breaks = refl })
        (then_ (heading_makes h) (done_makes s room off sits.1) (sym (add-zero off)))
    done_makes (Compound body) room off sits =
        retold (statement_parts names (Compound body)) (λ p. record { code = refl; strings = sym (append-nil (body_strings body)); targets = refl; arms = refl; breaks = refl })
        (rescanned (ended_twice (body_events body)) (level (λ k. AllSit body k off) (λ k h. all_make body k off h) room sits))
    done_makes (If e s) room off sits =
        retold (statement_parts names (If e s)) (if_same e s)
        (rescanned (tested_events (events e) (statement_events s)) (level (λ k. Fits e rvalue_rank k off × Sits s k (off + words e))
        (λ k h. then_ (evaluated_makes names e k off k h.0) (skips (done_makes s k (off + words e) h.1)) (expression_words e off)) room sits))
    done_makes (IfElse e s other) room off sits =
        retold (statement_parts names (IfElse e s other)) (ways_same e s other)
        (rescanned (tested_events (events e) (statement_events s ++ statement_events other)) (level (λ k. Fits e rvalue_rank k off × Sits s k (off + words e) × Sits other k (off + words e + statement_words s))
        (λ k h. then_ (evaluated_makes names e k off k h.0) (parts_ways (done_makes s k (off + words e) h.1) (done_makes other k (off + words e + statement_words s) h.2) (statement_offset s (off + words e))) (expression_words e off)) room sits.1))
    done_makes (While e s) zero off sits = elim sits [ ]
    done_makes (While e s) (suc k) off sits = rescanned (looped_events (events e) (statement_events s)) (loops e s (evaluated_makes names e k off (suc k) sits.0) (done_makes s k (off + words e) sits.1) (expression_words e off))
    done_makes (Switch e body) zero off sits = elim sits [ ]
    done_makes (Switch e body) (suc k) off sits =
        retold (statement_parts names (Switch e body)) (switch_same e body)
        (rescanned (switched_events (events e) (body_events body)) (then_ (evaluated_makes names e k off (suc k) sits.0) (switches (body_code body) (closes body) (all_make body k (off + words e) sits.1)) (expression_words e off)))
    done_makes (Goto e) room off sits =
        retold (statement_parts names (Goto e)) (λ p. record { code = refl; strings = sym (append-nil (strings e)); targets = refl; arms = refl; breaks = refl })
        (rescanned (ended (events e)) (emits instr.Goto (evaluated_makes names e room off room sits)))
    done_makes (Break line) room off sits = broken_makes line
    done_makes Return room off sits = emits instr.Return (emits (instr.Constant 0) idle)
    done_makes (ReturnValue e) room off sits =
        retold (statement_parts names (ReturnValue e)) (λ p. record { code = refl; strings = sym (append-nil (strings e)) ∙ sym (append-nil (strings e ++ [])); targets = refl; arms = refl; breaks = refl })
        (rescanned (ended_twice (events e)) (emits instr.Return (evaluated_makes names e room off room sits)))
    done_makes (Evaluate e) room off sits =
        retold (statement_parts names (Evaluate e)) (λ p. record { code = refl; strings = sym (append-nil (strings e)); targets = refl; arms = refl; breaks = refl })
        (rescanned (ended (events e)) (emits instr.Pop (evaluated_makes names e room off room sits)))
    done_makes Empty room off sits = idle

    pub all_make : (ss : Stmts) (room off : ℕ) → AllSit ss room off → Makes names (all_done ss) (body_events ss) room off (body_parts names ss)
    all_make Nothing room off sits = idle
    all_make (More before s) room off sits =
        retold (body_parts names (More before s)) (more_same before s)
        (then_ (all_make before room off sits.0) (done_makes s room (off + body_words before) sits.1) (body_offset before off))
