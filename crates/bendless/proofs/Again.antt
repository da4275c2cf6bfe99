-- A step doesn't look at what was written, so a state that comes again goes on as it did before.
use Rattle.std.proofs.Common.{◌≡◌, ℕ, zero, suc, ◌+◌, ◌-◌, ◌≤◌, List, [], ◌∷◌, ◌++◌, length, Option, Some, None, Bool, true, false, refl, sym, ap, ◌∙◌, subst, arith, take, drop, reverse, ⊎_elim}
use Rattle.std.proofs.lemmas.Bool.{cases_lt}
use Rattle.std.specs.Prelude.{slice_get, ◌==◌, if◌then◌else◌}
use Rattle.bword.specs.Words.{binary_of}
use Rattle.blang.specs.declared.code.Instr.{Instr}
use Rattle.blang.specs.declared.code.Instr.TheVariants as instr
use Rattle.blang.specs.declared.run.Library.{Library}
use Rattle.blang.specs.declared.run.Library.TheVariants.{Getchar, Printn}
use Rattle.blang.specs.declared.run.Trap.{Trap}
use Rattle.blang.specs.declared.run.Trap.TheVariants.{BadBase}
use Rattle.blang.specs.Layout.{label_target, World, Ending, Reply, Gives, Ends, word_at, with_word, with_words, parameter_words, next_byte, is_base, argument, printed, with_output, library, Trapped, Callee, NoFunction, OfLibrary, OfProgram, callee_of, refusal, first_world}
use Rattle.blang.specs.Machine.{Loaded, Image, Call, fresh_call, with_operand, State, Running, Halted, Stuck, take_one, take_two, on_reply, operator_reply, at_place, returned, gone_to_place, program_function_called, callee_called, act, act_if, machine, run, step, steps, machine_started}
use Rattle.blang.specs.Reports.{state_outcome}
use Rattle.blang.specs.declared.run.Outcome.TheVariants as outcome
use Rattle.bmach.proofs.LoadedRuns.{shows_loaded}
use Rattle.bmach.proofs.Running.{IsOver, steps_add}
use Rattle.bmean.proofs.Runs.{over_later}
use Rattle.bendless.specs.Endless.{IsRunning, unwritten, silent, ComesAgain, NeverEnds}
use Rattle.bendless.specs.Repeats.{BackForEver, IsWithin}

-- two replies that are the same but for what was written
abbrev AreAlike : Reply → Reply → Type 0
AreAlike (Gives v w) (Gives v' w') = (v ≡ v') × (unwritten w ≡ unwritten w')
AreAlike (Ends e w) (Ends e' w') = (e ≡ e') × (unwritten w ≡ unwritten w')
AreAlike r r' = ⊥

one_alike : (w : World) (operands : List ℕ) (next next' : ℕ → List ℕ → State) → ((x : ℕ) (rest : List ℕ) → silent (next x rest) ≡ silent (next' x rest)) → silent (take_one operands (unwritten w) next) ≡ silent (take_one operands w next')
one_alike w [] next next' h = refl
one_alike w (x ∷ rest) next next' h = h x rest

two_alike : (w : World) (operands : List ℕ) (next next' : ℕ → ℕ → List ℕ → State) → ((x y : ℕ) (rest : List ℕ) → silent (next x y rest) ≡ silent (next' x y rest)) → silent (take_two operands (unwritten w) next) ≡ silent (take_two operands w next')
two_alike w [] next next' h = refl
two_alike w (y ∷ []) next next' h = refl
two_alike w (y ∷ x ∷ rest) next next' h = h x y rest

ended_alike : (e e' : Ending) (w w' : World) → e ≡ e' → unwritten w ≡ unwritten w' → silent (Halted e w) ≡ silent (Halted e' w')
ended_alike e e' w w' p q = subst (λ f. Halted e (unwritten w) ≡ Halted f (unwritten w')) p (ap (Halted e) q)

reply_alike : (r r' : Reply) (next next' : ℕ → World → State) → AreAlike r r' → ((v : ℕ) (w w' : World) → unwritten w ≡ unwritten w' → silent (next v w) ≡ silent (next' v w')) → silent (on_reply r next) ≡ silent (on_reply r' next')
reply_alike (Gives v w) (Gives v' w') next next' a h = h v w w' a.1 ∙ ap (λ u. silent (next' u w')) a.0
reply_alike (Ends e w) (Ends e' w') next next' a h = ended_alike e e' w w' a.0 a.1
reply_alike (Gives v w) (Ends e' w') next next' a h = elim a [ ]
reply_alike (Ends e w) (Gives v' w') next next' a h = elim a [ ]

operator_alike : (o : Option ℕ) (w : World) → AreAlike (operator_reply o (unwritten w)) (operator_reply o w)
operator_alike None w = (refl, refl)
operator_alike (Some v) w = (refl, refl)

byte_alike : (bytes : List ℕ) (w : World) → AreAlike (next_byte bytes (unwritten w)) (next_byte bytes w)
byte_alike [] w = (refl, refl)
byte_alike (x ∷ xs) w = (refl, refl)

printn_alike : (b : Bool) (w : World) (bytes : List ℕ) → AreAlike (if b then Gives 0 (with_output (unwritten w) bytes) else Ends (Trapped BadBase) (unwritten w)) (if b then Gives 0 (with_output w bytes) else Ends (Trapped BadBase) w)
printn_alike true w bytes = (refl, refl)
printn_alike false w bytes = (refl, refl)

library_alike : (f : Library) (args : List ℕ) (w : World) → AreAlike (library f args (unwritten w)) (library f args w)
library_alike Getchar args w = byte_alike w.input w
library_alike Printn args w = printn_alike (is_base (argument args 1)) w (printed (argument args 0) (argument args 1))
library_alike _ args w = (refl, refl)

words_alike : (vs : List ℕ) (a : ℕ) (w w' : World) → unwritten w ≡ unwritten w' → unwritten (with_words w a vs) ≡ unwritten (with_words w' a vs)
words_alike [] a w w' same = same
words_alike (v ∷ vs) a w w' same = words_alike vs (a + 1) (with_word w a v) (with_word w' a v) (ap (λ u. with_word u a v) same)

if_alike : (b : Bool) (s s' t t' : State) → silent s ≡ silent s' → silent t ≡ silent t' → silent (if b then s else t) ≡ silent (if b then s' else t')
if_alike true s s' t t' p q = p
if_alike false s s' t t' p q = q

gone_alike : (w : World) (t : Option ℕ) (call : Call) (rest : List ℕ) (below : List Call) → silent (gone_to_place t call rest below (unwritten w)) ≡ silent (gone_to_place t call rest below w)
gone_alike w None call rest below = refl
gone_alike w (Some t) call rest below = refl

return_alike : (w : World) (v : ℕ) (below : List Call) → silent (returned v below (unwritten w)) ≡ silent (returned v below w)
return_alike w v [] = refl
return_alike w v (call ∷ below) = refl

called_alike : (w : World) (r : Option Trap) (f : Loaded) (args : List ℕ) (start : ℕ) (caller : Call) (below : List Call) → silent (program_function_called r f args start caller below (unwritten w)) ≡ silent (program_function_called r f args start caller below w)
called_alike w (Some t) f args start caller below = refl
called_alike w None f args start caller below =
    ap (Running (fresh_call f start) (caller ∷ below)) (words_alike (parameter_words f.parameters args) start (unwritten w) w refl)

call_alike : (w : World) (c : Callee Loaded) (args : List ℕ) (caller : Call) (below : List Call) → silent (callee_called c args caller below (unwritten w)) ≡ silent (callee_called c args caller below w)
call_alike w NoFunction args caller below = refl
call_alike w (OfLibrary f) args caller below =
    reply_alike (library f args (unwritten w)) (library f args w) _ _ (library_alike f args w) (λ v w1 w2 same. ap (Running (with_operand caller v) below) same)
call_alike w (OfProgram f) args caller below =
    called_alike w (refusal (1 + length below) (caller.start + caller.function.frame + f.frame)) f args (caller.start + caller.function.frame) caller below

act_alike : (image : Image) (call : Call) (below : List Call) (w : World) (i : Instr) → silent (act image call below (unwritten w) i) ≡ silent (act image call below w i)
act_alike image call below w instr.Load = one_alike w call.operands _ _ (λ a rest. refl)
act_alike image call below w instr.Store = two_alike w call.operands _ _ (λ a v rest. refl)
act_alike image call below w (instr.Binary op) =
    two_alike w call.operands _ _ (λ x y rest. reply_alike (operator_reply (binary_of op x y) (unwritten w)) (operator_reply (binary_of op x y) w) _ _ (operator_alike (binary_of op x y) w) (λ v w1 w2 same. ap (Running (at_place call (call.place + 1) (v ∷ rest)) below) same))
act_alike image call below w (instr.Modify op) =
    two_alike w call.operands _ _ (λ a y rest. reply_alike (operator_reply (binary_of op (word_at w a) y) (unwritten w)) (operator_reply (binary_of op (word_at w a) y) w) _ _ (operator_alike (binary_of op (word_at w a) y) w) (λ v w1 w2 same. ap (λ u. Running (at_place call (call.place + 1) (v ∷ rest)) below (unwritten (with_word u a v))) same))
act_alike image call below w instr.Negate = one_alike w call.operands _ _ (λ x rest. refl)
act_alike image call below w instr.Not = one_alike w call.operands _ _ (λ x rest. refl)
act_alike image call below w (instr.Increment which) = one_alike w call.operands _ _ (λ a rest. refl)
act_alike image call below w (instr.JumpIfZero t) = one_alike w call.operands _ _ (λ x rest. if_alike (x == 0) _ _ _ _ refl refl)
act_alike image call below w instr.Goto =
    one_alike w call.operands _ _ (λ v rest. gone_alike w (label_target call.function.first_label call.function.targets v) call rest below)
act_alike image call below w (instr.JumpIfCase v t) = one_alike w call.operands _ _ (λ x rest. if_alike (x == v) _ _ _ _ refl refl)
act_alike image call below w (instr.Call n) =
    one_alike w (drop n call.operands) _ _ (λ f rest. call_alike w (callee_of image.functions f) (reverse (take n call.operands)) (at_place call (call.place + 1) rest) below)
act_alike image call below w instr.Return = one_alike w call.operands _ _ (λ v rest. return_alike w v below)
act_alike image call below w instr.Pop = one_alike w call.operands _ _ (λ v rest. refl)
act_alike image call below w _ = refl

act_if_alike : (image : Image) (call : Call) (below : List Call) (w : World) (i : Option Instr) → silent (act_if image call below (unwritten w) i) ≡ silent (act_if image call below w i)
act_if_alike image call below w None = refl
act_if_alike image call below w (Some i) = act_alike image call below w i

pub step_alike : (image : Image) (s : State) → silent (step image (silent s)) ≡ silent (step image s)
step_alike image (Running call below w) = act_if_alike image call below w (slice_get call.function.code call.place)
step_alike image (Halted e w) = refl
step_alike image (Stuck w) = refl

steps_alike : (image : Image) (n : ℕ) (s t : State) → silent s ≡ silent t → silent (steps image n s) ≡ silent (steps image n t)
steps_alike image zero s t same = same
steps_alike image (suc n) s t same =
    steps_alike image n (step image s) (step image t)
    (sym (step_alike image s) ∙ ap (λ u. silent (step image u)) same ∙ step_alike image t)

-- The state comes again as late as one likes.
again_later : (image : Image) (p : ℕ) (t : State) → 1 ≤ p → silent (steps image p t) ≡ silent t → (k : ℕ) → (n : ℕ) × (k ≤ n) × (silent (steps image n t) ≡ silent t)
again_later image p t some same zero = (0, omega arith, refl)
again_later image p t some same (suc k) =
    let r = again_later image p t some same k in (
      p + r.0,
      omega (arith, some, r.1),
      ap silent (steps_add image p r.0 t) ∙ steps_alike image r.0 (steps image p t) t same ∙ r.2,
    )

as_it_was : (s : State) → IsRunning s → IsRunning (silent s)
as_it_was (Running call below w) runs = runs
as_it_was (Halted e w) runs = runs
as_it_was (Stuck w) runs = runs

pub as_it_is : (s : State) → IsRunning (silent s) → IsRunning s
as_it_is (Running call below w) runs = runs
as_it_is (Halted e w) runs = runs
as_it_is (Stuck w) runs = runs

running_alike : (s t : State) → silent s ≡ silent t → IsRunning t → IsRunning s
running_alike s t same runs = as_it_is s (subst IsRunning (sym same) (as_it_was t runs))

runs_unless : (s : State) → (IsOver s → ⊥) → IsRunning s
runs_unless (Running call below w) not_over = tt
runs_unless (Halted e w) not_over = elim (not_over tt) [ ]
runs_unless (Stuck w) not_over = elim (not_over tt) [ ]

over_or_running : (s : State) → IsOver s → IsRunning s → ⊥
over_or_running (Running call below w) over runs = over
over_or_running (Halted e w) over runs = runs
over_or_running (Stuck w) over runs = runs

as_within : (callers : ℕ) (s : State) → IsWithin callers s → IsWithin callers (silent s)
as_within callers (Running call below w) within = within
as_within callers (Halted e w) within = within
as_within callers (Stuck w) within = within

of_within : (callers : ℕ) (s : State) → IsWithin callers (silent s) → IsWithin callers s
of_within callers (Running call below w) within = within
of_within callers (Halted e w) within = within
of_within callers (Stuck w) within = within

within_alike : (callers : ℕ) (s t : State) → silent s ≡ silent t → IsWithin callers t → IsWithin callers s
within_alike callers s t same within = of_within callers s (subst (IsWithin callers) (sym same) (as_within callers t within))

module _ (image : Image) (s : State) (m n : ℕ) (again : ComesAgain (λ k. steps image k s) m n) where
  again_after : silent (steps image (n - m) (steps image m s)) ≡ silent (steps image m s)
  again_after =
      let all : m + (n - m) ≡ n = omega (arith, again.later) in
      ap silent (sym (steps_add image m (n - m) s) ∙ ap (λ k. steps image k s) all) ∙ again.same

  runs_on : (k : ℕ) → IsRunning (steps image k s)
  runs_on k =
      let some : 1 ≤ n - m = omega (arith, again.later) in
      let r = again_later image (n - m) (steps image m s) some again_after k in
      let runs = running_alike (steps image r.0 (steps image m s)) (steps image m s) r.2 again.runs in
      runs_unless (steps image k s)
      (λ over.
      let stays = over_later image k (m + r.0) s (steps image k s) (omega (arith, r.1)) over refl in
      over_or_running (steps image k s) over
      (subst IsRunning (sym (steps_add image m r.0 s) ∙ stays) runs))

  -- between the two times that it comes, and so later, too
  pub within_on : (callers : ℕ) → ((k : ℕ) → m ≤ k → k ≤ n → IsWithin callers (steps image k s)) → (most d : ℕ) → d ≤ most → IsWithin callers (steps image (m + d) s)
  within_on callers stays zero d le = let later = again.later in stays (m + d) (omega arith) (omega (arith, le, later))
  within_on callers stays (suc most) d le =
      ⊎_elim
      (λ lt.
      let later = again.later in
      let rest = d - (n - m) in
      let t = steps image m s in
      let all : m + d ≡ m + (n - m + rest) = omega (arith, lt) in
      let same : silent (steps image (m + d) s) ≡ silent (steps image (m + rest) s) =
      ap (λ k. silent (steps image k s)) all
      ∙ ap silent (steps_add image m (n - m + rest) s ∙ steps_add image (n - m) rest t)
      ∙ steps_alike image rest (steps image (n - m) t) t again_after
      ∙ ap silent (sym (steps_add image m rest s)) in
      within_alike callers (steps image (m + d) s) (steps image (m + rest) s) same (within_on callers stays most rest (omega (arith, le, lt, later))))
      (λ early. let later = again.later in stays (m + d) (omega arith) (omega (arith, early, later)))
      (cases_lt (n - m) d)

pub never_ends : NeverEnds
never_ends image input m n again k =
    runs_on image (machine_started image image.main (first_world image input)) m n again k

running_on : (s : State) → IsRunning s → state_outcome s ≡ outcome.Limit
running_on (Running call below w) runs = refl
running_on (Halted e w) runs = absurd runs
running_on (Stuck w) runs = absurd runs

-- a machine of which a state comes back runs for ever, and so does the one that was loaded so
pub back_for_ever : BackForEver
back_for_ever ds image i j r loaded back = (
  record {
    taken = back.taken;
    took = back.took;
    runs = λ more can n.
        (shows_loaded ds image loaded (back.taken ++ more) n).0
        ∙ running_on (run image (back.taken ++ more) n) (never_ends image (back.taken ++ more) r.first r.again (back.repeats more can).comes_again n);
  },
  λ more can n from.
      let is = back.repeats more can in
      let all : r.first + (n - r.first) ≡ n = omega (arith, from) in
      subst (λ k. IsWithin r.callers (run image (back.taken ++ more) k)) all
      (within_on image (machine_started image image.main (first_world image (back.taken ++ more))) r.first r.again is.comes_again r.callers is.stays (n - r.first) (n - r.first) (omega arith)),
)
