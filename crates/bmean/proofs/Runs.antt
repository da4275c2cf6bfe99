-- Runs of the machine: what is written stays written, and a run that is over stays so.
use Rattle.std.proofs.Common.{◌≡◌, ℕ, zero, suc, ◌+◌, ◌-◌, ◌≤◌, List, [], ◌∷◌, ◌++◌, length, Option, Some, None, Bool, true, false, refl, sym, ap, ◌∙◌, subst, arith, append_assoc, append-nil, ⊎_elim, take, drop, reverse}
use Rattle.std.specs.Prelude.{slice_get, ◌==◌, if◌then◌else◌}
use Rattle.std.proofs.lemmas.Bool.{cases_lt}
use Rattle.bword.specs.Words.{binary_of}
use Rattle.blang.specs.declared.code.Instr.{Instr}
use Rattle.blang.specs.declared.code.Instr.TheVariants as instr
use Rattle.blang.specs.declared.run.Library.{Library}
use Rattle.blang.specs.declared.run.Library.TheVariants.{Getchar, Putchar, Printn}
use Rattle.blang.specs.declared.run.Trap.{Trap}
use Rattle.blang.specs.Layout.{label_target, World, Reply, Gives, Ends, word_at, with_word, with_words, parameter_words, next_byte, is_base, argument, printed, with_output, library, Trapped, Callee, NoFunction, OfLibrary, OfProgram, callee_of, refusal}
use Rattle.blang.specs.declared.run.Trap.TheVariants.{BadBase}
use Rattle.blang.specs.Machine.{Loaded, Image, Call, State, Running, Halted, Stuck, take_one, take_two, on_reply, operator_reply, at_place, returned, gone_to_place, program_function_called, callee_called, act, act_if, step, steps}
use Rattle.blang.specs.Meaning.{IsBeginningOf}
use Rattle.bmach.proofs.Running.{IsOver, over_stays, steps_add}
use Rattle.bmean.proofs.Does.{IsAt}

-- the world of a state
abbrev pub world_in : State → World
world_in (Running call below w) = w
world_in (Halted e w) = w
world_in (Stuck w) = w

-- more steps from where a run is over change nothing
pub over_later : (image : Image) (m n : ℕ) (s t : State) → m ≤ n → IsOver t → steps image m s ≡ t → steps image n s ≡ t
over_later image m n s t le o e =
    let d : m + (n - m) ≡ n = omega (arith, le) in
    ap (λ k. steps image k s) (sym d) ∙ steps_add image m (n - m) s ∙ ap (steps image (n - m)) e ∙ over_stays image (n - m) t o

-- two ends of a run are the same
pub one_end : (image : Image) (m n : ℕ) (s t u : State) → IsOver t → IsOver u → steps image m s ≡ t → steps image n s ≡ u → t ≡ u
one_end image m n s t u o p e f =
    ⊎_elim
    (λ lt. sym (over_later image m n s t (omega (arith, lt)) o e) ∙ f)
    (λ le. sym e ∙ over_later image n m s u le p f)
    (cases_lt m n)

-- what was written stays written
abbrev pub Writes : World → World → Type 0
Writes w w' = IsBeginningOf w.output w'.output

pub writes_nothing : (w : World) → Writes w w
writes_nothing w = ([], append-nil w.output)

writes_more : (w w1 w2 : World) → Writes w w1 → Writes w1 w2 → Writes w w2
writes_more w w1 w2 a b = (a.0 ++ b.0, sym (append_assoc w.output a.0 b.0) ∙ ap (λ l. l ++ b.0) a.1 ∙ b.1)

abbrev IsWritten : World → Reply → Type 0
IsWritten w (Gives v w') = Writes w w'
IsWritten w (Ends e w') = Writes w w'

operator_writes : (o : Option ℕ) (w : World) → IsWritten w (operator_reply o w)
operator_writes None w = writes_nothing w
operator_writes (Some v) w = writes_nothing w

words_write : (vs : List ℕ) (a : ℕ) (w : World) → Writes w (with_words w a vs)
words_write [] a w = writes_nothing w
words_write (v ∷ vs) a w = words_write vs (a + 1) (with_word w a v)

next_byte_writes : (bytes : List ℕ) (w : World) → IsWritten w (next_byte bytes w)
next_byte_writes [] w = writes_nothing w
next_byte_writes (x ∷ xs) w = writes_nothing w

printn_writes : (b : Bool) (w : World) (bytes : List ℕ) → IsWritten w (if b then Gives 0 (with_output w bytes) else Ends (Trapped BadBase) w)
printn_writes true w bytes = (bytes, refl)
printn_writes false w bytes = writes_nothing w

library_writes : (f : Library) (args : List ℕ) (w : World) → IsWritten w (library f args w)
library_writes Getchar args w = next_byte_writes w.input w
library_writes Putchar args w = (_, refl)
library_writes Printn args w =
    printn_writes (is_base (argument args 1)) w (printed (argument args 0) (argument args 1))
library_writes _ args w = writes_nothing w

-- a state that has written w's output and perhaps more
abbrev From : World → State → Type 0
From w s = Writes w (world_in s)

one_from : (w : World) (operands : List ℕ) (next : ℕ → List ℕ → State) → ((x : ℕ) (rest : List ℕ) → From w (next x rest)) → From w (take_one operands w next)
one_from w [] next h = writes_nothing w
one_from w (x ∷ rest) next h = h x rest

two_from : (w : World) (operands : List ℕ) (next : ℕ → ℕ → List ℕ → State) → ((x y : ℕ) (rest : List ℕ) → From w (next x y rest)) → From w (take_two operands w next)
two_from w [] next h = writes_nothing w
two_from w (y ∷ []) next h = writes_nothing w
two_from w (y ∷ x ∷ rest) next h = h x y rest

reply_from : (w : World) (r : Reply) (next : ℕ → World → State) → IsWritten w r → ((v : ℕ) (w' : World) → Writes w w' → From w (next v w')) → From w (on_reply r next)
reply_from w (Gives v w') next i h = h v w' i
reply_from w (Ends e w') next i h = i

if_from : (w : World) (b : Bool) (s t : State) → From w s → From w t → From w (if b then s else t)
if_from w true s t h k = h
if_from w false s t h k = k

gone_from : (w : World) (t : Option ℕ) (call : Call) (rest : List ℕ) (below : List Call) → From w (gone_to_place t call rest below w)
gone_from w None call rest below = writes_nothing w
gone_from w (Some t) call rest below = writes_nothing w

return_from : (w : World) (v : ℕ) (below : List Call) → From w (returned v below w)
return_from w v [] = writes_nothing w
return_from w v (call ∷ below) = writes_nothing w

called_from : (w : World) (r : Option Trap) (f : Loaded) (args : List ℕ) (start : ℕ) (caller : Call) (below : List Call) → From w (program_function_called r f args start caller below w)
called_from w (Some t) f args start caller below = writes_nothing w
called_from w None f args start caller below = words_write (parameter_words f.parameters args) start w

call_from : (w : World) (c : Callee Loaded) (args : List ℕ) (caller : Call) (below : List Call) → From w (callee_called c args caller below w)
call_from w NoFunction args caller below = writes_nothing w
call_from w (OfLibrary f) args caller below = reply_from w (library f args w) _ (library_writes f args w) (λ v w' h. h)
call_from w (OfProgram f) args caller below =
    called_from w (refusal (1 + length below) (caller.start + caller.function.frame + f.frame)) f args (caller.start + caller.function.frame) caller below

act_from : (image : Image) (call : Call) (below : List Call) (w : World) (i : Instr) → From w (act image call below w i)
act_from image call below w instr.Load = one_from w call.operands _ (λ a rest. writes_nothing w)
act_from image call below w instr.Store = two_from w call.operands _ (λ a v rest. writes_nothing w)
act_from image call below w (instr.Binary op) =
    two_from w call.operands _ (λ x y rest. reply_from w (operator_reply (binary_of op x y) w) _ (operator_writes (binary_of op x y) w) (λ v w' h. h))
act_from image call below w (instr.Modify op) =
    two_from w call.operands _ (λ a y rest. reply_from w (operator_reply (binary_of op (word_at w a) y) w) _ (operator_writes (binary_of op (word_at w a) y) w) (λ v w' h. h))
act_from image call below w instr.Negate = one_from w call.operands _ (λ x rest. writes_nothing w)
act_from image call below w instr.Not = one_from w call.operands _ (λ x rest. writes_nothing w)
act_from image call below w (instr.Increment which) = one_from w call.operands _ (λ a rest. writes_nothing w)
act_from image call below w (instr.JumpIfZero t) =
    one_from w call.operands _ (λ x rest. if_from w (x == 0) _ _ (writes_nothing w) (writes_nothing w))
act_from image call below w instr.Goto =
    one_from w call.operands _ (λ v rest. gone_from w (label_target call.function.first_label call.function.targets v) call rest below)
act_from image call below w (instr.JumpIfCase v t) =
    one_from w call.operands _ (λ x rest. if_from w (x == v) _ _ (writes_nothing w) (writes_nothing w))
act_from image call below w (instr.Call n) =
    one_from w (drop n call.operands) _ (λ f rest. call_from w (callee_of image.functions f) (reverse (take n call.operands)) (at_place call (call.place + 1) rest) below)
act_from image call below w instr.Return = one_from w call.operands _ (λ v rest. return_from w v below)
act_from image call below w instr.Pop = one_from w call.operands _ (λ v rest. writes_nothing w)
act_from image call below w _ = writes_nothing w

act_if_from : (image : Image) (call : Call) (below : List Call) (w : World) (i : Option Instr) → From w (act_if image call below w i)
act_if_from image call below w None = writes_nothing w
act_if_from image call below w (Some i) = act_from image call below w i

step_writes : (image : Image) (s : State) → Writes (world_in s) (world_in (step image s))
step_writes image (Running call below w) = act_if_from image call below w (slice_get call.function.code call.place)
step_writes image (Halted e w) = writes_nothing w
step_writes image (Stuck w) = writes_nothing w

steps_write : (image : Image) (n : ℕ) (s : State) → Writes (world_in s) (world_in (steps image n s))
steps_write image zero s = writes_nothing (world_in s)
steps_write image (suc n) s =
    writes_more (world_in s) (world_in (step image s)) (world_in (steps image n (step image s))) (step_writes image s) (steps_write image n (step image s))

-- fewer steps have written a beginning
pub later_writes : (image : Image) (m n : ℕ) (s : State) → m ≤ n → Writes (world_in (steps image m s)) (world_in (steps image n s))
later_writes image m n s le =
    let d : m + (n - m) ≡ n = omega (arith, le) in
    subst (λ t. Writes (world_in (steps image m s)) (world_in t)) (sym (steps_add image m (n - m) s) ∙ ap (λ k. steps image k s) d) (steps_write image (n - m) (steps image m s))

over_is_not_at : (t : State) (w : World) → IsOver t → IsAt t w → ⊥
over_is_not_at (Running call below w') w o i = o
over_is_not_at (Halted e w') w o i = i
over_is_not_at (Stuck w') w o i = i

-- a run that isn't over at some step wasn't before
pub not_over : (image : Image) (m n : ℕ) (s t : State) (w : World) → n ≤ m → IsAt (steps image m s) w → IsOver t → steps image n s ≡ t → ⊥
not_over image m n s t w le i o e = over_is_not_at t w o (subst (λ u. IsAt u w) (over_later image n m s t le o e) i)

pub at_world : (s : State) (w : World) → IsAt s w → world_in s ≡ w
at_world (Running call below w') w i = i
at_world (Halted e w') w i = elim i [ ]
at_world (Stuck w') w i = elim i [ ]

pub at_running : (s : State) (w : World) → IsAt s w → (call : Call) × (below : List Call) × (s ≡ Running call below w)
at_running (Running call below w') w i = (call, below, ap (Running call below) i)
at_running (Halted e w') w i = elim i [ ]
at_running (Stuck w') w i = elim i [ ]
