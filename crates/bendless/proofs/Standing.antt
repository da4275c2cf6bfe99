-- While a run never returns from a call, that call and those below it stay; and the store keeps its length.
use Rattle.std.proofs.Common.{◌≡◌, ◌∙◌, ◌⊎◌, ℕ, ◌+◌, ◌<◌, ◌≤◌, List, [], ◌∷◌, length, Option, Some, None, Bool, true, false, ap, arith, drop, inl, inr, refl, reverse, subst, sym, take}
use Rattle.std.specs.Prelude.{slice_get, ◌==◌, if◌then◌else◌}
use Rattle.std.proofs.lemmas.List.{length-set}
use Rattle.bword.specs.Words.{binary_of, byte_address, with_byte}
use Rattle.std.specs.Prelude.{slice_index}
use Rattle.blang.specs.declared.code.Instr.{Instr}
use Rattle.blang.specs.declared.code.Instr.TheVariants as instr
use Rattle.blang.specs.declared.run.Library.{Library}
use Rattle.blang.specs.declared.run.Library.TheVariants.{Char, Lchar, Getchar, Putchar, Printn, Exit}
use Rattle.blang.specs.declared.run.Trap.{Trap}
use Rattle.blang.specs.declared.run.Trap.TheVariants.{BadBase}
use Rattle.blang.specs.Layout.{label_target, World, Gives, Ends, word_at, with_word, with_words, parameter_words, next_byte, is_base, argument, printed, with_output, library, Trapped, Callee, NoFunction, OfLibrary, OfProgram, callee_of, refusal}
use Rattle.blang.specs.Machine.{Loaded, Image, Call, with_operand, State, Running, Halted, Stuck, take_one, take_two, on_reply, operator_reply, at_place, returned, gone_to_place, program_function_called, callee_called, act, act_if, step}

-- the same activation, perhaps at another place and with other operands
abbrev pub IsSame : Call → Call → Type 0
IsSame c d = (d.function ≡ c.function) × (d.start ≡ c.start)

same_on : (a b c : Call) → IsSame a b → IsSame b c → IsSame a c
same_on a b c h k = (k.0 ∙ h.0, k.1 ∙ h.1)

-- the call goes on, or calls another one, or returns to the one below
abbrev pub Moved : Call → List Call → Call → List Call → Type 0
Moved call below call' below' =
    (IsSame call call' × (below' ≡ below))
    ⊎ (((caller : Call) × IsSame call caller × (below' ≡ caller ∷ below))
    ⊎ ((caller : Call) × (below ≡ caller ∷ below') × IsSame caller call'))

-- these calls stand on this one and those below it
abbrev pub StandOn : Call → List Call → List Call → Type 0
StandOn at under [] = ⊥
StandOn at under (c ∷ cs) = (IsSame at c × (cs ≡ under)) ⊎ StandOn at under cs

stand_above : (at : Call) (under stack : List Call) → StandOn at under stack → length under < length stack
stand_above at under [] h = elim h [ ]
stand_above at under (c ∷ cs) (inl h) = let e = ap length h.1 in omega (arith, e)
stand_above at under (c ∷ cs) (inr h) = let more = stand_above at under cs h in omega (arith, more)

pub stand_here : (at c : Call) (under cs : List Call) → StandOn at under (c ∷ cs) → length cs ≡ length under → IsSame at c × (cs ≡ under)
stand_here at c under cs (inl h) e = h
stand_here at c under cs (inr h) e = let more = stand_above at under cs h in absurd (omega (arith, more, e))

pub stand_first : (at : Call) (under : List Call) → StandOn at under (at ∷ under)
stand_first at under = inl ((refl, refl), refl)

pub stand_on : (at call call' : Call) (under below below' : List Call) → Moved call below call' below' → length under ≤ length below' → StandOn at under (call ∷ below) → StandOn at under (call' ∷ below')
stand_on at call call' under below below' (inl m) long (inl h) = inl (same_on at call call' h.0 m.0, m.1 ∙ h.1)
stand_on at call call' under below below' (inl m) long (inr h) = inr (subst (StandOn at under) (sym m.1) h)
stand_on at call call' under below below' (inr (inl m)) long (inl h) =
    inr (subst (StandOn at under) (sym m.2) (inl (same_on at call m.0 h.0 m.1, h.1)))
stand_on at call call' under below below' (inr (inl m)) long (inr h) = inr (subst (StandOn at under) (sym m.2) (inr h))
stand_on at call call' under below below' (inr (inr m)) long (inl h) =
    let e = ap length (sym m.1 ∙ h.1) in absurd (omega (arith, e, long))
stand_on at call call' under below below' (inr (inr m)) long (inr h) = in_caller (subst (StandOn at under) m.1 h)
  where
    in_caller : StandOn at under (m.0 ∷ below') → StandOn at under (call' ∷ below')
    in_caller (inl k) = inl (same_on at m.0 call' k.0 m.2, k.1)
    in_caller (inr k) = inr k

-- what a step leads to from a call and those below it, in a world
abbrev After : Call → List Call → World → State → Type 0
After call below w (Running call' below' w') = Moved call below call' below' × (length w'.store ≡ length w.store)
After call below w (Halted e w') = Unit {0}
After call below w (Stuck w') = Unit {0}

words_length : (vs : List ℕ) (a : ℕ) (w : World) → length (with_words w a vs).store ≡ length w.store
words_length [] a w = refl
words_length (v ∷ vs) a w = words_length vs (a + 1) (with_word w a v) ∙ length-set w.store a v

module _ (call : Call) (below : List Call) (w : World) where
  one_after : (operands : List ℕ) (next : ℕ → List ℕ → State) → ((x : ℕ) (rest : List ℕ) → After call below w (next x rest)) → After call below w (take_one operands w next)
  one_after [] next h = tt
  one_after (x ∷ rest) next h = h x rest

  two_after : (operands : List ℕ) (next : ℕ → ℕ → List ℕ → State) → ((x y : ℕ) (rest : List ℕ) → After call below w (next x y rest)) → After call below w (take_two operands w next)
  two_after [] next h = tt
  two_after (y ∷ []) next h = tt
  two_after (y ∷ x ∷ rest) next h = h x y rest

  operator_after : (o : Option ℕ) (next : ℕ → World → State) → ((v : ℕ) → After call below w (next v w)) → After call below w (on_reply (operator_reply o w) next)
  operator_after None next h = tt
  operator_after (Some v) next h = h v

  if_after : (b : Bool) (s t : State) → After call below w s → After call below w t → After call below w (if b then s else t)
  if_after true s t h k = h
  if_after false s t h k = k

  here : (place : ℕ) (operands : List ℕ) → After call below w (Running (at_place call place operands) below w)
  here place operands = (inl ((refl, refl), refl), refl)

  goes : (t : Option ℕ) (rest : List ℕ) → After call below w (gone_to_place t call rest below w)
  goes None rest = tt
  goes (Some t) rest = here t rest

  module _ (place : ℕ) (rest : List ℕ) where
    byte_after : (bytes : List ℕ) → After call below w (on_reply (next_byte bytes w) (λ v w'. Running (with_operand (at_place call place rest) v) below w'))
    byte_after [] = (inl ((refl, refl), refl), refl)
    byte_after (x ∷ xs) = (inl ((refl, refl), refl), refl)

    printn_after : (b : Bool) (bytes : List ℕ) → After call below w (on_reply (if b then Gives 0 (with_output w bytes) else Ends (Trapped BadBase) w) (λ v w'. Running (with_operand (at_place call place rest) v) below w'))
    printn_after true bytes = (inl ((refl, refl), refl), refl)
    printn_after false bytes = tt

    library_after : (f : Library) (args : List ℕ) → After call below w (on_reply (library f args w) (λ v w'. Running (with_operand (at_place call place rest) v) below w'))
    library_after Char args = (inl ((refl, refl), refl), refl)
    library_after Lchar args =
        let a = byte_address (argument args 0) (argument args 1) in
        (inl ((refl, refl), refl), length-set w.store a (with_byte (argument args 1) (slice_index w.store a) (argument args 2)))
    library_after Getchar args = byte_after w.input
    library_after Putchar args = (inl ((refl, refl), refl), refl)
    library_after Printn args = printn_after (is_base (argument args 1)) (printed (argument args 0) (argument args 1))
    library_after Exit args = tt

    function_after : (r : Option Trap) (f : Loaded) (args : List ℕ) (start : ℕ) → After call below w (program_function_called r f args start (at_place call place rest) below w)
    function_after (Some t) f args start = tt
    function_after None f args start =
        (inr (inl (at_place call place rest, (refl, refl), refl)), words_length (parameter_words f.parameters args) start w)

    callee_after : (c : Callee Loaded) (args : List ℕ) → After call below w (callee_called c args (at_place call place rest) below w)
    callee_after NoFunction args = tt
    callee_after (OfLibrary f) args = library_after f args
    callee_after (OfProgram f) args =
        function_after (refusal (1 + length below) (call.start + call.function.frame + f.frame)) f args (call.start + call.function.frame)

return_after : (call : Call) (below : List Call) (w : World) (v : ℕ) → After call below w (returned v below w)
return_after call [] w v = tt
return_after call (caller ∷ below) w v = (inr (inr (caller, refl, (refl, refl))), refl)

module _ (image : Image) (call : Call) (below : List Call) (w : World) where
  act_after : (i : Instr) → After call below w (act image call below w i)
  act_after (instr.Constant n) = (inl ((refl, refl), refl), refl)
  act_after (instr.External x) = (inl ((refl, refl), refl), refl)
  act_after (instr.Automatic k) = (inl ((refl, refl), refl), refl)
  act_after (instr.Text o) = (inl ((refl, refl), refl), refl)
  act_after (instr.Label k) = (inl ((refl, refl), refl), refl)
  act_after instr.Load = one_after call below w call.operands _ (λ a rest. (inl ((refl, refl), refl), refl))
  act_after instr.Store = two_after call below w call.operands _ (λ a v rest. (inl ((refl, refl), refl), length-set w.store a v))
  act_after (instr.Binary op) =
      two_after call below w call.operands _ (λ x y rest. operator_after call below w (binary_of op x y) _ (λ v. (inl ((refl, refl), refl), refl)))
  act_after (instr.Modify op) =
      two_after call below w call.operands _ (λ a y rest. operator_after call below w (binary_of op (word_at w a) y) _ (λ v. (inl ((refl, refl), refl), length-set w.store a v)))
  act_after instr.Negate = one_after call below w call.operands _ (λ x rest. (inl ((refl, refl), refl), refl))
  act_after instr.Not = one_after call below w call.operands _ (λ x rest. (inl ((refl, refl), refl), refl))
  act_after (instr.Increment which) = one_after call below w call.operands _ (λ a rest. (inl ((refl, refl), refl), length-set w.store a _))
  act_after (instr.Jump t) = (inl ((refl, refl), refl), refl)
  act_after (instr.JumpIfZero t) =
      one_after call below w call.operands _ (λ x rest. if_after call below w (x == 0) _ _ (inl ((refl, refl), refl), refl) (inl ((refl, refl), refl), refl))
  act_after instr.Goto =
      one_after call below w call.operands _ (λ v rest. goes call below w (label_target call.function.first_label call.function.targets v) rest)
  act_after (instr.JumpIfCase v t) =
      one_after call below w call.operands _ (λ x rest. if_after call below w (x == v) _ _ (inl ((refl, refl), refl), refl) (inl ((refl, refl), refl), refl))
  act_after (instr.Call n) =
      one_after call below w (drop n call.operands) _ (λ f rest. callee_after call below w (call.place + 1) rest (callee_of image.functions f) (reverse (take n call.operands)))
  act_after instr.Return = one_after call below w call.operands _ (λ v rest. return_after call below w v)
  act_after instr.Pop = one_after call below w call.operands _ (λ v rest. (inl ((refl, refl), refl), refl))

  act_if_after : (i : Option Instr) → After call below w (act_if image call below w i)
  act_if_after None = tt
  act_if_after (Some i) = act_after i

  -- a step after which the run goes on
  pub step_moves : (call' : Call) (below' : List Call) (w' : World) → step image (Running call below w) ≡ Running call' below' w'
      → Moved call below call' below' × (length w'.store ≡ length w.store)
  step_moves call' below' w' e = subst (After call below w) e (act_if_after (slice_get call.function.code call.place))
