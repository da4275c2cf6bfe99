-- How the machine halts: with a status below 128, or with a trap that is not that of stuck code.
use Rattle.std.proofs.Common.{◌≡◌, ◌≢◌, ℕ, zero, suc, ◌+◌, ◌<◌, List, [], ◌∷◌, ◌++◌, length, Option, Some, None, Bool, true, false, refl, ◌∙◌, subst, arith, take, drop, reverse}
use Rattle.std.specs.Prelude.{slice_get, ◌==◌, if◌then◌else◌, nat_lt}
use Rattle.bword.specs.ByteEnds.{Incoming, Outgoing}
use Rattle.bword.specs.Words.{binary_of}
use Rattle.blang.specs.declared.code.Definition.{Definition}
use Rattle.blang.specs.declared.code.Instr.{Instr}
use Rattle.blang.specs.declared.code.Instr.TheVariants as instr
use Rattle.blang.specs.declared.run.Library.{Library}
use Rattle.blang.specs.declared.run.Library.TheVariants.{Getchar, Printn, Exit}
use Rattle.blang.specs.declared.run.Outcome.{Outcome}
use Rattle.blang.specs.declared.run.Outcome.TheVariants as outcome
use Rattle.blang.specs.declared.run.Trap.{Trap}
use Rattle.blang.specs.declared.run.Trap.TheVariants as trap
use Rattle.blang.specs.Layout.{label_target, store_words, World, Reply, Gives, Ends, next_byte, is_base, argument, library, Ending, Exited, Trapped, Callee, NoFunction, OfLibrary, OfProgram, callee_of, refusal, first_world}
use Rattle.blang.specs.Machine.{Loaded, Image, Call, State, Running, Halted, Stuck, take_one, take_two, on_reply}
use Rattle.blang.specs.Machine.{operator_reply, at_place, returned, gone_to_place, program_function_called}
use Rattle.blang.specs.Machine.{callee_called, act, act_if, step, steps, main_begun, machine_started, image_of, run}
use Rattle.blang.specs.Machine.{machine}
use Rattle.blang.specs.Reports.{state_outcome, RunGives, IsOwnStatus}

abbrev pub IsProper : Ending → Type 0
IsProper (Exited n) = n < 128
IsProper (Trapped kind) = kind ≢ trap.Stuck

abbrev pub HaltsProperly : State → Type 0
HaltsProperly (Running call below w) = Unit {0}
HaltsProperly (Halted e w) = IsProper e
HaltsProperly (Stuck w) = Unit {0}

abbrev EndsProperly : Reply → Type 0
EndsProperly (Gives v w) = Unit {0}
EndsProperly (Ends e w) = IsProper e

abbrev IsProperTrap : Option Trap → Type 0
IsProperTrap None = Unit {0}
IsProperTrap (Some kind) = kind ≢ trap.Stuck

operator_proper : (o : Option ℕ) (w : World) → EndsProperly (operator_reply o w)
operator_proper None w = λ e. cc
operator_proper (Some v) w = tt

next_byte_proper : (bytes : List ℕ) (w : World) → EndsProperly (next_byte bytes w)
next_byte_proper [] w = tt
next_byte_proper (x ∷ xs) w = tt

printn_proper : (b : Bool) (w w' : World) → EndsProperly (if b then Gives 0 w' else Ends (Trapped trap.BadBase) w)
printn_proper true w w' = tt
printn_proper false w w' = λ e. cc

library_proper : (f : Library) (args : List ℕ) (w : World) → EndsProperly (library f args w)
library_proper Getchar args w = next_byte_proper w.input w
library_proper Printn args w = printn_proper (is_base (argument args 1)) w _
library_proper Exit args w = omega arith
library_proper _ args w = tt

refusal_trap : (shallow long : Bool) → IsProperTrap (if shallow then (if long then Some trap.NoRoom else None) else Some trap.TooDeep)
refusal_trap true true = λ e. cc
refusal_trap true false = tt
refusal_trap false long = λ e. cc

refusal_proper : (active frame_end : ℕ) → IsProperTrap (refusal active frame_end)
refusal_proper active frame_end = refusal_trap (nat_lt active 4096) (nat_lt store_words frame_end)

one_proper : (w : World) (operands : List ℕ) (next : ℕ → List ℕ → State) → ((x : ℕ) (rest : List ℕ) → HaltsProperly (next x rest)) → HaltsProperly (take_one operands w next)
one_proper w [] next h = tt
one_proper w (x ∷ rest) next h = h x rest

two_proper : (w : World) (operands : List ℕ) (next : ℕ → ℕ → List ℕ → State) → ((x y : ℕ) (rest : List ℕ) → HaltsProperly (next x y rest)) → HaltsProperly (take_two operands w next)
two_proper w [] next h = tt
two_proper w (y ∷ []) next h = tt
two_proper w (y ∷ x ∷ rest) next h = h x y rest

reply_proper : (r : Reply) (next : ℕ → World → State) → EndsProperly r → ((v : ℕ) (w : World) → HaltsProperly (next v w)) → HaltsProperly (on_reply r next)
reply_proper (Gives v w) next p h = h v w
reply_proper (Ends e w) next p h = p

if_proper : (b : Bool) (s t : State) → HaltsProperly s → HaltsProperly t → HaltsProperly (if b then s else t)
if_proper true s t h k = h
if_proper false s t h k = k

gone_proper : (t : Option ℕ) (call : Call) (rest : List ℕ) (below : List Call) (w : World) → HaltsProperly (gone_to_place t call rest below w)
gone_proper None call rest below w = λ e. cc
gone_proper (Some t) call rest below w = tt

return_proper : (v : ℕ) (below : List Call) (w : World) → HaltsProperly (returned v below w)
return_proper v [] w = omega arith
return_proper v (call ∷ below) w = tt

called_proper : (r : Option Trap) (f : Loaded) (args : List ℕ) (start : ℕ) (caller : Call) (below : List Call) (w : World) → IsProperTrap r → HaltsProperly (program_function_called r f args start caller below w)
called_proper (Some kind) f args start caller below w p = p
called_proper None f args start caller below w p = tt

call_proper : (c : Callee Loaded) (args : List ℕ) (caller : Call) (below : List Call) (w : World) → HaltsProperly (callee_called c args caller below w)
call_proper NoFunction args caller below w = λ e. cc
call_proper (OfLibrary f) args caller below w = reply_proper (library f args w) _ (library_proper f args w) (λ v w'. tt)
call_proper (OfProgram f) args caller below w =
    let start = caller.start + caller.function.frame in
    called_proper (refusal (1 + length below) (start + f.frame)) f args start caller below w (refusal_proper (1 + length below) (start + f.frame))

act_proper : (image : Image) (call : Call) (below : List Call) (w : World) (i : Instr) → HaltsProperly (act image call below w i)
act_proper image call below w instr.Load = one_proper w call.operands _ (λ a rest. tt)
act_proper image call below w instr.Store = two_proper w call.operands _ (λ a v rest. tt)
act_proper image call below w (instr.Binary op) =
    two_proper w call.operands _ (λ x y rest. reply_proper (operator_reply (binary_of op x y) w) _ (operator_proper (binary_of op x y) w) (λ v w'. tt))
act_proper image call below w (instr.Modify op) =
    two_proper w call.operands _ (λ a y rest. reply_proper (operator_reply (binary_of op _ y) w) _ (operator_proper (binary_of op _ y) w) (λ v w'. tt))
act_proper image call below w instr.Negate = one_proper w call.operands _ (λ x rest. tt)
act_proper image call below w instr.Not = one_proper w call.operands _ (λ x rest. tt)
act_proper image call below w (instr.Increment which) = one_proper w call.operands _ (λ a rest. tt)
act_proper image call below w (instr.JumpIfZero t) = one_proper w call.operands _ (λ x rest. if_proper (x == 0) _ _ tt tt)
act_proper image call below w instr.Goto =
    one_proper w call.operands _ (λ v rest. gone_proper (label_target call.function.first_label call.function.targets v) call rest below w)
act_proper image call below w (instr.JumpIfCase v t) = one_proper w call.operands _ (λ x rest. if_proper (x == v) _ _ tt tt)
act_proper image call below w (instr.Call n) =
    one_proper w (drop n call.operands) _ (λ f rest. call_proper (callee_of image.functions f) (reverse (take n call.operands)) (at_place call (call.place + 1) rest) below w)
act_proper image call below w instr.Return = one_proper w call.operands _ (λ v rest. return_proper v below w)
act_proper image call below w instr.Pop = one_proper w call.operands _ (λ v rest. tt)
act_proper image call below w _ = tt

act_if_proper : (image : Image) (call : Call) (below : List Call) (w : World) (i : Option Instr) → HaltsProperly (act_if image call below w i)
act_if_proper image call below w None = tt
act_if_proper image call below w (Some i) = act_proper image call below w i

step_proper : (image : Image) (s : State) → HaltsProperly s → HaltsProperly (step image s)
step_proper image (Running call below w) h = act_if_proper image call below w (slice_get call.function.code call.place)
step_proper image (Halted e w) h = h
step_proper image (Stuck w) h = h

steps_proper : (image : Image) (n : ℕ) (s : State) → HaltsProperly s → HaltsProperly (steps image n s)
steps_proper image zero s h = h
steps_proper image (suc n) s h = steps_proper image n (step image s) (step_proper image s h)

begun_proper : (r : Option Trap) (f : Loaded) (start : ℕ) (w : World) → IsProperTrap r → HaltsProperly (main_begun r f start w)
begun_proper (Some kind) f start w p = p
begun_proper None f start w p = tt

started_proper : (image : Image) (main : Option Loaded) (w : World) → HaltsProperly (machine_started image main w)
started_proper image None w = tt
started_proper image (Some f) w = begun_proper (refusal 0 (image.data_end + f.frame)) f image.data_end w (refusal_proper 0 (image.data_end + f.frame))

pub run_proper : (image : Image) (input : List ℕ) (n : ℕ) → HaltsProperly (run image input n)
run_proper image input n =
    steps_proper image n (machine_started image image.main (first_world image input)) (started_proper image image.main (first_world image input))

-- what shows in an outcome
pub no_stuck_outcome : (s : State) → HaltsProperly s → ((w : World) → s ≢ Stuck w) → state_outcome s ≢ outcome.Trap trap.Stuck
no_stuck_outcome (Running call below w) h not_stuck e = cc
no_stuck_outcome (Halted (Exited n) w) h not_stuck e = cc
no_stuck_outcome (Halted (Trapped kind) w) h not_stuck e = let same : kind ≡ trap.Stuck = cc in h same
no_stuck_outcome (Stuck w) h not_stuck e = not_stuck w refl

own_status : (s : State) → HaltsProperly s → (n : ℕ) → state_outcome s ≡ outcome.Exit n → n < 128
own_status (Running call below w) h n e = absurd (no e)
  where
    no : outcome.Limit ≢ outcome.Exit n
    no e = cc
own_status (Halted (Exited m) w) h n e = let same : m ≡ n = cc in subst (λ k. k < 128) same h
own_status (Halted (Trapped kind) w) h n e = absurd (no e)
  where
    no : outcome.Trap kind ≢ outcome.Exit n
    no e = cc
own_status (Stuck w) h n e = absurd (no e)
  where
    no : outcome.Trap trap.Stuck ≢ outcome.Exit n
    no e = cc

-- a run that ends by itself has a status below 128
pub gives_own_status : (ds : List Definition) (n : ℕ) (i j : Incoming) (o p : Outgoing) (result : Outcome) → RunGives (machine ds) n i j o p result → IsOwnStatus result
gives_own_status ds n i j o p (outcome.Exit m) h k e =
    let input = h.taken ++ [] in
    own_status (machine ds input n) (run_proper (image_of ds) input n) k ((h.shows [] (λ over. refl)).outcome ∙ e)
gives_own_status ds n i j o p (outcome.Trap kind) h k e = absurd (no e)
  where
    no : outcome.Trap kind ≢ outcome.Exit k
    no e = cc
gives_own_status ds n i j o p outcome.Limit h k e = absurd (no e)
  where
    no : outcome.Limit ≢ outcome.Exit k
    no e = cc
gives_own_status ds n i j o p outcome.Device h k e = absurd (no e)
  where
    no : outcome.Device ≢ outcome.Exit k
    no e = cc
gives_own_status ds n i j o p outcome.Memory h k e = absurd (no e)
  where
    no : outcome.Memory ≢ outcome.Exit k
    no e = cc
