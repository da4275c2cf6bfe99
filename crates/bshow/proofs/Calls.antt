-- The calls below the running one, one step after another.
use Rattle.std.proofs.Common.{◌≡◌, ℕ, ◌+◌, ◌<◌, Bool, true, false, List, [], ◌∷◌, None, Option, Some, ap, arith, drop, inl, inr, length, map, refl, reverse, subst, sym, take}
use Rattle.std.specs.Prelude.{◌==◌, if◌then◌else◌, option_map, slice_get}
use Rattle.std.proofs.lemmas.List.{length-map}
use Rattle.bword.specs.Words.{binary_of}
use Rattle.blang.specs.declared.code.Definition.{Definition}
use Rattle.blang.specs.declared.code.Instr.{Instr}
use Rattle.blang.specs.declared.code.Instr.TheVariants as instr
use Rattle.blang.specs.declared.run.Trap.{Trap}
use Rattle.blang.specs.Layout.{Callee, NoFunction, OfLibrary, OfProgram, Reply, Gives, Ends, World, callee_of, first_world, with_word, word_at, label_target, library, refusal}
use Rattle.blang.specs.Machine.{Call, Halted, Image, Loaded, Running, State, Stuck, act, act_if, callee_called, gone_to_place, at_place, image_of, machine, machine_started, main_begun, next, on_reply, operator_reply, program_function_called, returned, step, take_one, take_two}
use Rattle.bmach.specs.Stops.{active_of}
use Rattle.bmach.specs.declared.machine.Active.{Active}
use Rattle.bmach.proofs.Running.{one_more}
use Rattle.bwatch.specs.Sights.{sight_of, sights_of}
use Rattle.bshow.specs.Steps.{IsRun, Moves}

-- a state after a step of a call that has these below it
abbrev Near : List Call → State → Type 0
Near below (Running call below' w) = Moves (map active_of below) (map active_of below')
Near below (Halted e w) = Unit {0}
Near below (Stuck w) = Unit {0}

module _ (below : List Call) where
  same : Moves (map active_of below) (map active_of below)
  same = inl refl

  one_near : (operands : List ℕ) (w : World) (next : ℕ → List ℕ → State) → ((x : ℕ) (rest : List ℕ) → Near below (next x rest)) → Near below (take_one operands w next)
  one_near [] w next h = tt
  one_near (x ∷ rest) w next h = h x rest

  two_near : (operands : List ℕ) (w : World) (next : ℕ → ℕ → List ℕ → State) → ((x y : ℕ) (rest : List ℕ) → Near below (next x y rest)) → Near below (take_two operands w next)
  two_near [] w next h = tt
  two_near (y ∷ []) w next h = tt
  two_near (y ∷ x ∷ rest) w next h = h x y rest

  reply_near : (r : Reply) (next : ℕ → World → State) → ((v : ℕ) (w : World) → Near below (next v w)) → Near below (on_reply r next)
  reply_near (Gives v w) next h = h v w
  reply_near (Ends e w) next h = tt

  if_near : (b : Bool) (s t : State) → Near below s → Near below t → Near below (if b then s else t)
  if_near true s t hs ht = hs
  if_near false s t hs ht = ht

  goto_near : (t : Option ℕ) (c : Call) (rest : List ℕ) (w : World) → Near below (gone_to_place t c rest below w)
  goto_near (Some t) c rest w = same
  goto_near None c rest w = tt

  function_near : (refused : Option Trap) (f : Loaded) (args : List ℕ) (start : ℕ) (caller : Call) (w : World) → Near below (program_function_called refused f args start caller below w)
  function_near (Some trap) f args start caller w = tt
  function_near None f args start caller w = inr (inl (active_of caller, refl))

  callee_near : (callee : Callee Loaded) (args : List ℕ) (caller : Call) (w : World) → Near below (callee_called callee args caller below w)
  callee_near NoFunction args caller w = tt
  callee_near (OfLibrary f) args caller w = reply_near (library f args w) _ (λ v w'. same)
  callee_near (OfProgram f) args caller w = function_near _ f args _ caller w

return_near : (v : ℕ) (below : List Call) (w : World) → Near below (returned v below w)
return_near v [] w = tt
return_near v (caller ∷ below) w = inr (inr (active_of caller, refl))

module _ (image : Image) (call : Call) (below : List Call) (w : World) where
  act_near : (i : Instr) → Near below (act image call below w i)
  act_near (instr.Constant n) = same below
  act_near (instr.External x) = same below
  act_near (instr.Automatic k) = same below
  act_near (instr.Text offset) = same below
  act_near (instr.Label k) = same below
  act_near instr.Load = one_near below call.operands w _ (λ x rest. same below)
  act_near instr.Store = two_near below call.operands w _ (λ x y rest. same below)
  act_near (instr.Binary op) = two_near below call.operands w _ (λ x y rest. reply_near below (operator_reply (binary_of op x y) w) (λ v w'. next image call below w (v ∷ rest) w') (λ v w'. same below))
  act_near (instr.Modify op) = two_near below call.operands w _ (λ a y rest. reply_near below (operator_reply (binary_of op (word_at w a) y) w) (λ v w'. next image call below w (v ∷ rest) (with_word w' a v)) (λ v w'. same below))
  act_near instr.Negate = one_near below call.operands w _ (λ x rest. same below)
  act_near instr.Not = one_near below call.operands w _ (λ x rest. same below)
  act_near (instr.Increment which) = one_near below call.operands w _ (λ x rest. same below)
  act_near (instr.Jump t) = same below
  act_near (instr.JumpIfZero t) = one_near below call.operands w _ (λ x rest. if_near below (x == 0) _ _ (same below) (same below))
  act_near instr.Goto = one_near below call.operands w _ (λ v rest. goto_near below (label_target call.function.first_label call.function.targets v) call rest w)
  act_near (instr.JumpIfCase value t) = one_near below call.operands w _ (λ x rest. if_near below (x == value) _ _ (same below) (same below))
  act_near (instr.Call n) = one_near below (drop n call.operands) w _ (λ callee rest. callee_near below (callee_of image.functions callee) (reverse (take n call.operands)) (at_place call (call.place + 1) rest) w)
  act_near instr.Return = one_near below call.operands w _ (λ v rest. return_near v below w)
  act_near instr.Pop = one_near below call.operands w _ (λ v rest. same below)

  if_some_near : (i : Option Instr) → Near below (act_if image call below w i)
  if_some_near (Some i) = act_near i
  if_some_near None = tt

-- as they are seen
near_seen : (functions : List Loaded) (below : List Call) (s : State) → Near below s → ((sight_of functions s).call ≡ None → ⊥) → Moves (map active_of below) (sight_of functions s).below
near_seen functions below (Running c b w) h on = h
near_seen functions below (Halted e w) h on = absurd (on refl)
near_seen functions below (Stuck w) h on = absurd (on refl)

step_moves : (image : Image) (functions : List Loaded) (s : State) → ((sight_of functions (step image s)).call ≡ None → ⊥) → Moves (sight_of functions s).below (sight_of functions (step image s)).below
step_moves image functions (Running c b w) on = near_seen functions b (step image (Running c b w)) (if_some_near image c b w (slice_get c.function.code c.place)) on
step_moves image functions (Halted e w) on = absurd (on refl)
step_moves image functions (Stuck w) on = absurd (on refl)

-- a call more, where there are more than were followed
pub begun_below : (old : List Active) (below : List Call) (caller : Active) → length old < length below → option_map active_of (slice_get below 0) ≡ Some caller → Moves old (map active_of below) → caller ∷ old ≡ map active_of below
begun_below old [] caller lt at moves = absurd (omega (arith, lt))
begun_below old (c ∷ below) caller lt at (inl e) = absurd (omega (arith, lt, ap length e, length-map below active_of))
begun_below old (c ∷ below) caller lt at (inr (inl (d, e))) =
    let same : active_of c ≡ caller = cc in
    let rest : map active_of below ≡ old = ap (drop 1) e in
    (λ i. sym same i ∷ sym rest i)
begun_below old (c ∷ below) caller lt at (inr (inr (d, e))) = absurd (omega (arith, lt, ap length e, length-map below active_of))

pub none_below : (below : List Call) → option_map active_of (slice_get below 0) ≡ None → length below ≡ 0
none_below [] at = refl
none_below (c ∷ below) at = cc

-- no call is below that of the main function, before which nothing is written
abbrev IsFirst : List Loaded → State → Type 0
IsFirst functions s = ((sight_of functions s).output ≡ []) × ((sight_of functions s).below ≡ [])

main_first : (functions : List Loaded) (refused : Option Trap) (f : Loaded) (start : ℕ) (w : World) → w.output ≡ [] → IsFirst functions (main_begun refused f start w)
main_first functions (Some trap) f start w e = (e, refl)
main_first functions None f start w e = (e, refl)

begun_first : (functions : List Loaded) (image : Image) (main : Option Loaded) (w : World) → w.output ≡ [] → IsFirst functions (machine_started image main w)
begun_first functions image None w e = (e, refl)
begun_first functions image (Some f) w e = main_first functions (refusal 0 (image.data_end + f.frame)) f image.data_end w e

-- a machine that runs is seen as a run
pub is_run : (ds : List Definition) (input : List ℕ) → IsRun (sights_of (image_of ds).functions (machine ds) input)
is_run ds input =
    let I = image_of ds in
    let w = first_world I input in
    let first = begun_first I.functions I I.main w refl in
    record {
      silent = first.0;
      alone = first.1;
      moves = λ made on.
          let next = one_more I made (machine_started I I.main w) (machine ds input made) refl in
          subst (λ (s : State). ((sight_of I.functions s).call ≡ None → ⊥) → Moves (sight_of I.functions (machine ds input made)).below (sight_of I.functions s).below) (sym next) (step_moves I I.functions (machine ds input made)) on;
    }
