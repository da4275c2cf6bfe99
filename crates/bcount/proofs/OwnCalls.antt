-- Each call that runs is one of a function of the program.
use Rattle.std.proofs.Common.{◌≡◌, ℕ, zero, suc, ◌+◌, Bool, true, false, cond, List, [], ◌∷◌, Option, Some, None, arith, drop, length, map, refl, reverse, take}
use Rattle.std.specs.Prelude.{find, filter_map, option_and_then, slice_index_or, zip, ◌==◌}
use Rattle.std.specs.List.{All, Contains, cons_option}
use Rattle.std.proofs.lemmas.List.Elements.{All-contains_itself, All-cons, All-head, All-nil, All-tail}
use Rattle.bword.specs.Words.{binary_of}
use Rattle.blang.specs.declared.code.Definition.{Definition}
use Rattle.blang.specs.declared.code.Instr.{Instr}
use Rattle.blang.specs.declared.code.Instr.TheVariants as instr
use Rattle.blang.specs.declared.run.Trap.{Trap}
use Rattle.blang.specs.Layout.{Callee, Ends, Gives, NoFunction, OfLibrary, OfProgram, Reply, World, callee_of, first_world, is_main, label_target, library, refusal, shape_of, spots, word_at}
use Rattle.blang.specs.Machine.{Call, Halted, Image, Loaded, Running, State, Stuck, act, act_if, at_place, callee_called, gone_to_place, image_of, loaded_at, machine, machine_started, main_begun, on_reply, operator_reply, program_function_called, returned, step, steps, take_one, take_two}
use Rattle.std.specs.Prelude.{slice_get}

module _ (functions : List Loaded) where
  -- a function of the program
  abbrev IsOurs : Loaded → Type 0
  IsOurs f = Contains functions f

  abbrev IsOursCall : Call → Type 0
  IsOursCall c = IsOurs c.function

  -- the functions of the call that runs and of those below it
  abbrev pub AreOurs : State → Type 0
  AreOurs (Running call below w) = IsOursCall call × All IsOursCall below
  AreOurs (Halted e w) = Unit {0}
  AreOurs (Stuck w) = Unit {0}

  on_one : (operands : List ℕ) (w : World) (next : ℕ → List ℕ → State) → ((x : ℕ) (rest : List ℕ) → AreOurs (next x rest)) → AreOurs (take_one operands w next)
  on_one [] w next h = tt
  on_one (x ∷ rest) w next h = h x rest

  on_two : (operands : List ℕ) (w : World) (next : ℕ → ℕ → List ℕ → State) → ((x y : ℕ) (rest : List ℕ) → AreOurs (next x y rest)) → AreOurs (take_two operands w next)
  on_two [] w next h = tt
  on_two (y ∷ []) w next h = tt
  on_two (y ∷ x ∷ rest) w next h = h x y rest

  on_a_reply : (r : Reply) (next : ℕ → World → State) → ((v : ℕ) (w : World) → AreOurs (next v w)) → AreOurs (on_reply r next)
  on_a_reply (Gives v w) next h = h v w
  on_a_reply (Ends e w) next h = tt

  on_a_test : (b : Bool) (s t : State) → AreOurs s → AreOurs t → AreOurs (cond b s t)
  on_a_test true s t h k = h
  on_a_test false s t h k = k

  on_a_target : (t : Option ℕ) (c : Call) (rest : List ℕ) (below : List Call) (w : World) → IsOursCall c → All IsOursCall below → AreOurs (gone_to_place t c rest below w)
  on_a_target (Some t) c rest below w h k = (h, k)
  on_a_target None c rest below w h k = tt

  on_return : (v : ℕ) (below : List Call) (w : World) → All IsOursCall below → AreOurs (returned v below w)
  on_return v [] w h = tt
  on_return v (c ∷ below) w h = (All-head IsOursCall c below h, All-tail IsOursCall c below h)

  on_entry : (t : Option Trap) (f : Loaded) (args : List ℕ) (start : ℕ) (c : Call) (below : List Call) (w : World) → IsOurs f → IsOursCall c → All IsOursCall below → AreOurs (program_function_called t f args start c below w)
  on_entry (Some t) f args start c below w ours h k = tt
  on_entry None f args start c below w ours h k = (ours, All-cons IsOursCall c below h k)

  -- what is called is of the library, or one of the functions
  IsKnown : Callee Loaded → Type 0
  IsKnown NoFunction = Unit {0}
  IsKnown (OfLibrary f) = Unit {0}
  IsKnown (OfProgram f) = IsOurs f

  known_among : (fs : List Loaded) → All IsOurs fs → (k : ℕ) → IsKnown (slice_index_or (map OfProgram fs) k NoFunction)
  unfolding IsKnown
  known_among [] all k = tt
  known_among (f ∷ fs) all zero = All-head IsOurs f fs all
  known_among (f ∷ fs) all (suc k) = known_among fs (All-tail IsOurs f fs all) k

  known : (v : ℕ) → IsKnown (callee_of functions v)
  unfolding IsKnown
  known zero = tt
  known (suc zero) = tt
  known (suc (suc zero)) = tt
  known (suc (suc (suc zero))) = tt
  known (suc (suc (suc (suc zero)))) = tt
  known (suc (suc (suc (suc (suc zero))))) = tt
  known (suc (suc (suc (suc (suc (suc zero)))))) = tt
  known (suc (suc (suc (suc (suc (suc (suc k))))))) = known_among functions (All-contains_itself functions) k

  on_a_call : (f : Callee Loaded) → IsKnown f → (args : List ℕ) (c : Call) (below : List Call) (w : World) → IsOursCall c → All IsOursCall below → AreOurs (callee_called f args c below w)
  unfolding IsKnown
  on_a_call NoFunction is args c below w h k = tt
  on_a_call (OfLibrary f) is args c below w h k = on_a_reply (library f args w) _ (λ v w'. (h, k))
  on_a_call (OfProgram f) is args c below w h k =
      let start = c.start + c.function.frame in
      on_entry (refusal (1 + length below) (start + f.frame)) f args start c below w is h k

module _ (image : Image) where
  abbrev Ours : State → Type 0
  Ours = AreOurs image.functions

  module _ (call : Call) (below : List Call) (w : World) (h : Ours (Running call below w)) where
    acts : (i : Instr) → Ours (act image call below w i)
    acts (instr.Constant n) = h
    acts (instr.External x) = h
    acts (instr.Automatic k) = h
    acts (instr.Text offset) = h
    acts (instr.Label k) = h
    acts instr.Load = on_one image.functions call.operands w _ (λ a rest. h)
    acts instr.Store = on_two image.functions call.operands w _ (λ a v rest. h)
    acts (instr.Binary op) = on_two image.functions call.operands w _ (λ x y rest. on_a_reply image.functions (operator_reply (binary_of op x y) w) _ (λ v w'. h))
    acts (instr.Modify op) = on_two image.functions call.operands w _ (λ a y rest. on_a_reply image.functions (operator_reply (binary_of op (word_at w a) y) w) _ (λ v w'. h))
    acts instr.Negate = on_one image.functions call.operands w _ (λ x rest. h)
    acts instr.Not = on_one image.functions call.operands w _ (λ x rest. h)
    acts (instr.Increment which) = on_one image.functions call.operands w _ (λ a rest. h)
    acts (instr.Jump t) = h
    acts (instr.JumpIfZero t) = on_one image.functions call.operands w _ (λ x rest. on_a_test image.functions (x == 0) _ _ h h)
    acts instr.Goto = on_one image.functions call.operands w _ (λ v rest. on_a_target image.functions (label_target call.function.first_label call.function.targets v) call rest below w h.0 h.1)
    acts (instr.JumpIfCase value t) = on_one image.functions call.operands w _ (λ x rest. on_a_test image.functions (x == value) _ _ h h)
    acts (instr.Call n) =
        on_one image.functions (drop n call.operands) w _ (λ v rest. on_a_call image.functions (callee_of image.functions v) (known image.functions v) (reverse (take n call.operands)) (at_place call (call.place + 1) rest) below w h.0 h.1)
    acts instr.Return = on_one image.functions call.operands w _ (λ v rest. on_return image.functions v below w h.1)
    acts instr.Pop = on_one image.functions call.operands w _ (λ v rest. h)

    acts_if : (o : Option Instr) → Ours (act_if image call below w o)
    acts_if None = tt
    acts_if (Some i) = acts i

  stepped : (s : State) → Ours s → Ours (step image s)
  stepped (Running call below w) h = acts_if call below w h (slice_get call.function.code call.place)
  stepped (Halted e w) h = tt
  stepped (Stuck w) h = tt

  pub kept : (n : ℕ) (s : State) → Ours s → Ours (steps image n s)
  kept zero s h = h
  kept (suc n) s h = kept n (step image s) (stepped s h)

  begun : (t : Option Trap) (f : Loaded) (w : World) → Contains image.functions f → Ours (main_begun t f image.data_end w)
  begun (Some t) f w is = tt
  begun None f w is = (is, All-nil (λ (c : Call). Contains image.functions c.function))

  pub started : (main : Option Loaded) (w : World) → ((f : Loaded) → main ≡ Some f → Contains image.functions f) → Ours (machine_started image main w)
  started None w h = tt
  started (Some f) w h = begun (refusal 0 (image.data_end + f.frame)) f w (h f refl)

-- what comes of the first element that passes is among what comes of all
module _ {A B : Type 0} (h : A → Option B) (p : A → Bool) where
  pub among : (xs : List A) (y : B) → option_and_then h (find p xs) ≡ Some y → Contains (filter_map h xs) y
  among [] y e = cc
  among (x ∷ xs) y e = by (among xs y) (p x) (h x) refl e
    where
      by : (option_and_then h (find p xs) ≡ Some y → Contains (filter_map h xs) y) → (b : Bool) (o : Option B) → h x ≡ o → option_and_then h (cond b (Some x) (find p xs)) ≡ Some y → Contains (cons_option o (filter_map h xs)) y
      by later true (Some z) is e = let same : z ≡ y = cc in (0, omega arith, same)
      by later true None is e = cc
      by later false (Some z) is e = let c = later e in let lt = c.1 in (suc c.0, omega (arith, lt), c.2)
      by later false None is e = later e

-- the state after so many steps
pub ours_at : (ds : List Definition) (input : List ℕ) (n : ℕ) → AreOurs (image_of ds).functions (machine ds input n)
ours_at ds input n =
    let image = image_of ds in
    let w = first_world image input in
    let main = λ (f : Loaded) (e : image.main ≡ Some f). among loaded_at (λ p. is_main p.1) (zip (spots (map shape_of ds)) ds) f e in
    kept image n (machine_started image image.main w) (started image image.main w main)
