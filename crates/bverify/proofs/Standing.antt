-- Each step keeps the operands of each active call at the depth of its place.
use Rattle.std.proofs.Common.{◌≡◌, ℕ, zero, suc, ◌+◌, ◌-◌, ◌≤◌, ◌<◌, List, [], ◌∷◌, ◌++◌, length, get_or, drop, take, reverse, map, Option, Some, None, Bool, true, false, cond, refl, sym, ap, ◌∙◌, subst, arith, length-drop}
use Rattle.std.specs.Prelude.{slice_get, slice_index_or, ◌==◌, if◌then◌else◌, All, filter_map, find, zip, option_and_then, option_map, nat_lt, ◌||◌, not, unwrap_or, ◌%◌, flat_map}
use Rattle.std.specs.List.{list_any}
use Rattle.std.proofs.lemmas.List.Elements.{All-head, All-tail}
use Rattle.bword.specs.Words.{binary_of, negate_of, not_of}
use Rattle.blang.specs.declared.code.Definition.{Definition}
use Rattle.blang.specs.declared.code.Definition.TheVariants as definition
use Rattle.blang.specs.declared.code.Instr.{Instr}
use Rattle.blang.specs.declared.code.Instr.TheVariants as instr
use Rattle.blang.specs.declared.run.Trap.{Trap}
use Rattle.blang.specs.declared.run.LoadFault.{LoadFault}
use Rattle.blang.specs.declared.run.LoadFault.TheVariants as fault
use Rattle.blang.specs.Layout.{label_target, World, Ending, Reply, Gives, Ends, library, Callee, NoFunction, OfLibrary, OfProgram, callee_of, refusal, first_world, is_main, load_fault, first_some, some_if, Spot, Shape, shape_of, spots_after, spot_after, word_at, with_word, stored_word, left_word, store_words, address_in, addresses, names_in, first_undefined, duplicate_after, defined_names, data_end, label_count}
use Rattle.blang.specs.declared.limits.TheConstants.{MAX_PROGRAM_LABELS}
use Rattle.blang.specs.Machine.{Loaded, Image, image_of, loaded_at, Call, fresh_call, with_operand, State, Running, Halted, Stuck, take_one, take_two, on_reply, operator_reply, at_place, returned, gone_to_place, program_function_called, callee_called, act, act_if, step, steps, main_begun, machine_started, machine, run}
use Rattle.bverify.specs.Depths.{operands_taken, operands_put, Way, way, ways, Depths, depth_at, IsDepthOf, GoesOn, Fits}
use Rattle.bverify.specs.Stands.{HasDepths, IsNeverStuck, FittingCodeIsNeverStuck}

-- a loaded function has depths that fit
abbrev pub IsFitting : Loaded → Type 0
IsFitting f = (depths : Depths) × Fits f.targets f.code depths

-- A call of such a function is at a place with this depth.
abbrev pub IsAt : Call → ℕ → Type 0
IsAt call depth = (fits : IsFitting call.function) × (depth_at fits.0 call.place ≡ Some depth)

-- A caller has one operand more when the call above it returns.
abbrev pub AwaitsOne : Call → Type 0
AwaitsOne call = IsAt call (1 + length call.operands)

abbrev pub AllAwait : List Call → Type 0
AllAwait [] = Unit {0}
AllAwait (call ∷ calls) = AwaitsOne call × AllAwait calls

abbrev pub AllFit : List Loaded → Type 0
AllFit [] = Unit {0}
AllFit (f ∷ fs) = IsFitting f × AllFit fs

-- Each active call has as many operands as its place says.
abbrev pub IsSound : State → Type 0
IsSound (Running call below w) = IsAt call (length call.operands) × AllAwait below
IsSound (Halted e w) = Unit {0}
IsSound (Stuck w) = ⊥

-- a function that can be called has depths that fit
abbrev pub IsFittingCallee : Callee Loaded → Type 0
IsFittingCallee (OfProgram f) = IsFitting f
IsFittingCallee callee = Unit {0}

callee_among : (fs : List Loaded) (k : ℕ) → AllFit fs → IsFittingCallee (slice_index_or (map OfProgram fs) k NoFunction)
callee_among [] k all = tt
callee_among (f ∷ fs) zero all = all.0
callee_among (f ∷ fs) (suc k) all = callee_among fs k all.1

callee_fits : (fs : List Loaded) (v : ℕ) → AllFit fs → IsFittingCallee (callee_of fs v)
callee_fits fs zero all = tt
callee_fits fs (suc zero) all = tt
callee_fits fs (suc (suc zero)) all = tt
callee_fits fs (suc (suc (suc zero))) all = tt
callee_fits fs (suc (suc (suc (suc zero)))) all = tt
callee_fits fs (suc (suc (suc (suc (suc zero))))) all = tt
callee_fits fs (suc (suc (suc (suc (suc (suc zero)))))) all = tt
callee_fits fs (suc (suc (suc (suc (suc (suc (suc k))))))) all = callee_among fs k all

-- a call goes on at a place of this depth
goes_to : (call : Call) (fits : IsFitting call.function) (below : List Call) (w : World) (place : ℕ) (operands : List ℕ) (depth : ℕ) → AllAwait below → depth_at fits.0 place ≡ Some depth → depth ≡ length operands → IsSound (Running (at_place call place operands) below w)
goes_to call fits below w place operands depth await at is = ((fits, at ∙ ap Some is), await)

one_sound : (operands : List ℕ) (w : World) (next : ℕ → List ℕ → State) → 1 ≤ length operands → ((x : ℕ) (rest : List ℕ) → length operands ≡ length rest + 1 → IsSound (next x rest)) → IsSound (take_one operands w next)
one_sound [] w next some h = absurd (omega (arith, some))
one_sound (x ∷ rest) w next some h = h x rest (omega arith)

two_sound : (operands : List ℕ) (w : World) (next : ℕ → ℕ → List ℕ → State) → 2 ≤ length operands → ((x y : ℕ) (rest : List ℕ) → length operands ≡ length rest + 2 → IsSound (next x y rest)) → IsSound (take_two operands w next)
two_sound [] w next some h = absurd (omega (arith, some))
two_sound (y ∷ []) w next some h = absurd (omega (arith, some))
two_sound (y ∷ x ∷ rest) w next some h = h x y rest (omega arith)

reply_sound : (r : Reply) (next : ℕ → World → State) → ((v : ℕ) (w : World) → IsSound (next v w)) → IsSound (on_reply r next)
reply_sound (Gives v w) next h = h v w
reply_sound (Ends e w) next h = tt

if_sound : (b : Bool) (s t : State) → IsSound s → IsSound t → IsSound (if b then s else t)
if_sound true s t p q = p
if_sound false s t p q = q

resumed : (caller : Call) (v : ℕ) (below : List Call) (w : World) → AwaitsOne caller → AllAwait below → IsSound (Running (with_operand caller v) below w)
resumed caller v below w one await =
    let more : 1 + length caller.operands ≡ length (v ∷ caller.operands) = omega arith in
    ((one.0, one.1 ∙ ap Some more), await)

return_sound : (v : ℕ) (below : List Call) (w : World) → AllAwait below → IsSound (returned v below w)
return_sound v [] w await = tt
return_sound v (caller ∷ below) w await = resumed caller v below w await.0 await.1

begun_sound : (r : Option Trap) (f : Loaded) (args : List ℕ) (start : ℕ) (caller : Call) (below : List Call) (w : World) → IsFitting f → AwaitsOne caller → AllAwait below → IsSound (program_function_called r f args start caller below w)
begun_sound (Some trap) f args start caller below w fits one await = tt
begun_sound None f args start caller below w fits one await = ((fits, fits.1.begins), (one, await))

called_sound : (c : Callee Loaded) (args : List ℕ) (caller : Call) (below : List Call) (w : World) → IsFittingCallee c → AwaitsOne caller → AllAwait below → IsSound (callee_called c args caller below w)
called_sound NoFunction args caller below w fits one await = tt
called_sound (OfLibrary f) args caller below w fits one await =
    reply_sound (library f args w) _ (λ v w'. resumed caller v below w' one await)
called_sound (OfProgram f) args caller below w fits one await =
    begun_sound (refusal (1 + length below) (caller.start + caller.function.frame + f.frame)) f args (caller.start + caller.function.frame) caller below w fits one await

-- a goto leads to one of the targets
target_way : (depths : Depths) (targets : List ℕ) (k t depth : ℕ) → All (IsDepthOf depths) (map (λ u. way u depth) targets) → slice_get targets k ≡ Some t → depth_at depths t ≡ Some depth
target_way depths [] k t depth all at = cc
target_way depths (u ∷ us) zero t depth all at =
    let same : u ≡ t = cc in
    subst (λ n. depth_at depths n ≡ Some depth) same (All-head (IsDepthOf depths) (way u depth) (map (λ x. way x depth) us) all)
target_way depths (u ∷ us) (suc k) t depth all at =
    target_way depths us k t depth (All-tail (IsDepthOf depths) (way u depth) (map (λ x. way x depth) us) all) at

label_way : (depths : Depths) (first : ℕ) (targets : List ℕ) (v t depth : ℕ) → All (IsDepthOf depths) (map (λ u. way u depth) targets) → label_target first targets v ≡ Some t → depth_at depths t ≡ Some depth
label_way depths first targets v t depth all =
    elim (nat_lt v first) as (λ b. cond b None (slice_get targets (v - first)) ≡ Some t → depth_at depths t ≡ Some depth) [
      | true ↦ λ e. cc
      | false ↦ λ e. target_way depths targets (v - first) t depth all e
    ]

gone_sound : (o : Option ℕ) (call : Call) (fits : IsFitting call.function) (rest : List ℕ) (below : List Call) (w : World) → AllAwait below → ((t : ℕ) → o ≡ Some t → depth_at fits.0 t ≡ Some (length rest)) → IsSound (gone_to_place o call rest below w)
gone_sound None call fits rest below w await h = tt
gone_sound (Some t) call fits rest below w await h = ((fits, h t refl), await)

module _ (image : Image) (all : AllFit image.functions) (call : Call) (fits : IsFitting call.function) (below : List Call) (await : AllAwait below) (w : World) where
  abbrev d : ℕ
  d = length call.operands

  abbrev IsWay : Way → Type 0
  IsWay = IsDepthOf fits.0

  -- goes on at the next place
  on : (depth : ℕ) (operands : List ℕ) (w' : World) → All IsWay (way (call.place + 1) depth ∷ []) → depth ≡ length operands → IsSound (Running (at_place call (call.place + 1) operands) below w')
  on depth operands w' led is =
      goes_to call fits below w' (call.place + 1) operands depth await (All-head IsWay (way (call.place + 1) depth) [] led) is

  -- with one operand more than the rest
  puts : (v : ℕ) (rest : List ℕ) (depth : ℕ) (w' : World) → All IsWay (way (call.place + 1) depth ∷ []) → depth ≡ length rest + 1 → IsSound (Running (at_place call (call.place + 1) (v ∷ rest)) below w')
  puts v rest depth w' led is = on depth (v ∷ rest) w' led (omega (arith, is))

  put_sound : (v : ℕ) → All IsWay (way (call.place + 1) (d - 0 + 1) ∷ []) → IsSound (Running (at_place call (call.place + 1) (v ∷ call.operands)) below w)
  put_sound v led = on (d - 0 + 1) (v ∷ call.operands) w led (omega arith)

  act_sound : (i : Instr) → operands_taken i ≤ d → All IsWay (ways call.function.targets i call.place d) → IsSound (act image call below w i)
  act_sound instr.Load has led =
      one_sound call.operands w _ has (λ a rest l. puts (word_at w a) rest (d - 1 + 1) w led (omega (arith, l)))
  act_sound instr.Store has led = two_sound call.operands w _ has (λ a v rest l. puts v rest (d - 2 + 1) (with_word w a v) led (omega (arith, l)))
  act_sound (instr.Binary op) has led =
      two_sound call.operands w _ has (λ x y rest l.
      reply_sound (operator_reply (binary_of op x y) w) _ (λ v w'. puts v rest (d - 2 + 1) w' led (omega (arith, l))))
  act_sound (instr.Modify op) has led =
      two_sound call.operands w _ has (λ a y rest l.
      reply_sound (operator_reply (binary_of op (word_at w a) y) w) _ (λ v w'. puts v rest (d - 2 + 1) (with_word w' a v) led (omega (arith, l))))
  act_sound instr.Negate has led =
      one_sound call.operands w _ has (λ x rest l. puts (negate_of x) rest (d - 1 + 1) w led (omega (arith, l)))
  act_sound instr.Not has led =
      one_sound call.operands w _ has (λ x rest l. puts (not_of x) rest (d - 1 + 1) w led (omega (arith, l)))
  act_sound (instr.Increment which) has led = one_sound call.operands w _ has (λ a rest l.
      puts (left_word which (word_at w a)) rest (d - 1 + 1) (with_word w a (stored_word which (word_at w a))) led (omega (arith, l)))
  act_sound (instr.Jump t) has led = goes_to call fits below w t call.operands d await (All-head IsWay (way t d) [] led) refl
  act_sound (instr.JumpIfZero t) has led =
      one_sound call.operands w _ has (λ x rest l.
      let left : d - 1 ≡ length rest = omega (arith, l) in
      if_sound (x == 0) _ _
      (goes_to call fits below w t rest (d - 1) await (All-head IsWay (way t (d - 1)) (way (call.place + 1) (d - 1) ∷ []) led) left)
      (on (d - 1) rest w (All-tail IsWay (way t (d - 1)) (way (call.place + 1) (d - 1) ∷ []) led) left))
  act_sound instr.Goto has led =
      one_sound call.operands w _ has (λ v rest l.
      let left : d - 1 ≡ length rest = omega (arith, l) in
      gone_sound (label_target call.function.first_label call.function.targets v) call fits rest below w await
      (λ t at. label_way fits.0 call.function.first_label call.function.targets v t (d - 1) led at ∙ ap Some left))
  act_sound (instr.JumpIfCase v t) has led =
      one_sound call.operands w _ has (λ x rest l.
      if_sound (x == v) _ _
      (goes_to call fits below w t rest (d - 1) await (All-head IsWay (way t (d - 1)) (way (call.place + 1) d ∷ []) led) (omega (arith, l)))
      (on d (x ∷ rest) w (All-tail IsWay (way t (d - 1)) (way (call.place + 1) d ∷ []) led) (omega (arith, l))))
  act_sound (instr.Call n) has led =
      let above : length (drop n call.operands) ≡ d - n = length-drop n call.operands in
      one_sound (drop n call.operands) w _ (omega (arith, above, has)) (λ callee rest l.
      called_sound (callee_of image.functions callee) (reverse (take n call.operands)) (at_place call (call.place + 1) rest) below w
      (callee_fits image.functions callee all)
      (let is : d - (n + 1) + 1 ≡ 1 + length rest = omega (arith, above, l) in (fits, All-head IsWay (way (call.place + 1) (d - (n + 1) + 1)) [] led ∙ ap Some is))
      await)
  act_sound instr.Return has led = one_sound call.operands w _ has (λ v rest l. return_sound v below w await)
  act_sound instr.Pop has led =
      one_sound call.operands w _ has (λ v rest l. on (d - 1 + 0) rest w led (omega (arith, l)))
  act_sound (instr.Constant n) has led = put_sound n led
  act_sound (instr.External x) has led = put_sound (unwrap_or (address_in image.addresses x) 0) led
  act_sound (instr.Automatic k) has led = put_sound ((call.start + k) % store_words) led
  act_sound (instr.Text offset) has led = put_sound ((call.function.strings + offset) % store_words) led
  act_sound (instr.Label k) has led = put_sound ((call.function.first_label + k) % store_words) led

  act_if_sound : depth_at fits.0 call.place ≡ Some d → IsSound (act_if image call below w (slice_get call.function.code call.place))
  act_if_sound at =
      let g = fits.1.goes_on call.place d at in
      subst (λ o. IsSound (act_if image call below w o)) (sym g.stands) (act_sound g.instruction g.has_operands g.leads)

step_sound : (image : Image) (s : State) → AllFit image.functions → IsSound s → IsSound (step image s)
step_sound image (Running call below w) all sound = act_if_sound image all call sound.0.0 below sound.1 w sound.0.1
step_sound image (Halted e w) all sound = tt
step_sound image (Stuck w) all sound = sound

steps_sound : (image : Image) (n : ℕ) (s : State) → AllFit image.functions → IsSound s → IsSound (steps image n s)
steps_sound image zero s all sound = sound
steps_sound image (suc n) s all sound = steps_sound image n (step image s) all (step_sound image s all sound)

functions_fit : (ss : List Spot) (ds : List Definition) → All HasDepths ds → AllFit (filter_map loaded_at (zip ss ds))
functions_fit [] ds all = tt
functions_fit (s ∷ ss) [] all = tt
functions_fit (s ∷ ss) (definition.Function f ∷ ds) all =
    (All-head HasDepths (definition.Function f) ds all, functions_fit ss ds (All-tail HasDepths (definition.Function f) ds all))
functions_fit (s ∷ ss) (definition.Simple x ∷ ds) all = functions_fit ss ds (All-tail HasDepths (definition.Simple x) ds all)
functions_fit (s ∷ ss) (definition.Vector v ∷ ds) all = functions_fit ss ds (All-tail HasDepths (definition.Vector v) ds all)

-- the main function of definitions, as it is loaded
abbrev main_after : List Shape → List Definition → Option Loaded
main_after before ds =
    option_and_then loaded_at (find (λ p. is_main p.1) (zip (spots_after before (map shape_of ds)) ds))

main_fits : (before : List Shape) (ds : List Definition) → All HasDepths ds → list_any is_main ds ≡ true → (f : Loaded) × (main_after before ds ≡ Some f) × IsFitting f
main_fits before [] all some = cc
main_fits before (definition.Function f ∷ ds) all some =
    let d = definition.Function f in
    let s = spot_after before (shape_of d) in
    let later = find (λ p. is_main p.1) (zip (spots_after (before ++ shape_of d ∷ []) (map shape_of ds)) ds) in
    elim (is_main d) as (λ b. (b || list_any is_main ds) ≡ true → (g : Loaded) × (option_and_then loaded_at (cond b (Some (s, d)) later) ≡ Some g) × IsFitting g) [
      | true ↦ λ e. (_, refl, All-head HasDepths d ds all)
      | false ↦ λ e. main_fits (before ++ shape_of d ∷ []) ds (All-tail HasDepths d ds all) e
    ] some
main_fits before (definition.Simple x ∷ ds) all some =
    main_fits (before ++ shape_of (definition.Simple x) ∷ []) ds (All-tail HasDepths (definition.Simple x) ds all) some
main_fits before (definition.Vector v ∷ ds) all some =
    main_fits (before ++ shape_of (definition.Vector v) ∷ []) ds (All-tail HasDepths (definition.Vector v) ds all) some

no_fault : (a b c : Option LoadFault) (m : Bool) → first_some (a ∷ b ∷ c ∷ some_if (not m) fault.NoMain ∷ []) ≡ None → m ≡ true
no_fault (Some a) b c m h = cc
no_fault None (Some b) c m h = cc
no_fault None None (Some c) m h = cc
no_fault None None None true h = refl
no_fault None None None false h = cc

has_main : (ds : List Definition) → load_fault ds ≡ None → list_any is_main ds ≡ true
has_main ds loads =
    let shapes = map shape_of ds in
    no_fault (option_map fault.Duplicate (duplicate_after [] (defined_names shapes)))
    (some_if (nat_lt store_words (data_end shapes) || nat_lt MAX_PROGRAM_LABELS (label_count shapes)) fault.TooLarge)
    (option_map fault.Undefined (first_undefined (address_in (addresses shapes)) (flat_map names_in ds)))
    (list_any is_main ds) loads

begins_sound : (image : Image) (r : Option Trap) (f : Loaded) (start : ℕ) (w : World) → IsFitting f → IsSound (main_begun r f start w)
begins_sound image (Some trap) f start w fits = tt
begins_sound image None f start w fits = ((fits, fits.1.begins), tt)

run_sound : (ds : List Definition) → load_fault ds ≡ None → All HasDepths ds → (input : List ℕ) (n : ℕ) → IsSound (machine ds input n)
run_sound ds loads all input n =
    let image = image_of ds in
    let m = main_fits [] ds all (has_main ds loads) in
    let w = first_world image input in
    let began : IsSound (machine_started image image.main w) = subst (λ o. IsSound (machine_started image o w)) (sym m.1) (begins_sound image (refusal 0 (image.data_end + m.0.frame)) m.0 image.data_end w m.2) in
    steps_sound image n (machine_started image image.main w) (functions_fit _ ds all) began

pub never_stuck : FittingCodeIsNeverStuck
never_stuck ds loads all input n w is = subst IsSound is (run_sound ds loads all input n)
