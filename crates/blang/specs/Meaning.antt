-- Promise: what a program means, on an input and with so much fuel: going on with the statements that remain.
use Rattle.std.specs.Prelude.{ℕ, zero, suc, ◌+◌, ◌%◌, List, [], ◌∷◌, Option, Some, None, unwrap_or, ◌==◌}
use Rattle.std.specs.Prelude.{if◌then◌else◌, map, ◌≡◌, ◌++◌}
use Rattle.blang.specs.Trees.{Declared, Heading, Auto, Stmt, Headed, Compound, If, IfElse, While, Switch, Goto, Break}
use Rattle.blang.specs.Trees.{Return, ReturnValue, Evaluate, Empty, Stmts, Nothing, More, Definition}
use Rattle.blang.specs.Code.{Environment, Referent, In_frame, Arms, default_in, code_of}
use Rattle.blang.specs.declared.run.Trap.TheVariants.{NotALabel}
use Rattle.blang.specs.Layout.{store_words, World, with_word, Exited, Trapped, refusal, Spot, laid_out, first_world}
use Rattle.blang.specs.Layout.{label_target, shape_of, is_main, load_fault}
use Rattle.blang.specs.Value.{Computation, ◌>>=◌, gives, trap, Remaining, Do, Loop_mark, Switch_mark, body_targets}
use Rattle.blang.specs.Value.{Program, environment_in, labels_of, Frame, Evaluator, Fuel, spend, is_true, value, Answer}
use Rattle.blang.specs.Value.{Gives, Ends, Wants, SourceFunction, frame_words}
use Rattle.blang.specs.declared.run.Trap.{Trap}

-- the own word of a vector is the address of the word after it
abbrev pub with_vector : Referent → Option ℕ → (start : ℕ) → World → World
with_vector (In_frame k) (Some c) start w = with_word w ((start + k) % store_words) ((start + (k + 1)) % store_words)
with_vector _ _ start w = w

abbrev pub with_vectors : Environment → List Declared → (start : ℕ) → World → World
with_vectors names [] start w = w
with_vectors names (d ∷ ds) start w = with_vectors names ds start (with_vector (names d.word.text) d.size start w)

-- control passes a heading
abbrev pub heading_passed : Heading → Frame → World → World
heading_passed (Auto declared) frame w = with_vectors (environment_in frame.function) declared frame.start w
heading_passed _ frame w = w

-- what the first case with this constant leads to, or else something other
abbrev pub case_in : ℕ → Arms Remaining → (other : Remaining) → Remaining
case_in v [] other = other
case_in v ((None, there) ∷ arms) other = case_in v arms other
case_in v ((Some x, there) ∷ arms) other = if v == x then there else case_in v arms other

-- what a switch with this value goes on with: a case, or else the default, or else what remains
abbrev pub arm_selected : ℕ → Arms Remaining → Remaining → Remaining
arm_selected v arms rest = case_in v arms (unwrap_or (default_in arms) rest)

-- a jump to a label of this function spends one fuel
abbrev pub gone_to_label : Fuel → Frame → Option Remaining → Computation ℕ
gone_to_label fuel frame None = trap NotALabel
gone_to_label fuel frame (Some there) = spend fuel (λ less. less.go_on frame there)

module _ (program : Program) (fuel : Fuel) (frame : Frame) where
  abbrev mutual
    -- Does a statement. What remains after it is kept twice: as statements, which a jump or a loop goes on with, and
    -- as what is done next, or after a break. That both come to the same is the law `statements_are_done_in_place`
    -- (`bmean`): going on with a statement is going on with what it puts in front of the rest.
    pub take_up : Stmt → Remaining → (next out : Computation ℕ) → Computation ℕ
    take_up (Headed h s) rest next out = λ w. take_up s rest next out (heading_passed h frame w)
    take_up (Compound body) rest next out = take_up_body body rest next out
    take_up (If e s) rest next out = do
      x ← value program fuel frame e
      if is_true x then take_up s rest next out else next
    take_up (IfElse e s other) rest next out = do
      x ← value program fuel frame e
      if is_true x then take_up s rest next out else take_up other rest next out
    take_up (While e s) rest next out =
        spend fuel (λ less. do
          x ← less.value frame e
          if is_true x then less.go_on frame (Do s ∷ Loop_mark ∷ Do (While e s) ∷ rest) else less.go_on frame rest)
    take_up (Switch e body) rest next out =
        spend fuel (λ less. do
          v ← less.value frame e
          less.go_on frame (arm_selected v (body_targets body (Switch_mark ∷ rest)).arms rest))
    take_up (Goto e) rest next out = do
      v ← value program fuel frame e
      gone_to_label fuel frame (label_target frame.function.first_label (labels_of frame.function) v)
    take_up (Break line) rest next out = out
    take_up Return rest next out = gives 0
    take_up (ReturnValue e) rest next out = value program fuel frame e
    take_up (Evaluate e) rest next out = value program fuel frame e >>= λ v. next
    take_up Empty rest next out = next

    pub take_up_body : Stmts → Remaining → (next out : Computation ℕ) → Computation ℕ
    take_up_body Nothing rest next out = next
    take_up_body (More before s) rest next out = take_up_body before (Do s ∷ rest) (take_up s rest next out) out

-- gives the word that the call returns, which is 0 where nothing remains
abbrev mutual
  pub go_on : Program → Fuel → Frame → Remaining → Computation ℕ
  go_on program fuel frame [] = gives 0
  go_on program fuel frame (Do s ∷ rest) =
      take_up program fuel frame s rest (go_on program fuel frame rest) (broken program fuel frame rest)
  go_on program fuel frame (Loop_mark ∷ rest) = go_on program fuel frame rest
  go_on program fuel frame (Switch_mark ∷ rest) = go_on program fuel frame rest

  -- the same after a break
  pub broken : Program → Fuel → Frame → Remaining → Computation ℕ
  broken program fuel frame [] = gives 0
  broken program fuel frame (Do s ∷ rest) = broken program fuel frame rest
  broken program fuel frame (Loop_mark ∷ []) = gives 0
  broken program fuel frame (Loop_mark ∷ item ∷ rest) = go_on program fuel frame rest
  broken program fuel frame (Switch_mark ∷ rest) = go_on program fuel frame rest

-- the evaluator with this fuel, and the fuel of so many
abbrev pub evaluator : Program → Fuel → Evaluator
evaluator program fuel = record { value = value program fuel; go_on = go_on program fuel }

abbrev pub fuel_of : Program → ℕ → Fuel
fuel_of program zero = None
fuel_of program (suc n) = Some (evaluator program (fuel_of program n))

abbrev pub function_at : Spot × Definition → Option SourceFunction
function_at (s, Definition.Function w parameters body) =
    Some (record { parameters = parameters; body = body; strings = s.strings; first_label = s.first_label })
function_at (s, d) = None

-- definitions lie as their code does
abbrev pub program_of : List Definition → Program
program_of ds = laid_out (λ d. shape_of (code_of d)) (λ d. is_main (code_of d)) function_at ds

-- a return of the main function exits with status 0
abbrev pub exited : Answer ℕ → Answer ⊥
exited (Gives v w) = Ends (Exited 0) w
exited (Ends e w) = Ends e w
exited (Wants w) = Wants w

-- the call of the main function, whose frame begins at the data end
abbrev pub main_frame : Program → SourceFunction → Frame
main_frame program f = record { function = f; start = program.data_end; active = 1 }

-- the main function begins, unless its frame has no room
abbrev pub main_meant : Option Trap → Program → SourceFunction → ℕ → World → Answer ⊥
main_meant (Some t) program f n w = Ends (Trapped t) w
main_meant None program f n w =
    exited (go_on program (fuel_of program n) (main_frame program f) (Do f.body ∷ []) w)

-- A program without a main function, which doesn't load, never ends.
abbrev pub program_meant : Program → Option SourceFunction → ℕ → World → Answer ⊥
program_meant program None n w = Wants w
program_meant program (Some f) n w = main_meant (refusal 0 (program.data_end + frame_words f)) program f n w

abbrev pub meaning : Program → List ℕ → ℕ → Answer ⊥
meaning program input n = program_meant program program.main n (first_world program input)

-- what definitions mean
abbrev pub meant : List Definition → List ℕ → ℕ → Answer ⊥
meant ds input n = meaning (program_of ds) input n

abbrev pub Loads : List Definition → Type 0
Loads ds = load_fault (map code_of ds) ≡ None

abbrev pub answer_world : Answer ⊥ → World
answer_world (Gives v w) = w
answer_world (Ends e w) = w
answer_world (Wants w) = w

abbrev pub IsBeginningOf : List ℕ → List ℕ → Type 0
IsBeginningOf xs ys = (more : List ℕ) × (xs ++ more ≡ ys)
