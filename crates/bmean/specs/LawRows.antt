-- Closed facts: what the laws exclude, and what they still allow at their limits: states and answers, by their numbers.
use Rattle.std.specs.Prelude.{◌≡◌, ℕ, zero, suc, ◌≤◌, ◌+◌, List, [], ◌∷◌, length, map}
use Rattle.std.proofs.Common.{arith, refl, sym, ap, ◌∙◌}
use Rattle.blang.specs.Trees.{Empty, Break, While, Literal, Number, Nothing, More}
use Rattle.blang.specs.Layout.{World, Exited}
use Rattle.blang.specs.Machine.{Call, State, Running, Halted, Stuck, state_world}
use Rattle.blang.specs.Value.{Answer, Gives, Ends, Wants, Item, Do, Loop_mark, Switch_mark}
use Rattle.blang.specs.Meaning.{answer_world}
use Rattle.blang.specs.Headline.{Agrees, AsMeant}
use Rattle.bmean.specs.Laws.{HaltsAsMeant, MeantIsDone, NeverStuck, WritesAsMeant, WantsAsItRuns, RunsWithoutEnd}
use Rattle.bmean.specs.Sentences.{in_front, after_break}

abbrev written : List ℕ → World
written bytes = record { store = []; input = []; output = bytes }

abbrev main : Call
main = record {
  function = record { parameters = 0; frame = 0; targets = []; code = []; strings = 0; first_label = 0 };
  start = 0;
  place = 0;
  operands = [];
}

abbrev runs_on : ℕ → State
runs_on n = Running main [] (written [])

abbrev halted_at_once : ℕ → State
halted_at_once n = Halted (Exited 0) (written [])

-- halts at its first step
abbrev one_step : ℕ → State
one_step zero = Running main [] (written [])
one_step (suc n) = Halted (Exited 0) (written [])

abbrev ends_at_once : ℕ → Answer ⊥
ends_at_once n = Ends (Exited 0) (written [])

abbrev wants_always : ℕ → Answer ⊥
wants_always n = Wants (written [])

-- ends with one fuel
abbrev one_fuel : ℕ → Answer ⊥
one_fuel zero = Wants (written [])
one_fuel (suc n) = Ends (Exited 0) (written [])

abbrev kind : Answer ⊥ → ℕ
kind (Gives v w) = 0
kind (Ends e w) = 1
kind (Wants w) = 2

abbrev state_kind : State → ℕ
state_kind (Running call below w) = 0
state_kind (Halted e w) = 1
state_kind (Stuck w) = 2

-- the end of a state that has halted
abbrev end_of : State → Answer ⊥
end_of (Running call below w) = Wants w
end_of (Halted e w) = Ends e w
end_of (Stuck w) = Wants w

-- a halt is an end with one fuel more, and may want that
pub halt_without_end : HaltsAsMeant halted_at_once wants_always → ⊥
halt_without_end law = let same : 2 ≡ 1 = ap kind (law 0 (Exited 0) (written []) refl) in omega (arith, same)

with_fuel : (n : ℕ) → 1 ≤ n → one_fuel n ≡ Ends (Exited 0) (written [])
with_fuel zero some = absurd (omega (arith, some))
with_fuel (suc n) some = refl

pub halt_by_one_fuel : HaltsAsMeant halted_at_once one_fuel
halt_by_one_fuel n e w halted = with_fuel (n + 1) (omega arith) ∙ ap end_of halted

-- an end is a halt at some step, which may be another than the fuel
pub end_without_halt : MeantIsDone runs_on ends_at_once → ⊥
end_without_halt law =
    let done = law 0 (Exited 0) (written []) refl in
    let same : 0 ≡ 1 = ap state_kind done.1 in
    omega (arith, same)

pub stuck_at_a_step : NeverStuck (λ n. Stuck (written [])) wants_always → ⊥
stuck_at_a_step law = law 0 (written []) refl

pub halts_unstuck : NeverStuck halted_at_once wants_always
halts_unstuck n w stuck = let same : 1 ≡ 2 = ap state_kind stuck in omega (arith, same)

-- what was written before comes first, and more may follow
pub writes_past_its_meaning : WritesAsMeant (λ n. Running main [] (written (1 ∷ []))) wants_always → ⊥
writes_past_its_meaning law =
    let begins = law 0 main [] (written (1 ∷ [])) refl in
    let lengths : suc (length begins.0) ≡ 0 = ap length begins.1 in
    omega (arith, lengths)

-- a state that has halted agrees with the same end alone, one that runs with all that goes on so, and a stuck one never
pub ends_alike : Agrees (Halted (Exited 0) (written [])) (Ends (Exited 0) (written []))
ends_alike = refl

pub halts_and_wants : Agrees (Halted (Exited 0) (written [])) (Wants (written [])) → ⊥
halts_and_wants agrees = let same : 2 ≡ 1 = ap kind agrees in omega (arith, same)

pub writes_less : Agrees (Running main [] (written [])) (Wants (written (1 ∷ [])))
writes_less = (1 ∷ [], refl)

pub writes_more : Agrees (Running main [] (written (1 ∷ []))) (Wants (written [])) → ⊥
writes_more begins = let lengths : suc (length begins.0) ≡ 0 = ap length begins.1 in omega (arith, lengths)

pub stuck_agrees : Agrees (Stuck (written [])) (Wants (written [])) → ⊥
stuck_agrees agrees = agrees

-- where fuel is wanted, as many steps at least are made
runs_later : (m : ℕ) → 1 ≤ m → state_kind (one_step m) ≡ 0 → ⊥
runs_later zero some kind_is = omega (arith, some)
runs_later (suc m) some kind_is = omega (arith, kind_is)

pub wants_past_its_halt : WantsAsItRuns one_step wants_always → ⊥
wants_past_its_halt law = let runs = law 1 (written []) refl in runs_later runs.0 runs.3 (ap state_kind runs.4)

-- A machine does what is meant only if it writes what is written with any fuel, which may be later, and doesn't halt.
abbrev writes_one : ℕ → List ℕ
writes_one zero = []
writes_one (suc n) = 1 ∷ []

abbrev wants_writing : ℕ → Answer ⊥
wants_writing n = Wants (written (writes_one n))

pub silent_while_meant : AsMeant runs_on wants_writing → ⊥
silent_while_meant means =
    let runs = means.keeps_up 1 (written (1 ∷ [])) refl in
    let lengths : 0 ≡ 1 = ap (λ s. length (state_world s).output) runs.4 in
    omega (arith, lengths)

pub halts_while_meant : AsMeant one_step wants_always → ⊥
halts_while_meant means =
    let runs = means.keeps_up 1 (written []) refl in runs_later runs.0 runs.3 (ap state_kind runs.4)

abbrev writes_late : ℕ → State
writes_late zero = Running main [] (written [])
writes_late (suc n) = Running main [] (written (writes_one n))

with_some : (n : ℕ) → 1 ≤ n → writes_one n ≡ 1 ∷ []
with_some zero some = absurd (omega (arith, some))
with_some (suc n) some = refl

begins_late : (n : ℕ) → Agrees (writes_late n) (wants_writing (n + 1))
begins_late zero = (1 ∷ [], refl)
begins_late (suc zero) = (1 ∷ [], refl)
begins_late (suc (suc n)) = ([], sym (with_some (suc (suc n) + 1) (omega arith)))

pub late_while_meant : AsMeant writes_late wants_writing
late_while_meant = record {
  agrees = begins_late;
  keeps_up = λ n w wants. (suc n, main, [], omega arith, ap (λ a. Running main [] (answer_world a)) wants);
  done = λ n e w ends. let same : 2 ≡ 1 = ap kind ends in absurd (omega (arith, same));
}

-- want of fuel at each number is a run without end, at one it isn't
pub wants_and_halts : RunsWithoutEnd halted_at_once wants_always → ⊥
wants_and_halts law = law (λ n. (written [], refl)) 0 (Exited 0) (written []) refl

pub wants_once_and_halts : RunsWithoutEnd halted_at_once one_fuel
wants_once_and_halts wants n e w halted = let same : 1 ≡ 2 = ap kind (wants 1).1 in omega (arith, same)

-- a break drops all before the first mark, and the while after a loop's
abbrev ended : Item
ended = Do (Break 1)

abbrev loop : Item
loop = Do (While (Literal (Number 1)) Empty)

pub breaks : map after_break (
    (ended ∷ Loop_mark ∷ loop ∷ Do Empty ∷ Switch_mark ∷ []) ∷ (ended ∷ Switch_mark ∷ loop ∷ Do Empty ∷ [])
    ∷ (Do Empty ∷ []) ∷ (Loop_mark ∷ []) ∷ (Switch_mark ∷ Loop_mark ∷ []) ∷ []
    ) ≡ (Do Empty ∷ Switch_mark ∷ []) ∷ (loop ∷ Do Empty ∷ []) ∷ [] ∷ [] ∷ (Loop_mark ∷ []) ∷ []
breaks = refl

-- the statements of a body come in their order
pub body_in_order : in_front (More (More Nothing Empty) (Break 1)) (Loop_mark ∷ [])
    ≡ Do Empty ∷ Do (Break 1) ∷ Loop_mark ∷ []
body_in_order = refl
