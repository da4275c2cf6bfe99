-- What no slice of a program gives that halts with 0 in its second step, and reads nothing.
use Rattle.std.proofs.Common.{◌≡◌, ◌∙◌, ℕ, zero, suc, ◌+◌, ◌*◌, ◌<◌, ◌≤◌, false, None, List, [], ◌∷◌, ◌++◌, Some, ap, arith, refl, subst, sym, ⊎_elim}
use Rattle.std.specs.Prelude.{slice_index}
use Rattle.blang.specs.declared.code.Instr.TheVariants as instr
use Rattle.blang.specs.declared.run.Outcome.TheVariants as outcome
use Rattle.blang.specs.Layout.{Exited}
use Rattle.blang.specs.Machine.{Halted, Image, Loaded, Running}
use Rattle.blang.specs.Reports.{AsksForByte, Shows, state_outcome}
use Rattle.bmach.specs.Slices.{after_pause}
use Rattle.bmach.specs.Steps.{world_with}
use Rattle.bmach.specs.Stepping.{Paused, machine_at, operands_held}
use Rattle.bmach.specs.Stops.{RunsCall}
use Rattle.bmach.specs.declared.machine.Active.{Active}
use Rattle.bmach.proofs.Running.{over_stays}
use Rattle.bsession.specs.Sessions.{Goes, GoesOnWithin, HoldsMore, HoldsNoMore, IsStateOf, KeepsLimits, PassesAt, SessionContinues, SessionView, WaitsAt, allowed}
use Rattle.bsession.specs.declared.session.Held.{Held}
use Rattle.bsession.specs.declared.session.Held.TheVariants as held
use Rattle.bsession.specs.declared.session.SliceEnd.TheVariants as end
use Rattle.bsession.specs.declared.session.TheConstants.{PART_STEPS}
use Rattle.bsession.proofs.HeldPages.{few_pages, no_pages, some_page}

abbrev main : Loaded
main = record {
  parameters = 0;
  frame = 0;
  targets = [];
  code = instr.Constant 0 ∷ instr.Return ∷ [];
  strings = 8;
  first_label = 1;
}

abbrev image : Image
image = record { functions = main ∷ []; main = Some main; words = []; data_end = 8; addresses = [] }

abbrev first : Paused
first = record {
  image = image;
  call = record { function = main; start = 8; place = 0; operands = [] };
  below = [];
  store = [];
}

-- after two steps and more
halts : (n : ℕ) (left written : List ℕ) → after_pause first (suc (suc n)) left written ≡ Halted (Exited 0) (world_with [] left written)
halts n left written = over_stays image n (Halted (Exited 0) (world_with [] left written)) tt

asks_never : (made : ℕ) (left written : List ℕ) → AsksForByte (after_pause first made left written) → ⊥
asks_never zero left written asks = cc
asks_never (suc zero) left written asks = cc
asks_never (suc (suc n)) left written asks =
    let halted = subst AsksForByte (halts n left written) asks in cc

-- it wants no input
pub no_input_wanted : (old new : SessionView) (n : ℕ) → SessionContinues (Goes first) old new n end.WantsInput → ⊥
no_input_wanted old new n g =
    let there = g.ends.1.0 in
    let at : IsStateOf (Goes there) (new.unread ++ []) ([] ++ g.written) (after_pause first g.made (old.unread ++ []) []) =
    subst (λ t. IsStateOf t (new.unread ++ []) ([] ++ g.written) (after_pause first g.made (old.unread ++ []) [])) g.ends.1.1 (g.comes [] [] (λ closed. refl)) in
    asks_never g.made (old.unread ++ []) [] (subst AsksForByte (sym at) (g.ends.1.2.2 (new.unread ++ []) ([] ++ g.written)))

-- it doesn't go on after its end
pub no_steps_past_the_end : (old new : SessionView) → old.steps ≡ 0 → SessionContinues (Goes first) old new 2 end.Limit → ⊥
no_steps_past_the_end old new none g =
    let there = g.ends.1.0 in
    let at : after_pause first g.made (old.unread ++ []) [] ≡ machine_at there (new.unread ++ []) ([] ++ g.written) =
    subst (λ t. IsStateOf t (new.unread ++ []) ([] ++ g.written) (after_pause first g.made (old.unread ++ []) [])) g.ends.1.1 (g.comes [] [] (λ closed. refl)) in
    let all = g.ends.0 in
    let two : g.made ≡ 2 = omega (arith, all, none) in
    let ended : Halted (Exited 0) (world_with [] (old.unread ++ []) []) ≡ machine_at there (new.unread ++ []) ([] ++ g.written) =
    ap (λ m. after_pause first m (old.unread ++ []) []) (sym two) ∙ at in
    cc

shown : (made : ℕ) (left written : List ℕ) (active : Active) (last status : ℕ) (in_left out : List ℕ) → made ≡ last + 1
    → RunsCall (after_pause first last left written) active
    → Shows (outcome.Exit status) in_left out (after_pause first made left written) → status ≡ 0
shown made left written active zero status in_left out is runs shows =
    let one : after_pause first made left written ≡ after_pause first 1 left written = ap (λ m. after_pause first m left written) is in
    let goes : outcome.Limit ≡ outcome.Exit status = sym (ap state_outcome one) ∙ shows.outcome in
    cc
shown made left written active (suc zero) status in_left out is runs shows =
    let two : after_pause first made left written ≡ after_pause first 2 left written = ap (λ m. after_pause first m left written) is in
    let exits : outcome.Exit 0 ≡ outcome.Exit status = sym (ap state_outcome two) ∙ shows.outcome in
    cc
shown made left written active (suc (suc n)) status in_left out is runs shows =
    let halted : Halted (Exited 0) (world_with [] left written) ≡ Running runs.call runs.below runs.world = sym (halts n left written) ∙ runs.state_is in
    cc

-- it halts with no other status
pub no_other_status : (old new : SessionView) (n status : ℕ) → SessionContinues (Goes first) old new n (end.Halted status) → status ≡ 0
no_other_status old new n status g =
    let over = g.ends in
    let at = subst (λ t. IsStateOf t (new.unread ++ []) ([] ++ g.written) (after_pause first g.made (old.unread ++ []) [])) over.stands (g.comes [] [] (λ closed. refl)) in
    shown g.made (old.unread ++ []) [] over.stop.call over.last status (new.unread ++ []) ([] ++ g.written) over.made_is (over.ran [] [] (λ closed. refl)).0
    (subst (λ r. Shows r (new.unread ++ []) ([] ++ g.written) (after_pause first g.made (old.unread ++ []) [])) over.outcome_is at.0)

-- it doesn't end between two looks at what it holds
pub no_end_between_looks : (old new : SessionView) (what : Held) → old.steps ≡ 0 → new.steps ≡ 1
    → SessionContinues (Goes first) old new 10 (end.Holds what) → ⊥
no_end_between_looks old new what none one g =
    let there = g.ends.0 in
    let at : after_pause first g.made (old.unread ++ []) [] ≡ machine_at there (new.unread ++ []) ([] ++ g.written) =
    subst (λ t. IsStateOf t (new.unread ++ []) ([] ++ g.written) (after_pause first g.made (old.unread ++ []) [])) g.ends.1 (g.comes [] [] (λ closed. refl)) in
    let counted = g.counted in
    let made : g.made ≡ 1 = omega (arith, counted, none, one) in
    ⊎_elim (λ (parts : (k : ℕ) × (g.made ≡ k * PART_STEPS)). let whole = parts.1 in omega (arith, whole, made))
    (⊎_elim (λ (all : g.made ≡ allowed old 10). omega (arith, all, made, none))
    (λ (waits : WaitsAt new there). asks_never g.made (old.unread ++ []) [] (subst AsksForByte (sym at) (waits.2 (new.unread ++ []) ([] ++ g.written)))))
    g.ends.2

-- a pause with three operands, two of the running call and one of the call below
abbrev three : Paused
three = record first { call = record { function = main; start = 8; place = 0; operands = 1 ∷ 2 ∷ [] }; below = record { function = main; start = 8; place = 0; operands = 3 ∷ [] } ∷ [] }

none_of : (n : ℕ) → (0 < n → ⊥) → n ≡ 0
none_of zero none = refl
none_of (suc n) none = absurd (none (omega arith))

abbrev holds : (operands output : ℕ) → SessionView
holds operands output = record {
  state = Goes three;
  unread = [];
  is_closed = false;
  output = 97 ∷ 98 ∷ [];
  steps = 0;
  limits = record { operands = operands; pages = 256; output = output };
}

pub all_are_held : operands_held three ≡ 3
all_are_held = refl

-- it ends for what it holds more of than it may, and not for what it holds no more of
pub operands_within : KeepsLimits (holds 2 2) end.Limit → ⊥
operands_within keeps = let few = keeps.operands in omega (arith, few)

pub output_within : KeepsLimits (holds 3 1) end.WantsInput → ⊥
output_within keeps = let few = keeps.output in omega (arith, few)

-- and makes no step where it holds more of it
pub no_step_over_operands : (new : SessionView) → GoesOnWithin (Goes three) (holds 2 2) new → new.steps ≡ 0
no_step_over_operands new within = none_of new.steps (λ some. let few = (within 0 some [] (λ closed. refl)).operands in omega (arith, few))

pub no_step_over_output : (new : SessionView) → GoesOnWithin (Goes three) (holds 3 1) new → new.steps ≡ 0
no_step_over_output new within = none_of new.steps (λ some. let few = (within 0 some [] (λ closed. refl)).output in omega (arith, few))

pub no_stop_for_operands : KeepsLimits (holds 3 0) (end.Holds held.Operands) → ⊥
no_stop_for_operands more = omega (arith, more)

pub no_stop_for_output : KeepsLimits (holds 0 2) (end.Holds held.Output) → ⊥
no_stop_for_output more = omega (arith, more)

-- a session with another word than 0 has a page
pub pages_within : (p : Paused) (h : SessionView) (address : ℕ) → h.state ≡ Goes p → address < 65536
    → (slice_index p.store address ≡ 0 → ⊥) → h.limits.pages ≡ 0 → KeepsLimits h end.Limit → ⊥
pages_within p h address stands below some none keeps =
    let holds : HoldsNoMore p h = subst (λ t. PassesAt t h None) stands keeps in
    let few = holds.pages in
    let more = some_page p.store 256 address (omega (arith, below)) some in
    omega (arith, few, none, more)

-- and makes no step where it may have none
pub no_step_over_pages : (h new : SessionView) → h.limits.pages ≡ 0 → h.is_closed ≡ false → h.steps ≡ 0
    → GoesOnWithin (Goes (record three { store = 5 ∷ [] })) h new → new.steps ≡ 0
no_step_over_pages h new none is_open first within = none_of new.steps (λ some.
    let few = (within 0 (omega (arith, some, first)) [] (λ closed. refl)).pages in
    let more = some_page (5 ∷ []) 256 0 (omega arith) (λ blank. omega (arith, blank)) in
    omega (arith, few, none, more))

-- where all words are 0 it ends for no page, whatever it may have
pub no_stop_for_zeros : (p : Paused) (h : SessionView) → h.state ≡ Goes p → ((address : ℕ) → slice_index p.store address ≡ 0)
    → KeepsLimits h (end.Holds held.Pages) → ⊥
no_stop_for_zeros p h stands blank stops =
    let more : HoldsMore p h held.Pages = subst (λ t. PassesAt t h (Some held.Pages)) stands stops in
    let none = no_pages p.store 256 blank in
    omega (arith, more, none)

-- and none has more than 256
pub no_stop_for_pages : (p : Paused) (h : SessionView) → h.state ≡ Goes p → 256 ≤ h.limits.pages
    → KeepsLimits h (end.Holds held.Pages) → ⊥
no_stop_for_pages p h stands all stops =
    let more : HoldsMore p h held.Pages = subst (λ t. PassesAt t h (Some held.Pages)) stands stops in
    let few = few_pages p.store 256 in
    omega (arith, few, more, all)

-- it isn't lost where all its steps are counted
pub not_lost_at_the_end : (p : Paused) (old new : SessionView) (n : ℕ) → new.steps ≡ old.steps + allowed old n
    → SessionContinues (Goes p) old new n end.Memory → ⊥
not_lost_at_the_end p old new n all lost =
    let few = lost.counted.1 in let counted = lost.counted.2 in omega (arith, all, few, counted)
