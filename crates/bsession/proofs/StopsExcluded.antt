-- What no slice with stops gives: a step past a stop, a stop where there is none, an end for what isn't held, or a step
-- where too much is.
use Rattle.std.proofs.Common.{◌≡◌, ◌∙◌, ℕ, zero, suc, false, true, None, List, [], ◌∷◌, ◌++◌, Some, ap, arith, refl, subst, sym}
use Rattle.blang.specs.declared.code.Instr.TheVariants as instr
use Rattle.blang.specs.Machine.{Call, Image, Loaded, Running, State}
use Rattle.bmach.specs.Slices.{after_pause}
use Rattle.bmach.specs.Stepping.{Paused, machine_at}
use Rattle.bsession.specs.Sessions.{Goes, IsStateOf, Lost, Over, PassesAt, SessionContinues, SessionState, SessionView, SliceMade}
use Rattle.bsession.specs.Stops.{GoesBy, StopSet, Walks, WalksTo, stops_before, stops_in}
use Rattle.bsession.specs.declared.session.Held.{Held}
use Rattle.bsession.specs.declared.session.Held.TheVariants as held
use Rattle.bsession.specs.declared.session.SliceEnd.TheVariants as end
use Rattle.bsession.specs.declared.session.StopEnd.TheVariants as stop_end

both : (h : SessionView) (state : SessionState) (what : Held) → PassesAt state h None → PassesAt state h (Some what) → ⊥
both h (Goes p) held.Operands few more = let few = few.operands in omega (arith, few, more)
both h (Goes p) held.Pages few more = let few = few.pages in omega (arith, few, more)
both h (Goes p) held.Output few more = let few = few.output in omega (arith, few, more)
both h (Over stop p) what few more = cc
both h Lost what few more = cc

-- it ends for nothing that it holds no more of than it may, as one that makes no step would
pub no_end_for_nothing : (stops : StopSet) (old new : SessionView) (n : ℕ) (what : Held) → PassesAt new.state new None
    → WalksTo stops old new n (stop_end.Ended (end.Holds what)) → ⊥
no_end_for_nothing stops old new n what few walks = both new new.state what few walks.5.1

-- where it holds more than it may, it stops at no stop, nor at its last step
pub no_stop_over_limits : (stops : StopSet) (old new : SessionView) (n : ℕ) (what : Held) → PassesAt new.state new (Some what)
    → WalksTo stops old new n stop_end.Stopped → ⊥
no_stop_over_limits stops old new n what more walks = both new new.state what walks.2.3.1 more

pub no_limit_over_limits : (stops : StopSet) (old new : SessionView) (n : ℕ) (what : Held) → PassesAt new.state new (Some what)
    → WalksTo stops old new (suc n) (stop_end.Ended end.Limit) → ⊥
no_limit_over_limits stops old new n what more walks = both new new.state what walks.0.3.1 more

-- it stops at no other step than one before which it is to stop
pub no_stop_elsewhere : (stops : StopSet) (old new : SessionView) (n : ℕ) → stops_in stops new.state ≡ false
    → WalksTo stops old new n stop_end.Stopped → ⊥
no_stop_elsewhere stops old new n none walks = let there = walks.3 in cc

-- a program of four steps, before its first one, and a breakpoint at the second one
abbrev main : Loaded
main = record {
  parameters = 0;
  frame = 0;
  targets = [];
  code = instr.Constant 0 ∷ instr.Constant 1 ∷ instr.Constant 2 ∷ instr.Return ∷ [];
  strings = 8;
  first_label = 1;
}

abbrev image : Image
image = record { functions = main ∷ []; main = Some main; words = []; data_end = 8; addresses = [] }

abbrev call_at : (place : ℕ) → List ℕ → Call
call_at place operands = record { function = main; start = 8; place = place; operands = operands }

abbrev first : Paused
first = record { image = image; call = call_at 0 []; below = []; store = [] }

abbrev second : StopSet
second = record { places = record { strings = 8; place = 1 } ∷ []; near = []; callers = 0; returned = 0; words = [] }

abbrev call_of : State → Call
call_of (Running call below w) = call
call_of other = call_at 0 []

abbrev below_of : State → List Call
below_of (Running call below w) = below
below_of other = []

stops_second : (p : Paused) → p.call ≡ call_at 1 (0 ∷ []) → p.below ≡ [] → stops_before second p ≡ true
stops_second p call below = rw (call, below) refl

after_one : (old new : SessionView) → old.state ≡ Goes first → old.steps ≡ 0
    → SessionContinues old.state old new 1 end.Limit → (new.steps ≡ 1) × (stops_in second new.state ≡ true)
after_one old new stands none goes =
    let g : SliceMade first old new 1 end.Limit = subst (λ t. SessionContinues t old new 1 end.Limit) stands goes in
    let all = g.ends.0 in
    let one : g.made ≡ 1 = omega (arith, all, none) in
    let counted = g.counted in
    let there = g.ends.1.0 in
    let at : after_pause first g.made (old.unread ++ []) [] ≡ machine_at there (new.unread ++ []) ([] ++ g.written) =
    subst (λ t. IsStateOf t (new.unread ++ []) ([] ++ g.written) (after_pause first g.made (old.unread ++ []) [])) g.ends.1.1 (g.comes [] [] (λ closed. refl)) in
    let next : after_pause first 1 (old.unread ++ []) [] ≡ machine_at there (new.unread ++ []) ([] ++ g.written) =
    ap (λ m. after_pause first m (old.unread ++ []) []) (sym one) ∙ at in (
      omega (arith, counted, one, none),
      ap (stops_in second) g.ends.1.1 ∙ stops_second there (sym (ap call_of next)) (sym (ap below_of next)),
    )

module _ (old : SessionView) (stands : old.state ≡ Goes first) (none : old.steps ≡ 0) where
  one_made : (mid new : SessionView) → mid ≡ old → SessionContinues mid.state mid new 1 end.Limit
      → (new.steps ≡ 1) × (stops_in second new.state ≡ true)
  one_made mid new same goes =
      after_one old new stands none (subst (λ h. SessionContinues h.state h new 1 end.Limit) same goes)

  passes_never : (k : ℕ) (mid : SessionView) → Walks second old mid (suc k) → GoesBy second (suc k) mid → ⊥
  passes_never zero mid walks goes = let there = (one_made walks.0 mid walks.1 walks.3.0).1 in cc
  passes_never (suc k) mid walks goes = passes_never k walks.0 walks.1 walks.2

  stops_after : (made : ℕ) (new : SessionView) → Walks second old new (suc made) → new.steps ≡ 1
  stops_after zero new walks = (one_made walks.0 new walks.1 walks.3.0).0
  stops_after (suc k) new walks = absurd (passes_never k walks.0 walks.1 walks.2)

  -- it stops before the second step: no step earlier and none later, and it doesn't go on
  pub stops_there : (new : SessionView) (n : ℕ) → WalksTo second old new n stop_end.Stopped → new.steps ≡ 1
  stops_there new n walks = stops_after walks.0 new walks.2

  pub goes_no_further : (new : SessionView) (n : ℕ) → WalksTo second old new (suc n) (stop_end.Ended end.Limit) → ⊥
  goes_no_further new n walks = passes_never n new walks.0 walks.1
