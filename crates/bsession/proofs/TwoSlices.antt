-- Two slices and one of as many steps leave the same.
use Rattle.std.proofs.Common.{◌≡◌, ◌∙◌, ℕ, ◌+◌, ◌≤◌, List, [], ◌++◌, append-nil, append_assoc, ap, arith, refl, subst, sym}
use Rattle.bword.specs.ByteEnds.{most}
use Rattle.blang.specs.Machine.{Halted, Running, State, Stuck, state_world, steps}
use Rattle.bmach.specs.Slices.{after_pause}
use Rattle.bmach.specs.Steps.{world_with}
use Rattle.bmach.specs.Stepping.{Paused, machine_at}
use Rattle.bmach.specs.declared.advance.TheConstants.{MOST_STEPS}
use Rattle.bmach.proofs.Running.{steps_add}
use Rattle.bsession.specs.Sessions.{SessionContinues, SliceMade, SessionView, IsStateOf, HasImage}
use Rattle.bsession.specs.SessionRuns.{AreAlike, TwoAreOne}
use Rattle.bsession.specs.declared.session.SliceEnd.TheVariants as end

-- a state without its input and its output
abbrev bare : State → State
bare (Running call below w) = Running call below (world_with w.store [] [])
bare (Halted e w) = Halted e w
bare (Stuck w) = Stuck w

-- where a session goes on after a slice whose steps were all made
slice_at : (p : Paused) (old new : SessionView) (n : ℕ) (g : SliceMade p old new n end.Limit) (before : List ℕ)
    → machine_at g.ends.1.0 (new.unread ++ []) (before ++ g.written) ≡ after_pause p g.made (old.unread ++ []) before
slice_at p old new n g before =
    sym (subst (λ t. IsStateOf t (new.unread ++ []) (before ++ g.written) (after_pause p g.made (old.unread ++ []) before))
    g.ends.1.1 (g.comes [] before (λ closed. refl)))

of_slice : (p : Paused) (old new : SessionView) (n : ℕ) (g : SliceMade p old new n end.Limit) → g.ends.1.0.image ≡ p.image
of_slice p old new n g = subst (HasImage p.image) g.ends.1.1 g.image

module _ (old between two one : SessionView) (p : Paused) (n k : ℕ) (few : n + k ≤ MOST_STEPS) (within : old.steps + (n + k) ≤ most)
    (g : SliceMade p old between n end.Limit) (h : SliceMade g.ends.1.0 between two k end.Limit)
    (o : SliceMade p old one (n + k) end.Limit) where
  made_first : g.made ≡ n
  made_first = let all = g.ends.0 in omega (arith, all, few, within)

  made_next : h.made ≡ k
  made_next = let all = h.ends.0 in let counted = g.counted in omega (arith, all, counted, made_first, few, within)

  made_at_once : o.made ≡ n + k
  made_at_once = let all = o.ends.0 in omega (arith, all, few, within)

  there : machine_at h.ends.1.0 (two.unread ++ []) (([] ++ g.written) ++ h.written)
      ≡ machine_at o.ends.1.0 (one.unread ++ []) ([] ++ o.written)
  there =
      slice_at g.ends.1.0 between two k h ([] ++ g.written)
      ∙ ap (λ m. after_pause g.ends.1.0 m (between.unread ++ []) ([] ++ g.written)) made_next
      ∙ ap (λ i. steps i k (machine_at g.ends.1.0 (between.unread ++ []) ([] ++ g.written))) (of_slice p old between n g)
      ∙ ap (steps p.image k) (slice_at p old between n g [])
      ∙ ap (λ m. steps p.image k (after_pause p m (old.unread ++ []) [])) made_first
      ∙ sym (steps_add p.image n k (machine_at p (old.unread ++ []) []))
      ∙ ap (λ m. after_pause p m (old.unread ++ []) []) (sym made_at_once)
      ∙ sym (slice_at p old one (n + k) o [])

  alike : AreAlike two one
  alike = record {
    unread = sym (append-nil two.unread) ∙ ap (λ s. (state_world s).input) there ∙ append-nil one.unread;
    output = h.output ∙ ap (λ w. w ++ h.written) g.output ∙ append_assoc old.output g.written h.written
        ∙ ap (λ w. old.output ++ w) (ap (λ s. (state_world s).output) there) ∙ sym o.output;
    steps = let first = g.counted in let next = h.counted in let at_once = o.counted in
        omega (arith, first, next, at_once, made_first, made_next, made_at_once);
    go = rw (h.ends.1.1, o.ends.1.1) (ap bare there);
  }

pub two_are_one : TwoAreOne
two_are_one old between two one p n k is few within first next at_once =
    let g : SliceMade p old between n end.Limit = subst (λ t. SessionContinues t old between n end.Limit) is first in
    let o : SliceMade p old one (n + k) end.Limit = subst (λ t. SessionContinues t old one (n + k) end.Limit) is at_once in
    let h : SliceMade g.ends.1.0 between two k end.Limit = subst (λ t. SessionContinues t between two k end.Limit) g.ends.1.1 next in
    alike old between two one p n k few within g h o
