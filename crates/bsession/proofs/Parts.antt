-- Two parts of a slice, one after the other, are one.
use Rattle.std.proofs.Common.{◌≡◌, ◌∙◌, ◌⊎◌, ℕ, ◌+◌, ◌*◌, ◌≤◌, true, false, None, List, [], ◌++◌, append-nil, append_assoc, ap, arith, inl, inr, length, min, refl, subst, sym}
use Rattle.std.proofs.lemmas.Bool.{cases_lt}
use Rattle.blang.specs.declared.run.Outcome.{Outcome}
use Rattle.blang.specs.declared.run.Outcome.TheVariants as outcome
use Rattle.blang.specs.Machine.{state_world, steps}
use Rattle.bmach.specs.Slices.{after_pause}
use Rattle.bmach.specs.Stepping.{Paused, machine_at}
use Rattle.bmach.proofs.Running.{steps_add}
use Rattle.bsession.specs.Sessions.{EndsFor, Goes, GoesOnWithin, HasImage, HoldsNoMore, IsLostAfter, IsSessionOver, IsStateOf, KeepsLimits, KeepsWithin, LooksAfter, Lost, MayCome, Over, PassesAt, RunsAbove, SessionState, SessionView, SliceComesTo, SliceMade, allowed, can_go_on, end_of, is_limit}
use Rattle.bsession.specs.declared.session.TheConstants.{PART_STEPS}
use Rattle.bsession.specs.declared.session.Held.{Held}
use Rattle.bsession.specs.declared.session.Held.TheVariants as held
use Rattle.bsession.specs.declared.session.SliceEnd.{SliceEnd}
use Rattle.bsession.specs.declared.session.SliceEnd.TheVariants as end

-- the first part came to a pause, after which the second goes on
module _ (p q : Paused) (old mid new : SessionView) (n part : ℕ) (first : SliceEnd) (g : SliceMade p old mid n first)
    (stands : mid.state ≡ Goes q) (left : g.made + part ≤ allowed old n) (within : part ≤ n) where
  may_come : (rest : List ℕ) → MayCome old rest → MayCome mid rest
  may_come rest may closed = may (sym g.same ∙ closed)

  later : (m : ℕ) (rest before : List ℕ) → MayCome old rest
      → after_pause q m (mid.unread ++ rest) (before ++ g.written) ≡ after_pause p (g.made + m) (old.unread ++ rest) before
  later m rest before may =
      let image : q.image ≡ p.image = subst (HasImage p.image) stands g.image in
      let there : after_pause p g.made (old.unread ++ rest) before ≡ machine_at q (mid.unread ++ rest) (before ++ g.written) =
      subst (λ t. IsStateOf t (mid.unread ++ rest) (before ++ g.written) (after_pause p g.made (old.unread ++ rest) before)) stands (g.comes rest before may) in
      ap (λ i. steps i m (machine_at q (mid.unread ++ rest) (before ++ g.written))) image
      ∙ ap (steps p.image m) (sym there)
      ∙ sym (steps_add p.image g.made m (machine_at p (old.unread ++ rest) before))

  joined : (why next : SliceEnd) → (h : SliceMade q mid new part why) → EndsFor p old new n (g.made + h.made) next → SliceMade p old new n next
  joined why next h ends = record {
    made = g.made + h.made;
    within = let within = h.within in omega (arith, left, within);
    counted = let one = g.counted in let two = h.counted in omega (arith, one, two);
    taken = g.taken ++ h.taken;
    read = g.read ∙ ap (λ u. g.taken ++ u) h.read ∙ sym (append_assoc g.taken h.taken new.unread);
    written = g.written ++ h.written;
    output = h.output ∙ ap (λ o. o ++ h.written) g.output ∙ append_assoc old.output g.written h.written;
    same = h.same ∙ g.same;
    limits = h.limits ∙ g.limits;
    image = subst (λ i. HasImage i new.state) (subst (HasImage p.image) stands g.image) h.image;
    comes = λ rest before may.
        subst (IsStateOf new.state (new.unread ++ rest) (before ++ (g.written ++ h.written))) (later h.made rest before may)
        (subst (λ o. IsStateOf new.state (new.unread ++ rest) o (after_pause q h.made (mid.unread ++ rest) (before ++ g.written)))
        (append_assoc before g.written h.written) (h.comes rest (before ++ g.written) (may_come rest may)));
    ends = ends;
  }

  over_later : (r : Outcome) (made : ℕ) → IsSessionOver q mid new made r → IsSessionOver p old new (g.made + made) r
  over_later r made over = record {
    last = g.made + over.last;
    made_is = let made = over.made_is in omega (arith, made);
    stop = over.stop;
    there = over.there;
    stands = over.stands;
    outcome_is = over.outcome_is;
    ran = λ rest before may.
        subst (λ s. RunsAbove s over.stop.call (length over.there.below)) (later over.last rest before may)
        (over.ran rest (before ++ g.written) (may_come rest may));
  }

  lost_later : IsLostAfter q mid new part → IsLostAfter p old new n
  lost_later l = record {
    lost = l.lost;
    same = l.same ∙ g.same;
    limits = l.limits ∙ g.limits;
    counted =
        let more = l.counted in let few = more.1 in let after = more.2 in let first = g.counted in
        (g.made + more.0, omega (arith, left, few), omega (arith, after, first));
    taken = g.taken ++ l.taken;
    read = g.read ∙ ap (λ u. g.taken ++ u) l.read ∙ sym (append_assoc g.taken l.taken new.unread);
    made = g.made + l.made;
    within = let within = l.within in omega (arith, left, within);
    last = g.made + l.last;
    near = let near = l.near in omega (arith, near);
    written = g.written ++ l.written;
    output = l.output ∙ ap (λ o. o ++ l.written) g.output ∙ append_assoc old.output g.written l.written;
    all = λ rest before may.
        let all = l.all rest (before ++ g.written) (may_come rest may) in (
          all.0,
          sym (append_assoc before g.written l.written) ∙ all.1 ∙ ap (λ s. (state_world s).output ++ all.0) (later l.made rest before may),
        );
    no_more = λ rest before may.
        let no_more = l.no_more rest (before ++ g.written) (may_come rest may) in (
          no_more.0,
          ap (λ s. (state_world s).output) (sym (later l.last rest before may)) ∙ no_more.1 ∙ ap (λ o. o ++ no_more.0) (append_assoc before g.written l.written),
        );
  }

  pub all_made : (h : SliceMade q mid new part end.Limit) → h.made ≡ part
  all_made h = let made = h.ends.0 in let counted = g.counted in omega (arith, made, counted, left, within)

  -- the second part is a whole one after whole ones, or the rest
  abbrev pub IsWhole : Type 0
  IsWhole = ((parts : ℕ) × (g.made + part ≡ parts * PART_STEPS)) ⊎ (g.made + part ≡ allowed old n)

  looks_after : (there : Paused) (made : ℕ) → made ≡ part → IsWhole → LooksAfter old new there n (g.made + made)
  looks_after there made same (inl whole) = inl (whole.0, ap (λ m. g.made + m) same ∙ whole.1)
  looks_after there made same (inr all) = inr (inl (ap (λ m. g.made + m) same ∙ all))

  -- the session can go on after the second part
  pub goes_later : (what : Held) (r : Outcome) → IsWhole → can_go_on r ≡ true → SliceComesTo q mid new part (end_of r)
      → SliceMade p old new n (end.Holds what)
  goes_later what outcome.Limit whole can h =
      joined end.Limit (end.Holds what) h (h.ends.1.0, h.ends.1.1, looks_after h.ends.1.0 h.made (all_made h) whole)
  goes_later what outcome.Device whole can h =
      joined end.WantsInput (end.Holds what) h (h.ends.1.0, h.ends.1.1, inr (inr h.ends.1.2))
  goes_later what (outcome.Exit status) whole can h = cc
  goes_later what (outcome.Trap kind) whole can h = cc
  goes_later what outcome.Memory whole can h = cc

  -- what the second part ends for, the whole does, if no steps are left to be made
  pub part_gives : (r : Outcome) → (r ≡ outcome.Limit → g.made + part ≡ allowed old n) → SliceComesTo q mid new part (end_of r)
      → SliceComesTo p old new n (end_of r)
  part_gives outcome.Limit all h =
      joined end.Limit end.Limit h (let whole = all refl in let made = all_made h in omega (arith, whole, made), h.ends.1)
  part_gives outcome.Device all h =
      joined end.WantsInput end.WantsInput h
      (let few = h.ends.0 in omega (arith, few, left), h.ends.1)
  part_gives (outcome.Exit status) all h = joined (end.Halted status) (end.Halted status) h (over_later (outcome.Exit status) h.made h.ends)
  part_gives (outcome.Trap kind) all h = joined (end.Trapped kind) (end.Trapped kind) h (over_later (outcome.Trap kind) h.made h.ends)
  part_gives outcome.Memory all h = lost_later h

pub limit_is : (r : Outcome) → is_limit r ≡ true → r ≡ outcome.Limit
limit_is outcome.Limit is = refl
limit_is outcome.Device is = cc
limit_is (outcome.Exit status) is = cc
limit_is (outcome.Trap kind) is = cc
limit_is outcome.Memory is = cc

pub not_limit : (r : Outcome) → is_limit r ≡ false → r ≡ outcome.Limit → ⊥
not_limit r is limit = cc

pub not_over : (r : Outcome) → can_go_on r ≡ false → r ≡ outcome.Limit → ⊥
not_over r is limit = cc

-- where no step was made
pub none_made : (p : Paused) (h : SessionView) (n : ℕ) (why : SliceEnd) → h.state ≡ Goes p → EndsFor p h h n 0 why
    → SliceMade p h h n why
none_made p h n why is ends = record {
  made = 0;
  within = omega arith;
  counted = omega arith;
  taken = [];
  read = refl;
  written = [];
  output = sym (append-nil h.output);
  same = refl;
  limits = refl;
  image = subst (HasImage p.image) (sym is) refl;
  comes = λ rest before may.
      subst (λ t. IsStateOf t (h.unread ++ rest) (before ++ []) (machine_at p (h.unread ++ rest) before)) (sym is)
      (ap (machine_at p (h.unread ++ rest)) (sym (append-nil before)));
  ends = ends;
}

-- before the first part
pub nothing_made : (p : Paused) (h : SessionView) (n : ℕ) (what : Held) → h.state ≡ Goes p → SliceMade p h h n (end.Holds what)
nothing_made p h n what is = none_made p h n (end.Holds what) is (p, is, inl (0, omega arith))

-- what the machine held at each look, up to so many steps
abbrev pub KeptUpTo : Paused → SessionView → (steps : ℕ) → Type 0
KeptUpTo p old steps = (parts : ℕ) → old.steps + parts * PART_STEPS ≤ steps → (rest : List ℕ) → MayCome old rest
    → KeepsWithin old.limits (after_pause p (parts * PART_STEPS) (old.unread ++ rest) old.output)

-- what a session holds that can go on is what the machine holds there
pub kept_there : (p q : Paused) (old mid : SessionView) (n : ℕ) (why : SliceEnd) (g : SliceMade p old mid n why)
    → mid.state ≡ Goes q → PassesAt mid.state mid None → (rest : List ℕ) → MayCome old rest
    → KeepsWithin old.limits (after_pause p g.made (old.unread ++ rest) old.output)
kept_there p q old mid n why g stands none rest may =
    let holds : HoldsNoMore q mid = subst (λ t. PassesAt t mid None) stands none in
    let there : after_pause p g.made (old.unread ++ rest) old.output ≡ machine_at q (mid.unread ++ rest) (old.output ++ g.written) =
    subst (λ t. IsStateOf t (mid.unread ++ rest) (old.output ++ g.written) (after_pause p g.made (old.unread ++ rest) old.output)) stands (g.comes rest old.output may) in
    subst (KeepsWithin old.limits) (sym there)
    (subst (λ l. KeepsWithin l (machine_at q (mid.unread ++ rest) (old.output ++ g.written))) g.limits
    (record { operands = holds.operands; pages = holds.pages; output = subst (λ o. length o ≤ mid.limits.output) g.output holds.output }))

-- and the same after a part more
pub kept_further : (p q : Paused) (old mid : SessionView) (n : ℕ) (why : SliceEnd) (g : SliceMade p old mid n why)
    → mid.state ≡ Goes q → PassesAt mid.state mid None → (parts before : ℕ) → g.made ≡ parts * PART_STEPS
    → before + PART_STEPS ≡ old.steps + parts * PART_STEPS → KeptUpTo p old before → KeptUpTo p old mid.steps
kept_further p q old mid n why g stands none parts before made is kept k le rest may =
    let counted = g.counted in
    elim (cases_lt before (old.steps + k * PART_STEPS)) [
      | inr few ↦ kept k few rest may
      | inl more ↦
          let last : k * PART_STEPS ≡ g.made = omega (arith, le, more, made, is, counted) in
          subst (λ m. KeepsWithin old.limits (after_pause p m (old.unread ++ rest) old.output)) (sym last)
          (kept_there p q old mid n why g stands none rest may)
    ]

-- before the first part
pub kept_first : (p : Paused) (h : SessionView) → PassesAt h.state h None → h.state ≡ Goes p → KeptUpTo p h h.steps
unfolding none_made
kept_first p h none is k le rest may =
    let g = none_made p h 0 (end.Holds held.Output) is (p, is, inl (0, omega arith)) in
    let first : k * PART_STEPS ≡ 0 = omega (arith, le) in
    subst (λ m. KeepsWithin h.limits (after_pause p m (h.unread ++ rest) h.output)) (sym first)
    (kept_there p p h h 0 (end.Holds held.Output) g is none rest may)

-- a part is a whole one, or the rest
pub whole_or_rest : (old mid : SessionView) (n part left made : ℕ) → (parts : (k : ℕ) × (mid.steps ≡ old.steps + k * PART_STEPS))
    → mid.steps ≡ old.steps + made → mid.steps + left ≡ old.steps + allowed old n → part ≡ min left PART_STEPS
    → ((k : ℕ) × (made + part ≡ k * PART_STEPS)) ⊎ (made + part ≡ allowed old n)
whole_or_rest old mid n part left made (k, before) counted all least = elim (cases_lt left PART_STEPS) [
  | inl rest ↦ inr (omega (arith, rest, before, counted, all, least))
  | inr whole ↦ inl (k + 1, omega (arith, whole, before, counted, least))
]

-- how many steps a part makes at most
pub few_made : (q : Paused) (mid new : SessionView) (part : ℕ) (r : Outcome) → SliceComesTo q mid new part (end_of r)
    → new.steps ≤ mid.steps + part
few_made q mid new part outcome.Limit h = let counted = h.counted in let few = h.within in omega (arith, counted, few)
few_made q mid new part outcome.Device h = let counted = h.counted in let few = h.within in omega (arith, counted, few)
few_made q mid new part (outcome.Exit status) h = let counted = h.counted in let few = h.within in omega (arith, counted, few)
few_made q mid new part (outcome.Trap kind) h = let counted = h.counted in let few = h.within in omega (arith, counted, few)
few_made q mid new part outcome.Memory h =
    let few = h.counted.1 in let counted = h.counted.2 in omega (arith, counted, few)

pub goes_on_within : (t : SessionState) (old new : SessionView) (parts steps : ℕ) → steps ≡ old.steps + parts * PART_STEPS
    → new.steps ≤ steps + PART_STEPS → ((p : Paused) → t ≡ Goes p → KeptUpTo p old steps) → GoesOnWithin t old new
goes_on_within (Goes p) old new parts steps is few kept = λ k less rest may. kept p refl k (omega (arith, is, few, less)) rest may
goes_on_within (Over stop p) old new parts steps is few kept = tt
goes_on_within Lost old new parts steps is few kept = tt

-- where no step was made
pub none_within : (t : SessionState) (old : SessionView) → GoesOnWithin t old old
none_within (Goes p) old = λ k less rest may. absurd (omega (arith, less))
none_within (Over stop p) old = tt
none_within Lost old = tt

-- a slice ends for no limit where the session can't go on
pub over_keeps : (h : SessionView) (r : Outcome) → can_go_on r ≡ false → KeepsLimits h (end_of r)
over_keeps h (outcome.Exit status) can = tt
over_keeps h (outcome.Trap kind) can = tt
over_keeps h outcome.Memory can = tt
over_keeps h outcome.Limit can = cc
over_keeps h outcome.Device can = cc

-- and passes none where it can and holds no more than it may
pub going_keeps : (h : SessionView) (r : Outcome) → can_go_on r ≡ true → PassesAt h.state h None → KeepsLimits h (end_of r)
going_keeps h outcome.Limit can none = none
going_keeps h outcome.Device can none = none
going_keeps h (outcome.Exit status) can none = tt
going_keeps h (outcome.Trap kind) can none = tt
going_keeps h outcome.Memory can none = tt
