-- What a slice of a run makes of a session.
use Rattle.std.proofs.Common.{◌≡◌, ◌∙◌, ℕ, zero, suc, ◌+◌, ◌-◌, ◌<◌, ◌≤◌, min, Bool, true, false, List, [], ◌∷◌, ◌++◌, Option, Some, None, append_assoc, ap, arith, drop, length, refl, sym, ⊎_elim}
use Rattle.std.specs.Prelude.{if◌then◌else◌}
use Rattle.std.proofs.lemmas.List.{length-append}
use Rattle.std.specs.Io.KnownBytes.{Appends, Consumes, Keeps}
use Rattle.bword.specs.ByteEnds.{Incoming, Kept, outgoing_of}
use Rattle.blang.specs.declared.run.Outcome.{Outcome}
use Rattle.blang.specs.declared.run.Outcome.TheVariants as outcome
use Rattle.blang.specs.Machine.{state_world, step}
use Rattle.blang.specs.Reports.{Shows}
use Rattle.bmach.specs.Slices.{BrokenAfter, IsOverWithin, SliceGives, WaitsAtRead, after_pause, output_after}
use Rattle.bmach.specs.Stepping.{Paused, machine_at}
use Rattle.bmach.specs.Steps.{world_with}
use Rattle.bmach.specs.Turns.{MovesOn}
use Rattle.bmach.specs.declared.machine.Stop.{Stop}
use Rattle.bmach.proofs.Running.{one_more}
use Rattle.bsession.specs.declared.session.Limits.{Limits}
use Rattle.bsession.specs.Sessions.{Fed, SliceComesTo, Goes, SliceMade, SessionView, IsSessionOver, IsLostAfter, Over, EndsFor, allowed, closed_mark, counted, fed_incoming, end_of, state_after}

read_before : (f g : Fed) (m : Option (List ℕ)) (taken : List ℕ) → Consumes (Some f.unread) m taken → Keeps m (Some g.unread)
    → f.unread ≡ taken ++ g.unread
read_before f g None taken c k = absurd c
read_before f g (Some xs) taken c k = c ∙ ap (λ u. taken ++ u) (sym k)

pub drop_after : (n : ℕ) (xs ys : List ℕ) → n ≤ length xs → drop n (xs ++ ys) ≡ drop n xs ++ ys
drop_after zero [] ys le = refl
drop_after zero (x ∷ xs) ys le = refl
drop_after (suc n) [] ys le = absurd (omega (arith, le))
drop_after (suc n) (x ∷ xs) ys le = drop_after n xs ys (omega (arith, le))

-- what is known of an input that is fed
pub record IsKnown (f : Fed) : Type 0 where
  pub over : f.is_over ≡ true → (f.unread ≡ []) × (f.is_closed ≡ true)
  pub failed : 0 < f.failures → (f.unread ≡ []) × (f.is_closed ≡ false)

module _ (p there : Paused) (k : ℕ) (f g : Fed) {m : Incoming} (o q : Kept)
    (h : MovesOn (after_pause p k) (machine_at there) (fed_incoming f) m (outgoing_of o) (outgoing_of q))
    (read : f.unread ≡ h.taken ++ g.unread) (over : m.is_over ≡ g.is_over) (known : IsKnown g)
    (same : g.is_closed ≡ f.is_closed) where
  nothing_left : (rest : List ℕ) → (f.is_closed ≡ true → rest ≡ []) → m.is_over ≡ true → g.unread ++ rest ≡ []
  nothing_left rest may is =
      let e = known.over (sym over ∙ is) in
      rw (e.0, may (sym same ∙ e.1)) refl

  -- whatever comes after the input that was fed, the machine has read and written the same
  went : (rest before : List ℕ) → (f.is_closed ≡ true → rest ≡ [])
      → after_pause p k (f.unread ++ rest) before ≡ machine_at there (g.unread ++ rest) (before ++ h.output)
  went rest before may =
      ap (λ u. after_pause p k u before) (ap (λ u. u ++ rest) read ∙ append_assoc h.taken g.unread rest)
      ∙ h.comes (g.unread ++ rest) before (nothing_left rest may)

-- the same bytes were taken where some were added
still_taken : (taken : ℕ) (xs ys zs : List ℕ) → taken ≤ length xs → zs ≡ xs ++ ys → drop (min taken (length zs)) zs ≡ drop taken xs ++ ys
still_taken taken xs ys zs le is =
    let longer = length-append xs ys in
    let size : length zs ≡ length (xs ++ ys) = ap length is in
    let all : min taken (length zs) ≡ taken = omega (arith, le, size, longer) in
    ap (λ n. drop n zs) all ∙ ap (drop taken) is ∙ drop_after taken xs ys le

-- no more input comes where its end was told
none_left : (g : Fed) → IsKnown g → (rest : List ℕ) → (g.is_closed ≡ true → rest ≡ []) → g.is_over ≡ true → g.unread ++ rest ≡ []
none_left g known rest may is = let e = known.over is in rw (e.0, may e.1) refl

-- bytes that were added twice were added at once
appended_twice : (xs zs : List ℕ) (m : Option (List ℕ)) (a b : List ℕ) → Appends (Some xs) m a → Appends m (Some zs) b
    → zs ≡ xs ++ (a ++ b)
appended_twice xs zs None a b first next = absurd first
appended_twice xs zs (Some ys) a b first next = next ∙ ap (λ t. t ++ b) first ∙ append_assoc xs a b

abbrev marked : Bool → List ℕ
marked b = if b then 1 ∷ [] else []

pub same_mark : (f g : Fed) → closed_mark g ≡ closed_mark f → g.is_closed ≡ f.is_closed
same_mark f g is = of_marks g.is_closed f.is_closed is where
  of_marks : (a b : Bool) → marked a ≡ marked b → a ≡ b
  of_marks true true e = refl
  of_marks true false e = cc
  of_marks false true e = cc
  of_marks false false e = refl

module _ (p q : Paused) (f g : Fed) (o w : Kept) (taken made n : ℕ) (limits : Limits) (stop : Stop)
    (within : taken ≤ length o.bytes) (known : IsKnown g) (same : g.is_closed ≡ f.is_closed) (image : q.image ≡ p.image) where
  abbrev old : SessionView
  old = record { state = Goes p; unread = f.unread; is_closed = f.is_closed; output = drop taken o.bytes; steps = made; limits = limits }

  abbrev new : Outcome → SessionView
  new r = record {
    state = state_after r stop q;
    unread = g.unread;
    is_closed = g.is_closed;
    output = drop (min taken (length w.bytes)) w.bytes;
    steps = made + counted r stop.steps (allowed old n);
    limits = limits;
  }

  limit_gives : SliceGives p q (allowed old n) (fed_incoming f) (fed_incoming g) (outgoing_of o) (outgoing_of w) stop outcome.Limit
      → SliceMade p old (new outcome.Limit) n (end_of outcome.Limit)
  limit_gives a = record {
    made = stop.steps;
    within = let all = a.counted in omega (arith, all);
    counted = refl;
    taken = a.goes.taken;
    read = a.goes.took.bytes;
    written = a.goes.output;
    output = still_taken taken o.bytes a.goes.output w.bytes within a.goes.written.appended;
    same = same;
    limits = refl;
    image = image;
    comes = λ rest before may.
        ap (λ m. after_pause p m (f.unread ++ rest) before) a.counted
        ∙ went p q (allowed old n) f g o w a.goes a.goes.took.bytes refl known same rest before may;
    ends = (a.counted, (q, refl));
  }

  wait_gives : WaitsAtRead p q (allowed old n) (fed_incoming f) (fed_incoming g) (outgoing_of o) (outgoing_of w) stop
      → SliceMade p old (new outcome.Device) n (end_of outcome.Device)
  wait_gives a = record {
    made = stop.steps;
    within = let less = a.within in omega (arith, less);
    counted = refl;
    taken = a.pauses.goes.taken;
    read = read;
    written = a.pauses.goes.output;
    output = still_taken taken o.bytes a.pauses.goes.output w.bytes within a.pauses.goes.written.appended;
    same = same;
    limits = refl;
    image = image;
    comes = λ rest before may. went p q stop.steps f g o w a.pauses.goes read (sym a.fails.over) known same rest before may;
    ends = (let less = a.within in omega (arith, less), (q, refl, (none.0, none.1, a.asks)));
  }
    where
      read : f.unread ≡ a.pauses.goes.taken ++ g.unread
      read = read_before f g a.before.left a.pauses.goes.taken a.pauses.goes.took.bytes a.fails.bytes

      none : (g.unread ≡ []) × (g.is_closed ≡ false)
      none = let grew = a.fails.counted in known.failed (omega (arith, grew))

  over_gives : (r : Outcome) → stop.outcome ≡ r → state_after r stop q ≡ Over stop q
      → counted r stop.steps (allowed old n) ≡ stop.steps
      → IsOverWithin p q (allowed old n) (fed_incoming f) (fed_incoming g) (outgoing_of o) (outgoing_of w) stop r
      → EndsFor p old (new r) n stop.steps (end_of r) → SliceMade p old (new r) n (end_of r)
  over_gives r is stands all a ends = record {
    made = stop.steps;
    within = let less = a.within in let made = a.made in omega (arith, less, made);
    counted = ap (λ m. made + m) all;
    taken = a.goes.taken;
    read = a.goes.took.bytes;
    written = a.goes.output;
    output = still_taken taken o.bytes a.goes.output w.bytes within a.goes.written.appended;
    same = same;
    limits = refl;
    image = rw stands tt;
    comes = λ rest before may. rw stands (at rest before may);
    ends = ends;
  }
    where
      last_is : (rest before : List ℕ) → (f.is_closed ≡ true → rest ≡ [])
          → after_pause p stop.steps (f.unread ++ rest) before ≡ step p.image (machine_at a.there (g.unread ++ rest) (before ++ a.goes.output))
      last_is rest before may =
          ap (λ m. after_pause p m (f.unread ++ rest) before) a.made
          ∙ one_more p.image a.last _ _ (went p a.there a.last f g o w a.goes a.goes.took.bytes refl known same rest before may)

      at : (rest before : List ℕ) → (f.is_closed ≡ true → rest ≡ [])
          → Shows stop.outcome (g.unread ++ rest) (before ++ a.goes.output) (after_pause p stop.steps (f.unread ++ rest) before)
          × ((state_world (after_pause p stop.steps (f.unread ++ rest) before)).store ≡ q.store)
      at rest before may =
          rw (last_is rest before may, is) (a.over (g.unread ++ rest) (before ++ a.goes.output), a.words (g.unread ++ rest) (before ++ a.goes.output))

  over_by : (r : Outcome) → stop.outcome ≡ r → state_after r stop q ≡ Over stop q
      → IsOverWithin p q (allowed old n) (fed_incoming f) (fed_incoming g) (outgoing_of o) (outgoing_of w) stop r
      → IsSessionOver p old (new r) stop.steps r
  over_by r is stands a = record {
    last = a.last;
    made_is = a.made;
    stop = stop;
    there = q;
    stands = stands;
    outcome_is = is;
    ran = λ rest before may. (
      record {
        call = a.there.call;
        below = a.there.below;
        world = world_with a.there.store (g.unread ++ rest) (before ++ a.goes.output);
        state_is = went p a.there a.last f g o w a.goes a.goes.took.bytes refl known same rest before may;
        active_is = a.ran;
      },
      ap length a.below,
    );
  }

  -- memory was refused, and nothing of the output is lost
  lost_gives : 0 < allowed old n
      → BrokenAfter p (allowed old n) (fed_incoming f) (fed_incoming g) (outgoing_of o) (outgoing_of w) stop
      → IsLostAfter p old (new outcome.Memory) n
  lost_gives some a = record {
    lost = refl;
    same = same;
    limits = refl;
    counted = (min stop.steps (allowed old n - 1), omega (arith, some), refl);
    taken = a.taken;
    read = a.took.bytes;
    made = a.made;
    within = a.within;
    last = a.last;
    near = a.near;
    written = a.output ++ a.began;
    output = still_taken taken o.bytes (a.output ++ a.began) w.bytes within (appended_twice o.bytes w.bytes a.between.written a.output a.began a.written.appended a.appended);
    all = λ rest before may. (
      a.began,
      sym (append_assoc before a.output a.began)
          ∙ ap (λ t. t ++ a.began) (sym (ap (λ u. output_after p a.made u before) (read rest) ∙ a.comes (g.unread ++ rest) before (can rest may))),
    );
    no_more = λ rest before may.
        let goes = a.goes_on (g.unread ++ rest) before (can rest may) in (
          goes.0,
          ap (λ u. output_after p a.last u before) (read rest)
              ∙ goes.1
              ∙ append_assoc before a.output (a.began ++ goes.0)
              ∙ ap (λ t. before ++ t) (sym (append_assoc a.output a.began goes.0))
              ∙ sym (append_assoc before (a.output ++ a.began) goes.0),
        );
  }
    where
      read : (rest : List ℕ) → f.unread ++ rest ≡ a.taken ++ (g.unread ++ rest)
      read rest = ap (λ u. u ++ rest) a.took.bytes ∙ append_assoc a.taken g.unread rest

      can : (rest : List ℕ) → (f.is_closed ≡ true → rest ≡ []) → g.is_over ≡ true → g.unread ++ rest ≡ []
      can rest may = none_left g known rest (λ closed. may (sym same ∙ closed))

  pub slice_gives : (r : Outcome) → stop.outcome ≡ r → 0 < allowed old n
      → SliceGives p q (allowed old n) (fed_incoming f) (fed_incoming g) (outgoing_of o) (outgoing_of w) stop r
      → SliceComesTo p old (new r) n (end_of r)
  slice_gives outcome.Limit is some h = limit_gives h
  slice_gives outcome.Device is some h = ⊎_elim wait_gives (λ failed. let grew = failed.0 in absurd (omega (arith, grew))) h
  slice_gives (outcome.Exit status) is some h = over_gives (outcome.Exit status) is refl refl h (over_by (outcome.Exit status) is refl h)
  slice_gives (outcome.Trap kind) is some h = over_gives (outcome.Trap kind) is refl refl h (over_by (outcome.Trap kind) is refl h)
  slice_gives outcome.Memory is some h = lost_gives some h
