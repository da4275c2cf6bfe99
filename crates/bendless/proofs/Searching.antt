-- A run that is made again in silence, and a state of it that was kept.
use Rattle.std.proofs.Common.{◌≡◌, ◌∙◌, ℕ, ◌+◌, ◌-◌, ◌<◌, ◌≤◌, List, [], ◌∷◌, ◌++◌, length, Bool, true, false, Err, None, Ok, Option, Result, Some, ap, append_assoc, arith, length-append, map, replicate, refl, reverse, subst, sym, ⊎_elim}
use Rattle.std.proofs.lemmas.Bool.{cases_lt}
use Rattle.std.specs.Prelude.{IfOk, IfSome, slice_index, if◌then◌else◌}
use Rattle.std.specs.Result.{result_ok}
use Rattle.std.proofs.lemmas.List.{ext_get_or, length-replicate}
use Rattle.std.proofs.lemmas.List.FromFn.{get_or-map-range_with_len, length-map-range_with_len}
use Rattle.bword.specs.ByteEnds.{CanFollow, Outgoing}
use Rattle.blang.specs.declared.code.Definition.{Definition}
use Rattle.blang.specs.Layout.{World, address_in, addresses, data_end, first_world, load_fault, padded, refusal, shape_of}
use Rattle.blang.specs.Machine.{Call, Image, Loaded, Running, Halted, Stuck, State, machine_started, main_begun, run, state_world, step, steps}
use Rattle.blang.specs.declared.run.Trap.{Trap}
use Rattle.bmach.specs.Resolved.{IsLoadedFrom}
use Rattle.bmach.specs.Stepping.{IsUnstarted, Paused, machine_at}
use Rattle.bmach.specs.Steps.{world_with}
use Rattle.bmach.specs.Turns.{MovesOn}
use Rattle.bmach.proofs.Beginning.{run_from}
use Rattle.bmach.proofs.Running.{one_more}
use Rattle.bmach.proofs.Whole.{length-words}
use Rattle.btools.proofs.Functions.{data_fit}
use Rattle.bendless.specs.Endless.{IsRunning, silent}
use Rattle.bmach.specs.declared.machine.Active.{Active}
use Rattle.bendless.specs.Keeps.{IsAt, IsKept, IsSameState, repeat_of, words_in}
use Rattle.bendless.specs.Repeats.{IsWithin, Repeats}
use Rattle.bendless.specs.Replays.{IsReplay, Replayed, lender_replay, replay_in, replay_new}
use Rattle.bendless.specs.declared.kept.Kept.{Kept}
use Rattle.bendless.specs.declared.search.Repeat.{Repeat}
use Rattle.bendless.proofs.Again.{step_alike}
use Rattle.bendless.proofs.Standing.{Moved, StandOn, stand_first, stand_here, stand_on, step_moves}

-- the words at all addresses are the store
whole_store : (store : List ℕ) → length store ≡ 65536 → words_in store ≡ store
whole_store store full =
    let long : length (words_in store) ≡ 65536 = length-map-range_with_len (slice_index store) 0 65536 in
    ext_get_or 0 (words_in store) store (long ∙ sym full)
    (λ i within. get_or-map-range_with_len (slice_index store) 0 65536 i i 0 (omega (arith, within, long)) (omega arith))

-- a state that is as a running one runs the same call
as_running : (s : State) (call : Call) (below : List Call) (w : World) → silent s ≡ Running call below w → (v : World) × (s ≡ Running call below v)
as_running (Running c b v) call below w e = (v, cc)
as_running (Halted e v) call below w is = cc
as_running (Stuck v) call below w is = cc

module _ (first : Paused) (bytes : List ℕ) where
  -- the run on an input that begins with these bytes
  abbrev pub states : (more : List ℕ) → ℕ → State
  states more n = steps first.image n (machine_at first (bytes ++ more) [])

  -- After so many steps it is there, but for what was written, and these bytes are left.
  pub record Came (n : ℕ) (p : Paused) (left : List ℕ) (over : Bool) : Type 0 where
    pub image_is : p.image ≡ first.image
    pub full : length p.store ≡ 65536
    pub comes : (more : List ℕ) → (over ≡ true → more ≡ []) → silent (states more n) ≡ machine_at p (left ++ more) []

  pub came_first : length first.store ≡ 65536 → Came 0 first bytes false
  came_first full = record { image_is = refl; full = full; comes = λ more can. refl }

  module _ (n : ℕ) (p p' : Paused) (u u' : Replayed) (o q : Outgoing) (is_replay : IsReplay u') (c : Came n p u.left u.is_over)
      (m : MovesOn (λ left before. step p.image (machine_at p left before)) (machine_at p') (replay_in u) (replay_in u') o q) where
    can_follow : (more : List ℕ) → (u'.is_over ≡ true → more ≡ []) → CanFollow (replay_in u') (u'.left ++ more)
    can_follow more can over = let none = (is_replay over).0 in let nothing = can over in rw (none, nothing) refl

    read_on : m.taken ++ u'.left ≡ u.left
    read_on = sym m.took.bytes

    goes : (more : List ℕ) → (u'.is_over ≡ true → more ≡ []) → step p.image (machine_at p (u.left ++ more) []) ≡ machine_at p' (u'.left ++ more) m.output
    goes more can =
        ap (λ left. step p.image (machine_at p left [])) (sym (ap (λ l. l ++ more) read_on) ∙ append_assoc m.taken u'.left more)
        ∙ m.comes (u'.left ++ more) [] (can_follow more can)

    moves : Moved p.call p.below p'.call p'.below × (length p'.store ≡ length p.store)
    moves =
        step_moves p.image p.call p.below (world_with p.store (u.left ++ []) []) p'.call p'.below (world_with p'.store (u'.left ++ []) m.output) (goes [] (λ over. refl))

    pub came_on : p'.image ≡ p.image → Came (n + 1) p' u'.left u'.is_over
    came_on same = record {
      image_is = same ∙ c.image_is;
      full = moves.1 ∙ c.full;
      comes = λ more can.
          let before = c.comes more (λ over. can (m.took.over over).1) in
          let s = states more n in
          ap silent (one_more first.image n _ s refl) ∙ sym (step_alike first.image s)
          ∙ ap (λ x. silent (step first.image x)) before
          ∙ ap (λ (image : Image). silent (step image (machine_at p (u.left ++ more) []))) (sym c.image_is)
          ∙ ap silent (goes more can);
    }

  -- A state was kept in which the run was before; since then it hasn't returned from the call that ran there.
  pub record HasKept (k : Kept) (n : ℕ) (p : Paused) (left : List ℕ) (over : Bool) : Type 0 where
    pub there : Paused
    pub was_left : List ℕ
    pub was_over : Bool
    pub came : Came k.made there was_left was_over
    pub kept : IsKept k there (length was_left) k.made
    pub later : k.made ≤ n
    pub between : List ℕ
    pub reads : was_left ≡ between ++ left
    pub over_since : was_over ≡ true → over ≡ true
    pub stands : StandOn there.call there.below (p.call ∷ p.below)
    pub within : (m : ℕ) → k.made ≤ m → m ≤ n → (more : List ℕ) → (over ≡ true → more ≡ []) → IsWithin k.callers (states more m)

  -- where it is there are so many calls below
  within_here : (callers n : ℕ) (p : Paused) (left : List ℕ) (over : Bool) → Came n p left over → callers ≤ length p.below → (more : List ℕ) → (over ≡ true → more ≡ []) → IsWithin callers (states more n)
  within_here callers n p left over c long more can =
      let is = as_running (states more n) p.call p.below (world_with p.store (left ++ more) []) (c.comes more can) in
      subst (IsWithin callers) (sym is.1) long

  -- so many steps more are this one, or fewer
  within_all : (P : ℕ → Type 0) (least n : ℕ) → ((m : ℕ) → least ≤ m → m ≤ n → P m) → P (n + 1) → (m : ℕ) → least ≤ m → m ≤ n + 1 → P m
  within_all P least n before last m at most = ⊎_elim (λ lt. let e : n + 1 ≡ m = omega (arith, most, lt) in subst P e last) (λ le. before m at le) (cases_lt n m)

  pub kept_here : (k : Kept) (n : ℕ) (p : Paused) (left : List ℕ) (over : Bool) → Came n p left over → IsKept k p (length left) n → HasKept k n p left over
  kept_here k n p left over c is = record {
    there = p;
    was_left = left;
    was_over = over;
    came = subst (λ m. Came m p left over) (sym is.steps) c;
    kept = record { call = is.call; state = is.state; steps = refl };
    later = let e = is.steps in omega (arith, e);
    between = [];
    reads = refl;
    over_since = λ o. o;
    stands = stand_first p.call p.below;
    within = λ m at most more can.
        let e = is.steps in
        let now : n ≡ m = omega (arith, e, at, most) in
        let callers = is.state.callers in
        subst (λ x. IsWithin k.callers (states more x)) now (within_here k.callers n p left over c (omega (arith, callers)) more can);
  }

  -- a step more, after which the run hasn't returned from the call
  pub kept_on : (k : Kept) (n : ℕ) (p p' : Paused) (u u' : Replayed) (o q : Outgoing) → IsReplay u' → Came n p u.left u.is_over
      → MovesOn (λ left before. step p.image (machine_at p left before)) (machine_at p') (replay_in u) (replay_in u') o q
      → p'.image ≡ p.image → k.callers ≤ length p'.below → HasKept k n p u.left u.is_over → HasKept k (n + 1) p' u'.left u'.is_over
  kept_on k n p p' u u' o q is_replay c m same long h = record {
    there = h.there;
    was_left = h.was_left;
    was_over = h.was_over;
    came = h.came;
    kept = h.kept;
    later = let e = h.later in omega (arith, e);
    between = h.between ++ m.taken;
    reads = h.reads ∙ ap (λ l. h.between ++ l) (sym (read_on n p p' u u' o q is_replay c m)) ∙ sym (append_assoc h.between m.taken u'.left);
    over_since = λ over. (m.took.over (h.over_since over)).1;
    stands = let e = h.kept.state.callers in stand_on h.there.call p.call p'.call h.there.below p.below p'.below (moves n p p' u u' o q is_replay c m).0 (omega (arith, e, long)) h.stands;
    within = λ x at most more can. within_all (λ y. IsWithin k.callers (states more y)) k.made n
        (λ y from upto. h.within y from upto more (λ over. can (m.took.over over).1))
        (within_here k.callers (n + 1) p' u'.left u'.is_over (came_on n p p' u u' o q is_replay c m same) long more can) x at most;
  }

  pub kept_same : (k k' : Kept) (n : ℕ) (p : Paused) (left : List ℕ) (over : Bool) → IsSameState k k' → HasKept k n p left over → HasKept k' n p left over
  kept_same k k' n p left over same h = record {
    there = h.there;
    was_left = h.was_left;
    was_over = h.was_over;
    came = subst (λ m. Came m h.there h.was_left h.was_over) (sym same.made) h.came;
    kept = record {
      call = same.call ∙ h.kept.call;
      state = record {
        place = h.kept.state.place ∙ ap (λ (c : Active). c.place) (sym same.call);
        callers = h.kept.state.callers ∙ sym same.callers;
        input = h.kept.state.input ∙ sym same.left;
        operands = ap reverse same.operands ∙ h.kept.state.operands;
        words = same.words ∙ h.kept.state.words;
      };
      steps = refl;
    };
    later = let e = h.later in let m = same.made in omega (arith, e, m);
    between = h.between;
    reads = h.reads;
    over_since = h.over_since;
    stands = h.stands;
    within = λ m at most more can.
        let made = same.made in
        subst (λ callers. IsWithin callers (states more m)) (sym same.callers) (h.within m (omega (arith, made, at)) most more can);
  }

  -- its words are as many as there are addresses
  pub kept_full : (k : Kept) (n : ℕ) (p : Paused) (left : List ℕ) (over : Bool) → HasKept k n p left over → length k.words.items ≡ 65536
  kept_full k n p left over h = ap length h.kept.state.words ∙ length-map-range_with_len (slice_index h.there.store) 0 65536

  no_bytes : (xs ys : List ℕ) → length (xs ++ ys) ≡ length ys → xs ++ ys ≡ ys
  no_bytes [] ys e = refl
  no_bytes (x ∷ xs) ys e = let long = length-append xs ys in absurd (omega (arith, e, long))

  -- the state that was kept has come again
  pub repeats : (k : Kept) (n : ℕ) (p : Paused) (left : List ℕ) (over : Bool) → Came n p left over → HasKept k n p left over → k.made < n → IsAt k p (length left)
      → (more : List ℕ) → (over ≡ true → more ≡ []) → Repeats (states more) (repeat_of k n)
  repeats k n p left over c h later is more can =
      let t = h.there in
      let s = h.kept.state in
      let here = stand_here t.call p.call t.below p.below h.stands (is.callers ∙ sym s.callers) in
      let store : p.store ≡ t.store = sym (whole_store p.store c.full) ∙ sym is.words ∙ s.words ∙ whole_store t.store h.came.full in
      let same_left : h.was_left ≡ left = h.reads ∙ no_bytes h.between left (ap length (sym h.reads) ∙ s.input ∙ sym is.input) in
      let operands : p.call.operands ≡ t.call.operands = sym is.operands ∙ s.operands in
      let place : p.call.place ≡ t.call.place = is.place ∙ sym s.place in
      let call : p.call ≡ t.call = rw (here.0.0, here.0.1, place, operands) refl in
      let same : machine_at p (left ++ more) [] ≡ machine_at t (h.was_left ++ more) [] = rw (call, here.1, store, same_left) refl in
      let before = h.came.comes more (λ o. can (h.over_since o)) in
      let runs = as_running (states more k.made) t.call t.below (world_with t.store (h.was_left ++ more) []) before in
      record {
        comes_again = record {
          later = later;
          runs = subst IsRunning (sym runs.1) tt;
          same = c.comes more can ∙ same ∙ sym before;
        };
        runs = record {
          call = t.call;
          below = t.below;
          world = runs.0;
          state_is = runs.1;
          active_is = sym h.kept.call;
        };
        callers = s.callers;
        stays = λ m at most. h.within m at most more can;
      }

-- whether the end is known stays, since it tells which end it is
pub flag : (a b : Bool) → ◌≡◌ {A = List ℕ} ((if a then 1 else 0) ∷ []) ((if b then 1 else 0) ∷ []) → a ≡ b
flag true true e = refl
flag false false e = refl
flag true false e = cc
flag false true e = cc

pub end_known : (u : Replayed) (bytes more : List ℕ) (has_end : Bool) → IsReplay u → lender_replay u ≡ lender_replay (replay_new bytes has_end) → (has_end ≡ true → more ≡ []) → u.is_over ≡ true → more ≡ []
end_known u bytes more has_end is same can over = can (sym (flag u.has_end has_end same) ∙ (is over).1)

-- The store of a run before its first step has 65536 words.
started_world : (image : Image) (main : Option Loaded) (w : World) → state_world (machine_started image main w) ≡ w
started_world image None w = refl
started_world image (Some f) w = begun (refusal 0 (image.data_end + f.frame))
  where
    begun : (refused : Option Trap) → state_world (main_begun refused f image.data_end w) ≡ w
    begun None = refl
    begun (Some trap) = refl

pub full_first : (image : Image) (p : Paused) → IsUnstarted image p → length image.words ≤ 65536 → length p.store ≡ 65536
full_first image p begins fits =
    let w = first_world image [] in
    let store : p.store ≡ w.store = ap (λ s. (state_world s).store) (sym (begins.first [])) ∙ ap (λ (x : World). x.store) (started_world image image.main w) in
    let long : length (padded 65536 image.words) ≡ length image.words + (65536 - length image.words) =
    length-append image.words (replicate (65536 - length image.words) 0) ∙ ap (λ n. length image.words + n) (length-replicate (65536 - length image.words) 0) in
    ap length store ∙ long ∙ omega (arith, fits)

-- runs with the same states repeat the same
pub repeats_alike : (f g : ℕ → State) (r : Repeat) → ((n : ℕ) → f n ≡ g n) → Repeats g r → Repeats f r
repeats_alike f g r same h =
    let here : g r.first ≡ f r.first = sym (same r.first) in
    record {
      comes_again = record {
        later = h.comes_again.later;
        runs = subst IsRunning here h.comes_again.runs;
        same = ap silent (same r.again) ∙ h.comes_again.same ∙ ap silent here;
      };
      runs = record {
        call = h.runs.call;
        below = h.runs.below;
        world = h.runs.world;
        state_is = same r.first ∙ h.runs.state_is;
        active_is = h.runs.active_is;
      };
      callers = h.callers;
      stays = λ n at most. subst (IsWithin r.callers) (sym (same n)) (h.stays n at most);
    }

-- what was found of a run on bytes that were read
pub found_again : (image : Image) (p : Paused) (bytes read : List ℕ) (over : Bool) (found : Option Repeat) → IsUnstarted image p → read ≡ bytes
    → IfSome found (λ r. (more : List ℕ) → (over ≡ true → more ≡ []) → Repeats (λ n. steps p.image n (machine_at p (read ++ more) [])) r)
    → IfSome found (λ r. (more : List ℕ) → (over ≡ true → more ≡ []) → Repeats (run image (bytes ++ more)) r)
found_again image p bytes read over None begins same h = tt
found_again image p bytes read over (Some r) begins same h = λ more can. repeats_alike (run image (bytes ++ more)) (λ n. steps p.image n (machine_at p (bytes ++ more) [])) r (run_from image p begins (bytes ++ more))
    (subst (λ xs. Repeats (λ n. steps p.image n (machine_at p (xs ++ more) [])) r) same (h more can))

-- The words of an image that was loaded lie within the store.
pub store_fits : (ds : List Definition) (image : Image) → load_fault ds ≡ None → IsLoadedFrom ds image → length image.words ≤ 65536
store_fits ds image loads l =
    let long : length image.words ≡ data_end (map shape_of ds) = ap length l.words ∙ length-words (address_in (addresses (map shape_of ds))) ds in
    omega (arith, long, data_fit ds loads)

some_same : {A : Type 0} (a b : A) → Some a ≡ Some b → a ≡ b
some_same a b e = cc

-- what holds of a result that is given
pub ok_given : {A E : Type 0} (r : Result A E) (x : A) (P : A → Type 0) → Some x ≡ result_ok r → IfOk r P → P x
ok_given (Ok y) x P is h = subst P (some_same y x (sym is)) h
ok_given (Err e) x P is h = cc
