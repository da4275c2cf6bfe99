-- The slices of a session are one run, with the words that are stored between them.
use Rattle.std.proofs.Common.{◌≡◌, ◌∙◌, ℕ, ◌+◌, ◌-◌, ◌≤◌, false, true, List, [], ◌∷◌, ◌++◌, append-nil, append_assoc, ap, arith, refl, subst, sym}
use Rattle.std.specs.Prelude.{slice_set}
use Rattle.std.proofs.lemmas.Bool.{both_ways}
use Rattle.blang.specs.Layout.{Exited, Trapped}
use Rattle.blang.specs.Machine.{Halted, Image, Running, State, Stuck, steps}
use Rattle.bmach.specs.Slices.{after_pause}
use Rattle.bmach.specs.Stepping.{Paused, machine_at}
use Rattle.bmach.proofs.Running.{steps_add}
use Rattle.bsession.specs.Sessions.{BeginsSession, SessionContinues, SliceComesTo, Goes, SliceMade, SessionView, IsStateOf, HasImage, Lost, MayCome, Over, SessionState, stored_in}
use Rattle.bsession.specs.SessionRuns.{ComesBy, Continued, Deed, DeedDoes, OneRun, StoredWord, WasClosed, WasFed, WasLimited, WasStored, WasTaken, all_fed, all_stored, all_taken, fed_by, run_with, stored_by, taken_by, with_word_in}
use Rattle.bsession.specs.declared.session.Limits.{Limits}
use Rattle.bsession.specs.declared.session.SliceEnd.{SliceEnd}
use Rattle.bsession.specs.declared.session.SliceEnd.TheVariants as end

-- no word was stored later than after so many steps
abbrev StoredWithin : List StoredWord → ℕ → Type 0
StoredWithin [] n = Unit {0}
StoredWithin (it ∷ earlier) n = it.after ≤ n

within_more : (stored : List StoredWord) (n k : ℕ) → n ≤ k → StoredWithin stored n → StoredWithin stored k
within_more [] n k le within = tt
within_more (it ∷ earlier) n k le within = omega (arith, le, within)

-- more steps, with no word stored among them
with_steps : (image : Image) (stored : List StoredWord) (input : List ℕ) (n k : ℕ) → StoredWithin stored n
    → run_with image stored input (n + k) ≡ steps image k (run_with image stored input n)
with_steps image [] input n k within = steps_add image n k _
with_steps image (it ∷ earlier) input n k within =
    let s : State = with_word_in (run_with image earlier input it.after) it.address it.word in
    let left : (n + k) - it.after ≡ (n - it.after) + k = omega (arith, within) in
    ap (λ m. steps image m s) left ∙ steps_add image (n - it.after) k s

-- a word more
with_stored : (image : Image) (it : StoredWord) (stored : List StoredWord) (input : List ℕ) (n : ℕ) → n ≡ it.after
    → run_with image (it ∷ stored) input n ≡ with_word_in (run_with image stored input n) it.address it.word
with_stored image it stored input n same =
    let none : n - it.after ≡ 0 = omega (arith, same) in
    ap (λ m. steps image m (with_word_in (run_with image stored input it.after) it.address it.word)) none
    ∙ ap (λ m. with_word_in (run_with image stored input m) it.address it.word) (sym same)

stored_state : (t : SessionState) (left written : List ℕ) (s : State) (address word : ℕ) → IsStateOf t left written s
    → IsStateOf (stored_in t address word) left written (with_word_in s address word)
stored_state (Goes p) left written s address word is = ap (λ t. with_word_in t address word) is
stored_state (Over stop p) left written (Running call below w) address word is =
    (record { outcome = is.0.outcome; left = is.0.left; written = is.0.written }, ap (λ ws. slice_set ws address word) is.1)
stored_state (Over stop p) left written (Halted (Exited status) w) address word is =
    (record { outcome = is.0.outcome; left = is.0.left; written = is.0.written }, ap (λ ws. slice_set ws address word) is.1)
stored_state (Over stop p) left written (Halted (Trapped kind) w) address word is =
    (record { outcome = is.0.outcome; left = is.0.left; written = is.0.written }, ap (λ ws. slice_set ws address word) is.1)
stored_state (Over stop p) left written (Stuck w) address word is =
    (record { outcome = is.0.outcome; left = is.0.left; written = is.0.written }, ap (λ ws. slice_set ws address word) is.1)
stored_state Lost left written s address word is = tt

stored_image : (image : Image) (t : SessionState) (address word : ℕ) → HasImage image t → HasImage image (stored_in t address word)
stored_image image (Goes p) address word has = has
stored_image image (Over stop p) address word has = tt
stored_image image Lost address word has = tt

-- A session stands where the machine is, after all that was fed, taken and stored.
record Stands (image : Image) (h : SessionView) (fed taken : List ℕ) (stored : List StoredWord) : Type 0 where
  of : HasImage image h.state
  within : (p : Paused) → h.state ≡ Goes p → StoredWithin stored h.steps
  at : (rest : List ℕ) → MayCome h rest
      → IsStateOf h.state (h.unread ++ rest) (taken ++ h.output) (run_with image stored (fed ++ rest) h.steps)

module _ (image : Image) (old new : SessionView) (fed taken : List ℕ) (stored : List StoredWord)
    (s : Stands image old fed taken stored) where
  fed_stands : (bytes : List ℕ) → old.is_closed ≡ false → new ≡ record old { unread = old.unread ++ bytes }
      → Stands image new (fed ++ bytes) taken stored
  fed_stands bytes is_open is = subst (λ h. Stands image h (fed ++ bytes) taken stored) (sym is) (record {
    of = s.of;
    within = s.within;
    at = λ rest may.
        subst (λ f. IsStateOf old.state ((old.unread ++ bytes) ++ rest) (taken ++ old.output) (run_with image stored f old.steps)) (sym (append_assoc fed bytes rest))
        (subst (λ u. IsStateOf old.state u (taken ++ old.output) (run_with image stored (fed ++ (bytes ++ rest)) old.steps)) (sym (append_assoc old.unread bytes rest))
        (s.at (bytes ++ rest) (λ closed. absurd (both_ways old.is_closed is_open closed))));
  })

  closed_stands : new ≡ record old { is_closed = true } → Stands image new fed taken stored
  closed_stands is = subst (λ h. Stands image h fed taken stored) (sym is)
      (record { of = s.of; within = s.within; at = λ rest may. s.at rest (λ closed. may refl) })

  limited_stands : (limits : Limits) → new ≡ record old { limits = limits } → Stands image new fed taken stored
  limited_stands limits is =
      subst (λ h. Stands image h fed taken stored) (sym is) (record { of = s.of; within = s.within; at = s.at })

  taken_stands : (bytes : List ℕ) → old.output ≡ bytes ++ new.output → new ≡ record old { output = new.output }
      → Stands image new fed (taken ++ bytes) stored
  taken_stands bytes all is = subst (λ h. Stands image h fed (taken ++ bytes) stored) (sym is) (record {
    of = s.of;
    within = s.within;
    at = λ rest may.
        subst (λ o. IsStateOf old.state (old.unread ++ rest) o (run_with image stored (fed ++ rest) old.steps))
        (ap (λ o. taken ++ o) all ∙ sym (append_assoc taken bytes new.output)) (s.at rest may);
  })

  stored_stands : (it : StoredWord) → old.steps ≡ it.after
      → new ≡ record old { state = stored_in old.state it.address it.word } → Stands image new fed taken (it ∷ stored)
  stored_stands it same is = subst (λ h. Stands image h fed taken (it ∷ stored)) (sym is) (record {
    of = stored_image image old.state it.address it.word s.of;
    within = λ p goes. omega (arith, same);
    at = λ rest may.
        subst (IsStateOf (stored_in old.state it.address it.word) (old.unread ++ rest) (taken ++ old.output))
        (sym (with_stored image it stored (fed ++ rest) old.steps same))
        (stored_state old.state (old.unread ++ rest) (taken ++ old.output) (run_with image stored (fed ++ rest) old.steps)
        it.address it.word (s.at rest may));
  })

  -- the machine after the steps of a slice
  went : (p : Paused) (n : ℕ) (why : SliceEnd) → old.state ≡ Goes p → SliceMade p old new n why → Stands image new fed taken stored
  went p n why is g = record {
    of = subst (λ i. HasImage i new.state) of_is g.image;
    within = λ q goes. within_more stored old.steps new.steps (let more = g.counted in omega (arith, more)) (s.within p is);
    at = λ rest may. after rest (subst (λ c. c ≡ true → rest ≡ []) g.same may);
  }
    where
      of_is : p.image ≡ image
      of_is = subst (HasImage image) is s.of

      here : (rest : List ℕ) → MayCome old rest
          → run_with image stored (fed ++ rest) old.steps ≡ machine_at p (old.unread ++ rest) (taken ++ old.output)
      here rest may =
          subst (λ t. IsStateOf t (old.unread ++ rest) (taken ++ old.output) (run_with image stored (fed ++ rest) old.steps)) is
          (s.at rest may)

      then_is : (rest : List ℕ) → MayCome old rest
          → run_with image stored (fed ++ rest) new.steps ≡ after_pause p g.made (old.unread ++ rest) (taken ++ old.output)
      then_is rest may =
          ap (run_with image stored (fed ++ rest)) g.counted
          ∙ with_steps image stored (fed ++ rest) old.steps g.made (s.within p is)
          ∙ ap (steps image g.made) (here rest may)
          ∙ ap (λ i. steps i g.made (machine_at p (old.unread ++ rest) (taken ++ old.output))) (sym of_is)

      after : (rest : List ℕ) → MayCome old rest
          → IsStateOf new.state (new.unread ++ rest) (taken ++ new.output) (run_with image stored (fed ++ rest) new.steps)
      after rest may =
          subst (IsStateOf new.state (new.unread ++ rest) (taken ++ new.output)) (sym (then_is rest may))
          (subst (λ o. IsStateOf new.state (new.unread ++ rest) o (after_pause p g.made (old.unread ++ rest) (taken ++ old.output)))
          (append_assoc taken old.output g.written ∙ ap (λ o. taken ++ o) (sym g.output))
          (g.comes rest (taken ++ old.output) may))

  lost_stands : new.state ≡ Lost → Stands image new fed taken stored
  lost_stands is = record {
    of = subst (HasImage image) (sym is) tt;
    within = λ p goes. let no : Lost ≡ Goes p = sym is ∙ goes in cc;
    at = λ rest may.
        subst (λ t. IsStateOf t (new.unread ++ rest) (taken ++ new.output) (run_with image stored (fed ++ rest) new.steps)) (sym is) tt;
  }

  same_stands : new ≡ old → Stands image new fed taken stored
  same_stands is = subst (λ h. Stands image h fed taken stored) (sym is) s

  gave : (p : Paused) (n : ℕ) (why : SliceEnd) → old.state ≡ Goes p → SliceComesTo p old new n why → Stands image new fed taken stored
  gave p n end.Memory is g = lost_stands g.lost
  gave p n end.Limit is g = went p n end.Limit is g
  gave p n end.WantsInput is g = went p n end.WantsInput is g
  gave p n (end.Holds what) is g = went p n (end.Holds what) is g
  gave p n (end.Halted status) is g = went p n (end.Halted status) is g
  gave p n (end.Trapped kind) is g = went p n (end.Trapped kind) is g

  continued : (n : ℕ) (why : SliceEnd) (t : SessionState) → old.state ≡ t → SessionContinues t old new n why → Stands image new fed taken stored
  continued n why (Goes p) is g = gave p n why is g
  continued n why (Over stop p) is g = same_stands g.0
  continued n why Lost is g = same_stands g.0

  -- what leaves what was fed and taken as it was
  with_none : (its : List StoredWord) → Stands image new fed taken its → Stands image new (fed ++ []) (taken ++ []) its
  with_none its t =
      subst (λ f. Stands image new f (taken ++ []) its) (sym (append-nil fed))
      (subst (λ w. Stands image new fed w its) (sym (append-nil taken)) t)

  done : (deed : Deed) → DeedDoes deed old new
      → Stands image new (fed ++ fed_by deed) (taken ++ taken_by deed) (stored_by deed ++ stored)
  done (Continued n why) d = with_none stored (continued n why old.state refl d)
  done (WasFed bytes) d =
      subst (λ w. Stands image new (fed ++ bytes) w stored) (sym (append-nil taken)) (fed_stands bytes d.0 d.1)
  done WasClosed d = with_none stored (closed_stands d)
  done (WasLimited limits) d = with_none stored (limited_stands limits d)
  done (WasTaken bytes) d =
      subst (λ f. Stands image new f (taken ++ bytes) stored) (sym (append-nil fed)) (taken_stands bytes d.0 d.1)
  done (WasStored it) d = with_none (it ∷ stored) (stored_stands it d.0 d.1)

all_done : (image : Image) (deeds : List Deed) (old new : SessionView) (fed taken : List ℕ) (stored : List StoredWord)
    → Stands image old fed taken stored → ComesBy old deeds new
    → Stands image new (fed ++ all_fed deeds) (taken ++ all_taken deeds) (all_stored deeds ++ stored)
all_done image [] old new fed taken stored s is =
    subst (λ f. Stands image new f (taken ++ []) stored) (sym (append-nil fed))
    (subst (λ w. Stands image new fed w stored) (sym (append-nil taken)) (subst (λ h. Stands image h fed taken stored) (sym is) s))
all_done image (deed ∷ deeds) old new fed taken stored s (between, d, ds) =
    let its = all_stored deeds ++ (stored_by deed ++ stored) in
    subst (λ ws. Stands image new (fed ++ (fed_by deed ++ all_fed deeds)) (taken ++ (taken_by deed ++ all_taken deeds)) ws) (sym (append_assoc (all_stored deeds) (stored_by deed) stored))
    (subst (λ f. Stands image new f (taken ++ (taken_by deed ++ all_taken deeds)) its) (append_assoc fed (fed_by deed) (all_fed deeds))
    (subst (λ t. Stands image new ((fed ++ fed_by deed) ++ all_fed deeds) t its) (append_assoc taken (taken_by deed) (all_taken deeds))
    (all_done image deeds between new (fed ++ fed_by deed) (taken ++ taken_by deed) (stored_by deed ++ stored) (done image old between fed taken stored s deed d) ds)))

begun : (image : Image) (h : SessionView) → BeginsSession image h → Stands image h [] [] []
begun image h b = record {
  of = subst (HasImage image) (sym b.stands) b.unstarted.image_is;
  within = λ p goes. tt;
  at = λ rest may.
      rw (b.stands, b.unread, b.output, b.steps) (b.unstarted.first rest);
}

pub one_run : OneRun
one_run image first deeds last begins comes =
    (subst (Stands image last (all_fed deeds) (all_taken deeds)) (append-nil (all_stored deeds))
    (all_done image deeds first last [] [] [] (begun image first begins) comes)).at
