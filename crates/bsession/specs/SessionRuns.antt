-- Promise: the slices of a session are one run.
use Rattle.std.specs.Prelude.{◌≡◌, ◌+◌, ◌-◌, ◌≤◌, ℕ, false, true, List, [], ◌∷◌, ◌++◌}
use Rattle.bword.specs.ByteEnds.{most}
use Rattle.blang.specs.Layout.{with_word}
use Rattle.blang.specs.Machine.{Halted, Image, Running, State, Stuck, run, steps}
use Rattle.bmach.specs.Stepping.{Paused, machine_at}
use Rattle.bmach.specs.declared.advance.TheConstants.{MOST_STEPS}
use Rattle.bsession.specs.Sessions.{BeginsSession, SessionContinues, Goes, SessionView, IsStateOf, MayCome}
use Rattle.bsession.specs.Sessions.{SessionState, stored_in}
use Rattle.bsession.specs.declared.session.Limits.{Limits}
use Rattle.bsession.specs.declared.session.SliceEnd.{SliceEnd}
use Rattle.bsession.specs.declared.session.SliceEnd.TheVariants as end

-- a word that is stored at an address, after so many steps of all
pub record StoredWord : Type 0 where
  pub after : ℕ
  pub address : ℕ
  pub word : ℕ

-- What is done with a session: it makes so many steps at most, and ends; or it is fed, or its input is closed; or it is
-- told how much it may hold; or these bytes of its output are taken; or a word is stored.
pub data Deed : Type 0 where
  Continued : (steps : ℕ) → SliceEnd → Deed
  WasFed : (bytes : List ℕ) → Deed
  WasClosed : Deed
  WasLimited : Limits → Deed
  WasTaken : (bytes : List ℕ) → Deed
  WasStored : StoredWord → Deed

-- what a deed makes of a session, by what its calls promise
abbrev pub DeedDoes : Deed → (old new : SessionView) → Type 0
DeedDoes (Continued steps why) old new = SessionContinues old.state old new steps why
DeedDoes (WasFed bytes) old new = (old.is_closed ≡ false) × (new ≡ record old { unread = old.unread ++ bytes })
DeedDoes WasClosed old new = new ≡ record old { is_closed = true }
DeedDoes (WasLimited limits) old new = new ≡ record old { limits = limits }
DeedDoes (WasTaken bytes) old new = (old.output ≡ bytes ++ new.output) × (new ≡ record old { output = new.output })
DeedDoes (WasStored it) old new =
    (old.steps ≡ it.after) × (new ≡ record old { state = stored_in old.state it.address it.word })

-- one deed after another
abbrev pub ComesBy : (old : SessionView) → List Deed → (new : SessionView) → Type 0
ComesBy old [] new = new ≡ old
ComesBy old (deed ∷ deeds) new = (between : SessionView) × DeedDoes deed old between × ComesBy between deeds new

-- what was fed by a deed, taken, and stored
abbrev pub fed_by : Deed → List ℕ
fed_by (WasFed bytes) = bytes
fed_by other = []

abbrev pub taken_by : Deed → List ℕ
taken_by (WasTaken bytes) = bytes
taken_by other = []

abbrev pub stored_by : Deed → List StoredWord
stored_by (WasStored it) = it ∷ []
stored_by other = []

-- and by all of them
abbrev pub all_fed : List Deed → List ℕ
all_fed [] = []
all_fed (deed ∷ deeds) = fed_by deed ++ all_fed deeds

abbrev pub all_taken : List Deed → List ℕ
all_taken [] = []
all_taken (deed ∷ deeds) = taken_by deed ++ all_taken deeds

-- all words that were stored, the last one first
abbrev pub all_stored : List Deed → List StoredWord
all_stored [] = []
all_stored (deed ∷ deeds) = all_stored deeds ++ stored_by deed

-- the machine with a word stored
abbrev pub with_word_in : State → (address word : ℕ) → State
with_word_in (Running call below w) address word = Running call below (with_word w address word)
with_word_in (Halted e w) address word = Halted e (with_word w address word)
with_word_in (Stuck w) address word = Stuck (with_word w address word)

-- The machine into which words are stored, the last one first, after so many steps of all: with no words it is its run.
-- From each word on it makes its steps as from any state.
abbrev pub run_with : Image → List StoredWord → (input : List ℕ) → ℕ → State
run_with image [] input n = run image input n
run_with image (it ∷ earlier) input n =
    steps image (n - it.after) (with_word_in (run_with image earlier input it.after) it.address it.word)

-- Whatever is done with a session, it stands where the machine is after as many steps as were made, on all that was fed
-- and whatever may come after it, with the words that were stored. What the machine has read isn't left, and what it
-- has written was taken or is there.
abbrev pub OneRun : Type 0
OneRun =
    (image : Image) (first : SessionView) (deeds : List Deed) (last : SessionView)
    → BeginsSession image first → ComesBy first deeds last → (rest : List ℕ) → MayCome last rest
    → IsStateOf last.state (last.unread ++ rest) (all_taken deeds ++ last.output)
    (run_with image (all_stored deeds) (all_fed deeds ++ rest) last.steps)

-- both can go on, in the same call, above the same ones, and with the same words
abbrev pub GoAlike : SessionState → SessionState → Type 0
GoAlike (Goes p) (Goes q) = machine_at p [] [] ≡ machine_at q [] []
GoAlike other another = ⊥

-- The same input is left, the same output wasn't taken, as many steps were made, and both go on alike.
pub record AreAlike (g h : SessionView) : Type 0 where
  pub unread : g.unread ≡ h.unread
  pub output : g.output ≡ h.output
  pub steps : g.steps ≡ h.steps
  pub go : GoAlike g.state h.state

-- Where all steps of two slices were made, one slice of as many leaves the same.
abbrev pub TwoAreOne : Type 0
TwoAreOne =
    (old between two one : SessionView) (p : Paused) (n k : ℕ) → old.state ≡ Goes p → n + k ≤ MOST_STEPS
    → old.steps + (n + k) ≤ most
    → SessionContinues old.state old between n end.Limit → SessionContinues between.state between two k end.Limit
    → SessionContinues old.state old one (n + k) end.Limit → AreAlike two one
