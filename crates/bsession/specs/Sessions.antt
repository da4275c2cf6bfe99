-- Promise: a program that runs in slices, between which its input is fed and its output is taken.
use Rattle.std.specs.Prelude.{◌≡◌, ◌≢◌, ◌⊎◌, ℕ, ◌+◌, ◌-◌, ◌*◌, ◌<◌, ◌≤◌, min, Bool, true, false, List, [], ◌∷◌, ◌++◌, drop, if◌then◌else◌, length, Option, Some, None}
use Rattle.std.specs.Prelude.{◌==◌, ◌||◌, not, option_map, slice_get, slice_index, suc, zero, ⊤}
use Rattle.std.proofs.Common.{arith}
use Rattle.bword.specs.ByteEnds.{Incoming, most}
use Rattle.bword.specs.Words.{flag_of}
use Rattle.blang.specs.declared.run.Outcome.{Outcome}
use Rattle.blang.specs.declared.run.Outcome.TheVariants as outcome
use Rattle.blang.specs.Machine.{Image, Running, State, state_world, steps}
use Rattle.blang.specs.Reports.{AsksForByte, Shows}
use Rattle.bmach.specs.Slices.{after_pause, output_after, with_word_at}
use Rattle.bmach.specs.Stepping.{IsUnstarted, Paused, machine_at, operand_sum, operands_held}
use Rattle.bmach.specs.Stops.{RunsCall, active_of}
use Rattle.bmach.specs.declared.advance.TheConstants.{MOST_STEPS}
use Rattle.bmach.specs.declared.machine.Active.{Active}
use Rattle.bmach.specs.declared.machine.Stop.{Stop}
use Rattle.bsession.specs.declared.session.FeedFault.{FeedFault}
use Rattle.bsession.specs.declared.session.FeedFault.TheVariants as feed_fault
use Rattle.bsession.specs.declared.session.Held.{Held}
use Rattle.bsession.specs.declared.session.Held.TheVariants as held
use Rattle.bsession.specs.declared.session.Limits.{Limits}
use Rattle.bsession.specs.declared.session.SliceEnd.{SliceEnd}
use Rattle.bsession.specs.declared.session.SliceEnd.TheVariants as end
use Rattle.bsession.specs.declared.session.Stand.{Stand}
use Rattle.bsession.specs.declared.session.TheConstants.{PART_STEPS}
use Rattle.bsession.specs.declared.session.Stand.TheVariants as stand

-- An input that is fed: the bytes that it hasn't given, whether more can come, whether its end was answered, and how many
-- of its calls have failed.
pub record Fed : Type 0 where
  pub unread : List ℕ
  pub is_closed : Bool
  pub is_over : Bool
  pub failures : ℕ

abbrev pub fed_incoming : Fed → Incoming
fed_incoming f = record {
  left = Some f.unread;
  is_over = f.is_over;
  failures = f.failures;
  bound = min (length f.unread) most;
}

abbrev pub closed_mark : Fed → List ℕ
closed_mark f = if f.is_closed then 1 ∷ [] else []

pub fed_bounded : (f : Fed) → (fed_incoming f).bound ≤ most
fed_bounded f = omega arith

-- Where a session stands: it can go on; or it is over, and came to this; or it is lost, since memory was refused.
pub data SessionState : Type 0 where
  Goes : Paused → SessionState
  Over : Stop → Paused → SessionState
  Lost : SessionState

abbrev pub state_of : Stand → SessionState
state_of (stand.Goes p) = Goes p
state_of (stand.Over stop p) = Over stop p
state_of stand.Lost = Lost

-- A session: where it stands, the input that was fed and not read, whether no more is fed, the output that wasn't taken,
-- how many steps were made, and how much it may hold.
pub record SessionView : Type 0 where
  pub state : SessionState
  pub unread : List ℕ
  pub is_closed : Bool
  pub output : List ℕ
  pub steps : ℕ
  pub limits : Limits

abbrev pub session_view : Stand → Fed → (written : List ℕ) → (taken steps : ℕ) → Limits → SessionView
session_view s f written taken steps limits = record {
  state = state_of s;
  unread = f.unread;
  is_closed = f.is_closed;
  output = drop taken written;
  steps = steps;
  limits = limits;
}

-- a session may hold all that it can
abbrev pub no_limits : Limits
no_limits = record { operands = most; pages = 256; output = most }

-- a session before the first step of a program, with no input yet, and without limits
pub record BeginsSession (image : Image) (h : SessionView) : Type 0 where
  pub first : Paused
  pub stands : h.state ≡ Goes first
  pub unstarted : IsUnstarted image first
  pub unread : h.unread ≡ []
  pub is_open : h.is_closed ≡ false
  pub output : h.output ≡ []
  pub steps : h.steps ≡ 0
  pub limits : h.limits ≡ no_limits

-- these bytes may still come after those that were fed
abbrev pub MayCome : SessionView → List ℕ → Type 0
MayCome h rest = h.is_closed ≡ true → rest ≡ []

-- A session that stands there is at this state of the machine, with this input left and this output.
abbrev pub IsStateOf : SessionState → (left written : List ℕ) → State → Type 0
IsStateOf (Goes p) left written s = s ≡ machine_at p left written
IsStateOf (Over stop p) left written s = Shows stop.outcome left written s × ((state_world s).store ≡ p.store)
IsStateOf Lost left written s = Unit {0}

-- a session that can go on has this image
abbrev pub HasImage : Image → SessionState → Type 0
HasImage image (Goes p) = p.image ≡ image
HasImage image other = Unit {0}

-- how many of so many steps a session makes at most
abbrev pub allowed : SessionView → ℕ → ℕ
allowed h n = min (min n MOST_STEPS) (most - h.steps)

-- the machine runs this call, above so many others
abbrev pub RunsAbove : State → Active → ℕ → Type 0
RunsAbove s call depth = (runs : RunsCall s call) × (length runs.below ≡ depth)

-- A session was over with the last of the steps made from a pause, and the call ran before it that is told, above as many
-- as are told.
pub record IsSessionOver (p : Paused) (old new : SessionView) (made : ℕ) (result : Outcome) : Type 0 where
  pub last : ℕ
  pub made_is : made ≡ last + 1
  pub stop : Stop
  pub there : Paused
  pub stands : new.state ≡ Over stop there
  pub outcome_is : stop.outcome ≡ result
  pub ran : (rest before : List ℕ) → MayCome old rest
      → RunsAbove (after_pause p last (old.unread ++ rest) before) stop.call (length there.below)

-- The session waits for a byte before this step.
abbrev pub WaitsAt : SessionView → Paused → Type 0
WaitsAt h there = (h.unread ≡ []) × (h.is_closed ≡ false)
    × ((left written : List ℕ) → AsksForByte (machine_at there left written))

-- A slice looks at what is held there: after whole parts of it, or after all steps, or where it waits for a byte.
abbrev pub LooksAfter : (old new : SessionView) → (there : Paused) → (n made : ℕ) → Type 0
LooksAfter old new there n made =
    ((parts : ℕ) × (made ≡ parts * PART_STEPS)) ⊎ (made ≡ allowed old n) ⊎ WaitsAt new there

-- why a slice ends after so many steps from a pause
abbrev pub EndsFor : Paused → (old new : SessionView) → (n made : ℕ) → SliceEnd → Type 0
EndsFor p old new n made end.Limit = (made ≡ allowed old n) × ((there : Paused) × (new.state ≡ Goes there))
EndsFor p old new n made end.WantsInput =
    (made < n) × ((there : Paused) × (new.state ≡ Goes there) × WaitsAt new there)
EndsFor p old new n made (end.Halted status) = IsSessionOver p old new made (outcome.Exit status)
EndsFor p old new n made (end.Trapped kind) = IsSessionOver p old new made (outcome.Trap kind)
EndsFor p old new n made (end.Holds what) =
    (there : Paused) × (new.state ≡ Goes there) × LooksAfter old new there n made
EndsFor p old new n made end.Memory = ⊥

-- A session makes so many steps from a pause, which read and write what the machine reads and writes, whatever comes after
-- the input that was fed.
pub record SliceMade (p : Paused) (old new : SessionView) (n : ℕ) (why : SliceEnd) : Type 0 where
  pub made : ℕ
  pub within : made ≤ allowed old n
  pub counted : new.steps ≡ old.steps + made
  pub taken : List ℕ
  pub read : old.unread ≡ taken ++ new.unread
  pub written : List ℕ
  pub output : new.output ≡ old.output ++ written
  pub same : new.is_closed ≡ old.is_closed
  pub limits : new.limits ≡ old.limits
  pub image : HasImage p.image new.state
  pub comes : (rest before : List ℕ) → MayCome old rest
      → IsStateOf new.state (new.unread ++ rest) (before ++ written) (after_pause p made (old.unread ++ rest) before)
  pub ends : EndsFor p old new n made why

-- a list of bytes begins with another
abbrev pub BeginsWith : (whole part : List ℕ) → Type 0
BeginsWith whole part = (more : List ℕ) × (whole ≡ part ++ more)

-- A session was lost in the step after so many. All of the output is there that the steps before it write, and of what it
-- writes itself a beginning at most. Some of the input was read, and fewer steps are counted than it may make.
pub record IsLostAfter (p : Paused) (old new : SessionView) (n : ℕ) : Type 0 where
  pub lost : new.state ≡ Lost
  pub same : new.is_closed ≡ old.is_closed
  pub limits : new.limits ≡ old.limits
  pub counted : (more : ℕ) × (more < allowed old n) × (new.steps ≡ old.steps + more)
  pub taken : List ℕ
  pub read : old.unread ≡ taken ++ new.unread
  pub made : ℕ
  pub within : made ≤ allowed old n
  pub last : ℕ
  pub near : last ≤ made + 1
  pub written : List ℕ
  pub output : new.output ≡ old.output ++ written
  pub all : (rest before : List ℕ) → MayCome old rest
      → BeginsWith (before ++ written) (output_after p made (old.unread ++ rest) before)
  pub no_more : (rest before : List ℕ) → MayCome old rest
      → BeginsWith (output_after p last (old.unread ++ rest) before) (before ++ written)

-- where a session stands after a slice of a run that came to this
abbrev pub state_after : Outcome → Stop → Paused → SessionState
state_after (outcome.Exit status) stop p = Over stop p
state_after (outcome.Trap kind) stop p = Over stop p
state_after outcome.Limit stop p = Goes p
state_after outcome.Device stop p = Goes p
state_after outcome.Memory stop p = Lost

-- how many steps of a part are counted: the one in which memory was refused isn't
abbrev pub counted : Outcome → (steps part : ℕ) → ℕ
counted outcome.Memory steps part = min steps (part - 1)
counted other steps part = steps

-- whether all steps were made of a run that came to this
abbrev pub is_limit : Outcome → Bool
is_limit outcome.Limit = true
is_limit other = false

-- whether a run that came to this can go on
abbrev pub can_go_on : Outcome → Bool
can_go_on outcome.Limit = true
can_go_on outcome.Device = true
can_go_on other = false

-- an input that is closed takes no bytes, and tells it; memory is asked for where there are some
abbrev pub IsUnfed : FeedFault → (is_closed : Bool) → (bytes : List ℕ) → Type 0
IsUnfed feed_fault.Closed is_closed bytes = is_closed ≡ true
IsUnfed feed_fault.Memory is_closed bytes = (is_closed ≡ false) × (bytes ≢ [])

-- the answer of a session that is over
abbrev pub end_of : Outcome → SliceEnd
end_of (outcome.Exit status) = end.Halted status
end_of (outcome.Trap kind) = end.Trapped kind
end_of outcome.Limit = end.Limit
end_of outcome.Device = end.WantsInput
end_of outcome.Memory = end.Memory

-- what comes of so many steps at most, by the answer
abbrev pub SliceComesTo : Paused → (old new : SessionView) → (n : ℕ) → SliceEnd → Type 0
SliceComesTo p old new n end.Memory = IsLostAfter p old new n
SliceComesTo p old new n why = SliceMade p old new n why

-- a session that is over or lost stays as it is
abbrev pub SessionContinues : SessionState → (old new : SessionView) → (n : ℕ) → SliceEnd → Type 0
SessionContinues (Goes p) old new n why = SliceComesTo p old new n why
SessionContinues (Over stop p) old new n why = (new ≡ old) × (why ≡ end_of stop.outcome)
SessionContinues Lost old new n why = (new ≡ old) × (why ≡ end.Memory)

-- a session can go on
abbrev pub IsGoing : SessionState → Type 0
IsGoing state = (p : Paused) × (state ≡ Goes p)

-- whether one of so many words from an address on is another one than 0
unfoldable pub has_word : List ℕ → (first count : ℕ) → Bool
has_word words first zero = false
has_word words first (suc n) = has_word words first n || not (slice_index words (first + n) == 0)

-- how many of so many pages of 256 words have one
unfoldable pub pages_with_words : List ℕ → (count : ℕ) → ℕ
pages_with_words words zero = 0
pages_with_words words (suc n) = pages_with_words words n + flag_of (has_word words (256 * n) 256)

-- how many pages of a store do
abbrev pub pages_held : List ℕ → ℕ
pages_held words = pages_with_words words 256

-- A session that stands there holds no more than it may.
pub record HoldsNoMore (p : Paused) (h : SessionView) : Type 0 where
  pub operands : operands_held p ≤ h.limits.operands
  pub pages : pages_held p.store ≤ h.limits.pages
  pub output : length h.output ≤ h.limits.output

-- it holds more of this than it may
abbrev pub HoldsMore : Paused → SessionView → Held → Type 0
HoldsMore p h held.Operands = h.limits.operands < operands_held p
HoldsMore p h held.Pages = h.limits.pages < pages_held p.store
HoldsMore p h held.Output = h.limits.output < length h.output

-- what of a session that can go on is more than it may hold
abbrev pub PassesAt : SessionState → SessionView → Option Held → Type 0
PassesAt (Goes p) h None = HoldsNoMore p h
PassesAt (Goes p) h (Some what) = HoldsMore p h what
PassesAt other h what = what ≡ None

-- A slice that ends where the session can go on ends for what the session holds more of than it may, if there is such.
abbrev pub KeepsLimits : SessionView → SliceEnd → Type 0
KeepsLimits h end.Limit = PassesAt h.state h None
KeepsLimits h end.WantsInput = PassesAt h.state h None
KeepsLimits h (end.Holds what) = PassesAt h.state h (Some what)
KeepsLimits h other = ⊤

-- how many operands all calls of the machine have
abbrev pub operands_in : State → ℕ
operands_in (Running call below w) = operand_sum (call ∷ below)
operands_in other = 0

-- The machine has no more of anything there than it may.
pub record KeepsWithin (limits : Limits) (s : State) : Type 0 where
  pub operands : operands_in s ≤ limits.operands
  pub pages : pages_held (state_world s).store ≤ limits.pages
  pub output : length (state_world s).output ≤ limits.output

-- A slice goes on, before its first step and after each part, only where the machine has no more than it may.
abbrev pub GoesOnWithin : SessionState → (old new : SessionView) → Type 0
GoesOnWithin (Goes p) old new =
    (parts : ℕ) → old.steps + parts * PART_STEPS < new.steps → (rest : List ℕ) → MayCome old rest
    → KeepsWithin old.limits (after_pause p (parts * PART_STEPS) (old.unread ++ rest) old.output)
GoesOnWithin other old new = ⊤

-- the call that runs, or that ran before the step that ended the run
abbrev pub call_in : SessionState → Option Active
call_in (Goes p) = Some (active_of p.call)
call_in (Over stop p) = Some stop.call
call_in Lost = None

-- how many calls are below it
abbrev pub callers_in : SessionState → ℕ
callers_in (Goes p) = length p.below
callers_in (Over stop p) = length p.below
callers_in Lost = 0

-- one of the calls below it, of which the nearest has number 0
abbrev pub caller_in : SessionState → (number : ℕ) → Option Active
caller_in (Goes p) number = option_map active_of (slice_get p.below number)
caller_in (Over stop p) number = option_map active_of (slice_get p.below number)
caller_in Lost number = None

abbrev pub word_in : SessionState → (address : ℕ) → Option ℕ
word_in (Goes p) address = Some (slice_index p.store address)
word_in (Over stop p) address = Some (slice_index p.store address)
word_in Lost address = None

-- a session that isn't lost
abbrev pub IsThere : SessionState → Type 0
IsThere Lost = ⊥
IsThere other = ⊤

-- Memory for a word is asked for only where the word there is another one.
abbrev pub AsksForRoom : SessionState → (address word : ℕ) → Type 0
AsksForRoom state address word = word_in state address ≢ Some word

-- a session with a word stored
abbrev pub stored_in : SessionState → (address word : ℕ) → SessionState
stored_in (Goes p) address word = Goes (with_word_at p address word)
stored_in (Over stop p) address word = Over stop (with_word_at p address word)
stored_in Lost address word = Lost
