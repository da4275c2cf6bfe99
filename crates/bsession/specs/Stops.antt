-- Promise: a session makes its steps up to the first one before which it stops.
use Rattle.std.specs.List.{list_any}
use Rattle.std.specs.Prelude.{◌≡◌, ℕ, ◌<◌, ◌==◌, ◌&&◌, ◌||◌, nat_le, nat_lt, not, Bool, false, true, List, slice_index}
use Rattle.std.specs.Prelude.{suc, zero, length, ⊤}
use Rattle.bmach.specs.Stepping.{Paused}
use Rattle.bmach.specs.Stops.{active_of}
use Rattle.bmach.specs.declared.machine.Active.{Active}
use Rattle.bsession.specs.Sessions.{Goes, GoesOnWithin, KeepsLimits, SessionContinues, SessionState, SessionView}
use Rattle.bsession.specs.declared.session.SliceEnd.{SliceEnd}
use Rattle.bsession.specs.declared.session.SliceEnd.TheVariants as end
use Rattle.bsession.specs.declared.session.StopEnd.{StopEnd}
use Rattle.bsession.specs.declared.session.StopEnd.TheVariants as stop_end
use Rattle.bsession.specs.declared.stops.CodePlace.{CodePlace}
use Rattle.bsession.specs.declared.stops.Stops.{Stops}
use Rattle.bsession.specs.declared.stops.WatchedWord.{WatchedWord}

-- before which steps a slice stops, as `Stops` tells it
pub record StopSet : Type 0 where
  pub places : List CodePlace
  pub near : List CodePlace
  pub callers : ℕ
  pub returned : ℕ
  pub words : List WatchedWord

abbrev pub stops_shown : Stops → StopSet
stops_shown stops = record {
  places = stops.places.now;
  near = stops.near.now;
  callers = stops.callers;
  returned = stops.returned;
  words = stops.words.now;
}

-- a call goes on at this place
abbrev pub is_at : Active → CodePlace → Bool
is_at call it = (call.strings == it.strings) && (call.place == it.place)

abbrev pub has_changed : (words : List ℕ) → WatchedWord → Bool
has_changed words it = not (slice_index words it.address == it.word)

-- A slice stops there: the function has returned, or the step is at a breakpoint, or at a place near enough, or a watched
-- word is another one.
abbrev pub stops_before : StopSet → Paused → Bool
stops_before stops p =
    let callers = length p.below in
    nat_lt callers stops.returned
    || (list_any (is_at (active_of p.call)) stops.places
    || ((nat_le callers stops.callers && list_any (is_at (active_of p.call)) stops.near)
    || list_any (has_changed p.store) stops.words))

-- a session that is over or lost stops nowhere any more
abbrev pub stops_in : StopSet → SessionState → Bool
stops_in stops (Goes p) = stops_before stops p
stops_in stops other = false

-- it goes on there, after so many steps: the first one is made wherever it is
abbrev pub GoesBy : StopSet → (made : ℕ) → SessionView → Type 0
GoesBy stops zero h = ⊤
GoesBy stops (suc made) h = stops_in stops h.state ≡ false

-- what a slice of one step promises: where it leads, and that it is made and ends by what the session may hold
abbrev pub StepMade : (old new : SessionView) → SliceEnd → Type 0
StepMade old new why =
    SessionContinues old.state old new 1 why × KeepsLimits new why × GoesOnWithin old.state old new

-- So many slices of one step each lead from a session to another one, and no stop was between.
abbrev pub Walks : StopSet → (old new : SessionView) → (made : ℕ) → Type 0
Walks stops old new zero = new ≡ old
Walks stops old new (suc made) =
    (mid : SessionView) × Walks stops old mid made × GoesBy stops made mid × StepMade mid new end.Limit

-- whether a slice has made all steps that were asked for
abbrev pub made_all : SliceEnd → Bool
made_all end.Limit = true
made_all other = false

-- why such a walk of so many steps at most ends
abbrev pub WalkEnds : StopSet → (old new : SessionView) → (n : ℕ) → SliceEnd → Type 0
WalkEnds stops old new n end.Limit = Walks stops old new n × GoesBy stops n new
WalkEnds stops old new n why =
    (made : ℕ) × (made < n) × (mid : SessionView) × Walks stops old mid made × GoesBy stops made mid
    × StepMade mid new why

abbrev pub WalksTo : StopSet → (old new : SessionView) → (n : ℕ) → StopEnd → Type 0
WalksTo stops old new n stop_end.Stopped =
    (made : ℕ) × (made < n) × Walks stops old new (suc made) × (stops_in stops new.state ≡ true)
WalksTo stops old new n (stop_end.Ended why) = WalkEnds stops old new n why
