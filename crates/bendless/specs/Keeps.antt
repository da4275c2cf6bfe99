-- Inner words: a state that was kept of a run.
use Rattle.std.specs.Prelude.{◌≡◌, ℕ, List, length, map, reverse, slice_index}
use Rattle.std.specs.List.{range_with_len}
use Rattle.bmach.specs.Stepping.{Paused}
use Rattle.bmach.specs.Stops.{active_of}
use Rattle.bendless.specs.declared.kept.Kept.{Kept}
use Rattle.bendless.specs.declared.search.Repeat.{Repeat}

-- the words at all addresses
abbrev pub words_in : List ℕ → List ℕ
words_in store = map (slice_index store) (range_with_len 0 65536)

-- A run is in the state that was kept, but for the calls below, of which there are as many; so many bytes are left.
pub record IsAt (k : Kept) (p : Paused) (left : ℕ) : Type 0 where
  pub place : p.call.place ≡ k.call.place
  pub callers : length p.below ≡ k.callers
  pub input : left ≡ k.left
  pub operands : reverse k.operands.items ≡ p.call.operands
  pub words : k.words.items ≡ words_in p.store

-- it was kept so, after so many steps
pub record IsKept (k : Kept) (p : Paused) (left made : ℕ) : Type 0 where
  pub call : k.call ≡ active_of p.call
  pub state : IsAt k p left
  pub steps : k.made ≡ made

-- the same state, whichever address is compared first
pub record IsSameState (k new : Kept) : Type 0 where
  pub made : new.made ≡ k.made
  pub call : new.call ≡ k.call
  pub callers : new.callers ≡ k.callers
  pub left : new.left ≡ k.left
  pub operands : new.operands.items ≡ k.operands.items
  pub words : new.words.items ≡ k.words.items

-- this state, in which a run is again after so many steps
abbrev pub repeat_of : Kept → (again : ℕ) → Repeat
repeat_of k again = record { first = k.made; again = again; call = k.call; callers = k.callers }
