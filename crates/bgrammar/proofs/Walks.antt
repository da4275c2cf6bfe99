-- What is found in a walk is within the ranges of a function.
use Rattle.std.proofs.Common.{◌≡◌, ℕ, zero, suc, ◌+◌, ◌<◌, ◌≤◌, arith}
use Rattle.std.specs.Prelude.{Option, Some}
use Rattle.blang.specs.declared.code.Sizes.{Sizes}
use Rattle.blang.specs.Trees.{Expr, Named}
use Rattle.blang.specs.Walk.{Event, AutoHere, Walk, Said, TextHere, Noted, Level, ◌▸◌, tokens_in, events_in, callee, walk}
use Rattle.blang.specs.Code.{Referent, In_frame, Environment}
use Rattle.bgrammar.specs.Fitting.{words_in, FitsIn}
use Rattle.bgrammar.proofs.Holds.{Holds, Holds-first, Holds-rest, Holds-front, Holds-back}
use Rattle.bgrammar.proofs.Tokens.{IsSound, AreSound}

-- the word after that of a vector is in the frame
abbrev pub IsVectorWithin : Sizes → Referent → Option ℕ → Type 0
IsVectorWithin sizes (In_frame k) (Some c) = k + 1 < sizes.frame
IsVectorWithin sizes _ _ = Unit {0}

abbrev pub IsEventWithin : Sizes → Environment → Event → Type 0
IsEventWithin sizes names (AutoHere w size) = IsVectorWithin sizes (names w.text) size
IsEventWithin sizes names _ = Unit {0}

-- its tokens are sound, its strings are among those of the function, and its vectors are in the frame
abbrev pub IsWalkWithin : Sizes → Environment → Walk → Type 0
IsWalkWithin sizes names (Said p) = IsSound p.token
IsWalkWithin sizes names (TextHere t) = t.offset < sizes.strings
IsWalkWithin sizes names (Noted e) = IsEventWithin sizes names e
IsWalkWithin sizes names (Level p w end) = IsSound p.token × IsWalkWithin sizes names w
IsWalkWithin sizes names (v ▸ w) = IsWalkWithin sizes names v × IsWalkWithin sizes names w
IsWalkWithin sizes names _ = Unit {0}

module _ (sizes : Sizes) (names : Environment) where
  pub walk_within : (w : Walk) (room off : ℕ) → AreSound (tokens_in w) → FitsIn w room off → off + words_in w ≤ sizes.strings → Holds (IsEventWithin sizes names) (events_in w) → IsWalkWithin sizes names w
  walk_within (Said p) room off s f o v = Holds-first s
  walk_within (TextHere t) room off s f o v = let e : t.offset ≡ off = f in omega arith
  walk_within (Noted e) room off s f o v = Holds-first v
  walk_within (Level p w end) zero off s f o v = absurd f
  walk_within (Level p w end) (suc k) off s f o v = (Holds-first s, walk_within w k off (Holds-rest s) f o (Holds-front (events_in w) end v))
  walk_within (v ▸ w) room off s f o h = (
    walk_within v room off (Holds-front (tokens_in v) _ s) f.0 (omega arith) (Holds-front (events_in v) _ h),
    walk_within w room (off + words_in v) (Holds-back (tokens_in v) _ s) f.1 (omega arith) (Holds-back (events_in v) _ h),
  )
  walk_within _ room off s f o v = tt

  pub callee_within : (e : Expr) → IsWalkWithin sizes names (callee e (walk e)) → IsWalkWithin sizes names (walk e)
  callee_within (Named w) h = h
  callee_within _ h = h
