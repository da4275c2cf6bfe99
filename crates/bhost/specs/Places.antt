-- Inner words: what the place of a box's block owns.
use Rattle.std.specs.Prelude.{Option, Some, None}
use mir.Syntax.{Ty}
use base.Fml.{Fml, feq}
use denote.RattleType.{RattleType}
use denote.RawPtr.{Ptr, null_ptr}
use Rattle.std.specs.Box.Ownership.{box_owns}

-- what the box owned, or nothing, where the place is null
abbrev pub placed_owns : (Ty → Ptr → Fml) → (R : RattleType) → Ptr → Option R.Denot → Fml
placed_owns holds R p None = feq Ptr p null_ptr
placed_owns holds R p (Some x) = box_owns holds R p x
