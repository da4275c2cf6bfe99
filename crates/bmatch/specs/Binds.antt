-- Promise: what the holes of a rule stand for.
use Rattle.std.specs.Prelude.{ℕ, Bool, if◌then◌else◌, Option, None, Some, [], ◌∷◌, replicate, slice_get, slice_set, unwrap_or, nat_lt}
use Rattle.bmatch.specs.declared.binds.Binds.{Binds}
use Rattle.bmatch.specs.declared.pattern.TheConstants.{ROOT}

abbrev pub nothing_bound : Binds
nothing_bound = record { holes = replicate 16 None; told = None }

abbrev pub hole_of : Binds → (hole : ℕ) → Option ℕ
hole_of b hole = unwrap_or (slice_get b.holes hole) None

-- what the holes of a condition stand for that is given these four: its first ones, and that of the whole pattern
abbrev pub given_to : Binds → (first second third fourth : ℕ) → Binds
given_to b first second third fourth =
    record {
      holes = hole_of b first ∷ hole_of b second ∷ hole_of b third ∷ hole_of b fourth ∷ None ∷ None ∷ None ∷ None ∷ None
          ∷ None ∷ None ∷ None ∷ None ∷ None ∷ None ∷ hole_of b ROOT ∷ [];
      told = b.told;
    }

-- a hole stands for this branch
abbrev pub with_hole : Binds → (hole index : ℕ) → Binds
with_hole b hole index =
    record { holes = if nat_lt hole 16 then slice_set b.holes hole (Some index) else b.holes; told = b.told }

-- this token is told, if it is marked
abbrev pub with_told : Binds → (is_told : Bool) → (token : ℕ) → Binds
with_told b is_told token = record { holes = b.holes; told = if is_told then Some token else b.told }
