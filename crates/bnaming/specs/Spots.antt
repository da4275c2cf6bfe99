-- Promise: where a place of a source stands.
use Rattle.std.specs.Prelude.{◌≡◌, ℕ, ◌≤◌, List, drop, length, take}
use Rattle.blang.specs.Cut.{line_number_after}
use Rattle.bplaces.specs.Columns.{column_after}
use Rattle.bplaces.specs.Units.{first_unit, unit_column, units_after}
use Rattle.bnaming.specs.declared.places.Mark.{Mark}
use Rattle.bnaming.specs.declared.places.Spot.{Spot}

-- the line of a place, and its columns in bytes and in units of UTF-16
abbrev pub spot_at : (source : List ℕ) → (at : ℕ) → Spot
spot_at source at = record {
  line = line_number_after 1 (take at source);
  column = column_after 1 (take at source);
  unit = unit_column (take at source) (drop at source);
}

abbrev pub first_spot : Spot
first_spot = record { line = 1; column = 1; unit = 1 }

-- A source was read up to a mark.
pub record IsMark (source : List ℕ) (m : Mark) : Type 0 where
  pub within : m.at ≤ length source
  pub line : m.line ≡ line_number_after 1 (take m.at source)
  pub column : m.column ≡ column_after 1 (take m.at source)
  pub units : m.units ≡ units_after first_unit (take m.at source) (drop m.at source)
