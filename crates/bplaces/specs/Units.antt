-- Promise: the column of a place in units of UTF-16, as editors count.
use Rattle.std.specs.Prelude.{ℕ, ◌+◌, ◌-◌, ◌==◌, ◌&&◌, Bool, true, List, [], ◌∷◌, ◌++◌, length, min, nat_le, nat_lt, take}
use Rattle.std.specs.Prelude.{if◌then◌else◌}
use Rattle.std.specs.Int.{is_in_range}
use Rattle.std.specs.List.{list_all}
use Rattle.bword.specs.ByteEnds.{most}
use Rattle.bplaces.specs.declared.units.UnitPlace.{UnitPlace}

-- how many bytes follow the first one of a character in UTF-8; 0 also for a byte that is the first of none
abbrev pub followers : (first : ℕ) → ℕ
followers first =
    if is_in_range 194 223 first then 1
    else (if is_in_range 224 239 first then 2 else (if is_in_range 240 244 first then 3 else 0))

-- the least and the greatest second byte of a character
abbrev pub least_second : (first : ℕ) → ℕ
least_second first = if first == 224 then 160 else (if first == 240 then 144 else 128)

abbrev pub greatest_second : (first : ℕ) → ℕ
greatest_second first = if first == 237 then 159 else (if first == 244 then 143 else 191)

-- these bytes can follow a first one
abbrev pub can_follow : (first : ℕ) → List ℕ → Bool
can_follow first [] = true
can_follow first (second ∷ others) =
    is_in_range (least_second first) (greatest_second first) second && list_all (is_in_range 128 191) others

-- how many bytes of a text after a byte belong to its character; none where the byte isn't the first of one
abbrev pub tail_length : (first : ℕ) → (rest : List ℕ) → ℕ
tail_length first rest =
    if nat_le (followers first) (length rest) && can_follow first (take (followers first) rest) then followers first
    else 0

-- A character of four bytes has two units, and each other one has one. So has each byte that belongs to none.
abbrev pub units_of : (tail : ℕ) → ℕ
units_of tail = if tail == 3 then 2 else 1

abbrev pub unit_place : (column tail : ℕ) → UnitPlace
unit_place column tail = record { column = column; tail = tail }

-- a line begins
abbrev pub first_unit : UnitPlace
first_unit = unit_place 1 0

-- the place after the first byte of a character, of which so many bytes follow
abbrev pub after_first : UnitPlace → (tail : ℕ) → UnitPlace
after_first u tail = unit_place (min (u.column + units_of tail) most) tail

-- the place after a byte, before this text
abbrev pub next_unit : UnitPlace → (byte : ℕ) → (rest : List ℕ) → UnitPlace
next_unit u byte rest =
    if byte == 10 then first_unit
    else (if nat_lt 0 u.tail then unit_place u.column (u.tail - 1) else after_first u (tail_length byte rest))

-- the place after bytes, before this text
abbrev pub units_after : UnitPlace → (bytes rest : List ℕ) → UnitPlace
units_after u [] rest = u
units_after u (b ∷ bs) rest = units_after (next_unit u b (bs ++ rest)) bs rest

-- the column of the place between two parts of a source; within a character it is the one after it
abbrev pub unit_column : (before rest : List ℕ) → ℕ
unit_column before rest = (units_after first_unit before rest).column
