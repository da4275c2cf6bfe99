-- Promise: the column of a place in bytes.
use Rattle.std.specs.Prelude.{ℕ, ◌+◌, ◌==◌, List, [], ◌∷◌, if◌then◌else◌, min}
use Rattle.bword.specs.ByteEnds.{most}

-- the column after a byte: a newline begins the next line
abbrev pub next_column : ℕ → ℕ → ℕ
next_column column byte = if byte == 10 then 1 else min (column + 1) most

-- the column after a text
abbrev pub column_after : ℕ → List ℕ → ℕ
column_after column [] = column
column_after column (b ∷ bs) = column_after (next_column column b) bs
