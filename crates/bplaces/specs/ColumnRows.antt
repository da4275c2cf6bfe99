-- Closed facts: columns of texts, and the column after a byte.
use Rattle.std.specs.Prelude.{◌≡◌, ℕ, [], ◌∷◌, codes, map, refl}
use Rattle.bplaces.specs.Columns.{column_after, next_column}

columns : map (column_after 1) ([] ∷ codes "a" ∷ codes "a\n" ∷ codes "\n\nab" ∷ []) ≡ (1 ∷ 2 ∷ 1 ∷ 3 ∷ [])
columns = refl

-- a tab is one column, and the last column is that of all bytes after it but a newline
next_columns : map (λ b. next_column 7 b) (9 ∷ 10 ∷ 97 ∷ 255 ∷ []) ≡ (8 ∷ 1 ∷ 8 ∷ 8 ∷ [])
next_columns = refl

last_columns : map (λ c. next_column c 97) (18446744073709551614 ∷ 18446744073709551615 ∷ [])
    ≡ (18446744073709551615 ∷ 18446744073709551615 ∷ [])
last_columns = refl
