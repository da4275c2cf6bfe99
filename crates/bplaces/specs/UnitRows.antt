-- Closed facts: characters in UTF-8 and bytes that are none, in units of UTF-16.
use Rattle.std.specs.Prelude.{◌≡◌, ℕ, List, [], ◌∷◌, ◌++◌, codes, map, refl}
use Rattle.bplaces.specs.Units.{tail_length, unit_column}

-- the column after a text
abbrev column_of : List ℕ → ℕ
column_of text = unit_column text []

-- an e with an accent, the sign of the euro, the last character below the surrogates, the first one after them, the
-- last of three bytes, the first and the last of four
characters : map column_of ([] ∷ codes "a" ∷ (195 ∷ 169 ∷ []) ∷ (226 ∷ 130 ∷ 172 ∷ []) ∷ (237 ∷ 159 ∷ 191 ∷ [])
    ∷ (238 ∷ 128 ∷ 128 ∷ []) ∷ (239 ∷ 191 ∷ 191 ∷ []) ∷ (240 ∷ 144 ∷ 128 ∷ 128 ∷ [])
    ∷ (244 ∷ 143 ∷ 191 ∷ 191 ∷ []) ∷ [])
    ≡ (1 ∷ 2 ∷ 2 ∷ 2 ∷ 2 ∷ 2 ∷ 2 ∷ 3 ∷ 3 ∷ [])
characters = refl

-- A byte that no character begins with, one that goes on with none, and characters that end too soon have a unit each
-- byte.
lone_bytes : map column_of ((128 ∷ []) ∷ (191 ∷ []) ∷ (193 ∷ 129 ∷ []) ∷ (245 ∷ 128 ∷ 128 ∷ 128 ∷ []) ∷ (255 ∷ [])
    ∷ (195 ∷ []) ∷ (195 ∷ 40 ∷ []) ∷ (226 ∷ 130 ∷ []) ∷ (226 ∷ 40 ∷ 172 ∷ []) ∷ (240 ∷ 144 ∷ 128 ∷ [])
    ∷ (240 ∷ 144 ∷ 128 ∷ 65 ∷ []) ∷ [])
    ≡ (2 ∷ 2 ∷ 3 ∷ 5 ∷ 2 ∷ 2 ∷ 3 ∷ 3 ∷ 4 ∷ 4 ∷ 5 ∷ [])
lone_bytes = refl

-- So have those that UTF-8 has no characters for: too long ones, surrogates, and what comes after the last character.
no_characters : map column_of ((192 ∷ 128 ∷ []) ∷ (224 ∷ 159 ∷ 191 ∷ []) ∷ (237 ∷ 160 ∷ 128 ∷ [])
    ∷ (240 ∷ 143 ∷ 191 ∷ 191 ∷ []) ∷ (244 ∷ 144 ∷ 128 ∷ 128 ∷ []) ∷ [])
    ≡ (3 ∷ 4 ∷ 4 ∷ 5 ∷ 5 ∷ [])
no_characters = refl

-- the first second bytes that are right
first_seconds : map (λ text. tail_length 224 text) ((159 ∷ 128 ∷ []) ∷ (160 ∷ 128 ∷ []) ∷ (191 ∷ 191 ∷ [])
    ∷ (192 ∷ 128 ∷ []) ∷ [])
    ≡ (0 ∷ 2 ∷ 2 ∷ 0 ∷ [])
first_seconds = refl

-- within a character, after one, and after a newline
along : map (λ (n : List ℕ × List ℕ). unit_column n.0 n.1)
    (([], 240 ∷ 159 ∷ 152 ∷ 128 ∷ 10 ∷ 195 ∷ 169 ∷ []) ∷ (240 ∷ [], 159 ∷ 152 ∷ 128 ∷ 10 ∷ 195 ∷ 169 ∷ [])
    ∷ (240 ∷ 159 ∷ 152 ∷ [], 128 ∷ 10 ∷ 195 ∷ 169 ∷ []) ∷ (240 ∷ 159 ∷ 152 ∷ 128 ∷ [], 10 ∷ 195 ∷ 169 ∷ [])
    ∷ (240 ∷ 159 ∷ 152 ∷ 128 ∷ 10 ∷ [], 195 ∷ 169 ∷ []) ∷ (240 ∷ 159 ∷ 152 ∷ 128 ∷ 10 ∷ 195 ∷ 169 ∷ [], []) ∷ [])
    ≡ (1 ∷ 3 ∷ 3 ∷ 3 ∷ 1 ∷ 2 ∷ [])
along = refl
