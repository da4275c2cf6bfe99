-- Closed facts: strings in a store of four words, of which word 2 holds `ab`.
use Rattle.std.specs.Prelude.{◌≡◌, ℕ, List, [], ◌∷◌, map, length, slice_index, refl}
use Rattle.bword.specs.Words.{byte_address, char_of, with_char, zeros}

abbrev words : List ℕ
words = 7 ∷ 8 ∷ 25185 ∷ 515 ∷ []

-- a character of the string at an address, by its index
abbrev character : ℕ × ℕ → ℕ
character p = char_of words p.0 p.1

-- the low byte first, then the high one, then the next word; after the last address comes word 0
characters : map character ((2, 0) ∷ (2, 1) ∷ (2, 2) ∷ (2, 3) ∷ (0, 4) ∷ (65535, 2) ∷ []) ≡
    97 ∷ 98 ∷ 3 ∷ 2 ∷ 97 ∷ 7 ∷ []
characters = refl

-- the low byte of 321 is 65; the other byte of the word stays, and so do the other words
low_byte : with_char words 2 0 321 ≡ 7 ∷ 8 ∷ 25153 ∷ 515 ∷ []
low_byte = refl

high_byte : with_char words 2 1 321 ≡ 7 ∷ 8 ∷ 16737 ∷ 515 ∷ []
high_byte = refl

-- of a word whose bytes are both the greatest
greatest_bytes : map (λ i. with_char (65535 ∷ []) 0 i 65) (0 ∷ 1 ∷ []) ≡ (65345 ∷ []) ∷ (16895 ∷ []) ∷ []
greatest_bytes = refl

after_the_last_word : with_char words 65535 3 321 ≡ 16647 ∷ 8 ∷ 25185 ∷ 515 ∷ []
after_the_last_word = refl

-- an index is unsigned
abbrev address : ℕ × ℕ → ℕ
address p = byte_address p.0 p.1

addresses : map address ((10, 0) ∷ (10, 1) ∷ (10, 2) ∷ (10, 65535) ∷ (65535, 1) ∷ (65535, 3) ∷ []) ≡
    10 ∷ 10 ∷ 11 ∷ 32777 ∷ 65535 ∷ 0 ∷ []
addresses = refl

-- a store that was just made holds zeros, as many as it has words
zeros_alone : (length zeros ≡ 65536) × (map (slice_index zeros) (0 ∷ 1 ∷ 65535 ∷ []) ≡ 0 ∷ 0 ∷ 0 ∷ [])
unfolding zeros
zeros_alone = (refl, refl)
