-- Closed facts: which texts are names.
use Rattle.std.specs.Prelude.{◌≡◌, ℕ, Bool, true, false, List, [], ◌∷◌, map, replicate, filter, codes, take, drop, ◌++◌}
use Rattle.std.specs.Prelude.{◌+◌, ◌-◌, refl}
use Rattle.std.specs.List.{range_with_len}
use Rattle.bword.specs.Words.{is_name, is_name_start, is_name_byte, same_name}

names : map is_name (codes "a" ∷ codes "_" ∷ codes "Z" ∷ codes "a9" ∷ codes "_0_A" ∷ codes "abcdefgh" ∷
    codes "x1234567" ∷ []) ≡
    replicate 7 true
names = refl

-- empty, of nine characters, with a digit first, with a byte that is none of a name's
others : map is_name (
    [] ∷ codes "abcdefghi" ∷ codes "x12345678" ∷ codes "9" ∷ codes "9a" ∷ codes "a-b" ∷ codes "a b" ∷ codes "a." ∷
    (97 ∷ 0 ∷ []) ∷
    (97 ∷ 228 ∷ []) ∷ []) ≡ replicate 10 false
others = refl

starts : filter is_name_start (range_with_len 0 256) ≡
    codes "ABCDEFGHIJKLMNOPQRSTUVWXYZ_abcdefghijklmnopqrstuvwxyz"
starts = refl

bytes : filter is_name_byte (range_with_len 0 256) ≡
    codes "0123456789ABCDEFGHIJKLMNOPQRSTUVWXYZ_abcdefghijklmnopqrstuvwxyz"
bytes = refl

-- case, length and order count
abbrev both : List ℕ × List ℕ → Bool
both p = same_name p.0 p.1

same : map both (
    (codes "ab", codes "ab") ∷ (codes "ab", codes "aB") ∷ (codes "ab", codes "abc") ∷ (codes "ab", codes "ba") ∷
    (codes "abcdefgh", codes "abcdefgh") ∷ (codes "abcdefgh", codes "abcdefgi") ∷ []) ≡
    true ∷ false ∷ false ∷ false ∷ true ∷ false ∷ []
same = refl

-- by their length
by_length : map (λ n. is_name (replicate n 97)) (range_with_len 0 20) ≡ false ∷ replicate 8 true ++ replicate 11 false
by_length = refl

-- Each byte alone, and as the second, the fifth and the last one of eight.
alone : filter (λ b. is_name (b ∷ [])) (range_with_len 0 256) ≡ filter is_name_start (range_with_len 0 256)
alone = refl

in_each_place : map (λ n. filter (λ b. is_name (replicate n 97 ++ b ∷ replicate (7 - n) 97)) (range_with_len 0 256))
    (1 ∷ 4 ∷ 7 ∷ []) ≡ replicate 3 (filter is_name_byte (range_with_len 0 256))
in_each_place = refl

-- Names of eight that differ in one place are others, and so is each beginning. A name is the same as itself.
differ_in_one : map (λ n. same_name (codes "abcdefgh") (take n (codes "abcdefgh") ++ 65
    ∷ drop (n + 1) (codes "abcdefgh")))
    (range_with_len 0 8) ≡ replicate 8 false
differ_in_one = refl

beginnings : map (λ n. same_name (take n (codes "abcdefgh")) (codes "abcdefgh")) (range_with_len 0 9)
    ≡ replicate 8 false ++ true ∷ []
beginnings = refl

beginnings_of_it : map (λ n. same_name (codes "abcdefgh") (take n (codes "abcdefgh"))) (range_with_len 0 9)
    ≡ replicate 8 false ++ true ∷ []
beginnings_of_it = refl

of_one_byte : map (λ b. filter (λ c. same_name (b ∷ []) (c ∷ [])) (filter is_name_byte (range_with_len 0 256)))
    (filter is_name_byte (range_with_len 0 256)) ≡ map (λ b. b ∷ []) (filter is_name_byte (range_with_len 0 256))
of_one_byte = refl
