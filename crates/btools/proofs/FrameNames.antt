-- The words of a frame, found from the last name of a table to the first.
use Rattle.std.proofs.Common.{◌≡◌, ◌∙◌, ◌+◌, ◌-◌, ◌<◌, ◌≤◌, List, [], ◌∷◌, ◌++◌, ap, append_assoc, arith, get_or, length, map, refl, sym, take}
use Rattle.std.specs.Prelude.{reverse}
use Rattle.std.proofs.lemmas.List.{length-take-le, map-append, reverse-append, take_all, take_more}
use Rattle.blang.specs.Scan.{Entry}
use Rattle.bparse.specs.Locals.{NamedWord}
use Rattle.btools.specs.FrameNames.{word_seen}
use Rattle.btools.specs.declared.names.FrameWord.{FrameWord}

-- words, and after them those that were found, the last one first
abbrev pub words_so_far : List NamedWord → List FrameWord → List NamedWord
words_so_far words found = words ++ reverse (map word_seen found)

pub one_found : (words : List NamedWord) (w : NamedWord) (found : List FrameWord) (x : FrameWord) → word_seen x ≡ w → words_so_far words (found ++ x ∷ []) ≡ words_so_far (words ++ w ∷ []) found
one_found words w found x same =
    ap (λ l. words ++ reverse l) (map-append word_seen found (x ∷ []))
    ∙ ap (λ l. words ++ l) (reverse-append (map word_seen found) (word_seen x ∷ []))
    ∙ ap (λ y. words ++ y ∷ reverse (map word_seen found)) same
    ∙ sym (append_assoc words (w ∷ []) (reverse (map word_seen found)))

pub last_apart : (names : List Entry) (e : Entry) → 1 ≤ length names → e ≡ get_or names (length names - 1) e → take (length names - 1) names ++ e ∷ [] ≡ names
last_apart names e some is =
    let n = length names - 1 in
    let within : n < length names = omega (arith, some) in
    ap (λ x. take n names ++ x ∷ []) is ∙ sym (take_more names n e within) ∙ take_all (n + 1) names (omega (arith, some))

pub none_left : (names : List Entry) → length names < 1 → names ≡ []
none_left [] few = refl
none_left (x ∷ xs) few = absurd (omega (arith, few))

pub shorter : (names : List Entry) → length names ≤ 128 → length (take (length names - 1) names) ≤ 128
shorter names few = let n = length-take-le (length names - 1) names (omega arith) in omega (arith, n, few)

map-reverse : (found : List FrameWord) → map word_seen (reverse found) ≡ reverse (map word_seen found)
map-reverse [] = refl
map-reverse (x ∷ xs) =
    ap (map word_seen) (reverse-append (x ∷ []) xs) ∙ map-append word_seen (reverse xs) (x ∷ [])
    ∙ ap (λ l. l ++ word_seen x ∷ []) (map-reverse xs) ∙ sym (reverse-append (word_seen x ∷ []) (map word_seen xs))

-- the last of the words that were found is the first one
pub turned : (words : List NamedWord) (found found2 : List FrameWord) → found2 ≡ reverse found → words_so_far [] found ≡ words → map word_seen found2 ≡ words
turned words found found2 is all = ap (map word_seen) is ∙ map-reverse found ∙ all
