-- Rows of a listing, one after another.
use Rattle.std.proofs.Common.{◌≡◌, ◌∙◌, ◌+◌, ◌-◌, ◌<◌, ◌≤◌, ℕ, zero, suc, Bool, true, false, cond, List, [], ◌∷◌, ◌++◌, drop, filter, get_or, length, take, ap, append-nil, append_assoc, add-one, arith, drop-cons, refl, replicate, sym}
use Rattle.std.specs.List.{enumerate_from, flat_map, slice_get}
use Rattle.std.specs.Borrow.{Bor}
use Rattle.std.specs.Option.{option_copied}
use Rattle.std.specs.Prelude.{codes, MatchOption, None, Option, Some}
use Rattle.std.proofs.lemmas.Option.{slice_get-get_or, slice_get_past}
use Rattle.std.proofs.lemmas.Bool.{cond-true}
use Rattle.std.proofs.lemmas.List.{length-map, length-take, length-take-le, take_more}
use Rattle.std.proofs.lemmas.List.Concat.{flat_map-append}
use Rattle.blang.specs.Lines.{size_of}
use Rattle.blang.specs.Machine.{Image}
use Rattle.blang.specs.declared.code.Definition.{Definition}
use Rattle.btools.specs.Columns.{left, right}
use Rattle.btools.specs.declared.names.Frame.{Frame}
use Rattle.btools.proofs.AddedTexts.{piece}
use Rattle.blist.specs.ListingTexts.{column_byte, rows_of, source_column}
use Rattle.blist.specs.Listings.{Told, frames_after, is_wanted, told_of, told_rows}

-- an address was added, blanks before it
pub address_added : (t t' t'' t''' digits : List ℕ) (n : ℕ) → n ≡ 5 - length digits → t' ≡ t ++ replicate n 32 → t'' ≡ t' ++ codes "@" → t''' ≡ t'' ++ digits → t''' ≡ t ++ right 6 (codes "@" ++ digits)
address_added t t' t'' t''' digits n is a b c =
    let room : n ≡ 6 - suc (length digits) = omega (arith, is) in
    let blanks : t' ≡ t ++ replicate (6 - suc (length digits)) 32 = a ∙ ap (λ m. t ++ replicate m 32) room in
    piece t t' t''' (replicate (6 - suc (length digits)) 32) (codes "@" ++ digits) blanks (piece t' t'' t''' (codes "@") digits b c)

numbered : {X : Type 0} (n : ℕ) (xs : List X) (x : X) → enumerate_from n (xs ++ x ∷ []) ≡ enumerate_from n xs ++ (n + length xs, x) ∷ []
numbered n [] x = let same : n ≡ n + 0 = omega arith in ap (λ k. (k, x) ∷ []) same
numbered n (y ∷ xs) x =
    let same : n + 1 + length xs ≡ n + suc (length xs) = omega arith in
    ap (λ ys. (n, y) ∷ ys) (numbered (n + 1) xs x ∙ ap (λ k. enumerate_from (n + 1) xs ++ (k, x) ∷ []) same)

-- the row of one item more
pub rows_more : {X : Type 0} (row : ℕ → X → List ℕ) (old mid new : List ℕ) (xs : List X) (i : ℕ) (x : X) → i < length xs → x ≡ get_or xs i x → mid ≡ old ++ rows_of row (take i xs) → new ≡ mid ++ row i x → new ≡ old ++ rows_of row (take (i + 1) xs)
rows_more {X = X} row old mid new xs i x lt is before one =
    let f = λ (p : ℕ × X). row p.0 p.1 in
    let many : length (take i xs) ≡ i = length-take-le i xs (omega (arith, lt)) in
    let number : 0 + length (take i xs) ≡ i = omega (arith, many) in
    let all : rows_of row (take (i + 1) xs) ≡ rows_of row (take i xs) ++ row i x =
    ap (λ ys. rows_of row ys) (take_more xs i x lt ∙ ap (λ y. take i xs ++ y ∷ []) (sym is))
    ∙ ap (flat_map f) (numbered 0 (take i xs) x ∙ ap (λ k. enumerate_from 0 (take i xs) ++ (k, x) ∷ []) number)
    ∙ flat_map-append f (enumerate_from 0 (take i xs)) ((i, x) ∷ []) ∙ ap (λ y. rows_of row (take i xs) ++ y) (append-nil (row i x)) in
    one ∙ ap (λ t. t ++ row i x) before ∙ append_assoc old (rows_of row (take i xs)) (row i x) ∙ ap (λ t. old ++ t) (sym all)

-- the rows of what is left
abbrev pub rest_rows : Image → (source : List ℕ) → Option (List ℕ) → List Definition → (lines : List ℕ) → List Frame → List ℕ
rest_rows image source name ds lines frames = flat_map (told_rows image source) (filter (λ t. is_wanted name t.definition) (told_of ds lines frames))

one_told : (f : Told → List ℕ) (t : Told) (ts : List Told) (b : Bool) → flat_map f (cond b (t ∷ ts) ts) ≡ cond b (f t) [] ++ flat_map f ts
one_told f t ts true = refl
one_told f t ts false = refl

-- the rows of a definition more, if it is wanted
pub told_more : (image : Image) (source : List ℕ) (name : Option (List ℕ)) (ds : List Definition) (lines : List ℕ) (frames : List Frame) (i : ℕ) (d : Definition) → i < length ds → d ≡ get_or ds i d
    → rest_rows image source name (drop i ds) lines frames
    ≡ cond (is_wanted name d) (told_rows image source (record { definition = d; lines = take (size_of d) lines; frame = slice_get frames 0 })) []
    ++ rest_rows image source name (drop (i + 1) ds) (drop (size_of d) lines) (frames_after d frames)
told_more image source name ds lines frames i d lt is =
    let first : drop i ds ≡ d ∷ drop (i + 1) ds = drop-cons ds i d lt ∙ (λ j. sym is j ∷ drop (sym (add-one i) j) ds) in
    ap (λ es. rest_rows image source name es lines frames) first
    ∙ one_told (told_rows image source) (record { definition = d; lines = take (size_of d) lines; frame = slice_get frames 0 }) (filter (λ t. is_wanted name t.definition) (told_of (drop (i + 1) ds) (drop (size_of d) lines) (frames_after d frames))) (is_wanted name d)

-- an element that passes is among those that pass
pub some_pass : {X : Type 0} (p : X → Bool) (xs : List X) (i : ℕ) (d : X) → i < length xs → p (get_or xs i d) ≡ true → filter p xs ≡ [] → ⊥
some_pass p [] i d lt passes none = absurd (omega (arith, lt))
some_pass p (x ∷ xs) zero d lt passes none = let kept : filter p (x ∷ xs) ≡ x ∷ filter p xs = cond-true (p x) (x ∷ filter p xs) (filter p xs) passes in let bad : x ∷ filter p xs ≡ [] = sym kept ∙ none in cc
some_pass p (x ∷ xs) (suc i) d lt passes none =
    rest_empty (p x) none (some_pass p xs i d (omega (arith, lt)) passes)
  where
    rest_empty : (b : Bool) → cond b (x ∷ filter p xs) (filter p xs) ≡ [] → (filter p xs ≡ [] → ⊥) → ⊥
    rest_empty true bad some = cc
    rest_empty false e some = some e

-- what stands on a page
pub page_is : (first page text line : List ℕ) → first ≡ [] → page ≡ first ++ text → text ≡ line → page ≡ line
page_is first page text line empty is same = is ∙ ap (λ x. x ++ text) empty ∙ same

-- the rows of a definition, one part after another
pub data_rows : (old t1 t2 t3 a b c : List ℕ) → t1 ≡ old ++ a → t2 ≡ t1 ++ b → t3 ≡ t2 ++ c → t3 ≡ old ++ (a ++ (b ++ c))
data_rows old t1 t2 t3 a b c one two three = piece old t1 t3 a (b ++ c) one (piece t1 t2 t3 b c two three)

pub function_rows : (old t1 t2 t3 t4 a b c d : List ℕ) → t1 ≡ old ++ a → t2 ≡ t1 ++ b → t3 ≡ t2 ++ c → t4 ≡ t3 ++ d → t4 ≡ old ++ (a ++ ((b ++ c) ++ d))
function_rows old t1 t2 t3 t4 a b c d one two three four =
    data_rows old t1 t3 t4 a (b ++ c) d one (piece t1 t2 t3 b c two three) four

-- the parts of a row, one after another
pub row_added : (old t1 t2 t3 t4 spot number columns end : List ℕ) → t1 ≡ old ++ spot → t2 ≡ t1 ++ number ++ codes "  " → t3 ≡ t2 ++ columns → t4 ≡ t3 ++ end
    → t4 ≡ old ++ ((spot ++ number ++ codes "  ") ++ columns ++ end)
row_added old t1 t2 t3 t4 spot number columns end one two three four = simp (append_assoc, one, two, three, four)

shown_length : (source : List ℕ) → 39 - length source ≡ 39 - length (source_column source)
shown_length source =
    let many = length-map (take 39 source) column_byte in
    let taken = length-take 39 source in
    omega (arith, many, taken)

-- the columns of a row with a name, one after another
pub columns_added : (old t1 t2 t3 t4 t5 t6 code source name : List ℕ) (blanks : ℕ) → blanks ≡ 39 - length source → t1 ≡ old ++ code → t2 ≡ t1 ++ codes " " → t3 ≡ t2 ++ source_column source → t4 ≡ t3 ++ replicate blanks 32 → t5 ≡ t4 ++ codes " " → t6 ≡ t5 ++ name
    → t6 ≡ old ++ (code ++ codes " " ++ left 39 (source_column source) ++ codes " " ++ name)
columns_added old t1 t2 t3 t4 t5 t6 code source name blanks room one two three four five six =
    let column : t4 ≡ t2 ++ left 39 (source_column source) =
    piece t2 t3 t4 (source_column source) (replicate blanks 32) three four ∙ ap (λ n. t2 ++ (source_column source ++ replicate n 32)) (room ∙ shown_length source) in
    piece old t5 t6 _ name (piece old t4 t5 _ (codes " ") (piece old t2 t4 _ _ (piece old t1 t2 code (codes " ") one two) column) five) six

-- an element of a slice, copied
pub copied_is : (o : Option (Bor ℕ)) (xs : List ℕ) (i : ℕ) → MatchOption o (length xs ≤ i) (λ x. (i < length xs) × ((d : ℕ) → x.now ≡ get_or xs i d)) → option_copied o ≡ slice_get xs i
copied_is None xs i h = sym (slice_get_past xs i h)
copied_is (Some x) xs i h = ap Some (h.1 0) ∙ sym (slice_get-get_or xs i 0 h.0)
