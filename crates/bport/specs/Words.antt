-- Promise: how many words edits take out of a source, and how many they put in.
use Rattle.std.specs.Prelude.{ℕ, ◌+◌, ◌-◌, ◌==◌, ◌&&◌, ◌||◌, Bool, true, false, List, [], ◌∷◌, ◌++◌, codes}
use Rattle.std.specs.Prelude.{drop, if◌then◌else◌, min, nat_le, not, take}
use Rattle.std.specs.Int.{is_in_range}
use Rattle.std.specs.List.{list_any}
use Rattle.std.specs.Str.{bytes_eq}
use Rattle.bword.specs.ByteEnds.{most}
use Rattle.bport.specs.declared.edit.Edit.{Edit}
use Rattle.bport.specs.declared.row.Row.{Row}
use Rattle.bport.specs.declared.row.Row.TheVariants as row

-- a letter, a digit, `_` or `.`
abbrev pub is_of_word : ℕ → Bool
is_of_word b = is_in_range 97 122 b || is_in_range 65 90 b || is_in_range 48 57 b || (b == 95) || (b == 46)

-- a word of a type, which this language has none of
abbrev pub is_type_word : List ℕ → Bool
is_type_word w =
    bytes_eq w (codes "int") || bytes_eq w (codes "char") || bytes_eq w (codes "long") || bytes_eq w (codes "short")
    || bytes_eq w (codes "unsigned") || bytes_eq w (codes "signed") || bytes_eq w (codes "register")
    || bytes_eq w (codes "static") || bytes_eq w (codes "const") || bytes_eq w (codes "void")
    || bytes_eq w (codes "float") || bytes_eq w (codes "double") || bytes_eq w (codes "struct")
    || bytes_eq w (codes "union") || bytes_eq w (codes "typedef")

-- rows that take out what is in the brackets of a declaration
abbrev pub declares : Row → Bool
declares row.Vector = true
declares row.Size = true
declares row.Index = true
declares row.Text = true
declares row.Type = true
declares row.Parameters = true
declares row.External = true
declares _ = false

-- rows that take code out which another edit of theirs puts in
abbrev pub moves : Row → Bool
moves row.For = true
moves row.Value = true
moves _ = false

-- a bracket of an index, of a call or of a group
abbrev pub opens : ℕ → Bool
opens b = list_any (λ c. b == c) (codes "([")

abbrev pub closes : ℕ → Bool
closes b = list_any (λ c. b == c) (codes ")]")

-- within how many brackets the next byte stands, if that counts
abbrev pub depth_after : (is_counted : Bool) → (depth b : ℕ) → ℕ
depth_after false depth b = depth
depth_after true depth b =
    if opens b then min (depth + 1) most else (if closes b then depth - 1 else depth)

-- one more, where a word that is no type ends outside of brackets
abbrev pub counted : (depth count : ℕ) → (word : List ℕ) → ℕ
counted depth count word =
    if (depth == 0) && not (bytes_eq word [] || is_type_word word) then min (count + 1) most else count

-- how many such words there are, after this many, with this beginning of one
abbrev pub words_on : (is_counted : Bool) → (depth count : ℕ) → (word rest : List ℕ) → ℕ
words_on is_counted depth count word [] = counted depth count word
words_on is_counted depth count word (b ∷ bs) =
    if is_of_word b then words_on is_counted depth count (word ++ b ∷ []) bs
    else words_on is_counted (depth_after is_counted depth b) (counted depth count word) [] bs

-- No edit takes more words out than it puts in, and those that move code don't as a whole. This many of theirs are out
-- and in.
abbrev pub are_kept : List ℕ → (out put : ℕ) → List Edit → Bool
are_kept source out put [] = nat_le out put
are_kept source out put (e ∷ es) =
    let old = words_on (declares e.row) 0 0 [] (drop e.start (take e.end source)) in
    let new = words_on false 0 0 [] e.text in
    if moves e.row then are_kept source (min (out + old) most) (min (put + new) most) es
    else nat_le old new && are_kept source out put es
