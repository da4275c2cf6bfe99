-- Rows, one after another.
use Rattle.std.proofs.Common.{◌≡◌, ◌∙◌, ℕ, suc, ◌+◌, Bool, Option, List, [], ◌∷◌, ◌++◌, ap, append-nil, append_assoc, arith, codes, get_or, sym}
use Rattle.std.specs.List.{flat_map, range_with_len}
use Rattle.std.proofs.Math.Numerals.{add-one}
use Rattle.std.proofs.lemmas.List.{map-id}
use Rattle.std.proofs.lemmas.List.Concat.{flat_map-append}
use Rattle.std.proofs.lemmas.List.FromFn.{map-range_with_len_more}
use Rattle.bsources.specs.Files.{Files, Line, beyond_first, own_line}
use Rattle.btools.proofs.AddedTexts.{piece}
use Rattle.bcount.specs.declared.lines.LineCount.{LineCount}
use Rattle.bcount.specs.declared.table.CountStyle.{CountStyle}
use Rattle.bcount.specs.declared.table.CountStyle.TheVariants as styles
use Rattle.btools.specs.SourceLines.{source_lines}
use Rattle.bcount.specs.SourceLines.{beside_text}
use Rattle.bcount.specs.Tables.{cells_text, file_row, object_text, row_text}

-- the row of one number more
pub one_row : (f : ℕ → List ℕ) (heading text new : List ℕ) (n : ℕ) → text ≡ heading ++ flat_map f (range_with_len 0 n) → new ≡ text ++ f n → new ≡ heading ++ flat_map f (range_with_len 0 (n + 1))
one_row f heading text new n before row =
    let numbers : range_with_len 0 (n + 1) ≡ range_with_len 0 n ++ n ∷ [] = simp map-id at (map-range_with_len_more (λ (k : ℕ). k) 0 n n (omega arith)) in
    row ∙ ap (λ t. t ++ f n) before ∙ append_assoc heading (flat_map f (range_with_len 0 n)) (f n)
    ∙ ap (λ t. heading ++ (flat_map f (range_with_len 0 n) ++ t)) (sym (append-nil (f n)))
    ∙ ap (λ t. heading ++ t) (sym (ap (flat_map f) numbers ∙ flat_map-append f (range_with_len 0 n) (n ∷ [])))

-- what is left of a source, where so many of its lines went by
abbrev pub IsRest : (source : List ℕ) → (index : ℕ) → (rest : List ℕ) → Type 0
IsRest source index rest = (k : ℕ) → get_or (source_lines source) (index + k) [] ≡ get_or (source_lines rest) k []

pub rest_first : (source rest : List ℕ) (index : ℕ) → IsRest source index rest → get_or (source_lines source) index [] ≡ get_or (source_lines rest) 0 []
rest_first source rest index h = ap (λ n. get_or (source_lines source) n []) (let none : index ≡ index + 0 = omega arith in none) ∙ h 0

pub rest_next : (source rest after : List ℕ) (index : ℕ) → IsRest source index rest → ((k : ℕ) → get_or (source_lines rest) (suc k) [] ≡ get_or (source_lines after) k []) → IsRest source (index + 1) after
rest_next source rest after index h next k =
    ap (λ n. get_or (source_lines source) n []) (let moved : index + 1 + k ≡ index + (k + 1) = omega arith in moved) ∙ h (k + 1)
    ∙ ap (λ n. get_or (source_lines rest) n []) (add-one k) ∙ next k

-- the row of a line as an object
pub object_row : (style : CountStyle) (files : Files) (line : ℕ) (count got : LineCount) (marked : Bool) (bytes : List ℕ) (at : Line) (old new : List ℕ) → style ≡ styles.Json → at ≡ own_line files line → got ≡ count → new ≡ old ++ object_text at got
    → new ≡ old ++ row_text style files line count marked bytes
object_row style files line count got marked bytes at old new json there same is =
    is ∙ (λ i. old ++ object_text (there i) (same i)) ∙ ap (λ s. old ++ row_text s files line count marked bytes) (sym json)

-- the row of a line of a table
pub table_row : (style : CountStyle) (files : Files) (line : ℕ) (count got : LineCount) (marked : Bool) (bytes : List ℕ) (number : ℕ) (beyond : Option Line) (old t1 t2 t3 new : List ℕ) → style ≡ styles.Table → beyond ≡ beyond_first files line
    → number ≡ (own_line files line).line → got ≡ count → t1 ≡ old ++ file_row beyond → t2 ≡ t1 ++ cells_text marked number got → t3 ≡ t2 ++ beside_text bytes → new ≡ t3 ++ codes "\n"
    → new ≡ old ++ row_text style files line count marked bytes
table_row style files line count got marked bytes number beyond old t1 t2 t3 new table first own same file cells beside end =
    let one : t2 ≡ old ++ (file_row beyond ++ cells_text marked number got) = piece old t1 t2 (file_row beyond) (cells_text marked number got) file cells in
    let two : t3 ≡ old ++ ((file_row beyond ++ cells_text marked number got) ++ beside_text bytes) = piece old t2 t3 _ (beside_text bytes) one beside in
    let all : new ≡ old ++ (((file_row beyond ++ cells_text marked number got) ++ beside_text bytes) ++ codes "\n") = piece old t3 new _ (codes "\n") two end in
    all ∙ (λ i. old ++ (((file_row (first i) ++ cells_text marked (own i) (same i)) ++ beside_text bytes) ++ codes "\n")) ∙ ap (λ s. old ++ row_text s files line count marked bytes) (sym table)
