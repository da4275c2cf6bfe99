-- The instructions of a program, each on its line.
use Rattle.std.proofs.Common.{◌≡◌, ◌∙◌, ℕ, ◌+◌, ◌-◌, ◌<◌, ◌≤◌, List, [], ◌∷◌, ◌++◌, Option, Some, None, add-one, ap, ap₂, append_assoc, arith, drop, drop-cons, get_or, length, map, min, refl, sym}
use Rattle.std.specs.Borrow.{Bor}
use Rattle.std.specs.List.{All, ends_with, enumerate_from, flat_map, slice_get}
use Rattle.std.specs.Option.{option_copied}
use Rattle.std.specs.Prelude.{MatchOption, codes, option_map, ◌==◌}
use Rattle.std.proofs.lemmas.Bool.{cond_both}
use Rattle.std.proofs.lemmas.Bool.Decides.{nat_tests}
use Rattle.std.proofs.lemmas.List.{map-append}
use Rattle.std.proofs.lemmas.List.Elements.{All-append, All-cons, All-nil}
use Rattle.std.proofs.lemmas.Option.{slice_get-get_or, slice_get-map, slice_get_past}
use Rattle.btools.specs.ProgramLines.{FunctionLines, line_in, lined_entry}
use Rattle.btools.specs.declared.tables.FunctionEntry.{FunctionEntry}
use Rattle.bcount.specs.Counts.{counted_at, counted_in, counted_of, row_of, rows_of}
use Rattle.btools.specs.SourceLines.{last_line, newlines_in}
use Rattle.bcount.specs.SourceLines.{IsOnLines}
use Rattle.bcount.specs.declared.lines.Counted.{Counted}
use Rattle.bcount.proofs.Splits.{ended}

-- the lines of a function of a table
pub entry_lines : (o : Option (Bor FunctionEntry)) (es : List FunctionEntry) (i : ℕ) → MatchOption o (length es ≤ i) (λ x. (i < length es) × ((d : FunctionEntry) → x.now ≡ get_or es i d)) → option_map lined_entry (option_copied o) ≡ slice_get (map lined_entry es) i
entry_lines None es i h = sym (slice_get-map lined_entry es i ∙ ap (option_map lined_entry) (slice_get_past es i h))
entry_lines (Some x) es i h = ap (λ (e : FunctionEntry). Some (lined_entry e)) (h.1 x.now) ∙ sym (slice_get-map lined_entry es i ∙ ap (option_map lined_entry) (slice_get-get_or es i x.now h.0))

-- one place of a function more, and one function more
pub place_more : (last : ℕ) (f : Option FunctionLines) (counts : List ℕ) (i : ℕ) (all items new : List Counted) → i < length counts → all ≡ items ++ map (λ x. counted_at last f x.0 x.1) (enumerate_from i (drop i counts)) → new ≡ items ++ counted_at last f i (get_or counts i 0) ∷ []
    → all ≡ new ++ map (λ x. counted_at last f x.0 x.1) (enumerate_from (i + 1) (drop (i + 1) counts))
place_more last f counts i all items new lt before pushed =
    let first : drop i counts ≡ get_or counts i 0 ∷ drop (i + 1) counts = drop-cons counts i 0 lt ∙ ap (λ n. get_or counts i 0 ∷ drop n counts) (sym (add-one i)) in
    let left = map (λ (x : ℕ × ℕ). counted_at last f x.0 x.1) (enumerate_from (i + 1) (drop (i + 1) counts)) in
    before ∙ ap (λ cs. items ++ map (λ x. counted_at last f x.0 x.1) (enumerate_from i cs)) first
    ∙ sym (append_assoc items (counted_at last f i (get_or counts i 0) ∷ []) left) ∙ ap (λ t. t ++ left) (sym pushed)

abbrev pub from_function : (last : ℕ) → List FunctionLines → ℕ → List (List ℕ) → List Counted
from_function last fs i tallies = flat_map (λ x. counted_in last (slice_get fs x.0) x.1) (enumerate_from i tallies)

pub function_more : (last : ℕ) (fs : List FunctionLines) (tallies : List (List ℕ)) (i : ℕ) (counts : List ℕ) (all items new : List Counted) → i < length tallies → counts ≡ get_or tallies i counts → all ≡ items ++ from_function last fs i (drop i tallies) → new ≡ items ++ counted_in last (slice_get fs i) counts
    → all ≡ new ++ from_function last fs (i + 1) (drop (i + 1) tallies)
function_more last fs tallies i counts all items new lt is before pushed =
    let first : drop i tallies ≡ counts ∷ drop (i + 1) tallies = drop-cons tallies i counts lt ∙ ap₂ (λ c n. c ∷ drop n tallies) (sym is) (sym (add-one i)) in
    let left = from_function last fs (i + 1) (drop (i + 1) tallies) in
    before ∙ ap (λ ts. items ++ from_function last fs i ts) first ∙ sym (append_assoc items (counted_in last (slice_get fs i) counts) left) ∙ ap (λ t. t ++ left) (sym pushed)

-- their counts are those of the instructions
counts_in : (last : ℕ) (f : Option FunctionLines) (n : ℕ) (counts : List ℕ) → map (λ (c : Counted). c.count) (map (λ x. counted_at last f x.0 x.1) (enumerate_from n counts)) ≡ counts
counts_in last f n [] = refl
counts_in last f n (c ∷ cs) = ap (λ xs. c ∷ xs) (counts_in last f (n + 1) cs)

counts_from : (last : ℕ) (fs : List FunctionLines) (n : ℕ) (tallies : List (List ℕ)) → map (λ (c : Counted). c.count) (from_function last fs n tallies) ≡ flat_map (λ xs. xs) tallies
counts_from last fs n [] = refl
counts_from last fs n (t ∷ ts) =
    map-append (λ (c : Counted). c.count) (counted_in last (slice_get fs n) t) (from_function last fs (n + 1) ts)
    ∙ ap₂ (λ a b. a ++ b) (counts_in last (slice_get fs n) 0 t) (counts_from last fs (n + 1) ts)

pub counts_kept : (last : ℕ) (fs : List FunctionLines) (tallies : List (List ℕ)) → map (λ (c : Counted). c.count) (counted_of last fs tallies) ≡ flat_map (λ xs. xs) tallies
counts_kept last fs tallies = counts_from last fs 0 tallies

-- each is on a row
on_row : (rows line : ℕ) → 1 < rows → (0 < row_of rows line) × (row_of rows line ≤ rows)
on_row rows line some =
    cond_both (line == 0) rows (min line (rows - 1)) (λ n. (0 < n) × (n ≤ rows)) (λ e. (omega (arith, some), omega arith))
    (λ e. (grind (arith, nat_tests), omega arith))

on_in : (last : ℕ) (f : Option FunctionLines) (n : ℕ) (counts : List ℕ) → 1 < last → All (IsOnLines last) (map (λ x. counted_at last f x.0 x.1) (enumerate_from n counts))
on_in last f n [] some = All-nil (IsOnLines last)
on_in last f n (c ∷ cs) some = All-cons (IsOnLines last) (counted_at last f n c) _ (on_row last (line_in f n) some) (on_in last f (n + 1) cs some)

on_from : (last : ℕ) (fs : List FunctionLines) (n : ℕ) (tallies : List (List ℕ)) → 1 < last → All (IsOnLines last) (from_function last fs n tallies)
on_from last fs n [] some = All-nil (IsOnLines last)
on_from last fs n (t ∷ ts) some = All-append (IsOnLines last) (counted_in last (slice_get fs n) t) (from_function last fs (n + 1) ts) (on_in last (slice_get fs n) 0 t some) (on_from last fs (n + 1) ts some)

pub all_on : (last : ℕ) (fs : List FunctionLines) (tallies : List (List ℕ)) → 1 < last → All (IsOnLines last) (counted_of last fs tallies)
all_on last fs tallies some = on_from last fs 0 tallies some

some_line : (source : List ℕ) → 0 < last_line source
some_line source = cond_both (ends_with (λ a b. a == b) source (codes "\n")) (newlines_in source) (newlines_in source + 1) (λ n. 0 < n) (λ e. ended source e) (λ e. omega arith)

pub two_rows : (source : List ℕ) → 1 < rows_of source
two_rows source = let some = some_line source in omega (arith, some)
