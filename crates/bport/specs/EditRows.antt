-- Closed facts: what edits make of a source, which ones fit, and how they are told.
use Rattle.std.specs.Fmt.{digits}
use Rattle.std.specs.Prelude.{◌≡◌, ℕ, true, false, List, [], ◌∷◌, ◌++◌, codes, map, refl}
use Rattle.bport.specs.Changes.{listed}
use Rattle.bport.specs.Edits.{are_edits_of, edited}
use Rattle.bport.specs.declared.edit.Edit.{Edit}
use Rattle.bport.specs.declared.row.Row.{Row}
use Rattle.bport.specs.declared.row.Row.TheVariants as row

abbrev at : (start end : ℕ) → (text : List ℕ) → Row → Edit
at start end text row = record { start = start; end = end; text = text; row = row }

edited_between :
    edited (codes "abcdef") 0 (at 1 3 (codes "X") row.And ∷ at 3 3 (codes "Y") row.Or ∷ []) ≡ codes "aXYdef"
edited_between = refl

in_order : map (are_edits_of (codes ";;;"))
    ((at 0 1 [] row.And ∷ at 1 1 [] row.And ∷ at 1 3 [] row.And ∷ []) ∷ (at 1 2 [] row.And ∷ at 1 1 [] row.And ∷ [])
    ∷ (at 2 1 [] row.And ∷ []) ∷ (at 3 4 [] row.And ∷ []) ∷ [])
    ≡ true ∷ false ∷ false ∷ false ∷ []
in_order = refl

-- the marks of a comment, its text, places in it, and the place before it and after it
around_comment : map (are_edits_of (codes "a/*b*/"))
    ((at 1 3 [] row.Remark ∷ []) ∷ (at 3 4 [] row.Remark ∷ []) ∷ (at 2 2 [] row.And ∷ []) ∷ (at 3 3 [] row.And ∷ [])
    ∷ (at 5 5 [] row.And ∷ []) ∷ (at 1 1 [] row.And ∷ []) ∷ (at 6 6 [] row.And ∷ []) ∷ [])
    ≡ false ∷ false ∷ false ∷ false ∷ false ∷ true ∷ true ∷ []
around_comment = refl

-- the marks of a comment up to the end of the line, which only others replace, its text, and its end
around_line : map (are_edits_of (codes "//b\n"))
    ((at 0 2 (codes "/*") row.Remark ∷ []) ∷ (at 0 2 [] row.Remark ∷ []) ∷ (at 2 2 [] row.And ∷ [])
    ∷ (at 3 3 (codes " */") row.Remark ∷ []) ∷ [])
    ≡ true ∷ false ∷ false ∷ true ∷ []
around_line = refl

-- the quote before a string, places in it, and the place before it and after it
around_string : map (are_edits_of (codes "\"a\"b"))
    ((at 0 1 [] row.And ∷ []) ∷ (at 1 1 [] row.And ∷ []) ∷ (at 2 2 [] row.And ∷ []) ∷ (at 0 0 [] row.And ∷ [])
    ∷ (at 3 3 [] row.And ∷ []) ∷ [])
    ≡ false ∷ false ∷ false ∷ true ∷ true ∷ []
around_string = refl

-- escapes, the same for another row and with another character, a half of one, and a character
in_string : map (are_edits_of (codes "\"a\\n*b\""))
    ((at 2 4 (codes "*n") row.Escape ∷ at 4 5 (codes "**") row.Escape ∷ []) ∷ (at 2 4 (codes "*n") row.And ∷ [])
    ∷ (at 2 4 (codes "*t") row.Escape ∷ []) ∷ (at 3 4 (codes "n") row.Escape ∷ []) ∷ (at 1 2 [] row.Escape ∷ []) ∷ [])
    ≡ true ∷ false ∷ false ∷ false ∷ false ∷ []
in_string = refl

-- an escape of which one more digit is a part, and one of two digits
octal_in_string : map (are_edits_of (codes "\"\\0123\""))
    ((at 1 3 (codes "*0") row.Escape ∷ []) ∷ (at 1 4 (codes "*0") row.Escape ∷ [])
    ∷ (at 1 5 (codes "*n") row.Escape ∷ []) ∷ [])
    ≡ false ∷ false ∷ true ∷ []
octal_in_string = refl

-- a statement that goes, another one in its place, and all of the code
deleted : map (are_edits_of (codes "f(x); g"))
    ((at 0 4 [] row.And ∷ []) ∷ (at 0 4 (codes "h(y)") row.And ∷ []) ∷ (at 0 7 [] row.Type ∷ []) ∷ [])
    ≡ false ∷ true ∷ false ∷ []
deleted = refl

-- what is in the brackets of a declaration, by one of its rows and by another one
of_declarations : map (are_edits_of (codes "v[2 * N];"))
    ((at 1 8 (codes " 8") row.Vector ∷ []) ∷ (at 1 8 [] row.External ∷ []) ∷ (at 1 8 [] row.And ∷ [])
    ∷ (at 0 8 [] row.Vector ∷ []) ∷ [])
    ≡ true ∷ true ∷ false ∷ false ∷ []
of_declarations = refl

-- code that goes, and comes again farther on, and that doesn't
moved : map (are_edits_of (codes "for(;a;b++) c;"))
    ((at 0 5 (codes "while(") row.For ∷ at 6 11 (codes ") {") row.For ∷ at 14 14 (codes " b++; }") row.For ∷ [])
    ∷ (at 0 5 (codes "while(") row.For ∷ at 6 11 (codes ") {") row.For ∷ []) ∷ [])
    ≡ true ∷ false ∷ []
moved = refl

types_alone : map (are_edits_of (codes "unsigned int n; m;"))
    ((at 0 13 [] row.Type ∷ []) ∷ (at 0 14 [] row.Type ∷ []) ∷ (at 16 17 [] row.Type ∷ []) ∷ [])
    ≡ true ∷ false ∷ false ∷ []
types_alone = refl

told_by_line : listed (codes "f") (codes "a\nb") 1 0 []
    (at 0 0 [] row.And ∷ at 0 1 [] row.Do ∷ at 1 1 [] row.And ∷ at 2 2 [] row.And ∷ [])
    ≡ codes "f:1: ported: && is ?: or, between comparisons, &\nf:1: ported: do is a while, or a goto\n"
    ++ codes "f:2: ported: && is ?: or, between comparisons, &\n"
unfolding digits
told_by_line = refl
