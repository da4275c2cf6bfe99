-- Closed facts: bytes and words as characters, columns, lines of loading, lines of a source, and where a name
-- lies.
use Rattle.std.specs.Prelude.{◌≡◌, [], ◌∷◌, ◌++◌, codes, filter, get_or, length, map, nat_lt, refl, true, false, Some, None}
use Rattle.std.specs.List.{range_with_len}
use Rattle.blang.specs.Cut.{escape_of}
use Rattle.blang.specs.declared.run.LoadFault.TheVariants as fault
use Rattle.blang.specs.Machine.{Image}
use Rattle.btools.specs.Characters.{is_printable, shown_byte, shown_word}
use Rattle.btools.specs.Columns.{left, right, without_newline}
use Rattle.btools.specs.Programs.{image_address, load_line}
use Rattle.btools.specs.SourceLines.{line_at, mark_under, shown_line, source_lines}

printable_limits : map is_printable (10 ∷ 31 ∷ 32 ∷ 126 ∷ 127 ∷ 255 ∷ [])
    ≡ false ∷ false ∷ true ∷ true ∷ false ∷ false ∷ []
printable_limits = refl

bytes_with_escapes : map shown_byte (10 ∷ 9 ∷ 42 ∷ 0 ∷ 4 ∷ [])
    ≡ codes "*n" ∷ codes "*t" ∷ codes "**" ∷ codes "*0" ∷ codes "*e" ∷ []
bytes_with_escapes = refl

-- these alone, each by an escape of the language that stands for it
bytes_with_two : filter (λ b. nat_lt 1 (length (shown_byte b))) (range_with_len 0 256) ≡ 0 ∷ 4 ∷ 9 ∷ 10 ∷ 42 ∷ []
bytes_with_two = refl

bytes_escaped : map (λ b. escape_of (get_or (shown_byte b) 1 0)) (0 ∷ 4 ∷ 9 ∷ 10 ∷ 42 ∷ [])
    ≡ Some 0 ∷ Some 4 ∷ Some 9 ∷ Some 10 ∷ Some 42 ∷ []
unfolding escape_of
bytes_escaped = refl

bytes_at_limits : map shown_byte (31 ∷ 32 ∷ 126 ∷ 127 ∷ 255 ∷ [])
    ≡ codes "." ∷ codes " " ∷ codes "~" ∷ codes "." ∷ codes "." ∷ []
bytes_at_limits = refl

words_as_characters : map shown_word (0 ∷ 104 ∷ 255 ∷ 256 ∷ 26984 ∷ 65535 ∷ [])
    ≡ codes "'*0'" ∷ codes "'h'" ∷ codes "'.'" ∷ codes "'*0.'" ∷ codes "'hi'" ∷ codes "'..'" ∷ []
words_as_characters = refl

at_the_right : right 3 (codes "7") ∷ right 3 (codes "777") ∷ right 3 (codes "7777") ∷ []
    ≡ codes "  7" ∷ codes "777" ∷ codes "7777" ∷ []
at_the_right = refl

at_the_left : left 3 (codes "n") ∷ left 3 (codes "nnn") ∷ left 3 (codes "nnnn") ∷ []
    ≡ codes "n  " ∷ codes "nnn" ∷ codes "nnnn" ∷ []
at_the_left = refl

a_line : without_newline (codes "c 5\n") ≡ codes "c 5"
a_line = refl

lines_of_loading : map load_line
    (fault.Duplicate (codes "f") ∷ fault.TooLarge ∷ fault.Undefined (codes "f") ∷ fault.NoMain ∷ fault.Memory ∷ [])
    ≡ Some (codes "load 1\n") ∷ Some (codes "load 2\n") ∷ Some (codes "load 3\n") ∷ Some (codes "load 4\n") ∷ None ∷ []
lines_of_loading = refl

abbrev image : Image
image = record {
  functions = [];
  main = None;
  words = [];
  data_end = 8;
  addresses = (codes "n", 7) ∷ (codes "m", 8) ∷ [];
}

addresses_of_names : map (image_address image) (codes "n" ∷ codes "m" ∷ codes "o" ∷ []) ≡ 7 ∷ 8 ∷ 0 ∷ []
addresses_of_names = refl

-- the lines of a source: the first one, one without bytes, the last one, and one past it
lines_by_number : map (line_at (codes "a\n\nbc\nd")) (1 ∷ 2 ∷ 3 ∷ 4 ∷ 5 ∷ [])
    ≡ codes "a" ∷ [] ∷ codes "bc" ∷ codes "d" ∷ [] ∷ []
lines_by_number = refl

lines_in_order : source_lines (codes "a\n\nbc\n") ≡ codes "a" ∷ [] ∷ codes "bc" ∷ [] ∷ []
lines_in_order = refl

-- a tab, a byte that can't be printed, and the white space at the end of a line
line_shown : shown_line (9 ∷ codes "x " ++ 127 ∷ 31 ∷ codes "~ " ++ 9 ∷ 13 ∷ []) ≡ codes " x ??~"
line_shown = refl

blank_line_shown : shown_line (codes "  ") ≡ []
blank_line_shown = refl

-- nothing where no column is told, and a mark under the first byte, the second, and one far on
marks_under : map mark_under (0 ∷ 1 ∷ 2 ∷ 9 ∷ [])
    ≡ [] ∷ codes "\n    ^" ∷ codes "\n     ^" ∷ codes "\n            ^" ∷ []
marks_under = refl
