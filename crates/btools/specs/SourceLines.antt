-- Inner words: the lines of a source, as they are shown.
use Rattle.std.specs.Prelude.{ℕ, ◌+◌, ◌-◌, ◌==◌, List, [], ◌++◌, codes, count_by, get_or, length, map, replicate}
use Rattle.std.specs.Prelude.{take, if◌then◌else◌}
use Rattle.std.specs.Char.{is_ascii_whitespace}
use Rattle.std.specs.List.{ends_with, slice_split, suffix_len}
use Rattle.btools.specs.Characters.{is_printable}

-- A newline ends a line, and the last one is what stands after them all.
abbrev pub source_lines : List ℕ → List (List ℕ)
source_lines source = slice_split (λ b. b == 10) source

abbrev pub newlines_in : List ℕ → ℕ
newlines_in source = count_by (λ b. b == 10) source

-- the number of the last line; it is none where nothing stands after the last newline
abbrev pub last_line : List ℕ → ℕ
last_line source =
    if ends_with (λ a b. a == b) source (codes "\n") then newlines_in source else newlines_in source + 1

-- the line of a number, from 1 on; nothing where there is none
abbrev pub line_at : (source : List ℕ) → (number : ℕ) → List ℕ
line_at source number = get_or (source_lines source) (number - 1) []

-- a line without the white space at its end
abbrev pub trimmed : List ℕ → List ℕ
trimmed line = take (length line - suffix_len is_ascii_whitespace line) line

-- a character; a blank for a tab, and `?` for what can't be printed
abbrev pub plain_byte : ℕ → ℕ
plain_byte b = if b == 9 then 32 else (if is_printable b then b else 63)

-- a mark under a byte of a line that is shown after four blanks, with the newline before it; nothing where no column is
-- told
abbrev pub mark_under : (column : ℕ) → List ℕ
mark_under column = if column == 0 then [] else codes "\n    " ++ replicate (column - 1) 32 ++ codes "^"

-- a line as it is shown
abbrev pub shown_line : List ℕ → List ℕ
shown_line line = map plain_byte (trimmed line)
