-- Promise: the lines of a file of names, each of one function, word or label.
use Rattle.std.specs.Prelude.{ℕ, ◌==◌, nat_lt, Bool, true, false, if◌then◌else◌, List, [], ◌∷◌, ◌++◌, length, codes}
use Rattle.std.specs.Prelude.{Option, Some, None, option_map}
use Rattle.std.specs.Str.{bytes_eq}
use Rattle.bword.specs.Words.{is_name}
use Rattle.bauthor.specs.declared.line.NameLine.{NameLine}
use Rattle.bauthor.specs.declared.line.NameLine.TheVariants as line
use Rattle.bauthor.specs.declared.fault.Wanted.{Wanted}
use Rattle.bauthor.specs.declared.fault.Wanted.TheVariants as wanted

-- how a line is written
abbrev pub line_text : NameLine → List ℕ
line_text (line.Function name) = codes "F " ++ name
line_text (line.Word name) = codes "a " ++ name
line_text line.More = codes "-"
line_text (line.Label name) = codes "l " ++ name

-- a blank and a name
abbrev pub name_after : List ℕ → Option (List ℕ)
name_after [] = None
name_after (b ∷ name) = if b == 32 then (if is_name name then Some name else None) else None

-- how it is read
abbrev pub line_read : List ℕ → Option NameLine
line_read [] = None
line_read (letter ∷ rest) =
    if letter == 70 then option_map line.Function (name_after rest) else (
    if letter == 97 then option_map line.Word (name_after rest) else (
    if letter == 108 then option_map line.Label (name_after rest) else (
    if letter == 45 then (if length rest == 0 then Some line.More else None) else None)))

-- whether a line is what is wanted: the first word of a frame is no further word of a vector
abbrev pub suits : Wanted → NameLine → Bool
suits (wanted.Function name) (line.Function found) = bytes_eq name found
suits (wanted.Word function k) (line.Word name) = true
suits (wanted.Word function k) line.More = nat_lt 0 k
suits (wanted.Label function k) (line.Label name) = true
suits w l = false

-- a name that a line has is one
abbrev pub has_name : NameLine → Bool
has_name (line.Function name) = is_name name
has_name (line.Word name) = is_name name
has_name line.More = true
has_name (line.Label name) = is_name name
