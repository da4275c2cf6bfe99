-- Inner words: texts in JSON, and names of files, as the tools for a reader write them.
use Rattle.std.specs.Prelude.{ℕ, ◌/◌, ◌%◌, ◌==◌, ◌||◌, nat_lt, if◌then◌else◌, List, [], ◌∷◌, ◌++◌, codes}
use Rattle.std.specs.Char.{digit_char}
use Rattle.std.specs.List.{flat_map}

-- a byte in hexadecimal digits, as JSON has it
abbrev pub coded : ℕ → List ℕ
coded b = codes "\\u00" ++ digit_char (b / 16) ∷ digit_char (b % 16) ∷ []

-- a byte of a text in JSON, where 34 is the quote, 92 the backslash, and the control characters are below 32
abbrev pub json_byte : ℕ → List ℕ
json_byte b =
    if b == 34 then codes "\\\"" else (if b == 92 then codes "\\\\" else
    (if nat_lt b 32 then coded b else b ∷ []))

abbrev pub json_text : List ℕ → List ℕ
json_text text = codes "\"" ++ flat_map json_byte text ++ codes "\""

-- a byte of the name of a file for people: a control character is escaped, so that no name has two lines
abbrev pub file_byte : ℕ → List ℕ
file_byte b = if nat_lt b 32 || (b == 127) then coded b else b ∷ []

abbrev pub file_text : List ℕ → List ℕ
file_text name = flat_map file_byte name
