-- Closed facts: texts in JSON, and names of files.
use Rattle.std.specs.Prelude.{◌≡◌, [], ◌∷◌, codes, map, refl}
use Rattle.btools.specs.Quoting.{file_byte, json_byte, json_text}

-- control characters, the blank, the bytes beside the quote and the backslash, the last of ASCII, and others
json_bytes : map json_byte (0 ∷ 10 ∷ 16 ∷ 31 ∷ 32 ∷ 33 ∷ 34 ∷ 35 ∷ 91 ∷ 92 ∷ 93 ∷ 126 ∷ 127 ∷ 128 ∷ 255 ∷ [])
    ≡ (codes "\\u0000" ∷ codes "\\u000a" ∷ codes "\\u0010" ∷ codes "\\u001f" ∷ codes " " ∷ codes "!" ∷ codes "\\\""
    ∷ codes "#" ∷ codes "[" ∷ codes "\\\\" ∷ codes "]" ∷ codes "~" ∷ (127 ∷ []) ∷ (128 ∷ []) ∷ (255 ∷ []) ∷ [])
json_bytes = refl

-- the control characters of a file's name, with the bytes beside them, and those of other alphabets
file_bytes : map file_byte (0 ∷ 10 ∷ 31 ∷ 32 ∷ 126 ∷ 127 ∷ 128 ∷ 255 ∷ [])
    ≡ (codes "\\u0000" ∷ codes "\\u000a" ∷ codes "\\u001f" ∷ codes " " ∷ codes "~" ∷ codes "\\u007f" ∷ (128 ∷ [])
    ∷ (255 ∷ []) ∷ [])
file_bytes = refl

json_texts : map json_text ([] ∷ codes "a\"b" ∷ []) ≡ (codes "\"\"" ∷ codes "\"a\\\"b\"" ∷ [])
json_texts = refl
