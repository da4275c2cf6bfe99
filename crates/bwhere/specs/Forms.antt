-- Promise: the form of the line that was meant where a line of a code text is wrong, and the range of its numbers.
use Rattle.std.specs.Prelude.{ℕ, ◌-◌, ◌==◌, ◌||◌, nat_lt, Bool, if◌then◌else◌, List, [], ◌++◌, codes, get_or, length}
use Rattle.std.specs.Prelude.{Option, Some, None}
use Rattle.btools.specs.SourceLines.{line_at}
use Rattle.bwhere.specs.Dues.{due_among, initial, opened_before, part_at, rows_of}
use Rattle.bwhere.specs.declared.due.Due.{Due}
use Rattle.bwhere.specs.declared.due.Item.{Item}
use Rattle.bwhere.specs.declared.due.Item.TheVariants as item
use Rattle.bwhere.specs.declared.due.Opened.{Opened}

-- the form of an instruction or a value that begins with a letter, up to the bound of its last number
abbrev pub letter_words : (letter : ℕ) → List ℕ
letter_words letter =
    if letter == 97 then codes "a k: k below " else (
    if letter == 98 || letter == 109 then codes "b op, m op: one of | & == != < <= > >= << >> - + % * /" else (
    if letter == 99 then codes "c n: n from 0 to 65535, without needless zeros" else (
    if letter == 101 then codes "e v t: v from 0 to 65535, t below " else (
    if letter == 105 then codes "i d: d from 0 to 3" else (
    if letter == 106 || letter == 122 then codes "j t, z t: t below " else (
    if letter == 107 then codes "k n: n from 0 to 65535, without needless zeros" else (
    if letter == 108 then codes "l k: k below " else (
    if letter == 115 then codes "s off: off below " else (
    if letter == 120 then codes "x name: one to eight letters, digits and _, the first no digit" else (
    if letter == 103 || letter == 104 || letter == 110 || letter == 112 || letter == 114 || letter == 118 || letter == 119
    then codes "the letter alone" else []))))))))))

-- that of the first line of a definition
abbrev pub header_words : (letter : ℕ) → List ℕ
header_words letter =
    if letter == 70 then codes "F name params frame labels strs instrs: params to 128 and to frame, frame to 32767, "
    ++ codes "labels to 128, strs to 1024, instrs to 4096" else (
    if letter == 86 then codes "V name words ivals strs: words from 1 and from ivals to 32767, ivals and strs to 1024"
    else (if letter == 88 then codes "X name ivals strs: ivals and strs to 1024" else []))

-- the form of a line of an item, or of the first one of a definition
abbrev pub line_words : Option Item → (letter : ℕ) → List ℕ
line_words None letter = header_words letter
line_words (Some item.Target) letter = if letter == 116 then codes "t n: n below " else []
line_words (Some item.Value) letter =
    if letter == 99 || letter == 115 || letter == 120 then letter_words letter else []
line_words (Some item.StringWord) letter =
    if letter == 119 then codes "w n: n from 0 to 65535, without needless zeros" else []
line_words (Some item.Instruction) letter = letter_words letter

-- the part of the first line of a definition, which begins with a letter, that bounds the last number; 0 where none does
abbrev pub bound_part : Option Item → (opening letter : ℕ) → ℕ
bound_part (Some item.Target) opening letter = 6
bound_part (Some item.Value) opening letter = if letter == 115 then (if opening == 88 then 3 else 4) else 0
bound_part (Some item.Instruction) opening letter =
    if letter == 97 then 3 else (if letter == 108 then 4 else (if letter == 115 then 5 else (
    if letter == 101 || letter == 106 || letter == 122 then 6 else 0)))
bound_part it opening letter = 0

-- what there are so many of
abbrev pub bound_words : (letter : ℕ) → List ℕ
bound_words letter = if letter == 97 then codes ", the words of the frame" else (
    if letter == 108 then codes ", the labels" else (
    if letter == 115 then codes ", the string words" else codes ", the instructions"))

abbrev pub bound_text : (first : List ℕ) → (part letter : ℕ) → List ℕ
bound_text first part letter = if nat_lt 0 part then part_at first part ++ bound_words letter else []

-- the form of a line with this letter, in a definition with this first line
abbrev pub form_text : (first : List ℕ) → Option Item → (letter : ℕ) → List ℕ
form_text first it letter = let words = line_words it letter in
    if length words == 0 then [] else
    codes "; " ++ words ++ bound_text first (bound_part it (initial first) letter) letter

-- the last line before one that opens something; nothing where there is none
abbrev pub opening_line : (text : List ℕ) → (at : ℕ) → List ℕ
opening_line text at = if nat_lt 0 at then line_at text at else []

abbrev pub item_of : Option Due → Option Item
item_of None = None
item_of (Some due) = Some due.item

abbrev pub last_byte : List ℕ → ℕ
last_byte line = get_or line (length line - 1) 0

-- the form of a line, where it isn't one after the last line of a text
abbrev pub meant_text : (first : List ℕ) → (since letter : ℕ) → List ℕ
meant_text first since letter = if initial first == 69 then [] else
    form_text first (item_of (due_among first (rows_of (initial first)) since)) letter

-- what more is told of a wrong line: that a carriage return ends it, or the form that it should have by its letter
abbrev pub hint_text : (text : List ℕ) → (number : ℕ) → List ℕ
hint_text text number = let line = line_at text number in
    if last_byte line == 13 then codes "; the line ends with CR LF, and LF alone is wanted" else (
    let at = Opened.at (opened_before text number) in
    meant_text (opening_line text at) (number - 1 - at) (initial line))
