-- Promise: what could come in a line of a code text, by the lines before it.
use Rattle.std.specs.Prelude.{ℕ, ◌+◌, ◌-◌, ◌*◌, ◌==◌, ◌||◌, nat_lt, Bool, if◌then◌else◌, List, [], ◌∷◌, ◌++◌}
use Rattle.std.specs.Prelude.{codes, decimal, get_or, min, take, Option, Some, None}
use Rattle.std.specs.List.{fold, slice_split}
use Rattle.bword.specs.ByteEnds.{most}
use Rattle.btools.specs.SourceLines.{line_at, source_lines}
use Rattle.bwhere.specs.declared.due.Due.{Due}
use Rattle.bwhere.specs.declared.due.Item.{Item}
use Rattle.bwhere.specs.declared.due.Item.TheVariants as item
use Rattle.bwhere.specs.declared.due.ItemRow.{ItemRow}
use Rattle.bwhere.specs.declared.due.Opened.{Opened}

-- the byte with which a line begins, or 0
abbrev pub initial : List ℕ → ℕ
initial line = get_or line 0 0

-- A definition begins with a line of F, V or X, and a text ends with a line of E.
abbrev pub opens : List ℕ → Bool
opens line =
    (initial line == 69) || (initial line == 70) || (initial line == 86) || (initial line == 88)

-- Of lines, it is known how many there are, and the number of the last one that opens something.
abbrev pub next_opened : Opened → List ℕ → Opened
next_opened opened line = let lines = min (opened.lines + 1) most in
    record { at = if opens line then lines else opened.at; lines = lines }

-- the same of the lines before one of a text
abbrev pub opened_before : (text : List ℕ) → (number : ℕ) → Opened
opened_before text number = fold next_opened (record { at = 0; lines = 0 }) (take (number - 1) (source_lines text))

-- a part of a line, from 0 on; nothing where there is none
abbrev pub part_at : List ℕ → ℕ → List ℕ
part_at line number = get_or (slice_split (λ b. b == 32) line) number []

-- the number that digits write, or the greatest one
abbrev pub number_in : List ℕ → ℕ
number_in digits = fold (λ number digit. min (min (number * 10) most + (digit - 48)) most) 0 digits

abbrev row : Item → (part : ℕ) → ItemRow
row it part = record { item = it; part = part }

-- the lines of a definition whose first line begins with this byte, in order, and the parts of that line with their
-- numbers
abbrev pub rows_of : (initial : ℕ) → List ItemRow
rows_of initial = if initial == 70 then row item.Target 4 ∷ row item.StringWord 5 ∷ row item.Instruction 6 ∷ []
    else (if initial == 88 then row item.Value 2 ∷ row item.StringWord 3 ∷ []
    else (if initial == 86 then row item.Value 3 ∷ row item.StringWord 4 ∷ [] else []))

-- the line after so many lines of a definition; none where it has no more
abbrev pub due_among : (first : List ℕ) → List ItemRow → (since : ℕ) → Option Due
due_among first [] since = None
due_among first (r ∷ rs) since = let count = number_in (part_at first r.part) in
    if nat_lt since count then Some (record { item = r.item; number = since + 1; count = count })
    else due_among first rs (since - count)

abbrev pub item_words : Item → List ℕ
item_words item.Target = codes "t n, target "
item_words item.Value = codes "c n, x name or s off, initial value "
item_words item.StringWord = codes "w n, string word "
item_words item.Instruction = codes "an instruction, "

abbrev pub next_words : List ℕ
next_words = codes "the first line of a definition, or E"

-- a line of a definition: which of how many, and the name of the definition
abbrev pub due_words : (first : List ℕ) → Option Due → List ℕ
due_words first None = next_words
due_words first (Some due) =
    item_words due.item ++ decimal due.number ++ codes " of " ++ decimal due.count ++ codes " of " ++ part_at first 1

-- what the line is that comes so many lines after a line that opens something
abbrev pub item_text : (first : List ℕ) → (since : ℕ) → List ℕ
item_text first since = if initial first == 69 then codes "nothing after E"
    else due_words first (due_among first (rows_of (initial first)) since)

-- what the first line of a text can be, and one after B 2
abbrev pub begin_text : (number : ℕ) → List ℕ
begin_text number = (if number == 1 then codes "B 2, " else []) ++ next_words

-- what could come in a line of a text
abbrev pub due_text : (text : List ℕ) → (number : ℕ) → List ℕ
due_text text number = let at = Opened.at (opened_before text number) in
    if nat_lt 0 at then item_text (line_at text at) (number - 1 - at) else begin_text number
