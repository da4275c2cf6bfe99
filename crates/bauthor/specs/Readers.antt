-- Inner words: how a file of names, or of lines, is read.
use Rattle.std.specs.Prelude.{◌≡◌, ℕ, List, ◌++◌, drop, map, option_map, Option, Result, Ok, Err}
use Rattle.bauthor.specs.AuthorFiles.{read_from, with_read}
use Rattle.bauthor.specs.LineFiles as numbers
use Rattle.bauthor.specs.NameFiles as names
use Rattle.std.specs.Borrow.{Bor}
use Rattle.bauthor.specs.declared.line.NameLine.{NameLine}
use Rattle.bauthor.specs.declared.place_line.PlaceLine.{PlaceLine}
use Rattle.bauthor.specs.declared.fault.NameFault.{NameFault}
use Rattle.bauthor.specs.declared.fault.LineFault.{LineFault}
use Rattle.bauthor.specs.declared.fault.LineWanted.{LineWanted}
use Rattle.bauthor.specs.declared.fault.LineWanted.TheVariants as line_wanted
use Rattle.bauthor.specs.declared.fault.Wanted.{Wanted}
use Rattle.bauthor.specs.declared.fault.Wanted.TheVariants as wanted
use Rattle.bauthor.specs.declared.place_lines.LineReader.{LineReader}
use Rattle.bauthor.specs.declared.reading.Reader.{Reader}

-- Where these lines are wanted, they were read, whatever is wanted after them; or one of them is the first wrong one.
abbrev pub Moves : {W S R F A : Type 0} → (read_by : S → List W → R) → (Fails : F → R → Type 0) → List W → S
    → Result A F → S → Type 0
Moves {W = W} read_by Fails ws old (Ok x) new = (more : List W) → read_by old (ws ++ more) ≡ read_by new more
Moves {W = W} read_by Fails ws old (Err f) new = (more : List W) → Fails f (read_by old (ws ++ more))

-- what was read, and what is read of the lines that are left, where these are wanted
abbrev pub read_by : Reader → List Wanted → Result (List NameLine) (ℕ × Wanted)
read_by r ws = with_read r.names.items
    (read_from names.name_read wanted.End r.number ws (map (λ l. l.now) (drop r.at r.lines.now)))

abbrev pub Advances : {A : Type 0} → List Wanted → Reader → Result A NameFault → Reader → Type 0
Advances ws old r new = Moves read_by names.Fails ws old r new

-- the lines of the source, if they are known
abbrev pub lines_shown : Option (Bor (List (Bor (List ℕ)))) → Option (List (List ℕ))
lines_shown source = option_map (λ lines. map (λ l. l.now) lines.now) source

-- the same of a file of lines
abbrev pub lines_by : LineReader → List LineWanted → Result (List PlaceLine) (ℕ × LineWanted)
lines_by r ws = with_read r.places.items
    (read_from (numbers.line_read (lines_shown r.source)) line_wanted.End r.number ws
    (map (λ l. l.now) (drop r.at r.lines.now)))

abbrev pub LinesAdvance : {A : Type 0} → List LineWanted → LineReader → Result A LineFault → LineReader → Type 0
LinesAdvance ws old r new = Moves lines_by numbers.Fails ws old r new
