-- Promise: a file of an author is read just where it is written so.
use Rattle.std.specs.Prelude.{◌≡◌, ℕ, ◌+◌, ◌<◌, ◌≤◌, List, [], ◌∷◌, ◌++◌, Result, Ok, Err, decimal, length, map, true}
use Rattle.std.specs.Prelude.{Option, None, Some, MatchOption, option_map}
use Rattle.blang.specs.declared.code.Definition.{Definition}
use Rattle.bword.specs.ByteEnds.{most}
use Rattle.bauthor.specs.AuthorFiles.{lines_of}
use Rattle.bauthor.specs.LineFiles.{columns_in, lines_read, lines_wanted}
use Rattle.bauthor.specs.NameFiles.{names_read, names_wanted}
use Rattle.bauthor.specs.NameLines.{has_name, line_text, suits}
use Rattle.bauthor.specs.declared.line.NameLine.{NameLine}
use Rattle.bauthor.specs.declared.place_line.PlaceLine.{PlaceLine}
use Rattle.bauthor.specs.declared.fault.LineWanted.{LineWanted}
use Rattle.bauthor.specs.declared.fault.LineWanted.TheVariants as line_wanted
use Rattle.bauthor.specs.declared.fault.Wanted.{Wanted}
use Rattle.bauthor.specs.declared.fault.Wanted.TheVariants as wanted

-- A file, in which a line suits what is wanted or not, and is written so.
module _ {W L : Type 0} (Suits : W → L → Type 0) (text : L → List ℕ) (end : W) where
  -- Each line is what is wanted, and there are no others.
  abbrev pub AreSuiting : List W → List L → Type 0
  AreSuiting [] [] = Unit {0}
  AreSuiting (w ∷ ws) (l ∷ ls) = Suits w l × AreSuiting ws ls
  AreSuiting ws ls = ⊥

  -- The file has these lines, and nothing after its last newline.
  abbrev pub HasLines : (file : List ℕ) → List L → Type 0
  HasLines file ls = lines_of file ≡ map text ls ++ [] ∷ []

  -- What stands there isn't what is wanted: no line that suits, and not the end where nothing else is wanted.
  pub record StandsWrong (w : W) (later : List W) (rest : List (List ℕ)) : Type 0 where
    pub line : (l : L) (lines : List (List ℕ)) → Suits w l → rest ≡ text l ∷ lines → ⊥
    pub over : later ≡ [] → rest ≡ [] ∷ [] → ⊥

  -- The lines before one of this number are what is wanted. This is wanted next, or the end, and doesn't stand there.
  pub record IsWrongAt (ws : List W) (file : List ℕ) (number : ℕ) (w : W) : Type 0 where
    pub before : List L
    pub number_is : number ≡ length before + 1
    pub taken : List W
    pub suit : AreSuiting taken before
    pub rest : List (List ℕ)
    pub stand : lines_of file ≡ map text before ++ rest
    pub later : List W
    pub next : ws ++ end ∷ [] ≡ taken ++ w ∷ later
    pub wrong : StandsWrong w later rest

  -- What is written is read, and what is read is written so. A fault is the first one.
  pub record WrittenIsRead (ws : List W) (file : List ℕ) (result : Result (List L) (ℕ × W)) : Type 0 where
    pub read : (ls : List L) → AreSuiting ws ls → HasLines file ls → result ≡ Ok ls
    pub written : (ls : List L) → result ≡ Ok ls → AreSuiting ws ls × HasLines file ls
    pub first : (number : ℕ) (w : W) → result ≡ Err (number, w) → IsWrongAt ws file number w

-- A line is what is wanted, with a name that is one.
abbrev pub SuitsName : Wanted → NameLine → Type 0
SuitsName w l = (suits w l ≡ true) × (has_name l ≡ true)

abbrev pub WrittenNamesAreRead : Type 0
WrittenNamesAreRead = (ds : List Definition) (file : List ℕ)
    → WrittenIsRead SuitsName line_text wanted.End (names_wanted ds) file (names_read file ds)

-- how a line is written, with its column after a blank, if it has one
abbrev pub column_text : Option ℕ → List ℕ
column_text None = []
column_text (Some column) = 32 ∷ decimal column

abbrev pub place_text : PlaceLine → List ℕ
place_text p = decimal p.line ++ column_text p.column

-- It is one of the columns of a line, which is not 0.
abbrev pub IsColumn : (source : Option (List ℕ)) → (line column : ℕ) → Type 0
IsColumn source line column = (0 < line) × (0 < column) × (column ≤ columns_in (option_map lines_of source) line)
    × (column ≤ most)

-- A line is up to the last one, and of 64 bits, with a column of it or none. There is none where the end has to be.
abbrev pub SuitsPlace : (source : Option (List ℕ)) → LineWanted → PlaceLine → Type 0
SuitsPlace source (line_wanted.Number last name place) p =
    (p.line ≤ last) × (p.line ≤ most) × MatchOption p.column (Unit {0}) (IsColumn source p.line)
SuitsPlace source line_wanted.End p = ⊥

abbrev pub WrittenLinesAreRead : Type 0
WrittenLinesAreRead = (last : ℕ) (source : Option (List ℕ)) (ds : List Definition) (file : List ℕ)
    → WrittenIsRead (SuitsPlace source) place_text line_wanted.End (lines_wanted last ds) file
    (lines_read last source file ds)
