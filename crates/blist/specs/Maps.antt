-- Promise: the layout of memory, as it is shown.
use Rattle.std.specs.Prelude.{◌≡◌, ℕ, zero, suc, ◌+◌, ◌%◌, List, [], ◌++◌, codes, decimal, min, nat_lt}
use Rattle.std.specs.Prelude.{slice_index, refl, if◌then◌else◌}
use Rattle.std.specs.List.{flat_map}
use Rattle.blang.specs.declared.code.Definition.{Definition}
use Rattle.blang.specs.declared.status.TheConstants.{DONE}
use Rattle.blang.specs.Compiles.{line_of}
use Rattle.blang.specs.Layout.{Shape, shape_of, size_of}
use Rattle.blang.specs.Machine.{Image}
use Rattle.blang.specs.Reports.{Reported}
use Rattle.blist.specs.declared.layout.TheConstants.{HEADING, SHOWN}
use Rattle.btools.specs.Columns.{left, right}
use Rattle.btools.specs.Functions.{kind_text}
use Rattle.btools.specs.Origins.{IsSuited, NoProgramOf, Origin, ProgramOf}
use Rattle.btools.specs.Programs.{ToldEnds, image_address}

-- the columns, and the words that each program has
map_heading : HEADING.now
    ≡ codes "  word  name      kind      words  values\n"
    ++ codes "     0            unused        1  0\n"
    ++ codes "     1  char      library       1  1\n"
    ++ codes "     2  lchar     library       1  2\n"
    ++ codes "     3  getchar   library       1  3\n"
    ++ codes "     4  putchar   library       1  4\n"
    ++ codes "     5  printn    library       1  5\n"
    ++ codes "     6  exit      library       1  6\n"
map_heading = refl

-- how many words of a name are shown
shown : SHOWN ≡ 6
shown = refl

-- so many words from an address on, a blank before each
abbrev pub words_from : Image → ℕ → ℕ → List ℕ
words_from image address zero = []
words_from image address (suc n) =
    words_from image address n ++ codes " " ++ decimal (slice_index image.words ((address + n) % 65536))

-- whether there are more words than are shown
abbrev pub dots : ℕ → List ℕ
dots words = if nat_lt SHOWN words then codes " .." else []

-- its address, its name, what it is, how many words it has and the first ones
abbrev pub map_row : Image → Shape → List ℕ
map_row image d =
    right 6 (decimal (image_address image d.name)) ++ codes "  " ++ left 10 d.name ++ left 8 (kind_text d.kind)
    ++ right 7 (decimal (size_of d)) ++ codes " "
    ++ words_from image (image_address image d.name) (min (size_of d) SHOWN)
    ++ dots (size_of d) ++ codes "\n"

abbrev pub map_text : Image → List Definition → List ℕ
map_text image ds =
    HEADING.now ++ flat_map (λ d. map_row image (shape_of d)) ds ++ codes "data end " ++ decimal image.data_end
    ++ codes "\n"

-- What is written for a program: its layout; or nothing but why there is none.
pub data Maps (origin : Origin) (source : List ℕ) (ends : ToldEnds) (status : ℕ) : Type 0 where
  mapped : (ds : List Definition) (image : Image) → ProgramOf origin source ds image → IsSuited origin source
      → ends.line_after ≡ ends.line → Reported (map_text image ds) DONE ends.out ends.out_after status
      → Maps origin source ends status
  stopped : NoProgramOf origin source line_of ends.line ends.line_after status → ends.out_after ≡ ends.out
      → Maps origin source ends status
