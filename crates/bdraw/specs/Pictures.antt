-- Promise: what is drawn of memory, and where.
use Rattle.std.specs.Prelude.{◌≡◌, refl, ℕ, ◌+◌, ◌-◌, ◌*◌, ◌%◌, ◌^◌, ◌==◌, Bool, List, [], ◌∷◌, ◌++◌, codes, decimal}
use Rattle.std.specs.Prelude.{Option, Some, None}
use Rattle.std.specs.Prelude.{drop, find, get_or, if◌then◌else◌, length, map, min, nat_lt, reverse}
use Rattle.std.specs.Prelude.{slice_index, take, zip}
use Rattle.std.specs.List.{flat_map, range_with_len}
use Rattle.std.specs.Option.{option_map_or}
use Rattle.blang.specs.declared.code.Definition.{Definition}
use Rattle.blang.specs.CodeParts.{Function}
use Rattle.blang.specs.Layout.{Shape as Named, library_functions, shape_of, size_of}
use Rattle.blang.specs.Layout.{store_words, words_before_strings}
use Rattle.blang.specs.Machine.{Image}
use Rattle.bmach.specs.declared.machine.Active.{Active}
use Rattle.bparse.specs.Locals.{NamedWord}
use Rattle.btools.specs.Characters.{shown_word}
use Rattle.btools.specs.FrameNames.{frame_seen, name_shown}
use Rattle.btools.specs.Functions.{Placed, functions_of, kind_text}
use Rattle.btools.specs.Programs.{image_address}
use Rattle.btools.specs.declared.names.Frame.{Frame}
use Rattle.bdraw.specs.Shapes.{picture_text}
use Rattle.bdraw.specs.declared.picture.TheConstants.{MOST_NAMES}
use Rattle.bdraw.specs.declared.rows.TheConstants.{MOST_WORDS}
use Rattle.bdraw.specs.declared.scene.TheConstants.{MOST_CALLS}
use Rattle.bdraw.specs.declared.shapes.Fill.{Fill}
use Rattle.bdraw.specs.declared.shapes.Fill.TheVariants as fill
use Rattle.bdraw.specs.declared.shapes.LabelStyle.{LabelStyle}
use Rattle.bdraw.specs.declared.shapes.LabelStyle.TheVariants as style
use Rattle.bdraw.specs.declared.shapes.Shape.{Shape}
use Rattle.bdraw.specs.declared.shapes.Shape.TheVariants as shape

-- how many names are drawn, how many words of each, and the frames of how many calls
most_names : MOST_NAMES ≡ 48
most_names = refl

most_words : MOST_WORDS ≡ 9
most_words = refl

most_calls : MOST_CALLS ≡ 16
most_calls = refl

-- so far below a place; no picture is so high that it matters that places have 32 bits
abbrev pub down : (y by : ℕ) → ℕ
down y by = (y + by) % 2 ^ 32

-- where the box at a place of a row begins
abbrev pub box_at : (place : ℕ) → ℕ
box_at place = 160 + 62 * place

abbrev pub label : (x y : ℕ) → LabelStyle → (words : List ℕ) → Shape
label x y style words = shape.Label (record { x = x; y = y; style = style; words = words })

-- a text above the box at a place of a row
abbrev pub above : (y place : ℕ) → (words : List ℕ) → Shape
above y place words = label (box_at place + 28) (y - 4) style.Above words

-- what stands at the first places of a row, of so many
abbrev pub at_places : (ℕ → List Shape) → (count : ℕ) → List Shape
at_places shapes count = flat_map shapes (range_with_len 0 count)

-- filled is the box of a word that is another one than before the run
abbrev pub fill_of : (word first : ℕ) → Fill
fill_of word first = if word == first then fill.Same else fill.Changed

-- so many things: `1 step`, `2 steps`
abbrev pub count_text : ℕ → (thing : List ℕ) → List ℕ
count_text n thing = decimal n ++ codes " " ++ thing ++ (if n == 1 then [] else codes "s")

-- at the left of a row a name, and below it what it is and how many words it has
abbrev pub heading : (y : ℕ) → (name kind : List ℕ) → (count : ℕ) → List Shape
heading y name kind count =
    label 16 (down y 14) style.Name name
    ∷ label 16 (down y 28) style.Note (kind ++ codes ", " ++ count_text count (codes "word")) ∷ []

-- two dots where more words are than have room
abbrev pub dots : (y count : ℕ) → List Shape
dots y count =
    if nat_lt MOST_WORDS count then label (box_at MOST_WORDS) (down y 14) style.Name (codes "..") ∷ [] else []

-- the names of the words that each program has
abbrev pub library_names : List (List ℕ)
library_names = codes "unused" ∷ map (λ f. f.0) library_functions

abbrev pub library_name : (place : ℕ) → List ℕ
library_name place = get_or library_names place []

-- the name of a word of a frame, with `[0]` where it is that of a vector whose first word this is
abbrev pub frame_name : (y place : ℕ) → Option (List ℕ × Bool) → List Shape
frame_name y place None = []
frame_name y place (Some (name, is_first)) = above y place (name ++ (if is_first then codes "[0]" else [])) ∷ []

-- Of memory with these words, which had those of the image before the run.
module _ (image : Image) (words : List ℕ) where
  -- the box of the word at an address, at a place of a row
  abbrev pub box : (y place address : ℕ) → Shape
  box y place address = shape.Cell (record {
    x = box_at place;
    y = y;
    address = address;
    word = slice_index words address;
    fill = fill_of (slice_index words address) (slice_index image.words address);
  })

  abbrev pub boxes : (y first count : ℕ) → List Shape
  boxes y first count = at_places (λ place. box y place ((first + place) % store_words) ∷ []) count

  -- the boxes of so many words from an address on, as far as they have room
  abbrev pub words_row : (y first count : ℕ) → List Shape
  words_row y first count = boxes y first (min count MOST_WORDS) ++ dots y count

  abbrev pub library_row : (y : ℕ) → List Shape
  library_row y =
      label 16 (down y 14) style.Name (codes "the library") ∷ words_row y 0 7
      ++ at_places (λ place. above y place (library_name place) ∷ []) 7

  -- the characters of a string word at a place of a row; the strings come after so many other words
  abbrev pub characters : (y address others place : ℕ) → List Shape
  characters y address others place =
      if nat_lt place others then []
      else above y place (shown_word (slice_index words ((address + place) % store_words))) ∷ []

  -- a name with its first words, and the characters of its strings
  abbrev pub name_row : Named → (y : ℕ) → List Shape
  name_row d y =
      heading y d.name (kind_text d.kind) (size_of d) ++ words_row y (image_address image d.name) (size_of d)
      ++ at_places (characters y (image_address image d.name) (words_before_strings d.kind d.values))
      (min (size_of d) MOST_WORDS)

  -- the frame of a function, with the names of its words
  abbrev pub frame_row : Function → List NamedWord → (start y : ℕ) → List Shape
  frame_row f names start y =
      heading y f.name (codes "frame") f.frame ++ words_row y start f.frame
      ++ at_places (λ place. frame_name y place (name_shown names place)) (min f.frame MOST_WORDS)

-- what stands beside one another in a picture, by where it begins, and how high it is
pub record PictureRow : Type 0 where
  pub shapes : (y : ℕ) → List Shape
  pub height : ℕ

abbrev pub box_row : (ℕ → List Shape) → PictureRow
box_row shapes = record { shapes = shapes; height = 50 }

abbrev pub text_row : LabelStyle → (words : List ℕ) → PictureRow
text_row style words = record { shapes = λ y. label 16 y style words ∷ []; height = 32 }

-- the shapes of rows, each below the one before, and where the last one ends
abbrev pub stacked : (y : ℕ) → List PictureRow → List Shape
stacked y [] = []
stacked y (r ∷ rows) = r.shapes y ++ stacked (down y r.height) rows

abbrev pub bottom : (y : ℕ) → List PictureRow → ℕ
bottom y [] = y
bottom y (r ∷ rows) = bottom (down y r.height) rows

-- a name and its address
abbrev pub place_text : Image → Definition → List ℕ
place_text image d = (shape_of d).name ++ codes " at " ++ decimal (image_address image (shape_of d).name)

-- what is told of the names that aren't drawn: the first of them, and the last one
abbrev pub names_left_out : Image → List Definition → List PictureRow
names_left_out image [] = []
names_left_out image (d ∷ ds) =
    text_row style.Note (count_text (length (d ∷ ds)) (codes "name") ++ codes " more: " ++ place_text image d
    ++ codes " to " ++ place_text image (get_or (d ∷ ds) (length ds) d)) ∷ []

abbrev pub calls_left_out : (count : ℕ) → List PictureRow
calls_left_out count =
    if count == 0 then []
    else text_row style.Note (count_text count (codes "frame") ++ codes " more, of the outermost calls") ∷ []

-- a function, and the words of its frame that have a name
abbrev pub Framed : Type 0
Framed = Placed × List NamedWord

-- what is drawn of a program: its definitions, its functions, and its words before the run
pub record DrawnProgram : Type 0 where
  pub definitions : List Definition
  pub functions : List Framed
  pub image : Image

abbrev pub drawn_of : List Definition → List Frame → Image → DrawnProgram
drawn_of ds frames image =
    record { definitions = ds; functions = zip (functions_of ds) (map frame_seen frames); image = image }

-- the row of a call of one of these functions, by the address of its string words
abbrev pub call_rows : DrawnProgram → (words : List ℕ) → Active → List PictureRow
call_rows p words call =
    option_map_or (λ f. box_row (frame_row p.image words f.0.function f.1 (call.start % store_words)) ∷ [])
    (find (λ f. f.0.strings == call.strings) p.functions) []

-- The rows of a picture: the library, the first names, the data end, and the frames of these calls; so many others are
-- left out.
abbrev pub rows_of : DrawnProgram → (words : List ℕ) → (calls : List Active) → (others : ℕ) → List PictureRow
rows_of p words calls others =
    box_row (library_row p.image words)
    ∷ map (λ d. box_row (name_row p.image words (shape_of d))) (take MOST_NAMES p.definitions)
    ++ names_left_out p.image (drop MOST_NAMES p.definitions)
    ++ text_row style.Name (codes "data end " ++ decimal p.image.data_end)
    ∷ calls_left_out others ++ flat_map (call_rows p words) calls

-- the text of a picture with this title
abbrev pub stacked_text : (title : List ℕ) → List PictureRow → List ℕ
stacked_text title rows = picture_text title (bottom 56 rows) (stacked 56 rows)

-- A picture with memory of these words, and of these calls, the running one first, which is drawn last.
abbrev pub picture_of : (title : List ℕ) → DrawnProgram → (words : List ℕ) → (calls : List Active) → List ℕ
picture_of title p words calls =
    stacked_text title (rows_of p words (reverse (take MOST_CALLS calls)) (length calls - MOST_CALLS))
