-- Closed facts: texts, boxes, rows and whole pictures, and what is drawn where.
use Rattle.std.specs.Prelude.{◌≡◌, ℕ, List, [], ◌∷◌, ◌++◌, codes, length, map, refl, replicate, true, None, Some}
use Rattle.std.specs.Fmt.{digits}
use Rattle.blang.specs.declared.code.Definition.{Definition}
use Rattle.blang.specs.declared.code.Definition.TheVariants as definition
use Rattle.blang.specs.declared.code.Ival.TheVariants as ival
use Rattle.blang.specs.CodeParts.{Function}
use Rattle.blang.specs.Layout.{Simple, Vector, shape_of}
use Rattle.blang.specs.Layout as layout
use Rattle.blang.specs.Machine.{Image}
use Rattle.blang.specs.declared.run.Outcome.TheVariants as outcome
use Rattle.blang.specs.declared.run.Trap.TheVariants as trap
use Rattle.bmach.specs.declared.machine.Active.{Active}
use Rattle.bparse.specs.Locals.{NamedWord}
use Rattle.bwatch.specs.Sights.{end_sight}
use Rattle.bdraw.specs.Draws.{calls_in, moment_of, title_of}
use Rattle.bdraw.specs.Pictures.{DrawnProgram, bottom, box_at, calls_left_out, count_text, down, fill_of, frame_row}
use Rattle.btools.specs.Functions.{kind_text}
use Rattle.bdraw.specs.Pictures.{label, library_row, name_row, names_left_out, picture_of, rows_of, stacked}
use Rattle.bdraw.specs.Pictures.{stacked_text, words_row}
use Rattle.bdraw.specs.declared.scene.Moment.TheVariants as moment
use Rattle.bdraw.specs.Shapes.{cell_text, escape, fill_name, label_text, picture_text, style_name}
use Rattle.bdraw.specs.declared.shapes.Cell.{Cell}
use Rattle.bdraw.specs.declared.shapes.Fill.{Fill}
use Rattle.bdraw.specs.declared.shapes.Fill.TheVariants as fill
use Rattle.bdraw.specs.declared.shapes.Label.{Label}
use Rattle.bdraw.specs.declared.shapes.Shape.{Shape}
use Rattle.bdraw.specs.declared.shapes.Shape.TheVariants as shape
use Rattle.bdraw.specs.declared.shapes.LabelStyle.TheVariants as style
use Rattle.bdraw.specs.declared.shapes.TheConstants.{STYLES}

bytes_of_tags : map escape (38 ∷ 60 ∷ 62 ∷ 39 ∷ []) ≡ codes "&amp;" ∷ codes "&lt;" ∷ codes "&gt;" ∷ codes "'" ∷ []
bytes_of_tags = refl

bytes_at_limits : map escape (31 ∷ 32 ∷ 126 ∷ 127 ∷ 255 ∷ [])
    ≡ codes "." ∷ codes " " ∷ codes "~" ∷ codes "." ∷ codes "." ∷ []
bytes_at_limits = refl

fills : map fill_name (fill.Same ∷ fill.Changed ∷ []) ≡ codes "same" ∷ codes "changed" ∷ []
fills = refl

style_names : map style_name (style.Name ∷ style.Note ∷ style.Above ∷ [])
    ≡ codes "name" ∷ codes "note" ∷ codes "above" ∷ []
style_names = refl

titles : map title_of (moment.Before ∷ moment.After 0 ∷ moment.After 1 ∷ moment.End 2 ∷ [])
    ≡ codes "memory before the run" ∷ codes "memory after 0 steps; filled words have changed"
    ∷ codes "memory after 1 step; filled words have changed"
    ∷ codes "memory where the run is over, after 2 steps; filled words have changed" ∷ []
unfolding digits
titles = refl

moments : map (λ result. moment_of result 3) (outcome.Limit ∷ outcome.Exit 0 ∷ outcome.Trap trap.ZeroDivisor ∷ [])
    ≡ moment.After 3 ∷ moment.End 3 ∷ moment.End 3 ∷ []
moments = refl

abbrev a_box : Cell
a_box = record { x = 160; y = 24; address = 7; word = 65535; fill = fill.Changed }

a_box_text : cell_text a_box
    ≡ codes "<rect class='changed' x='160' y='24' width='56' height='20'/>\n"
    ++ codes "<text class='word' x='188' y='38'>65535</text>\n"
    ++ codes "<text class='below' x='188' y='53'>7</text>\n"
unfolding digits
a_box_text = refl

abbrev a_label : Label
a_label = record { x = 16; y = 24; style = style.Note; words = codes "a<b&c>\n" }

a_label_text : label_text a_label ≡ codes "<text class='note' x='16' y='24'>a&lt;b&amp;c&gt;.</text>\n"
unfolding digits
a_label_text = refl

a_picture : picture_text (codes "a > b") 74 (shape.Label a_label ∷ [])
    ≡ codes "<svg xmlns='http://www.w3.org/2000/svg' width='760' height='74'>\n<style>" ++ STYLES.now
    ++ codes "</style>\n<rect class='page' width='100%' height='100%'/>\n"
    ++ codes "<text class='title' x='16' y='24'>a &gt; b</text>\n"
    ++ codes "<text class='note' x='16' y='24'>a&lt;b&amp;c&gt;.</text>\n</svg>\n"
unfolding digits
a_picture = refl

-- where rows and boxes are
places : map box_at (0 ∷ 1 ∷ 8 ∷ []) ≡ 160 ∷ 222 ∷ 656 ∷ []
places = refl

lower : down 56 50 ≡ 106
lower = refl

-- filled is the box of a word that isn't the one before the run
words_filled : map (fill_of 7) (7 ∷ 8 ∷ []) ≡ fill.Same ∷ fill.Changed ∷ []
words_filled = refl

counted : map (λ n. count_text n (codes "word")) (0 ∷ 1 ∷ 2 ∷ [])
    ≡ codes "0 words" ∷ codes "1 word" ∷ codes "2 words" ∷ []
unfolding digits
counted = refl

-- a program with the string "hi" and a function whose frame has a vector of one word, and words at a moment
abbrev image : Image
image = record {
  functions = [];
  main = None;
  words = 0 ∷ 1 ∷ 2 ∷ 3 ∷ 4 ∷ 5 ∷ 6 ∷ 8 ∷ 26984 ∷ 4 ∷ [];
  data_end = 10;
  addresses = (codes "s", 7) ∷ [];
}

abbrev words : List ℕ
words = 0 ∷ 1 ∷ 2 ∷ 3 ∷ 4 ∷ 5 ∷ 6 ∷ 8 ∷ 26984 ∷ 5 ∷ 70 ∷ 0 ∷ []

abbrev string : Definition
string =
    definition.Simple (record { name = codes "s"; values = ival.Text 0 ∷ []; strings = 26984 ∷ 4 ∷ [] })

abbrev main : Function
main = record { name = codes "main"; parameters = 0; frame = 2; targets = []; strings = []; code = [] }

abbrev names : List NamedWord
names = record { name = codes "v"; offset = 0; is_vector = true } ∷ []

abbrev program : DrawnProgram
program = record {
  definitions = string ∷ [];
  functions = (record { strings = 11; function = main }, names) ∷ [];
  image = image;
}

abbrev cell : (x y address word : ℕ) → Fill → Shape
cell x y address word f = shape.Cell (record { x = x; y = y; address = address; word = word; fill = f })

library_drawn : library_row image words 56
    ≡ label 16 70 style.Name (codes "the library")
    ∷ cell 160 56 0 0 fill.Same ∷ cell 222 56 1 1 fill.Same ∷ cell 284 56 2 2 fill.Same ∷ cell 346 56 3 3 fill.Same
    ∷ cell 408 56 4 4 fill.Same ∷ cell 470 56 5 5 fill.Same ∷ cell 532 56 6 6 fill.Same
    ∷ label 188 52 style.Above (codes "unused") ∷ label 250 52 style.Above (codes "char")
    ∷ label 312 52 style.Above (codes "lchar") ∷ label 374 52 style.Above (codes "getchar")
    ∷ label 436 52 style.Above (codes "putchar") ∷ label 498 52 style.Above (codes "printn")
    ∷ label 560 52 style.Above (codes "exit") ∷ []
library_drawn = refl

name_drawn : name_row image words (shape_of string) 106
    ≡ label 16 120 style.Name (codes "s") ∷ label 16 134 style.Note (codes "simple, 3 words")
    ∷ cell 160 106 7 8 fill.Same ∷ cell 222 106 8 26984 fill.Same ∷ cell 284 106 9 5 fill.Changed
    ∷ label 250 102 style.Above (codes "'hi'") ∷ label 312 102 style.Above (codes "'.'") ∷ []
unfolding digits
name_drawn = refl

kinds : map kind_text (layout.Function 2 ∷ Simple ∷ Vector 3 ∷ [])
    ≡ codes "function" ∷ codes "simple" ∷ codes "vector" ∷ []
kinds = refl

frame_drawn : frame_row image words main names 10 188
    ≡ label 16 202 style.Name (codes "main") ∷ label 16 216 style.Note (codes "frame, 2 words")
    ∷ cell 160 188 10 70 fill.Changed ∷ cell 222 188 11 0 fill.Same
    ∷ label 188 184 style.Above (codes "v") ∷ label 250 184 style.Above (codes "v[0]") ∷ []
unfolding digits
frame_drawn = refl

-- nine words have room, and dots tell of a tenth; addresses go around
nine_words : length (words_row image words 0 0 9) ≡ 9
nine_words = refl

ten_words : words_row image words 0 0 10
    ≡ words_row image words 0 0 9 ++ label 718 14 style.Name (codes "..") ∷ []
ten_words = refl

around_memory : words_row image words 0 65535 2 ≡ cell 160 0 65535 0 fill.Same ∷ cell 222 0 0 0 fill.Same ∷ []
around_memory = refl

-- what is told of names and calls that aren't drawn
names_told : map (λ ds. stacked 0 (names_left_out image ds)) ([] ∷ (string ∷ []) ∷ (string ∷ string ∷ []) ∷ [])
    ≡ [] ∷ (label 16 0 style.Note (codes "1 name more: s at 7 to s at 7") ∷ [])
    ∷ (label 16 0 style.Note (codes "2 names more: s at 7 to s at 7") ∷ []) ∷ []
unfolding digits
names_told = refl

calls_told : map (λ n. stacked 0 (calls_left_out n)) (0 ∷ 1 ∷ 2 ∷ [])
    ≡ [] ∷ (label 16 0 style.Note (codes "1 frame more, of the outermost calls") ∷ [])
    ∷ (label 16 0 style.Note (codes "2 frames more, of the outermost calls") ∷ []) ∷ []
unfolding digits
calls_told = refl

-- the rows of a picture, and its height; a call of another function has no row
abbrev a_call : (strings start : ℕ) → Active
a_call strings start = record { strings = strings; parameters = 0; place = 7; start = start }

rows_drawn : stacked 56 (rows_of program words (a_call 11 10 ∷ a_call 12 10 ∷ []) 0)
    ≡ library_row image words 56 ++ name_row image words (shape_of string) 106
    ++ label 16 156 style.Name (codes "data end 10") ∷ frame_row image words main names 10 188
unfolding digits
rows_drawn = refl

height_drawn : map (λ n. bottom 56 (rows_of program words (a_call 11 10 ∷ []) n)) (0 ∷ 1 ∷ []) ≡ 238 ∷ 270 ∷ []
height_drawn = refl

-- the running call comes last
calls_ordered : picture_of [] program words (a_call 11 10 ∷ a_call 11 11 ∷ [])
    ≡ stacked_text [] (rows_of program words (a_call 11 11 ∷ a_call 11 10 ∷ []) 0)
calls_ordered = refl

most_drawn : picture_of [] program words (replicate 17 (a_call 11 10))
    ≡ stacked_text [] (rows_of program words (replicate 16 (a_call 11 10)) 1)
most_drawn = refl

calls_seen : map calls_in
    (record (end_sight [] []) { call = Some (a_call 1 2); below = a_call 3 4 ∷ [] } ∷ end_sight [] [] ∷ [])
    ≡ (a_call 1 2 ∷ a_call 3 4 ∷ []) ∷ [] ∷ []
calls_seen = refl
