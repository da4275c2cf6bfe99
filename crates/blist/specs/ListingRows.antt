-- Closed facts: rows, their columns, the rows of each kind of definition, a whole listing, and what is wanted.
use Rattle.std.specs.Prelude.{◌≡◌, ℕ, List, [], ◌∷◌, ◌++◌, Option, Some, None, codes, false, filter, map, refl}
use Rattle.std.specs.Prelude.{replicate, true}
use Rattle.std.specs.Fmt.{digits}
use Rattle.blang.specs.declared.code.Definition.{Definition}
use Rattle.blang.specs.declared.code.Definition.TheVariants as definition
use Rattle.blang.specs.declared.code.Instr.TheVariants as instr
use Rattle.blang.specs.declared.code.Ival.{Ival}
use Rattle.blang.specs.declared.code.Ival.TheVariants as ival
use Rattle.blang.specs.Machine.{image_of}
use Rattle.btools.specs.FrameNames.{frame_seen, name_shown}
use Rattle.btools.specs.declared.names.Frame.{Frame}
use Rattle.blist.specs.declared.listing.TheConstants.{HEADING}
use Rattle.blist.specs.declared.rows.CodeSpot.TheVariants as spot
use Rattle.blist.specs.declared.rows.Named.TheVariants as named
use Rattle.blist.specs.ListingTexts.{a_word, definition_rows, instr_named, label_named, line_text, margin_text}
use Rattle.blist.specs.ListingTexts.{row_text, source_beside, source_column, word_spot}
use Rattle.blist.specs.Listings.{is_wanted, list_text, told_of, wanted}

place_and_number : margin_text (spot.Place 7) (Some 3) ≡ codes "     7     3  "
unfolding digits
place_and_number = refl

address_alone : margin_text (spot.Address 65535) None ≡ codes "@65535        "
unfolding digits
address_alone = refl

number_of_six_digits : margin_text spot.Nowhere (Some 999999) ≡ codes "      999999  "
unfolding digits
number_of_six_digits = refl

number_of_seven_digits : margin_text (spot.Place 0) (Some 1000000) ≡ codes "     01000000  "
unfolding digits
number_of_seven_digits = refl

-- a row with its line of the source, where eleven blanks are left of the column of code
shown_row : row_text (spot.Place 0) (Some 1) (codes "c 0\n") (codes "main(){}") named.Nothing
    ≡ codes "     0     1  c 0           main(){}\n"
unfolding digits
shown_row = refl

-- a row whose code is as wide as its column, where one blank is left
shown_wide_row : row_text (spot.Address 7) None (codes "F abcde 0 0 0 0 2\n") (codes "x") named.Nothing
    ≡ codes "    @7        F abcde 0 0 0 0 2 x\n"
unfolding digits
shown_wide_row = refl

-- a tab, bytes that can't be printed, and a line that is as wide as its column, and one byte wider
shown_source : source_column (9 ∷ 31 ∷ 32 ∷ 126 ∷ 127 ∷ []) ≡ codes " . ~."
shown_source = refl

widest_source : source_column (replicate 39 97) ≡ replicate 39 97
widest_source = refl

wider_source : source_column (replicate 39 97 ++ 98 ∷ []) ≡ replicate 39 97
wider_source = refl

-- a name after such a line, and the first word of a vector beside code alone
named_row : row_text (spot.Place 1) (Some 2) (codes "a 1\n") (replicate 40 97) (named.Name (codes "v"))
    ≡ codes "     1     2  a 1           aaaaaaaaaaaaaaaaaaaaaaaaaaaaaaaaaaaaaaa v\n"
unfolding digits
named_row = refl

first_word_row : row_text (spot.Place 1) None (codes "a 2\n") [] (named.First (codes "v"))
    ≡ codes "     1        a 2                                                   v[0]\n"
unfolding digits
first_word_row = refl

-- what a word of a frame is named by, and what instructions speak of
names_of_words : map a_word (Some (codes "a", false) ∷ Some (codes "v", true) ∷ None ∷ [])
    ≡ named.Name (codes "a") ∷ named.First (codes "v") ∷ named.Nothing ∷ []
names_of_words = refl

name_of_local : (frame : Frame)
    → instr_named (Some frame) (instr.Automatic 3) ≡ a_word (name_shown (frame_seen frame) 3)
name_of_local frame = refl

name_of_label : (frame : Frame) → instr_named (Some frame) (instr.Label 3) ≡ label_named (Some frame) 3
name_of_label frame = refl

name_of_none : (frame : Frame) → instr_named (Some frame) (instr.Constant 3) ≡ named.Nothing
name_of_none frame = refl

-- lines of a source, and the text beside an instruction: not again where the instruction before is of the same line
abbrev texts : List (List ℕ)
texts = codes "f(a) {" ∷ codes "\treturn(0); }  " ∷ []

texts_of_lines : map (line_text texts) (0 ∷ 1 ∷ 2 ∷ 3 ∷ []) ≡ [] ∷ codes "f(a) {" ∷ codes "return(0); }" ∷ [] ∷ []
texts_of_lines = refl

first_of_line : map (λ before. source_beside texts before (Some 1)) (None ∷ Some 2 ∷ Some 1 ∷ [])
    ≡ codes "f(a) {" ∷ codes "f(a) {" ∷ [] ∷ []
first_of_line = refl

without_line : source_beside texts (Some 1) None ≡ []
without_line = refl

-- definitions that have a line of each kind
abbrev a_function : Definition
a_function = definition.Function (record {
  name = codes "f";
  parameters = 2;
  frame = 2;
  targets = 1 ∷ [];
  strings = 25185 ∷ 4 ∷ [];
  code = instr.Pop ∷ instr.Constant 0 ∷ instr.Return ∷ [];
})

abbrev two_values : List Ival
two_values = ival.Text 0 ∷ ival.Number 5 ∷ []

abbrev a_simple : Definition
a_simple = definition.Simple (record { name = codes "x"; values = two_values; strings = 4 ∷ [] })

abbrev a_vector : ℕ → Definition
a_vector words =
    definition.Vector (record { name = codes "v"; words = words; values = two_values; strings = 4 ∷ [] })

-- Each instruction has its line, and the text of a line is beside the first one of it. Strings come after the word of
-- the function.
rows_of_function : definition_rows texts 7 (1 ∷ 2 ∷ 2 ∷ []) None a_function
    ≡ codes "    @7        F f 2 2 1 2 3\n"
    ++ codes "              t 1\n"
    ++ codes "    @8        w 25185                                               'ab'\n"
    ++ codes "    @9        w 4                                                   '*e'\n"
    ++ codes "     0     1  p             f(a) {\n"
    ++ codes "     1     2  c 0           return(0); }\n"
    ++ codes "     2     2  r\n"
unfolding digits
rows_of_function = refl

-- The first value lies in the word of its name, and each has its line.
rows_of_simple : definition_rows texts 7 (3 ∷ 4 ∷ []) None a_simple
    ≡ codes "    @7        X x 2 1\n"
    ++ codes "    @7     3  s 0\n"
    ++ codes "    @8     4  c 5\n"
    ++ codes "    @9        w 4                                                   '*e'\n"
unfolding digits
rows_of_simple = refl

-- The values lie after a vector's own word, and its string words after as many words as it has, or values.
rows_of_vector : definition_rows texts 7 (3 ∷ 4 ∷ []) None (a_vector 3)
    ≡ codes "    @7        V v 3 2 1\n"
    ++ codes "    @8     3  s 0\n"
    ++ codes "    @9     4  c 5\n"
    ++ codes "   @11        w 4                                                   '*e'\n"
unfolding digits
rows_of_vector = refl

rows_of_small_vector : definition_rows texts 7 (3 ∷ 4 ∷ []) None (a_vector 1)
    ≡ codes "    @7        V v 1 2 1\n"
    ++ codes "    @8     3  s 0\n"
    ++ codes "    @9     4  c 5\n"
    ++ codes "   @10        w 4                                                   '*e'\n"
unfolding digits
rows_of_small_vector = refl

-- the last address, and no address after it
last_address : map (word_spot 65535) (0 ∷ 1 ∷ []) ≡ spot.Address 65535 ∷ spot.Address 0 ∷ []
last_address = refl

-- the listing of a source of two lines, and of one name of it
abbrev two_definitions : List Definition
two_definitions =
    definition.Simple (record { name = codes "x"; values = []; strings = [] })
    ∷ definition.Function (record {
      name = codes "main";
      parameters = 0;
      frame = 0;
      targets = [];
      strings = [];
      code = instr.Constant 0 ∷ instr.Return ∷ [];
    }) ∷ []

abbrev listed : Option (List ℕ) → List ℕ
listed name = list_text (image_of two_definitions) (codes "x;\nmain() { }\n") name two_definitions (2 ∷ 2 ∷ []) []

whole_listing : listed None
    ≡ HEADING.now
    ++ codes "    @7        X x 0 0\n"
    ++ codes "    @8        F main 0 0 0 0 2\n"
    ++ codes "     0     2  c 0           main() { }\n"
    ++ codes "     1     2  r\n"
unfolding digits
whole_listing = refl

listing_of_name : listed (Some (codes "x")) ≡ HEADING.now ++ codes "    @7        X x 0 0\n"
unfolding digits
listing_of_name = refl

-- the names and lines of each function are its own, also after externals
abbrev told_of_f : List Definition → (lines : List ℕ) → List Frame → List (Option Frame × List ℕ)
told_of_f ds lines frames =
    map (λ t. (t.frame, t.lines)) (filter (λ t. is_wanted (Some (codes "f")) t.definition) (told_of ds lines frames))

after_externals : (one other last : Frame)
    → told_of_f (a_function ∷ a_simple ∷ a_vector 3 ∷ a_function ∷ a_simple ∷ a_function ∷ [])
    (1 ∷ 2 ∷ 3 ∷ 4 ∷ 5 ∷ 6 ∷ 7 ∷ 8 ∷ 9 ∷ 10 ∷ 11 ∷ 12 ∷ 13 ∷ 14 ∷ 15 ∷ []) (one ∷ other ∷ last ∷ [])
    ≡ (Some one, 1 ∷ 2 ∷ 3 ∷ []) ∷ (Some other, 8 ∷ 9 ∷ 10 ∷ []) ∷ (Some last, 13 ∷ 14 ∷ 15 ∷ []) ∷ []
after_externals one other last = refl

abbrev defined : List ℕ → Definition
defined name = definition.Simple (record { name = name; values = []; strings = [] })

all_are_wanted : wanted None (defined (codes "f") ∷ defined (codes "ff") ∷ [])
    ≡ defined (codes "f") ∷ defined (codes "ff") ∷ []
all_are_wanted = refl

of_a_name : wanted (Some (codes "f")) (defined (codes "f") ∷ defined (codes "ff") ∷ defined (codes "f") ∷ [])
    ≡ defined (codes "f") ∷ defined (codes "f") ∷ []
of_a_name = refl

of_no_name : wanted (Some (codes "fff")) (defined (codes "f") ∷ defined (codes "ff") ∷ []) ≡ []
of_no_name = refl
