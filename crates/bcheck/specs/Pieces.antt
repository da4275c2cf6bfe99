-- Inner words: the text of each piece.
use Rattle.std.specs.Prelude.{ℕ, ◌+◌, ◌==◌, List, [], ◌∷◌, Option, Some, None, decimal, if◌then◌else◌, min, replicate}
use Rattle.std.specs.List.{flat_map}
use Rattle.bsources.specs.Files.{line_shown}
use Rattle.bword.specs.ByteEnds.{most}
use Rattle.bcheck.specs.Checks.{change_words, edit_words, mended_words, shown_text, spot_words}
use Rattle.btools.specs.Quoting.{file_text, json_text}
use Rattle.bcheck.specs.declared.edit.Edit.{Edit}
use Rattle.bcheck.specs.declared.finding.SecondPlace.{SecondPlace}
use Rattle.bcheck.specs.declared.words.Given.{Given}
use Rattle.bcheck.specs.declared.pieces.Fragment.{Fragment}
use Rattle.bcheck.specs.declared.pieces.Fragment.TheVariants as piece

-- the line and the columns of a second place, as an editor is told them
abbrev pub spot_text : Option SecondPlace → List ℕ
spot_text None = []
spot_text (Some s) = spot_words s.is_of_several (line_shown s.at) s.column s.unit

-- an edit for an editor, and its line for people
abbrev pub edit_text : Edit → List ℕ
edit_text e =
    edit_words e.is_of_several (line_shown e.at) e.column (min (e.column + e.len) most) e.unit e.unit_end e.start e.len
    e.text.now

abbrev pub line_text : Edit → List ℕ
line_text e = mended_words e.at.line e.left.now e.text.now e.right.now e.is_cut

-- the line that tells of it once it was made
abbrev pub change_text : Edit → List ℕ
change_text e = change_words (line_shown e.at) e.column e.left.now e.text.now e.right.now e.is_cut

abbrev pub piece_text : Fragment → List ℕ
piece_text (piece.Words words) = words.now
piece_text (piece.Number n) = decimal n
piece_text (piece.Quoted words) = json_text words.now
piece_text (piece.File name) = file_text name.now
piece_text (piece.Shown bytes) = flat_map shown_text bytes.now
piece_text (piece.Blanks n) = replicate n 32
piece_text (piece.Marks n) = replicate n 94

-- what stands for a byte of a sentence, of which `@`, `#` and `%` are places for what is given
abbrev pub filled_byte : Given → ℕ → List ℕ
filled_byte given b =
    if b == 64 then given.name.now
    else (if b == 35 then given.other.now else (if b == 37 then given.line.now else b ∷ []))
