-- Inner words: the SVG text of a picture.
use Rattle.std.specs.Prelude.{◌≡◌, refl, ℕ, ◌+◌, ◌%◌, ◌^◌, ◌==◌, ◌∷◌, List, [], ◌++◌, codes, decimal}
use Rattle.std.specs.Prelude.{nat_lt, if◌then◌else◌}
use Rattle.std.specs.List.{flat_map}
use Rattle.bdraw.specs.declared.shapes.Cell.{Cell}
use Rattle.bdraw.specs.declared.shapes.Fill.{Fill}
use Rattle.bdraw.specs.declared.shapes.Fill.TheVariants as fill
use Rattle.bdraw.specs.declared.shapes.Label.{Label}
use Rattle.bdraw.specs.declared.shapes.Shape.{Shape}
use Rattle.bdraw.specs.declared.shapes.Shape.TheVariants as shape
use Rattle.bdraw.specs.declared.shapes.TheConstants.{STYLES}
use Rattle.bdraw.specs.declared.shapes.LabelStyle.{LabelStyle}
use Rattle.bdraw.specs.declared.shapes.LabelStyle.TheVariants as style

-- how the shapes look
styles : STYLES.now
    ≡ codes "text { font: 12px monospace } .title { font-weight: bold }\n"
    ++ codes ".note { font-size: 10px; fill: #555 } .word { text-anchor: middle }\n"
    ++ codes ".below { font-size: 9px; fill: #777; text-anchor: middle }\n"
    ++ codes ".above { font-size: 10px; fill: #05a; text-anchor: middle }\n"
    ++ codes "rect { fill: white; stroke: #333 } .page { stroke: none } .changed { fill: #fec }"
styles = refl

-- a byte as a text of XML has it: `&`, `<` and `>` by their names, and what is no printable character of ASCII as `.`
abbrev pub escape : ℕ → List ℕ
escape b = if b == 38 then codes "&amp;" else (if b == 60 then codes "&lt;" else (if b == 62 then codes "&gt;"
    else (if nat_lt b 32 then codes "." else (if nat_lt 126 b then codes "." else b ∷ []))))

abbrev pub escaped : List ℕ → List ℕ
escaped words = flat_map escape words

abbrev pub attribute : List ℕ → ℕ → List ℕ
attribute name number = codes " " ++ name ++ codes "='" ++ decimal number ++ codes "'"

-- the beginning of a tag, up to its place
abbrev pub svg_opening : List ℕ → List ℕ → ℕ → ℕ → List ℕ
svg_opening tag class x y =
    codes "<" ++ tag ++ codes " class='" ++ class ++ codes "'" ++ attribute (codes "x") x ++ attribute (codes "y") y

abbrev pub fill_name : Fill → List ℕ
fill_name fill.Same = codes "same"
fill_name fill.Changed = codes "changed"

abbrev pub style_name : LabelStyle → List ℕ
style_name style.Name = codes "name"
style_name style.Note = codes "note"
style_name style.Above = codes "above"

-- an element with a text
abbrev pub text_element : List ℕ → ℕ → ℕ → List ℕ → List ℕ
text_element class x y words = svg_opening (codes "text") class x y ++ codes ">" ++ words ++ codes "</text>\n"

-- a box with a word, its address below
abbrev pub cell_text : Cell → List ℕ
cell_text c =
    svg_opening (codes "rect") (fill_name c.fill) c.x c.y ++ codes " width='56' height='20'/>\n"
    ++ text_element (codes "word") ((c.x + 28) % 2 ^ 32) ((c.y + 14) % 2 ^ 32) (decimal c.word)
    ++ text_element (codes "below") ((c.x + 28) % 2 ^ 32) ((c.y + 29) % 2 ^ 32) (decimal c.address)

abbrev pub label_text : Label → List ℕ
label_text l = text_element (style_name l.style) l.x l.y (escaped l.words)

abbrev pub shape_text : Shape → List ℕ
shape_text (shape.Cell c) = cell_text c
shape_text (shape.Label l) = label_text l

-- the beginning of a picture: its size, how the shapes look, and a page
abbrev pub beginning : ℕ → List ℕ
beginning height =
    codes "<svg xmlns='http://www.w3.org/2000/svg' width='760'" ++ attribute (codes "height") height
    ++ codes ">\n<style>" ++ STYLES.now ++ codes "</style>\n<rect class='page' width='100%' height='100%'/>\n"

-- the title, above all shapes
abbrev pub title_text : List ℕ → List ℕ
title_text title = text_element (codes "title") 16 24 (escaped title)

-- A picture is one element with a sheet of styles, a page of its size, its title, and an element for each box and each
-- text.
abbrev pub picture_text : (title : List ℕ) → (height : ℕ) → List Shape → List ℕ
picture_text title height shapes =
    beginning height ++ title_text title ++ flat_map shape_text shapes ++ codes "</svg>\n"
