-- Rows of a picture, one below the other, and what stands at the places of one.
use Rattle.std.proofs.Common.{◌≡◌, ◌∙◌, ℕ, ◌+◌, ◌<◌, List, [], ◌∷◌, ◌++◌, ap, append-nil, append_assoc, arith, get_or, length, map, refl, subst, sym, take}
use Rattle.std.specs.Prelude.{◌-◌, ◌==◌, false, codes, decimal, drop}
use Rattle.std.specs.List.{flat_map, range_with_len}
use Rattle.std.proofs.lemmas.List.{get_or_default, length-drop, map-append, take_all, take_more}
use Rattle.std.proofs.lemmas.List.Concat.{flat_map-append}
use Rattle.blang.specs.declared.code.Definition.{Definition}
use Rattle.blang.specs.Layout.{shape_of}
use Rattle.blang.specs.Machine.{Image}
use Rattle.bmach.specs.declared.machine.Active.{Active}
use Rattle.btools.proofs.Ranges.{one_from_zero}
use Rattle.bdraw.specs.Pictures.{DrawnProgram, PictureRow, at_places, bottom, box_row, call_rows, calls_left_out, count_text, down, library_row, name_row, names_left_out, place_text, rows_of, stacked, text_row}
use Rattle.bdraw.specs.Stacks.{Adds, Holds}
use Rattle.bdraw.specs.declared.picture.TheConstants.{MOST_NAMES}
use Rattle.bdraw.specs.declared.shapes.LabelStyle.TheVariants as style
use Rattle.bdraw.specs.declared.picture.Picture.{Picture}
use Rattle.bdraw.specs.declared.shapes.Shape.{Shape}

-- shapes after others
pub both : (old now new x y : List Shape) → now ≡ old ++ x → new ≡ now ++ y → new ≡ old ++ (x ++ y)
both old now new x y first second = second ∙ ap (λ s. s ++ y) first ∙ append_assoc old x y

-- one place more
pub one_place : (f : ℕ → List Shape) (head now new : List Shape) (i : ℕ) → now ≡ head ++ at_places f i → new ≡ now ++ f i → new ≡ head ++ at_places f (i + 1)
one_place f head now new i before one =
    let all : at_places f (i + 1) ≡ at_places f i ++ f i =
    ap (flat_map f) (one_from_zero i) ∙ flat_map-append f (range_with_len 0 i) (i ∷ []) ∙ ap (λ y. at_places f i ++ y) (append-nil (f i)) in
    one ∙ ap (λ t. t ++ f i) before ∙ append_assoc head (at_places f i) (f i) ∙ ap (λ y. head ++ y) (sym all)

stacked_both : (y : ℕ) (a b : List PictureRow) → stacked y (a ++ b) ≡ stacked y a ++ stacked (bottom y a) b
stacked_both y [] b = refl
stacked_both y (r ∷ a) b =
    ap (λ shapes. r.shapes y ++ shapes) (stacked_both (down y r.height) a b)
    ∙ sym (append_assoc (r.shapes y) (stacked (down y r.height) a) (stacked (bottom (down y r.height) a) b))

bottom_both : (y : ℕ) (a b : List PictureRow) → bottom y (a ++ b) ≡ bottom (bottom y a) b
bottom_both y [] b = refl
bottom_both y (r ∷ a) b = bottom_both (down y r.height) a b

pub adds_none : (p : Picture) → Adds [] p p
adds_none p = record { shapes = sym (append-nil p.shapes.items); height = refl }

-- one row, whose shapes were added, and whose height then
pub adds_row : (row : PictureRow) (old new : Picture) (shapes : List Shape) → shapes ≡ old.shapes.items ++ row.shapes old.height → new.shapes.items ≡ shapes → new.height ≡ down old.height row.height
    → Adds (row ∷ []) old new
adds_row row old new shapes added same end = record {
  shapes = same ∙ added ∙ ap (λ more. old.shapes.items ++ more) (sym (append-nil (row.shapes old.height)));
  height = end;
}

pub adds_both : (a b : List PictureRow) (p q r : Picture) → Adds a p q → Adds b q r → Adds (a ++ b) p r
adds_both a b p q r first second = record {
  shapes = second.shapes ∙ (λ i. first.shapes i ++ stacked (first.height i) b) ∙ append_assoc p.shapes.items (stacked p.height a) (stacked (bottom p.height a) b)
      ∙ ap (λ more. p.shapes.items ++ more) (sym (stacked_both p.height a b));
  height = second.height ∙ ap (λ y. bottom y b) first.height ∙ sym (bottom_both p.height a b);
}

-- the rows of one element more
module _ {X : Type 0} (xs : List X) (i : ℕ) (x : X) (lt : i < length xs) (is : x ≡ get_or xs i x) where
  one_more : take (i + 1) xs ≡ take i xs ++ x ∷ []
  one_more = take_more xs i x lt ∙ ap (λ y. take i xs ++ y ∷ []) (sym is)

  pub adds_each : (f : X → PictureRow) (p q r : Picture) → Adds (map f (take i xs)) p q → Adds (f x ∷ []) q r → Adds (map f (take (i + 1) xs)) p r
  adds_each f p q r before one =
      subst (λ rows. Adds rows p r) (sym (ap (map f) one_more ∙ map-append f (take i xs) (x ∷ []))) (adds_both (map f (take i xs)) (f x ∷ []) p q r before one)

  pub adds_all : (f : X → List PictureRow) (p q r : Picture) → Adds (flat_map f (take i xs)) p q → Adds (f x) q r → Adds (flat_map f (take (i + 1) xs)) p r
  adds_all f p q r before one =
      subst (λ rows. Adds rows p r)
      (sym (ap (flat_map f) one_more ∙ flat_map-append f (take i xs) (x ∷ []) ∙ ap (λ rows. flat_map f (take i xs) ++ rows) (append-nil (f x))))
      (adds_both (flat_map f (take i xs)) (f x) p q r before one)

-- what comes after so many
pub rest_of : {X : Type 0} (xs : List X) (n : ℕ) → take (length xs - n) (drop n xs) ≡ drop n xs
rest_of xs n = let all = length-drop n xs in take_all (length xs - n) (drop n xs) (omega (arith, all))

-- all rows of a picture
pub all_rows : (q : DrawnProgram) (words : List ℕ) (calls : List Active) (others : ℕ) (p0 p1 p2 p3 p4 p5 p6 : Picture) → p0.shapes.items ≡ [] → p0.height ≡ 56
    → Adds (box_row (library_row q.image words) ∷ []) p0 p1
    → Adds (map (λ d. box_row (name_row q.image words (shape_of d))) (take MOST_NAMES q.definitions)) p1 p2
    → Adds (names_left_out q.image (drop MOST_NAMES q.definitions)) p2 p3
    → Adds (text_row style.Name (codes "data end " ++ decimal q.image.data_end) ∷ []) p3 p4
    → Adds (calls_left_out others) p4 p5
    → Adds (flat_map (call_rows q words) calls) p5 p6
    → Holds (rows_of q words calls others) p6
all_rows q words calls others p0 p1 p2 p3 p4 p5 p6 none first library names left end over frames =
    let library_rows = box_row (library_row q.image words) ∷ [] in
    let name_rows = map (λ d. box_row (name_row q.image words (shape_of d))) (take MOST_NAMES q.definitions) in
    let left_rows = names_left_out q.image (drop MOST_NAMES q.definitions) in
    let end_rows = text_row style.Name (codes "data end " ++ decimal q.image.data_end) ∷ [] in
    let over_rows = calls_left_out others in
    let frame_rows = flat_map (call_rows q words) calls in
    let told = adds_both (library_rows ++ name_rows) left_rows p0 p2 p3 (adds_both library_rows name_rows p0 p1 p2 library names) left in
    let rest = adds_both end_rows over_rows p3 p4 p5 end over in
    let all = adds_both ((library_rows ++ name_rows ++ left_rows) ++ (end_rows ++ over_rows)) frame_rows p0 p5 p6
    (adds_both (library_rows ++ name_rows ++ left_rows) (end_rows ++ over_rows) p0 p3 p5 told rest) frames in
    let rows = rows_of q words calls others in record {
      shapes = all.shapes ∙ (λ i. none i ++ stacked (first i) rows);
      height = all.height ∙ ap (λ y. bottom y rows) first;
    }

-- the first and the last of the names that are left out
pub left_out : (image : Image) (rest : List Definition) (first last : Definition) → (length rest == 0) ≡ false → first ≡ get_or rest 0 first → last ≡ get_or rest (length rest - 1) last → (words : List ℕ)
    → words ≡ count_text (length rest) (codes "name") ++ codes " more: " ++ place_text image first ++ codes " to " ++ place_text image last → text_row style.Note words ∷ [] ≡ names_left_out image rest
left_out image [] first last some a b words is = cc
left_out image (d ∷ ds) first last some a b words is =
    let n : length (d ∷ ds) - 1 ≡ length ds = omega arith in
    let within : length ds < length (d ∷ ds) = omega arith in
    let one : last ≡ get_or (d ∷ ds) (length ds) d = b ∙ ap (λ k. get_or (d ∷ ds) k last) n ∙ get_or_default (d ∷ ds) (length ds) last d within in
    ap (λ t. text_row style.Note t ∷ []) (is ∙ (λ i. count_text (length (d ∷ ds)) (codes "name") ++ codes " more: " ++ place_text image (a i) ++ codes " to " ++ place_text image (one i)))
