-- An edit, by the parts of the source around it.
use Rattle.std.proofs.Common.{◌≡◌, ◌∙◌, ◌+◌, ℕ, List, [], ◌++◌, Bool, ap, arith, drop, length, sym, take}
use Rattle.std.specs.Prelude.{min}
use Rattle.std.proofs.lemmas.List.{drop_all, take-append-drop, take_all}
use Rattle.bword.specs.ByteEnds.{most}
use Rattle.bplaces.specs.Units.{first_unit, unit_column, units_after}
use Rattle.bplaces.specs.declared.units.UnitPlace.{UnitPlace}
use Rattle.bplaces.proofs.UnitSteps.{units_marked}
use Rattle.bsources.specs.Files.{Line}
use Rattle.bcheck.specs.Checks.{change_words, edit_words, mended_words}

-- the parts are those of a source, and with a text they are those of the source with it
module _ (source before rest old after b left right tail text : List ℕ) (start len : ℕ) (e1 : before ≡ take start source) (e2 : rest ≡ drop start source) (e3 : old ≡ take len rest) (e4 : after ≡ drop len rest) (e5 : b ++ left ≡ before) (e6 : right ++ tail ≡ after) where
  pub here_is : b ++ left ≡ take start source
  here_is = e5 ∙ e1

  pub rest_is : old ++ (right ++ tail) ≡ rest
  rest_is = ap (λ y. old ++ y) (e6 ∙ e4) ∙ ap (λ x. x ++ drop len rest) e3 ∙ take-append-drop len rest

  pub split_is : source ≡ (b ++ left) ++ (old ++ (right ++ tail))
  split_is = sym (ap (λ x. x ++ (old ++ (right ++ tail))) here_is ∙ ap (λ y. take start source ++ y) (rest_is ∙ e2) ∙ take-append-drop start source)

  pub makes_is : (b ++ left) ++ (text ++ (right ++ tail)) ≡ take start source ++ (text ++ drop len (drop start source))
  makes_is = ap (λ x. x ++ (text ++ (right ++ tail))) here_is ∙ ap (λ y. take start source ++ (text ++ y)) (e6 ∙ e4 ∙ ap (drop len) e2)

  pub unit_is : (u : UnitPlace) → u ≡ units_after first_unit (take start source) (drop start source) → u.column ≡ unit_column (b ++ left) (old ++ (right ++ tail))
  unit_is u e =
      ap (λ (x : UnitPlace). x.column) e ∙ ap (λ x. unit_column x (drop start source)) (sym here_is) ∙ ap (unit_column (b ++ left)) (sym (rest_is ∙ e2))

  pub unit_end_is : (u v : UnitPlace) → u ≡ units_after first_unit (take start source) (drop start source) → v ≡ units_after u (take (length old) rest) (drop (length old) rest) → v.column ≡ unit_column ((b ++ left) ++ old) (right ++ tail)
  unit_end_is u v e f =
      let n = length old in
      let one : min n n ≡ n = omega arith in
      let all : take n old ≡ old = take_all n old (omega arith) in
      let none : drop n old ≡ [] = drop_all n old (omega arith) in
      let marked : units_after first_unit ((b ++ left) ++ take n old) (drop n old ++ (right ++ tail)) ≡ units_after (units_after first_unit (b ++ left) rest) (take (min n n) rest) (drop (min n n) rest) = units_marked first_unit (b ++ left) rest old (right ++ tail) n rest_is in
      let begun : u ≡ units_after first_unit (b ++ left) rest = e ∙ ap (λ x. units_after first_unit x (drop start source)) (sym here_is) ∙ ap (units_after first_unit (b ++ left)) (sym e2) in
      let here : v ≡ units_after (units_after first_unit (b ++ left) rest) (take (min n n) rest) (drop (min n n) rest) = f ∙ ap (λ x. units_after x (take n rest) (drop n rest)) begun ∙ ap (λ k. units_after (units_after first_unit (b ++ left) rest) (take k rest) (drop k rest)) (sym one) in
      ap (λ (x : UnitPlace). x.column)
      (here ∙ sym marked ∙ ap (λ x. units_after first_unit ((b ++ left) ++ x) (drop n old ++ (right ++ tail))) all ∙ ap (λ x. units_after first_unit ((b ++ left) ++ old) (x ++ (right ++ tail))) none)

pub same_words : (t u : Bool) (l m : Line) (c d v w x y o p k : ℕ) (text : List ℕ) → t ≡ u → l ≡ m → c ≡ d → v ≡ w → x ≡ y → o ≡ p → edit_words t l c (min (c + k) most) v x o k text ≡ edit_words u m d (min (d + k) most) w y p k text
same_words t u l m c d v w x y o p k text et el ec ev ex eo =
    ap (λ z. edit_words z l c (min (c + k) most) v x o k text) et ∙ ap (λ z. edit_words u z c (min (c + k) most) v x o k text) el ∙ ap (λ z. edit_words u m z (min (z + k) most) v x o k text) ec
    ∙ ap (λ z. edit_words u m d (min (d + k) most) z x o k text) ev ∙ ap (λ z. edit_words u m d (min (d + k) most) w z o k text) ex ∙ ap (λ z. edit_words u m d (min (d + k) most) w y z k text) eo

pub same_line : (l m : Line) (left text right : List ℕ) (s t : Bool) → l ≡ m → s ≡ t → mended_words l.line left text right s ≡ mended_words m.line left text right t
same_line l m left text right s t e f = ap (λ (x : Line). mended_words x.line left text right s) e ∙ ap (mended_words m.line left text right) f

pub same_change : (l m : Line) (c d : ℕ) (left text right : List ℕ) (s t : Bool) → l ≡ m → c ≡ d → s ≡ t → change_words l c left text right s ≡ change_words m d left text right t
same_change l m c d left text right s t e f g =
    ap (λ x. change_words x c left text right s) e ∙ ap (λ x. change_words m x left text right s) f ∙ ap (change_words m d left text right) g
