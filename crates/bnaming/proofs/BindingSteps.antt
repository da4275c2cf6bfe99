-- Which row declares a name, one row after another.
use Rattle.std.proofs.Common.{◌≡◌, ◌∙◌, ◌+◌, ◌<◌, ℕ, Bool, true, false, List, [], ◌∷◌, ◌++◌, Option, Some, None, ap, drop, get_or, length, refl, subst, sym, take}
use Rattle.std.specs.Prelude.{if◌then◌else◌, is_none, slice_get, ◌&&◌}
use Rattle.std.specs.Bool.{OnTrue}
use Rattle.std.specs.List.{cons_option, filter_map}
use Rattle.std.specs.Option.{option_or}
use Rattle.std.proofs.lemmas.List.{drop_more, take_more}
use Rattle.std.proofs.lemmas.List.Elements.{filter_map-append}
use Rattle.std.specs.Ordering.{nat_cmp}
use Rattle.std.specs.Cmp.Lexicographic.{bytes_decides, nat_list_eq_equiv, slice_cmp, texts_ties}
use Rattle.std.specs.BTreeMap.{is_at}
use Rattle.std.proofs.lemmas.Option.{slice_get-get_or, slice_get_within}
use Rattle.bword.specs.Words.{same_name}
use Rattle.bnames.specs.NameTables.{KnowsOneMore, value_in, with_name}
use Rattle.bnaming.specs.Binding.{AreWithin, Enters, HasPut, IsIndex, declaration, declares, declares_name, ends, is_declared, reached, row_at}
use Rattle.bnaming.specs.Rows.{opens_after}
use Rattle.bnaming.specs.declared.binding.Reach.{Reach}
use Rattle.bnaming.specs.declared.binding.Reach.TheVariants as reach
use Rattle.bnaming.specs.declared.roles.Role.{Role}
use Rattle.bnaming.specs.declared.rows.Row.{Row}
use Rattle.bnaming.specs.declared.rows.Content.{Content}
use Rattle.bnaming.specs.declared.rows.Content.TheVariants as content

-- With what comes, a table has the rows that declare the names of a part.
pub record Indexes (rows : List Row) (reach : Reach) (part coming : List Row) (table : List (List ℕ × ℕ)) : Type 0 where
  pub rows_of : (x : List ℕ) → option_or (row_at rows (value_in x table)) (declaration reach x coming) ≡ declaration reach x part
  pub within : AreWithin rows table

or_none : {A : Type 0} (o : Option A) → option_or o None ≡ o
or_none None = refl
or_none (Some a) = refl

pub indexed : (rows : List Row) (reach : Reach) (part coming : List Row) (table : List (List ℕ × ℕ)) → coming ≡ [] → Indexes rows reach part coming table → IsIndex rows reach part table
indexed rows reach part coming table none i = record {
  rows_of = λ x. sym (or_none (row_at rows (value_in x table))) ∙ ap (λ rs. option_or (row_at rows (value_in x table)) (declaration reach x rs)) (sym none) ∙ i.rows_of x;
}

pub first_index : (rows : List Row) (reach : Reach) (part : List Row) (table : List (List ℕ × ℕ)) → table ≡ [] → Indexes rows reach part part table
first_index rows reach part table e = record {
  rows_of = λ x. ap (λ (t : List (List ℕ × ℕ)). option_or (row_at rows (value_in x t)) (declaration reach x part)) e;
  within = λ x place is. let none : None ≡ Some place = ap (value_in x) (sym e) ∙ is in cc;
}

-- a row that was entered
module _ (rows : List Row) (reach : Reach) (part rest : List Row) (r : Row) (place : ℕ) (there : slice_get rows place ≡ Some r)
    (old new : List (List ℕ × ℕ)) (entered : Enters reach r place old new) (i : Indexes rows reach part (r ∷ rest) old) where
  goes : (x : List ℕ) (was is : Option ℕ) (b : Bool) → value_in x old ≡ was → is ≡ (if b then option_or was (Some place) else was)
      → option_or (row_at rows was) (if b then Some r else declaration reach x rest) ≡ declaration reach x part
      → option_or (row_at rows is) (declaration reach x rest) ≡ declaration reach x part
  goes x was is false w e before = ap (λ o. option_or (row_at rows o) (declaration reach x rest)) e ∙ before
  goes x None is true w e before =
      ap (λ o. option_or (row_at rows o) (declaration reach x rest)) e
      ∙ ap (λ o. option_or o (declaration reach x rest)) there ∙ before
  goes x (Some v) is true w e before =
      let s : slice_get rows v ≡ Some (get_or rows v r) = slice_get-get_or rows v r (i.within x v w) in
      ap (λ o. option_or (row_at rows o) (declaration reach x rest)) e
      ∙ ap (λ o. option_or o (declaration reach x rest)) s ∙ sym (ap (λ o. option_or o (Some r)) s) ∙ before

  inside : (x : List ℕ) (was is : Option ℕ) (b : Bool) (v : ℕ) → value_in x old ≡ was → is ≡ (if b then option_or was (Some place) else was) → is ≡ Some v → v < length rows
  inside x was is false v w e f = i.within x v (w ∙ sym e ∙ f)
  inside x None is true v w e f = let same : place ≡ v = cc in subst (λ n. n < length rows) same (slice_get_within rows place r there)
  inside x (Some u) is true v w e f = i.within x v (w ∙ sym e ∙ f)

  pub entered_more : Indexes rows reach part rest new
  entered_more = record {
    rows_of = λ x. goes x (value_in x old) (value_in x new) (is_declared reach x r) refl (entered x) (i.rows_of x);
    within = λ x v f. inside x (value_in x old) (value_in x new) (is_declared reach x r) v refl (entered x) f;
  }

-- Rows are reached as far as a construct is open.
pub reached_end : (reach : Reach) (n : ℕ) (rs : List Row) → ends reach n ≡ true → reached reach n rs ≡ []
reached_end reach n [] e = refl
reached_end reach n (r ∷ rs) e = ap (λ b. if b then [] else r ∷ reached reach (opens_after n r.content) rs) e

pub reached_more : (reach : Reach) (n : ℕ) (r : Row) (rs : List Row) → ends reach n ≡ false
    → reached reach n (r ∷ rs) ≡ r ∷ reached reach (opens_after n r.content) rs
reached_more reach n r rs e = ap (λ b. if b then [] else r ∷ reached reach (opens_after n r.content) rs) e

pub reached_source : (n : ℕ) (rs : List Row) → reached reach.Source n rs ≡ rs
reached_source n [] = refl
reached_source n (r ∷ rs) = ap (λ l. r ∷ l) (reached_source (opens_after n r.content) rs)

-- what is entered of a row
same_at : (x y : List ℕ) → is_at (slice_cmp nat_cmp x) y ≡ same_name y x
same_at x y = sym (texts_ties x y) ∙ nat_list_eq_equiv.symm x y

module _ (name : List ℕ) (place : ℕ) (old new : List (List ℕ × ℕ)) where
  -- the name is new
  put_new : is_none (value_in name old) ≡ true → KnowsOneMore old name place new → HasPut name place old new
  put_new none more x =
      more x ∙ ap (λ b. if b then Some place else value_in x old) (same_at name x) ∙ by (same_name x name) refl
    where
      gone : (o : Option ℕ) → is_none o ≡ true → o ≡ None
      gone None e = refl
      gone (Some v) e = cc

      by : (b : Bool) → same_name x name ≡ b → (if b then Some place else value_in x old) ≡ (if b then option_or (value_in x old) (Some place) else value_in x old)
      by false e = refl
      by true e =
          let x_is : x ≡ name = (bytes_decides x name).0 e in
          ap (λ o. option_or o (Some place)) (sym (ap (λ y. value_in y old) x_is ∙ gone (value_in name old) none))

  -- it was there
  put_before : is_none (value_in name old) ≡ false → new ≡ old → HasPut name place old new
  put_before some is x = ap (value_in x) is ∙ by (same_name x name) refl
    where
      held : (o : Option ℕ) → is_none o ≡ false → o ≡ option_or o (Some place)
      held None e = cc
      held (Some v) e = refl

      by : (b : Bool) → same_name x name ≡ b → value_in x old ≡ (if b then option_or (value_in x old) (Some place) else value_in x old)
      by false e = refl
      by true e =
          let x_is : x ≡ name = (bytes_decides x name).0 e in
          held (value_in x old) (ap (λ y. is_none (value_in y old)) x_is ∙ some)

  pub put_either : (is_new : Bool) → is_new ≡ is_none (value_in name old) → OnTrue is_new (KnowsOneMore old name place new) → new ≡ (if is_new then with_name old name place else old) → HasPut name place old new
  put_either true there more is = put_new (sym there) more
  put_either false there more is = put_before (sym there) is

-- a name that a row declares was put in
pub entered_name : (reach : Reach) (role : Role) (name : List ℕ) (c : Content) (place : ℕ) (old new : List (List ℕ × ℕ)) → c ≡ content.Name role name → declares reach role ≡ true → HasPut name place old new
    → (x : List ℕ) → value_in x new ≡ (if declares_name reach x c then option_or (value_in x old) (Some place) else value_in x old)
entered_name reach role name c place old new is d put x =
    put x ∙ ap (λ b. if b && same_name x name then option_or (value_in x old) (Some place) else value_in x old) (sym d)
    ∙ ap (λ t. if declares_name reach x t then option_or (value_in x old) (Some place) else value_in x old) (sym is)

-- what a loop has left
pub here : {A : Type 0} (xs : List A) (i : ℕ) (x : A) → i < length xs → x ≡ get_or xs i x → drop i xs ≡ x ∷ drop (i + 1) xs
here xs i x lt is = drop_more xs i x lt ∙ ap (λ y. y ∷ drop (i + 1) xs) (sym is)

-- what is kept of one element more
pub kept_more : {X Y : Type 0} (f : X → Option Y) (xs : List X) (i : ℕ) (x : X) (old new : List Y) → i < length xs → x ≡ get_or xs i x → old ≡ filter_map f (take i xs) → new ≡ old ++ cons_option (f x) []
    → new ≡ filter_map f (take (i + 1) xs)
kept_more f xs i x old new lt is before one =
    one ∙ ap (λ ys. ys ++ cons_option (f x) []) before
    ∙ sym (ap (filter_map f) (take_more xs i x lt ∙ ap (λ y. take i xs ++ y ∷ []) (sym is)) ∙ filter_map-append f (take i xs) (x ∷ []))

-- nothing, where there isn't anything
pub none_here : {A : Type 0} (o : Option A) → ((x : A) → o ≡ Some x → ⊥) → o ≡ None
none_here None h = refl
none_here (Some x) h = absurd (h x refl)
