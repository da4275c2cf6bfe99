-- What a number and a flag read as.
use Rattle.std.proofs.Common.{◌≡◌, ℕ, ◌&&◌, ◌^◌, Bool, true, false, List, [], ◌∷◌, length, Option, Some, None, map, refl, sym, ap, lt-ltb, ltb-true, nat_lt}
use Rattle.std.specs.Prelude.{Result, Ok, Err, codes, option_and_then, option_map, unwrap_or}
use Rattle.std.specs.Borrow.{Bor}
use Rattle.std.specs.Char.{digit_value}
use Rattle.std.specs.List.{list_all}
use Rattle.std.specs.Option.{option_map_or}
use Rattle.std.specs.Str.{bytes_eq}
use Rattle.std.specs.Str.Parse.{AllDigits, ParsesUnsigned, ParsesBool, digits_value, without_leading_plus}
use Rattle.std.proofs.lemmas.Slice.Eq.{bytes_eq-Decides}
use Rattle.clap.specs.Words.{ReadsOne, Text}
use Rattle.bcommand.specs.CommandLine.{is_number, written_number}

digits_pass : (ds : List ℕ) → AllDigits 10 ds → list_all (λ d. nat_lt (digit_value d) 10) ds ≡ true
digits_pass [] h = refl
digits_pass (d ∷ ds) h = rw (lt-ltb (digit_value d) 10 h.0) (digits_pass ds h.1)

both : (a b : Bool) → (a && b) ≡ true → (a ≡ true) × (b ≡ true)
both true b e = (refl, e)
both false b e = cc

digits_from : (ds : List ℕ) → list_all (λ d. nat_lt (digit_value d) 10) ds ≡ true → AllDigits 10 ds
digits_from [] e = tt
digits_from (d ∷ ds) e =
    let parts = both _ _ e in
    (ltb-true _ _ parts.0, digits_from ds parts.1)

-- what `P` says of a text that was read as a number, it says of one that `u64` reads
module _ {E : Type 0} (P : Text → Result ℕ E → Type 0) (reads : (t : Text) (r : Result ℕ E) → P t r → ParsesUnsigned 64 10 t r) where
  number_read : (text : Text) (r : Option ℕ) → ReadsOne P text r → r ≡ written_number text
  number_read text (Some n) h =
      let digits = without_leading_plus text in
      let g = reads text (Ok n) h in
      rw (lt-ltb 0 (length digits) g.0.0.0, digits_pass digits g.0.0.1, lt-ltb (digits_value 10 digits) (2 ^ 64) g.0.1) (ap (λ m. Some m) g.1)
  number_read text None h = go (is_number (without_leading_plus text)) refl
    where
      go : (b : Bool) → is_number (without_leading_plus text) ≡ b → None ≡ written_number text
      go false t = rw t refl
      go true t =
          let outer = both _ _ t in
          let inner = both _ _ outer.0 in
          absurd (reads text (Err h.0) h.1 ((ltb-true _ _ inner.0, digits_from (without_leading_plus text) inner.1), ltb-true _ _ outer.1))

  -- the number of an option
  pub number_is : (found : Option Text) (r : Option ℕ) → (found ≡ None → r ≡ None)
      → ((t : Text) → found ≡ Some t → ReadsOne P t r) → r ≡ option_and_then written_number found
  number_is None r none value = none refl
  number_is (Some t) r none value = number_read t r (value t refl)

module _ {E : Type 0} (P : Text → Result Bool E → Type 0) (reads : (t : Text) (r : Result Bool E) → P t r → ParsesBool t r) where
  flag_read : (text : Text) (r : Option Bool) → ReadsOne P text r → unwrap_or r false ≡ bytes_eq text (codes "true")
  flag_read text (Some true) h = let g = reads text (Ok true) h in rw g refl
  flag_read text (Some false) h = let g = reads text (Ok false) h in rw g refl
  flag_read text None h = go (bytes_eq text (codes "true")) refl
    where
      go : (b : Bool) → bytes_eq text (codes "true") ≡ b → false ≡ bytes_eq text (codes "true")
      go false t = sym t
      go true t = absurd ((reads text (Err h.0) h.1).0 ((bytes_eq-Decides text (codes "true")).0 t))

  -- whether a flag is set
  pub flag_is : (found : Option Text) (r : Option Bool) → (found ≡ None → r ≡ None)
      → ((t : Text) → found ≡ Some t → ReadsOne P t r)
      → unwrap_or r false ≡ option_map_or (λ t. bytes_eq t (codes "true")) found false
  flag_is None r none value = ap (λ o. unwrap_or o false) (none refl)
  flag_is (Some t) r none value = flag_read t r (value t refl)

-- the text of an option, or none
pub text_or : (given : Option (Bor Text)) (text other : Bor Text) (found : Option Text) → other.now ≡ []
    → text ≡ unwrap_or given other → option_map (λ s. s.now) given ≡ found → text.now ≡ unwrap_or found []
text_or None text other found empty is shows = rw (is, ← shows) empty
text_or (Some s) text other found empty is shows = rw (is, ← shows) refl

-- the texts of an option that may be given often, or none
pub texts_or : (given : Option (Bor (List (Bor Text)))) (texts other : Bor (List (Bor Text))) (found : Option (List Text)) → other.now ≡ []
    → texts ≡ unwrap_or given other → option_map (λ s. map (λ t. t.now) s.now) given ≡ found → map (λ t. t.now) texts.now ≡ unwrap_or found []
texts_or None texts other found empty is shows = rw (is, ← shows, empty) refl
texts_or (Some s) texts other found empty is shows = rw (is, ← shows) refl
