-- What the test of a change excludes.
use Rattle.std.proofs.Common.{◌≡◌, ◌≤◌, ℕ, Bool, true, false, arith, count_by, refl}
use Rattle.std.specs.Prelude.{◌&&◌, nat_le}
use Rattle.std.proofs.lemmas.Bool.Decides.{nat_tests}
use Rattle.blang.specs.Cut.{escape_of, fixed_of, greatest, keyword_of, longest, number_in, operator_of, other_of, whole, with_quoted_byte, word_token}
use Rattle.bcheck.specs.ChangesExcluded.{WrongChanges}
use Rattle.bcheck.specs.Spares.{is_known, is_of_class, is_other_word, is_quote, is_type_word, right_from, stays_declared}

first_true : (a b : Bool) → (a && b) ≡ true → a ≡ true
first_true true b h = refl
first_true false b h = h

at_most : (m n : ℕ) → nat_le m n ≡ true → m ≤ n
at_most m n h = grind (arith, nat_tests)

pub excluded : WrongChanges
unfolding right_from longest greatest whole word_token keyword_of number_in operator_of other_of fixed_of escape_of
    with_quoted_byte is_other_word is_type_word is_of_class stays_declared is_known
excluded = record {
  none_refused = refl;
  all_made = refl;
  quotes = λ edition source new taken h.
      at_most (count_by is_quote source) (count_by is_quote new) (first_true _ _ (first_true _ _ h));
}
