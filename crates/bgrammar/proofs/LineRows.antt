-- Each row of the table of lines is computed.
use Rattle.std.proofs.Common.{refl}
use Rattle.std.specs.Fmt.{digits}
use Rattle.bword.specs.declared.edition.Edition.TheVariants as editions
use Rattle.blang.specs.Cut.{tokens_from, cut, longest, greatest, whole, word_token, keyword_of, number_in, with_quoted_byte, escape_of, operator_of, other_of, fixed_of}
use Rattle.bgrammar.specs.LineRows.{AllLined, AreLeft, lined, lined_of_two}

pub all_lined : AllLined editions.One lined
unfolding tokens_from cut longest greatest whole word_token keyword_of number_in with_quoted_byte escape_of operator_of other_of fixed_of digits
all_lined = refl

pub all_lined_of_two : AllLined editions.Two lined_of_two
unfolding tokens_from cut longest greatest whole word_token keyword_of number_in with_quoted_byte escape_of operator_of other_of fixed_of digits
all_lined_of_two = refl

pub are_left : AreLeft
unfolding tokens_from cut longest greatest whole word_token keyword_of number_in with_quoted_byte escape_of operator_of other_of fixed_of digits
are_left = refl
