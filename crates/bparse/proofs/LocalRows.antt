-- Each row of the table of names is computed.
use Rattle.std.proofs.Common.{refl}
use Rattle.std.specs.Fmt.{digits}
use Rattle.bword.specs.declared.edition.Edition.TheVariants as editions
use Rattle.blang.specs.Cut.{tokens_from, cut, longest, greatest, whole, word_token, keyword_of, number_in, with_quoted_byte, escape_of, operator_of, other_of, fixed_of}
use Rattle.bparse.specs.LocalRows.{AllNamed, HasTable, named, named_of_two}

pub all_named : AllNamed editions.One named
unfolding tokens_from cut longest greatest whole word_token keyword_of number_in with_quoted_byte escape_of operator_of other_of fixed_of digits
all_named = refl

pub all_named_of_two : AllNamed editions.Two named_of_two
unfolding tokens_from cut longest greatest whole word_token keyword_of number_in with_quoted_byte escape_of operator_of other_of fixed_of digits
all_named_of_two = refl

pub has_table : HasTable
unfolding tokens_from cut longest greatest whole word_token keyword_of number_in with_quoted_byte escape_of operator_of other_of fixed_of digits
has_table = refl
