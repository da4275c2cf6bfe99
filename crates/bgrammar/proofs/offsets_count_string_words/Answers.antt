use Rattle.bgrammar.proofs.CodeLaws.{counts_words}
use Rattle.bgrammar.proofs.offsets_count_string_words.Goals as goal

pub returns : goal.returns
returns c = counts_words
