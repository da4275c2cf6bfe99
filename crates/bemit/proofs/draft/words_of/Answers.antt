use Rattle.std.proofs.Common.{rules}
use Rattle.bemit.proofs.draft.words_of.Goals as goal

pub returns-in-Some-clause-words : goal.returns-in-Some-clause-words
returns-in-Some-clause-words c = search rules
