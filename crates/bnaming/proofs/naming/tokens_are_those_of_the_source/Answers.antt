use Rattle.bnaming.proofs.SourceTokens.{tokens_of_source}
use Rattle.bnaming.proofs.naming.tokens_are_those_of_the_source.Goals as goal

pub returns : goal.returns
returns c = tokens_of_source
