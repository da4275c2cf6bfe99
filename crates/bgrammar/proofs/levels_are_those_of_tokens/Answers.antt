use Rattle.bgrammar.proofs.Levels.{levels_of_tokens, needs_levels, has_levels}
use Rattle.bgrammar.proofs.levels_are_those_of_tokens.Goals as goal

pub returns-clause-tokens : goal.returns-clause-tokens
returns-clause-tokens c = levels_of_tokens

pub returns-clause-needs : goal.returns-clause-needs
returns-clause-needs c = needs_levels

pub returns-clause-has : goal.returns-clause-has
returns-clause-has c = has_levels
