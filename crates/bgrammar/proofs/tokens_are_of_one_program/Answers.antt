use Rattle.bgrammar.proofs.ProgramRules.{one_program, formed_within}
use Rattle.bgrammar.proofs.tokens_are_of_one_program.Goals as goal

pub returns-clause-one : goal.returns-clause-one
returns-clause-one c = one_program

pub returns-clause-within : goal.returns-clause-within
returns-clause-within c = formed_within
