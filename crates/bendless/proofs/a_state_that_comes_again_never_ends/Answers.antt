use Rattle.bendless.proofs.Again.{back_for_ever, never_ends}
use Rattle.bendless.proofs.Wanting.{wants_for_ever}
use Rattle.bendless.proofs.a_state_that_comes_again_never_ends.Goals as goal

pub returns-clause-machine : goal.returns-clause-machine
returns-clause-machine c = never_ends

pub returns-clause-told : goal.returns-clause-told
returns-clause-told c = back_for_ever

pub returns-clause-meaning : goal.returns-clause-meaning
returns-clause-meaning c = wants_for_ever c.what_the_program_means_is_done.ensures.code
