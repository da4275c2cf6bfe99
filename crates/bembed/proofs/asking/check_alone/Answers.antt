use Rattle.bembed.proofs.asking.check_alone.Goals as goal

pub returns-clause-checks : goal.returns-clause-checks
returns-clause-checks g c = c.check_before.ensures.checks c.new-rest.ensures
