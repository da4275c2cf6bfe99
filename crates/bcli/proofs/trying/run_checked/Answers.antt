use Rattle.bcli.proofs.trying.run_checked.Goals as goal

pub returns-clause-runs : goal.returns-clause-runs
returns-clause-runs g c = rw c.if-checked-ne-DONE.false c.go_careful.ensures.runs
