use Rattle.bcli.proofs.finding.find_read.Goals as goal

pub returns-clause-finds : goal.returns-clause-finds
returns-clause-finds g c = rw c.check_request-asked.ensures at c.find_in.ensures.finds
