use Rattle.bmatch.proofs.counting.+blanks_at.Given as goal

abbrev pub decreases-blanks_at : goal.decreases-blanks_at
decreases-blanks_at l = l.fuel
