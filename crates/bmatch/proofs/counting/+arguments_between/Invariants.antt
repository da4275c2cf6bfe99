use Rattle.bmatch.proofs.counting.+arguments_between.Given as goal

abbrev pub decreases-arguments_between : goal.decreases-arguments_between
decreases-arguments_between l = l.fuel
