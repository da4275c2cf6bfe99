use Rattle.bcli.proofs.serving.show_by.Goals as goal

pub returns-in-Some-clause-shows : goal.returns-in-Some-clause-shows
returns-in-Some-clause-shows g c = rw (c.in-Some.is, ← c.care_taken.ensures) c.show_careful.ensures.shows

pub returns-in-None-clause-shows : goal.returns-in-None-clause-shows
returns-in-None-clause-shows g c = rw c.in-None.is c.show.ensures.shows
