mod TreeFacts
