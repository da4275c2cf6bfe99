use Rattle.bgrammar.proofs.SourceRows.{externals_come, functions_come, faults_come, places_come, edges_come, names_of_one_come, of_two_come}
use Rattle.bgrammar.proofs.rows_of_sources.Goals as goal

pub returns-clause-externals : goal.returns-clause-externals
returns-clause-externals c = externals_come

pub returns-clause-functions : goal.returns-clause-functions
returns-clause-functions c = functions_come

pub returns-clause-faults : goal.returns-clause-faults
returns-clause-faults c = faults_come

pub returns-clause-places : goal.returns-clause-places
returns-clause-places c = places_come

pub returns-clause-edges : goal.returns-clause-edges
returns-clause-edges c = edges_come

pub returns-clause-names : goal.returns-clause-names
returns-clause-names c = names_of_one_come

pub returns-clause-two : goal.returns-clause-two
returns-clause-two c = of_two_come
