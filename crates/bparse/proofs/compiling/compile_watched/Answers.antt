use Rattle.std.proofs.Common.{rules}
use Rattle.bparse.proofs.CompileHeadlines.{compile_headline}
use Rattle.bparse.proofs.compiling.compile_watched.Goals as goal

pub returns-clause-compiles : goal.returns-clause-compiles
returns-clause-compiles g c = search rules

pub returns-clause-headline : goal.returns-clause-headline
returns-clause-headline g c = compile_headline _ (returns-clause-compiles g c)
