use Rattle.std.proofs.Common.{IfSome}
use Rattle.bsources.specs.Files.{files_shown}
use Rattle.bcheck.specs.Findings.{IsTried}
use Rattle.bcheck.proofs.mending.only_edit.Given as goal

abbrev pub invariant-loop-index : goal.invariant-loop-index
invariant-loop-index l = IfSome l.only (IsTried l.fn.bench.source.edition (files_shown l.fn.bench.files) l.fn.bench.source.text.now)
