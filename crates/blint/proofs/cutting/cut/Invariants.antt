use Rattle.std.proofs.Common.{◌-◌, ◌≡◌, length}
use Rattle.blint.proofs.SourceSteps.{Reads}
use Rattle.blint.proofs.cutting.cut.Given as goal

abbrev pub invariant-loop-scanner : goal.invariant-loop-scanner
invariant-loop-scanner l = record {
  reads : Reads l.program.edition l.program.text.now l.cut l.scanner.at;
  edition : l.scanner.edition ≡ l.program.edition;
  source : l.scanner.source ≡ l.program.text.now;
}

abbrev pub decreases-loop-scanner : goal.decreases-loop-scanner
decreases-loop-scanner l = length l.program.text.now - l.scanner.at
