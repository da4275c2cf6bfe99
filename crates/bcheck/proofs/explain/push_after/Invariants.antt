use Rattle.bsources.specs.Files.{files_shown}
use Rattle.bcheck.proofs.AddedFindings.{FurtherSoFar}
use Rattle.bcheck.proofs.explain.push_after.Given as goal

abbrev pub invariant-loop-finding : goal.invariant-loop-finding
invariant-loop-finding l =
    let s = l.fn.setting in
    FurtherSoFar s.asked.form s.source.edition s.severity (files_shown s.asked.files) s.source.text.now l.finding-items l.finding-index l.fn.said l.said
