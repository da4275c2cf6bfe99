use Rattle.bsources.specs.Files.{files_shown}
use Rattle.bcheck.specs.Checks.{status_told}
use Rattle.bcheck.proofs.AddedFindings.{FindingsSoFar}
use Rattle.bcheck.proofs.explain.explain.Given as goal

abbrev pub invariant-loop-finding : goal.invariant-loop-finding
invariant-loop-finding l =
    FindingsSoFar l.fn.asked.form l.fn.source.edition (status_told l.fn.judgement.verdict) (files_shown l.fn.asked.files) l.fn.source.text.now l.finding-items l.finding-index l.said
