use Rattle.std.proofs.Common.{◌≤◌, length, vec_items}
use Rattle.std.specs.List.{All}
use Rattle.bsources.specs.Files.{files_shown}
use Rattle.bcheck.specs.Findings.{IsTried}
use Rattle.bcheck.proofs.mending.tried_edits.Given as goal

abbrev pub invariant-loop-index : goal.invariant-loop-index
invariant-loop-index l =
    All (IsTried l.fn.bench.source.edition (files_shown l.fn.bench.files) l.fn.bench.source.text.now) (vec_items l.edits) × (length (vec_items l.edits) ≤ 3)
