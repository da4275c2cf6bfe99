use Rattle.bsources.specs.Files.{files_shown}
use Rattle.bcheck.proofs.mending.tried_edits.Goals as goal

pub loop-index-preserved : goal.loop-index-preserved
loop-index-preserved c =
    let bench = c.args.bench.now in
    let inv = c.loop-index.invariant in (
      c.in_ok-push_found.ensures.tried bench.source.edition (files_shown bench.files) bench.source.text.now inv.0 c.in_ok-found.ensures,
      c.in_ok-push_found.ensures.few inv.1,
    )
