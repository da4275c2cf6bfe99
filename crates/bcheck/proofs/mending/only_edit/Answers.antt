use Rattle.bsources.specs.Files.{files_shown}
use Rattle.bcheck.proofs.mending.only_edit.Goals as goal

pub loop-index-preserved : goal.loop-index-preserved
loop-index-preserved c =
    let bench = c.args.bench.now in
    c.either-only.ensures bench.source.edition (files_shown bench.files) bench.source.text.now c.loop-index.invariant c.in_ok-found.ensures
