use Rattle.std.proofs.Common.{vec_items}
use Rattle.bsources.specs.Files.{files_shown}
use Rattle.btools.proofs.Reading.{if_ok}
use Rattle.bcheck.proofs.Reasons.{all_warned}
use Rattle.bcheck.proofs.explain.warnings.Goals as goal

pub returns : goal.returns
returns c =
    if_ok c.warned_of.result _ _
    (λ found e.
    all_warned c.args.source.edition (files_shown c.args.files.now) c.args.source.text.now _ _ (vec_items found) c.in_ok-cautions.ensures c.as_slice.ensures.value
    (e c.args.source.text.now))
    c.warned_of.ensures
