use Rattle.std.proofs.Common.{arith, vec_items}
use Rattle.bsources.specs.Files.{files_shown}
use Rattle.bcheck.proofs.RightSteps.{found_tally}
use Rattle.bcheck.proofs.tally.found.Goals as goal

pub returns : goal.returns
returns c =
    let source = c.args.source in
    let it = c.in_ok-findings in
    λ other. found_tally source.edition (files_shown c.args.files.now) source.text.now c.args.judgement.now.verdict (vec_items it.findings) _ other c.requires.judged it.ensures.whole it.ensures.warned (omega (arith, c.len.ensures))
