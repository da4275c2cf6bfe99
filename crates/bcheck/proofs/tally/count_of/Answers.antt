use Rattle.bsources.specs.Files.{files_shown}
use Rattle.btools.proofs.Reading.{if_ok}
use Rattle.bcheck.proofs.RightSteps.{clean_status, faulty_tally, unloaded_status}
use Rattle.bcheck.proofs.tally.count_of.Goals as goal

pub returns-in-Faulty : goal.returns-in-Faulty
returns-in-Faulty c =
    let source = c.args.source in
    if_ok c.faults.result _ _ (λ count counted. faulty_tally source.edition (files_shown c.args.files.now) source.text.now c.args.judgement.now.verdict _ _ count c.in-Faulty.is c.requires.stop counted) c.faults.ensures

pub returns-in-Clean : goal.returns-in-Clean
returns-in-Clean c = if_ok c.found.result _ _ (λ count counted. counted (clean_status c.args.judgement.now.verdict c.in-Clean.is)) c.found.ensures

pub returns-in-Unloaded : goal.returns-in-Unloaded
returns-in-Unloaded c = if_ok c.found-in-Unloaded.result _ _ (λ count counted. counted (unloaded_status c.args.judgement.now.verdict _ c.in-Unloaded.is)) c.found-in-Unloaded.ensures
