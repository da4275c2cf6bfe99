use Rattle.btools.proofs.Reading.{if_ok}
use Rattle.bcheck.proofs.MendSteps.{went_on}
use Rattle.bcheck.proofs.mending.comes_farther.Goals as goal

pub returns-in-Faulty : goal.returns-in-Faulty
returns-in-Faulty c =
    let bench = c.args.bench.now in
    if_ok c.goes_farther.result _ _
    (λ is far yes. went_on bench.source.edition bench.source.text.now c.args.new.now bench.judgement.now.verdict _ _ c.in-Faulty.is c.requires.judged (far yes))
    c.goes_farther.ensures
