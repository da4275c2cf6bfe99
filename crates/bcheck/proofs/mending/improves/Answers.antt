use Rattle.std.proofs.Common.{rules}
use Rattle.bcheck.proofs.MendSteps.{improved}
use Rattle.bcheck.proofs.Reasons.{every_ok}
use Rattle.bcheck.proofs.mending.improves.Goals as goal

pub returns : goal.returns
returns c =
    let bench = c.args.bench.now in
    let better = c.in_ok-judgement in
    every_ok c.is_quiet.result _
    (λ is quiet. improved bench.source.edition bench.source.text.now c.args.new.now bench.judgement.now better.judgement c.requires.judged c.requires.stop c.requires.compiled better.ensures.judged better.ensures.stop better.ensures.compiled (search rules))

pub returns-then-spot : goal.returns-then-spot
returns-then-spot c =
    let bench = c.args.bench.now in
    let better = c.in_ok-judgement in
    λ sure. improved bench.source.edition bench.source.text.now c.args.new.now bench.judgement.now better.judgement c.requires.judged c.requires.stop c.requires.compiled better.ensures.judged better.ensures.stop better.ensures.compiled (search rules)
