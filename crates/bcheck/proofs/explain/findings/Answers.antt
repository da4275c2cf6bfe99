use Rattle.std.proofs.Common.{ap, length, subst, vec_items}
use Rattle.bcheck.specs.Checks.{Judged}
use Rattle.btools.proofs.Reading.{if_ok}
use Rattle.bcheck.proofs.CheckSteps.{fault_line}
use Rattle.bcheck.proofs.Reasons.{not_done, not_loaded, clean_reasons, clean_whole, every_ok, faulty_reason, faulty_whole, one_reasoned}
use Rattle.bcheck.proofs.explain.findings.Goals as goal

pub fault_of-requires : goal.fault_of-requires
fault_of-requires c = fault_line c.args.source.edition c.args.source.text.now _ c.args.judgement.now.verdict _ c.in-Faulty.is c.requires.stop

pub returns-in-Clean-clause-whole : goal.returns-in-Clean-clause-whole
returns-in-Clean-clause-whole c =
    let edition = c.args.source.edition in
    let source = c.args.source.text.now in
    every_ok c.warnings.result _ (λ found. clean_whole edition source (vec_items found) (subst (λ v. Judged edition source v) c.in-Clean.is c.requires.judged))

pub returns-in-Clean-clause-reasons : goal.returns-in-Clean-clause-reasons
returns-in-Clean-clause-reasons c =
    let edition = c.args.source.edition in
    let source = c.args.source.text.now in
    every_ok c.warnings.result _ (λ found. clean_reasons edition source (subst (λ v. Judged edition source v) c.in-Clean.is c.requires.judged) (vec_items found))

pub returns-in-Ok-clause-whole : goal.returns-in-Ok-clause-whole
returns-in-Ok-clause-whole c =
    let edition = c.args.source.edition in
    let source = c.args.source.text.now in
    if_ok c.alone.result _ _ (λ found e. faulty_whole edition source (vec_items found) c.args.judgement.now.verdict _ _ c.in-Faulty.is c.requires.stop (ap length e)) c.alone.ensures

pub returns-in-Ok-clause-reasons : goal.returns-in-Ok-clause-reasons
returns-in-Ok-clause-reasons c =
    let edition = c.args.source.edition in
    let source = c.args.source.text.now in
    let error = c.in-Ok.error in
    let reason = faulty_reason edition source c.args.judgement.now.verdict _ _ error c.in-Faulty.is c.requires.judged c.requires.stop c.in-Ok.ensures in
    if_ok c.alone.result _ _ (λ found e. one_reasoned edition source (vec_items found) error e reason) c.alone.ensures

pub returns-in-Clean-clause-warned : goal.returns-in-Clean-clause-warned
returns-in-Clean-clause-warned c = if_ok c.warnings.result _ _ (λ found h done. h) c.warnings.ensures

pub returns-in-Ok-clause-warned : goal.returns-in-Ok-clause-warned
returns-in-Ok-clause-warned c =
    every_ok c.alone.result _ (λ found. not_done c.args.source.edition _ c.args.source.text.now c.args.judgement.now.verdict _ _ c.in-Faulty.is (vec_items found))

pub returns-in-Unloaded-clause-warned : goal.returns-in-Unloaded-clause-warned
returns-in-Unloaded-clause-warned c =
    every_ok c.unloaded.result _ (λ found. not_loaded c.args.source.edition _ c.args.source.text.now c.args.judgement.now.verdict _ c.in-Unloaded.is (vec_items found))
