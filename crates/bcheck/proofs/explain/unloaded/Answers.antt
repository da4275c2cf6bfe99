use Rattle.std.proofs.Common.{ap, length, subst, sym, vec_items}
use Rattle.bcheck.specs.Checks.{EachOutcome}
use Rattle.bcheck.specs.Findings.{ReasonAt, definitions_in, matter_code}
use Rattle.bcheck.specs.UndefinedNames.{told_subjects}
use Rattle.btools.proofs.Reading.{if_ok}
use Rattle.bcheck.proofs.Reasons.{one_reasoned, other_reason, other_whole, undefined_reasons, undefined_whole}
use Rattle.bcheck.proofs.explain.unloaded.Goals as goal

pub returns-in-Undefined-clause-whole : goal.returns-in-Undefined-clause-whole
returns-in-Undefined-clause-whole c =
    if_ok c.undefined_names.result _ _ (λ found e. undefined_whole c.args.source.edition c.args.source.text.now (vec_items found) _ c.args.fault.now c.args.compiled.now c.in-Undefined.is c.requires.judged c.requires.compiled e) c.undefined_names.ensures

pub returns-in-Undefined-clause-reasons : goal.returns-in-Undefined-clause-reasons
returns-in-Undefined-clause-reasons c =
    if_ok c.undefined_names.result _ _ (λ found e. undefined_reasons c.args.source.edition c.args.source.text.now _ c.args.fault.now (told_subjects (definitions_in c.args.compiled.now)) (vec_items found) c.in-Undefined.is c.requires.judged e) c.undefined_names.ensures

pub returns-clause-whole : goal.returns-clause-whole
returns-clause-whole c =
    if_ok c.alone.result _ _ (λ found e. other_whole c.args.source.edition c.args.source.text.now (vec_items found) c.args.fault.now c.in_default.not-Undefined c.requires.judged (ap length e)) c.alone.ensures

pub returns-clause-reasons : goal.returns-clause-reasons
returns-clause-reasons c =
    let edition = c.args.source.edition in
    let source = c.args.source.text.now in
    let f = c.new-finding.result in
    let reason = subst (λ m. EachOutcome edition source (ReasonAt (matter_code m) f.place.start)) (sym c.new-finding.ensures) (other_reason edition source c.args.fault.now f.place.start c.in_default.not-Undefined c.requires.judged) in
    if_ok c.alone.result _ _ (λ found e. one_reasoned edition source (vec_items found) f e reason) c.alone.ensures
