use Rattle.std.proofs.Common.{◌∙◌, ◌≡◌, subst}
use Rattle.bcheck.specs.Checks.{tokens_in, with_newline}
use Rattle.bcheck.specs.Findings.{IsStopOf}
use Rattle.bcheck.proofs.MendSteps.{stops_apart}
use Rattle.bcheck.proofs.farther.fault_line.Goals as goal

pub returns : goal.returns
returns c =
    let edition = c.args.source.edition in
    let source = c.args.source.text.now in
    let before = c.args.before.now in
    let rest = c.args.rest.now in
    let parted : c.as_slice.result.now ≡ with_newline before rest = c.as_slice.ensures ∙ c.in_ok-text.ensures in
    let same : tokens_in edition (with_newline before rest) ≡ tokens_in edition source =
    subst (λ t. tokens_in edition t ≡ tokens_in edition source) parted
    (c.has_same_tokens.ensures c.if-not-has_same_tokens.false) in
    stops_apart edition source before rest c.line_in.result same
    (c.line_in.ensures edition before rest
    (subst (λ t. IsStopOf edition t c.in_ok-judgement.judgement.verdict) parted c.in_ok-judgement.ensures.stop))
