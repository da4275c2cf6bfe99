use Rattle.std.proofs.Common.{◌≡◌, List, ℕ, false, refl, subst, true}
use Rattle.bformat.specs.Formats.{Shows, faulty, has_wrong_token, laid_out}
use Rattle.bformat.proofs.formatting.format.Goals as goal

pub returns-in-Ok-Some-clause-formats : goal.returns-in-Ok-Some-clause-formats
returns-in-Ok-Some-clause-formats g c =
    let laid : (has_wrong_token c.args.edition c.args.source.now ≡ false) × g.S.Style.lays c.args.edition c.args.source.now c.in-Ok-Some.text = rw c.in-Ok-Some.field-0-is at c.in-Ok-Some.ensures.lays in
    laid_out c.in-Ok-Some.text laid.0 laid.1
    (subst (λ (t : List ℕ). Shows c.args.is_check t c.args.source.now (g.O.ByteOut.outgoing c.args.out.now) (g.O.ByteOut.outgoing c.show.new.out) c.show.result) c.as_slice.ensures c.show.ensures.shows)
    refl

pub returns-in-Ok-None-clause-formats : goal.returns-in-Ok-None-clause-formats
returns-in-Ok-None-clause-formats g c =
    let wrong : has_wrong_token c.args.edition c.args.source.now ≡ true = rw c.in-Ok-None.field-0-is at c.in-Ok-None.ensures.lays in
    faulty c.tell_fault.ensures.compiled.0 wrong c.tell_fault.ensures.compiled.1 refl
