use Rattle.std.proofs.Common.{sym, subst}
use Rattle.bverify.proofs.Tellings.{TellsOn, tells_first, tells_on, tells_all}
use Rattle.bverify.proofs.verifying.telling_of.Goals as goal

pub loop-definition-init : goal.loop-definition-init
loop-definition-init c =
    let ds = c.args.definitions.now in
    let lines = c.args.lines.now in
    subst (λ t. TellsOn ds lines t ds lines) (sym c.nothing_told-told.ensures) (tells_first ds lines)

pub loop-definition-preserved : goal.loop-definition-preserved
loop-definition-preserved c =
    tells_on c.args.definitions.now c.args.lines.now _ _ _ _ _ _ _ _ c.loop-definition-test.true c.definition-item.is c.split_lines.ensures.own c.split_lines.ensures.later c.loop-definition.invariant c.in_ok-add.ensures

pub returns : goal.returns
returns c = tells_all c.args.definitions.now c.args.lines.now _ _ _ c.loop-definition-test.false c.loop-definition.invariant
