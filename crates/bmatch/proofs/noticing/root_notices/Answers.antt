use Rattle.std.proofs.Common.{◌∙◌, ◌+◌, ap, sym}
use Rattle.bmatch.specs.Fits.{may_begin}
use Rattle.bmatch.specs.Notices.{sight_of}
use Rattle.bmatch.proofs.Heads.{nothing_found}
use Rattle.bmatch.proofs.noticing.root_notices.Goals as goal

pub returns-then-not-may_begin : goal.returns-then-not-may_begin
returns-then-not-may_begin c =
    nothing_found c.args.tree.now c.args.table.now c.args.rule.now c.args.function c.args.root c.args.found.now.items
    (ap (λ is. may_begin (sight_of c.args.tree.now c.args.table.now c.args.rule.now) 0 is (c.args.root + 1)) (sym c.steps_from-steps.ensures) ∙ (sym c.may_begin.ensures ∙ c.if-not-may_begin.true))
