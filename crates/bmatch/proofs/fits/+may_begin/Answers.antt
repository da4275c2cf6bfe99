use Rattle.std.proofs.Common.{◌∙◌, ap}
use Rattle.bmatch.specs.Fits.{may_begin}
use Rattle.bmatch.proofs.Steps.{begins_after_jump, begins_by_other}
use Rattle.bmatch.proofs.fits.+may_begin.Goals as goal

pub returns-else-may_begin : goal.returns-else-may_begin
returns-else-may_begin t c =
    begins_by_other c.args.sight.now c.args.steps.now _ c.in-Either.count c.args.end _ _ c.in-len1-up.len_at_least c.in-Either.is c.may_begin.ensures c.if-may_begin.false (c.may_begin-else-may_begin.ensures ∙ ap (λ is. may_begin c.args.sight.now 0 is c.args.end) c.steps_from.ensures)

pub returns-in-Jump : goal.returns-in-Jump
returns-in-Jump t c =
    begins_after_jump c.args.sight.now c.args.steps.now _ c.in-Jump.count c.args.end _ c.in-len1-up.len_at_least c.in-Jump.is (c.may_begin-in-Jump.ensures ∙ ap (λ is. may_begin c.args.sight.now 0 is c.args.end) c.steps_from-in-Jump.ensures)
