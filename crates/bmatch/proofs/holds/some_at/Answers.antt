use Rattle.std.proofs.Common.{◌∙◌, ◌+◌, ap, sym}
use Rattle.bmatch.specs.Fits.{may_begin}
use Rattle.bmatch.proofs.Heads.{nothing_sought}
use Rattle.bmatch.proofs.holds.some_at.Goals as goal

pub returns-then-not-may_begin : goal.returns-then-not-may_begin
returns-then-not-may_begin c =
    nothing_sought c.args.site.now c.args.sought.now c.args.binds.now c.args.index c.args.found.now.items
    (ap (λ is. may_begin c.args.site.now.sight 0 is (c.args.index + 1)) (sym c.steps_from-steps.ensures) ∙ (sym c.may_begin.ensures ∙ c.if-not-may_begin.true))
