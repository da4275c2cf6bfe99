use Rattle.std.proofs.Common.{◌∙◌, subst, sym}
use Rattle.bfix.specs.Fixes.{IsLed}
use Rattle.bfix.proofs.PortSteps.{goes_led, stays_led}
use Rattle.bfix.proofs.porting.led_on.Goals as goal

pub returns-then-stays : goal.returns-then-stays
returns-then-stays c =
    stays_led c.args.frame.now c.args.ported.now c.in_ok-led.led (c.in_ok-led.ensures.text ∙ c.as_slice.ensures)
    c.in_ok-led.ensures.lines

pub returns : goal.returns
returns c =
    goes_led c.args.frame.now c.args.ported.now c.in_ok-led-2.led (sym c.stays-stays.ensures ∙ c.if-stays.false)
    (subst (λ t. IsLed c.args.frame.now t c.in_ok-led-2.led) c.as_slice-2.ensures c.in_ok-led-2.ensures.0)
