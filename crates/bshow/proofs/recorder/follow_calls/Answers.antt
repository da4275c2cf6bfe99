use Rattle.std.proofs.Common.{◌∙◌, ◌<◌, ap, arith, length, reverse, sym}
use Rattle.std.proofs.lemmas.List.{length-reverse, reverse-append}
use Rattle.bshow.proofs.Calls.{begun_below, none_below}
use Rattle.bshow.proofs.recorder.follow_calls.Goals as goal

pub returns-in_ok-push : goal.returns-in_ok-push
returns-in_ok-push g c moves =
    let old = c.args.calls.now in
    let below = c.args.stepper.now.below in
    let more : length (reverse old.items) < length below =
    omega (arith, length-reverse old.items, c.callers-depth.ensures, c.len.ensures, c.len-2.ensures, c.if-depth-len.false, c.if-depth-len-2.false, old.ok.0) in
    ap reverse c.in_ok-push.ensures.items ∙ reverse-append old.items _
    ∙ begun_below (reverse old.items) below c.in-Some.caller more (sym c.caller.ensures ∙ c.in-Some.is) moves

pub returns-in_default : goal.returns-in_default
returns-in_default g c moves =
    let old = c.args.calls.now in
    let below = c.args.stepper.now.below in
    absurd (omega (arith, none_below below (sym c.caller.ensures ∙ c.in_default.is), c.callers-depth.ensures, c.len.ensures, c.len-2.ensures, c.if-depth-len.false, c.if-depth-len-2.false, old.ok.0))
