use Rattle.std.proofs.Common.{◌∙◌, ◌<◌, ◌++◌, ap, append_assoc, arith, codes, length, map, sym}
use Rattle.std.proofs.lemmas.List.{drop_all}
use Rattle.std.proofs.lemmas.Result.{on_ok_weaker}
use Rattle.bmach.specs.Stops.{active_of}
use Rattle.btools.proofs.AddedTexts.{piece}
use Rattle.btrace.specs.RowTexts.{callers_text, legend_of, place_text}
use Rattle.btrace.proofs.PlaceParts.{before_within, next_caller, one_more, some_caller}
use Rattle.btrace.proofs.places.push_places.Goals as goal
use Rattle.btrace.proofs.places.push_places.Goals.{in-Some+in_ok-before+in_ok-push_caller, in_default}

pub loop-number-init : goal.loop-number-init
loop-number-init g c =
    let shown = place_text (legend_of c.args.legend.now) c.args.stepper.now.store c.args.call in
    let calls = callers_text (legend_of c.args.legend.now) c.args.stepper.now.store c.args.call 0 (map active_of c.args.stepper.now.below) in
    let text = piece c.args.text.now c.push.new.self c.push_place.new.text (codes "at     ") shown c.in_ok-push.ensures c.in_ok-push_place.ensures in
    (omega arith, sym (append_assoc c.args.text.now (codes "at     " ++ shown) calls) ∙ ap (λ x. x ++ calls) (sym text))

pub loop-number-preserved : goal.loop-number-preserved
loop-number-preserved g c =
    let legend = legend_of c.args.legend.now in
    let store = c.args.stepper.now.store in
    let below = c.args.stepper.now.below in
    let number = c.loop-number.number in
    let told = c.loop-number.invariant in
    let within : number < length below = omega (arith, c.loop-number-test.true, c.callers-number-end.ensures) in
    elim c.match-caller.branch [
      | in-Some+in_ok-before+in_ok-push_caller w ↦
          let before = w.in_ok-before.ensures.counts in
          let small = before_within c.loop-number.last c.loop-number.count w.in-Some.caller in (
            omega (arith, told.0, w.count-is, before, small),
            rw (w.text-is, w.last-is, w.count-is)
                (one_more legend store _ c.loop-number.text w.end_place.new.text w.push_caller.new.text c.loop-number.last w.in-Some.caller c.loop-number.count _ _ _
                (next_caller below number w.in-Some.caller (sym w.in-Some.is ∙ c.caller.ensures)) told.1 before w.in_ok-before.ensures.told w.in_ok-push_caller.ensures),
          )
      | in_default w ↦ absurd (some_caller below number within (sym w.in_default.is ∙ c.caller.ensures))
    ]

pub returns : goal.returns
returns g c =
    let legend = legend_of c.args.legend.now in
    let store = c.args.stepper.now.store in
    let below = c.args.stepper.now.below in
    let all = drop_all c.loop-number.number below (omega (arith, c.loop-number-test.false, c.callers-number-end.ensures)) in
    on_ok_weaker c.push_more.result (λ end.
    end ∙ sym (c.loop-number.invariant.1 ∙ ap (λ calls. c.loop-number.text ++ callers_text legend store c.loop-number.last c.loop-number.count (map active_of calls)) all)) c.push_more.ensures
