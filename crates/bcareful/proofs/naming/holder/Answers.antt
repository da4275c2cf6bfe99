use Rattle.std.proofs.Common.{◌≡◌, ◌∙◌, ◌+◌, Some, ap, arith, drop, map, sym, true, false}
use Rattle.std.proofs.lemmas.Bool.{cond-false, cond-true}
use Rattle.std.proofs.lemmas.Option.{slice_get-map}
use Rattle.bmach.specs.Stops.{active_of}
use Rattle.bcareful.specs.Things.{atlas_of}
use Rattle.bcareful.specs.Tellings.{holder, holds}
use Rattle.bcareful.proofs.Looking.{at_call, is_there}
use Rattle.bcareful.proofs.naming.holder.Goals as goal
use Rattle.bcareful.proofs.naming.holder.Goals.{in-Some+else-holds-2, in_default}

pub returns-then-holds-2 : goal.returns-then-holds-2
returns-then-holds-2 g c =
    let a = atlas_of c.args.atlas.now in
    let address = c.args.address in
    let below = c.args.stepper.now.below in
    let n = c.loop-number.number in
    let call = c.in-Some.call in
    let top = active_of c.args.stepper.now.call in
    let has : holds a address call ≡ true = sym c.holds-in-Some.ensures ∙ c.if-holds-2.true in
    let not : holds a address top ≡ false = ap (holds a address) (sym c.top-top.ensures) ∙ sym c.holds.ensures ∙ c.if-holds.false in
    let here : holder a (map active_of below) address ≡ Some call =
    sym c.loop-number.invariant ∙ at_call a address (map active_of below) n call (slice_get-map active_of below n ∙ sym c.caller.ensures ∙ c.in-Some.is)
    ∙ cond-true (holds a address call) (Some call) (holder a (drop (n + 1) (map active_of below)) address) has in
    sym here ∙ sym (cond-false (holds a address top) (Some top) (holder a (map active_of below) address) not)

pub loop-number-preserved : goal.loop-number-preserved
loop-number-preserved g c =
    let a = atlas_of c.args.atlas.now in
    let address = c.args.address in
    let below = c.args.stepper.now.below in
    let n = c.loop-number.number in
    elim c.match-caller.branch [
      | in-Some+else-holds-2 w ↦
          sym
          (at_call a address (map active_of below) n w.in-Some.call (slice_get-map active_of below n ∙ sym c.caller.ensures ∙ w.in-Some.is)
          ∙ cond-false (holds a address w.in-Some.call) (Some w.in-Some.call) (holder a (drop (n + 1) (map active_of below)) address) (sym w.holds-in-Some.ensures ∙ w.if-holds-2.false))
          ∙ c.loop-number.invariant
      | in_default w ↦ absurd (is_there below n (omega (arith, c.loop-number-test.true, c.callers-number-end.ensures)) c.caller.result c.caller.ensures w.in_default.is)
    ]
