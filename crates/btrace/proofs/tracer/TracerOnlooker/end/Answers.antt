use Rattle.std.proofs.Common.{refl, subst, sym}
use Rattle.std.proofs.lemmas.Result.{on_ok_weaker}
use Rattle.bwatch.specs.Watches.{Ending}
use Rattle.btrace.specs.Tracers.{AwaitsStep, HasTold, HasTraced}
use Rattle.btrace.proofs.Traced.{halt_told, limit_told, trap_told}
use Rattle.btrace.proofs.tracer.TracerOnlooker.end.Goals as goal

pub returns-in-Exit : goal.returns-in-Exit
returns-in-Exit g c =
    let t = c.args.self.now in
    let p = c.args.stepper.now in
    let stop = c.args.stop in
    let u = record t { trail = c.keep_if.new.self } in
    on_ok_weaker c.keep_if.result (λ keeps first sights ends.
    subst (λ r. HasTold first u sights stop.steps r) (sym c.in-Exit.is)
    (halt_told first t u p sights stop c.in-Exit.field-0 keeps (subst (λ r. Ending p sights (HasTraced first t sights) (AwaitsStep first t sights) r stop) c.in-Exit.is ends))) c.keep_if.ensures

pub returns-in_ok-keep_if-in-Trap : goal.returns-in_ok-keep_if-in-Trap
returns-in_ok-keep_if-in-Trap g c =
    let t = c.args.self.now in
    let p = c.args.stepper.now in
    let stop = c.args.stop in
    let kept = c.keep_if-in-Trap.new.self in
    let u = record t { trail = record kept { row = c.push_places.new.text } } in
    on_ok_weaker c.push_places.result (λ place first sights ends.
    subst (λ r. HasTold first u sights stop.steps r) (sym c.in-Trap.is)
    (trap_told first t u kept p sights stop c.in-Trap.field-0 c.in_ok-keep_if-in-Trap.ensures refl refl place (subst (λ r. Ending p sights (HasTraced first t sights) (AwaitsStep first t sights) r stop) c.in-Trap.is ends))) c.push_places.ensures

pub returns-in-Limit : goal.returns-in-Limit
returns-in-Limit g c =
    let t = c.args.self.now in
    let p = c.args.stepper.now in
    let stop = c.args.stop in
    let u = record t { trail = record t.trail { row = c.push_places-in-Limit.new.text } } in
    on_ok_weaker c.push_places-in-Limit.result (λ place first sights ends.
    subst (λ r. HasTold first u sights stop.steps r) (sym c.in-Limit.is)
    (limit_told first t u p sights stop refl refl place (subst (λ r. Ending p sights (HasTraced first t sights) (AwaitsStep first t sights) r stop) c.in-Limit.is ends))) c.push_places-in-Limit.ensures
