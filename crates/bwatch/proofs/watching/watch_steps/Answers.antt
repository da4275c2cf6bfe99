use Rattle.bwatch.proofs.Seen.{left_on, read_watched, unread_on, where_refused}
use Rattle.bwatch.proofs.watching.watch_steps.Goals as goal

pub returns-in-Device-clause-gives : goal.returns-in-Device-clause-gives
returns-in-Device-clause-gives g c =
    unread_on c.make_steps.new.stepper (g.W.Onlooker.has_seen c.args.onlooker.now c.make_steps.new.onlooker) (g.W.Onlooker.awaits c.args.onlooker.now c.make_steps.new.onlooker) (g.W.Onlooker.has_told c.args.onlooker.now c.make_steps.new.onlooker) c.in_ok-stop.stop c.args.stepper c.args.steps _ _ c.in-Device.is c.in_ok-stop.ensures.gives

pub returns-in_err-end-in_default-clause-read : goal.returns-in_err-end-in_default-clause-read
returns-in_err-end-in_default-clause-read g c =
    where_refused c.from_residual-in_err-end-in_default.result _
    (read_watched c.args.stepper.image.functions _ c.args.steps _ _ c.in_ok-stop.stop.outcome c.in_ok-stop.stop.steps _ c.in_default.not-Device c.in_ok-stop.ensures.gives)

pub returns-clause-gives : goal.returns-clause-gives
returns-clause-gives g c =
    left_on c.make_steps.new.stepper (g.W.Onlooker.has_seen c.args.onlooker.now c.make_steps.new.onlooker) (g.W.Onlooker.awaits c.args.onlooker.now c.make_steps.new.onlooker) (g.W.Onlooker.has_told c.args.onlooker.now c.end.new.self) c.in_ok-stop.stop c.args.stepper c.args.steps _ _ c.in_default.not-Device (c.in_ok-end-in_default.ensures c.args.onlooker.now) (g.W.Onlooker.awaits c.args.onlooker.now c.end.new.self) c.in_ok-stop.ensures.gives
