use Rattle.std.proofs.Common.{◌∙◌, ap, map, sym}
use Rattle.bmach.specs.Images.{loaded_of}
use Rattle.bmach.specs.Steps.{calls_below, machine_call}
use Rattle.bmach.specs.Stored.{stored_by_callee}
use Rattle.bmach.proofs.Storing.{none_called, some_called}
use Rattle.bmach.proofs.stored.stored_by_call.Goals as goal

pub returns-in-None-clause-stored : goal.returns-in-None-clause-stored
returns-in-None-clause-stored c =
    let calls = c.args.calls.now in
    none_called (map loaded_of c.args.functions.now) (machine_call calls.top) (calls_below calls) c.args.count calls.top.operands.own c.in-None.ensures.takes

pub returns-in-Some-clause-stored : goal.returns-in-Some-clause-stored
returns-in-Some-clause-stored c =
    let calls = c.args.calls.now in
    c.stored_by_callee.ensures.stored
    ∙ ap (λ f. stored_by_callee f c.in-Some.arguments.now (machine_call calls.top) (calls_below calls)) c.callee.ensures
    ∙ sym (some_called (map loaded_of c.args.functions.now) (machine_call calls.top) (calls_below calls) c.args.count calls.top.operands.own (c.in-Some.value, c.in-Some.arguments) c.in-Some.ensures.takes)
