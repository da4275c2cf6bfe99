use Rattle.std.proofs.Common.{◌≡◌, ◌∙◌, ℕ, List, [], MutBor, ap, subst, sym}
use Rattle.blang.specs.Machine.{State, steps}
use Rattle.blang.specs.Reports.{RunGives}
use Rattle.bmach.specs.Stepping.{machine_at}
use Rattle.bmach.specs.Stops.{IsOverAt}
use Rattle.bendless.specs.Recordings.{Recording}
use Rattle.bendless.proofs.Recordings.{made_same, names_same, recorded}
use Rattle.bendless.proofs.recorder.run_recorded.Goals as goal

pub returns-clause-gives : goal.returns-clause-gives
returns-clause-gives g c =
    let p = c.args.stepper in
    let states : List ℕ → ℕ → State = λ left n. steps p.image n (machine_at p left []) in
    let stop = c.run-stop.result in
    let incoming = g.I.ByteIn.incoming in
    let old = c.new-recorder.result in
    let new = c.run-stop.new.input in
    let made = c.new-recorder.ensures in
    let which = c.run-stop.ensures.input in
    let names = names_same (incoming new.first.now) (incoming old.first.now) new.input.ghost_name old.input.ghost_name (g.I.ByteIn.lender new.input.now) (g.I.ByteIn.lender old.input.now) which in
    let name : new.input.ghost_name ≡ old.input.ghost_name = names.0 in
    let back : c.into_input.result ≡ new.input = c.into_input.ensures ∙ c.take_record-record.ensures.input in
    let is : c.new-arg-1.given ≡ c.into_input.result.ghost_name =
    sym (ap (λ (b : MutBor g.row.I.Denot). b.ghost_name) back ∙ name ∙ ap (λ (r : Recording (MutBor g.row.I.Denot)). r.input.ghost_name) made) in
    let now : c.input-1.given.0 ≡ new.input.now = c.input-1.given.1 is ∙ ap (λ (b : MutBor g.row.I.Denot). b.now) back in
    let started : old.input.now ≡ c.args.input.now = ap (λ (r : Recording (MutBor g.row.I.Denot)). r.input.now) made in
    let o = g.O.ByteOut.outgoing c.args.out.now in
    let q = g.O.ByteOut.outgoing c.run-stop.new.out in
    subst (λ x. RunGives states c.args.steps (incoming x) (incoming c.input-1.given.0) o q stop.outcome) started
    (subst (λ x. RunGives states c.args.steps (incoming old.input.now) (incoming x) o q stop.outcome) (sym now) c.run-stop.ensures.gives)

pub returns-clause-stops : goal.returns-clause-stops
returns-clause-stops g c =
    let p = c.args.stepper in
    let states : List ℕ → ℕ → State = λ left n. steps p.image n (machine_at p left []) in
    let stop = c.run-stop.result in
    let incoming = g.I.ByteIn.incoming in
    let old = c.new-recorder.result in
    let new = c.run-stop.new.input in
    let made = c.new-recorder.ensures in
    let which = c.run-stop.ensures.input in
    let names = names_same (incoming new.first.now) (incoming old.first.now) new.input.ghost_name old.input.ghost_name (g.I.ByteIn.lender new.input.now) (g.I.ByteIn.lender old.input.now) which in
    let name : new.input.ghost_name ≡ old.input.ghost_name = names.0 in
    let back : c.into_input.result ≡ new.input = c.into_input.ensures ∙ c.take_record-record.ensures.input in
    let is : c.new-arg-1.given ≡ c.into_input.result.ghost_name =
    sym (ap (λ (b : MutBor g.row.I.Denot). b.ghost_name) back ∙ name ∙ ap (λ (r : Recording (MutBor g.row.I.Denot)). r.input.ghost_name) made) in
    let now : c.input-1.given.0 ≡ new.input.now = c.input-1.given.1 is ∙ ap (λ (b : MutBor g.row.I.Denot). b.now) back in
    let started : old.input.now ≡ c.args.input.now = ap (λ (r : Recording (MutBor g.row.I.Denot)). r.input.now) made in
    subst (λ x. IsOverAt states c.args.steps (incoming x) (incoming c.input-1.given.0) stop.outcome stop.call stop.steps) started
    (subst (λ x. IsOverAt states c.args.steps (incoming old.input.now) (incoming x) stop.outcome stop.call stop.steps) (sym now) c.run-stop.ensures.stops)

pub returns-clause-records : goal.returns-clause-records
returns-clause-records g c =
    let incoming = g.I.ByteIn.incoming in
    let old = c.new-recorder.result in
    let new = c.run-stop.new.input in
    let made = c.new-recorder.ensures in
    let which = c.run-stop.ensures.input in
    let names = names_same (incoming new.first.now) (incoming old.first.now) new.input.ghost_name old.input.ghost_name (g.I.ByteIn.lender new.input.now) (g.I.ByteIn.lender old.input.now) which in
    let name : new.input.ghost_name ≡ old.input.ghost_name = names.0 in
    let back : c.into_input.result ≡ new.input = c.into_input.ensures ∙ c.take_record-record.ensures.input in
    let is : c.new-arg-1.given ≡ c.into_input.result.ghost_name =
    sym (ap (λ (b : MutBor g.row.I.Denot). b.ghost_name) back ∙ name ∙ ap (λ (r : Recording (MutBor g.row.I.Denot)). r.input.ghost_name) made) in
    let now : c.input-1.given.0 ≡ new.input.now = c.input-1.given.1 is ∙ ap (λ (b : MutBor g.row.I.Denot). b.now) back in
    let first : incoming new.first.now ≡ incoming c.args.input.now =
    made_same (incoming new.first.now) (incoming old.first.now) _ _ which ∙ ap (λ (r : Recording (MutBor g.row.I.Denot)). incoming r.first.now) made in
    recorded incoming new c.take_record-record.result c.args.input.now c.input-1.given.0 first now c.take_record-record.ensures.bytes
    c.take_record-record.ensures.extent c.take_record-record.ensures.over c.take_record-record.ensures.stands

pub returns-clause-input_lender : goal.returns-clause-input_lender
returns-clause-input_lender g c =
    let incoming = g.I.ByteIn.incoming in
    let old = c.new-recorder.result in
    let new = c.run-stop.new.input in
    let made = c.new-recorder.ensures in
    let which = c.run-stop.ensures.input in
    let names = names_same (incoming new.first.now) (incoming old.first.now) new.input.ghost_name old.input.ghost_name (g.I.ByteIn.lender new.input.now) (g.I.ByteIn.lender old.input.now) which in
    let name : new.input.ghost_name ≡ old.input.ghost_name = names.0 in
    let back : c.into_input.result ≡ new.input = c.into_input.ensures ∙ c.take_record-record.ensures.input in
    let is : c.new-arg-1.given ≡ c.into_input.result.ghost_name =
    sym (ap (λ (b : MutBor g.row.I.Denot). b.ghost_name) back ∙ name ∙ ap (λ (r : Recording (MutBor g.row.I.Denot)). r.input.ghost_name) made) in
    let now : c.input-1.given.0 ≡ new.input.now = c.input-1.given.1 is ∙ ap (λ (b : MutBor g.row.I.Denot). b.now) back in
    let started : old.input.now ≡ c.args.input.now = ap (λ (r : Recording (MutBor g.row.I.Denot)). r.input.now) made in
    ap g.I.ByteIn.lender now ∙ names.1 ∙ ap g.I.ByteIn.lender started
