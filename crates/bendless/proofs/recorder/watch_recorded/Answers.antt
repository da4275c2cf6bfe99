use Rattle.std.proofs.Common.{◌≡◌, ◌∙◌, MutBor, ap, sym}
use Rattle.bendless.specs.Recordings.{Recording}
use Rattle.bendless.proofs.Recordings.{made_same, names_same, recorded}
use Rattle.bendless.proofs.recorder.watch_recorded.Goals as goal

pub returns-clause-records : goal.returns-clause-records
returns-clause-records g c =
    let incoming = g.I.ByteIn.incoming in
    let old = c.new-recorder.result in
    let new = c.watch-watched.new.input in
    let made = c.new-recorder.ensures in
    let which = c.watch-watched.ensures.same in
    let names = names_same (incoming new.first.now) (incoming old.first.now) new.input.ghost_name old.input.ghost_name (g.I.ByteIn.lender new.input.now) (g.I.ByteIn.lender old.input.now) which in
    let name : new.input.ghost_name ≡ old.input.ghost_name = names.0 in
    let back : c.into_input.result ≡ new.input = c.into_input.ensures ∙ c.take_record-record.ensures.input in
    let is : c.new-arg-1.given ≡ c.into_input.result.ghost_name =
    sym (ap (λ (b : MutBor g.row.I.Denot). b.ghost_name) back ∙ name ∙ ap (λ (r : Recording (MutBor g.row.I.Denot)). r.input.ghost_name) made) in
    let now : c.input-1.given.0 ≡ new.input.now = c.input-1.given.1 is ∙ ap (λ (b : MutBor g.row.I.Denot). b.now) back in
    let first : incoming new.first.now ≡ incoming c.args.input.now =
    made_same (incoming new.first.now) (incoming old.first.now) _ _ which ∙ ap (λ (r : Recording (MutBor g.row.I.Denot)). incoming r.first.now) made in
    recorded incoming new c.take_record-record.result c.args.input.now c.input-1.given.0 first now c.take_record-record.ensures.bytes
    c.take_record-record.ensures.extent c.take_record-record.ensures.over c.take_record-record.ensures.stands
