use Rattle.std.proofs.Common.{◌≡◌, ◌∙◌, MutBor, ap, subst, sym}
use Rattle.btools.specs.Programs.{steps_from}
use Rattle.bendless.specs.Recordings.{Recording}
use Rattle.bendless.proofs.Recordings.{made_same, names_same, recorded}
use Rattle.bcareful.specs.Carefuls.{CarefulGives}
use Rattle.bcareful.specs.Things.{atlas_of}
use Rattle.bcareful.proofs.Whole.{counted}
use Rattle.bcareful.proofs.recorded.careful_recorded.Goals as goal

pub returns-clause-gives : goal.returns-clause-gives
returns-clause-gives g c =
    let a = atlas_of c.args.atlas.now in
    let p = c.args.stepper.now in
    let incoming = g.I.ByteIn.incoming in
    let old = c.new-recorder.result in
    let new = c.careful_steps-ended.new.input in
    let made = c.new-recorder.ensures in
    let which = c.careful_steps-ended.ensures.input in
    let names = names_same (incoming new.first.now) (incoming old.first.now) new.input.ghost_name old.input.ghost_name (g.I.ByteIn.lender new.input.now) (g.I.ByteIn.lender old.input.now) which in
    let name : new.input.ghost_name ≡ old.input.ghost_name = names.0 in
    let back : c.into_input.result ≡ new.input = c.into_input.ensures ∙ c.take_record-record.ensures.input in
    let is : c.new-arg-1.given ≡ c.into_input.result.ghost_name =
    sym (ap (λ (b : MutBor g.row.I.Denot). b.ghost_name) back ∙ name ∙ ap (λ (r : Recording (MutBor g.row.I.Denot)). r.input.ghost_name) made) in
    let now : c.input-1.given.0 ≡ new.input.now = c.input-1.given.1 is ∙ ap (λ (b : MutBor g.row.I.Denot). b.now) back in
    let started : old.input.now ≡ c.args.input.now = ap (λ (r : Recording (MutBor g.row.I.Denot)). r.input.now) made in
    let o = g.O.ByteOut.outgoing c.args.out.now in
    let q = g.O.ByteOut.outgoing c.careful_steps-ended.new.out in
    subst (λ x. CarefulGives a p.image.functions (steps_from p) c.args.steps (incoming x) (incoming c.input-1.given.0) o q c.careful_steps-ended.new.stepper c.careful_steps-ended.result) started
    (subst (λ x. CarefulGives a p.image.functions (steps_from p) c.args.steps (incoming old.input.now) (incoming x) o q c.careful_steps-ended.new.stepper c.careful_steps-ended.result) (sym now) c.careful_steps-ended.ensures.gives)

pub returns-clause-records : goal.returns-clause-records
returns-clause-records g c =
    let incoming = g.I.ByteIn.incoming in
    let old = c.new-recorder.result in
    let new = c.careful_steps-ended.new.input in
    let made = c.new-recorder.ensures in
    let which = c.careful_steps-ended.ensures.input in
    let names = names_same (incoming new.first.now) (incoming old.first.now) new.input.ghost_name old.input.ghost_name (g.I.ByteIn.lender new.input.now) (g.I.ByteIn.lender old.input.now) which in
    let name : new.input.ghost_name ≡ old.input.ghost_name = names.0 in
    let back : c.into_input.result ≡ new.input = c.into_input.ensures ∙ c.take_record-record.ensures.input in
    let is : c.new-arg-1.given ≡ c.into_input.result.ghost_name =
    sym (ap (λ (b : MutBor g.row.I.Denot). b.ghost_name) back ∙ name ∙ ap (λ (r : Recording (MutBor g.row.I.Denot)). r.input.ghost_name) made) in
    let now : c.input-1.given.0 ≡ new.input.now = c.input-1.given.1 is ∙ ap (λ (b : MutBor g.row.I.Denot). b.now) back in
    let first : incoming new.first.now ≡ incoming c.args.input.now =
    made_same (incoming new.first.now) (incoming old.first.now) _ _ which ∙ ap (λ (r : Recording (MutBor g.row.I.Denot)). incoming r.first.now) made in
    recorded incoming new c.take_record-record.result c.args.input.now c.input-1.given.0 first now c.take_record-record.ensures.bytes
    c.take_record-record.ensures.extent c.take_record-record.ensures.over c.take_record-record.ensures.stands

pub returns-clause-input : goal.returns-clause-input
returns-clause-input g c =
    let incoming = g.I.ByteIn.incoming in
    let old = c.new-recorder.result in
    let new = c.careful_steps-ended.new.input in
    let made = c.new-recorder.ensures in
    let which = c.careful_steps-ended.ensures.input in
    let names = names_same (incoming new.first.now) (incoming old.first.now) new.input.ghost_name old.input.ghost_name (g.I.ByteIn.lender new.input.now) (g.I.ByteIn.lender old.input.now) which in
    let name : new.input.ghost_name ≡ old.input.ghost_name = names.0 in
    let back : c.into_input.result ≡ new.input = c.into_input.ensures ∙ c.take_record-record.ensures.input in
    let is : c.new-arg-1.given ≡ c.into_input.result.ghost_name =
    sym (ap (λ (b : MutBor g.row.I.Denot). b.ghost_name) back ∙ name ∙ ap (λ (r : Recording (MutBor g.row.I.Denot)). r.input.ghost_name) made) in
    let now : c.input-1.given.0 ≡ new.input.now = c.input-1.given.1 is ∙ ap (λ (b : MutBor g.row.I.Denot). b.now) back in
    let started : old.input.now ≡ c.args.input.now = ap (λ (r : Recording (MutBor g.row.I.Denot)). r.input.now) made in
    ap g.I.ByteIn.lender now ∙ names.1 ∙ ap g.I.ByteIn.lender started

pub returns-clause-counts : goal.returns-clause-counts
returns-clause-counts g c found is =
    let a = atlas_of c.args.atlas.now in
    let p = c.args.stepper.now in
    let incoming = g.I.ByteIn.incoming in
    let i = incoming c.new-recorder.result.input.now in
    let j = incoming c.careful_steps-ended.new.input.input.now in
    let o = g.O.ByteOut.outgoing c.args.out.now in
    let q = g.O.ByteOut.outgoing c.careful_steps-ended.new.out in
    let now = c.careful_steps-ended.new.stepper in
    let gives = subst (λ e. CarefulGives a p.image.functions (steps_from p) c.args.steps i j o q now e) is c.careful_steps-ended.ensures.gives in
    counted a p.image.functions (steps_from p) c.args.steps i j now found c.ranges.steps.fits gives.1
