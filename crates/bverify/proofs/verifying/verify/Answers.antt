use Rattle.std.proofs.Common.{refl, subst}
use Rattle.blang.specs.Reports.{Reported}
use Rattle.btools.specs.Origins.{origin_shown}
use Rattle.bverify.specs.Verifies.{TellsOf, verified}
use Rattle.bverify.proofs.Tellings.{told_never_stuck, program_loads}
use Rattle.bverify.proofs.verifying.verify.Goals as goal

pub returns-in-Ok-telling_of-clause-verifies : goal.returns-in-Ok-telling_of-clause-verifies
returns-in-Ok-telling_of-clause-verifies g c =
    let p = c.in-Ok.program in
    let ds = p.definitions.items in
    let lines = p.names.lines.items in
    let t = c.in-Ok-telling_of.told in
    let tells : TellsOf ds lines t =
    subst (λ l. TellsOf ds l t) c.deref-2.ensures.value (subst (λ l. TellsOf l c.deref-2.result.now t) c.deref.ensures.value c.in-Ok-telling_of.ensures) in
    let loads = program_loads (origin_shown c.args.origin) c.args.source.now ds p.image c.in-Ok.ensures.program in
    verified ds p.image lines t c.in-Ok.ensures.program c.in-Ok.ensures.lines tells (told_never_stuck ds lines t loads tells) refl
    (subst (λ s. Reported t.text s (g.O.ByteOut.outgoing c.args.out.now) (g.O.ByteOut.outgoing c.tell.new.out) c.tell.result) c.verified_status.ensures
    (subst (λ l. Reported l c.verified_status.result (g.O.ByteOut.outgoing c.args.out.now) (g.O.ByteOut.outgoing c.tell.new.out) c.tell.result) c.as_slice.ensures c.tell.ensures.told))
