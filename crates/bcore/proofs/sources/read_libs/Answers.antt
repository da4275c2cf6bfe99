use Rattle.std.proofs.Common.{◌≡◌, arith, length, refl}
use Rattle.std.proofs.Math.Seq.{take-length}
use Rattle.bcore.proofs.Answered.{held}
use Rattle.bcore.proofs.ReadLibs.{reads_next, reads_none, unread_in_turn}
use Rattle.bcore.proofs.sources.read_libs.Goals as goal

pub loop-name-init : goal.loop-name-init
loop-name-init g c = reads_none _ _ c.new-libs.ensures

pub loop-name-preserved : goal.loop-name-preserved
loop-name-preserved g c =
    reads_next (g.S.Shelf.holdings c.args.shelf.now) c.args.names.now c.loop-name.name-index _ c.as_slice.result.now c.loop-name.libs _
    c.loop-name-test.true c.loop-name.invariant
    (held (g.S.Shelf.holdings c.args.shelf.now) _ _ _ c.as_slice.ensures.value c.in-Ok.ensures.text) c.in-Ok-push.ensures

pub returns-clause-ok : goal.returns-clause-ok
returns-clause-ok g c =
    let all : c.loop-name.name-index ≡ length c.args.names.now = omega arith in
    rw (all, take-length c.args.names.now) at c.loop-name.invariant

pub returns-in-Err-clause-err : goal.returns-in-Err-clause-err
returns-in-Err-clause-err g c =
    unread_in_turn (g.S.Shelf.holdings c.args.shelf.now) c.args.names.now c.loop-name.name-index _ c.loop-name.libs _
    c.loop-name-test.true c.loop-name.invariant refl c.in-Err.ensures.fault

pub returns-in-Err-push-clause-err : goal.returns-in-Err-push-clause-err
returns-in-Err-push-clause-err g c =
    unread_in_turn (g.S.Shelf.holdings c.args.shelf.now) c.args.names.now c.loop-name.name-index _ c.loop-name.libs _
    c.loop-name-test.true c.loop-name.invariant refl (λ e. cc)
