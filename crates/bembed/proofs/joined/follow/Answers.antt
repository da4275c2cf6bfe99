use Rattle.std.proofs.Common.{◌≡◌, arith, inl, length, refl}
use Rattle.std.proofs.Math.Seq.{take-length}
use Rattle.bembed.proofs.Following.{AreFollowed, followed_on, unnamed}
use Rattle.bembed.proofs.joined.follow.Goals as goal

pub returns-in_default-clause-err : goal.returns-in_default-clause-err
returns-in_default-clause-err c =
    inl (unnamed c.args.files.now c.loop-file.file-index _ c.loop-file-test.true c.in_default.ensures.cases.0, refl)

pub loop-file-preserved : goal.loop-file-preserved
loop-file-preserved c =
    followed_on c.args.files.now c.loop-file.file-index _ c.in-Ok.name.now c.loop-file.rest c.push.new.self
    c.loop-file-test.true c.loop-file.invariant c.in-Ok.ensures.cases c.in-Ok-push.ensures

pub returns-clause-ok : goal.returns-clause-ok
returns-clause-ok c =
    let all : c.loop-file.file-index ≡ length c.args.files.now = omega (arith, c.loop-file-test.false) in
    rw (all, take-length c.args.files.now) at c.loop-file.invariant
