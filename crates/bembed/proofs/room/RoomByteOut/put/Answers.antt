use Rattle.std.proofs.Common.{length, refl, take}
use Rattle.std.proofs.lemmas.Option.{slice_get_read}
use Rattle.bembed.proofs.RoomSteps.{kept_on, refused}
use Rattle.bembed.proofs.room.RoomByteOut.put.Goals as goal

pub returns-clause-gives : goal.returns-clause-gives
returns-clause-gives c =
    rw c.or-self.ensures (refused c.args.self.now.room.now c.write_at.new.room c.args.bytes.now c.args.self.now.count.now c.min.result
    c.args.self.now.failures c.saturating_add-self.result _ c.args.self.now.over c.args.self.now.within
    c.min.ensures c.write_at.ensures.written (slice_get_read _ _ _ _ refl c.in-Some.ensures.lookup.3.0 c.in-Some.ensures.lookup.1) c.saturating_add-self.ensures c.args.self.now.full)

pub invariant_of-self-clause-kept : goal.invariant_of-self-clause-kept
invariant_of-self-clause-kept c =
    kept_on c.args.self.now.before.now.bytes c.args.self.now.room.now c.write_at.new.room c.args.self.now.count.now
    (length (take c.min.result c.args.bytes.now)) c.args.self.now.kept c.write_at.ensures.kept

pub invariant_of-self-2-clause-kept : goal.invariant_of-self-2-clause-kept
invariant_of-self-2-clause-kept c =
    kept_on c.args.self.now.before.now.bytes c.args.self.now.room.now c.write_at.new.room c.args.self.now.count.now
    (length (take c.min.result c.args.bytes.now)) c.args.self.now.kept c.write_at.ensures.kept
