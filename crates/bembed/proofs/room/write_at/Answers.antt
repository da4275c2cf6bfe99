use Rattle.std.proofs.Common.{rules, arith, length, ◌+◌, ◌-◌}
use Rattle.std.proofs.lemmas.Slice.{drop-put_mid}
use Rattle.bembed.proofs.room.write_at.Goals as goal

pub returns-clause-kept : goal.returns-clause-kept
returns-clause-kept c =
    drop-put_mid c.args.start (c.args.start + length c.args.bytes.now - c.args.start) c.args.room.now
    c.copy_from_slice.new.self (c.args.start + length c.args.bytes.now) (omega arith) (omega (arith, c.requires)) (search rules)
