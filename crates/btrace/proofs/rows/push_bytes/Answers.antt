use Rattle.btrace.proofs.RowParts.{one_byte}
use Rattle.btrace.proofs.rows.push_bytes.Goals as goal

pub loop-byte-preserved : goal.loop-byte-preserved
loop-byte-preserved c = one_byte c.args.text.now c.loop-byte.text c.push_written_byte.new.text c.args.bytes.now c.loop-byte.byte-index c.loop-byte-test.true c.loop-byte.invariant c.in_ok-push_written_byte.ensures
