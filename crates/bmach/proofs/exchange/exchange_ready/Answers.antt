use Rattle.std.proofs.Common.{◌+◌, drop}
use Rattle.blang.specs.Layout.{character_bytes}
use Rattle.blang.specs.Machine.{at_place}
use Rattle.bmach.specs.Steps.{machine_call, world_with}
use Rattle.bmach.specs.Turns.{running}
use Rattle.bmach.proofs.Readying.{reads_ready, writes_ready}
use Rattle.bmach.proofs.exchange.exchange_ready.Goals as goal
use Rattle.bmach.proofs.exchange.exchange_ready.Goals.{in-Reads+in-Some, in-WritesCharacter+else-not-put}

pub returns-clause-gives : goal.returns-clause-gives
returns-clause-gives c image below store came =
    let call = c.args.call.now in
    let old = running (machine_call call) below store in
    let following = at_place (machine_call call) (call.place + 1) (drop (c.args.count + 1) call.operands.own) in
    rw c.replace.ensures.own
    (elim c.match-flow.branch [
      | in-Reads+in-Some w ↦
          let led = rw w.in-Reads.is at came in
          let gives = rw w.in-Some.is at w.next.ensures in
          rw (w.word-is, w.from.ensures, w.ready-is)
          (reads_ready image old following below store c.args.ready.now w.next.new.self w.in-Some.byte
          (λ left before. led (world_with store left before)) gives.gives.0 gives.gives.1)
      | in-WritesCharacter+else-not-put w ↦
          let led = rw w.in-WritesCharacter.is at came in
          let character = w.in-WritesCharacter.character in
          rw (w.word-is, w.ready-is)
          (writes_ready image old following below store c.args.ready.now w.put.new.self character (character_bytes character)
          (λ left before. led (world_with store left before))
          (rw w.if-not-put.false at w.put.ensures))
    ])
