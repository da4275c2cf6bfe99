use Rattle.std.proofs.Common.{◌+◌, Ok, drop}
use Rattle.blang.specs.Machine.{at_place, with_operand}
use Rattle.bmach.specs.Steps.{machine_call, world_with}
use Rattle.bmach.specs.Turns.{reading, running, writing}
use Rattle.blang.specs.Layout.{character_bytes}
use Rattle.bmach.proofs.Turning.{turn_exchange, turn_broken}
use Rattle.bmach.proofs.exchange.exchange.Goals as goal

pub returns-in-Ok-clause-gives : goal.returns-in-Ok-clause-gives
returns-in-Ok-clause-gives g c image below store came =
    let call = c.args.call.now in
    let following = at_place (machine_call call) (call.place + 1) (drop (c.args.count + 1) call.operands.own) in
    let led = rw c.in-Reads.is at came in
    rw c.replace.ensures.own
    (turn_exchange image (running (machine_call call) below store) (reading following below store) (running (with_operand following c.in-Ok.word) below store) _ _ _ _ (Ok _)
    (λ left before. led (world_with store left before))
    (c.in-Ok.ensures.gives following below store _))

pub returns-in-Err-clause-gives : goal.returns-in-Err-clause-gives
returns-in-Err-clause-gives g c image below store came =
    let call = c.args.call.now in
    let following = at_place (machine_call call) (call.place + 1) (drop (c.args.count + 1) call.operands.own) in
    let led = rw c.in-Reads.is at came in
    turn_broken image (running (machine_call call) below store) (reading following below store) (reading following below store) (running (machine_call call) below store)
    (g.I.ByteIn.incoming c.args.input.now) (g.I.ByteIn.incoming c.next_word.new.input) (g.O.ByteOut.outgoing c.args.out.now) (g.O.ByteOut.outgoing c.args.out.now) c.in-Err.outcome
    (λ left before. led (world_with store left before))
    (c.in-Err.ensures.gives following below store (g.O.ByteOut.outgoing c.args.out.now))

pub returns-in-Ok-write_word-clause-gives : goal.returns-in-Ok-write_word-clause-gives
returns-in-Ok-write_word-clause-gives g c image below store came =
    let call = c.args.call.now in
    let following = at_place (machine_call call) (call.place + 1) (drop (c.args.count + 1) call.operands.own) in
    let led = rw c.in-WritesCharacter.is at came in
    let character = c.in-WritesCharacter.character in
    rw c.replace-in-Ok-write_word.ensures.own
    (turn_exchange image (running (machine_call call) below store) (writing following character (character_bytes character) below store) (running (with_operand following character) below store) _ _ _ _ (Ok _)
    (λ left before. led (world_with store left before))
    (c.in-Ok-write_word.ensures.gives following character below store _))

pub returns-in-Err-write_word-clause-gives : goal.returns-in-Err-write_word-clause-gives
returns-in-Err-write_word-clause-gives g c image below store came =
    let call = c.args.call.now in
    let following = at_place (machine_call call) (call.place + 1) (drop (c.args.count + 1) call.operands.own) in
    let led = rw c.in-WritesCharacter.is at came in
    let character = c.in-WritesCharacter.character in
    turn_broken image (running (machine_call call) below store) (writing following character (character_bytes character) below store) (running (with_operand following character) below store) (running (machine_call call) below store)
    (g.I.ByteIn.incoming c.args.input.now) (g.I.ByteIn.incoming c.args.input.now) (g.O.ByteOut.outgoing c.args.out.now) (g.O.ByteOut.outgoing c.write_word.new.out) c.in-Err-write_word.outcome
    (λ left before. led (world_with store left before))
    (c.in-Err-write_word.ensures.gives following character below store (g.I.ByteIn.incoming c.args.input.now))
