use Rattle.std.proofs.Common.{◌≡◌, ◌≤◌, take, drop}
use Rattle.bword.specs.ByteEnds.{TakesReady}
use Rattle.bword.proofs.ends.ByteIn.take.Given as goal

abbrev pub invariant-loop : goal.invariant-loop
invariant-loop g l =
    let ready = g.Self.ByteIn.ready l.initial.self in
    record {
      takes : TakesReady (g.Self.ByteIn.incoming l.initial.self) (take l.counter ready) (g.Self.ByteIn.incoming l.self);
      same : g.Self.ByteIn.lender l.self ≡ g.Self.ByteIn.lender l.initial.self;
      rest : g.Self.ByteIn.ready l.self ≡ drop l.counter ready;
      within : l.counter ≤ l.count;
    }
