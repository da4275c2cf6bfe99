use Rattle.std.proofs.Common.{◌≡◌, ◌-◌, ◌≤◌, take, drop, length, arith, length-take-le, length-drop}
use Rattle.std.proofs.lemmas.List.{drop-drop}
use Rattle.bword.proofs.Fetched.{buffer_takes, no_bytes}
use Rattle.bword.proofs.streams.ReadingByteIn.take.Goals as goal

pub returns-clause-takes : goal.returns-clause-takes
returns-clause-takes g c =
    let s = c.self.inside in
    let bytes = take s.filled s.buffer in
    let n : length bytes ≡ s.filled = length-take-le s.filled s.buffer (omega arith) in
    let within : c.args.count ≤ length (drop s.at bytes) = rw (← c.self.view_is) at c.requires in
    let rest : length (drop s.at bytes) ≡ length bytes - s.at = length-drop s.at bytes in
    rw (← c.self.view_is, ← drop-drop c.args.count s.at bytes)
    (buffer_takes (drop s.at bytes) _ s.is_over s.failures _ _ c.args.count within (omega arith) (omega arith) (λ o. no_bytes s.at bytes (omega (arith, (c.self.invariant.3 o).0))))
