use Rattle.std.proofs.lemmas.Grind.{common_steps}
use Rattle.std.proofs.Common.{arith, refl, ◌+◌, take, length-take}
use Rattle.std.proofs.KnownBytes.{Keeps-refl}
use Rattle.std.proofs.lemmas.Bool.{false_from_ne_true}
use Rattle.bword.proofs.Fetched.{buffer_gives, fetched_keeps, no_bytes}
use Rattle.bword.proofs.streams.ReadingByteIn.next.Goals as goal
use Rattle.bword.proofs.streams.ReadingByteIn.next.Goals.{then-self+else-self-2+in-Ok, else-self}

pub returns-clause-gives : goal.returns-clause-gives
returns-clause-gives g c = elim c.if-self.branch [
  | then-self+else-self-2+in-Ok w ↦
      let s = c.self.inside in
      let got = w.in-Ok.ensures in
      let some = w.in-Ok.count-test.1 in
      let empty = no_bytes s.at (take s.filled s.buffer) (omega (arith, length-take s.filled s.buffer)) in
      rw (w.self-inside-is, ← c.self.view_is)
      (buffer_gives _ _ _ w.fill.new.buffer 0 w.in-Ok.count (s.fetched + w.in-Ok.count) _ s.failures s.is_over (fetched_keeps _ _ _ _ empty got.2) (omega arith) (omega arith) (omega arith) (omega arith) (omega arith) w.if-self-2.false)
  | else-self w ↦
      let s = c.self.inside in
      let not_over = false_from_ne_true s.is_over (λ o. w.if-self.false (c.self.invariant.3 o).0) in
      rw (w.self-inside-is, ← c.self.view_is)
      (buffer_gives _ _ _ s.buffer s.at s.filled s.fetched _ s.failures s.is_over (Keeps-refl _) (omega arith) (omega arith) (omega arith) (omega arith) refl not_over)
]

pub returns-in-Err-clause-gives : goal.returns-in-Err-clause-gives
returns-in-Err-clause-gives g c = grind (arith, common_steps)
