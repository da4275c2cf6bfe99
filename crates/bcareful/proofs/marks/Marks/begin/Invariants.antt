use Rattle.std.proofs.Common.{◌≡◌}
use Rattle.bcareful.specs.Marks.{above, begun, marks_of}
use Rattle.bcareful.proofs.marks.Marks.begin.Given as goal

-- the words of the frame so far are marked
abbrev pub invariant-loop-offset : goal.invariant-loop-offset
invariant-loop-offset l =
    marks_of l.self
    ≡ record {
      operands = l.fn.self.operands.items;
      words = begun l.call.parameters (above l.arguments l.fn.self.operands.items) l.call.start l.offset l.fn.self.words.items;
      calls = l.fn.self.calls.items;
      next = l.fn.self.next;
    }
