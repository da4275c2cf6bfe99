use Rattle.std.proofs.Common.{◌≡◌, ◌++◌, codes, reverse}
use Rattle.std.specs.List.{flat_map}
use Rattle.bshow.specs.Facts.{call_text}
use Rattle.bshow.proofs.facts.push_calls.Given as goal

-- what is there, with the calls that are left
abbrev pub invariant-loop-call : goal.invariant-loop-call
invariant-loop-call l =
    l.text ++ flat_map call_text (reverse l.call-iterator.iter.rest.now) ≡ (l.fn.text ++ codes "[") ++ flat_map call_text (reverse l.calls)
