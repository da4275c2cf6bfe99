use Rattle.std.proofs.Common.{◌≡◌, ◌++◌, drop, map, true}
use Rattle.std.specs.Prelude.{string_bytes}
use Rattle.bcommand.specs.CommandLine.{full_words}
use Rattle.bcommand.proofs.words.full_words.Given as goal

-- the words so far and those to come are all
abbrev pub invariant-loop-word : goal.invariant-loop-word
invariant-loop-word l =
    map (λ w. w.now) l.full.items ++ full_words l.is_option (map string_bytes (drop l.word-index l.words))
    ≡ full_words true (map string_bytes l.words)
