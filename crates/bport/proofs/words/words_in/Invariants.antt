use Rattle.std.proofs.Common.{◌≡◌, [], drop}
use Rattle.bport.specs.Words.{words_on}
use Rattle.bport.proofs.words.words_in.Given as goal

abbrev pub invariant-loop-byte : goal.invariant-loop-byte
invariant-loop-byte l =
    words_on l.is_counted l.depth l.count l.word.items (drop l.byte-index l.bytes)
    ≡ words_on l.is_counted 0 0 [] l.bytes
