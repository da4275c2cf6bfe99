use Rattle.std.proofs.Common.{◌≡◌, ℕ, ◌%◌, List, [], map, take, None}
use Rattle.blang.specs.Layout.{address_in, data_end, duplicate_after, defined_names, shape_of}
use Rattle.bmach.proofs.Spots.{wrapped}
use Rattle.bmach.proofs.addresses.addresses_of.Given as goal

-- no name so far stands twice, each has its address, and so has the next one
abbrev pub invariant-loop-definition : goal.invariant-loop-definition
invariant-loop-definition l =
    let before = map shape_of (take l.definition-index l.definitions) in
    record {
      no_duplicate : duplicate_after [] (defined_names before) ≡ None;
      known : (x : List ℕ) → address_in l.addresses x ≡ address_in (wrapped before) x;
      address : l.address ≡ data_end before % 65536;
    }
