use Rattle.std.proofs.Common.{◌≡◌, ◌≤◌, map, take}
use Rattle.blang.specs.Layout.{data_end, label_count, shape_of}
use Rattle.bmach.proofs.loader.fits.Given as goal

abbrev pub invariant-loop-definition : goal.invariant-loop-definition
invariant-loop-definition l =
    let before = map shape_of (take l.definition-index l.definitions) in
    record {
      end : l.end ≡ data_end before;
      labels : l.labels ≡ label_count before;
      end_fits : l.end ≤ 65536;
      labels_fit : l.labels ≤ 65535;
    }
