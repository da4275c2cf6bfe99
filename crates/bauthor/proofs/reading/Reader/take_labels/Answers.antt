use Rattle.std.proofs.Common.{◌+◌, ◌-◌, ◌∷◌, [], subst, arith}
use Rattle.bauthor.specs.NameFiles.{Fails, labels_from}
use Rattle.bauthor.specs.Readers.{Advances, read_by}
use Rattle.bauthor.specs.declared.fault.Wanted.TheVariants as wanted
use Rattle.bauthor.proofs.Advancing.{one_more, one_stops, labels_next}
use Rattle.bauthor.proofs.reading.Reader.take_labels.Goals as goal

pub returns-in-Err : goal.returns-in-Err
returns-in-Err c =
    let f = c.args.function in
    let n = c.args.labels in
    let k = c.loop-label.label in
    one_stops read_by Fails (labels_from f 0 n) (labels_from f k (n - k)) (labels_from f (k + 1) (n - (k + 1))) (wanted.Label f k)
    c.args.self.now c.loop-label.self c.in-Err.fault c.loop-label.invariant.on (labels_next f k n c.loop-label-test.true)
    (subst (λ r. Advances (wanted.Label f k ∷ []) c.loop-label.self r c.take.new.self) c.in-Err.is c.take.ensures)

pub loop-label-preserved : goal.loop-label-preserved
loop-label-preserved c =
    let f = c.args.function in
    let n = c.args.labels in
    let k = c.loop-label.label in
    record {
      within = omega (arith, c.loop-label-test.true);
      on = one_more read_by Fails (labels_from f 0 n) (labels_from f k (n - k)) (labels_from f (k + 1) (n - (k + 1))) (wanted.Label f k)
          c.args.self.now c.loop-label.self c.take.new.self c.loop-label.invariant.on
          (labels_next f k n c.loop-label-test.true)
          (subst (λ r. Advances (wanted.Label f k ∷ []) c.loop-label.self r c.take.new.self) c.in-Ok.is c.take.ensures);
    }
