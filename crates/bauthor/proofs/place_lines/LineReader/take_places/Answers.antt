use Rattle.std.proofs.Common.{◌+◌, ◌-◌, ◌∷◌, [], subst, arith}
use Rattle.bauthor.specs.LineFiles.{Fails, places_from}
use Rattle.bauthor.specs.Readers.{LinesAdvance, lines_by}
use Rattle.bauthor.specs.declared.fault.LineWanted.TheVariants as wanted
use Rattle.bauthor.proofs.Advancing.{one_more, one_stops, places_next}
use Rattle.bauthor.proofs.place_lines.LineReader.take_places.Goals as goal

pub returns-in-Err : goal.returns-in-Err
returns-in-Err c =
    let m = c.args.last in
    let f = c.args.name in
    let n = c.args.places in
    let k = c.loop-place.place in
    one_stops lines_by Fails (places_from m f 0 n) (places_from m f k (n - k)) (places_from m f (k + 1) (n - (k + 1))) (wanted.Number m f k)
    c.args.self.now c.loop-place.self c.in-Err.fault c.loop-place.invariant.on (places_next m f k n c.loop-place-test.true)
    (subst (λ r. LinesAdvance (wanted.Number m f k ∷ []) c.loop-place.self r c.take.new.self) c.in-Err.is c.take.ensures)

pub loop-place-preserved : goal.loop-place-preserved
loop-place-preserved c =
    let m = c.args.last in
    let f = c.args.name in
    let n = c.args.places in
    let k = c.loop-place.place in
    record {
      within = omega (arith, c.loop-place-test.true);
      on = one_more lines_by Fails (places_from m f 0 n) (places_from m f k (n - k)) (places_from m f (k + 1) (n - (k + 1))) (wanted.Number m f k)
          c.args.self.now c.loop-place.self c.take.new.self c.loop-place.invariant.on
          (places_next m f k n c.loop-place-test.true)
          (subst (λ r. LinesAdvance (wanted.Number m f k ∷ []) c.loop-place.self r c.take.new.self) c.in-Ok.is c.take.ensures);
    }
