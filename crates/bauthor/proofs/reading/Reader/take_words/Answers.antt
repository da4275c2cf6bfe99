use Rattle.std.proofs.Common.{◌+◌, ◌-◌, ◌∷◌, [], subst, arith}
use Rattle.bauthor.specs.NameFiles.{Fails, words_from}
use Rattle.bauthor.specs.Readers.{Advances, read_by}
use Rattle.bauthor.specs.declared.fault.Wanted.TheVariants as wanted
use Rattle.bauthor.proofs.Advancing.{one_more, one_stops, words_next}
use Rattle.bauthor.proofs.reading.Reader.take_words.Goals as goal

pub returns-in-Err : goal.returns-in-Err
returns-in-Err c =
    let f = c.args.function in
    let n = c.args.frame in
    let k = c.loop-word.word in
    one_stops read_by Fails (words_from f 0 n) (words_from f k (n - k)) (words_from f (k + 1) (n - (k + 1))) (wanted.Word f k)
    c.args.self.now c.loop-word.self c.in-Err.fault c.loop-word.invariant.on (words_next f k n c.loop-word-test.true)
    (subst (λ r. Advances (wanted.Word f k ∷ []) c.loop-word.self r c.take.new.self) c.in-Err.is c.take.ensures)

pub loop-word-preserved : goal.loop-word-preserved
loop-word-preserved c =
    let f = c.args.function in
    let n = c.args.frame in
    let k = c.loop-word.word in
    record {
      within = omega (arith, c.loop-word-test.true);
      on = one_more read_by Fails (words_from f 0 n) (words_from f k (n - k)) (words_from f (k + 1) (n - (k + 1))) (wanted.Word f k)
          c.args.self.now c.loop-word.self c.take.new.self c.loop-word.invariant.on
          (words_next f k n c.loop-word-test.true)
          (subst (λ r. Advances (wanted.Word f k ∷ []) c.loop-word.self r c.take.new.self) c.in-Ok.is c.take.ensures);
    }
