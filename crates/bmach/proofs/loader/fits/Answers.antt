use Rattle.std.proofs.Common.{◌≡◌, ◌+◌, suc, map, take, drop, inl, inr, ⊎_elim, sym, ap, ◌∙◌, arith}
use Rattle.std.proofs.lemmas.List.{take_all}
use Rattle.blang.specs.Layout.{data_end, label_count, labels_in, shape_of, size_of}
use Rattle.bmach.specs.Loading.{fits_store}
use Rattle.bmach.proofs.Spots.{data_end-push}
use Rattle.bmach.proofs.Fitting.{fits_if, label_count-push, too_large}
use Rattle.bmach.proofs.Naming.{shapes_more, shapes_split}
use Rattle.bmach.proofs.loader.fits.Goals as goal

pub loop-definition-preserved : goal.loop-definition-preserved
loop-definition-preserved c =
    let i = c.loop-definition.definition-index in
    let ds = c.args.definitions.now in
    let d = c.definition-item.result in
    let before = map shape_of (take i ds) in
    let more = shapes_more ds i d (omega arith) c.definition-item.is in
    record {
      end = omega (arith, ap data_end more, data_end-push before (shape_of d), c.from-end-in-loop-definition.ensures, c.size_of.ensures.value);
      labels = omega (arith, ap label_count more, label_count-push before (shape_of d), c.from-labels.ensures, c.labels_in.ensures.value);
      end_fits = c.if-end-gt-STORE_WORDS.false;
      labels_fit = c.if-labels-gt-MAX_PROGRAM_LABELS.false;
    }

pub returns-then-end-gt-STORE_WORDS : goal.returns-then-end-gt-STORE_WORDS
returns-then-end-gt-STORE_WORDS c =
    let i = c.loop-definition.definition-index in
    let ds = c.args.definitions.now in
    let d = c.definition-item.result in
    let before = map shape_of (take i ds) in
    let end : c.loop-definition.end + c.from-end-in-loop-definition.result ≡ data_end before + size_of (shape_of d) =
    omega (arith, c.from-end-in-loop-definition.ensures, c.size_of.ensures.value, c.loop-definition.invariant.end) in
    let labels : c.loop-definition.labels + c.from-labels.result ≡ label_count before + labels_in (shape_of d).kind =
    omega (arith, c.from-labels.ensures, c.labels_in.ensures.value, c.loop-definition.invariant.labels) in
    sym (ap fits_store (shapes_split ds i d (omega arith) c.definition-item.is) ∙ too_large before (shape_of d) (map shape_of (drop (suc i) ds)) (⊎_elim (λ e. inl (omega (arith, e, end))) (λ e. inr (omega (arith, e.1, labels))) c.then-end-gt-STORE_WORDS.either))

pub returns : goal.returns
returns c =
    let all : map shape_of (take c.loop-definition.definition-index c.args.definitions.now) ≡ map shape_of c.args.definitions.now =
    ap (map shape_of) (take_all c.loop-definition.definition-index c.args.definitions.now c.loop-definition-test.false) in
    sym (fits_if (map shape_of c.args.definitions.now) (omega (arith, ap data_end all)) (omega (arith, ap label_count all)))
