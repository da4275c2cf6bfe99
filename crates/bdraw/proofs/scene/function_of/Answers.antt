use Rattle.std.proofs.Common.{◌∙◌, ◌<◌, Some, ap, arith, length, sym}
use Rattle.std.proofs.lemmas.List.{get_or_default}
use Rattle.btools.proofs.Finding.{other_number}
use Rattle.btools.specs.FrameNames.{frame_seen}
use Rattle.btools.specs.Functions.{placed_entry}
use Rattle.bdraw.proofs.CallsDrawn.{all_missed, first_with, found, missed}
use Rattle.bdraw.proofs.scene.function_of.Goals as goal

pub returns-then-entries-number : goal.returns-then-entries-number
returns-then-entries-number c =
    let s = c.args.strings in
    let es = c.entries-entries.result.now in
    let fs = c.args.frames.now in
    let i = c.loop-number.number in
    let e = c.index-entries-number-then-entries-number in
    let f = c.index-frames-number in
    let within : (i < length es) × (i < length fs) = (omega (arith, c.loop-number-test.true, c.min-number-end.ensures), omega (arith, c.loop-number-test.true, c.min-number-end.ensures)) in
    let same = e.is ∙ get_or_default es i e.result c.index-entries-number.result within.0 in
    (λ k. Some (placed_entry (same k), frame_seen (f.is k)))
    ∙ sym (found s es fs i c.index-entries-number.result f.result within.0 within.1 c.loop-number.invariant c.if-entries-number.true)
    ∙ ap (λ xs. first_with s xs fs) c.entries-entries.ensures

pub loop-number-preserved : goal.loop-number-preserved
loop-number-preserved c =
    let es = c.entries-entries.result.now in
    let fs = c.args.frames.now in
    let i = c.loop-number.number in
    let within : (i < length es) × (i < length fs) = (omega (arith, c.loop-number-test.true, c.min-number-end.ensures), omega (arith, c.loop-number-test.true, c.min-number-end.ensures)) in
    missed c.args.strings es fs i c.index-entries-number.result within.0 within.1 c.loop-number.invariant (other_number _ _ c.if-entries-number.false)

pub returns : goal.returns
returns c =
    let s = c.args.strings in
    let es = c.entries-entries.result.now in
    let fs = c.args.frames.now in
    sym c.loop-number.invariant
    ∙ all_missed s es fs c.loop-number.number (omega (arith, c.loop-number-test.false, c.min-number-end.ensures))
    ∙ ap (λ xs. first_with s xs fs) c.entries-entries.ensures
