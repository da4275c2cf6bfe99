use Rattle.std.proofs.Common.{◌≡◌, ◌∙◌, List, ap, arith, get_or, length, map, refl, take}
use Rattle.std.specs.List.{range_with_len}
use Rattle.std.proofs.lemmas.List.{take_all}
use Rattle.std.proofs.lemmas.List.FromFn.{length-map-range_with_len}
use Rattle.bcount.specs.Counts.{line_count}
use Rattle.bcount.specs.declared.lines.Counted.{Counted}
use Rattle.bcount.proofs.LineSums.{next_line, no_lines}
use Rattle.bcount.proofs.lines.lines_of.Goals as goal

pub loop-instruction-init : goal.loop-instruction-init
loop-instruction-init c = c.in_ok-lines.ensures ∙ no_lines 1 c.args.rows

pub loop-instruction-preserved : goal.loop-instruction-preserved
loop-instruction-preserved c =
    let counted = c.args.counted.now in
    let i = c.loop-instruction.instruction-index in
    let d : Counted = record { line = 0; count = 0 } in
    next_line counted i (get_or counted i d) d c.args.rows c.loop-instruction.lines.items c.add.new.lines.items c.loop-instruction-test.true refl (c.requires i d c.loop-instruction-test.true) c.loop-instruction.invariant c.add.ensures

pub add-requires : goal.add-requires
add-requires c =
    let i = c.loop-instruction.instruction-index in
    let d : Counted = record { line = 0; count = 0 } in
    let on = c.requires i d c.loop-instruction-test.true in
    let long : length c.loop-instruction.lines.items ≡ c.args.rows = ap length c.loop-instruction.invariant ∙ length-map-range_with_len (line_count (take i c.args.counted.now)) 1 c.args.rows in
    (on.0, omega (arith, on.1, long))

pub returns : goal.returns
returns c =
    c.loop-instruction.invariant
    ∙ ap (λ (cs : List Counted). map (line_count cs) (range_with_len 1 c.args.rows)) (take_all c.loop-instruction.instruction-index c.args.counted.now c.loop-instruction-test.false)
