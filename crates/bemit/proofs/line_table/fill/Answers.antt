use Rattle.std.proofs.Common.{◌∙◌, ◌<◌, ◌≤◌, length, arith, ap, sym}
use Rattle.bemit.specs.Trails.{padded}
use Rattle.bemit.proofs.LineLemmas.{padded_more, padded_full}
use Rattle.bemit.proofs.line_table.fill.Goals as goal

pub loop-lines-preserved : goal.loop-lines-preserved
loop-lines-preserved c =
    let short : length c.loop-lines.lines.items < c.args.count = omega (arith, c.loop-lines-test.true, c.len.ensures.value) in
    ap (padded c.args.count c.args.line) c.push.ensures.items ∙ padded_more c.args.count c.args.line c.loop-lines.lines.items short ∙ c.loop-lines.invariant

pub returns : goal.returns
returns c =
    let long : c.args.count ≤ length c.loop-lines.lines.items = omega (arith, c.loop-lines-test.false, c.len.ensures.value) in
    sym (padded_full c.args.count c.args.line c.loop-lines.lines.items long) ∙ c.loop-lines.invariant
