use Rattle.std.proofs.Common.{◌≡◌, ◌≤◌, ◌+◌, min, length, arith, sym, ap, ◌∙◌}
use Rattle.std.specs.List.{count_by}
use Rattle.bword.specs.ByteEnds.{most}
use Rattle.memchr.specs.Find.{is_byte}
use Rattle.memchr.proofs.lemmas.CallerLemmas.{length-places}
use Rattle.blex.proofs.BlockSteps.{line_number_after-count}
use Rattle.blex.proofs.source.line_number_after.Goals as goal

pub returns : goal.returns
returns c =
    let count : c.count.result ≡ count_by (is_byte 10) c.args.bytes.now = c.count.ensures ∙ ap length c.memchr_iter.ensures.value ∙ length-places (is_byte 10) c.args.bytes.now in
    let small : c.args.line ≤ most = omega arith in
    c.saturating_add.ensures ∙ ap (λ n. min (c.args.line + n) most) count ∙ sym (line_number_after-count c.args.line c.args.bytes.now small)
