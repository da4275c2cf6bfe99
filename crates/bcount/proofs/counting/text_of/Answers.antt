use Rattle.std.proofs.Common.{◌∙◌, ◌+◌, ◌<◌, ℕ, List, ap, subst, sym}
use Rattle.std.proofs.lemmas.Result.{IfOk-weaker}
use Rattle.std.specs.List.{All}
use Rattle.bsources.specs.Files.{files_shown}
use Rattle.btools.specs.ProgramLines.{lines_shown}
use Rattle.bcount.specs.declared.lines.Counted.{Counted}
use Rattle.bcount.specs.Counts.{counted_of, line_counts}
use Rattle.bcount.specs.SourceLines.{IsOnLines}
use Rattle.bcount.specs.Tables.{table_text}
use Rattle.bcount.specs.Tallies.{tallies_of}
use Rattle.bcount.proofs.OnLines.{all_on, two_rows}
use Rattle.bcount.proofs.counting.text_of.Goals as goal

pub lines_of-requires : goal.lines_of-requires
lines_of-requires c =
    let rows = c.last_line-rows.result + 1 in
    subst (All (IsOnLines rows)) (sym (c.as_slice.ensures.value ∙ c.in_ok-counted.ensures)) (all_on rows (lines_shown c.args.tables.now) (tallies_of c.args.tallies.now) (subst (λ (n : ℕ). 1 < n + 1) (sym c.last_line-rows.ensures) (two_rows c.args.source.now)))

pub returns : goal.returns
returns c =
    let source = c.args.source.now in
    let asked = c.args.counting in
    let fs = lines_shown c.args.tables.now in
    let tallies = tallies_of c.args.tallies.now in
    let rows = ap (λ n. n + 1) c.last_line-rows.ensures in
    let lines = c.as_slice-2.ensures.value ∙ c.in_ok-lines.ensures ∙ ap (λ (cs : List Counted). line_counts cs (c.last_line-rows.result + 1)) (c.as_slice.ensures.value ∙ c.in_ok-counted.ensures)
    ∙ (λ i. line_counts (counted_of (rows i) fs tallies) (rows i)) in
    IfOk-weaker c.table_text.result _ _ (λ text is. is ∙ (λ i. table_text asked.style (c.is_source.ensures i) (files_shown asked.files) source (lines i) c.args.made)) c.table_text.ensures
