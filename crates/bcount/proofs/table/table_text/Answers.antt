use Rattle.std.proofs.Common.{◌≡◌, ◌∙◌, ◌+◌, ◌-◌, ◌++◌, ◌==◌, List, ℕ, [], ap, append-nil, arith, get_or, length, sym}
use Rattle.std.specs.List.{flat_map, list_any, range_with_len}
use Rattle.bsources.specs.Files.{files_shown}
use Rattle.bcount.specs.Marks.{is_marked, no_code}
use Rattle.btools.specs.SourceLines.{source_lines}
use Rattle.bcount.specs.Tables.{heading_of, hint_of, none_text, row_after, row_text, total_of}
use Rattle.bcount.specs.declared.marks.MarkedLine.{MarkedLine}
use Rattle.bcount.proofs.Rows.{one_row, rest_first, rest_next}
use Rattle.bcount.proofs.table.table_text.Goals as goal

pub loop-index-init : goal.loop-index-init
loop-index-init c =
    let t = c.args.table.now in
    let heading = heading_of t.style in
    record {
      rows = c.in_ok-push_heading.ensures ∙ ap (λ (old : List ℕ). old ++ heading) c.new-text.ensures ∙ sym (append-nil heading);
      rest = λ k. ap (λ n. get_or (source_lines t.source.now) n []) (let all : 0 + k ≡ k = omega arith in all);
    }

pub loop-index-preserved : goal.loop-index-preserved
loop-index-preserved c =
    let t = c.args.table.now in
    let files = files_shown t.files in
    let lines = t.lines.now in
    let source = t.source.now in
    let index = c.loop-index.index in
    let rest = c.loop-index.rest.now in
    let marked = c.is_marked-is_marked.ensures ∙ ap (λ (ms : List MarkedLine). list_any (λ m. m.index == index) ms) (c.as_slice.ensures.value ∙ c.in_ok-marks.ensures) in
    let bytes = c.split_line.ensures.line ∙ sym (rest_first source rest index c.loop-index.invariant.rest) in
    record {
      rows = one_row (row_after t.style files source lines) (heading_of t.style) c.loop-index.text c.push_row.new.text index c.loop-index.invariant.rows
          (c.in_ok-push_row.ensures ∙ (λ i. c.loop-index.text ++ row_text t.style files (index + 1) (get_or lines index no_code) (marked i) (bytes i)));
      rest = rest_next source rest c.split_line.result.1.now index c.loop-index.invariant.rest c.split_line.ensures.after;
    }

pub returns : goal.returns
returns c =
    let t = c.args.table.now in
    let files = files_shown t.files in
    let lines = t.lines.now in
    let last = c.saturating_sub-last.result in
    let less : last ≡ length lines - 1 = c.saturating_sub-last.ensures in
    let all : c.loop-index.index ≡ length lines - 1 = omega (arith, c.loop-index-test.false, c.loop-index.auto.index-end, less) in
    let is : c.is_marked-is_marked-2.result ≡ is_marked lines (length lines - 1)
    = c.is_marked-is_marked-2.ensures ∙ ap (λ (ms : List MarkedLine). list_any (λ m. m.index == last) ms) (c.as_slice-2.ensures.value ∙ c.in_ok-marks.ensures)
    ∙ ap (is_marked lines) less in
    let total = total_of t.style t.made in
    let none = none_text t.style (is_marked lines (length lines - 1)) (get_or lines (length lines - 1) no_code) in
    let noned = c.in_ok-push_none.ensures ∙ (λ i. c.loop-index.invariant.rows i ++ none_text t.style (is i) (c.last_of.ensures i)) in
    let before = c.in_ok-push_total.ensures ∙ ap (λ (t0 : List ℕ). t0 ++ total) noned in
    c.in_ok-push_hint.ensures ∙ ap (λ (t0 : List ℕ). t0 ++ hint_of t.style t.is_b lines) before
    ∙ ap (λ n. heading_of t.style ++ flat_map (row_after t.style files t.source.now lines) (range_with_len 0 n) ++ none ++ total ++ hint_of t.style t.is_b lines) all
