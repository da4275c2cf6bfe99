use Rattle.std.proofs.Common.{◌∙◌, ◌<◌, ◌≤◌, ◌++◌, ℕ, Global, List, Vec, ap, append-nil, arith, length, map, sym}
use Rattle.std.specs.List.{slice_get}
use Rattle.std.specs.Prelude.{Option, option_map}
use Rattle.std.proofs.lemmas.List.{drop_all, get_or-map, length-map}
use Rattle.btools.specs.ProgramLines.{FunctionLines, lined_entry, lines_shown}
use Rattle.btools.specs.declared.tables.FunctionEntry.{FunctionEntry}
use Rattle.bcount.specs.Counts.{counted_in, counted_of}
use Rattle.bcount.specs.Tallies.{tallies_of}
use Rattle.bcount.specs.declared.lines.Counted.{Counted}
use Rattle.bcount.proofs.OnLines.{entry_lines, from_function, function_more}
use Rattle.bcount.proofs.lines.counted_of.Goals as goal

pub loop-number-init : goal.loop-number-init
loop-number-init c = ap (λ (items : List Counted). items ++ counted_of c.args.rows (lines_shown c.args.tables.now) (tallies_of c.args.tallies.now)) (sym c.new-counted.ensures.items)

pub loop-number-preserved : goal.loop-number-preserved
loop-number-preserved c =
    let items = λ (v : Vec ℕ Global). v.items in
    let all = c.args.tallies.now.counts in
    let fs = lines_shown c.args.tables.now in
    let number = c.loop-number.number in
    let counts = c.as_slice-counts.result.now in
    let within : number < length all.items = omega (arith, c.loop-number-test.true, c.len-number-end.ensures, all.ok.0) in
    let lines = ap (option_map lined_entry) c.copied-entry.ensures ∙ entry_lines c.get.result c.entries-entries.result.now number c.get.ensures.lookup.3
    ∙ ap (λ (es : List FunctionEntry). slice_get (map lined_entry es) number) c.entries-entries.ensures in
    function_more c.args.rows fs (map items all.items) number counts _ c.loop-number.counted.items c.push_function.new.counted.items (omega (arith, within, length-map all.items items))
    (c.as_slice-counts.ensures.value ∙ ap items c.index.ensures ∙ sym (get_or-map items all.items number _ counts within)) c.loop-number.invariant
    (c.in_ok-push_function.ensures ∙ ap (λ (f : Option FunctionLines). c.loop-number.counted.items ++ counted_in c.args.rows f counts) lines)

pub returns : goal.returns
returns c =
    let items = λ (v : Vec ℕ Global). v.items in
    let all = c.args.tallies.now.counts in
    let number = c.loop-number.number in
    let over : length (map items all.items) ≤ number = omega (arith, c.loop-number-test.false, c.len-number-end.ensures, all.ok.0, length-map all.items items) in
    sym (c.loop-number.invariant ∙ ap (λ (ts : List (List ℕ)). c.loop-number.counted.items ++ from_function c.args.rows (lines_shown c.args.tables.now) number ts) (drop_all number (map items all.items) over) ∙ append-nil c.loop-number.counted.items)
