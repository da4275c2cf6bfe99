use Rattle.std.proofs.Common.{◌≡◌, ◌∙◌, ◌+◌, ◌++◌, ℕ, List, ap, codes, reverse, sym}
use Rattle.std.specs.Prelude.{option_map}
use Rattle.std.proofs.lemmas.List.{reverse-reverse}
use Rattle.std.proofs.lemmas.Result.{on_ok_weaker}
use Rattle.btools.proofs.AddedTexts.{piece}
use Rattle.btools.specs.Functions.{entries_of, function_with, instr_in, name_in, placed_entry}
use Rattle.btools.specs.ProgramLines.{line_in}
use Rattle.btools.specs.Columns.{instr_text}
use Rattle.bshow.specs.Rows.{number_cell, text_cell, words_cell}
use Rattle.bshow.proofs.seen.SeenStep.push_call.Goals as goal

pub returns : goal.returns
returns c =
    let step = c.args.self.now in
    let call = step.call in
    let fs = entries_of c.args.tables.now in
    let entry : option_map placed_entry c.entry-entry.result ≡ function_with fs call.strings = c.entry-entry.ensures.function in
    let name = c.name_of.ensures ∙ ap name_in entry in
    let line = c.line-line.ensures ∙ (λ j. line_in (c.entry-entry.ensures.lines j) call.place) in
    let operands : c.as_slice.result.now ≡ reverse (reverse step.operands.items) = c.as_slice.ensures.value ∙ sym (reverse-reverse step.operands.items) in
    let t0 = c.args.text.now in
    let a0 : List ℕ = codes "<tr>" in
    let a1 : List ℕ = number_cell (step.made + 1) in
    let a2 : List ℕ = text_cell c.name_of.result.now in
    let a3 : List ℕ = number_cell call.place in
    let a4 : List ℕ = number_cell c.line-line.result in
    let a5 : List ℕ = text_cell (instr_text c.instr_at.result) in
    let a6 : List ℕ = words_cell c.as_slice.result.now in
    let a7 : List ℕ = number_cell step.below in
    let a8 : List ℕ = number_cell c.from.result in
    let p1 = piece t0 c.push.new.self c.push_step_cell.new.text a0 a1 c.in_ok-push.ensures c.in_ok-push_step_cell.ensures in
    let p2 = piece t0 c.push_step_cell.new.text c.push_text_cell.new.text (a0 ++ a1) a2 p1 c.in_ok-push_text_cell.ensures in
    let p3 = piece t0 c.push_text_cell.new.text c.push_number_cell.new.text (a0 ++ a1 ++ a2) a3 p2 c.in_ok-push_number_cell.ensures in
    let p4 = piece t0 c.push_number_cell.new.text c.push_number_cell-2.new.text (a0 ++ a1 ++ a2 ++ a3) a4 p3 c.in_ok-push_number_cell-2.ensures in
    let p5 = piece t0 c.push_number_cell-2.new.text c.push_code_cell.new.text (a0 ++ a1 ++ a2 ++ a3 ++ a4) a5 p4 c.in_ok-push_code_cell.ensures in
    let p6 = piece t0 c.push_code_cell.new.text c.push_words_cell.new.text (a0 ++ a1 ++ a2 ++ a3 ++ a4 ++ a5) a6 p5 c.in_ok-push_words_cell.ensures in
    let p7 = piece t0 c.push_words_cell.new.text c.push_number_cell-3.new.text (a0 ++ a1 ++ a2 ++ a3 ++ a4 ++ a5 ++ a6) a7 p6 c.in_ok-push_number_cell-3.ensures in
    on_ok_weaker c.push_number_cell-4.result (λ end.
    piece t0 c.push_number_cell-3.new.text c.push_number_cell-4.new.text (a0 ++ a1 ++ a2 ++ a3 ++ a4 ++ a5 ++ a6 ++ a7) a8 p7 end
    ∙ (λ i. t0 ++ (a0 ++ a1 ++ text_cell (name i) ++ a3 ++ number_cell (line i)
    ++ text_cell (instr_text ((c.instr_at.ensures ∙ (λ j. instr_in (entry j) call.place)) i)) ++ words_cell (operands i) ++ a7 ++ number_cell (c.from.ensures i)))) c.push_number_cell-4.ensures
