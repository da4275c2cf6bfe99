use Rattle.std.proofs.Common.{◌≡◌, ◌∙◌, ◌+◌, ◌++◌, ap, codes, decimal, reverse, sym}
use Rattle.std.specs.Prelude.{option_map}
use Rattle.std.proofs.lemmas.List.{reverse-reverse}
use Rattle.std.proofs.lemmas.Result.{on_ok_weaker}
use Rattle.bmach.specs.Stops.{active_of}
use Rattle.bmach.specs.declared.machine.Active.{Active}
use Rattle.btools.specs.Columns.{instr_text, left, right}
use Rattle.btools.proofs.AddedTexts.{piece}
use Rattle.btools.specs.Functions.{function_with, instr_in, name_in, placed_entry}
use Rattle.btools.specs.ProgramLines.{line_in, lined_entry, lines_with}
use Rattle.btrace.specs.RowTexts.{legend_of, line_text, operands_text, place_line}
use Rattle.btrace.proofs.rows.push_step.Goals as goal

pub returns : goal.returns
returns g c =
    let legend = legend_of c.args.legend.now in
    let call = active_of c.args.stepper.now.call in
    let entry : option_map placed_entry c.entry-entry.result ≡ function_with legend.functions call.strings = c.entry-entry.ensures.function ∙ ap (λ (a : Active). function_with legend.functions a.strings) c.top-call.ensures in
    let lined : option_map lined_entry c.entry-entry.result ≡ lines_with legend.lines call.strings = c.entry-entry.ensures.lines ∙ ap (λ (a : Active). lines_with legend.lines a.strings) c.top-call.ensures in
    let name = c.name_of.ensures ∙ ap name_in entry in
    let line : c.line-line.result ≡ place_line legend call = c.line-line.ensures ∙ (λ i. line_in (lined i) (c.top-call.ensures i).place) in
    let operands : c.operands.result.now ≡ reverse c.args.stepper.now.call.operands = sym (reverse-reverse c.operands.result.now) ∙ ap reverse c.operands.ensures in
    on_ok_weaker c.push-3.result (λ end.
    piece _ _ _ _ _ (piece _ _ _ _ _ (piece _ _ _ _ _ (piece _ _ _ _ _ (piece _ _ _ _ _ (piece _ _ _ _ _ (piece _ _ _ _ _ (piece _ _ _ _ _ c.in_ok-push_right_number.ensures c.in_ok-push.ensures) c.in_ok-push_left.ensures) c.in_ok-push_right_number-2.ensures) c.in_ok-push_line.ensures) c.in_ok-push-2.ensures) c.in_ok-push_instr.ensures) c.in_ok-push_operands.ensures) end
    ∙ (λ i. c.args.text.now ++ (right 8 (decimal (c.args.made + 1)) ++ codes "  " ++ left 8 (name i) ++ right 6 (decimal (c.top-call.ensures i).place) ++ line_text 6 legend.files (line i) ++ codes "  "
    ++ left 12 (instr_text ((c.instr_at.ensures ∙ (λ j. instr_in (entry j) (c.top-call.ensures j).place)) i)) ++ operands_text (operands i) ++ codes "\n"))) c.push-3.ensures
