use Rattle.std.proofs.Common.{◌∙◌, ◌≤◌, ◌+◌, ◌++◌, List, ap, arith, map, subst, sym, take}
use Rattle.blang.specs.Layout.{data_end, shape_of}
use Rattle.blang.specs.declared.code.Definition.{Definition}
use Rattle.btools.specs.ProgramLines.{lined_functions}
use Rattle.btools.proofs.Functions.{ends_within, next_end}
use Rattle.btools.proofs.ProgramLines.{left_next}
use Rattle.bhost.specs.FoundFunctions.{columned_found, function_in, lined_found, lines_in, placed_found}
use Rattle.bhost.proofs.FindingFunctions.{found_more, functions_more, lines_more}
use Rattle.bhost.proofs.found.function_at.Goals as goal

pub function_in-requires : goal.function_in-requires
function_in-requires c =
    let ds = c.deref-definition-items.result.now in
    let fit : data_end (map shape_of ds) ≤ 65536 = subst (λ (xs : List Definition). data_end (map shape_of xs) ≤ 65536) (sym c.deref-definition-items.ensures.value) c.requires in
    omega (arith, c.loop-definition.invariant.address, ends_within ds c.loop-definition.definition-index)

pub overflow_add-address : goal.overflow_add-address
overflow_add-address c =
    let ds = c.deref-definition-items.result.now in
    let i = c.loop-definition.definition-index in
    let fit : data_end (map shape_of ds) ≤ 65536 = subst (λ (xs : List Definition). data_end (map shape_of xs) ≤ 65536) (sym c.deref-definition-items.ensures.value) c.requires in
    omega (arith, next_end ds i c.definition-item.result c.loop-definition-test.true c.definition-item.is c.loop-definition.address c.from-address-in-loop-definition.result c.loop-definition.invariant.address (c.from-address-in-loop-definition.ensures ∙ c.size_of.ensures.value), ends_within ds (i + 1))

pub loop-definition-preserved : goal.loop-definition-preserved
loop-definition-preserved c =
    let ds = c.deref-definition-items.result.now in
    let i = c.loop-definition.definition-index in
    let d = c.definition-item.result in
    let lt = c.loop-definition-test.true in
    let is = c.definition-item.is in
    let before = c.loop-definition.invariant in
    let address = c.loop-definition.address in
    let more = c.from-address-in-loop-definition.ensures ∙ c.size_of.ensures.value in
    let all = c.args.program.now.names.lines.items in
    let columns = c.args.program.now.columns.items in
    let left = c.loop-definition.lines.now in
    let left_columns = c.loop-definition.columns.now in
    record {
      address = next_end ds i d lt is address c.from-address-in-loop-definition.result before.address more;
      function = found_more placed_found _ c.loop-definition.found c.function_in.result c.or-found.result _ (function_in d address) _
          before.function c.function_in.ensures.function c.or-found.ensures (functions_more ds i d lt is address before.address);
      lines = found_more lined_found _ c.loop-definition.found c.function_in.result c.or-found.result _ (lines_in d address c.split_lines.result.0.now) _
          before.lines c.function_in.ensures.lines c.or-found.ensures
          (lines_more ds i d lt is address before.address all left before.left
          ∙ ap (λ own. lined_functions (take i ds) all ++ lines_in d address own) (sym c.split_lines.ensures.own));
      left = left_next ds all i d lt is left c.split_lines.result.1.now before.left c.split_lines.ensures.later;
      columns = found_more columned_found _ c.loop-definition.found c.function_in.result c.or-found.result _ (lines_in d address c.split_lines-in-loop-definition.result.0.now) _
          before.columns c.function_in.ensures.columns c.or-found.ensures
          (lines_more ds i d lt is address before.address columns left_columns before.columns_left
          ∙ ap (λ own. lined_functions (take i ds) columns ++ lines_in d address own) (sym c.split_lines-in-loop-definition.ensures.own));
      columns_left = left_next ds columns i d lt is left_columns c.split_lines-in-loop-definition.result.1.now before.columns_left c.split_lines-in-loop-definition.ensures.later;
    }
