use Rattle.std.proofs.Common.{◌∙◌, ◌+◌, ◌≤◌, ◌<◌, List, [], ◌∷◌, ◌++◌, ap, arith, map, refl, subst, sym}
use Rattle.std.proofs.lemmas.List.{map-append}
use Rattle.blang.specs.Layout.{data_end, shape_of}
use Rattle.blang.specs.declared.code.Definition.{Definition}
use Rattle.btools.specs.Functions.{placed_entry}
use Rattle.btools.proofs.Searching.{Ascend, further, one_more, some_word}
use Rattle.btools.proofs.Functions.{ends_within, next_end, with_function, with_other}
use Rattle.btools.specs.ProgramLines.{columned_entry, lined_entry}
use Rattle.btools.proofs.ProgramLines.{left_next, lined_function_more, lined_other}
use Rattle.btools.proofs.tables.Tables.new.Goals.{in-Function+in_ok-push, in_default}
use Rattle.btools.proofs.tables.Tables.new.Goals as goal

pub overflow_add-strings : goal.overflow_add-strings
overflow_add-strings c =
    let ds = c.deref-definition-items.result.now in
    let fit : data_end (map shape_of ds) ≤ 65536 = subst (λ (xs : List Definition). data_end (map shape_of xs) ≤ 65536) (sym c.deref-definition-items.ensures.value) c.requires in
    omega (arith, c.loop-definition.invariant.address, ends_within ds c.loop-definition.definition-index)

pub overflow_add-address : goal.overflow_add-address
overflow_add-address c =
    let ds = c.deref-definition-items.result.now in
    let i = c.loop-definition.definition-index in
    let fit : data_end (map shape_of ds) ≤ 65536 = subst (λ (xs : List Definition). data_end (map shape_of xs) ≤ 65536) (sym c.deref-definition-items.ensures.value) c.requires in
    omega (arith, next_end ds i c.definition-item.result c.loop-definition-test.true c.definition-item.is c.loop-definition.address c.from-address-in-loop-definition.result c.loop-definition.invariant.address (c.from-address-in-loop-definition.ensures ∙ c.size_of.ensures.value), ends_within ds (i + 1))

pub loop-definition-preserved : goal.loop-definition-preserved
loop-definition-preserved c =
    let ds = c.deref-definition-items.result.now in
    let i = c.loop-definition.definition-index in
    let d = c.definition-item.result in
    let before = c.loop-definition.invariant in
    let more = c.from-address-in-loop-definition.ensures ∙ c.size_of.ensures.value in
    let all = c.args.program.now.names.lines.items in
    let columns = c.args.program.now.columns.items in
    let some : 0 < c.from-address-in-loop-definition.result = omega (arith, more, some_word d) in
    record {
      address = next_end ds i d c.loop-definition-test.true c.definition-item.is c.loop-definition.address c.from-address-in-loop-definition.result before.address more;
      entries = elim c.match-definition.branch [
        | in-Function+in_ok-push w ↦ with_function ds i d c.loop-definition-test.true c.definition-item.is w.in-Function.function (map placed_entry c.loop-definition.entries.items) (map placed_entry c.match-definition.entries.items) c.loop-definition.address w.in-Function.is before.address before.entries
            (ap (λ v. map placed_entry v.items) w.entries-is ∙ ap (map placed_entry) w.in_ok-push.ensures.items ∙ map-append placed_entry c.loop-definition.entries.items _ ∙ (λ j. map placed_entry c.loop-definition.entries.items ++ record { strings = c.loop-definition.address + 1; function = w.parts-parts.ensures.same j } ∷ []))
        | in_default w ↦ ap (λ v. map placed_entry v.items) w.entries-is ∙ with_other ds i d c.loop-definition-test.true c.definition-item.is (map placed_entry c.loop-definition.entries.items) w.in_default.not-Function before.entries
      ];
      lines = elim c.match-definition.branch [
        | in-Function+in_ok-push w ↦ lined_function_more ds all i d c.loop-definition-test.true c.definition-item.is w.in-Function.function (map lined_entry c.loop-definition.entries.items) (map lined_entry c.match-definition.entries.items) c.loop-definition.address c.loop-definition.lines.now w.in-Function.is before.address before.left before.lines
            (ap (λ v. map lined_entry v.items) w.entries-is ∙ ap (map lined_entry) w.in_ok-push.ensures.items ∙ map-append lined_entry c.loop-definition.entries.items _ ∙ (λ j. map lined_entry c.loop-definition.entries.items ++ record { strings = c.loop-definition.address + 1; lines = c.split_lines.ensures.own j } ∷ []))
        | in_default w ↦ ap (λ v. map lined_entry v.items) w.entries-is ∙ lined_other ds all i d c.loop-definition-test.true c.definition-item.is (map lined_entry c.loop-definition.entries.items) w.in_default.not-Function before.lines
      ];
      left = left_next ds all i d c.loop-definition-test.true c.definition-item.is c.loop-definition.lines.now c.split_lines.result.1.now before.left c.split_lines.ensures.later;
      columns = elim c.match-definition.branch [
        | in-Function+in_ok-push w ↦ lined_function_more ds columns i d c.loop-definition-test.true c.definition-item.is w.in-Function.function (map columned_entry c.loop-definition.entries.items) (map columned_entry c.match-definition.entries.items) c.loop-definition.address c.loop-definition.columns.now w.in-Function.is before.address before.columns_left before.columns
            (ap (λ v. map columned_entry v.items) w.entries-is ∙ ap (map columned_entry) w.in_ok-push.ensures.items ∙ map-append columned_entry c.loop-definition.entries.items _ ∙ (λ j. map columned_entry c.loop-definition.entries.items ++ record { strings = c.loop-definition.address + 1; lines = c.split_lines-in-loop-definition.ensures.own j } ∷ []))
        | in_default w ↦ ap (λ v. map columned_entry v.items) w.entries-is ∙ lined_other ds columns i d c.loop-definition-test.true c.definition-item.is (map columned_entry c.loop-definition.entries.items) w.in_default.not-Function before.columns
      ];
      columns_left = left_next ds columns i d c.loop-definition-test.true c.definition-item.is c.loop-definition.columns.now c.split_lines-in-loop-definition.result.1.now before.columns_left c.split_lines-in-loop-definition.ensures.later;
      ascend = elim c.match-definition.branch [
        | in-Function+in_ok-push w ↦ (one_more c.loop-definition.entries.items c.match-definition.entries.items c.loop-definition.address c.from-address-in-loop-definition.result before.below _ (ap (λ v. v.items) w.entries-is ∙ w.in_ok-push.ensures.items) refl some before.ascend).0
        | in_default w ↦ subst Ascend (ap (λ v. v.items) (sym w.entries-is)) before.ascend
      ];
      below = elim c.match-definition.branch [
        | in-Function+in_ok-push w ↦ (one_more c.loop-definition.entries.items c.match-definition.entries.items c.loop-definition.address c.from-address-in-loop-definition.result before.below _ (ap (λ v. v.items) w.entries-is ∙ w.in_ok-push.ensures.items) refl some before.ascend).1
        | in_default w ↦ further c.loop-definition.entries.items c.match-definition.entries.items c.loop-definition.address c.from-address-in-loop-definition.result before.below (ap (λ v. v.items) w.entries-is)
      ];
    }
