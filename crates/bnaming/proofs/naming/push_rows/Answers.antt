use Rattle.std.proofs.Common.{◌∙◌, ◌≡◌, ◌+◌, ◌<◌, ◌++◌, List, [], ap, append_assoc, arith, drop, length, refl, subst, sym}
use Rattle.std.proofs.lemmas.Option.{slice_get_read}
use Rattle.bsources.specs.Files.{files_shown}
use Rattle.bnaming.specs.declared.binding.Reach.TheVariants as reach
use Rattle.bnaming.specs.declared.rows.Row.{Row}
use Rattle.bnaming.specs.Binding.{IsIndex, around_at, bound}
use Rattle.bnaming.specs.Names.{bindings, texts_of}
use Rattle.bnaming.specs.Texts.{row_text}
use Rattle.bnaming.proofs.BindingSteps.{first_index, here, indexed, reached_source}
use Rattle.bnaming.proofs.naming.push_rows.Goals as goal

pub loop-place-init : goal.loop-place-init
loop-place-init c =
    let rows = c.args.rows.now in
    let own = c.new-own.result in
    ([], indexed rows reach.Definition [] [] own refl (first_index rows reach.Definition [] own c.new-own.ensures), omega arith, refl)

pub loop-place-preserved : goal.loop-place-preserved
loop-place-preserved c =
    let l = c.loop-place in
    let rows = c.args.rows.now in
    let files = files_shown c.args.files.now in
    let r = c.index-rows-place.result in
    let rest = drop (l.place + 1) rows in
    let opens = c.opens_after-opens.result in
    let within : l.place < length rows = omega (arith, c.loop-place-test.true) in
    let there = slice_get_read rows (length rows) l.place r refl within c.index-rows-place.is in
    let before = l.invariant.0 in
    let around = around_at l.opens r before rest in
    let all : IsIndex rows reach.Source rows c.in_ok-all.all = subst (λ (part : List Row). IsIndex rows reach.Source part c.in_ok-all.all) (reached_source 0 rows) c.in_ok-all.ensures in
    let own : IsIndex rows reach.Definition around c.in_ok-own.own = c.in_ok-own.ensures before r there l.invariant.1 in
    let told : c.push_row.new.text ≡ l.text ++ row_text files r (bound around rows r.content) =
    c.in_ok-push_row.ensures ∙ ap (λ b. l.text ++ row_text files r b) (c.bound.ensures around rows own all) in (
      around,
      own,
      omega (arith, l.invariant.2, c.opens_after-opens.ensures.more),
      ap (λ t. t ++ texts_of files (bindings rows around opens rest)) told
          ∙ append_assoc l.text (row_text files r (bound around rows r.content)) (texts_of files (bindings rows around opens rest))
          ∙ ap (λ n. l.text ++ (row_text files r (bound around rows r.content) ++ texts_of files (bindings rows around n rest))) c.opens_after-opens.ensures.is
          ∙ ap (λ rs. l.text ++ texts_of files (bindings rows before l.opens rs)) (sym (here rows l.place r within c.index-rows-place.is))
          ∙ l.invariant.3,
    )
