use Rattle.std.proofs.Common.{◌∙◌, ap, map, sym}
use Rattle.std.specs.Str.{bytes_eq}
use Rattle.btools.specs.Functions.{Placed, function_named, placed_entry}
use Rattle.btools.proofs.Finding.{found, missed}
use Rattle.btools.proofs.tables.Tables.named.Goals as goal

pub returns-then-eq : goal.returns-then-eq
returns-then-eq c =
    found placed_entry (λ (f : Placed). bytes_eq f.function.name c.args.name.now) c.deref-entry-items.result.now c.loop-entry.entry-index c.entry-item.result c.loop-entry-test.true c.entry-item.is c.loop-entry.invariant
    (ap (λ t. bytes_eq t c.args.name.now) (sym c.as_str.ensures.text) ∙ sym c.eq.ensures ∙ c.if-eq.true)
    ∙ ap (λ es. function_named (map placed_entry es) c.args.name.now) c.deref-entry-items.ensures.value

pub loop-entry-preserved : goal.loop-entry-preserved
loop-entry-preserved c =
    missed placed_entry (λ (f : Placed). bytes_eq f.function.name c.args.name.now) c.deref-entry-items.result.now c.loop-entry.entry-index c.entry-item.result c.loop-entry-test.true c.entry-item.is c.loop-entry.invariant
    (ap (λ t. bytes_eq t c.args.name.now) (sym c.as_str.ensures.text) ∙ sym c.eq.ensures ∙ c.if-eq.false)
