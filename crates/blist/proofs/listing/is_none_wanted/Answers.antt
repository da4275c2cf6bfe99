use Rattle.std.proofs.Common.{◌∙◌, List, ap, sym}
use Rattle.std.proofs.lemmas.Bool.{false≢true}
use Rattle.std.specs.Borrow.{Bor}
use Rattle.std.specs.Prelude.{ℕ, Option, option_map}
use Rattle.blist.specs.Listings.{is_wanted}
use Rattle.blist.proofs.AddedRows.{some_pass}
use Rattle.blist.proofs.listing.is_none_wanted.Goals as goal

pub returns-then-is_wanted : goal.returns-then-is_wanted
returns-then-is_wanted c =
    let name : Option (List ℕ) = option_map (λ (n : Bor (List ℕ)). n.now) c.args.name in
    let some = some_pass (is_wanted name) c.args.definitions.now c.loop-definition.definition-index c.definition-item.result c.loop-definition-test.true
    (ap (is_wanted name) (sym c.definition-item.is) ∙ sym c.is_wanted.ensures ∙ c.if-is_wanted.true) in
    (λ bad. absurd (false≢true bad), λ none. absurd (some none))
