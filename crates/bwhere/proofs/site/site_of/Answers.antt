use Rattle.std.proofs.Common.{◌≡◌, ◌∙◌, ◌+◌, ℕ, ap, arith, drop, length, List, ◌∷◌, min, None, sym}
use Rattle.std.specs.Prelude.{option_map}
use Rattle.std.proofs.lemmas.List.{drop_more}
use Rattle.bword.specs.ByteEnds.{most}
use Rattle.blang.specs.Layout.{shape_of, size_of}
use Rattle.blang.specs.Text.{lines_of}
use Rattle.blang.specs.declared.code.Definition.{Definition}
use Rattle.btools.proofs.Functions.{ends_within, next_end}
use Rattle.bwhere.specs.Sites.{or_else, site_among, site_at, site_shown}
use Rattle.bwhere.proofs.site.site_of.Goals as goal

-- A function that isn't here is among the rest.
among_rest : (address before strings size after : ℕ) (d : Definition) (rest : List Definition) → site_at address before strings d ≡ None → size ≡ size_of (shape_of d)
    → after ≡ min (before + length (lines_of d)) most → site_among (address + size) after strings rest ≡ site_among address before strings (d ∷ rest)
among_rest address before strings size after d rest none long more =
    (λ i. site_among (address + long i) (more i) strings rest)
    ∙ ap (λ o. or_else o (site_among (address + size_of (shape_of d)) (min (before + length (lines_of d)) most) strings rest)) (sym none)

pub site_at-requires : goal.site_at-requires
site_at-requires c =
    let fit = c.requires in
    omega (arith, c.loop-definition.invariant.address, ends_within c.args.definitions.now c.loop-definition.definition-index)

pub overflow_add-address : goal.overflow_add-address
overflow_add-address c =
    let ds = c.args.definitions.now in
    let i = c.loop-definition.definition-index in
    let fit = c.requires in
    omega (arith, next_end ds i c.definition-item.result c.loop-definition-test.true c.definition-item.is c.loop-definition.address c.from-address-in-loop-definition.result c.loop-definition.invariant.address (c.from-address-in-loop-definition.ensures ∙ c.size_of.ensures.value), ends_within ds (i + 1))

pub loop-definition-preserved : goal.loop-definition-preserved
loop-definition-preserved c =
    let ds = c.args.definitions.now in
    let i = c.loop-definition.definition-index in
    let d = c.definition-item.result in
    let address = c.loop-definition.address in
    let before = c.loop-definition.before in
    let long = c.from-address-in-loop-definition.ensures ∙ c.size_of.ensures.value in
    let none = sym c.site_at.ensures ∙ ap (option_map site_shown) c.in_default.is in
    let more = c.saturating_add-before.ensures ∙ ap (λ (n : ℕ). min (before + n) most) c.lines_in.ensures in
    let next = drop_more ds i d c.loop-definition-test.true ∙ ap (λ (x : Definition). x ∷ drop (i + 1) ds) (sym c.definition-item.is) in
    record {
      address = next_end ds i d c.loop-definition-test.true c.definition-item.is address c.from-address-in-loop-definition.result c.loop-definition.invariant.address long;
      same = among_rest address before c.args.strings c.from-address-in-loop-definition.result c.saturating_add-before.result d (drop (i + 1) ds) none long more
          ∙ ap (site_among address before c.args.strings) (sym next) ∙ c.loop-definition.invariant.same;
    }
