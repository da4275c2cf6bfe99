use Rattle.std.proofs.Common.{◌≡◌, ◌∙◌, ◌++◌, List, ℕ, ap, arith, length, map, min, take}
use Rattle.std.proofs.lemmas.List.{take_all, take_min}
use Rattle.blist.specs.ListingTexts.{column_byte}
use Rattle.blist.proofs.rows.push_source.Goals as goal

pub returns : goal.returns
returns c =
    let source = c.args.source.now in
    let len : c.min-len.result ≡ min 39 (length source) = omega (arith, c.min-len.ensures) in
    c.loop-byte.invariant
    ∙ ap (λ (s : List ℕ). c.args.text.now ++ map column_byte s) (take_all c.loop-byte.byte-index (take c.min-len.result source) c.loop-byte-test.false ∙ ap (λ n. take n source) len ∙ take_min 39 source)
