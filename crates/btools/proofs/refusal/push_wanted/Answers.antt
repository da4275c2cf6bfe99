use Rattle.std.proofs.Common.{◌≡◌, ◌∙◌, ◌++◌, ap, codes, decimal, subst, sym}
use Rattle.bauthor.specs.declared.fault.Wanted.{Wanted}
use Rattle.btools.specs.NamedFrames.{wanted_text}
use Rattle.btools.proofs.AddedTexts.{piece}
use Rattle.btools.proofs.refusal.push_wanted.Goals as goal

pub returns-in-Label-clause-added : goal.returns-in-Label-clause-added
returns-in-Label-clause-added c =
    let old = c.args.line.now.bytes in
    let t1 = c.push_str-in-Label.new.self.bytes in
    let t2 = c.push_str-in-Label-2.new.self.bytes in
    let t3 = c.push_str-in-Label-3.new.self.bytes in
    let t4 = c.push_str-in-Label-4.new.self.bytes in
    let form = codes "'l NAME', for label " in
    let label = decimal c.in-Label.label in
    let p2 = piece old t1 t2 form label c.push_str-in-Label.ensures.bytes
    (c.push_str-in-Label-2.ensures.bytes ∙ ap (λ t. t1 ++ t) c.format-in-Label.ensures.text) in
    let p3 = piece old t2 t3 (form ++ label) (codes " of ") p2 c.push_str-in-Label-3.ensures.bytes in
    subst (λ (w : Wanted). t4 ≡ old ++ wanted_text w) (sym c.in-Label.is)
    (piece old t3 t4 (form ++ label ++ codes " of ") c.in-Label.function p3
    (c.push_str-in-Label-4.ensures.bytes ∙ ap (λ t. t3 ++ t) c.as_str-in-Label.ensures.text))
