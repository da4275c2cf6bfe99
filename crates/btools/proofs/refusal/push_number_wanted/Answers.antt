use Rattle.std.proofs.Common.{◌≡◌, ◌∙◌, ◌++◌, List, ap, append_assoc, codes, decimal, subst, sym, ℕ}
use Rattle.bauthor.specs.declared.fault.LineWanted.{LineWanted}
use Rattle.btools.specs.PlaceLines.{wanted_text}
use Rattle.btools.proofs.AddedTexts.{piece}
use Rattle.btools.proofs.refusal.push_number_wanted.Goals as goal

-- what is told of the place comes last
joined : (old a l p n o d : List ℕ) → (old ++ (a ++ l)) ++ p ++ n ++ o ++ d ≡ old ++ (a ++ l ++ p ++ n ++ o ++ d)
joined old a l p n o d = simp append_assoc

pub returns-in-Number-clause-added : goal.returns-in-Number-clause-added
returns-in-Number-clause-added c =
    let old = c.args.line.now.bytes in
    let t1 = c.push_str.new.self.bytes in
    let t2 = c.push_str-in-Number.new.self.bytes in
    let new = c.push_place.new.line.bytes in
    let range = codes "a number from 0 to " in
    let last = decimal c.in-Number.last in
    let place = decimal c.in-Number.place in
    let name = c.in-Number.name in
    let column = codes ", alone or with a column of it" in
    let lined = piece old t1 t2 range last c.push_str.ensures.bytes
    (c.push_str-in-Number.ensures.bytes ∙ ap (λ t. t1 ++ t) c.format.ensures.text) in
    let before = piece old t2 c.push_str-in-Number-2.new.self.bytes (range ++ last) column lined c.push_str-in-Number-2.ensures.bytes in
    subst (λ (w : LineWanted). new ≡ old ++ wanted_text w) (sym c.in-Number.is)
    (c.push_place.ensures.added
    ∙ ap (λ t. t ++ codes ", for place " ++ place ++ codes " of " ++ name) before
    ∙ joined old (range ++ last) column (codes ", for place ") place (codes " of ") name)
