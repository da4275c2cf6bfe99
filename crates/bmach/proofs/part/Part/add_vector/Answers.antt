use Rattle.std.proofs.Common.{◌≡◌, ◌+◌, ◌-◌, [], ◌∷◌, ◌++◌, map, length, take, replicate, max, Ok, sym, ap, subst, ◌∙◌, append_assoc, append-nil, arith, length-append}
use Rattle.std.specs.Prelude.{flat_map, vec_len}
use Rattle.std.proofs.lemmas.List.{length-map}
use Rattle.blang.specs.CodeParts as definitions
use Rattle.blang.specs.declared.code.Definition.TheVariants as definition
use Rattle.bmach.specs.Parts.{AddsDefinition}
use Rattle.blang.specs.Layout.{first_undefined, name_in_value, value_word, padded}
use Rattle.bmach.specs.Loading.{known_in}
use Rattle.bmach.specs.Images.{loaded_of}
use Rattle.bmach.proofs.Padding.{padded_after}
use Rattle.bmach.proofs.part.Part.add_vector.Goals as goal

pub returns : goal.returns
returns c =
    let known = known_in c.args.addresses.now in
    let old = c.args.self.now.words.items in
    let p = c.parts-parts.result.now in
    let end = c.len-first.result + 1 + c.max.result in
    let strings = length old + (1 + max p.words (length p.values.items)) in
    let first : c.len-first.result ≡ length old = c.len-first.ensures ∙ c.args.self.now.words.ok.0 in
    let is_end : end ≡ strings = omega (arith, first, c.max.ensures, c.len.ensures, p.values.ok.0) in
    let own = old ++ (length old + 1) ∷ [] in
    let values = map (value_word known strings) p.values.items in
    let pushed : c.push_values.new.words.items ≡ own ++ values =
    c.in_ok-push_values.ensures.0
    ∙ ap (λ ws. ws ++ map (value_word known end) c.deref.result.now) (c.in_ok-push.ensures.items ∙ ap (λ a. old ++ (a + 1) ∷ []) first)
    ∙ ap (λ n. own ++ map (value_word known n) c.deref.result.now) is_end
    ∙ ap (λ vs. own ++ map (value_word known strings) vs) c.deref.ensures.value in
    let count : vec_len c.push_values.new.words ≡ length (own ++ values) = c.push_values.new.words.ok.0 ∙ ap length pushed in
    let long : length values ≡ length p.values.items = length-map p.values.items _ in
    let filled : c.resize.new.self.items ≡ own ++ padded p.words values =
    c.in_ok-resize.ensures.items
    ∙ ap (λ ws. take end ws ++ replicate (end - vec_len c.push_values.new.words) 0) pushed
    ∙ padded_after own values p.words end (vec_len c.push_values.new.words) (omega (arith, is_end, long, length-append old ((length old + 1) ∷ []))) count in
    let words : c.extend_from_slice.new.self.items ≡ old ++ ((length old + 1) ∷ (padded p.words values ++ p.strings.items)) =
    c.in_ok-extend_from_slice.ensures.items
    ∙ ap (λ ws. ws ++ c.deref-2.result.now) filled
    ∙ ap (λ ss. (own ++ padded p.words values) ++ ss) c.deref-2.ensures.value
    ∙ append_assoc own (padded p.words values) p.strings.items
    ∙ append_assoc old ((length old + 1) ∷ []) (padded p.words values ++ p.strings.items) in
    let functions = map loaded_of c.args.self.now.functions.items in
    let same : functions ≡ functions ++ [] = sym (append-nil functions) in
    let label : c.args.self.now.first_label ≡ c.args.self.now.first_label + 0 = omega arith in
    let family : definitions.Vector → Type 0 = λ d. AddsDefinition known c.args.self.now (definition.Vector d) (Ok tt) (record { words = c.extend_from_slice.new.self; functions = c.args.self.now.functions; first_label = c.args.self.now.first_label }) in
    subst family c.parts-parts.ensures.same ((λ i. record { words = words i; functions = same i; first_label = label i }), ap (λ vs. first_undefined known (flat_map name_in_value vs)) (sym c.deref.ensures.value) ∙ c.in_ok-push_values.ensures.1)
