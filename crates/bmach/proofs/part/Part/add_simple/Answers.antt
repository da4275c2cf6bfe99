use Rattle.std.proofs.Common.{◌≡◌, ◌+◌, ◌-◌, [], ◌++◌, map, length, take, replicate, max, Ok, sym, ap, subst, ◌∙◌, append_assoc, append-nil, arith}
use Rattle.std.specs.Prelude.{flat_map, vec_len}
use Rattle.std.proofs.lemmas.List.{length-map}
use Rattle.blang.specs.CodeParts as definitions
use Rattle.blang.specs.declared.code.Definition.TheVariants as definition
use Rattle.bmach.specs.Parts.{AddsDefinition}
use Rattle.blang.specs.Layout.{first_undefined, name_in_value, value_word, padded}
use Rattle.bmach.specs.Loading.{known_in}
use Rattle.bmach.specs.Images.{loaded_of}
use Rattle.bmach.proofs.Padding.{padded_after}
use Rattle.bmach.proofs.part.Part.add_simple.Goals as goal

pub returns : goal.returns
returns c =
    let known = known_in c.args.addresses.now in
    let old = c.args.self.now.words.items in
    let p = c.parts-parts.result.now in
    let end : c.len.result + c.max.result ≡ length old + max 1 (length p.values.items) =
    omega (arith, c.len.ensures, c.args.self.now.words.ok.0, c.max.ensures, c.len-2.ensures, p.values.ok.0) in
    let values = map (value_word known (length old + max 1 (length p.values.items))) p.values.items in
    let pushed : c.push_values.new.words.items ≡ old ++ values =
    c.in_ok-push_values.ensures.0
    ∙ ap (λ n. old ++ map (value_word known n) c.deref.result.now) end
    ∙ ap (λ vs. old ++ map (value_word known (length old + max 1 (length p.values.items))) vs) c.deref.ensures.value in
    let count : vec_len c.push_values.new.words ≡ length (old ++ values) = c.push_values.new.words.ok.0 ∙ ap length pushed in
    let filled : c.resize.new.self.items ≡ old ++ padded 1 values =
    c.in_ok-resize.ensures.items
    ∙ ap (λ ws. take (c.len.result + c.max.result) ws ++ replicate ((c.len.result + c.max.result) - vec_len c.push_values.new.words) 0) pushed
    ∙ padded_after old values 1 (c.len.result + c.max.result) (vec_len c.push_values.new.words) (end ∙ ap (λ n. length old + max 1 n) (sym (length-map p.values.items _))) count in
    let words : c.extend_from_slice.new.self.items ≡ old ++ (padded 1 values ++ p.strings.items) =
    c.in_ok-extend_from_slice.ensures.items
    ∙ ap (λ ws. ws ++ c.deref-2.result.now) filled
    ∙ ap (λ ss. (old ++ padded 1 values) ++ ss) c.deref-2.ensures.value
    ∙ append_assoc old (padded 1 values) p.strings.items in
    let functions = map loaded_of c.args.self.now.functions.items in
    let same : functions ≡ functions ++ [] = sym (append-nil functions) in
    let label : c.args.self.now.first_label ≡ c.args.self.now.first_label + 0 = omega arith in
    let family : definitions.Simple → Type 0 = λ d. AddsDefinition known c.args.self.now (definition.Simple d) (Ok tt) (record { words = c.extend_from_slice.new.self; functions = c.args.self.now.functions; first_label = c.args.self.now.first_label }) in
    subst family c.parts-parts.ensures.same ((λ i. record { words = words i; functions = same i; first_label = label i }), ap (λ vs. first_undefined known (flat_map name_in_value vs)) (sym c.deref.ensures.value) ∙ c.in_ok-push_values.ensures.1)
