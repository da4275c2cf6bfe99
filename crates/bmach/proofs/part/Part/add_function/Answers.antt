use Rattle.std.proofs.Common.{◌≡◌, ◌+◌, [], ◌∷◌, ◌++◌, map, length, Ok, sym, ap, subst, ◌∙◌, append_assoc}
use Rattle.std.specs.Prelude.{flat_map}
use Rattle.std.proofs.lemmas.List.{map-append, length-map}
use Rattle.blang.specs.CodeParts as definitions
use Rattle.blang.specs.declared.code.Definition.TheVariants as definition
use Rattle.bmach.specs.Parts.{AddsDefinition}
use Rattle.blang.specs.Layout.{first_undefined, name_in_instr}
use Rattle.bmach.specs.Loading.{known_in}
use Rattle.bmach.specs.Images.{loaded_of}
use Rattle.bmach.specs.Operations.{instr_of}
use Rattle.bmach.specs.Resolved.{resolved_instr}
use Rattle.bmach.proofs.part.Part.add_function.Goals as goal

pub returns : goal.returns
returns c =
    let known = known_in c.args.addresses.now in
    let old = c.args.self.now.words.items in
    let p = c.parts-parts.result.now in
    let count : c.len.result ≡ length (map loaded_of c.args.self.now.functions.items) =
    c.len.ensures ∙ c.args.self.now.functions.ok.0 ∙ sym (length-map c.args.self.now.functions.items loaded_of) in
    let strings : c.len-strings.result ≡ length old + 1 =
    c.len-strings.ensures ∙ c.in_ok-push.ensures.len ∙ ap (λ n. n + 1) c.args.self.now.words.ok.0 in
    let words : c.extend_from_slice.new.self.items ≡ old ++ ((7 + length (map loaded_of c.args.self.now.functions.items)) ∷ p.strings.items) =
    c.in_ok-extend_from_slice.ensures.items
    ∙ ap (λ ws. ws ++ c.deref.result.now) c.in_ok-push.ensures.items
    ∙ append_assoc old ((7 + c.len.result) ∷ []) c.deref.result.now
    ∙ ap (λ n. old ++ ((7 + n) ∷ c.deref.result.now)) count
    ∙ ap (λ ss. old ++ ((7 + length (map loaded_of c.args.self.now.functions.items)) ∷ ss)) c.deref.ensures.value in
    let code : map instr_of c.in_ok-code.code.items ≡ map (resolved_instr known (length old + 1) c.args.self.now.first_label) p.code.items =
    c.in_ok-code.ensures.0
    ∙ ap (λ n. map (resolved_instr known n c.args.self.now.first_label) c.deref-2.result.now) strings
    ∙ ap (map (resolved_instr known (length old + 1) c.args.self.now.first_label)) c.deref-2.ensures.value in
    let targets : c.in_ok-targets.targets.items ≡ p.targets.items = c.in_ok-targets.ensures.items ∙ c.deref-3.ensures.value in
    let functions : map loaded_of c.push-2.new.self.items ≡ map loaded_of c.args.self.now.functions.items ++ _ ∷ [] =
    ap (map loaded_of) c.in_ok-push-2.ensures.items
    ∙ map-append loaded_of c.args.self.now.functions.items _
    ∙ (λ i. map loaded_of c.args.self.now.functions.items ++ (record { parameters = p.parameters; frame = p.frame; targets = targets i; code = code i; strings = strings i; first_label = c.args.self.now.first_label }) ∷ []) in
    let label : c.args.self.now.first_label + c.len-2.result ≡ c.args.self.now.first_label + length p.targets.items =
    ap (λ n. c.args.self.now.first_label + n) (c.len-2.ensures ∙ p.targets.ok.0) in
    let family : definitions.Function → Type 0 = λ d. AddsDefinition known c.args.self.now (definition.Function d) (Ok tt) (record { words = c.extend_from_slice.new.self; functions = c.push-2.new.self; first_label = c.args.self.now.first_label + c.len-2.result }) in
    subst family c.parts-parts.ensures.same ((λ i. record { words = words i; functions = functions i; first_label = label i }), ap (λ is. first_undefined known (flat_map name_in_instr is)) (sym c.deref-2.ensures.value) ∙ c.in_ok-code.ensures.1)
