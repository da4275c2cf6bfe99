-- What comes of a source looks at the names before it by membership alone.
use Rattle.std.proofs.Common.{◌≡◌, ℕ, List, [], ◌∷◌, ◌++◌, ◌+◌, Option, Some, refl, sym, ap, ◌∙◌, length-append, if◌then◌else◌}
use Rattle.std.proofs.lemmas.List.Folds.{list_any-append}
use Rattle.std.specs.Prelude.{◌||◌}
use Rattle.blang.specs.declared.token.Letters.TheVariants as letters
use Rattle.blang.specs.declared.token.Diagnostic.{Diagnostic}
use Rattle.bgrammar.specs.Compiled.{AreNames, has}
use Rattle.blang.specs.Compiles.{Defined, compilation_of, compilation_with, compiled_text}
use Rattle.bgrammar.specs.Laws.{ByMembership}
use Rattle.blang.specs.Code.{code_of, or_too_large, fault_of}
use Rattle.blang.specs.Trees.{Definition}
use Rattle.blang.specs.Scan.{inner_fault, identifier_of, name_fault}
use Rattle.bword.specs.Words.{same_name}

-- a name more
pub has-push : (x y : List ℕ) (names : Defined) → has x (names ++ y ∷ []) ≡ (has x names || has x (y ∷ []))
has-push x y names = list_any-append (same_name x) names (y ∷ [])

pub same_following : (names these : Defined) (y : List ℕ) → ((x : List ℕ) → has x names ≡ has x these) → (x : List ℕ) → has x (names ++ y ∷ []) ≡ has x (these ++ y ∷ [])
same_following names these y same x = has-push x y names ∙ ap (λ b. b || has x (y ∷ [])) (same x) ∙ sym (has-push x y these)

pub fault_same : (names these : Defined) (d : Definition) → ((x : List ℕ) → has x names ≡ has x these) → fault_of names d ≡ fault_of these d
fault_same names these d same =
    ap (λ b. or_too_large (if b then Some (name_fault letters.Redeclared (identifier_of d)) else inner_fault d) (identifier_of d).line (code_of d)) (same (identifier_of d).text)

outcome_same : (names these : Defined) (ds : List Definition) (stop : Option Diagnostic) → ((x : List ℕ) → has x names ≡ has x these) → compilation_of names ds stop ≡ compilation_of these ds stop
outcome_same names these [] stop same = refl
outcome_same names these (d ∷ ds) stop same =
    let y = (identifier_of d).text in
    ap (λ f. compilation_with f (compiled_text d) (compilation_of (names ++ y ∷ []) ds stop)) (fault_same names these d same)
    ∙ ap (compilation_with (fault_of these d) (compiled_text d)) (outcome_same (names ++ y ∷ []) (these ++ y ∷ []) ds stop (same_following names these y same))

pub by_membership : ByMembership
by_membership names these tokens r same g = record {
  definitions = g.definitions;
  stop = g.stop;
  parted = g.parted;
  outcome_is = g.outcome_is ∙ outcome_same names these g.definitions g.stop same;
}

-- a name more stays one more
pub are_names_push : (names these : Defined) (y : List ℕ) → AreNames names these → AreNames (names ++ y ∷ []) (these ++ y ∷ [])
are_names_push names these y a = record {
  members = same_following names these y a.members;
  size = length-append names (y ∷ []) ∙ ap (λ n. n + 1) a.size ∙ sym (length-append these (y ∷ []));
}

pub are_names_after : (a b c : Defined) → AreNames a b → AreNames b c → AreNames a c
are_names_after a b c h k = record {
  members = λ x. h.members x ∙ k.members x;
  size = h.size ∙ k.size;
}
