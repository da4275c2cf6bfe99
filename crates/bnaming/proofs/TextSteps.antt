-- Texts of several parts.
use Rattle.std.proofs.Common.{◌≡◌, ◌∙◌, ◌+◌, ◌<◌, ℕ, List, [], ◌∷◌, ◌++◌, ap, append-nil, append_assoc, get_or, length, sym, take}
use Rattle.std.specs.Prelude.{flat_map}
use Rattle.std.proofs.lemmas.Grind.{flat_map-append}
use Rattle.std.proofs.lemmas.List.{take_more}

pub two_texts : (old a b : List ℕ) {t u : List ℕ} → t ≡ old ++ a → u ≡ t ++ b → u ≡ old ++ (a ++ b)
two_texts old a b e f = f ∙ ap (λ x. x ++ b) e ∙ append_assoc old a b

pub three_texts : (old a b c : List ℕ) {t u v : List ℕ} → t ≡ old ++ a → u ≡ t ++ b → v ≡ u ++ c → v ≡ old ++ (a ++ (b ++ c))
three_texts old a b c e f g = g ∙ ap (λ x. x ++ c) (two_texts old a b e f) ∙ append_assoc old (a ++ b) c ∙ ap (λ x. old ++ x) (append_assoc a b c)

-- an element more
pub text_more : {X : Type 0} (f : X → List ℕ) (old now next : List ℕ) (xs : List X) (i : ℕ) (d : X) → i < length xs → now ≡ old ++ flat_map f (take i xs) → next ≡ now ++ f (get_or xs i d) → next ≡ old ++ flat_map f (take (i + 1) xs)
text_more f old now next xs i d lt before one =
    let x = get_or xs i d in
    one ∙ ap (λ t. t ++ f x) before ∙ append_assoc old (flat_map f (take i xs)) (f x)
    ∙ ap (λ t. old ++ t)
    (ap (λ t. flat_map f (take i xs) ++ t) (sym (append-nil (f x))) ∙ sym (flat_map-append f (take i xs) (x ∷ []))
    ∙ ap (flat_map f) (sym (take_more xs i d lt)))
