-- Texts that are put together, one piece after another.
use Rattle.std.proofs.Common.{◌≡◌, ◌∙◌, ◌+◌, ◌/◌, ◌<◌, ◌≤◌, ℕ, List, [], ◌∷◌, ◌++◌, get_or, length, take, ap, append-nil, append_assoc, sym}
use Rattle.std.specs.List.{flat_map}
use Rattle.std.specs.Prelude.{nat_lt}
use Rattle.std.proofs.lemmas.Bool.{cond-false, cond-true, le-ltb, lt-ltb}
use Rattle.std.proofs.lemmas.List.{take_more}
use Rattle.std.proofs.lemmas.List.Concat.{flat_map-append}
use Rattle.btools.specs.Characters.{shown_byte, shown_high}

-- one piece more of a text
pub piece : (t t' t'' a b : List ℕ) → t' ≡ t ++ a → t'' ≡ t' ++ b → t'' ≡ t ++ (a ++ b)
piece t t' t'' a b p q = q ∙ ap (λ x. x ++ b) p ∙ append_assoc t a b

-- the text of one element more
pub each_more : {X : Type 0} (f : X → List ℕ) (head text new : List ℕ) (xs : List X) (i : ℕ) (x : X) → i < length xs → x ≡ get_or xs i x → text ≡ head ++ flat_map f (take i xs) → new ≡ text ++ f x
    → new ≡ head ++ flat_map f (take (i + 1) xs)
each_more f head text new xs i x lt is before one =
    let all : flat_map f (take (i + 1) xs) ≡ flat_map f (take i xs) ++ f x =
    ap (flat_map f) (take_more xs i x lt ∙ ap (λ y. take i xs ++ y ∷ []) (sym is))
    ∙ flat_map-append f (take i xs) (x ∷ []) ∙ ap (λ y. flat_map f (take i xs) ++ y) (append-nil (f x)) in
    one ∙ ap (λ t. t ++ f x) before ∙ append_assoc head (flat_map f (take i xs)) (f x) ∙ ap (λ y. head ++ y) (sym all)

-- the high byte of a word was added, or nothing where it is zero
pub high_added : (old new : List ℕ) (word : ℕ) → 256 ≤ word → new ≡ old ++ shown_byte (word / 256) → new ≡ old ++ shown_high word
high_added old new word high e = e ∙ ap (λ x. old ++ x) (sym (cond-false (nat_lt word 256) [] (shown_byte (word / 256)) (le-ltb word 256 high)))

pub nothing_added : (old new : List ℕ) (word : ℕ) → word < 256 → new ≡ old → new ≡ old ++ shown_high word
nothing_added old new word low e = e ∙ sym (append-nil old) ∙ ap (λ x. old ++ x) (sym (cond-true (nat_lt word 256) [] (shown_byte (word / 256)) (lt-ltb word 256 low)))
