-- A line, byte by byte.
use Rattle.std.proofs.Common.{◌≡◌, ◌∙◌, ℕ, ◌+◌, ◌<◌, Bor, length, List, [], ◌∷◌, ◌++◌, None, Option, Some, ap, append_assoc, get_or, map, refl, sym, take}
use Rattle.std.specs.Option.{option_map, unwrap_or}
use Rattle.std.proofs.lemmas.List.{map-append, take_more}

-- one byte more
pub byte_added : (f : ℕ → ℕ) (old text new bytes : List ℕ) (i : ℕ) → i < length bytes → text ≡ old ++ map f (take i bytes) → new ≡ text ++ f (get_or bytes i 0) ∷ [] → new ≡ old ++ map f (take (i + 1) bytes)
byte_added f old text new bytes i lt before one =
    one ∙ ap (λ t. t ++ f (get_or bytes i 0) ∷ []) before ∙ append_assoc old (map f (take i bytes)) (f (get_or bytes i 0) ∷ [])
    ∙ ap (λ t. old ++ t) (sym (map-append f (take i bytes) (get_or bytes i 0 ∷ [])) ∙ ap (map f) (sym (take_more bytes i 0 lt)))

-- the bytes of a slice, or of none
pub unwrapped : (o : Option (Bor (List ℕ))) (d : Bor (List ℕ)) → (unwrap_or o d).now ≡ unwrap_or (option_map (λ x. x.now) o) d.now
unwrapped (Some x) d = refl
unwrapped None d = refl
