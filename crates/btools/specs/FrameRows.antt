-- Closed facts: the name that is shown of each word of a frame, and of one past it.
use Rattle.std.specs.Prelude.{◌≡◌, ℕ, List, [], ◌∷◌, map, codes, Bool, true, false, Some, None, refl}
use Rattle.bparse.specs.Locals.{NamedWord}
use Rattle.btools.specs.FrameNames.{name_shown}

abbrev word : List ℕ → ℕ → Bool → NamedWord
word name offset is_vector = record { name = name; offset = offset; is_vector = is_vector }

-- f(a) { auto v 1, i; .. }
abbrev some_frame : List NamedWord
some_frame = word (codes "a") 0 false ∷ word (codes "v") 1 true ∷ word (codes "i") 4 false ∷ []

-- the second word of a vector has no name, nor has what comes after the frame
each_word : map (name_shown some_frame) (0 ∷ 1 ∷ 2 ∷ 3 ∷ 4 ∷ 5 ∷ [])
    ≡ Some (codes "a", false) ∷ Some (codes "v", false) ∷ Some (codes "v", true) ∷ None ∷ Some (codes "i", false)
    ∷ None ∷ []
each_word = refl

-- the last word of a frame may be a vector's
vector_last : map (name_shown (word (codes "v") 0 true ∷ [])) (0 ∷ 1 ∷ 2 ∷ [])
    ≡ Some (codes "v", false) ∷ Some (codes "v", true) ∷ None ∷ []
vector_last = refl

no_words : map (name_shown []) (0 ∷ 1 ∷ []) ≡ None ∷ None ∷ []
no_words = refl
