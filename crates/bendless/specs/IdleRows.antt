-- Closed facts: the names of words that conditions read and nothing changes.
use Rattle.std.specs.Prelude.{◌≡◌, ℕ, Bool, true, false, List, [], ◌∷◌, None, codes, map, refl}
use Rattle.blang.specs.declared.code.Definition.{Definition}
use Rattle.blang.specs.declared.code.Definition.TheVariants as definition
use Rattle.bparse.specs.Locals.{NamedWord}
use Rattle.btools.specs.Functions.{Placed}
use Rattle.bendless.specs.Idle.{external_name, external_names, frame_names, words_with}
use Rattle.bendless.specs.Loops.{Noted, is_idle}

-- the words 1 to 3 were read, and the word 2 is stored
abbrev some : Noted
some = record {
  asks = None;
  reads = [];
  tested = false ∷ true ∷ true ∷ true ∷ [];
  stored = false ∷ false ∷ true ∷ [];
}

idle : map (is_idle some) (0 ∷ 1 ∷ 2 ∷ 3 ∷ 4 ∷ []) ≡ false ∷ true ∷ false ∷ true ∷ false ∷ []
idle = refl

abbrev word : List ℕ → (offset : ℕ) → (is_vector : Bool) → NamedWord
word name offset is_vector = record { name = name; offset = offset; is_vector = is_vector }

abbrev a_frame : List NamedWord
a_frame = word (codes "i") 0 false ∷ word (codes "j") 1 false ∷ word (codes "k") 2 false ∷ word (codes "l") 3 false ∷ []

names_told : frame_names some 1 a_frame ≡ codes " i k"
names_told = refl

none_told : map (λ words. frame_names some 1 words) ((word (codes "v") 0 true ∷ []) ∷ [] ∷ []) ≡ [] ∷ [] ∷ []
none_told = refl

around_memory : frame_names some 65534 (word (codes "i") 3 false ∷ []) ≡ codes " i"
around_memory = refl

-- the frame of the second function
abbrev placed : (strings : ℕ) → Placed
placed strings = record {
  strings = strings;
  function = record {
    name = codes "f";
    parameters = 0;
    frame = 0;
    targets = [];
    strings = [];
    code = [];
  };
}

frames : map (words_with (placed 8 ∷ placed 9 ∷ []) ([] ∷ a_frame ∷ [])) (8 ∷ 9 ∷ 10 ∷ []) ≡ [] ∷ a_frame ∷ [] ∷ []
frames = refl

abbrev simple : List ℕ → Definition
simple name = definition.Simple (record { name = name; values = []; strings = [] })

external_told : map (external_name some 1)
    (simple (codes "n")
    ∷ definition.Vector (record { name = codes "v"; words = 1; values = []; strings = [] })
    ∷ definition.Function (record {
      name = codes "f";
      parameters = 0;
      frame = 0;
      targets = [];
      strings = [];
      code = [];
    })
    ∷ [])
    ≡ codes " n" ∷ [] ∷ [] ∷ []
external_told = refl

externals_told : external_names some 0 (map simple (codes "a" ∷ codes "b" ∷ codes "c" ∷ codes "d" ∷ codes "e" ∷ []))
    ≡ codes " b d"
externals_told = refl
