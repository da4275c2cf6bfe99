-- Closed facts: what editors are told of a place after characters of two, three and four bytes.
use Rattle.std.specs.Prelude.{◌≡◌, ℕ, List, [], ◌∷◌, ◌++◌, codes, Some, refl}
use Rattle.std.specs.Fmt.{digits}
use Rattle.bsources.specs.Files.{Files}
use Rattle.bcheck.specs.declared.form.FindingForm.TheVariants as form
use Rattle.bcheck.specs.Checks.{FindingParts, findings_text}

-- an e with an accent, the first character of four bytes, the sign of the euro, and an n
abbrev text : List ℕ
text = 195 ∷ 169 ∷ 240 ∷ 144 ∷ 128 ∷ 128 ∷ 226 ∷ 130 ∷ 172 ∷ 110 ∷ 10 ∷ []

-- The marks stand below the last two, and the second place is after the first one.
abbrev accented : FindingParts text
accented = record {
  before = [];
  left = 195 ∷ 169 ∷ 240 ∷ 144 ∷ 128 ∷ 128 ∷ [];
  right = 226 ∷ 130 ∷ 172 ∷ 110 ∷ [];
  after = 10 ∷ [];
  split = refl;
  from_line = refl;
  in_line = refl;
  marks = 4;
  marked = refl;
  code = codes "ch";
  sentence = codes "s";
  fix = codes "f";
  on_lines = refl;
  second = Some (record {
    before = 195 ∷ 169 ∷ [];
    after = 240 ∷ 144 ∷ 128 ∷ 128 ∷ 226 ∷ 130 ∷ 172 ∷ 110 ∷ 10 ∷ [];
    split = refl;
  });
  edits = [];
  few = refl;
}

abbrev one_file : Files
one_file = record { first = record { name = codes "x.b"; lines = 1 }; rest = [] }

columns_and_units : findings_text form.Json 1 one_file (accented ∷ [])
    ≡ codes "{\"file\":\"x.b\",\"line\":1,\"column\":7,\"severity\":\"error\",\"code\":\"ch\",\"message\":\"s\","
    ++ codes "\"fix\":\"f\",\"end\":11,\"utf16_column\":4,\"utf16_end\":6,"
    ++ codes "\"related\":{\"line\":1,\"column\":3,\"utf16_column\":2}}\n"
unfolding digits
columns_and_units = refl
