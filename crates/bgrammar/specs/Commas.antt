-- Inner words: reading things with commas between them, from the left.
use Rattle.std.specs.Prelude.{List, [], ◌∷◌, ◌++◌}
use Rattle.bgrammar.specs.Reading.{Got, Reader, ◌>>=◌, after, many}
use Rattle.bgrammar.specs.ExpressionReader.{comma, always}

-- the thing after a comma, which may depend on those before it
abbrev pub comma_item : {A : Type 0} → (List A → Reader A) → Unit {0} → List A → Reader (List A)
comma_item item o before ts = item before (after ts) >>= λ x. Got (before ++ x ∷ [])

-- one thing or more
abbrev pub list_reader : {A : Type 0} → (List A → Reader A) → Reader (List A)
list_reader item ts = item [] ts >>= λ x. many (always comma) (comma_item item) (x ∷ [])
