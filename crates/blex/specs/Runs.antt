-- Inner words: runs of bytes that a source passes at once.
use Rattle.std.specs.Prelude.{◌≡◌, ℕ, ◌+◌, ◌*◌, ◌%◌, ◌^◌, ◌<◌, ◌≤◌, ◌==◌, ◌||◌, Bool, true, false, not, List, [], ◌∷◌}
use Rattle.std.specs.Prelude.{length, take, get_or, Option, IfSome}
use Rattle.std.specs.List.{list_all}
use Rattle.std.specs.Option.{unwrap_or}
use Rattle.bword.specs.Words.{is_name_byte}
use Rattle.blex.specs.declared.spelling.Spelling.{Spelling}
use Rattle.blex.specs.Sources.{Source, GoesAfter, CanCome}
use Rattle.blex.specs.Lexing.{EndsRun}

-- The source has passed bytes that pass the test, maybe none.
pub record PassesRun (p : ℕ → Bool) (old new : Source) : Type 0 where
  pub run : List ℕ
  pub passes : GoesAfter old run new
  pub all : list_all p run ≡ true

-- a byte with which the end of a comment doesn't begin
abbrev pub is_no_star : ℕ → Bool
is_no_star b = not (b == 42)

-- a space or a tab
abbrev pub is_space : ℕ → Bool
is_space b = (b == 32) || (b == 9)

-- a number with these bytes after its own, of which a word of 64 bits keeps the last eight
abbrev pub number_through : ℕ → List ℕ → ℕ
number_through n [] = n
number_through n (b ∷ bs) = number_through ((n * 256 + b) % 2 ^ 64) bs

-- A name goes on with the bytes before a place and not with the byte there, or with all if there is no place.
pub record EndsName (bytes : List ℕ) (old : ℕ) (place : Option ℕ) (new : ℕ) : Type 0 where
  pub all : list_all is_name_byte (take (unwrap_or place (length bytes)) bytes) ≡ true
  pub other : IfSome place (λ n. (n < length bytes) × (is_name_byte (get_or bytes n 0) ≡ false))
  pub number : new ≡ number_through old (take (unwrap_or place (length bytes)) bytes)

-- The source has passed bytes that go on with a name, maybe none, which stand after the spelling. After the last of
-- them the name ends, where that is told.
pub record TakesName (old : Source) (word : Spelling) (is_over : Bool) (new : Source) (following : Spelling) : Type 0
  where
    pub run : List ℕ
    pub passes : GoesAfter old run new
    pub bytes : list_all is_name_byte run ≡ true
    pub number : following.number ≡ number_through word.number run
    pub short : following.len ≤ 8 → following.len ≡ word.len + length run
    pub long : 8 < following.len → 8 < word.len + length run
    pub ends : is_over ≡ true → (xs : List ℕ) → CanCome new xs → EndsRun is_name_byte xs
