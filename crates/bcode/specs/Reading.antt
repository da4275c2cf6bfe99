-- Inner words: reading the parts of a line from the front of a text: what was read, and the text after it.
use Rattle.std.specs.Prelude.{◌≡◌, ℕ, ◌+◌, ◌*◌, ◌-◌, ◌==◌, nat_lt, if◌then◌else◌, List, [], ◌∷◌, take, drop, Option}
use Rattle.std.specs.Prelude.{Some, None}
use Rattle.std.specs.Char.{is_ascii_digit}
use Rattle.std.specs.List.{position}
use Rattle.bword.specs.Words.{is_name}
use Rattle.blang.specs.declared.limits.TheConstants.{WORD_VALUES}

infixl 10 ◌>>=◌
abbrev pub ◌>>=◌ : {A B : Type 0} → Option A → (A → Option B) → Option B
(Some x) >>= f = f x
None >>= f = None

-- what a reader answered, seen by view, is what was to be read
abbrev pub Gives : {A B : Type 0} → (A → B) → Option A → Option B → Type 0
Gives view (Some x) read = read ≡ Some (view x)
Gives view None read = read ≡ None

unfoldable pub expect_byte : ℕ → List ℕ → Option (List ℕ)
expect_byte byte [] = None
expect_byte byte (b ∷ bs) = if b == byte then Some bs else None

-- the rest of a number, of which this much was read
unfoldable pub number_from : ℕ → ℕ → ℕ → List ℕ → Option (ℕ × List ℕ)
number_from end below value [] = None
number_from end below value (b ∷ bs) =
    if b == end then (if nat_lt value below then Some (value, bs) else None)
    else if value == 0 then None
    else if is_ascii_digit b then
    (if nat_lt (value * 10 + (b - 48)) WORD_VALUES then number_from end below (value * 10 + (b - 48)) bs else None)
    else None

-- a number below a bound, and the byte that ends it
unfoldable pub number_at : ℕ → ℕ → List ℕ → Option (ℕ × List ℕ)
number_at end below [] = None
number_at end below (b ∷ bs) = if is_ascii_digit b then number_from end below (b - 48) bs else None

-- a name, and the byte that ends it
unfoldable pub name_text_at : ℕ → List ℕ → Option (List ℕ × List ℕ)
name_text_at end bytes =
    position (λ b. b == end) bytes >>= λ n. if is_name (take n bytes) then Some (take n bytes, drop (n + 1) bytes) else
    None
