-- Inner words: what a reader with one token ahead may depend on, and that it can be ended wherever it stops.
use Rattle.std.specs.Prelude.{◌≡◌, Bool, true, false, List, ◌++◌, ◌⊎◌}
use Rattle.blang.specs.declared.token.Token.{Token}
use Rattle.blang.specs.declared.token.Token.TheVariants as token
use Rattle.blang.specs.declared.token.Placed.{Placed}
use Rattle.bgrammar.specs.Reading.{Got, Stop, Reader, first}

-- the same next token, or a safe one
abbrev pub Near : (Token → Type 0) → List Placed → List Placed → Type 0
Near Safe old new = (first new ≡ first old) ⊎ Safe (first new)

-- A reader that goes gives the same before any list whose next token is the same or a safe one.
-- One that halts halts before any list with the same next token; with other tokens there it ends, up to any safe one.
pub data Fine {A : Type 0} (Safe : Token → Type 0) (p : Reader A) (ts : List Placed) : Type 0 where
  goes : (u r : List Placed) (a : A) → ts ≡ u ++ r
      → ((new : List Placed) → Near Safe r new → p (u ++ new) ≡ Got a new) → Fine Safe p ts
  halts : (u r : List Placed) → ts ≡ u ++ r → ((new : List Placed) → first new ≡ first r → p (u ++ new) ≡ Stop new)
      → (c : List Placed) (a : A) → ((k : List Placed) → Safe (first k) → p (u ++ (c ++ k)) ≡ Got a k) → Fine Safe p ts

-- a token that may follow each statement and definition
abbrev pub closes : Token → Bool
closes token.CloseBrace = true
closes token.End = true
closes _ = false

abbrev pub Closer : Token → Type 0
Closer t = closes t ≡ true
