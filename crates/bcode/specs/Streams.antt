-- Inner words: lines of bytes that come one by one.
use Rattle.std.specs.Prelude.{◌≡◌, ◌≢◌, ℕ, suc, ◌<◌, ◌≤◌, true, List, [], ◌∷◌, ◌++◌, length, All, Result, Ok, Err, ◌⊎◌}
use Rattle.bword.specs.ByteEnds.{Incoming, Took, Fails}
use Rattle.bword.specs.declared.ends.Device.{Device}
use Rattle.blang.specs.Text.{joined}
use Rattle.blang.specs.declared.limits.TheConstants.{LINE_LEN}

-- no byte is a newline
abbrev pub HasNoNewline : List ℕ → Type 0
HasNoNewline bytes = All (λ b. b ≢ 10) bytes

-- Some bytes and a newline, which is the only one.
pub record IsLine (most : ℕ) (l : List ℕ) : Type 0 where
  pub before : List ℕ
  pub clean : HasNoNewline before
  pub some : 0 < length before
  pub few : length before < most
  pub ends : l ≡ before ++ 10 ∷ []

-- Its last byte is its only newline.
pub record IsWholeLine (bytes : List ℕ) : Type 0 where
  pub before : List ℕ
  pub clean : HasNoNewline before
  pub ends : bytes ≡ before ++ 10 ∷ []

-- so many whole lines
pub record AreLines (count : ℕ) (text : List ℕ) : Type 0 where
  pub lines : List (List ℕ)
  pub each : All IsWholeLine lines
  pub counted : length lines ≡ count
  pub split : text ≡ joined lines

-- a line or the beginning of one, of no more bytes than a line has
pub record IsLinePart (bytes : List ℕ) : Type 0 where
  pub newline : IsWholeLine bytes ⊎ HasNoNewline bytes
  pub few : length bytes ≤ LINE_LEN

-- whole lines, and then no more than line n
pub record EndsInLine (n : ℕ) (bytes : List ℕ) : Type 0 where
  pub count : ℕ
  pub number : n ≡ suc count
  pub before : List ℕ
  pub lines : AreLines count before
  pub last : List ℕ
  pub part : IsLinePart last
  pub split : bytes ≡ before ++ last

-- A line was taken; or else all that was left, or as many bytes as no line of the language is longer than.
pub record TakesLine (old : Incoming) (bytes : List ℕ) (new : Incoming) : Type 0 where
  pub took : Took old bytes new
  pub failures : new.failures ≡ old.failures
  pub whole : IsWholeLine bytes ⊎ (HasNoNewline bytes × ((new.is_over ≡ true) ⊎ (length bytes ≡ LINE_LEN)))

-- After these bytes a read failed, and no read came after it. A byte that was ready by then may be among them.
pub record FailsAfter (old : Incoming) (taken : List ℕ) (new : Incoming) : Type 0 where
  pub mid : Incoming
  pub took : Took old taken mid
  pub read : mid.failures ≡ old.failures
  pub failed : Fails mid new

-- A read failed after some bytes, none of which is a newline.
pub record FailsInLine (old new : Incoming) : Type 0 where
  pub taken : List ℕ
  pub clean : HasNoNewline taken
  pub fails : FailsAfter old taken new

abbrev pub TakingGives : Incoming → Result (Unit {0}) Device → List ℕ → Incoming → Type 0
TakingGives old (Ok u) bytes new = TakesLine old bytes new
TakingGives old (Err e) bytes new = FailsInLine old new
