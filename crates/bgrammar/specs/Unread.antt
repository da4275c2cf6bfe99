-- Inner words: lines that trees don't keep are never read.
use Rattle.std.specs.Prelude.{◌≡◌, List}
use Rattle.blang.specs.declared.token.Placed.{Placed}
use Rattle.blang.specs.Trees.{kept_tokens}
use Rattle.bgrammar.specs.Reading.{Read, Got, Stop, Reader}
use Rattle.bgrammar.specs.DefinitionReader.{definition}

-- what was read, with what trees keep of the tokens that are left
abbrev pub kept_read : {A : Type 0} → Read A → Read A
kept_read (Got a rest) = Got a (kept_tokens rest)
kept_read (Stop rest) = Stop (kept_tokens rest)

-- A reader does with the tokens what it does with what trees keep of them.
abbrev pub IsBlind : {A : Type 0} → Reader A → Type 0
IsBlind {A} p = (ts : List Placed) → p (kept_tokens ts) ≡ kept_read (p ts)

abbrev pub LinesUnread : Type 0
LinesUnread = IsBlind definition
