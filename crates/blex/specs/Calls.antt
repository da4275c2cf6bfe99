-- Promise: what some calls of a lexer give, from the first on.
use Rattle.std.specs.Prelude.{◌≡◌, ℕ, zero, suc, ◌≤◌, false, List, [], ◌∷◌, ◌++◌, length, Some, Ok, if◌then◌else◌}
use Rattle.bword.specs.ByteEnds.{Incoming, Took, CanFollow}
use Rattle.bword.specs.declared.edition.Edition.{Edition}
use Rattle.blang.specs.declared.token.Token.TheVariants as token
use Rattle.blang.specs.declared.token.Placed.{Placed}
use Rattle.blang.specs.Cut.{Word, whole, placed, is_last, line_number_after, tokens_from}
use Rattle.blex.specs.Lexers.{Lexer, LexGives, new}

-- Calls, one after the other, gave these tokens, and none failed.
abbrev pub Calls : Lexer → List Placed → Lexer → Type 0
Calls old [] after = after ≡ old
Calls old (p ∷ ps) after = (between : Lexer) × LexGives old (Ok p) between × Calls between ps after

-- the first n tokens, the last of which comes again where there are no more
abbrev pub first_tokens : ℕ → List Placed → List Placed
first_tokens zero ts = []
first_tokens (suc n) [] = []
first_tokens (suc n) (t ∷ []) = t ∷ first_tokens n (t ∷ [])
first_tokens (suc n) (t ∷ u ∷ us) = t ∷ first_tokens n (u ∷ us)

-- tokens without those that come again
abbrev pub once : List Placed → List Placed
once [] = []
once (t ∷ ts) = t ∷ (if is_last t.token then [] else once ts)

-- The bytes are these tokens, with space before each and nothing after the last one.
abbrev pub Spells : Edition → ℕ → List Placed → List ℕ → Type 0
Spells edition line [] bytes = bytes ≡ []
Spells edition line (t ∷ ts) bytes = (space : List ℕ) × (text : List ℕ) × (rest : List ℕ)
    × (bytes ≡ (space ++ text) ++ rest)
    × (tokens_from edition line space ≡ placed token.End t.line ∷ []) × (whole edition text ≡ Some (Word t.token))
    × Spells edition (line_number_after line (space ++ text)) ts rest

-- The lexer of a stream has given the first tokens of the source.
pub record GaveFirst (edition : Edition) (end : Incoming) (answers : List Placed) (l : Lexer) : Type 0 where
  -- what was taken from the end are the tokens that were given, and at most two bytes
  pub passed : List ℕ
  pub took : Took end (passed ++ l.source.ahead) l.source.end
  pub spells : Spells edition 1 (once answers) passed
  pub near : length l.source.ahead ≤ 2
  -- they are the first tokens of every source that begins so
  pub any : (more : List ℕ) → CanFollow l.source.end more
      → first_tokens (length answers) (tokens_from edition 1 ((passed ++ l.source.ahead) ++ more)) ≡ answers
  -- and of the bytes that the end tells
  pub told : (bytes : List ℕ) → end.left ≡ Some bytes → end.is_over ≡ false
      → first_tokens (length answers) (tokens_from edition 1 bytes) ≡ answers
  pub failures : l.source.end.failures ≡ end.failures

-- Calls of a new lexer give the first tokens of its source.
abbrev pub CallsGiveFirst : Type 0
CallsGiveFirst = (edition : Edition) (end : Incoming) (lender : List ℕ) (answers : List Placed) (l : Lexer)
    → Calls (new edition end lender) answers l → GaveFirst edition end answers l
