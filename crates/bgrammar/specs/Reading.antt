-- Inner words: reading from the left, with one token ahead.
use Rattle.std.specs.Prelude.{ℕ, zero, suc, List, [], ◌∷◌, length, Bool, Option, Some, None, if◌then◌else◌}
use Rattle.blang.specs.declared.token.Token.{Token}
use Rattle.blang.specs.declared.token.Token.TheVariants as token
use Rattle.blang.specs.declared.token.Placed.{Placed}

-- something, with the tokens after it; or the tokens from the first wrong one
pub data Read (A : Type 0) : Type 0 where
  Got : (a : A) → (rest : List Placed) → Read A
  Stop : (rest : List Placed) → Read A

abbrev pub Reader : Type 0 → Type 0
Reader A = List Placed → Read A

infixl 10 ◌>>=◌
abbrev pub ◌>>=◌ : {A B : Type 0} → Read A → (A → Reader B) → Read B
(Got a rest) >>= f = f a rest
(Stop rest) >>= f = Stop rest

-- what to do where there is something, and else
abbrev pub at_some : {A B : Type 0} → Option B → (B → Read A) → Read A → Read A
at_some (Some b) f otherwise = f b
at_some None f otherwise = otherwise

-- the next token; after the last one comes End
abbrev pub first : List Placed → Token
first [] = token.End
first (p ∷ ts) = p.token

abbrev pub line_ahead : List Placed → ℕ
line_ahead [] = 0
line_ahead (p ∷ ts) = p.line

abbrev pub after : List Placed → List Placed
after [] = []
after (p ∷ ts) = ts

abbrev pub expect : (Token → Bool) → Reader (Unit {0})
expect is ts = if is (first ts) then Got tt (after ts) else Stop ts

-- A loop goes on while the next token has something for what was read so far.
abbrev pub turns : {A B : Type 0} → (A → Token → Option B) → (B → A → Reader A) → ℕ → A → Reader A
turns more body zero a ts = Got a ts
turns more body (suc n) a ts = at_some (more a (first ts)) (λ b. body b a ts >>= turns more body n) (Got a ts)

abbrev pub many : {A B : Type 0} → (A → Token → Option B) → (B → A → Reader A) → A → Reader A
many more body a ts = turns more body (length ts) a ts
