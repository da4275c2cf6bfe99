-- Inner words: the tokens of a source, of which some are ahead, and what taking them does.
use Rattle.std.specs.Prelude.{◌≡◌, ℕ, ◌+◌, ◌≤◌, ◌⊎◌, Bool, true, false, List, [], ◌∷◌, ◌++◌, length, map, Option, Some, None}
use Rattle.std.specs.Prelude.{if◌then◌else◌}
use Rattle.bword.specs.ByteEnds.{Incoming, Grew, Took}
pub use Rattle.bword.specs.ByteEnds.{CanFollow}
use Rattle.bword.specs.declared.edition.Edition.{Edition}
use Rattle.std.specs.Option.{option_map}
use Rattle.blex.specs.Sources.{Source, room}
use Rattle.blex.specs.Lexemes.{placed_of, token_of_lexeme}
use Rattle.blang.specs.Cut.{is_last, token_first, tokens_from}
use Rattle.blang.specs.Endings.{EndsWith}
use Rattle.blex.specs.declared.lexer.Progress.{Progress}
use Rattle.blex.specs.declared.lexer.Progress.TheVariants as progress
use Rattle.blex.specs.declared.lexeme.Seen.{Seen}
use Rattle.blang.specs.declared.token.Token.{Token}
use Rattle.blang.specs.declared.token.Token.TheVariants as token
use Rattle.blang.specs.declared.token.Placed.{Placed}
use Rattle.bemit.specs.Trails.{Lines, no_lines}
use Rattle.bgrammar.specs.Reading.{Reader, first, line_ahead, after}

-- the source after the tokens that are ahead, what its lexer has come to, the text of its last string, and the lines
-- of what was made of the tokens before
pub record Tokens : Type 0 where
  pub source : Source
  pub progress : Progress
  pub text : List ℕ
  pub ahead : List Placed
  pub noted : Lines

abbrev pub with_noted : Lines → Tokens → Tokens
with_noted noted t = record t { noted = noted }

abbrev pub is_string : Token → Bool
is_string (token.String characters) = true
is_string _ = false

abbrev pub is_name : Token → Bool
is_name (token.Name text) = true
is_name _ = false

-- the token that was seen, if one was, which has this text if it is a string
abbrev pub token_seen : List ℕ → Option Seen → Option Placed
token_seen text seen = option_map (placed_of text) seen

-- the tokens that are ahead: the current one, and perhaps the one after it
abbrev pub both : Option Placed → Option Placed → List Placed
both None following = []
both (Some current) None = current ∷ []
both (Some current) (Some following) = current ∷ following ∷ []

-- a name was seen
abbrev pub is_name_seen : Option Seen → Bool
is_name_seen None = false
is_name_seen (Some seen) = is_name (token_of_lexeme seen.lexeme [])

-- Few bytes are ahead, and a token after the current one only where that is a name.
pub record InOrder (bytes : List ℕ) (current following : Option Seen) : Type 0 where
  pub near : length bytes ≤ 2
  pub alone : is_name_seen current ≡ false → following ≡ None

-- the tokens of what a stream has left, in an edition
abbrev pub all_tokens : Edition → Incoming → List ℕ → Tokens
all_tokens edition end lender = record {
  source = record { ahead = []; line = 1; end = end; lender = lender; edition = edition };
  progress = progress.Open;
  text = [];
  ahead = [];
  noted = no_lines;
}

abbrev pub tokens_with : List Placed → Edition → ℕ → List ℕ → List Placed
tokens_with [] edition line bytes = tokens_from edition line bytes
tokens_with (p ∷ ps) edition line bytes = token_first p.token p.line (tokens_with ps edition line bytes)

-- the tokens to come, where the end still gives these bytes
abbrev pub tokens_of : Tokens → List ℕ → List Placed
tokens_of t more = tokens_with t.ahead t.source.edition t.source.line (t.source.ahead ++ more)

-- more tokens can come, unless one of those ahead is the last
abbrev pub IsReadyWith : List Placed → Progress → Type 0
IsReadyWith [] reached = reached ≡ progress.Open
IsReadyWith (p ∷ ps) reached = is_last p.token ≡ false → IsReadyWith ps reached

abbrev pub IsReady : Tokens → Type 0
IsReady t = IsReadyWith t.ahead t.progress

-- The current token is ahead, and one after it only where it is a name.
pub record IsLoaded (t : Tokens) : Type 0 where
  pub current : Placed
  pub following : List Placed
  pub ahead : t.ahead ≡ current ∷ following
  pub alone : is_name current.token ≡ false → following ≡ []
  pub ready : IsReady t
  pub near : length t.source.ahead ≤ 2

-- No other is ahead.
abbrev pub IsSingle : Tokens → Type 0
IsSingle t = IsLoaded t × (after t.ahead ≡ [])

-- how many tokens can come at most, the last one aside
abbrev pub weight : Token → ℕ
weight t = if is_last t then 0 else 1

abbrev pub weights : List Placed → ℕ
weights [] = 0
weights (p ∷ ps) = weights ps + weight p.token

abbrev pub work : Tokens → ℕ
work t = room t.source + weights t.ahead

-- These bytes were taken from the end, and at most two of them not looked at yet.
pub record TakesAhead (old : Source) (taken : List ℕ) (new : Source) : Type 0 where
  pub took : Took old.end taken new.end
  pub lender : new.lender ≡ old.lender
  pub near : length new.ahead ≤ 2

-- the last of the tokens that are ahead
abbrev pub last_ahead : List Placed → Option Placed
last_ahead [] = None
last_ahead (p ∷ []) = Some p
last_ahead (p ∷ q ∷ ps) = last_ahead (q ∷ ps)

-- Bytes were looked at, of those read before and those taken. The last token ahead ends them, or was ahead before.
pub record LooksAt (old : Tokens) (taken : List ℕ) (new : Tokens) : Type 0 where
  pub edition : new.source.edition ≡ old.source.edition
  pub bytes : List ℕ
  pub split : old.source.ahead ++ taken ≡ bytes ++ new.source.ahead
  pub ends : (p : Placed) → last_ahead new.ahead ≡ Some p
      → EndsWith old.source.edition p.token bytes ⊎ ((bytes ≡ []) × (last_ahead old.ahead ≡ Some p))

-- the lines of tokens
abbrev pub lines_in : List Placed → List ℕ
lines_in ts = map (λ p. p.line) ts

-- Bytes were taken, and this holds of the tokens that came before and of those that come now, whatever the end
-- still gives. The lines that came before are what was passed and those that come now.
pub record Moves (old new : Tokens) (P : List Placed → List Placed → Type 0) : Type 0 where
  pub taken : List ℕ
  pub reads : TakesAhead old.source taken new.source
  pub looked : LooksAt old taken new
  pub failures : new.source.end.failures ≡ old.source.end.failures
  pub falls : work new ≤ work old
  pub come : (more : List ℕ) → CanFollow new.source.end more → P (tokens_of old (taken ++ more)) (tokens_of new more)
  pub passed : List ℕ → List ℕ
  pub spans : (more : List ℕ) → CanFollow new.source.end more
      → lines_in (tokens_of old (taken ++ more)) ≡ passed (lines_in (tokens_of new more))

-- No token was passed.
abbrev pub PassesNone : (List ℕ → List ℕ) → Type 0
PassesNone passed = (ls : List ℕ) → passed ls ≡ ls

-- One token was passed, which is the current one.
abbrev pub PassesOne : Tokens → (List ℕ → List ℕ) → Type 0
PassesOne old passed = (ls : List ℕ) → passed ls ≡ line_ahead old.ahead ∷ ls

-- Reading goes on with the second reader where it began with the first.
abbrev pub Runs : {A : Type 0} → Tokens → Tokens → Reader A → Reader A → Type 0
Runs old new before now = Moves old new (λ u v. before u ≡ now v)

-- A read failed.
pub record TokensFail (old new : Tokens) : Type 0 where
  pub taken : List ℕ
  pub reads : TakesAhead old.source taken new.source
  pub counted : Grew old.source.end.failures new.source.end.failures

-- the same tokens come
abbrev pub Same : List Placed → List Placed → Type 0
Same u v = u ≡ v

-- The current token, and where it is there the one after it, are ahead as they were.
abbrev pub KeepsAhead : List Placed → List Placed → Type 0
KeepsAhead [] new = Unit {0}
KeepsAhead (p ∷ ps) new = (first new ≡ p.token) × (line_ahead new ≡ p.line)

-- The tokens are as they were, and the current one is ahead.
pub record Looks (old new : Tokens) : Type 0 where
  pub moves : Moves old new Same
  pub loaded : IsLoaded new
  pub alone : after new.ahead ≡ after old.ahead
  pub keeps : KeepsAhead old.ahead new.ahead
  pub none : PassesNone moves.passed
  pub noted : new.noted ≡ old.noted

-- These tokens are those after the current one.
pub record AreAfter (ahead u v : List Placed) : Type 0 where
  pub rest : v ≡ after u
  pub token : first u ≡ first ahead
  pub line : line_ahead u ≡ line_ahead ahead

-- The current token was taken, and the next one is ahead. These lines are noted.
pub record AdvancesTo (noted : Lines) (old new : Tokens) : Type 0 where
  pub moves : Moves old new (AreAfter old.ahead)
  pub single : IsSingle new
  pub keeps : KeepsAhead (after old.ahead) new.ahead
  pub falls : work new + 1 ≤ work old
  pub one : PassesOne old moves.passed
  pub noted_is : new.noted ≡ noted

-- The same, and nothing was noted.
abbrev pub Advances : Tokens → Tokens → Type 0
Advances old new = AdvancesTo old.noted old new

-- The tokens are as they were, and the one after the current one is ahead.
pub record LooksOn (old new : Tokens) : Type 0 where
  pub moves : Moves old new Same
  pub loaded : IsLoaded new
  pub first_is : first new.ahead ≡ first old.ahead
  pub line_is : line_ahead new.ahead ≡ line_ahead old.ahead
  pub second : Placed
  pub second_is : after new.ahead ≡ second ∷ []
  pub none : PassesNone moves.passed
  pub noted : new.noted ≡ old.noted
