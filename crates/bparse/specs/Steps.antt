-- Inner words: what reading and writing one definition does.
use Rattle.std.specs.Prelude.{◌≡◌, ◌≢◌, ℕ, ◌<◌, Bool, false, true, List, [], ◌∷◌, ◌++◌, Option, Some, None, Result, Ok}
use Rattle.std.specs.Prelude.{Err, ◌⊎◌}
use Rattle.bgrammar.specs.Compiled.{AreNames}
use Rattle.bgrammar.specs.DefinitionReader.{definition}
use Rattle.bgrammar.specs.Reading.{Got, Stop, first}
use Rattle.blang.specs.declared.token.Placed.{Placed}
use Rattle.bemit.specs.Trails.{trail, definition_trail}
use Rattle.bread.specs.Tokens.{Tokens, lines_in, tokens_of, IsSingle, TakesAhead, LooksAt, work}
use Rattle.bparse.specs.Locals.{Locals, locals_of}
use Rattle.bparse.specs.declared.step.Step.{Step}
use Rattle.bparse.specs.declared.step.Step.TheVariants as step
use Rattle.bword.specs.declared.edition.Edition.{Edition}
use Rattle.bword.specs.ByteEnds.{Outgoing, Grew, Writes, Refuses, CanFollow}
use Rattle.bword.specs.declared.ends.EndFault.{EndFault}
use Rattle.bword.specs.declared.ends.EndFault.TheVariants as end_fault
use Rattle.blang.specs.Cut.{tokens_from}
use Rattle.blang.specs.Text.{opening}
use Rattle.blang.specs.declared.token.Diagnostic.{Diagnostic}
use Rattle.blang.specs.declared.token.Token.{Token}
use Rattle.blang.specs.Compiles.{Defined, Compilation, CompilesTo, ending, next_text, compiled_text}
use Rattle.blang.specs.Trees.{Definition}
use Rattle.blang.specs.Scan.{identifier_of}
use Rattle.blang.specs.Code.{fault_of}
use Rattle.blang.specs.declared.token.Token.TheVariants as token

-- the tokens to come, the names of the definition that was read last, those defined so far and the output
pub record Point : Type 0 where
  pub tokens : Tokens
  pub locals : Option Locals
  pub names : Defined
  pub out : Outgoing

abbrev pub point : Tokens → Option Locals → Defined → Outgoing → Point
point tokens locals names out = record { tokens = tokens; locals = locals; names = names; out = out }

abbrev pub name_of : Definition → List ℕ
name_of d = (identifier_of d).text

-- the tokens to come are the last ones of a source
abbrev pub AreOfSource : Tokens → Type 0
AreOfSource tokens =
    (more : List ℕ) → CanFollow tokens.source.end more
    → (edition : Edition) × (bytes : List ℕ) × (passed : List Placed)
    × (tokens_from edition 1 bytes ≡ passed ++ tokens_of tokens more)

-- what comes of the source from a point on, where these bytes were taken and more follow
abbrev pub SourceComesTo : Point → List ℕ → List ℕ → Compilation → Type 0
SourceComesTo p taken more outcome = CompilesTo p.names (tokens_of p.tokens (taken ++ more)) outcome

-- each outcome of what comes, where these bytes were taken
abbrev pub EachComing : Point → List ℕ → Point → (Compilation → Type 0) → Type 0
EachComing old taken new P =
    (more : List ℕ) → CanFollow new.tokens.source.end more → (r : Compilation) → SourceComesTo old taken more r → P r

-- there is code: a definition's, or the last line
abbrev pub HasCode : Compilation → Type 0
HasCode r = r.code ≡ [] → r.stop ≡ None

-- A definition was read, which these tokens spell, and written; its names and the lines of its code are noted.
pub record Writing (old new : Point) : Type 0 where
  pub taken : List ℕ
  pub reads : TakesAhead old.tokens.source taken new.tokens.source
  pub looked : LooksAt old.tokens taken new.tokens
  pub failures : new.tokens.source.end.failures ≡ old.tokens.source.end.failures
  pub tree : Definition
  pub clean : fault_of old.names tree ≡ None
  pub read : (more : List ℕ) → CanFollow new.tokens.source.end more
      → definition (tokens_of old.tokens (taken ++ more)) ≡ Got tree (tokens_of new.tokens more)
  pub names : AreNames new.names (old.names ++ name_of tree ∷ [])
  pub written : Writes old.out (compiled_text tree) new.out
  pub single : IsSingle new.tokens
  pub falls : work new.tokens < work old.tokens
  pub locals : new.locals ≡ Some (locals_of tree)
  pub lines : (more : List ℕ) → CanFollow new.tokens.source.end more
      → definition_trail tree (lines_in (tokens_of old.tokens (taken ++ more)))
      ≡ trail (lines_in (tokens_of new.tokens more)) new.tokens.noted
  pub comes : (more : List ℕ) → CanFollow new.tokens.source.end more → (r : Compilation)
      → CompilesTo new.names (tokens_of new.tokens more) r
      → SourceComesTo old taken more (record { code = compiled_text tree ∷ r.code; stop = r.stop })

-- One token is ahead. A definition was read up to where none goes on with it, or a whole one; or none was, and the
-- source ends.
abbrev pub StandsAt : Tokens → List Placed → List Placed → Type 0
StandsAt new u v =
    IsSingle new
    × ((definition u ≡ Stop v) ⊎ ((d : Definition) × (definition u ≡ Got d v)) ⊎ ((v ≡ u) × (first new.ahead ≡ token.End)))

-- Nothing more comes, and the text's last line was written, or nothing where there is a fault.
pub record Stopping (old : Point) (stop : Option Diagnostic) (new : Point) : Type 0 where
  pub taken : List ℕ
  pub reads : TakesAhead old.tokens.source taken new.tokens.source
  pub looked : LooksAt old.tokens taken new.tokens
  pub failures : new.tokens.source.end.failures ≡ old.tokens.source.end.failures
  pub stands : (more : List ℕ) → CanFollow new.tokens.source.end more
      → StandsAt new.tokens (tokens_of old.tokens (taken ++ more)) (tokens_of new.tokens more)
  pub written : Writes old.out (ending stop) new.out
  pub comes : (more : List ℕ) → CanFollow new.tokens.source.end more
      → SourceComesTo old taken more (record { code = []; stop = stop })

-- A call broke off, and this holds of what comes.
pub record Breaking (old : Point) (P : Compilation → Type 0) (new : Point) : Type 0 where
  pub taken : List ℕ
  pub reads : TakesAhead old.tokens.source taken new.tokens.source
  pub each : EachComing old taken new P

-- The same, and no more was taken than up to the token after a definition, but for two bytes.
abbrev pub BreakingNear : Point → (Compilation → Type 0) → Point → Type 0
BreakingNear old P new = (b : Breaking old P new) × LooksAt old.tokens b.taken new.tokens
    × ((more : List ℕ) → CanFollow new.tokens.source.end more
    → StandsAt new.tokens (tokens_of old.tokens (b.taken ++ more)) (tokens_of new.tokens more))

-- a read failed, and nothing was written
abbrev pub ReadFails : Point → Point → Type 0
ReadFails old new =
    Breaking old (λ r. Unit {0}) new × Grew old.tokens.source.end.failures new.tokens.source.end.failures
    × (new.out ≡ old.out)

-- the output refused what is written next
abbrev pub OutRefuses : Point → EndFault → Point → Type 0
OutRefuses old fault new =
    BreakingNear old (λ r. HasCode r × Refuses old.out (next_text r.code r.stop) fault new.out) new
    × (new.tokens.source.end.failures ≡ old.tokens.source.end.failures)

-- the list of names was refused memory before a definition was written
abbrev pub NamesRefuse : Point → Point → Type 0
NamesRefuse old new =
    BreakingNear old (λ r. r.code ≡ [] → ⊥) new × (new.tokens.source.end.failures ≡ old.tokens.source.end.failures)
    × (new.out ≡ old.out)

-- what a call does: it writes a definition, or stops
abbrev pub PointGives : Point → Result (Unit {0}) Step → Point → Type 0
PointGives old (Ok u) new = Writing old new
PointGives old (Err step.Written) new = ⊥
PointGives old (Err step.Finished) new = Stopping old None new
PointGives old (Err (step.Fault fault)) new = Stopping old (Some fault) new
PointGives old (Err step.Device) new = ReadFails old new ⊎ OutRefuses old end_fault.Device new
PointGives old (Err step.Memory) new = OutRefuses old end_fault.Memory new ⊎ NamesRefuse old new
PointGives old (Err step.Closed) new = ⊥

abbrev pub refused_step : EndFault → Step
refused_step end_fault.Device = step.Device
refused_step end_fault.Memory = step.Memory

-- what a text of the edition begins with, where that is still to be written
abbrev pub to_begin : Bool → Edition → List ℕ
to_begin true edition = []
to_begin false edition = opening edition

-- The output refused so what the text begins with, before anything was read.
pub record BeginRefuses (start : List ℕ) (old : Point) (r : Result (Unit {0}) Step) (new : Point) : Type 0 where
  pub fault : EndFault
  pub answered : r ≡ Err (refused_step fault)
  pub some : start ≢ []
  pub refused : Refuses old.out start fault new.out
  pub unread : new.tokens ≡ old.tokens

-- What the text begins with was written, if that was still to be done, and then the call did this.
pub record OpensAndGives (start : List ℕ) (old : Point) (r : Result (Unit {0}) Step) (new : Point) : Type 0 where
  pub out : Outgoing
  pub written : Writes old.out start out
  pub nothing : start ≡ [] → out ≡ old.out
  pub gives : PointGives (point old.tokens old.locals old.names out) r new

-- what a call does for which this is still to be written first
abbrev pub GivesNext : List ℕ → Point → Result (Unit {0}) Step → Point → Type 0
GivesNext start old r new = BeginRefuses start old r new ⊎ OpensAndGives start old r new

abbrev pub is_end : Token → Bool
is_end token.End = true
is_end _ = false
