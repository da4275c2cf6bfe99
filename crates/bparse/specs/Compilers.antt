-- Promise: what a call of the compiler does, counted from when the compiler was made.
use Rattle.std.specs.Prelude.{◌≡◌, ◌≢◌, ℕ, ◌≤◌, ◌<◌, Bool, true, false, List, [], ◌∷◌, ◌++◌, length, map, Option, Some}
use Rattle.std.specs.Prelude.{None, ◌⊎◌, if◌then◌else◌}
use Rattle.std.specs.Option.{option_map}
use Rattle.bgrammar.specs.Compiled.{AreNames}
use Rattle.blang.specs.Lines.{program_lines, lines_after}
use Rattle.bread.specs.Tokens.{Tokens, lines_in, all_tokens, tokens_of, IsReady, IsSingle, last_ahead, work}
use Rattle.bemit.specs.Drafts.{fresh}
use Rattle.bparse.specs.Locals.{Locals, Notes, locals_in, locals_of, table_frame}
use Rattle.bparse.specs.Steps.{name_of, HasCode, to_begin, StandsAt}
use Rattle.bparse.specs.declared.step.Step.{Step}
use Rattle.bparse.specs.declared.step.Step.TheVariants as step
use Rattle.bword.specs.declared.edition.Edition.{Edition}
use Rattle.bword.specs.ByteEnds.{Incoming, Outgoing, Took, Grew, Writes, Refuses, CanFollow}
use Rattle.bword.specs.declared.ends.EndFault.{EndFault}
use Rattle.bword.specs.declared.ends.EndFault.TheVariants as end_fault
use Rattle.blang.specs.Text.{joined, opening}
use Rattle.blang.specs.Cut.{tokens_from}
use Rattle.blang.specs.Endings.{EndsWith}
use Rattle.blang.specs.declared.token.Diagnostic.{Diagnostic}
use Rattle.blang.specs.declared.token.Placed.{Placed}
use Rattle.blang.specs.Compiles.{Defined, Compilation, CompilesTo, ending, next_text, compiled_text, Whatever}
use Rattle.blang.specs.Trees.{Definition, kept}
use Rattle.blang.specs.Code.{fault_of}
use Rattle.blang.specs.Walk.{spell_all}
use Rattle.blang.specs.WellFormed.{AllFormed}

-- the edition of a compiler, what its input and its output end told when it was made, and which they are
pub record CompilerStart : Type 0 where
  pub edition : Edition
  pub source : Incoming
  pub lender : List ℕ
  pub out : Outgoing
  pub out_lender : List ℕ

-- how a compiler began, the tokens to come, the names of the definition that was read last, those defined so far, the
-- output now, whether what its text begins with is written, and whether it has stopped
pub record Compiler : Type 0 where
  pub first : CompilerStart
  pub tokens : Tokens
  pub locals : Option Locals
  pub names : Defined
  pub out : Outgoing
  pub out_lender : List ℕ
  pub is_begun : Bool
  pub is_closed : Bool

abbrev pub compiler_of : CompilerStart → Tokens → Option Locals → Defined → Outgoing → List ℕ → Bool → Bool → Compiler
compiler_of start tokens locals names out out_lender is_begun is_closed = record {
  first = start;
  tokens = tokens;
  locals = locals;
  names = names;
  out = out;
  out_lender = out_lender;
  is_begun = is_begun;
  is_closed = is_closed;
}

abbrev pub compiler_start : Edition → Incoming → List ℕ → Outgoing → List ℕ → CompilerStart
compiler_start edition source lender out out_lender =
    record { edition = edition; source = source; lender = lender; out = out; out_lender = out_lender }

-- a compiler that has read and written nothing
abbrev pub new : CompilerStart → Compiler
new start =
    compiler_of start (all_tokens start.edition start.source start.lender) (locals_in fresh) []
    start.out start.out_lender false false

-- what the text begins with, where it is written, and where it is still to be written
abbrev pub opening_written : Compiler → List ℕ
opening_written c = if c.is_begun then opening c.first.edition else []

abbrev pub unopened : Compiler → List ℕ
unopened c = to_begin c.is_begun c.first.edition

-- What the text begins with was written, if that was still to be done.
pub record OpeningWritten (c : Compiler) (out : Outgoing) : Type 0 where
  pub written : Writes c.out (unopened c) out
  pub nothing : unopened c ≡ [] → out ≡ c.out

-- The tokens are those of these definitions, and then the others.
pub record Spelled (ds : List Definition) (tokens others : List Placed) : Type 0 where
  pub passed : List Placed
  pub split : tokens ≡ passed ++ others
  pub spelled : map kept passed ≡ spell_all ds

-- An outcome begins with the texts of these definitions, and goes on so.
pub record GoesOnAfter (ds : List Definition) (rest outcome : Compilation) : Type 0 where
  pub code : outcome.code ≡ map compiled_text ds ++ rest.code
  pub stop : outcome.stop ≡ rest.stop

-- Of the bytes taken, all but two at most were passed, and these end with the last token that is held, in an edition.
pub record TakenNear (edition : Edition) (taken : List ℕ) (tokens : Tokens) : Type 0 where
  pub passed : List ℕ
  pub split : taken ≡ passed ++ tokens.source.ahead
  pub few : length tokens.source.ahead ≤ 2
  pub edition_is : tokens.source.edition ≡ edition
  pub ends : (p : Placed) → last_ahead tokens.ahead ≡ Some p → EndsWith edition p.token passed

-- Since a compiler was made, it has written what its text begins with and the texts of these definitions, and nothing
-- else; before its first call nothing, and nothing was taken. The definitions are the first ones of the source, none
-- has a fault, and the tokens to come are those directly after them.
pub record HasWrittenSince (c : Compiler) (ds : List Definition) : Type 0 where
  pub taken : List ℕ
  pub took : Took c.first.source taken c.tokens.source.end
  pub near : TakenNear c.first.edition taken c.tokens
  pub failures : c.tokens.source.end.failures ≡ c.first.source.failures
  pub unbegun : c.is_begun ≡ false → (ds ≡ []) × (c.tokens.source.end ≡ c.first.source)
  pub written : Writes c.first.out (opening_written c ++ joined (map compiled_text ds)) c.out
  pub names : AreNames c.names (map name_of ds)
  pub formed : AllFormed ds
  pub spelled : (more : List ℕ) → CanFollow c.tokens.source.end more
      → Spelled ds (tokens_from c.first.edition 1 (taken ++ more)) (tokens_of c.tokens more)
  pub comes : (more : List ℕ) → CanFollow c.tokens.source.end more → (r : Compilation)
      → CompilesTo [] (tokens_from c.first.edition 1 (taken ++ more)) r
      → (rest : Compilation) × CompilesTo c.names (tokens_of c.tokens more) rest × GoesOnAfter ds rest r
  pub is_open : c.is_closed ≡ false

-- more definitions can come
pub record MoreCanBeWritten (c : Compiler) : Type 0 where
  pub before : List Definition
  pub since : HasWrittenSince c before
  pub ready : IsReady c.tokens

-- A definition more was written, and one token is held, the one after it. Its names are noted, and the lines of its
-- code, by those of all tokens of the source.
pub record Wrote {old : Compiler} {before : List Definition} (since : HasWrittenSince old before) (new : Compiler)
    : Type 0 where
  pub definition : Definition
  pub now : HasWrittenSince new (before ++ definition ∷ [])
  pub taken : List ℕ
  pub took : Took old.tokens.source.end taken new.tokens.source.end
  pub all_taken : now.taken ≡ since.taken ++ taken
  pub clean : fault_of old.names definition ≡ None
  pub held : IsSingle new.tokens
  pub falls : work new.tokens < work old.tokens
  pub locals : new.locals ≡ Some (locals_of definition)
  pub lines : (more : List ℕ) → CanFollow new.tokens.source.end more
      → new.tokens.noted.lines
      ≡ program_lines (definition ∷ []) (lines_after before (lines_in (tokens_from new.first.edition 1 (now.taken ++ more))))

-- A call took these bytes. Of all taken so far all but two at most end with the last token held, and reading stands so.
pub record ReadNoFurther {old : Compiler} {before : List Definition} (since : HasWrittenSince old before)
    (taken : List ℕ) (new : Compiler) : Type 0 where
  pub near : TakenNear old.first.edition (since.taken ++ taken) new.tokens
  pub stands : (more : List ℕ) → CanFollow new.tokens.source.end more
      → StandsAt new.tokens (tokens_of old.tokens (taken ++ more)) (tokens_of new.tokens more)

-- The source comes to the definitions written before and then stops so. Its last line was written, if it has no fault.
pub record StoppedAfter {old : Compiler} {before : List Definition} (since : HasWrittenSince old before)
    (stop : Option Diagnostic) (new : Compiler) : Type 0 where
  pub taken : List ℕ
  pub took : Took old.tokens.source.end taken new.tokens.source.end
  pub no_further : ReadNoFurther since taken new
  pub failures : new.tokens.source.end.failures ≡ old.first.source.failures
  pub written : Writes old.first.out (opening old.first.edition ++ (joined (map compiled_text before) ++ ending stop))
      new.out
  pub comes : Whatever old.first.edition (since.taken ++ taken) new.tokens.source.end
      (λ r. (r.code ≡ map compiled_text before) × (r.stop ≡ stop))
  pub closed : new.is_closed ≡ true

-- A call broke off, and this holds of what comes after the definitions written before.
pub record BrokeOff {old : Compiler} {before : List Definition} (since : HasWrittenSince old before)
    (P : Compilation → Type 0) (new : Compiler) : Type 0 where
  pub taken : List ℕ
  pub took : Took old.tokens.source.end taken new.tokens.source.end
  pub comes : Whatever old.first.edition (since.taken ++ taken) new.tokens.source.end
      (λ r. (rest : Compilation) × GoesOnAfter before rest r × P rest)
  pub closed : new.is_closed ≡ true

-- the same, and it took no more bytes than that
abbrev pub BrokeOffNear : {old : Compiler} {before : List Definition} → HasWrittenSince old before
    → (Compilation → Type 0) → Compiler → Type 0
BrokeOffNear since P new = (b : BrokeOff since P new) × ReadNoFurther since b.taken new

-- a read failed, and no definition was written
abbrev pub ReadFailed : {old : Compiler} {before : List Definition} → HasWrittenSince old before → Compiler → Type 0
ReadFailed {old = old} since new =
    BrokeOff since (λ rest. Unit {0}) new × Grew old.first.source.failures new.tokens.source.end.failures
    × OpeningWritten old new.out

-- the output refused what the text begins with, before anything was read
pub record BeginRefused (old : Compiler) (fault : EndFault) (new : Compiler) : Type 0 where
  pub some : unopened old ≢ []
  pub refused : Refuses old.out (unopened old) fault new.out
  pub unread : new.tokens ≡ old.tokens
  pub closed : new.is_closed ≡ true

-- the output refused what is written next, of which a beginning was written
abbrev pub OutRefused : {old : Compiler} {before : List Definition} → HasWrittenSince old before → EndFault → Compiler
    → Type 0
OutRefused {old = old} since fault new =
    (out : Outgoing) × OpeningWritten old out
    × BrokeOffNear since (λ rest. HasCode rest × Refuses out (next_text rest.code rest.stop) fault new.out) new
    × (new.tokens.source.end.failures ≡ old.first.source.failures)

-- the list of names was refused its growth, before anything was written of the definition that comes
abbrev pub GrowthRefused : {old : Compiler} {before : List Definition} → HasWrittenSince old before → Compiler → Type 0
GrowthRefused {old = old} since new =
    BrokeOffNear since (λ rest. rest.code ≡ [] → ⊥) new
    × (new.tokens.source.end.failures ≡ old.first.source.failures) × OpeningWritten old new.out

-- what a call does after these definitions
abbrev pub GivesAfter : {old : Compiler} {before : List Definition} → HasWrittenSince old before → Step → Compiler
    → Type 0
GivesAfter since step.Written new = Wrote since new
GivesAfter {old} {before} since step.Finished new = StoppedAfter since None new
GivesAfter {old} {before} since (step.Fault fault) new = StoppedAfter since (Some fault) new
GivesAfter {old} {before} since step.Device new =
    ReadFailed since new ⊎ OutRefused since end_fault.Device new ⊎ BeginRefused old end_fault.Device new
GivesAfter {old} {before} since step.Memory new =
    GrowthRefused since new ⊎ OutRefused since end_fault.Memory new ⊎ BeginRefused old end_fault.Memory new
GivesAfter {old} {before} since step.Closed new = ⊥

-- what a call does, whichever definitions were written before
abbrev pub CompilerGives : Compiler → Step → Compiler → Type 0
CompilerGives old step.Closed new = (old.is_closed ≡ true) × (new ≡ old)
CompilerGives old answer new =
    MoreCanBeWritten old
    × ((before : List Definition) (since : HasWrittenSince old before) → GivesAfter since answer new)

-- what a compiler tells of the definition that was read last
abbrev pub notes_by : Compiler → Option Notes
notes_by c = option_map (λ l. record { lines = c.tokens.noted.lines; frames = table_frame l }) c.locals

-- the compiler is over the same ends
pub record SameCompiler (old new : Compiler) : Type 0 where
  pub first : new.first ≡ old.first
  pub lender : new.tokens.source.lender ≡ old.tokens.source.lender
  pub out_lender : new.out_lender ≡ old.out_lender
