-- Promise: what a watcher keeps of the lines and names of a source.
use Rattle.std.specs.Prelude.{◌≡◌, ◌⊎◌, ℕ, List, [], ◌++◌, Option, Some, None}
use Rattle.bword.specs.declared.edition.Edition.{Edition}
use Rattle.bword.specs.ByteEnds.{Incoming, Took, CanFollow}
use Rattle.blang.specs.Cut.{tokens_from}
use Rattle.blang.specs.Trees.{Definition}
use Rattle.blang.specs.Compiles.{Compilation, CompilesTo}
use Rattle.bread.specs.Tokens.{lines_in}
use Rattle.bparse.specs.Compilers.{Compiler, HasWrittenSince}
use Rattle.bparse.specs.Locals.{Notes, no_notes, with_notes, notes_of}
use Rattle.bparse.specs.declared.step.Step.{Step}
use Rattle.bparse.specs.declared.step.Step.TheVariants as step

-- A watcher that had kept this has kept what was noted after it, too, or from now on keeps nothing.
abbrev pub KeepsMore : Option Notes → Notes → Option Notes → Type 0
KeepsMore None more now = now ≡ None
KeepsMore (Some kept) more now = (now ≡ None) ⊎ (now ≡ Some (with_notes kept more))

-- What a watcher keeps when it has looked at the answer of a call: the notes of the definition that was written. The
-- compiler has some of each one.
abbrev pub WatchGives : Option Notes → Step → (notes : Option Notes) → Option Notes → Type 0
WatchGives kept step.Written (Some notes) now = KeepsMore kept notes now
WatchGives kept step.Written None now = Unit {0}
WatchGives kept answer notes now = KeepsMore kept no_notes now

-- A watcher has kept what is noted of all definitions that were written.
pub record KeptSince (kept : Option Notes) (c : Compiler) (now : Option Notes) : Type 0 where
  pub definitions : List Definition
  pub since : HasWrittenSince c definitions
  pub notes : (more : List ℕ) → CanFollow c.tokens.source.end more
      → KeepsMore kept (notes_of definitions (lines_in (tokens_from c.first.edition 1 (since.taken ++ more)))) now

-- A watcher has kept what is noted of all definitions of a source, which was read from one end to the other and has no
-- fault.
pub record KeptAll (edition : Edition) (source source_after : Incoming) (kept now : Option Notes) : Type 0 where
  pub taken : List ℕ
  pub took : Took source taken source_after
  pub notes : (more : List ℕ) → CanFollow source_after more → (r : Compilation)
      → (g : CompilesTo [] (tokens_from edition 1 (taken ++ more)) r)
      → (r.stop ≡ None)
      × KeepsMore kept (notes_of g.definitions (lines_in (tokens_from edition 1 (taken ++ more)))) now

-- what a watcher has kept when all definitions were written
abbrev pub Watched : Edition → Incoming → Option Notes → Step → Incoming → Option Notes → Type 0
Watched edition source kept step.Finished source_after now = KeptAll edition source source_after kept now
Watched edition source kept answer source_after now = Unit {0}
