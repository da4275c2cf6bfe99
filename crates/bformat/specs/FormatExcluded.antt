-- Promise: what never comes of a source that is to be laid out, whatever its streams do.
use Rattle.std.specs.Prelude.{◌≡◌, ◌≢◌, ℕ, false, true, List, [], Some, None, ◌⊎◌}
use Rattle.bword.specs.ByteEnds.{Grew, Writes}
use Rattle.bword.specs.declared.edition.Edition.{Edition}
use Rattle.blang.specs.declared.status.TheConstants.{DEVICE, DONE, FAULT, MEMORY}
use Rattle.blang.specs.declared.token.Diagnostic.{Diagnostic}
use Rattle.blang.specs.Compiles.{Compilation, CompilesTo, line_of}
use Rattle.blang.specs.Cut.{tokens_from}
use Rattle.bformat.specs.declared.formatting.TheConstants.{CHANGES}
use Rattle.bformat.specs.Formats.{Format, Formats, FormatsBy, IsLayout, has_wrong_token}

-- Nothing is told of the source, and it has one of these statuses.
pub record TellsNothing (f : Format) : Type 0 where
  pub line : f.line_after ≡ f.line
  pub status : (f.status ≡ DONE) ⊎ (f.status ≡ CHANGES) ⊎ (f.status ≡ DEVICE) ⊎ (f.status ≡ MEMORY)

-- What is excluded of a source that comes to r.
pub record Excluded (f : Format) (r : Compilation) : Type 0 where
  -- a line that a source which compiles can't be laid out, or another status; the same where no token is wrong
  pub compiled : r.stop ≡ None → TellsNothing f
  pub fine : has_wrong_token f.edition f.source ≡ false → TellsNothing f
  -- 0 for a source with a wrong token
  pub done : f.status ≡ DONE → has_wrong_token f.edition f.source ≡ false
  -- 0 with another text than a layout of the source
  pub written : f.status ≡ DONE → f.is_check ≡ false
      → (text : List ℕ) × IsLayout f.edition f.source text × Writes f.out text f.out_after
  -- a text that a check writes
  pub checked : f.is_check ≡ true → f.out_after ≡ f.out
  -- 2 without a check
  pub changes : f.status ≡ CHANGES → f.is_check ≡ true
  -- 1 for a source without a wrong token, or with another line, or with anything else written
  pub fault : f.status ≡ FAULT → (has_wrong_token f.edition f.source ≡ true)
      × ((d : Diagnostic) × (r.stop ≡ Some d) × Writes f.line (line_of d) f.line_after) × (f.out_after ≡ f.out)
  -- 133 where no write failed
  pub device : f.status ≡ DEVICE
      → Grew f.out.failures f.out_after.failures ⊎ Grew f.line.failures f.line_after.failures

abbrev pub WrongLayouts : Type 0
WrongLayouts =
    (f : Format) (r : Compilation) → CompilesTo [] (tokens_from f.edition 1 f.source) r → Formats f → Excluded f r

-- Of one source without a wrong token a layout is written, and a check answers.
pub record Twice (check write : Format) : Type 0 where
  pub edition : check.edition ≡ write.edition
  pub source : check.source ≡ write.source
  pub fine : has_wrong_token write.edition write.source ≡ false
  pub looks : check.is_check ≡ true
  pub writes : write.is_check ≡ false
  pub written : write.status ≡ DONE

-- In a style that has one layout for each source: 0 of a check where another text is written than the source, and 2
-- where the source is.
abbrev pub ChecksAsWritten : Type 0
ChecksAsWritten =
    (layout : Edition → List ℕ → List ℕ) (check write : Format) → Twice check write
    → FormatsBy (λ edition source text. text ≡ layout edition source) check
    → FormatsBy (λ edition source text. text ≡ layout edition source) write
    → (check.status ≡ DONE → Writes write.out write.source write.out_after)
    × (check.status ≡ CHANGES
    → (text : List ℕ) × (text ≢ write.source) × Writes write.out text write.out_after)
