-- Promise: what no rewriting of a code text is.
use Rattle.std.specs.Prelude.{◌≡◌, [], ◌++◌, All, List, ℕ, Some}
use Rattle.bword.specs.ByteEnds.{Grew, Outgoing}
use Rattle.bword.specs.declared.edition.Edition.TheVariants as editions
use Rattle.bword.specs.declared.ends.EndFault.{EndFault}
use Rattle.blang.specs.Compiles.{Tells}
use Rattle.blang.specs.Text.{opening, definition_text, end_text, code_lines, joined, IsWithinRanges}
use Rattle.blang.specs.declared.code.Definition.{Definition}
use Rattle.blang.specs.declared.status.TheConstants.{DEVICE, MEMORY}
use Rattle.bcode.specs.Streams.{AreLines}
use Rattle.brun.specs.Migrates.{Rewriting, IsMigrated, HasBadLine, InputFailed, OutFailed, Migrates}

-- These bytes are all that was written.
pub record HasWritten (w : Rewriting) (bytes : List ℕ) : Type 0 where
  pub nothing : w.out.written ≡ Some []
  pub all : w.out_after.written ≡ Some bytes

pub record Unmigrated : Type 0 where
  -- a text of definitions of which none is written
  pub left_out : (w : Rewriting) (taken : List ℕ) → HasWritten w (opening editions.Two ++ end_text) → IsMigrated w taken
      → taken ≡ end_text
  -- a definition that was read and waits for the next one, where the next read fails
  pub kept_back : (w : Rewriting) (taken : List ℕ) (d : Definition) → IsWithinRanges d → taken ≡ definition_text d
      → HasWritten w (opening editions.Two) → InputFailed w taken → ⊥
  -- a byte after the wrong line is taken
  pub read_on : (w : Rewriting) (taken : List ℕ) (n : ℕ) → HasBadLine w taken n → (lines rest : List ℕ)
      → AreLines n lines → taken ≡ lines ++ rest → rest ≡ []
  -- a byte after the definition that the output refuses is taken
  pub read_past : (w : Rewriting) (taken : List ℕ) (fault : EndFault) (d : Definition) (more : List ℕ)
      → IsWithinRanges d → taken ≡ definition_text d ++ more → HasWritten w (opening editions.Two)
      → OutFailed w taken fault → more ≡ []
  -- something is read before the first line was written
  pub read_early : (w : Rewriting) (line line_after : Outgoing) (status : ℕ) → HasWritten w []
      → Migrates w line line_after status → w.input_after ≡ w.input
  -- a failure where none was, and want of memory at a text without definitions
  pub failure_invented : (w : Rewriting) (line line_after : Outgoing)
      → (Grew w.input.failures w.input_after.failures → ⊥) → (Grew w.out.failures w.out_after.failures → ⊥)
      → (Grew line.failures line_after.failures → ⊥) → Migrates w line line_after DEVICE → ⊥
  pub refusal_invented : (w : Rewriting) (line line_after : Outgoing) → Tells w.input end_text
      → (Grew w.out.refusals w.out_after.refusals → ⊥) → (Grew line.refusals line_after.refusals → ⊥)
      → Migrates w line line_after MEMORY → ⊥
  -- a last line after the definitions before a wrong line, and another line told as the first wrong one
  pub ended : (w : Rewriting) (taken : List ℕ) (n : ℕ) (ds : List Definition) → All IsWithinRanges ds
      → HasWritten w (joined (code_lines editions.Two ds)) → HasBadLine w taken n → ⊥
  pub other_line : (w : Rewriting) (taken : List ℕ) (n m : ℕ) → HasBadLine w taken n → HasBadLine w taken m → n ≡ m
  -- a text of the first edition written, and 0 after a read that failed
  pub not_rewritten : (w : Rewriting) (taken : List ℕ) (ds : List Definition)
      → HasWritten w (joined (code_lines editions.One ds)) → IsMigrated w taken → ⊥
  pub failure_passed : (w : Rewriting) (taken : List ℕ) → w.input.failures ≡ 0 → w.input_after.failures ≡ 1
      → IsMigrated w taken → ⊥
