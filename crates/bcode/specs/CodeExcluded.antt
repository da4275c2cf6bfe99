-- Promise: what no writer of a code text, no call of `read_code` and no reader does.
use Rattle.std.specs.Prelude.{◌≡◌, ℕ, suc, ◌≤◌, true, false, List, [], ◌++◌, length, All, Some, Ok, codes}
use Rattle.std.specs.List.{flat_map}
use Rattle.bword.specs.ByteEnds.{Outgoing, PutGives}
use Rattle.bword.specs.declared.edition.Edition.{Edition}
use Rattle.bword.specs.declared.edition.Edition.TheVariants as editions
use Rattle.bcode.specs.Copying.{TextGives}
use Rattle.bcode.specs.Faults.{IsFaultLine, HasHeader}
use Rattle.bcode.specs.Readers.{CodeReader, HasTaken, TextEnded, StoppedAtLine, MemoryRefused, ReadBroke, StepGives}
use Rattle.bcode.specs.Readers.{code_step, opening_read}
use Rattle.bcode.specs.Streams.{AreLines}
use Rattle.blang.specs.Text.{definition_text, opening, IsCodeText, IsWithinRanges}
use Rattle.blang.specs.declared.code.Definition.{Definition}
use Rattle.blang.specs.declared.limits.TheConstants.{LINE_LEN}

pub record Excluded : Type 0 where
  -- a call that succeeds writes other bytes than the text
  pub other_text : (d : Definition) (o p : Outgoing) (bytes : List ℕ) → o.written ≡ Some [] → p.written ≡ Some bytes
      → PutGives o (definition_text d) (Ok tt) p → bytes ≡ definition_text d
  -- a text with a number that begins with a zero is read, or one without its last line
  pub leading_zero : (ds : List Definition) → IsCodeText (codes "X n 1 0\nc 007\nE\n") ds → ⊥
  pub unended : (edition : Edition) (ds es : List Definition) → All IsWithinRanges ds
      → IsCodeText (opening edition ++ flat_map definition_text ds) es → ⊥
  -- two lines of one text are the first at fault
  pub other_line : (text : List ℕ) (n m : ℕ) → IsFaultLine text n → IsFaultLine text m → n ≡ m
  -- memory is wanted before the header of a definition
  pub no_header : HasHeader (codes "E\n") → ⊥
  -- more bytes are taken than those of the definitions' texts, or fewer
  pub taken_on : (r : CodeReader) (ds : List Definition) (rest left : List ℕ) → HasTaken r ds
      → r.first.source.left ≡ Some (opening_read r ++ flat_map definition_text ds ++ rest)
      → r.ahead.end.left ≡ Some left → left ≡ rest
  -- a byte after the line that is at fault is taken
  pub read_on : (before : List Definition) (old new : CodeReader) (n : ℕ) (h : StoppedAtLine before old n new)
      → (lines rest : List ℕ) → AreLines n lines → h.taken ≡ lines ++ rest → rest ≡ []
  -- more bytes of that line are taken than any line has
  pub never_ends : (before : List Definition) (old new : CodeReader) (n : ℕ) (h : StoppedAtLine before old (suc n) new)
      → (lines rest : List ℕ) → AreLines n lines → h.taken ≡ lines ++ rest → length rest ≤ LINE_LEN
  -- a definition that was whole isn't given: a read fails after it, or memory is wanted for a byte after it
  pub lost_before_failure : (before : List Definition) (d : Definition) (old new : CodeReader) (more : List ℕ)
      → IsWithinRanges d → opening_read old ≡ opening old.first.edition
      → old.ahead.end.left ≡ Some (definition_text d ++ more) → new.ahead.end.left ≡ Some more
      → ReadBroke before old new → ⊥
  pub held_back : (before : List Definition) (old new : CodeReader) (h : MemoryRefused before old new)
      → (d : Definition) (rest : List ℕ) → IsWithinRanges d
      → h.taken ≡ opening old.first.edition ++ flat_map definition_text before ++ (definition_text d ++ rest)
      → rest ≡ []
  -- a reader of the first edition reads a text of the second, or an end comes that wasn't seen
  pub other_edition : (before : List Definition) (old new : CodeReader) (rest : List ℕ)
      → old.first.edition ≡ editions.One → old.first.source.left ≡ Some (opening editions.Two ++ rest)
      → new.ahead.end.left ≡ Some [] → TextEnded before old new → ⊥
  pub unseen_end : (before : List Definition) (old new : CodeReader) → new.ahead.end.is_over ≡ false
      → TextEnded before old new → ⊥
  -- other bytes are copied than those that were taken, or not after the text that was there
  pub copied_other : (ds : List Definition) (old new : CodeReader) (before after rest left : List ℕ) → HasTaken old ds
      → TextGives (λ answer. StepGives old (code_step answer) new) (Ok true) before after
      → new.first.source.left ≡ Some (opening_read new ++ flat_map definition_text ds ++ rest)
      → new.ahead.end.left ≡ Some left → after ++ left ≡ before ++ rest
