-- Promise: what is written for a source without a fault can be read back.
use Rattle.std.specs.Prelude.{◌≡◌, ℕ, List, [], map, None}
use Rattle.bword.specs.declared.edition.Edition.{Edition}
use Rattle.blang.specs.Text.{IsTextOf}
use Rattle.blang.specs.Cut.{tokens_from}
use Rattle.blang.specs.Code.{code_of}
use Rattle.blang.specs.Compiles.{Compilation, CompilesTo, code_text}

-- the text is the code text of the definitions of the source
abbrev pub ReadsBack : Type 0
ReadsBack =
    (edition : Edition) (line : ℕ) (bytes : List ℕ) (r : Compilation)
    (g : CompilesTo [] (tokens_from edition line bytes) r)
    → r.stop ≡ None → IsTextOf edition (code_text edition r) (map code_of g.definitions)
