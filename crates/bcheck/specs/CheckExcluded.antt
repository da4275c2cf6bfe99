-- Promise: what the contract of a check excludes, whatever its source, its file and its output are.
use Rattle.std.specs.Prelude.{◌≡◌, ◌≢◌, ℕ, ◌+◌, ◌<◌, List, [], ◌++◌, Some, codes, map}
use Rattle.std.specs.Io.{StartsWith}
use Rattle.bword.specs.ByteEnds.{Grew}
use Rattle.bword.specs.declared.edition.Edition.TheVariants as editions
use Rattle.blang.specs.Code.{code_of}
use Rattle.blang.specs.Compiles.{Compilation, CompilesTo}
use Rattle.blang.specs.Cut.{tokens_from}
use Rattle.blang.specs.Layout.{load_fault}
use Rattle.blang.specs.declared.status.TheConstants.{DONE, DEVICE, MEMORY}
use Rattle.bcheck.specs.Checks.{Check, Checks, EditParts, mended, told_first}
use Rattle.blang.specs.Trees.{Definition as Tree}
use Rattle.blang.specs.WellFormed.{AllFormed}
use Rattle.blint.specs.SourceTokens.{IsSource}
use Rattle.blint.specs.Warns.{IsDueIn}
use Rattle.bmatch.specs.declared.tree.TokenPlace.{TokenPlace}
use Rattle.blint.specs.declared.warnings.Warning.{Warning}
use Rattle.bcheck.specs.declared.form.FindingForm.TheVariants as form

-- The source comes to this line and this status.
pub record ComesTo (c : Check) (line : List ℕ) (status : ℕ) : Type 0 where
  pub outcome : Compilation
  pub goes : CompilesTo [] (tokens_from c.edition 1 c.source) outcome
  pub told : told_first outcome.stop (load_fault (map code_of goes.definitions)) ≡ (line, status)

-- This text was written, and the status isn't that of a refused write.
pub record IsTold (c : Check) (text : List ℕ) : Type 0 where
  pub before : List ℕ
  pub old : c.out.written ≡ Some before
  pub new : c.out_after.written ≡ Some (before ++ text)
  pub whole : c.status < DEVICE

-- No check keeps its promise that tells such a text of a source that comes to such a line and such a status.
abbrev pub Never : ((c : Check) → (line : List ℕ) → (status : ℕ) → (text : List ℕ) → Type 0) → Type 0
Never Wrong = (c : Check) (line : List ℕ) (status : ℕ) (text : List ℕ) → ComesTo c line status → IsTold c text
    → Wrong c line status text → Checks c → ⊥

pub record Excluded : Type 0 where
  -- another status than the source's, as 0 for a fault, that of code for one of the source, or one for no main
  pub other_status : Never (λ c line status text. c.status ≢ status)
  -- an edit that changes nothing
  pub no_change : (source : List ℕ) (e : EditParts source) → mended e ≡ source → ⊥
  -- each source that compiles and loads is definitions
  pub is_definitions : (c : Check) (line : List ℕ) → ComesTo c line DONE
      → (ds : List Tree) × AllFormed ds × IsSource c.edition c.source ds
  -- of a source that is definitions, compiles and loads nothing, where a warning of a token is due
  pub no_warning : (c : Check) (line : List ℕ) → ComesTo c line DONE → IsTold c [] → (ds : List Tree)
      → AllFormed ds → IsSource c.edition c.source ds → (at : TokenPlace) (w : Warning)
      → IsDueIn c.edition c.files c.source ds at w → Checks c → ⊥
  -- 133 where no write failed; 134 after something written where no write was refused memory; another status above
  pub no_failure : (c : Check) (line : List ℕ) (status : ℕ) → ComesTo c line status → c.status ≡ DEVICE
      → (Grew c.out.failures c.out_after.failures → ⊥) → Checks c → ⊥
  pub no_refusal : (c : Check) (line : List ℕ) (status : ℕ) → ComesTo c line status → c.status ≡ MEMORY
      → (Grew c.out.refusals c.out_after.refusals → ⊥) → c.out_after ≢ c.out → Checks c → ⊥
  pub no_such_status : (c : Check) (line : List ℕ) (status : ℕ) → ComesTo c line status → MEMORY < c.status
      → Checks c → ⊥
  -- of a `break` outside of every loop the line of the other edition
  pub first_edition : (c : Check) (text : List ℕ) → c.source ≡ codes "f() break;" → c.edition ≡ editions.Two
      → c.form ≡ form.Text → IsTold c text → StartsWith text (codes "un break 1\n") → Checks c → ⊥
  pub second_edition : (c : Check) (text : List ℕ) → c.source ≡ codes "f() break;" → c.edition ≡ editions.One
      → c.form ≡ form.Text → IsTold c text → StartsWith text (codes "sx break 1\n") → Checks c → ⊥
