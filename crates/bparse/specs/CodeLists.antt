-- Promise: a source that is compiled to a list of definitions, and a list, seen as a stream that their text is written
-- to.
use Rattle.std.specs.Prelude.{◌≡◌, ℕ, Bool, true, false, List, [], ◌∷◌, ◌++◌, Some, codes, if◌then◌else◌, map}
use Rattle.std.specs.List.{flat_map}
use Rattle.bword.specs.declared.edition.Edition.{Edition}
use Rattle.bword.specs.declared.edition.Edition.TheVariants as editions
use Rattle.bword.specs.ByteEnds.{CanFollow, Incoming, Kept, Outgoing, outgoing_of}
use Rattle.blang.specs.declared.code.Definition.{Definition}
use Rattle.blang.specs.declared.status.TheConstants.{DONE}
use Rattle.blang.specs.Code.{code_of}
use Rattle.blang.specs.Compiles.{Compilation, Compiles, CompilesTo}
use Rattle.blang.specs.Cut.{tokens_from}
use Rattle.blang.specs.Text.{definition_text, end_text, opening}
use Rattle.bparse.specs.Compiles.{CodeGives, run_of}
use Rattle.bparse.specs.declared.step.Step.{Step}
use Rattle.bparse.specs.declared.step.Step.TheVariants as step

-- The edition of a text, its definitions, whether its last line is there, and how often memory was refused.
pub record CodeList : Type 0 where
  pub edition : Edition
  pub definitions : List Definition
  pub is_ended : Bool
  pub refusals : ℕ

abbrev pub empty_list : CodeList
empty_list = record { edition = editions.One; definitions = []; is_ended = false; refusals = 0 }

-- nothing was taken yet
abbrev pub IsNew : CodeList → Type 0
IsNew l = (l.edition ≡ editions.One) × (l.definitions ≡ []) × (l.is_ended ≡ false)

abbrev pub list_text : CodeList → List ℕ
list_text l = opening l.edition ++ (flat_map definition_text l.definitions ++ (if l.is_ended then end_text else []))

abbrev pub kept_of : CodeList → Kept
kept_of l = record { bytes = list_text l; refusals = l.refusals }

abbrev pub outgoing_list : CodeList → Outgoing
outgoing_list l = outgoing_of (kept_of l)

-- texts of lists, with and without the lines around the definitions, which of them are new, and what is seen of one
pub record ListTexts : Type 0 where
  pub none : list_text empty_list ≡ []
  pub lines : list_text (record empty_list { edition = editions.Two; is_ended = true }) ≡ codes "B 2\nE\n"
  pub order : (a b : Definition) → list_text (record empty_list { definitions = a ∷ b ∷ []; is_ended = true })
      ≡ definition_text a ++ (definition_text b ++ end_text)
  -- nothing was taken where no text, no definition and no last line was
  pub new : IsNew empty_list
  pub begun : IsNew (record empty_list { edition = editions.Two }) → ⊥
  pub filled : (d : Definition) → IsNew (record empty_list { definitions = d ∷ [] }) → ⊥
  pub ended : IsNew (record empty_list { is_ended = true }) → ⊥
  pub seen : outgoing_list (record empty_list { refusals = 2 }) ≡ record { written = Some []; failures = 0; refusals = 2 }

-- A source was compiled to a list of these definitions. Where it has no fault, they are those of its code.
pub record CompilesList (edition : Edition) (source source_after : Incoming) (ds : List Definition)
    (line line_after : Outgoing) (status : ℕ) : Type 0 where
  pub list : CodeList
  pub listed : list.definitions ≡ ds
  pub compiles : Compiles (run_of edition source source_after (outgoing_list empty_list) (outgoing_list list)
      line line_after status)
  pub code : status ≡ DONE → (more : List ℕ) → CanFollow source_after more
      → (r : Compilation) (g : CompilesTo [] (tokens_from edition 1 (compiles.taken ++ more)) r)
      → ds ≡ map code_of g.definitions

-- What compiling all of a source to a list of these definitions answers. At its end they are those of its code, whatever
-- lines were told before.
pub record ListGives (edition : Edition) (source : Incoming) (answer : Step) (source_after : Incoming)
    (ds : List Definition) : Type 0 where
  pub list : CodeList
  pub listed : list.definitions ≡ ds
  pub gives : CodeGives edition source (outgoing_list empty_list) answer source_after (outgoing_list list)
  pub all : answer ≡ step.Finished → (line : Outgoing) → CompilesList edition source source_after ds line line DONE
