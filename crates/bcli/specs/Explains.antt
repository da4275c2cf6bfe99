-- Promise: what is told after the place where a run is over: what it means that there is no program, and
-- what tells more.
use Rattle.std.specs.Prelude.{◌≡◌, ◌⊎◌, ℕ, List, [], ◌++◌, codes}
use Rattle.bword.specs.ByteEnds.{Outgoing}
use Rattle.blang.specs.declared.code.Definition.{Definition}
use Rattle.blang.specs.declared.run.LoadFault.{LoadFault}
use Rattle.blang.specs.declared.run.LoadFault.TheVariants as load
use Rattle.blang.specs.declared.status.TheConstants.{FAULT, MEMORY, REFUSED}
use Rattle.blang.specs.declared.token.Letters.{Letters}
use Rattle.blang.specs.declared.token.Letters.TheVariants as letters
use Rattle.blang.specs.Machine.{Image}
use Rattle.blang.specs.Reports.{Reported, RunEnds}
use Rattle.bsources.specs.Files.{Files}
use Rattle.btools.specs.declared.program.ProgramFault.{ProgramFault}
use Rattle.btools.specs.declared.program.ProgramFault.TheVariants as why
use Rattle.btools.specs.Origins.{Code, HasNoProgramOf, IsSuited, Origin, ProgramOf, Source}
use Rattle.btrace.specs.Locates.{Locates}

-- what the letters of a fault mean
abbrev pub letters_meaning : Letters → List ℕ
letters_meaning letters.OpenComment = codes "a comment without an end"
letters_meaning letters.Character = codes "a byte that begins no token"
letters_meaning letters.LongName = codes "a name of more than eight characters"
letters_meaning letters.Constant = codes "a wrong number, character constant or string"
letters_meaning letters.Syntax = codes "a token that can't be there"
letters_meaning letters.Redeclared = codes "a name or a case that is there already"
letters_meaning letters.NotLvalue = codes "an operand that must be an lvalue and isn't"
letters_meaning letters.TooManyNames = codes "the 129th name of a function"
letters_meaning letters.TooManyCases = codes "the 257th case of a function"
letters_meaning letters.Undefined = codes "a name that is neither declared nor a label"
letters_meaning letters.TooLarge = codes "a definition past a limit of size"

-- what it means that definitions don't load
abbrev pub load_meaning : LoadFault → List ℕ
load_meaning (load.Duplicate name) = codes "a name is defined twice"
load_meaning load.TooLarge = codes "there are too many data or labels"
load_meaning (load.Undefined name) = codes "a name isn't defined"
load_meaning load.NoMain = codes "there is no function main"
load_meaning load.Memory = []

-- what tells more of a code text
abbrev pub code_advice : List ℕ
code_advice = codes "b run --where of the code text tells more"

-- what to do about it
abbrev pub load_advice : Origin → LoadFault → List ℕ
load_advice origin load.NoMain = codes "write a function main, with which a run begins"
load_advice (Source edition) f = codes "b check in place of b go --where tells more"
load_advice (Code c) f = code_advice

abbrev pub explained : (meaning advice : List ℕ) → List ℕ
explained meaning advice = codes "  means: " ++ meaning ++ codes "\nnext: " ++ advice ++ codes "\n"

-- what is told of a reason why there is no program
abbrev pub fault_explained : Origin → ProgramFault → List ℕ
fault_explained origin (why.Faulty d) =
    explained (letters_meaning d.letters) (codes "b check in place of b go --where shows the place, and a fix")
fault_explained origin (why.Unloaded f) = explained (load_meaning f) (load_advice origin f)
fault_explained origin (why.Unread n) = explained (codes "no code text goes on with this line") code_advice
fault_explained origin other = []

-- After a status that may be that of an origin without a program, the reason was told, if there is one; or memory was
-- refused for it.
pub data Explains (origin : Origin) (text : List ℕ) (located : ℕ) (old new : Outgoing) (status : ℕ) : Type 0 where
  tells : (fault : ProgramFault) → HasNoProgramOf origin text fault → (fault ≡ why.Memory → ⊥)
      → (located ≡ FAULT) ⊎ (located ≡ REFUSED)
      → Reported (fault_explained origin fault) located old new status → Explains origin text located old new status
  has_program : (ds : List Definition) (image : Image) → ProgramOf origin text ds image → IsSuited origin text
      → new ≡ old → status ≡ located → Explains origin text located old new status
  other_status : (located ≡ FAULT → ⊥) → (located ≡ REFUSED → ⊥) → new ≡ old → status ≡ located
      → Explains origin text located old new status
  no_memory : new ≡ old → status ≡ MEMORY → Explains origin text located old new status

-- The program was run, its place told with this status, and after its lines stands this; then what that means.
pub record LocatesAndExplains (origin : Origin) (text : List ℕ) (files : Files) (steps : ℕ) (ends : RunEnds)
    (status : ℕ) : Type 0 where
  pub located : ℕ
  pub line : Outgoing
  pub locates : Locates origin text files steps (record ends { line_after = line }) located
  pub explains : Explains origin text located line ends.line_after status
