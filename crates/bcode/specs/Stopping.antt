-- Promise: a text as lines, each of which a state expects or not.
use Rattle.std.specs.Prelude.{◌≡◌, ℕ, zero, suc, ◌<◌, List, [], ◌∷◌, ◌++◌, replicate, ◌⊎◌}
use Rattle.blang.specs.CodeParts.{IsWord, IsInstrWithin, IsIvalWithin}
use Rattle.bcode.specs.Headers.{header_text, IsHeaderWithin}
use Rattle.blang.specs.Text.{edition_line, target_line, string_line, instr_line, ival_line}
use Rattle.bcode.specs.declared.header.Header.{Header}
use Rattle.bcode.specs.declared.header.Header.TheVariants as header
use Rattle.blang.specs.declared.code.Sizes.{Sizes}
use Rattle.blang.specs.declared.code.Instr.{Instr}
use Rattle.blang.specs.declared.code.Ival.{Ival}

-- what a line inside a definition can be
pub data LineKind : Type 0 where
  value : ℕ → LineKind
  target : ℕ → LineKind
  string : LineKind
  instruction : Sizes → LineKind

-- the line is one of these
abbrev pub IsOfKind : LineKind → List ℕ → Type 0
IsOfKind (value strings) l = (x : Ival) × IsIvalWithin strings x × (l ≡ ival_line x)
IsOfKind (target code) l = (n : ℕ) × (n < code) × (l ≡ target_line n)
IsOfKind string l = (n : ℕ) × IsWord n × (l ≡ string_line n)
IsOfKind (instruction sizes) l = (i : Instr) × IsInstrWithin sizes i × (l ≡ instr_line i)

-- the beginning; or the lines that have to come before the next definition; or nothing comes any more
pub data LineState : Type 0 where
  opens : LineState
  expects : List LineKind → LineState
  finished : LineState

-- the lines after a first line
abbrev pub kinds_after : Header → List LineKind
kinds_after (header.Function name parameters s) =
    replicate s.labels (target s.code) ++ (replicate s.strings string ++ replicate s.code (instruction s))
kinds_after (header.Simple name values strings) = replicate values (value strings) ++ replicate strings string
kinds_after (header.Vector name words values strings) = replicate values (value strings) ++ replicate strings string
kinds_after header.End = []

abbrev pub state_after : Header → LineState
state_after header.End = finished
state_after h = expects (kinds_after h)

-- the first line of a definition, or the last line, leads to this state
abbrev pub LeadsIn : List ℕ → LineState → Type 0
LeadsIn l to = (h : Header) × IsHeaderWithin h × (l ≡ header_text h) × (to ≡ state_after h)

-- a line leads from one state to the next
abbrev pub Leads : LineState → List ℕ → LineState → Type 0
Leads opens l to = ((l ≡ edition_line) × (to ≡ expects [])) ⊎ LeadsIn l to
Leads (expects []) l to = LeadsIn l to
Leads (expects (k ∷ ks)) l to = IsOfKind k l × (to ≡ expects ks)
Leads finished l to = ⊥

-- The first line of the text leads nowhere.
pub record Stuck (from : LineState) (text : List ℕ) : Type 0 where
  pub refused : (l : List ℕ) (to : LineState) (rest : List ℕ) → Leads from l to → text ≡ l ++ rest → ⊥
  pub not_finished : from ≡ finished → text ≡ [] → ⊥

-- after n lines the text is stuck
abbrev pub IsStuckAfter : ℕ → LineState → List ℕ → Type 0
IsStuckAfter zero from text = Stuck from text
IsStuckAfter (suc n) from text = (l : List ℕ) × (to : LineState) × (rest : List ℕ) × Leads from l to
    × (text ≡ l ++ rest) × IsStuckAfter n to rest
