-- Promise: what the code of a definition is made of, and the ranges that a code text keeps. The parts of a definition,
-- with lists in place of vectors.
use Rattle.std.specs.Prelude.{ℕ, ◌<◌, ◌≤◌, List, length, All, IsTrue}
use Rattle.bword.specs.Words.{is_name}
use Rattle.blang.specs.declared.limits.TheConstants.{MAX_INSTRUCTIONS, MAX_LABELS, MAX_PARAMETERS, MAX_STRING_WORDS}
use Rattle.blang.specs.declared.limits.TheConstants.{MAX_VALUES, MAX_WORDS, WORD_VALUES}
use Rattle.blang.specs.declared.code.Sizes.{Sizes}
use Rattle.blang.specs.declared.code.Instr.{Instr}
use Rattle.blang.specs.declared.code.Ival.{Ival}
use Rattle.blang.specs.declared.code.FunctionParts.{FunctionParts}
use Rattle.blang.specs.declared.code.SimpleParts.{SimpleParts}
use Rattle.blang.specs.declared.code.VectorParts.{VectorParts}
use Rattle.blang.specs.declared.code.Instr.TheVariants as instr
use Rattle.blang.specs.declared.code.Ival.TheVariants as ival

-- a function, with the places of its labels and the words of its strings
pub record Function : Type 0 where
  pub name : List ℕ
  pub parameters : ℕ
  pub frame : ℕ
  pub targets : List ℕ
  pub strings : List ℕ
  pub code : List Instr

-- an external of consecutive words
pub record Simple : Type 0 where
  pub name : List ℕ
  pub values : List Ival
  pub strings : List ℕ

-- an external vector of this many words
pub record Vector : Type 0 where
  pub name : List ℕ
  pub words : ℕ
  pub values : List Ival
  pub strings : List ℕ

abbrev pub IsWord : ℕ → Type 0
IsWord n = n < WORD_VALUES

-- an initial value, in a definition with this many string words
abbrev pub IsIvalWithin : ℕ → Ival → Type 0
IsIvalWithin strings (ival.Number n) = IsWord n
IsIvalWithin strings (ival.Name name) = IsTrue (is_name name)
IsIvalWithin strings (ival.Text offset) = offset < strings

abbrev pub sizes_of : Function → Sizes
sizes_of f = record { frame = f.frame; labels = length f.targets; strings = length f.strings; code = length f.code }

-- an instruction, in a function of these sizes
abbrev pub IsInstrWithin : Sizes → Instr → Type 0
IsInstrWithin sizes (instr.Constant n) = IsWord n
IsInstrWithin sizes (instr.External name) = IsTrue (is_name name)
IsInstrWithin sizes (instr.Automatic k) = k < sizes.frame
IsInstrWithin sizes (instr.Text offset) = offset < sizes.strings
IsInstrWithin sizes (instr.Label k) = k < sizes.labels
IsInstrWithin sizes (instr.Jump place) = place < sizes.code
IsInstrWithin sizes (instr.JumpIfZero place) = place < sizes.code
IsInstrWithin sizes (instr.JumpIfCase value target) = IsWord value × (target < sizes.code)
IsInstrWithin sizes (instr.Call arguments) = IsWord arguments
IsInstrWithin sizes _ = Unit {0}

pub record IsFunctionWithinRanges (f : Function) : Type 0 where
  pub named : IsTrue (is_name f.name)
  pub few_parameters : f.parameters ≤ MAX_PARAMETERS
  pub parameters_in_frame : f.parameters ≤ f.frame
  pub frame : f.frame ≤ MAX_WORDS
  pub few_labels : length f.targets ≤ MAX_LABELS
  pub few_strings : length f.strings ≤ MAX_STRING_WORDS
  pub few_instrs : length f.code ≤ MAX_INSTRUCTIONS
  pub targets : All (λ t. t < length f.code) f.targets
  pub strings : All IsWord f.strings
  pub code : All (IsInstrWithin (sizes_of f)) f.code

pub record IsSimpleWithinRanges (s : Simple) : Type 0 where
  pub named : IsTrue (is_name s.name)
  pub few_values : length s.values ≤ MAX_VALUES
  pub few_strings : length s.strings ≤ MAX_STRING_WORDS
  pub values : All (IsIvalWithin (length s.strings)) s.values
  pub strings : All IsWord s.strings

pub record IsVectorWithinRanges (v : Vector) : Type 0 where
  pub named : IsTrue (is_name v.name)
  pub some_word : 1 ≤ v.words
  pub values_in_words : length v.values ≤ v.words
  pub few_words : v.words ≤ MAX_WORDS
  pub few_values : length v.values ≤ MAX_VALUES
  pub few_strings : length v.strings ≤ MAX_STRING_WORDS
  pub values : All (IsIvalWithin (length v.strings)) v.values
  pub strings : All IsWord v.strings

abbrev pub function_of : FunctionParts → Function
function_of p = record {
  name = p.name;
  parameters = p.parameters;
  frame = p.frame;
  targets = p.targets.items;
  strings = p.strings.items;
  code = p.code.items;
}

abbrev pub simple_of : SimpleParts → Simple
simple_of p = record { name = p.name; values = p.values.items; strings = p.strings.items }

abbrev pub vector_of : VectorParts → Vector
vector_of p = record { name = p.name; words = p.words; values = p.values.items; strings = p.strings.items }
