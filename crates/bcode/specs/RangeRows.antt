-- Closed facts: the ranges of a code text: each at its limit, and one past it.
use Rattle.std.specs.Prelude.{ℕ, ◌<◌, ◌≤◌, [], length, replicate, codes, refl}
use Rattle.std.proofs.Common.{arith}
use Rattle.std.proofs.lemmas.List.{length-replicate}
use Rattle.std.proofs.lemmas.List.Elements.{All-nil, All-replicate, All-head}
use Rattle.blang.specs.CodeParts.{Function, Simple, Vector, IsWord, IsInstrWithin, IsIvalWithin, IsFunctionWithinRanges}
use Rattle.blang.specs.CodeParts.{IsSimpleWithinRanges, IsVectorWithinRanges, sizes_of}
use Rattle.blang.specs.declared.code.Sizes.{Sizes}
use Rattle.blang.specs.declared.code.Instr.{Instr}
use Rattle.blang.specs.declared.code.Instr.TheVariants as instr
use Rattle.blang.specs.declared.code.Ival.TheVariants as ival

-- definitions with so many of each part
abbrev function : ℕ → ℕ → ℕ → ℕ → ℕ → ℕ → Function
function parameters frame labels target strings code = record {
  name = codes "f";
  parameters = parameters;
  frame = frame;
  targets = replicate labels target;
  strings = replicate strings 65535;
  code = replicate code instr.Pop;
}

abbrev simple : ℕ → ℕ → Simple
simple values strings = record {
  name = codes "s";
  values = replicate values (ival.Number 65535);
  strings = replicate strings 65535;
}

abbrev vector : ℕ → ℕ → ℕ → Vector
vector words values strings = record {
  name = codes "v";
  words = words;
  values = replicate values (ival.Number 65535);
  strings = replicate strings 65535;
}

at_most : {X : Type 0} (n k : ℕ) (x : X) → n ≤ k → length (replicate n x) ≤ k
at_most n k x h = omega (arith, length-replicate n x)

above : {X : Type 0} (n k : ℕ) (x : X) → k < n → length (replicate n x) ≤ k → ⊥
above n k x h few = omega (arith, length-replicate n x)

below : {X : Type 0} (t n : ℕ) (x : X) → t < n → t < length (replicate n x)
below t n x h = omega (arith, length-replicate n x)

greatest_function : IsFunctionWithinRanges (function 128 32767 128 4095 1024 4096)
greatest_function = record {
  named = refl;
  few_parameters = omega arith;
  parameters_in_frame = omega arith;
  frame = omega arith;
  few_labels = at_most {X = ℕ} 128 128 4095 (omega arith);
  few_strings = at_most {X = ℕ} 1024 1024 65535 (omega arith);
  few_instrs = at_most 4096 4096 instr.Pop (omega arith);
  targets =
      All-replicate (λ t. t < length (replicate 4096 instr.Pop)) 128 4095 (below 4095 4096 instr.Pop (omega arith));
  strings = All-replicate IsWord 1024 65535 (omega arith);
  code = All-replicate (IsInstrWithin (sizes_of (function 128 32767 128 4095 1024 4096))) 4096 instr.Pop tt;
}

-- a function without an instruction, and all words of its frame parameters
least_code : IsFunctionWithinRanges (function 5 5 0 0 0 0)
least_code = record {
  named = refl;
  few_parameters = omega arith;
  parameters_in_frame = omega arith;
  frame = omega arith;
  few_labels = at_most {X = ℕ} 0 128 0 (omega arith);
  few_strings = at_most {X = ℕ} 0 1024 65535 (omega arith);
  few_instrs = at_most 0 4096 instr.Pop (omega arith);
  targets = All-nil (λ t. t < length (replicate 0 instr.Pop));
  strings = All-replicate IsWord 0 65535 (omega arith);
  code = All-replicate (IsInstrWithin (sizes_of (function 5 5 0 0 0 0))) 0 instr.Pop tt;
}

parameter_too_many : IsFunctionWithinRanges (function 129 32767 0 0 0 0) → ⊥
parameter_too_many w = let few = w.few_parameters in omega arith

parameter_past_the_frame : IsFunctionWithinRanges (function 6 5 0 0 0 0) → ⊥
parameter_past_the_frame w = let inside = w.parameters_in_frame in omega arith

frame_too_large : IsFunctionWithinRanges (function 0 32768 0 0 0 0) → ⊥
frame_too_large w = let small = w.frame in omega arith

label_too_many : IsFunctionWithinRanges (function 0 0 129 0 0 1) → ⊥
label_too_many w = above {X = ℕ} 129 128 0 (omega arith) w.few_labels

string_word_too_many : IsFunctionWithinRanges (function 0 0 0 0 1025 0) → ⊥
string_word_too_many w = above {X = ℕ} 1025 1024 65535 (omega arith) w.few_strings

instruction_too_many : IsFunctionWithinRanges (function 0 0 0 0 0 4097) → ⊥
instruction_too_many w = above 4097 4096 instr.Pop (omega arith) w.few_instrs

label_without_code : IsFunctionWithinRanges (function 0 0 1 0 0 0) → ⊥
label_without_code w =
    let there : 0 < 0 = All-head (λ t. t < length (replicate 0 instr.Pop)) 0 [] w.targets in
    omega arith

target_past_the_code : IsFunctionWithinRanges (function 0 0 1 7 0 7) → ⊥
target_past_the_code w =
    let there : 7 < 7 = All-head (λ t. t < length (replicate 7 instr.Pop)) 7 [] w.targets in
    omega arith

greatest_simple : IsSimpleWithinRanges (simple 1024 1024)
greatest_simple = record {
  named = refl;
  few_values = at_most 1024 1024 (ival.Number 65535) (omega arith);
  few_strings = at_most {X = ℕ} 1024 1024 65535 (omega arith);
  values = All-replicate (IsIvalWithin (length {A = ℕ} (replicate 1024 65535))) 1024 (ival.Number 65535) (omega arith);
  strings = All-replicate IsWord 1024 65535 (omega arith);
}

value_too_many : IsSimpleWithinRanges (simple 1025 0) → ⊥
value_too_many w = above 1025 1024 (ival.Number 65535) (omega arith) w.few_values

word_of_a_simple_too_many : IsSimpleWithinRanges (simple 0 1025) → ⊥
word_of_a_simple_too_many w = above {X = ℕ} 1025 1024 65535 (omega arith) w.few_strings

greatest_vector : IsVectorWithinRanges (vector 32767 1024 1024)
greatest_vector = record {
  named = refl;
  some_word = omega arith;
  values_in_words = at_most 1024 32767 (ival.Number 65535) (omega arith);
  few_words = omega arith;
  few_values = at_most 1024 1024 (ival.Number 65535) (omega arith);
  few_strings = at_most {X = ℕ} 1024 1024 65535 (omega arith);
  values = All-replicate (IsIvalWithin (length {A = ℕ} (replicate 1024 65535))) 1024 (ival.Number 65535) (omega arith);
  strings = All-replicate IsWord 1024 65535 (omega arith);
}

-- one word, and its value
least_vector : IsVectorWithinRanges (vector 1 1 0)
least_vector = record {
  named = refl;
  some_word = omega arith;
  values_in_words = at_most 1 1 (ival.Number 65535) (omega arith);
  few_words = omega arith;
  few_values = at_most 1 1024 (ival.Number 65535) (omega arith);
  few_strings = at_most {X = ℕ} 0 1024 65535 (omega arith);
  values = All-replicate (IsIvalWithin (length {A = ℕ} (replicate 0 65535))) 1 (ival.Number 65535) (omega arith);
  strings = All-replicate IsWord 0 65535 (omega arith);
}

no_word : IsVectorWithinRanges (vector 0 0 0) → ⊥
no_word w = let some = w.some_word in omega arith

more_values_than_words : IsVectorWithinRanges (vector 2 3 0) → ⊥
more_values_than_words w = above 3 2 (ival.Number 65535) (omega arith) w.values_in_words

vector_too_large : IsVectorWithinRanges (vector 32768 0 0) → ⊥
vector_too_large w = let few = w.few_words in omega arith

value_of_a_vector_too_many : IsVectorWithinRanges (vector 32767 1025 0) → ⊥
value_of_a_vector_too_many w = above 1025 1024 (ival.Number 65535) (omega arith) w.few_values

word_of_a_vector_too_many : IsVectorWithinRanges (vector 1 0 1025) → ⊥
word_of_a_vector_too_many w = above {X = ℕ} 1025 1024 65535 (omega arith) w.few_strings

-- The greatest operand of each instruction and the next one, in a function of these sizes.
abbrev sizes : Sizes
sizes = record { frame = 5; labels = 2; strings = 3; code = 7 }

abbrev Fits : Instr → Type 0
Fits i = IsInstrWithin sizes i

constant : Fits (instr.Constant 65535) × (Fits (instr.Constant 65536) → ⊥)
constant = (omega arith, λ w. omega arith)

external : Fits (instr.External (codes "abcdefgh"))
external = refl

automatic : Fits (instr.Automatic 4) × (Fits (instr.Automatic 5) → ⊥)
automatic = (omega arith, λ w. omega arith)

string_word : Fits (instr.Text 2) × (Fits (instr.Text 3) → ⊥)
string_word = (omega arith, λ w. omega arith)

label : Fits (instr.Label 1) × (Fits (instr.Label 2) → ⊥)
label = (omega arith, λ w. omega arith)

jump : Fits (instr.Jump 6) × (Fits (instr.Jump 7) → ⊥)
jump = (omega arith, λ w. omega arith)

jump_if_zero : Fits (instr.JumpIfZero 6) × (Fits (instr.JumpIfZero 7) → ⊥)
jump_if_zero = (omega arith, λ w. omega arith)

case : Fits (instr.JumpIfCase 65535 6)
case = (omega arith, omega arith)

no_case : (Fits (instr.JumpIfCase 65536 6) → ⊥) × (Fits (instr.JumpIfCase 65535 7) → ⊥)
no_case = (λ w. let value = w.0 in omega arith, λ w. let target = w.1 in omega arith)

call : Fits (instr.Call 65535) × (Fits (instr.Call 65536) → ⊥)
call = (omega arith, λ w. omega arith)

-- initial values beside three string words
number : IsIvalWithin 3 (ival.Number 65535) × (IsIvalWithin 3 (ival.Number 65536) → ⊥)
number = (omega arith, λ w. omega arith)

offset : IsIvalWithin 3 (ival.Text 2) × (IsIvalWithin 3 (ival.Text 3) → ⊥)
offset = (omega arith, λ w. omega arith)
