-- Closed facts: the machine into which words are stored, and what a session may hold at first.
use Rattle.std.specs.Prelude.{◌≡◌, ℕ, List, [], ◌∷◌, ◌++◌, false, true, map, replicate, Some, refl}
use Rattle.blang.specs.Layout.{Exited, World}
use Rattle.blang.specs.Machine.{Halted, Image, Loaded, Running, State, Stuck}
use Rattle.blang.specs.declared.code.Instr.TheVariants as instr
use Rattle.blang.specs.declared.run.Outcome.{Outcome}
use Rattle.blang.specs.declared.run.Outcome.TheVariants as outcome
use Rattle.bsession.specs.Sessions.{counted, has_word, no_limits, pages_with_words}
use Rattle.bsession.specs.SessionRuns.{StoredWord, WasClosed, WasFed, WasStored, all_stored, run_with, with_word_in}
use Rattle.bsession.specs.declared.session.TheConstants.{PART_STEPS}

-- a program that puts word 3 of the store on its operands, in two steps, and then word 4
abbrev main : Loaded
main = record {
  parameters = 0;
  frame = 0;
  targets = [];
  code = instr.Constant 3 ∷ instr.Load ∷ instr.Constant 4 ∷ instr.Load ∷ instr.Return ∷ [];
  strings = 8;
  first_label = 1;
}

abbrev image : Image
image = record {
  functions = main ∷ [];
  main = Some main;
  words = 0 ∷ 1 ∷ 2 ∷ 3 ∷ 4 ∷ [];
  data_end = 5;
  addresses = [];
}

abbrev operands_of : State → List ℕ
operands_of (Running call below w) = call.operands
operands_of other = []

abbrev stored : (after address word : ℕ) → StoredWord
stored after address word = record { after = after; address = address; word = word }

-- the operands after so many steps, with these words
abbrev operands : List StoredWord → ℕ → List ℕ
operands words n = operands_of (run_with image words [] n)

-- A word is seen from the step on before which it was stored, and the last one of an address holds.
none_stored : map (operands []) (0 ∷ 2 ∷ 4 ∷ []) ≡ ([] ∷ (3 ∷ []) ∷ (4 ∷ 3 ∷ []) ∷ [])
none_stored = refl

seen_later : map (λ after. operands (stored after 3 9 ∷ []) 4) (0 ∷ 1 ∷ 2 ∷ 4 ∷ [])
    ≡ ((4 ∷ 9 ∷ []) ∷ (4 ∷ 9 ∷ []) ∷ (4 ∷ 3 ∷ []) ∷ (4 ∷ 3 ∷ []) ∷ [])
seen_later = refl

last_holds : operands (stored 1 3 9 ∷ stored 1 3 8 ∷ []) 2 ≡ 9 ∷ []
last_holds = refl

both_hold : operands (stored 3 4 9 ∷ stored 1 3 8 ∷ []) 4 ≡ 9 ∷ 8 ∷ []
both_hold = refl

last_first : all_stored (WasStored (stored 1 3 8) ∷ WasClosed ∷ WasFed (5 ∷ []) ∷ WasStored (stored 3 4 9) ∷ [])
    ≡ stored 3 4 9 ∷ stored 1 3 8 ∷ []
last_first = refl

-- a session may hold all at first
may_hold_all : no_limits ≡ record { operands = 18446744073709551615; pages = 256; output = 18446744073709551615 }
may_hold_all = refl

-- a run that is over stays so, with the word in its store
abbrev world : (word : ℕ) → World
world word = record { store = 0 ∷ word ∷ 2 ∷ []; input = 5 ∷ []; output = 6 ∷ [] }

over_with_word : map (λ s. with_word_in s 1 9) (Halted (Exited 3) (world 1) ∷ Stuck (world 1) ∷ [])
    ≡ (Halted (Exited 3) (world 9) ∷ Stuck (world 9) ∷ [])
over_with_word = refl

-- how many steps a session makes at most between two looks at what it holds
steps_of_a_part : PART_STEPS ≡ 65536
steps_of_a_part = refl

-- A page is held by any word but 0: its first, its last, none, and one of the page after it.
abbrev blank : (count : ℕ) → List ℕ
blank count = replicate count 0

words_there : map (λ (p : ℕ × ℕ). has_word (blank 2 ++ 7 ∷ []) p.0 p.1)
    ((0, 0) ∷ (0, 2) ∷ (0, 3) ∷ (2, 1) ∷ (3, 5) ∷ []) ≡ (false ∷ false ∷ true ∷ true ∷ false ∷ [])
unfolding has_word
words_there = refl

pages_counted : map (λ words. pages_with_words words 3)
    ([] ∷ (1 ∷ []) ∷ (blank 255 ++ 1 ∷ []) ∷ (1 ∷ blank 255 ++ 1 ∷ []) ∷ (blank 767 ++ 65535 ∷ 1 ∷ []) ∷ blank 768 ∷ [])
    ≡ (0 ∷ 1 ∷ 1 ∷ 2 ∷ 1 ∷ 0 ∷ [])
unfolding has_word pages_with_words
pages_counted = refl

-- A step in which memory was refused isn't counted.
steps_counted : map (λ (p : Outcome × ℕ). counted p.0 p.1 5)
    ((outcome.Limit, 5) ∷ (outcome.Device, 4) ∷ (outcome.Memory, 5) ∷ (outcome.Memory, 4) ∷ (outcome.Memory, 0) ∷ [])
    ≡ (5 ∷ 4 ∷ 4 ∷ 4 ∷ 0 ∷ [])
steps_counted = refl
