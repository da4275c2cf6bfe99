-- Closed facts: the numbers of the limits and of the statuses.
use Rattle.std.specs.Prelude.{◌≡◌, [], ◌∷◌, map, refl}
use Rattle.bword.specs.declared.ends.EndFault.TheVariants as end_fault
use Rattle.bword.specs.declared.store.TheConstants.{STORE_LEN}
use Rattle.blang.specs.declared.limits.TheConstants.{WORD_VALUES, MAX_PARAMETERS, MAX_LABELS, MAX_WORDS}
use Rattle.blang.specs.declared.limits.TheConstants.{MAX_STRING_WORDS}
use Rattle.blang.specs.declared.limits.TheConstants.{MAX_VALUES, MAX_INSTRUCTIONS, LINE_LEN, MAX_NESTING, MAX_NAMES}
use Rattle.blang.specs.declared.limits.TheConstants.{MAX_CASES, STORE_WORDS, MAX_PROGRAM_LABELS, MAX_CALLS}
use Rattle.blang.specs.declared.token.TheConstants.{STRING_LEN}
use Rattle.blang.specs.declared.status.TheConstants.{DONE, FAULT, TRAP, LIMIT, REFUSED, DEVICE, MEMORY, WRONG_COMMAND}
use Rattle.blang.specs.Compiles.{status_of}

of_words : WORD_VALUES ∷ STORE_LEN ∷ STORE_WORDS ∷ MAX_WORDS ∷ MAX_CALLS ∷ MAX_PROGRAM_LABELS ∷ []
    ≡ 65536 ∷ 65536 ∷ 65536 ∷ 32767 ∷ 4096 ∷ 65535 ∷ []
of_words = refl

-- parameters, labels, string words, values, instructions, names, cases and nesting of one definition
of_definitions : MAX_PARAMETERS ∷ MAX_LABELS ∷ MAX_STRING_WORDS ∷ MAX_VALUES ∷ MAX_INSTRUCTIONS ∷ MAX_NAMES
    ∷ MAX_CASES ∷ MAX_NESTING ∷ [] ≡ 128 ∷ 128 ∷ 1024 ∷ 1024 ∷ 4096 ∷ 128 ∷ 256 ∷ 200 ∷ []
of_definitions = refl

of_texts : LINE_LEN ∷ STRING_LEN ∷ [] ≡ 128 ∷ 254 ∷ []
of_texts = refl

statuses : DONE ∷ FAULT ∷ TRAP ∷ LIMIT ∷ REFUSED ∷ DEVICE ∷ MEMORY ∷ WRONG_COMMAND ∷ []
    ≡ 0 ∷ 1 ∷ 130 ∷ 131 ∷ 132 ∷ 133 ∷ 134 ∷ 135 ∷ []
statuses = refl

refused_writes : map status_of (end_fault.Device ∷ end_fault.Memory ∷ []) ≡ DEVICE ∷ MEMORY ∷ []
refused_writes = refl
