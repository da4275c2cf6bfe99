-- Closed facts: which lines are read, each range at its limit and one past it.
use Rattle.std.specs.Prelude.{◌≡◌, ℕ, ◌^◌, true, false, List, [], ◌∷◌, map, length, replicate, is_some, codes, refl}
use Rattle.bcode.specs.LineReading.{header_at, any_header_at, sizes_at, function_header_at, simple_header_at}
use Rattle.bcode.specs.LineReading.{vector_header_at, line_ended, instr_at, ival_line_at, number_line_at, operand_at}
use Rattle.bcode.specs.LineReading.{name_operand_at, operator_at, less_at, greater_at, increment_at, case_at}
use Rattle.bcode.specs.Reading.{expect_byte, number_at, number_from, name_text_at}
use Rattle.blang.specs.declared.code.Sizes.{Sizes}

abbrev first_lines : List (List ℕ)
first_lines =
    codes "X n 0 0\n" ∷ codes "X abcdefgh 1024 1024\n" ∷ codes "X auto 0 0\nX" ∷ codes "V v 1 0 0\n" ∷
    codes "V v 1 1 0\n" ∷
    codes "V v 32767 1024 1024\n" ∷ codes "F f 0 0 0 0 0\n" ∷ codes "F f 5 5 0 0 0\n" ∷
    codes "F f 128 32767 128 1024 4096\n" ∷
    codes "F f 0 0 1 0 1\n" ∷ codes "E\n" ∷ []

headers : map (λ l. is_some (header_at l)) first_lines ≡ replicate (length first_lines) true
unfolding header_at any_header_at sizes_at function_header_at simple_header_at vector_header_at line_ended expect_byte number_at number_from
    name_text_at
headers = refl

abbrev no_first_lines : List (List ℕ)
no_first_lines =
    [] ∷ codes "E" ∷ codes "\n" ∷ codes "e\n" ∷ codes "E \n" ∷ codes " E\n" ∷ codes "X n 0 0" ∷ codes "X n 0 0 \n" ∷
    codes "X n 0\n" ∷
    codes "X n 0 0 0\n" ∷ codes "X  n 0 0\n" ∷ codes "X n 00 0\n" ∷ codes "X n 0 01\n" ∷ codes "X n 0 0\r\n" ∷
    codes "X n -1 0\n" ∷
    codes "X n 1025 0\n" ∷ codes "X n 0 1025\n" ∷ codes "X 9 0 0\n" ∷ codes "X abcdefghi 0 0\n" ∷
    codes "X a-b 0 0\n" ∷ codes "X  0 0\n" ∷
    codes "V v 0 0 0\n" ∷ codes "V v 1 2 0\n" ∷ codes "V v 32768 0 0\n" ∷ codes "V v 32767 1025 0\n" ∷
    codes "V v 1 0 1025\n" ∷
    codes "F f 129 129 0 0 0\n" ∷ codes "F f 6 5 0 0 0\n" ∷ codes "F f 0 32768 0 0 0\n" ∷ codes "F f 0 0 129 0 1\n" ∷
    codes "F f 0 0 0 1025 0\n" ∷ codes "F f 0 0 0 0 4097\n" ∷ codes "F f 0 0 1 0 0\n" ∷ codes "F f 0 0 0 0\n" ∷ []

no_headers : map (λ l. is_some (header_at l)) no_first_lines ≡ replicate (length no_first_lines) false
unfolding header_at any_header_at sizes_at function_header_at simple_header_at vector_header_at line_ended expect_byte number_at number_from
    name_text_at
no_headers = refl

abbrev sizes : Sizes
sizes = record { frame = 5; labels = 2; strings = 3; code = 7 }

abbrev instruction_lines : List (List ℕ)
instruction_lines =
    codes "c 0\n" ∷ codes "c 65535\n" ∷ codes "x abcdefgh\n" ∷ codes "a 4\n" ∷ codes "s 2\n" ∷ codes "l 1\n" ∷
    codes "v\n" ∷ codes "w\n" ∷
    codes "b |\n" ∷ codes "b &\n" ∷ codes "b ==\n" ∷ codes "b !=\n" ∷ codes "b <\n" ∷ codes "b <=\n" ∷
    codes "b >\n" ∷ codes "b >=\n" ∷
    codes "b <<\n" ∷ codes "b >>\n" ∷ codes "b -\n" ∷ codes "b +\n" ∷ codes "b %\n" ∷ codes "b *\n" ∷ codes "b /\n" ∷
    codes "m <=\n" ∷
    codes "n\n" ∷ codes "h\n" ∷ codes "i 0\n" ∷ codes "i 3\n" ∷ codes "j 6\n" ∷ codes "z 6\n" ∷ codes "g\n" ∷
    codes "e 65535 6\n" ∷
    codes "k 65535\n" ∷ codes "r\n" ∷ codes "p\n" ∷ []

instructions : map (λ l. is_some (instr_at sizes l)) instruction_lines ≡ replicate (length instruction_lines) true
unfolding instr_at operand_at name_operand_at operator_at less_at greater_at increment_at case_at line_ended expect_byte
    number_at number_from name_text_at
instructions = refl

abbrev no_instruction_lines : List (List ℕ)
no_instruction_lines =
    [] ∷ codes "\n" ∷ codes "c 65536\n" ∷ codes "c 007\n" ∷ codes "c 00\n" ∷ codes "c \n" ∷ codes "c\n" ∷
    codes "c -1\n" ∷ codes "c 1" ∷
    codes "c  1\n" ∷ codes "c 1 \n" ∷ codes "c 1 1\n" ∷ codes "x abcdefghi\n" ∷ codes "x 9\n" ∷ codes "x \n" ∷
    codes "a 5\n" ∷ codes "s 3\n" ∷
    codes "l 2\n" ∷ codes "v \n" ∷ codes "v 1\n" ∷ codes "b =\n" ∷ codes "b ^\n" ∷ codes "b <>\n" ∷ codes "b !\n" ∷
    codes "b ++\n" ∷
    codes "b\n" ∷ codes "b \n" ∷ codes "m =\n" ∷ codes "i 4\n" ∷ codes "i\n" ∷ codes "i 00\n" ∷ codes "j 7\n" ∷
    codes "z 7\n" ∷ codes "e 65536 6\n" ∷
    codes "e 0 7\n" ∷ codes "e 0\n" ∷ codes "k 65536\n" ∷ codes "t 0\n" ∷ codes "q\n" ∷ codes "C 1\n" ∷ []

no_instructions : map (λ l. is_some (instr_at sizes l)) no_instruction_lines ≡
    replicate (length no_instruction_lines) false
unfolding instr_at operand_at name_operand_at operator_at less_at greater_at increment_at case_at line_ended expect_byte
    number_at number_from name_text_at
no_instructions = refl

-- initial values beside three string words
values : map (λ l. is_some (ival_line_at 3 l)) (
    codes "c 65535\n" ∷ codes "x t\n" ∷ codes "s 2\n" ∷ codes "c 65536\n" ∷ codes "c 01\n" ∷ codes "s 3\n" ∷
    codes "a 0\n" ∷ []) ≡
    true ∷ true ∷ true ∷ false ∷ false ∷ false ∷ false ∷ []
unfolding ival_line_at operand_at name_operand_at expect_byte number_at number_from name_text_at
values = refl

-- targets of labels among seven instructions, and string words
targets : map (λ l. is_some (number_line_at 116 7 l)) (codes "t 6\n" ∷ codes "t 7\n" ∷ codes "t 06\n" ∷
    codes "w 6\n" ∷ []) ≡
    true ∷ false ∷ false ∷ false ∷ []
unfolding number_line_at operand_at expect_byte number_at number_from
targets = refl

words : map (λ l. is_some (number_line_at 119 (2 ^ 16) l)) (codes "w 65535\n" ∷ codes "w 65536\n" ∷ codes "w 00\n" ∷
    []) ≡
    true ∷ false ∷ false ∷ []
unfolding number_line_at operand_at expect_byte number_at number_from
words = refl
