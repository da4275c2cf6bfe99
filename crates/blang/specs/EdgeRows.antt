-- Closed facts: the library, calls and increments at each byte, and at the least and greatest words and those around
-- 128, 256 and 32768. The expected values were worked out apart from the definitions.
use Rattle.std.specs.Prelude.{◌≡◌, ◌+◌, ◌*◌, ◌%◌, ℕ, List, [], ◌∷◌, ◌++◌, map, filter, replicate, codes, Some}
use Rattle.std.specs.Prelude.{None, length, true, false, decimal, take, refl}
use Rattle.std.specs.Fmt.{digits}
use Rattle.std.specs.List.{range_with_len}
use Rattle.bword.specs.declared.operators.BinOp.TheVariants as op
use Rattle.blang.specs.declared.run.Library.TheVariants.{Char, Lchar, Getchar, Putchar, Printn, Exit}
use Rattle.blang.specs.declared.run.Trap.{Trap}
use Rattle.blang.specs.declared.run.Trap.TheVariants.{ZeroDivisor, NotAFunction, NotALabel, NoRoom, TooDeep, BadBase}
use Rattle.blang.specs.declared.run.Trap.TheVariants.{Stuck}
use Rattle.blang.specs.declared.run.Report.TheVariants as report
use Rattle.blang.specs.declared.code.Increment.TheVariants.{PreIncrement, PreDecrement, PostIncrement, PostDecrement}
use Rattle.blang.specs.declared.code.Ival.TheVariants as ival
use Rattle.blang.specs.Layout.{World, word_at, with_word, with_words, Gives, Ends, Exited, Trapped, library, printed}
use Rattle.blang.specs.Layout.{is_base, argument, character_bytes, stepped, stored_word, left_word, label_target}
use Rattle.blang.specs.Layout.{callee_of, NoFunction, OfLibrary, OfProgram, refusal, parameter_words, value_word}
use Rattle.blang.specs.Layout.{padded}
use Rattle.blang.specs.Reports.{report_text}
use Rattle.blang.specs.Headline.{line_at, status_at}
use Rattle.blang.specs.Value.{is_true}

abbrev bytes : List ℕ
bytes = range_with_len 0 256

abbrev corners : List ℕ
corners = 0 ∷ 1 ∷ 2 ∷ 127 ∷ 128 ∷ 255 ∷ 256 ∷ 32767 ∷ 32768 ∷ 65534 ∷ 65535 ∷ []

abbrev world : World
world = record { store = 0 ∷ 0 ∷ 26984 ∷ 4 ∷ []; input = codes "ab"; output = codes "." }

-- The library.

-- the input is each byte
getchar_each : map (λ b. library Getchar [] (record world { input = b ∷ [] })) bytes
    ≡ map (λ b. Gives b (record world { input = [] })) bytes
getchar_each = refl

-- each byte is read with all after it left
getchar_before_others : library Getchar [] (record world { input = bytes })
    ≡ Gives 0 (record world { input = range_with_len 1 255 })
getchar_before_others = refl

putchar_each : map (λ b. library Putchar (b ∷ []) world) bytes
    ≡ map (λ b. Gives b (record world { output = 46 ∷ b ∷ [] })) bytes
putchar_each = refl

putchar_of_two : map (λ b. library Putchar ((b * 256 + 7) ∷ []) world) (range_with_len 1 255)
    ≡ map (λ b. Gives (b * 256 + 7) (record world { output = 46 ∷ b ∷ 7 ∷ [] })) (range_with_len 1 255)
putchar_of_two = refl

low_bytes : map (λ b. character_bytes (1792 + b)) bytes ≡ map (λ b. 7 ∷ b ∷ []) bytes
low_bytes = refl

written : map character_bytes corners ≡
    (0 ∷ []) ∷ (1 ∷ []) ∷ (2 ∷ []) ∷ (127 ∷ []) ∷ (128 ∷ []) ∷ (255 ∷ []) ∷ (1 ∷ 0 ∷ []) ∷ (127 ∷ 255 ∷ [])
    ∷ (128 ∷ 0 ∷ []) ∷ (255 ∷ 254 ∷ []) ∷ (255 ∷ 255 ∷ []) ∷ []
written = refl

-- each byte of a string, in either half of a word
char_each : map (λ b. library Char (1 ∷ 0 ∷ []) (record world { store = 0 ∷ (171 * 256 + b) ∷ [] })) bytes
    ≡ map (λ b. Gives b (record world { store = 0 ∷ (171 * 256 + b) ∷ [] })) bytes
char_each = refl

char_each_high : map (λ b. library Char (1 ∷ 1 ∷ []) (record world { store = 0 ∷ (b * 256 + 171) ∷ [] })) bytes
    ≡ map (λ b. Gives b (record world { store = 0 ∷ (b * 256 + 171) ∷ [] })) bytes
char_each_high = refl

lchar_each : map (λ b. library Lchar (1 ∷ 0 ∷ b ∷ []) (record world { store = 0 ∷ 43981 ∷ [] })) bytes
    ≡ map (λ b. Gives b (record world { store = 0 ∷ (171 * 256 + b) ∷ [] })) bytes
lchar_each = refl

lchar_each_high : map (λ b. library Lchar (1 ∷ 1 ∷ b ∷ []) (record world { store = 0 ∷ 43981 ∷ [] })) bytes
    ≡ map (λ b. Gives b (record world { store = 0 ∷ (b * 256 + 205) ∷ [] })) bytes
lchar_each_high = refl

lchar_gives : map (λ c. library Lchar (0 ∷ 0 ∷ c ∷ []) (record world { store = 0 ∷ [] })) corners
    ≡ map (λ c. Gives c (record world { store = (c % 256) ∷ [] })) corners
lchar_gives = refl

exits : map (λ n. library Exit (n ∷ []) world) (range_with_len 0 300 ++ corners)
    ≡ map (λ n. Ends (Exited n) world) (range_with_len 0 128 ++ range_with_len 0 128 ++ range_with_len 0 44 ++ 0 ∷ 1
    ∷ 2 ∷ 127 ∷ 0 ∷ 127 ∷ 0 ∷ 127 ∷ 0 ∷ 126 ∷ 127 ∷ [])
exits = refl

-- the bases, and what is written to each of them
all_bases : filter is_base (range_with_len 0 1000 ++ corners) ≡ range_with_len 2 9 ++ 2 ∷ []
all_bases = refl

printn_to_no_base : map (λ b. library Printn (5 ∷ b ∷ []) world) (0 ∷ 1 ∷ range_with_len 11 500 ++ 32767 ∷ 32768
    ∷ 65534 ∷ 65535 ∷ [])
    ≡ replicate 506 (Ends (Trapped BadBase) world)
printn_to_no_base = refl

printed_to_each_base : map (λ base. map (λ n. printed n base) corners) (range_with_len 2 9) ≡
    (codes "0" ∷ codes "1" ∷ codes "10" ∷ codes "1111111" ∷ codes "10000000" ∷ codes "11111111" ∷ codes "100000000"
    ∷ codes "111111111111111" ∷ codes "-1000000000000000" ∷ codes "-10" ∷ codes "-1" ∷ []) ∷
    (codes "0" ∷ codes "1" ∷ codes "2" ∷ codes "11201" ∷ codes "11202" ∷ codes "100110" ∷ codes "100111"
    ∷ codes "1122221121" ∷ codes "-1122221122" ∷ codes "-2" ∷ codes "-1" ∷ []) ∷
    (codes "0" ∷ codes "1" ∷ codes "2" ∷ codes "1333" ∷ codes "2000" ∷ codes "3333" ∷ codes "10000" ∷ codes "13333333"
    ∷ codes "-20000000" ∷ codes "-2" ∷ codes "-1" ∷ []) ∷
    (codes "0" ∷ codes "1" ∷ codes "2" ∷ codes "1002" ∷ codes "1003" ∷ codes "2010" ∷ codes "2011" ∷ codes "2022032"
    ∷ codes "-2022033" ∷ codes "-2" ∷ codes "-1" ∷ []) ∷
    (codes "0" ∷ codes "1" ∷ codes "2" ∷ codes "331" ∷ codes "332" ∷ codes "1103" ∷ codes "1104" ∷ codes "411411"
    ∷ codes "-411412" ∷ codes "-2" ∷ codes "-1" ∷ []) ∷
    (codes "0" ∷ codes "1" ∷ codes "2" ∷ codes "241" ∷ codes "242" ∷ codes "513" ∷ codes "514" ∷ codes "164350"
    ∷ codes "-164351" ∷ codes "-2" ∷ codes "-1" ∷ []) ∷
    (codes "0" ∷ codes "1" ∷ codes "2" ∷ codes "177" ∷ codes "200" ∷ codes "377" ∷ codes "400" ∷ codes "77777"
    ∷ codes "-100000" ∷ codes "-2" ∷ codes "-1" ∷ []) ∷
    (codes "0" ∷ codes "1" ∷ codes "2" ∷ codes "151" ∷ codes "152" ∷ codes "313" ∷ codes "314" ∷ codes "48847"
    ∷ codes "-48848" ∷ codes "-2" ∷ codes "-1" ∷ []) ∷
    (codes "0" ∷ codes "1" ∷ codes "2" ∷ codes "127" ∷ codes "128" ∷ codes "255" ∷ codes "256" ∷ codes "32767"
    ∷ codes "-32768" ∷ codes "-2" ∷ codes "-1" ∷ []) ∷
    []
unfolding digits
printed_to_each_base = refl

printed_below_300 : map (λ n. printed n 10) (range_with_len 0 300) ≡ map decimal (range_with_len 0 300)
unfolding digits
printed_below_300 = refl

printn_of_each : map (λ base. library Printn (0 ∷ base ∷ []) world) (range_with_len 2 9)
    ≡ replicate 9 (Gives 0 (record world { output = codes ".0" }))
unfolding digits
printn_of_each = refl

-- seventeen bytes at once, after a byte
printn_longest : library Printn (32768 ∷ 2 ∷ []) world ≡ Gives 0 (record world { output = codes ".-1000000000000000" })
unfolding digits
printn_longest = refl

-- the first ten arguments are there, and no other
arguments : map (argument (range_with_len 101 10)) (range_with_len 0 14 ++ 255 ∷ 256 ∷ 65535 ∷ [])
    ≡ range_with_len 101 10 ++ replicate 7 0
arguments = refl

-- Increments.
steps : map (λ op. map (stepped op) corners) (op.Add ∷ op.Sub ∷ [])
    ≡ (1 ∷ 2 ∷ 3 ∷ 128 ∷ 129 ∷ 256 ∷ 257 ∷ 32768 ∷ 32769 ∷ 65535 ∷ 0 ∷ [])
    ∷ (65535 ∷ 0 ∷ 1 ∷ 126 ∷ 127 ∷ 254 ∷ 255 ∷ 32766 ∷ 32767 ∷ 65533 ∷ 65534 ∷ []) ∷ []
steps = refl

increments : map (λ which. map (stored_word which) corners) (PreIncrement ∷ PostIncrement ∷ [])
    ≡ replicate 2 (1 ∷ 2 ∷ 3 ∷ 128 ∷ 129 ∷ 256 ∷ 257 ∷ 32768 ∷ 32769 ∷ 65535 ∷ 0 ∷ [])
increments = refl

decrements : map (λ which. map (stored_word which) corners) (PreDecrement ∷ PostDecrement ∷ [])
    ≡ replicate 2 (65535 ∷ 0 ∷ 1 ∷ 126 ∷ 127 ∷ 254 ∷ 255 ∷ 32766 ∷ 32767 ∷ 65533 ∷ 65534 ∷ [])
decrements = refl

words_left : map (λ which. map (left_word which) corners) (PreIncrement ∷ PreDecrement ∷ PostIncrement ∷ PostDecrement
    ∷ [])
    ≡ (1 ∷ 2 ∷ 3 ∷ 128 ∷ 129 ∷ 256 ∷ 257 ∷ 32768 ∷ 32769 ∷ 65535 ∷ 0 ∷ [])
    ∷ (65535 ∷ 0 ∷ 1 ∷ 126 ∷ 127 ∷ 254 ∷ 255 ∷ 32766 ∷ 32767 ∷ 65533 ∷ 65534 ∷ [])
    ∷ corners ∷ corners ∷ []
words_left = refl

all_of_a_byte : map (stored_word PreIncrement) (range_with_len 0 300) ≡ range_with_len 1 300
all_of_a_byte = refl

truths : map is_true (bytes ++ corners) ≡ false ∷ replicate 255 true ++ false ∷ replicate 10 true
truths = refl

-- Labels and calls.

-- a function of 128 labels, the first of which has the value 5, or the last one 65535
targets : map (label_target 5 (range_with_len 200 128)) (range_with_len 0 140)
    ≡ replicate 5 None ++ map Some (range_with_len 200 128) ++ replicate 7 None
targets = refl

targets_at_the_end : map (label_target 65408 (range_with_len 200 128)) (0 ∷ 1 ∷ 127 ∷ 128 ∷ 65407
    ∷ range_with_len 65408 128)
    ≡ replicate 5 None ++ map Some (range_with_len 200 128)
targets_at_the_end = refl

abbrev two_targets : List ℕ
two_targets = 9 ∷ 8 ∷ []

targets_from_each : map (λ n. map (label_target n two_targets) (n ∷ (n + 1) ∷ (n + 2) ∷ [])) (1 ∷ 2 ∷ 255 ∷ 256
    ∷ 32767 ∷ 32768 ∷ 65534 ∷ [])
    ≡ replicate 7 (Some 9 ∷ Some 8 ∷ None ∷ [])
targets_from_each = refl

abbrev no_label : List ℕ
no_label = []

no_targets : map (label_target 1 no_label) corners ≡ replicate 11 None
no_targets = refl

-- 300 functions
callees : map (callee_of (range_with_len 0 300)) (range_with_len 0 320 ++ 32767 ∷ 32768 ∷ 65535 ∷ [])
    ≡ NoFunction ∷ map OfLibrary (Char ∷ Lchar ∷ Getchar ∷ Putchar ∷ Printn ∷ Exit ∷ [])
    ++ map OfProgram (range_with_len 0 300)
    ++ replicate 16 NoFunction
callees = refl

-- by the calls that are active, a row each, and where the frame ends
refusals : map (λ n. map (refusal n) (0 ∷ 1 ∷ 255 ∷ 256 ∷ 32767 ∷ 32768 ∷ 65535 ∷ 65536 ∷ 65537 ∷ 98303 ∷ 131072 ∷ []))
    (0 ∷ 1 ∷ 255 ∷ 256 ∷ 4094 ∷ 4095 ∷ 4096 ∷ 4097 ∷ 32767 ∷ 32768 ∷ 65535 ∷ [])
    ≡ replicate 6 (replicate 8 None ++ replicate 3 (Some NoRoom)) ++ replicate 5 (replicate 11 (Some TooDeep))
refusals = refl

-- up to twelve parameters, and nine arguments; then 128
parameters : map (λ n. parameter_words n (range_with_len 1 9)) (range_with_len 0 13)
    ≡ map (λ n. take n (range_with_len 1 9)) (range_with_len 0 10)
    ++ map (λ n. range_with_len 1 9 ++ replicate n 0) (1 ∷ 2 ∷ 3 ∷ [])
parameters = refl

parameters_of_128 : map (λ n. parameter_words 128 (range_with_len 1 n)) (0 ∷ 127 ∷ 128 ∷ 130 ∷ [])
    ≡ replicate 128 0 ∷ (range_with_len 1 127 ++ 0 ∷ []) ∷ range_with_len 1 128 ∷ range_with_len 1 128 ∷ []
parameters_of_128 = refl

argument_words : map (λ a. parameter_words 2 (a ∷ a ∷ [])) corners ≡ map (λ a. a ∷ a ∷ []) corners
argument_words = refl

-- Stores.

abbrev store_of : World → List ℕ
store_of w = w.store

nine_stored : store_of (with_words (record world { store = replicate 12 0 }) 2 (range_with_len 1 9))
    ≡ 0 ∷ 0 ∷ range_with_len 1 9 ++ 0 ∷ []
nine_stored = refl

each_stored : map (λ v. word_at (with_word world 1 v) 1) (bytes ++ corners) ≡ bytes ++ corners
each_stored = refl

stored_at_each : map (λ a. store_of (with_word world a 7)) (range_with_len 0 5) ≡
    (7 ∷ 0 ∷ 26984 ∷ 4 ∷ []) ∷ (0 ∷ 7 ∷ 26984 ∷ 4 ∷ []) ∷ (0 ∷ 0 ∷ 7 ∷ 4 ∷ []) ∷ (0 ∷ 0 ∷ 26984 ∷ 7 ∷ []) ∷
    (0 ∷ 0 ∷ 26984 ∷ 4 ∷ []) ∷ []
stored_at_each = refl

abbrev whole_store : World
whole_store = record world { store = range_with_len 0 65536 }

read_at_each_corner : map (word_at whole_store) corners ≡ corners
read_at_each_corner = refl

stored_at_each_corner : map (λ a. word_at (with_word whole_store a 7) a) corners ≡ replicate 11 7
stored_at_each_corner = refl

two_stored_at_each : map (λ a. map (word_at (with_words whole_store a (17 ∷ 18 ∷ []))) (a ∷ (a + 1) ∷ (a + 2) ∷ []))
    (0 ∷ 1 ∷ 254 ∷ 255 ∷ 256 ∷ 32766 ∷ 32767 ∷ 32768 ∷ 65533 ∷ [])
    ≡ map (λ a. 17 ∷ 18 ∷ (a + 2) ∷ []) (0 ∷ 1 ∷ 254 ∷ 255 ∷ 256 ∷ 32766 ∷ 32767 ∷ 32768 ∷ 65533 ∷ [])
two_stored_at_each = refl

each_of_two_stored : map (λ v. store_of (with_words world 1 (v ∷ v ∷ []))) corners
    ≡ map (λ v. 0 ∷ v ∷ v ∷ 4 ∷ []) corners
each_of_two_stored = refl

-- Initial values: a number is itself, a name the address that it has, and 0 where it has none; a string's address
-- wraps.
numbers : map (λ n. value_word (λ x. None) 9 (ival.Number n)) (bytes ++ corners) ≡ bytes ++ corners
numbers = refl

names : map (λ n. value_word (λ x. Some n) 9 (ival.Name (codes "f"))) corners ≡ corners
names = refl

no_name : value_word (λ x. None) 9 (ival.Name (codes "f")) ≡ 0
no_name = refl

-- of a string at each of these words, and of each offset in a string
texts_at_each : map (λ s. value_word (λ x. None) s (ival.Text 1)) corners ≡ 1 ∷ 2 ∷ 3 ∷ 128 ∷ 129 ∷ 256 ∷ 257 ∷ 32768
    ∷ 32769 ∷ 65535 ∷ 0 ∷ []
texts_at_each = refl

offsets : map (λ n. value_word (λ x. None) 9 (ival.Text n)) corners ≡ 9 ∷ 10 ∷ 11 ∷ 136 ∷ 137 ∷ 264 ∷ 265 ∷ 32776
    ∷ 32777 ∷ 7 ∷ 8 ∷ []
offsets = refl

texts : map (λ n. value_word (λ x. None) 65500 (ival.Text n)) (0 ∷ 1 ∷ 35 ∷ 36 ∷ 37 ∷ 1023 ∷ [])
    ≡ 65500 ∷ 65501 ∷ 65535 ∷ 0 ∷ 1 ∷ 987 ∷ []
texts = refl

paddings : map (λ n. padded n (7 ∷ 8 ∷ 9 ∷ [])) (range_with_len 0 7)
    ≡ replicate 4 (7 ∷ 8 ∷ 9 ∷ []) ++ map (λ n. 7 ∷ 8 ∷ 9 ∷ replicate n 0) (1 ∷ 2 ∷ 3 ∷ [])
paddings = refl

lengths_of_paddings : map (λ n. length (padded n (7 ∷ []))) corners ≡ 1 ∷ 1 ∷ 2 ∷ 127 ∷ 128 ∷ 255 ∷ 256 ∷ 32767 ∷ 32768
    ∷ 65534 ∷ 65535 ∷ []
lengths_of_paddings = refl

-- What is told.
abbrev traps : List Trap
traps = ZeroDivisor ∷ NotAFunction ∷ NotALabel ∷ NoRoom ∷ TooDeep ∷ BadBase ∷ Stuck ∷ []

trap_lines : map line_at (map Trapped traps)
    ≡ codes "trap dz\n" ∷ codes "trap fn\n" ∷ codes "trap gt\n" ∷ codes "trap st\n" ∷ codes "trap dp\n"
    ∷ codes "trap bs\n"
    ∷ codes "trap sk\n" ∷ []
trap_lines = refl

exit_lines : map line_at (map Exited (range_with_len 0 128)) ≡ replicate 128 []
exit_lines = refl

statuses : map status_at (map Exited (range_with_len 0 128) ++ map Trapped traps)
    ≡ range_with_len 0 128 ++ replicate 7 130
statuses = refl

trap_reports : map report_text (map report.Trap traps) ≡ map line_at (map Trapped traps)
trap_reports = refl

number_reports : map report_text
    (map report.Code (1 ∷ 10 ∷ 255 ∷ 256 ∷ 32767 ∷ 32768 ∷ 65535 ∷ 65536 ∷ 18446744073709551615 ∷ [])
    ++ map report.Load (1 ∷ 2 ∷ 3 ∷ 4 ∷ []))
    ≡ codes "code 1\n" ∷ codes "code 10\n" ∷ codes "code 255\n" ∷ codes "code 256\n" ∷ codes "code 32767\n"
    ∷ codes "code 32768\n" ∷ codes "code 65535\n" ∷ codes "code 65536\n" ∷
    codes "code 18446744073709551615\n" ∷ codes "load 1\n" ∷ codes "load 2\n" ∷ codes "load 3\n" ∷ codes "load 4\n" ∷ []
unfolding digits
number_reports = refl
