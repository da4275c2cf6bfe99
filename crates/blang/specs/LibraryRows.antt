-- Closed facts: the words that the meaning of programs and the machine share, on numbers.
use Rattle.std.specs.Prelude.{◌≡◌, [], ◌∷◌, map, true, false, codes, Some, None, refl}
use Rattle.std.specs.Fmt.{digits}
use Rattle.blang.specs.declared.run.Library.TheVariants.{Char, Lchar, Getchar, Putchar, Printn, Exit}
use Rattle.blang.specs.declared.run.Trap.TheVariants.{BadBase, NoRoom, TooDeep}
use Rattle.blang.specs.Layout.{World, Gives, Ends, Exited, Trapped, library, with_words, callee_of, NoFunction}
use Rattle.blang.specs.Layout.{OfLibrary, OfProgram, refusal, parameter_words, is_base, character_bytes}

-- the string "hi" and its final *e at word 2, the input "ab"
abbrev world : World
world = record { store = 0 ∷ 0 ∷ 26984 ∷ 4 ∷ []; input = codes "ab"; output = codes "." }

-- char and lchar: the even byte is the low one
char_0 : library Char (2 ∷ 0 ∷ []) world ≡ Gives 104 world
char_0 = refl

char_1 : library Char (2 ∷ 1 ∷ []) world ≡ Gives 105 world
char_1 = refl

char_2 : library Char (2 ∷ 2 ∷ []) world ≡ Gives 4 world
char_2 = refl

-- the address wraps at 65536, and the index is unsigned
char_wraps : library Char (65535 ∷ 6 ∷ []) world ≡ Gives 104 world
char_wraps = refl

char_unsigned : library Char (32772 ∷ 65532 ∷ []) world ≡ Gives 104 world
char_unsigned = refl

lchar_0 : library Lchar (2 ∷ 0 ∷ 72 ∷ []) world ≡ Gives 72 (record world { store = 0 ∷ 0 ∷ 26952 ∷ 4 ∷ [] })
lchar_0 = refl

-- the low byte of c is stored, and c is given
lchar_1 : library Lchar (2 ∷ 1 ∷ 333 ∷ []) world ≡ Gives 333 (record world { store = 0 ∷ 0 ∷ 19816 ∷ 4 ∷ [] })
lchar_1 = refl

-- a word from 32768 on is given as it is
lchar_given : library Lchar (2 ∷ 0 ∷ 65535 ∷ []) world ≡ Gives 65535 (record world { store = 0 ∷ 0 ∷ 27135 ∷ 4 ∷ [] })
lchar_given = refl

lchar_wraps : library Lchar (32772 ∷ 65532 ∷ 72 ∷ []) world ≡ library Lchar (2 ∷ 0 ∷ 72 ∷ []) world
lchar_wraps = refl

getchar_next : library Getchar [] world ≡ Gives 97 (record world { input = codes "b" })
getchar_next = refl

getchar_end : library Getchar [] (record world { input = [] }) ≡ Gives 4 (record world { input = [] })
getchar_end = refl

putchar_one : library Putchar (120 ∷ []) world ≡ Gives 120 (record world { output = codes ".x" })
putchar_one = refl

putchar_two : library Putchar (24930 ∷ []) world ≡ Gives 24930 (record world { output = codes ".ab" })
putchar_two = refl

-- a low byte of 0 is written all the same
putchar_low_zero : library Putchar (24832 ∷ []) world ≡ Gives 24832 (record world { output = 46 ∷ 97 ∷ 0 ∷ [] })
putchar_low_zero = refl

putchar_zero : library Putchar [] world ≡ Gives 0 (record world { output = 46 ∷ 0 ∷ [] })
putchar_zero = refl

putchar_greatest : library Putchar (65535 ∷ []) world ≡ Gives 65535 (record world { output = 46 ∷ 255 ∷ 255 ∷ [] })
putchar_greatest = refl

printn_least : library Printn (32768 ∷ 10 ∷ []) world ≡ Gives 0 (record world { output = codes ".-32768" })
unfolding digits
printn_least = refl

printn_greatest : library Printn (32767 ∷ 8 ∷ []) world ≡ Gives 0 (record world { output = codes ".77777" })
unfolding digits
printn_greatest = refl

printn_minus_one : library Printn (65535 ∷ 2 ∷ []) world ≡ Gives 0 (record world { output = codes ".-1" })
unfolding digits
printn_minus_one = refl

printn_binary : library Printn (5 ∷ 2 ∷ []) world ≡ Gives 0 (record world { output = codes ".101" })
unfolding digits
printn_binary = refl

printn_zero : library Printn (0 ∷ 10 ∷ []) world ≡ Gives 0 (record world { output = codes ".0" })
unfolding digits
printn_zero = refl

-- a word below zero has its sign to each base
printn_bases : map (λ args. library Printn args world) (
    (65535 ∷ 8 ∷ []) ∷ (32768 ∷ 8 ∷ []) ∷ (65534 ∷ 3 ∷ []) ∷ (80 ∷ 3 ∷ []) ∷ (65527 ∷ 9 ∷ []) ∷ (80 ∷ 9 ∷ []) ∷ [])
    ≡ map (λ text. Gives 0 (record world { output = text })) (
    codes ".-1" ∷ codes ".-100000" ∷ codes ".-2" ∷ codes ".2222" ∷ codes ".-10" ∷ codes ".88" ∷ [])
unfolding digits
printn_bases = refl

printn_base_1 : library Printn (5 ∷ 1 ∷ []) world ≡ Ends (Trapped BadBase) world
printn_base_1 = refl

printn_base_11 : library Printn (5 ∷ 11 ∷ []) world ≡ Ends (Trapped BadBase) world
printn_base_11 = refl

-- a missing base is 0
printn_no_base : library Printn (5 ∷ []) world ≡ Ends (Trapped BadBase) world
printn_no_base = refl

exits : map (λ n. library Exit (n ∷ []) world) (200 ∷ 255 ∷ 256 ∷ 300 ∷ 65535 ∷ [])
    ≡ map (λ n. Ends (Exited n) world) (72 ∷ 127 ∷ 0 ∷ 44 ∷ 127 ∷ [])
exits = refl

-- called values: 0, those of the library, and from 7 on those of the program
callee_0 : callee_of (codes "fg") 0 ≡ NoFunction
callee_0 = refl

callee_1 : callee_of (codes "fg") 1 ≡ OfLibrary Char
callee_1 = refl

callee_2 : callee_of (codes "fg") 2 ≡ OfLibrary Lchar
callee_2 = refl

callee_3 : callee_of (codes "fg") 3 ≡ OfLibrary Getchar
callee_3 = refl

callee_4 : callee_of (codes "fg") 4 ≡ OfLibrary Putchar
callee_4 = refl

callee_5 : callee_of (codes "fg") 5 ≡ OfLibrary Printn
callee_5 = refl

callee_6 : callee_of (codes "fg") 6 ≡ OfLibrary Exit
callee_6 = refl

callee_7 : callee_of (codes "fg") 7 ≡ OfProgram 102
callee_7 = refl

callee_8 : callee_of (codes "fg") 8 ≡ OfProgram 103
callee_8 = refl

callee_9 : callee_of (codes "fg") 9 ≡ NoFunction
callee_9 = refl

-- 4096 calls may be active, and a frame may end at 65536
call_4096 : refusal 4095 65536 ≡ None
call_4096 = refl

call_4097 : refusal 4096 65536 ≡ Some TooDeep
call_4097 = refl

no_room : refusal 4095 65537 ≡ Some NoRoom
no_room = refl

-- the number of calls is looked at first
too_deep_first : refusal 4096 65537 ≡ Some TooDeep
too_deep_first = refl

-- parameters: extra arguments are dropped, missing ones are 0
extra_argument : parameter_words 2 (1 ∷ 2 ∷ 3 ∷ []) ≡ 1 ∷ 2 ∷ []
extra_argument = refl

missing_argument : parameter_words 3 (1 ∷ []) ≡ 1 ∷ 0 ∷ 0 ∷ []
missing_argument = refl

stored_in_order : (with_words world 1 (8 ∷ 9 ∷ [])).store ≡ 0 ∷ 8 ∷ 9 ∷ 4 ∷ []
stored_in_order = refl

-- bytes from 128 on are no negative words, in the input and in strings
getchar_high : library Getchar [] (record world { input = 200 ∷ 255 ∷ [] })
    ≡ Gives 200 (record world { input = 255 ∷ [] })
getchar_high = refl

-- a byte 4 is a byte as each other
getchar_4 : library Getchar [] (record world { input = 4 ∷ 97 ∷ [] }) ≡ Gives 4 (record world { input = codes "a" })
getchar_4 = refl

-- 51328 has the bytes 128 and 200
char_high : map (λ i. library Char (0 ∷ i ∷ []) (record world { store = 51328 ∷ [] })) (0 ∷ 1 ∷ [])
    ≡ map (λ c. Gives c (record world { store = 51328 ∷ [] })) (128 ∷ 200 ∷ [])
char_high = refl

-- around the greatest low byte
bytes_of_characters : map character_bytes (0 ∷ 255 ∷ 256 ∷ 257 ∷ 511 ∷ 512 ∷ [])
    ≡ (0 ∷ []) ∷ (255 ∷ []) ∷ (1 ∷ 0 ∷ []) ∷ (1 ∷ 1 ∷ []) ∷ (1 ∷ 255 ∷ []) ∷ (2 ∷ 0 ∷ []) ∷ []
bytes_of_characters = refl

-- further arguments count for nothing
putchar_extra : library Putchar (120 ∷ 121 ∷ []) world ≡ Gives 120 (record world { output = codes ".x" })
putchar_extra = refl

exit_extra : library Exit (3 ∷ 5 ∷ []) world ≡ Ends (Exited 3) world
exit_extra = refl

getchar_extra : library Getchar (1 ∷ 2 ∷ []) world ≡ library Getchar [] world
getchar_extra = refl

printn_extra : library Printn (5 ∷ 10 ∷ 2 ∷ []) world ≡ Gives 0 (record world { output = codes ".5" })
unfolding digits
printn_extra = refl

lchar_extra : library Lchar (2 ∷ 0 ∷ 72 ∷ 73 ∷ []) world ≡ library Lchar (2 ∷ 0 ∷ 72 ∷ []) world
lchar_extra = refl

char_extra : library Char (2 ∷ 1 ∷ 0 ∷ []) world ≡ Gives 105 world
char_extra = refl

-- a missing argument is 0
lchar_missing : library Lchar (2 ∷ 0 ∷ []) world ≡ Gives 0 (record world { store = 0 ∷ 0 ∷ 26880 ∷ 4 ∷ [] })
lchar_missing = refl

char_alone : map (λ args. library Char args world) ([] ∷ (2 ∷ []) ∷ []) ≡ Gives 0 world ∷ Gives 104 world ∷ []
char_alone = refl

exit_alone : map (λ args. library Exit args world) ([] ∷ (127 ∷ []) ∷ (128 ∷ []) ∷ [])
    ≡ Ends (Exited 0) world ∷ Ends (Exited 127) world ∷ Ends (Exited 0) world ∷ []
exit_alone = refl

-- bases from 2 to 10
bases : map is_base (0 ∷ 1 ∷ 2 ∷ 9 ∷ 10 ∷ 11 ∷ 258 ∷ 65535 ∷ [])
    ≡ false ∷ false ∷ true ∷ true ∷ true ∷ false ∷ false ∷ false ∷ []
bases = refl
