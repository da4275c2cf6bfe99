-- Closed facts: where lines lie, at the edges of files.
use Rattle.std.specs.Prelude.{◌≡◌, ℕ, List, [], ◌∷◌, map, Some, None, codes, refl}
use Rattle.bsources.specs.Files.{File, Files, Line, beyond_first, file_of, followed, joined, lines_in, own_line}

-- a file p.b, and after it files l.b, m.b .. with these texts
abbrev after_p : List (List ℕ × List ℕ) → List File
after_p rest = map (λ file. file_of file.0 file.1) rest

abbrev in_files : List ℕ → List (List ℕ × List ℕ) → Files
in_files text rest = record { first = file_of (codes "p.b") text; rest = after_p rest }

abbrev in_p : ℕ → Line
in_p line = record { file = codes "p.b"; line = line }

abbrev in_l : ℕ → Line
in_l line = record { file = codes "l.b"; line = line }

abbrev in_m : ℕ → Line
in_m line = record { file = codes "m.b"; line = line }

alone : joined (codes "a\nb") [] ≡ codes "a\nb"
alone = refl

two : joined (codes "a\nb") (codes "c" ∷ []) ≡ codes "a\nb\nc"
two = refl

three : joined (codes "a\n") (codes "c\n" ∷ codes "" ∷ []) ≡ codes "a\n\nc\n\n"
three = refl

-- nothing, nothing first, nothing after it, and nothing on both sides
no_bytes : joined [] [] ≡ []
no_bytes = refl

nothing_comes_first : joined [] (codes "c" ∷ []) ≡ codes "\nc"
nothing_comes_first = refl

nothing_follows : joined (codes "a") ([] ∷ []) ≡ codes "a\n"
nothing_follows = refl

newline_alone : joined [] ([] ∷ []) ≡ codes "\n"
newline_alone = refl

lines_of_nothing : lines_in (codes "") ≡ 1
lines_of_nothing = refl

lines_of_two : lines_in (codes "a\nb") ≡ 2
lines_of_two = refl

lines_of_two_ended : lines_in (codes "a\n") ≡ 2
lines_of_two_ended = refl

lines_of_newlines : lines_in (codes "\n\n") ≡ 3
lines_of_newlines = refl

-- one file: all lines are its own, those after its last one too
alone_last : own_line (in_files (codes "a\nb") []) 2 ≡ in_p 2
alone_last = refl

alone_past : own_line (in_files (codes "a\nb") []) 9 ≡ in_p 9
alone_past = refl

alone_never_beyond : beyond_first (in_files (codes "a\nb") []) 9 ≡ None
alone_never_beyond = refl

alone_first : own_line (in_files (codes "a\nb") []) 1 ≡ in_p 1
alone_first = refl

-- a\nb, and l.b after it: a\nb\nc\nd
abbrev unended : Files
unended = in_files (codes "a\nb") ((codes "l.b", codes "c\nd") ∷ [])

unended_last : own_line unended 2 ≡ in_p 2
unended_last = refl

unended_next : own_line unended 3 ≡ in_l 1
unended_next = refl

unended_next_last : own_line unended 4 ≡ in_l 2
unended_next_last = refl

unended_past : own_line unended 7 ≡ in_l 5
unended_past = refl

unended_within : beyond_first unended 2 ≡ None
unended_within = refl

unended_beyond : beyond_first unended 3 ≡ Some (in_l 1)
unended_beyond = refl

-- a\n, and l.b after it: a\n\nc\n, where the second line is empty
abbrev ended : Files
ended = in_files (codes "a\n") ((codes "l.b", codes "c\n") ∷ [])

ended_last : own_line ended 2 ≡ in_p 2
ended_last = refl

ended_next : own_line ended 3 ≡ in_l 1
ended_next = refl

-- nothing, and l.b after it: \nc
abbrev nothing_first : Files
nothing_first = in_files [] ((codes "l.b", codes "c") ∷ [])

nothing_first_only : own_line nothing_first 1 ≡ in_p 1
nothing_first_only = refl

nothing_first_next : own_line nothing_first 2 ≡ in_l 1
nothing_first_next = refl

-- a, and after it nothing and then m.b: a\n\nc
abbrev nothing_between : Files
nothing_between = in_files (codes "a") ((codes "l.b", []) ∷ (codes "m.b", codes "c") ∷ [])

nothing_between_only : own_line nothing_between 2 ≡ in_l 1
nothing_between_only = refl

nothing_between_next : own_line nothing_between 3 ≡ in_m 1
nothing_between_next = refl

nothing_between_beyond : beyond_first nothing_between 3 ≡ Some (in_m 1)
nothing_between_beyond = refl

-- p.b, l.b and m.b of two lines each: each line of the whole, and one past the last
abbrev two_each : Files
two_each = in_files (codes "a\nb") ((codes "l.b", codes "c\nd") ∷ (codes "m.b", codes "e\nf") ∷ [])

abbrev each_line : List ℕ
each_line = 1 ∷ 2 ∷ 3 ∷ 4 ∷ 5 ∷ 6 ∷ 7 ∷ []

lines_in_turn : map (own_line two_each) each_line
    ≡ in_p 1 ∷ in_p 2 ∷ in_l 1 ∷ in_l 2 ∷ in_m 1 ∷ in_m 2 ∷ in_m 3 ∷ []
lines_in_turn = refl

lines_beyond : map (beyond_first two_each) each_line
    ≡ None ∷ None ∷ Some (in_l 1) ∷ Some (in_l 2) ∷ Some (in_m 1) ∷ Some (in_m 2) ∷ Some (in_m 3) ∷ []
lines_beyond = refl

-- no line has the number 0, which would be one of the first file
no_line : own_line unended 0 ≡ in_p 0
no_line = refl

-- no file follows; l.b and m.b follow, and each has a newline before it
none_follow : followed [] ≡ record { text = []; files = [] }
none_follow = refl

two_follow : followed
    (record { name = codes "l.b"; text = codes "c\nd" } ∷ record { name = codes "m.b"; text = [] } ∷ [])
    ≡ record { text = codes "\nc\nd\n"; files = after_p ((codes "l.b", codes "c\nd") ∷ (codes "m.b", []) ∷ []) }
two_follow = refl
