-- Promise: what a file of an author says, in which each line has to be something; or its first wrong line.
use Rattle.std.specs.Prelude.{ℕ, ◌+◌, ◌==◌, Bool, false, if◌then◌else◌, List, [], ◌∷◌, ◌++◌, length}
use Rattle.std.specs.Prelude.{Option, Some, None, Result, Ok, Err}
use Rattle.std.specs.List.{slice_split}

-- the lines of a file; nothing stands after the last newline
abbrev pub lines_of : (file : List ℕ) → List (List ℕ)
lines_of file = slice_split (λ b. b == 10) file

abbrev pub is_over : List (List ℕ) → Bool
is_over (last ∷ []) = length last == 0
is_over lines = false

abbrev pub with_read : {L F : Type 0} → List L → Result (List L) F → Result (List L) F
with_read read (Ok later) = Ok (read ++ later)
with_read read (Err f) = Err f

-- a line and what is read after it; or it is the first wrong one, and this is wanted
abbrev pub with_line : {W L : Type 0} → (number : ℕ) → W → Option L → Result (List L) (ℕ × W)
    → Result (List L) (ℕ × W)
with_line number w None later = Err (number, w)
with_line number w (Some l) later = with_read (l ∷ []) later

abbrev pub at_end : {W L : Type 0} → (end : W) → (number : ℕ) → List (List ℕ) → Result (List L) (ℕ × W)
at_end end number lines = if is_over lines then Ok [] else Err (number, end)

-- what is read of lines from this number on, where these are wanted, and then the end
abbrev pub read_from : {W L : Type 0} → (read : W → List ℕ → Option L) → (end : W) → (number : ℕ) → List W
    → List (List ℕ) → Result (List L) (ℕ × W)
read_from read end number [] lines = at_end end number lines
read_from read end number (w ∷ ws) [] = Err (number, w)
read_from read end number (w ∷ ws) (l ∷ ls) =
    with_line number w (read w l) (read_from read end (number + 1) ws ls)
