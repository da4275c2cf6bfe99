-- Promise: the line that tells how many faults or warnings are left.
use Rattle.std.specs.Prelude.{ℕ, zero, suc, ◌==◌, List, [], ◌++◌, codes, decimal, if◌then◌else◌}
use Rattle.blang.specs.declared.status.TheConstants.{DONE}

-- what so many are, of a source of this status: of one that compiles and loads they are warnings
abbrev pub left_words : (status count : ℕ) → List ℕ
left_words status count =
    (if status == DONE then codes " warning" else codes " fault") ++ (if count == 1 then [] else codes "s")

-- nothing, where nothing is left
abbrev pub left_text : (status count : ℕ) → List ℕ
left_text status zero = []
left_text status (suc n) =
    codes "left: " ++ (decimal (suc n) ++ (left_words status (suc n) ++ codes ", which b check tells\n"))
