-- Inner words: the costliest lines.
use Rattle.std.specs.Prelude.{◌≡◌, ℕ, zero, suc, ◌==◌, Bool, List, [], ◌∷◌, get_or, length, nat_lt, refl, take}
use Rattle.std.specs.Prelude.{if◌then◌else◌, None}
use Rattle.std.specs.List.{list_any}
use Rattle.bcount.specs.declared.lines.LineCount.{LineCount}
use Rattle.bcount.specs.declared.marks.MarkedLine.{MarkedLine}
use Rattle.bcount.specs.declared.marks.TheConstants.{MARKED}

-- a line without code
abbrev pub no_code : LineCount
no_code = record { times = None; steps = 0 }

-- A line stands before the first one that took fewer steps.
abbrev pub inserted : MarkedLine → List MarkedLine → List MarkedLine
inserted m [] = m ∷ []
inserted m (k ∷ ks) = if nat_lt k.steps m.steps then m ∷ k ∷ ks else k ∷ inserted m ks

-- a line more, if its code took steps
abbrev pub with_line : (index : ℕ) → (steps : ℕ) → List MarkedLine → List MarkedLine
with_line index steps marks = if nat_lt 0 steps then inserted (record { index = index; steps = steps }) marks else marks

-- the first lines that took steps, the costliest first, and of those that took as many the upper one
abbrev pub by_cost : List LineCount → (first : ℕ) → List MarkedLine
by_cost lines zero = []
by_cost lines (suc n) = with_line n (get_or lines n no_code).steps (by_cost lines n)

marked_lines : MARKED ≡ 3
marked_lines = refl

-- the three costliest lines
abbrev pub marks_of : List LineCount → List MarkedLine
marks_of lines = take MARKED (by_cost lines (length lines))

abbrev pub is_marked : List LineCount → (index : ℕ) → Bool
is_marked lines index = list_any (λ m. m.index == index) (marks_of lines)
