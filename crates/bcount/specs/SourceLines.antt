-- Inner words: what stands beside the counts of lines.
use Rattle.std.specs.Prelude.{ℕ, ◌<◌, ◌≤◌, List, ◌++◌, codes}
use Rattle.btools.specs.SourceLines.{shown_line}
use Rattle.bcount.specs.declared.lines.Counted.{Counted}

-- what stands beside the counts of a line
abbrev pub beside_text : (line : List ℕ) → List ℕ
beside_text line = codes "  " ++ shown_line line

-- an instruction is on one of so many lines
abbrev pub IsOnLines : (last : ℕ) → Counted → Type 0
IsOnLines last c = (0 < c.line) × (c.line ≤ last)
