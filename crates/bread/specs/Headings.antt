-- Inner words: reading what stands before a statement, one heading at a time.
use Rattle.std.specs.Prelude.{◌≡◌, ℕ, List}
use Rattle.blang.specs.declared.token.Placed.{Placed}
use Rattle.bgrammar.specs.Reading.{Got, Stop, Reader, ◌>>=◌, first, expect}
use Rattle.bgrammar.specs.ExpressionReader.{is_colon}
use Rattle.bgrammar.specs.Commas.{list_reader}
use Rattle.blang.specs.Trees.{Heading, Auto, Extrn, Case, Default, Stmt, Headed}
use Rattle.bgrammar.specs.StatementReader.{is_semicolon, name, constant, declared, stmt_at, level, statement}

-- a heading after its keyword
abbrev pub auto : Reader Heading
auto ts = list_reader (λ before. declared) ts >>= λ ds r. expect is_semicolon r >>= λ o. Got (Auto ds)

abbrev pub extrn : Reader Heading
extrn ts = list_reader (λ before. name) ts >>= λ names r. expect is_semicolon r >>= λ o. Got (Extrn names)

abbrev pub case : ℕ → Reader Heading
case line ts = constant ts >>= λ c r. expect is_colon r >>= λ o. Got (Case line c)

abbrev pub default : ℕ → Reader Heading
default line ts = expect is_colon ts >>= λ o. Got (Default line)

-- a statement without a heading
abbrev pub unheaded : ℕ → ℕ → Reader Stmt
unheaded room off ts = stmt_at room (level room) off (first ts) ts

-- The heading stands before the rest, whatever statement is read there.
abbrev pub IsHeadedBy : Heading → List Placed → List Placed → Type 0
IsHeadedBy h u v = (room off : ℕ) → statement room off u ≡ (statement room off v >>= λ s. Got (Headed h s))

-- No heading stands here.
abbrev pub IsUnheaded : List Placed → List Placed → Type 0
IsUnheaded u v = (room off : ℕ) → statement room off u ≡ unheaded room off v

-- A heading begins here, and reading it stops.
abbrev pub StopsHeading : List Placed → List Placed → Type 0
StopsHeading u v = (room off : ℕ) → statement room off u ≡ Stop v
