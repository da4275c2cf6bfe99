-- Inner words: parts of statements, as the calls read them.
use Rattle.std.specs.Prelude.{◌≡◌, ℕ, suc, ◌+◌, ◌≤◌, Result, Ok, Err}
use Rattle.blang.specs.Trees.{Expr, Stmt, Stmts, Nothing, Break, ReturnValue}
use Rattle.bgrammar.specs.Reading.{Got, Reader, ◌>>=◌, after, expect, many}
use Rattle.bgrammar.specs.ExpressionReader.{is_close_paren, always, Rvalue, reader}
use Rattle.bgrammar.specs.StatementReader.{is_open_paren, is_close_brace, is_semicolon, goes_on, one_more, level, tested}
use Rattle.bgrammar.specs.StatementReader.{chosen, looped, else_part}
use Rattle.blang.specs.declared.code.Instr.{Instr}
use Rattle.blang.specs.declared.code.Instr.TheVariants as instr
use Rattle.bemit.specs.Drafts as drafts
use Rattle.bemit.specs.Drafts.{Draft, emitted, filled, place_of, breaks_filled, arms_size}
use Rattle.bemit.specs.Effects.{evaluated, done}
use Rattle.bemit.specs.Trails.{Trail, took, noted, trailed_condition, trailed_statement}
use Rattle.bread.specs.Tokens.{Tokens, IsSingle, work}
use Rattle.bread.specs.declared.halt.Halt.{Halt}
use Rattle.bread.specs.Parsers.{Halts}
use Rattle.bread.specs.Compiling.{PartAfter}

-- after the current token
abbrev pub after_current : {I A : Type 0} → (I → Reader A) → I → Reader A
after_current reader i ts = reader i (after ts)

-- an rvalue, and a semicolon
abbrev pub rvalue_ended : ℕ → ℕ → Reader Expr
rvalue_ended room off ts = reader room Rvalue off ts >>= λ e r. expect is_semicolon r >>= λ o. Got e

-- an instruction after an rvalue
abbrev pub evaluated_to : Instr → Expr → Draft → Draft
evaluated_to last e d = emitted last (evaluated e d)

-- what stands after a break on this line
abbrev pub break_after : ℕ → Reader Stmt
break_after line ts = expect is_semicolon ts >>= λ o. Got (Break line)

-- the trail of a return or a break up to what stands after its keyword
abbrev pub after_keyword : Draft → Trail → Trail
after_keyword d t = took (noted d t)

-- and of a return up to what stands after its parenthesis
abbrev pub after_parenthesis : Draft → Trail → Trail
after_parenthesis d t = took (after_keyword d t)

-- and of an if up to what stands after its first statement
abbrev pub after_first : Expr → Stmt → Draft → Trail → Trail
after_first e s d t =
    trailed_statement s (emitted (instr.JumpIfZero 0) (evaluated e d)) (trailed_condition e d (took t))

-- the value of a return, after the parenthesis that opens it
abbrev pub return_value : ℕ → ℕ → Reader Stmt
return_value room off ts =
    reader room Rvalue off ts >>= λ e r. expect is_close_paren r >>= λ o r. expect is_semicolon r >>= λ o. Got
    (ReturnValue e)

-- a condition in its parentheses
abbrev pub condition : ℕ → ℕ → Reader Expr
condition room off ts =
    expect is_open_paren ts >>= λ o r. reader room Rvalue off r >>= λ e r. expect is_close_paren r >>= λ o. Got e

abbrev pub conditional_after : ℕ → ℕ → Reader Stmt
conditional_after room off ts = tested (level room) off (chosen (level room) off) ts

abbrev pub repeated : ℕ → ℕ → Reader Stmt
repeated room off ts = tested (level room) off (looped (level room) off) ts

-- statements up to a closing brace, each with so many levels of nesting
abbrev pub statements : ℕ → ℕ → Reader Stmts
statements room off ts =
    many (always goes_on) (one_more (level (suc room)) off) Nothing ts >>= λ ss r. expect is_close_brace r >>= λ o. Got
    ss

-- An `else` and its statement were read after the first statement, or there is none, and the test jumps round what it
-- must.
abbrev pub Chooses : ℕ → ℕ → Tokens → Draft → Result (Unit {0}) Halt → Tokens → Draft → Type 0
Chooses room test old start (Ok u) new draft =
    ((off : ℕ) (e : Expr) (s : Stmt) (d : Draft) → test ≡ place_of (evaluated e d) → start
    ≡ done s (emitted (instr.JumpIfZero 0) (evaluated e d))
    → PartAfter (after_first e s) (else_part (level (suc room)) off e s) done trailed_statement d old new draft) × IsSingle new × (work new ≤ work old)
Chooses room test old start (Err halt) new draft = (off : ℕ) (e : Expr) (s : Stmt)
    → Halts (else_part (level (suc room)) off e s) old halt new

-- the end of a loop after its statement, which begins at this place, where its breaks are those since this mark
abbrev pub closed_loop : ℕ → ℕ → Draft → Draft
closed_loop top mark b = let t = drafts.loop_ended (emitted (instr.Jump top) b) in breaks_filled mark (place_of t) t

-- the end of a switch after its statements, where the jump to its tests is at this place and its breaks are those
-- since this mark
abbrev pub closed_switch : ℕ → ℕ → Draft → Draft
closed_switch jump mark b =
    let a = place_of b + 1 in
    let t = drafts.tested (emitted (instr.Jump (a + arms_size b)) b) in
    drafts.ended (filled jump (instr.Jump a) (breaks_filled mark (place_of t) t))
