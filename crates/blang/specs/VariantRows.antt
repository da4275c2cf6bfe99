-- Closed facts: what rules hand on from one form to the next, at each variant of a type and at the edges of a number.
use Rattle.std.specs.Prelude.{◌≡◌, ◌+◌, ℕ, List, [], ◌∷◌, map, codes, Some, None, refl}
use Rattle.bword.specs.declared.operators.BinOp.{BinOp}
use Rattle.bword.specs.declared.operators.BinOp.TheVariants as op
use Rattle.blang.specs.declared.token.Keyword.{Keyword}
use Rattle.blang.specs.declared.token.Placed.{Placed}
use Rattle.blang.specs.declared.token.Token.{Token}
use Rattle.blang.specs.declared.token.Keyword.TheVariants as keyword
use Rattle.blang.specs.declared.token.Token.TheVariants as token
use Rattle.blang.specs.declared.code.Instr.TheVariants as instr
use Rattle.blang.specs.Trees.{Number, Character, constant_value, constant_token, name_token, keyword_mark}
use Rattle.blang.specs.Scan.{Automatic, External, Unlabelled, Labelled}
use Rattle.blang.specs.Code.{In_frame, Outside, At_label, referent_of, name_address_code, name_word_code, assignment}
use Rattle.blang.specs.Code.{jump, jump_if_zero, leave, leaving, empty_segment, ◌▹◌, ◌▷◌}

abbrev pub edges : List ℕ
edges =
    0 ∷ 1 ∷ 2 ∷ 9 ∷ 127 ∷ 128 ∷ 255 ∷ 256 ∷ 257 ∷ 32767 ∷ 32768 ∷ 32769 ∷ 65534 ∷ 65535 ∷ 65536 ∷ []

abbrev pub operators : List BinOp
operators =
    op.Or ∷ op.And ∷ op.Eq ∷ op.Ne ∷ op.Lt ∷ op.Le ∷ op.Gt ∷ op.Ge ∷ op.Shl ∷ op.Shr ∷ op.Sub ∷ op.Add ∷ op.Rem
    ∷ op.Mul ∷ op.Div ∷ []

abbrev keywords : List Keyword
keywords =
    keyword.Auto ∷ keyword.Extrn ∷ keyword.Case ∷ keyword.If ∷ keyword.Else ∷ keyword.While ∷ keyword.Switch
    ∷ keyword.Goto ∷ keyword.Return ∷ keyword.Break ∷ keyword.Default ∷ []

abbrev at_line : ℕ → Token → Placed
at_line n t = record { token = t; line = n }

-- Tokens of what a tree has.
constants : map (λ n. constant_value (Number n) ∷ constant_value (Character n) ∷ []) edges
    ≡ map (λ n. n ∷ n ∷ []) edges
constants = refl

constant_tokens : map (λ n. constant_token (Number n) ∷ constant_token (Character n) ∷ []) edges
    ≡ map (λ n. token.Number n ∷ token.Character n ∷ []) edges
constant_tokens = refl

name_tokens : map (λ n. name_token (record { text = codes "abcdefgh"; line = n })) edges
    ≡ map (λ n. at_line n (token.Name (codes "abcdefgh"))) edges
name_tokens = refl

keyword_marks : map keyword_mark keywords ≡ map (λ k. at_line 0 (token.Keyword k)) keywords
keyword_marks = refl

-- Instructions by what a name means.
referents : map (λ n. referent_of (Some (Automatic n)) ∷ referent_of (Some (Labelled n)) ∷ []) edges
    ≡ map (λ n. In_frame n ∷ At_label n ∷ []) edges
referents = refl

abbrev a : List ℕ
a = codes "a"

addresses : map (λ n. name_address_code (In_frame n) a ∷ name_address_code (At_label n) a ∷ []) edges
    ≡ map (λ n. instr.Automatic n ∷ instr.Label n ∷ []) edges
addresses = refl

words : map (λ n. name_word_code (In_frame n) a ∷ name_word_code (At_label n) a ∷ []) edges
    ≡ map (λ n. (instr.Automatic n ∷ instr.Load ∷ []) ∷ (instr.Label n ∷ []) ∷ []) edges
words = refl

outside : referent_of None ∷ referent_of (Some External) ∷ map (λ n. referent_of (Some (Unlabelled n))) edges
    ≡ Outside ∷ Outside ∷ map (λ n. Outside) edges
outside = refl

assignments : assignment None ∷ map (λ op. assignment (Some op)) operators ≡ instr.Store ∷ map instr.Modify operators
assignments = refl

-- Jumps: where each leads, and where it ends.
jumps : map (λ n. (jump n 3).code 7 ∷ (jump_if_zero n 3).code 7 ∷ (leave 3).code n ∷ (leaving n leave 3).code 7 ∷ [])
    edges
    ≡ map (λ n. (instr.Jump n ∷ []) ∷ (instr.JumpIfZero n ∷ []) ∷ (instr.Jump n ∷ []) ∷ (instr.Jump n ∷ []) ∷ []) edges
jumps = refl

ends_of_jumps : map (λ p. (jump 5 p).end ∷ (jump_if_zero 5 p).end ∷ (leave p).end ∷ (leaving 5 leave p).end
    ∷ (empty_segment p).end ∷ ((jump 5 ▹ leave) p).end ∷ ((jump 5 ▷ leave) p).end ∷ []) edges
    ≡ map (λ p. (p + 1) ∷ (p + 1) ∷ (p + 1) ∷ (p + 1) ∷ p ∷ (p + 2) ∷ (p + 2) ∷ []) edges
ends_of_jumps = refl
