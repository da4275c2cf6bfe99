-- Closed facts: the operators at some words, one pair of operands a line. Words above 32767 are below zero: 65535 is
-- -1.
use Rattle.std.specs.Prelude.{◌≡◌, ℕ, List, [], ◌∷◌, map, codes, Option, Some, None, refl}
use Rattle.bword.specs.declared.operators.BinOp.{BinOp}
use Rattle.bword.specs.declared.operators.BinOp.TheVariants as op
use Rattle.bword.specs.Words.{operators, operator_text, binary_of, negate_of, not_of}

-- two operands, and what each of some operators makes of them
abbrev Row : Type 0
Row = ℕ × ℕ × List (Option ℕ)

abbrev Make : List BinOp → List Row → Type 0
Make ops rows = map (λ r. map (λ op. binary_of op r.0 r.1) ops) rows ≡ map (λ r. r.2) rows

-- words, each of which is made
abbrev all : List ℕ → List (Option ℕ)
all words = map Some words

-- ==, !=, <, <=, >, >=
relations : Make (op.Eq ∷ op.Ne ∷ op.Lt ∷ op.Le ∷ op.Gt ∷ op.Ge ∷ []) (
    (5, 5, all (1 ∷ 0 ∷ 0 ∷ 1 ∷ 0 ∷ 1 ∷ [])) ∷
    (5, 6, all (0 ∷ 1 ∷ 1 ∷ 1 ∷ 0 ∷ 0 ∷ [])) ∷
    (6, 5, all (0 ∷ 1 ∷ 0 ∷ 0 ∷ 1 ∷ 1 ∷ [])) ∷
    (65535, 0, all (0 ∷ 1 ∷ 1 ∷ 1 ∷ 0 ∷ 0 ∷ [])) ∷
    (0, 65535, all (0 ∷ 1 ∷ 0 ∷ 0 ∷ 1 ∷ 1 ∷ [])) ∷
    (32767, 32768, all (0 ∷ 1 ∷ 0 ∷ 0 ∷ 1 ∷ 1 ∷ [])) ∷
    (32768, 32767, all (0 ∷ 1 ∷ 1 ∷ 1 ∷ 0 ∷ 0 ∷ [])) ∷
    (32768, 32768, all (1 ∷ 0 ∷ 0 ∷ 1 ∷ 0 ∷ 1 ∷ [])) ∷
    (256, 512, all (0 ∷ 1 ∷ 1 ∷ 1 ∷ 0 ∷ 0 ∷ [])) ∷
    (65534, 65535, all (0 ∷ 1 ∷ 1 ∷ 1 ∷ 0 ∷ 0 ∷ [])) ∷
    (65535, 65534, all (0 ∷ 1 ∷ 0 ∷ 0 ∷ 1 ∷ 1 ∷ [])) ∷
    [])
relations = refl

-- | and &
bits : Make (op.Or ∷ op.And ∷ []) (
    (12, 10, all (14 ∷ 8 ∷ [])) ∷
    (7, 7, all (7 ∷ 7 ∷ [])) ∷
    (65535, 0, all (65535 ∷ 0 ∷ [])) ∷
    (32768, 1, all (32769 ∷ 0 ∷ [])) ∷
    (65535, 32768, all (65535 ∷ 32768 ∷ [])) ∷
    [])
bits = refl

-- << and >>: zeros come in, and a count of 16 or more leaves nothing
shifts : Make (op.Shl ∷ op.Shr ∷ []) (
    (7, 0, all (7 ∷ 7 ∷ [])) ∷
    (7, 1, all (14 ∷ 3 ∷ [])) ∷
    (40, 3, all (320 ∷ 5 ∷ [])) ∷
    (65535, 1, all (65534 ∷ 32767 ∷ [])) ∷
    (32768, 1, all (0 ∷ 16384 ∷ [])) ∷
    (3, 15, all (32768 ∷ 0 ∷ [])) ∷
    (65535, 15, all (32768 ∷ 1 ∷ [])) ∷
    (65535, 16, all (0 ∷ 0 ∷ [])) ∷
    (65535, 17, all (0 ∷ 0 ∷ [])) ∷
    (1, 32, all (0 ∷ 0 ∷ [])) ∷
    (65535, 64, all (0 ∷ 0 ∷ [])) ∷
    (65535, 256, all (0 ∷ 0 ∷ [])) ∷
    (65535, 32768, all (0 ∷ 0 ∷ [])) ∷
    (65535, 65535, all (0 ∷ 0 ∷ [])) ∷
    [])
shifts = refl

-- +, - and *, which wrap
sums : Make (op.Add ∷ op.Sub ∷ op.Mul ∷ []) (
    (5, 3, all (8 ∷ 2 ∷ 15 ∷ [])) ∷
    (3, 5, all (8 ∷ 65534 ∷ 15 ∷ [])) ∷
    (5, 5, all (10 ∷ 0 ∷ 25 ∷ [])) ∷
    (0, 1, all (1 ∷ 65535 ∷ 0 ∷ [])) ∷
    (65535, 1, all (0 ∷ 65534 ∷ 65535 ∷ [])) ∷
    (65535, 2, all (1 ∷ 65533 ∷ 65534 ∷ [])) ∷
    (65535, 7, all (6 ∷ 65528 ∷ 65529 ∷ [])) ∷
    (65535, 65535, all (65534 ∷ 0 ∷ 1 ∷ [])) ∷
    (32767, 1, all (32768 ∷ 32766 ∷ 32767 ∷ [])) ∷
    (32767, 65535, all (32766 ∷ 32768 ∷ 32769 ∷ [])) ∷
    (32768, 1, all (32769 ∷ 32767 ∷ 32768 ∷ [])) ∷
    (32768, 2, all (32770 ∷ 32766 ∷ 0 ∷ [])) ∷
    (32768, 32768, all (0 ∷ 0 ∷ 0 ∷ [])) ∷
    (255, 257, all (512 ∷ 65534 ∷ 65535 ∷ [])) ∷
    (256, 256, all (512 ∷ 0 ∷ 0 ∷ [])) ∷
    (256, 257, all (513 ∷ 65535 ∷ 256 ∷ [])) ∷
    [])
sums = refl

-- / and %: toward zero, with the dividend's sign, and none by zero
quotients : Make (op.Div ∷ op.Rem ∷ []) (
    (7, 2, all (3 ∷ 1 ∷ [])) ∷
    (65529, 2, all (65533 ∷ 65535 ∷ [])) ∷
    (7, 65534, all (65533 ∷ 1 ∷ [])) ∷
    (65529, 65534, all (3 ∷ 65535 ∷ [])) ∷
    (32768, 65535, all (32768 ∷ 0 ∷ [])) ∷
    (32768, 1, all (32768 ∷ 0 ∷ [])) ∷
    (32767, 65535, all (32769 ∷ 0 ∷ [])) ∷
    (32767, 32768, all (0 ∷ 32767 ∷ [])) ∷
    (65535, 32768, all (0 ∷ 65535 ∷ [])) ∷
    (5, 7, all (0 ∷ 5 ∷ [])) ∷
    (65531, 7, all (0 ∷ 65531 ∷ [])) ∷
    (5, 5, all (1 ∷ 0 ∷ [])) ∷
    (1, 0, None ∷ None ∷ []) ∷
    (0, 0, None ∷ None ∷ []) ∷
    (65535, 0, None ∷ None ∷ []) ∷
    [])
quotients = refl

negatives : map negate_of (0 ∷ 1 ∷ 65535 ∷ 32767 ∷ 32768 ∷ []) ≡ 0 ∷ 65535 ∷ 1 ∷ 32769 ∷ 32768 ∷ []
negatives = refl

nots : map not_of (0 ∷ 1 ∷ 32768 ∷ 65535 ∷ []) ≡ 1 ∷ 0 ∷ 0 ∷ 0 ∷ []
nots = refl

-- or, and, equal, unequal, below, at most, above, at least, shifted left and right, minus, plus, remainder, times, over
texts : map operator_text operators ≡
    codes "|" ∷ codes "&" ∷ codes "==" ∷ codes "!=" ∷ codes "<" ∷ codes "<=" ∷ codes ">" ∷ codes ">=" ∷
    codes "<<" ∷ codes ">>" ∷ codes "-" ∷ codes "+" ∷ codes "%" ∷ codes "*" ∷ codes "/" ∷ []
texts = refl

all_fifteen : operators ≡
    op.Or ∷ op.And ∷ op.Eq ∷ op.Ne ∷ op.Lt ∷ op.Le ∷ op.Gt ∷ op.Ge ∷ op.Shl ∷ op.Shr ∷ op.Sub ∷ op.Add ∷
    op.Rem ∷ op.Mul ∷ op.Div ∷ []
all_fifteen = refl
