-- No text of a table is longer than its longest row.
use Rattle.std.proofs.Common.{◌≡◌, ℕ, ◌<◌, ◌≤◌, Bool, true, false, ◌==◌, List, [], ◌∷◌, length, Option, Some, None, refl, ◌∙◌, arith, if◌then◌else◌}
use Rattle.std.proofs.lemmas.Bool.Decides.{nat_tests}
use Rattle.std.proofs.Math.Bool.{and-false}
use Rattle.std.specs.Prelude.{nat_le}
use Rattle.std.specs.List.{list_all, find}
use Rattle.std.specs.Map.{lookup}
use Rattle.std.specs.Option.{option_or}
use Rattle.std.proofs.lemmas.Bool.{and_parts, or_parts}
use Rattle.bword.specs.Words.{operators, operator_text}
use Rattle.bword.specs.declared.operators.BinOp.{BinOp}
use Rattle.bword.specs.declared.operators.BinOp.TheVariants as op
use Rattle.blang.specs.declared.token.Token.{Token}
use Rattle.blex.specs.Lexing.{NoneOfThree, begins_two}
use Rattle.blang.specs.Cut.{is_text, others, operator_of, assignment_of, other_of, fixed_of}

is_text-longer : (xs ys : List ℕ) → length ys < length xs → is_text xs ys ≡ false
is_text-longer [] ys h = absurd (omega arith)
is_text-longer (x ∷ xs) [] h = refl
is_text-longer (x ∷ xs) (y ∷ ys) h = rw (is_text-longer xs ys (omega arith)) (and-false (x == y))

find-none : {X : Type 0} (p : X → Bool) (xs : List X) → ((x : X) → p x ≡ false) → find p xs ≡ None
find-none p [] h = refl
find-none p (x ∷ xs) h = rw (h x) (find-none p xs h)

operator_short : (o : BinOp) → length (operator_text o) ≤ 2
operator_short o = elim o as (λ o. length (operator_text o) ≤ 2) [
  | op.Or ↦ omega arith
  | op.And ↦ omega arith
  | op.Eq ↦ omega arith
  | op.Ne ↦ omega arith
  | op.Lt ↦ omega arith
  | op.Le ↦ omega arith
  | op.Gt ↦ omega arith
  | op.Ge ↦ omega arith
  | op.Shl ↦ omega arith
  | op.Shr ↦ omega arith
  | op.Sub ↦ omega arith
  | op.Add ↦ omega arith
  | op.Rem ↦ omega arith
  | op.Mul ↦ omega arith
  | op.Div ↦ omega arith
]

pub operator_of-long : (text : List ℕ) → 2 < length text → operator_of text ≡ None
unfolding operator_of
operator_of-long text h =
    find-none (λ o. is_text text (operator_text o)) operators (λ o. is_text-longer text (operator_text o) (omega (arith, operator_short o)))

lookup-long : {X : Type 0} (n : ℕ) (text : List ℕ) (rows : List (List ℕ × X)) → n < length text → list_all (λ row. nat_le (length row.0) n) rows ≡ true
    → lookup (is_text text) rows ≡ None
lookup-long n text [] h e = refl
lookup-long n text (row ∷ rows) h e =
    let both = and_parts (nat_le (length row.0) n) _ e in
    let short : length row.0 ≤ n = grind (arith, nat_tests) in
    rw (is_text-longer text row.0 (omega arith)) (lookup-long n text rows h both.1)

pub other_of-long : (text : List ℕ) → 2 < length text → other_of text ≡ None
unfolding other_of
other_of-long text h = lookup-long 2 text others h refl

if_none : (t : Bool) → if◌then◌else◌ {A = Option Token} t None None ≡ None
if_none true = refl
if_none false = refl

option_or_none : (o : Option Token) → option_or o None ≡ o
option_or_none None = refl
option_or_none (Some t) = refl

pub assignment_of-one : (b : ℕ) → assignment_of (b ∷ []) ≡ None
unfolding operator_of
assignment_of-one b = if_none (b == 61)

pub fixed_of-three : (a b c : ℕ) → fixed_of (a ∷ b ∷ c ∷ []) ≡ assignment_of (a ∷ b ∷ c ∷ [])
unfolding fixed_of
fixed_of-three a b c = rw (operator_of-long (a ∷ b ∷ c ∷ []) (omega arith), other_of-long (a ∷ b ∷ c ∷ []) (omega arith)) (option_or_none (assignment_of (a ∷ b ∷ c ∷ [])))

pub fixed_of-long : (text : List ℕ) → 3 < length text → fixed_of text ≡ None
unfolding fixed_of
fixed_of-long [] h = absurd (omega arith)
fixed_of-long (b ∷ bs) h =
    rw (operator_of-long (b ∷ bs) (omega arith), operator_of-long bs (omega arith), other_of-long (b ∷ bs) (omega arith), if_none (b == 61)) refl

-- an operator of two bytes begins with one of four
two_begins : (a b : ℕ) → (a == 61) ≡ false → (a == 33) ≡ false → (a == 60) ≡ false → (a == 62) ≡ false → operator_of (a ∷ b ∷ []) ≡ None
unfolding operator_of
two_begins a b e f g h = simp (e, f, g, h, and-false)

no_assignment : (a b c : ℕ) → (a == 61) ≡ false → fixed_of (a ∷ b ∷ c ∷ []) ≡ None
no_assignment a b c e = fixed_of-three a b c ∙ rw e refl

no_long_assignment : (a b c : ℕ) → (b == 61) ≡ false → (b == 33) ≡ false → (b == 60) ≡ false → (b == 62) ≡ false → fixed_of (a ∷ b ∷ c ∷ []) ≡ None
no_long_assignment a b c e f g h = fixed_of-three a b c ∙ rw (two_begins b c e f g h) (if_none (a == 61))

-- only an assignment has three bytes
pub none_unless_assignment : (first : ℕ) (second : Option ℕ) → (first == 61) ≡ false → NoneOfThree first second
none_unless_assignment first None e = tt
none_unless_assignment first (Some b) e = λ c. no_assignment first b c e

pub none_unless_two : (first b : ℕ) → begins_two b ≡ false → NoneOfThree first (Some b)
none_unless_two first b e =
    let p = or_parts (b == 61) _ e in
    let q = or_parts (b == 33) _ p.1 in
    let r = or_parts (b == 60) _ q.1 in
    λ c. no_long_assignment first b c p.0 q.0 r.0 r.1
