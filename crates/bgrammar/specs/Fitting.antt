-- Inner words: the three rules of well-formed trees at once, with the room that is left and the offset that comes next,
-- as a reader meets them; and the words of the strings of a tree. `FormedWithin` says that the rules are those of
-- `WellFormed`.
use Rattle.std.specs.Prelude.{List, [], ◌∷◌, ◌++◌, ◌≡◌, ℕ, zero, suc, ◌+◌, ◌-◌, ◌/◌, ◌≤◌, length, false, sum_by}
use Rattle.blang.specs.Trees.{Another, Arguments, Assigned, Binary, Called, Conditional, Expr, Grouped, Indexed}
use Rattle.blang.specs.Trees.{Literal, Named, No_arguments, Postfixed, Prefixed, Text, Break, Compound, Empty, Evaluate}
use Rattle.blang.specs.Trees.{Goto, Headed, If, IfElse, More, Nothing, Return, ReturnValue, Stmt, Stmts, Switch, While}
use Rattle.blang.specs.Trees.{Ival}
use Rattle.blang.specs.Walk.{Walk, TextHere, Level, ◌▸◌, walk, walk_arguments, walk_statement, walk_body, walk_value}
use Rattle.blang.specs.WellFormed.{rank, or_rank, conditional_rank, rvalue_rank, IsPostfix, is_open, IsHeading, packed}

-- what holds of each thing and those before it
abbrev pub EachAfter : {A : Type 0} → (List A → A → Type 0) → List A → List A → Type 0
EachAfter P before [] = Unit {0}
EachAfter P before (x ∷ xs) = P before x × EachAfter P (before ++ x ∷ []) xs

-- the words of a string: two characters a word, and a last byte
abbrev pub text_words : List ℕ → ℕ
text_words bytes = (length bytes + 2) / 2

-- the string words in a walk
abbrev pub words_in : Walk → ℕ
words_in (TextHere t) = text_words t.bytes
words_in (Level p w end) = words_in w
words_in (v ▸ w) = words_in v + words_in w
words_in _ = 0

abbrev pub words : Expr → ℕ
words e = words_in (walk e)

abbrev pub argument_words : Arguments → ℕ
argument_words args = words_in (walk_arguments args)

abbrev pub statement_words : Stmt → ℕ
statement_words s = words_in (walk_statement s)

abbrev pub body_words : Stmts → ℕ
body_words body = words_in (walk_body body)

-- what stands one level deeper fits the room that is left there
abbrev pub Deeper : (ℕ → Type 0) → ℕ → Type 0
Deeper Inside zero = ⊥
Deeper Inside (suc room) = Inside room

-- What is in a walk needs no more levels than this room, and the offsets of its strings count up from this one.
abbrev pub FitsIn : Walk → ℕ → ℕ → Type 0
FitsIn (TextHere t) room off = t.offset ≡ off
FitsIn (Level p w end) room off = Deeper (λ k. FitsIn w k off) room
FitsIn (v ▸ w) room off = FitsIn v room off × FitsIn w room (off + words_in v)
FitsIn _ room off = Unit {0}

-- The expression may stand where operators of this rank may, its nesting needs no more levels than this room,
-- and the offsets of its strings count up from this one.
abbrev mutual
  pub Fits : Expr → ℕ → ℕ → ℕ → Type 0
  Fits (Named w) loose room off = Unit {0}
  Fits (Literal c) loose room off = Unit {0}
  Fits (Text bytes offset) loose room off = offset ≡ off
  Fits (Grouped e) loose room off = Deeper (λ k. Fits e rvalue_rank k off) room
  Fits (Indexed e f) loose room off =
      IsPostfix e × Fits e 0 room off × Deeper (λ k. Fits f rvalue_rank k (off + words e)) room
  Fits (Called e args) loose room off =
      IsPostfix e × Fits e 0 room off × Deeper (λ k. ArgumentsFit args k (off + words e)) room
  Fits (Postfixed op line e) loose room off = IsPostfix e × Fits e 0 room off
  Fits (Prefixed op line e) loose room off = Deeper (λ k. Fits e 0 k off) room
  Fits (Binary op line e f) loose room off =
      (rank op ≤ loose) × Fits e (rank op) room off × Fits f (rank op - 1) room (off + words e)
  Fits (Conditional e f g) loose room off =
      (conditional_rank ≤ loose) × Fits e or_rank room off
      × Deeper (λ k. Fits f rvalue_rank k (off + words e) × Fits g conditional_rank k (off + words e + words f)) room
  Fits (Assigned op line e f) loose room off =
      (rvalue_rank ≤ loose) × Fits e 0 room off × Deeper (λ k. Fits f rvalue_rank k (off + words e)) room

  pub ArgumentsFit : Arguments → ℕ → ℕ → Type 0
  ArgumentsFit No_arguments room off = Unit {0}
  ArgumentsFit (Another before e) room off =
      ArgumentsFit before room off × Fits e rvalue_rank room (off + argument_words before)

-- Its nesting needs no more levels than this room, each else belongs to the nearest if that has none,
-- and the offsets of its strings count up from this one.
abbrev mutual
  pub Sits : Stmt → ℕ → ℕ → Type 0
  Sits (Headed h s) room off = IsHeading h × Sits s room off
  Sits (Compound body) room off = Deeper (λ k. AllSit body k off) room
  Sits (If e s) room off = Deeper (λ k. Fits e rvalue_rank k off × Sits s k (off + words e)) room
  Sits (IfElse e s other) room off =
      (is_open s ≡ false)
      × Deeper (λ k. Fits e rvalue_rank k off × Sits s k (off + words e)
      × Sits other k (off + words e + statement_words s)) room
  Sits (While e s) room off = Deeper (λ k. Fits e rvalue_rank k off × Sits s k (off + words e)) room
  Sits (Switch e body) room off = Deeper (λ k. Fits e rvalue_rank k off × AllSit body k (off + words e)) room
  Sits (Goto e) room off = Fits e rvalue_rank room off
  Sits (Break line) room off = Unit {0}
  Sits Return room off = Unit {0}
  Sits (ReturnValue e) room off = Fits e rvalue_rank room off
  Sits (Evaluate e) room off = Fits e rvalue_rank room off
  Sits Empty room off = Unit {0}

  pub AllSit : Stmts → ℕ → ℕ → Type 0
  AllSit Nothing room off = Unit {0}
  AllSit (More before s) room off = AllSit before room off × Sits s room (off + body_words before)

abbrev pub ival_words : Ival → ℕ
ival_words v = words_in (walk_value v)

-- the string words of initial values
abbrev pub values_words : List Ival → ℕ
values_words values = sum_by ival_words values

-- a string's offset is the string words before it
abbrev pub IvalFits : List Ival → Ival → Type 0
IvalFits before v = FitsIn (walk_value v) 0 (values_words before)

-- the words of the strings themselves
abbrev pub strings_in : Walk → List ℕ
strings_in (TextHere t) = packed t.bytes
strings_in (Level p w end) = strings_in w
strings_in (v ▸ w) = strings_in v ++ strings_in w
strings_in _ = []

abbrev pub strings : Expr → List ℕ
strings e = strings_in (walk e)

abbrev pub argument_strings : Arguments → List ℕ
argument_strings args = strings_in (walk_arguments args)

abbrev pub statement_strings : Stmt → List ℕ
statement_strings s = strings_in (walk_statement s)

abbrev pub body_strings : Stmts → List ℕ
body_strings body = strings_in (walk_body body)

abbrev pub ival_strings : Ival → List ℕ
ival_strings v = strings_in (walk_value v)
