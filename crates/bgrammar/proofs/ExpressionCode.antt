-- The code of an expression whose tokens are sound is within the ranges of its function.
use Rattle.std.proofs.Common.{◌≡◌, true, ℕ, ◌+◌, ◌<◌, ◌≤◌, List, [], ◌∷◌, length, length-append, arith}
use Rattle.std.specs.Prelude.{Option, Some, None}
use Rattle.bword.specs.Words.{is_name}
use Rattle.bword.specs.declared.operators.BinOp.{BinOp}
use Rattle.blang.specs.CodeParts.{IsInstrWithin, IsWord}
use Rattle.blang.specs.declared.code.Sizes.{Sizes}
use Rattle.blang.specs.declared.code.Instr.{Instr}
use Rattle.blang.specs.Trees.{Constant, Number, Character, Expr, Arguments, PrefixOp, PostfixOp, Indirection, Address, PreIncrement, PreDecrement, PostIncrement, PostDecrement, Named, Literal, Text, Grouped, Indexed, Called, Postfixed, Prefixed, Binary, Conditional, Assigned, No_arguments, Another, constant_token, constant_value}
use Rattle.blang.specs.Code.{Referent, In_frame, Outside, At_label, Environment, name_address_code, name_word_code, assignment, argument_count, word_code, address_code, argument_code}
use Rattle.bgrammar.proofs.Holds.{Holds, Holds-nil, Holds-cons, Holds-append}
use Rattle.bgrammar.proofs.Tokens.{IsSound}
use Rattle.blang.specs.Walk.{Walk, walk, walk_arguments}
use Rattle.bgrammar.proofs.Walks.{IsWalkWithin, callee_within}

abbrev pub IsMeaningWithin : Sizes → Referent → Type 0
IsMeaningWithin sizes (In_frame k) = k < sizes.frame
IsMeaningWithin sizes Outside = Unit {0}
IsMeaningWithin sizes (At_label k) = k < sizes.labels

pub word-value_of : (c : Constant) → IsSound (constant_token c) → IsWord (constant_value c)
word-value_of (Number n) h = h
word-value_of (Character n) h = h

-- No code is empty.
some_name_word : (m : Referent) (x : List ℕ) → 1 ≤ length (name_word_code m x)
some_name_word (In_frame k) x = omega arith
some_name_word _ x = omega arith

module _ (names : Environment) where
  mutual
    pub some_word_code : (e : Expr) (p : ℕ) → 1 ≤ length (word_code names e p)
    some_word_code (Named w) p = some_name_word (names w.text) w.text
    some_word_code (Literal c) p = omega arith
    some_word_code (Text bytes offset) p = omega arith
    some_word_code (Grouped e) p = some_word_code e p
    some_word_code (Indexed e f) p = omega (arith, length-append {A = Instr}, some_word_code e p)
    some_word_code (Called e args) p = omega (arith, length-append {A = Instr}, some_word_code e p)
    some_word_code (Prefixed Address line e) p = some_address_code e p
    some_word_code (Binary op line e f) p = omega (arith, length-append {A = Instr}, some_word_code e p)
    some_word_code (Conditional e f g) p = omega (arith, length-append {A = Instr}, some_word_code e p)
    some_word_code (Assigned op line e f) p = omega (arith, length-append {A = Instr}, some_address_code e p)
    some_word_code (Postfixed PostIncrement line e) p = omega (arith, length-append {A = Instr})
    some_word_code _ p = omega (arith, length-append {A = Instr})

    some_address_code : (e : Expr) (p : ℕ) → 1 ≤ length (address_code names e p)
    some_address_code (Named w) p = omega arith
    some_address_code (Grouped e) p = some_address_code e p
    some_address_code (Prefixed Indirection line e) p = some_word_code e p
    some_address_code (Indexed e f) p = omega (arith, length-append {A = Instr}, some_word_code e p)
    some_address_code _ p = omega arith

  -- each argument has code
  argument_count-le : (args : Arguments) (p : ℕ) → argument_count args ≤ length (argument_code names args p)
  argument_count-le No_arguments p = omega arith
  argument_count-le (Another before e) p =
      let cb = argument_code names before p in
      omega (arith, length-append cb (word_code names e (p + length cb)), argument_count-le before p, some_word_code e (p + length cb))

module _ (names : Environment) (sizes : Sizes) (meant : (x : List ℕ) → IsMeaningWithin sizes (names x)) (few : sizes.code ≤ 4096) where
  abbrev Within : List Instr → Type 0
  Within code = Holds (IsInstrWithin sizes) code

  name_address_within : (m : Referent) (x : List ℕ) → IsMeaningWithin sizes m → is_name x ≡ true → Within (name_address_code m x ∷ [])
  name_address_within (In_frame k) x m s = Holds-cons m Holds-nil
  name_address_within Outside x m s = Holds-cons s Holds-nil
  name_address_within (At_label k) x m s = Holds-cons m Holds-nil

  name_word_within : (m : Referent) (x : List ℕ) → IsMeaningWithin sizes m → is_name x ≡ true → Within (name_word_code m x)
  name_word_within (In_frame k) x m s = Holds-cons m (Holds-cons tt Holds-nil)
  name_word_within Outside x m s = Holds-cons s (Holds-cons tt Holds-nil)
  name_word_within (At_label k) x m s = Holds-cons m Holds-nil

  assignment_within : (op : Option BinOp) → Within (assignment op ∷ [])
  assignment_within None = Holds-cons tt Holds-nil
  assignment_within (Some op) = Holds-cons tt Holds-nil

  postfixed_length : (op : PostfixOp) (line : ℕ) (e : Expr) (p : ℕ) → length (word_code names (Postfixed op line e) p) ≡ length (address_code names e p) + 1
  postfixed_length PostIncrement line e p = length-append (address_code names e p) _
  postfixed_length PostDecrement line e p = length-append (address_code names e p) _

  postfixed_within : (op : PostfixOp) (line : ℕ) (e : Expr) (p : ℕ) → Within (address_code names e p) → Within (word_code names (Postfixed op line e) p)
  postfixed_within PostIncrement line e p h = Holds-append h (Holds-cons tt Holds-nil)
  postfixed_within PostDecrement line e p h = Holds-append h (Holds-cons tt Holds-nil)

  prefixed_within : (op : PrefixOp) (line : ℕ) (e : Expr) (p : ℕ) → (p + length (word_code names e p) < sizes.code → Within (word_code names e p))
      → (p + length (address_code names e p) < sizes.code → Within (address_code names e p)) → p + length (word_code names (Prefixed op line e) p) < sizes.code
      → Within (word_code names (Prefixed op line e) p)
  prefixed_within Address line e p w a l = a l
  prefixed_within PreIncrement line e p w a l = Holds-append (a (omega (arith, length-append {A = Instr}))) (Holds-cons tt Holds-nil)
  prefixed_within PreDecrement line e p w a l = Holds-append (a (omega (arith, length-append {A = Instr}))) (Holds-cons tt Holds-nil)
  prefixed_within _ line e p w a l = Holds-append (w (omega (arith, length-append {A = Instr}))) (Holds-cons tt Holds-nil)

  abbrev InWalk : Walk → Type 0
  InWalk w = IsWalkWithin sizes names w

  mutual
    pub word_code_within : (e : Expr) (p : ℕ) → InWalk (walk e) → p + length (word_code names e p) < sizes.code → Within (word_code names e p)
    word_code_within (Named w) p h l = name_word_within (names w.text) w.text (meant w.text) h.0
    word_code_within (Literal c) p h l = Holds-cons (word-value_of c h) Holds-nil
    word_code_within (Text bytes offset) p h l = Holds-cons h Holds-nil
    word_code_within (Grouped e) p h l = word_code_within e p h.0.1 l
    word_code_within (Indexed e f) p h l =
        let q = p + length (word_code names e p) in
        Holds-append (word_code_within e p h.0 (omega (arith, length-append {A = Instr})))
        (Holds-append (word_code_within f q h.1.0.1 (omega (arith, length-append {A = Instr}))) (Holds-cons tt (Holds-cons tt Holds-nil)))
    word_code_within (Called e args) p h l =
        let q = p + length (word_code names e p) in
        Holds-append (word_code_within e p (callee_within sizes names e h.0) (omega (arith, length-append {A = Instr})))
        (Holds-append (argument_code_within args q h.1.0.1 (omega (arith, length-append {A = Instr}))) (Holds-cons (omega (arith, length-append {A = Instr}, argument_count-le names args q)) Holds-nil))
    word_code_within (Postfixed op line e) p h l = postfixed_within op line e p (address_code_within e p h.0 (omega (arith, postfixed_length op line e p)))
    word_code_within (Prefixed op line e) p h l = prefixed_within op line e p (word_code_within e p h.1) (address_code_within e p h.1) l
    word_code_within (Binary op line e f) p h l =
        let q = p + length (word_code names e p) in
        Holds-append (word_code_within e p h.0 (omega (arith, length-append {A = Instr})))
        (Holds-append (word_code_within f q h.1.1 (omega (arith, length-append {A = Instr}))) (Holds-cons tt Holds-nil))
    word_code_within (Conditional e f g) p h l =
        let ce = word_code names e p in
        let q = p + length ce + 1 in
        let cf = word_code names f q in
        let a = q + length cf + 1 in
        Holds-append (word_code_within e p h.0 (omega (arith, length-append {A = Instr})))
        (Holds-cons (omega (arith, length-append {A = Instr}))
        (Holds-append (word_code_within f q h.1.1.0 (omega (arith, length-append {A = Instr})))
        (Holds-cons (omega (arith, length-append {A = Instr})) (word_code_within g a h.1.1.1.1 (omega (arith, length-append {A = Instr}))))))
    word_code_within (Assigned op line e f) p h l =
        let q = p + length (address_code names e p) in
        Holds-append (address_code_within e p h.0 (omega (arith, length-append {A = Instr})))
        (Holds-append (word_code_within f q h.1.1.1 (omega (arith, length-append {A = Instr}))) (assignment_within op))

    address_code_within : (e : Expr) (p : ℕ) → InWalk (walk e) → p + length (address_code names e p) < sizes.code → Within (address_code names e p)
    address_code_within (Named w) p h l = name_address_within (names w.text) w.text (meant w.text) h.0
    address_code_within (Grouped e) p h l = address_code_within e p h.0.1 l
    address_code_within (Prefixed Indirection line e) p h l = word_code_within e p h.1 l
    address_code_within (Indexed e f) p h l =
        let q = p + length (word_code names e p) in
        Holds-append (word_code_within e p h.0 (omega (arith, length-append {A = Instr})))
        (Holds-append (word_code_within f q h.1.0.1 (omega (arith, length-append {A = Instr}))) (Holds-cons tt Holds-nil))
    address_code_within _ p h l = Holds-cons (omega arith) Holds-nil

    argument_code_within : (args : Arguments) (p : ℕ) → InWalk (walk_arguments args) → p + length (argument_code names args p) < sizes.code → Within (argument_code names args p)
    argument_code_within No_arguments p h l = Holds-nil
    argument_code_within (Another before e) p h l =
        let q = p + length (argument_code names before p) in
        Holds-append (argument_code_within before p h.0 (omega (arith, length-append {A = Instr}))) (word_code_within e q h.1.1 (omega (arith, length-append {A = Instr})))
