-- Promise: the code of a definition. A place is the number of an instruction in its function, from 0; a + 1 counts a
-- jump. `instr_line` in Text has the letter of each instruction.
use Rattle.std.specs.Prelude.{ℕ, ◌+◌, ◌&&◌, List, [], ◌∷◌, ◌++◌, length, map, max, nat_le, Bool, Option, Some, None}
use Rattle.std.specs.Prelude.{Result, Ok, Err, if◌then◌else◌}
use Rattle.std.specs.List.{flat_map}
use Rattle.bword.specs.declared.operators.BinOp.{BinOp}
use Rattle.bword.specs.declared.operators.BinOp.TheVariants as op
use Rattle.blang.specs.declared.token.Diagnostic.{Diagnostic}
use Rattle.blang.specs.declared.limits.TheConstants.{MAX_INSTRUCTIONS, MAX_STRING_WORDS, MAX_VALUES, MAX_WORDS}
use Rattle.blang.specs.declared.code.Instr.{Instr}
use Rattle.blang.specs.Trees.{Expr, Arguments, Negate, Not, Indirection, Address, PreIncrement, PreDecrement}
use Rattle.blang.specs.Trees.{PostIncrement, PostDecrement, Named, Literal, Text, Grouped, Indexed, Called, Postfixed}
use Rattle.blang.specs.Trees.{Prefixed, Binary, Conditional, Assigned, No_arguments, Another, Heading, Auto}
use Rattle.blang.specs.Trees.{Label, Case, Default, Stmt, Headed, Compound, If, IfElse, While, Switch, Goto, Break}
use Rattle.blang.specs.Trees.{Return, ReturnValue, Evaluate, Empty, Stmts, Nothing, More, Ival, Ival_constant}
use Rattle.blang.specs.Trees.{Ival_text, Ival_name, Definition, Simple, Vector, Function, constant_value}
use Rattle.blang.specs.WellFormed.{packed, texts_of}
use Rattle.blang.specs.Scan.{Entry, NameKind, Automatic, Labelled, kind_of, fault, Scope, no_scope}
use Rattle.blang.specs.Scan.{function_scope, scan, identifier_of}
use Rattle.blang.specs.declared.token.Letters.TheVariants as letters
use Rattle.blang.specs.declared.code.Instr.TheVariants as instr
use Rattle.blang.specs.declared.code.Increment.TheVariants as increment
use Rattle.blang.specs.declared.code.Ival as coded_value
use Rattle.blang.specs.declared.code.Ival.TheVariants as ival
use Rattle.blang.specs.declared.code.Definition as coded
use Rattle.blang.specs.declared.code.Definition.TheVariants as code

-- what a name means: a word of the frame, an external, the label of this number
pub data Referent : Type 0 where
  In_frame : (word : ℕ) → Referent
  Outside : Referent
  At_label : (number : ℕ) → Referent

abbrev pub Environment : Type 0
Environment = List ℕ → Referent

-- after a clean scan each name is in the table, and each internal one has a label
abbrev pub referent_of : Option NameKind → Referent
referent_of (Some (Automatic word)) = In_frame word
referent_of (Some (Labelled number)) = At_label number
referent_of _ = Outside

abbrev pub environment_of : List Entry → Environment
environment_of entries x = referent_of (kind_of x entries)

abbrev pub argument_count : Arguments → ℕ
argument_count No_arguments = 0
argument_count (Another before e) = argument_count before + 1

abbrev pub name_address_code : Referent → List ℕ → Instr
name_address_code (In_frame k) x = instr.Automatic k
name_address_code Outside x = instr.External x
name_address_code (At_label k) x = instr.Label k

abbrev pub name_word_code : Referent → List ℕ → List Instr
name_word_code (In_frame k) x = instr.Automatic k ∷ instr.Load ∷ []
name_word_code Outside x = instr.External x ∷ instr.Load ∷ []
name_word_code (At_label k) x = instr.Label k ∷ []

abbrev pub assignment : Option BinOp → Instr
assignment None = instr.Store
assignment (Some op) = instr.Modify op

-- the arms of a switch in source order: each constant, or none for a default, and what it leads to
abbrev pub Arms : Type 0 → Type 0
Arms A = List (Option ℕ × A)

-- what the labels of a statement lead to, and its arms of the switch around it, in source order
pub record Targets (A : Type 0) : Type 0 where
  pub labels : List A
  pub arms : Arms A

abbrev pub no_targets : {A : Type 0} → Targets A
no_targets = record { labels = []; arms = [] }

abbrev pub both_targets : {A : Type 0} → Targets A → Targets A → Targets A
both_targets a b = record { labels = a.labels ++ b.labels; arms = a.arms ++ b.arms }

-- a heading's own, which leads there
abbrev pub heading_targets : {A : Type 0} → Heading → A → Targets A
heading_targets (Label w) there = record { labels = there ∷ []; arms = [] }
heading_targets (Case line c) there = record { labels = []; arms = (Some (constant_value c), there) ∷ [] }
heading_targets (Default line) there = record { labels = []; arms = (None, there) ∷ [] }
heading_targets _ there = no_targets

-- what the first default leads to
abbrev pub default_in : {A : Type 0} → Arms A → Option A
default_in [] = None
default_in ((None, there) ∷ arms) = Some there
default_in ((Some v, there) ∷ arms) = default_in arms

-- one test for each constant
abbrev pub tests_code : Arms ℕ → List Instr
tests_code [] = []
tests_code ((None, t) ∷ arms) = tests_code arms
tests_code ((Some v, t) ∷ arms) = instr.JumpIfCase v t ∷ tests_code arms

-- after the tests: drops the value, and goes to the default if there is one
abbrev pub default_code : Option ℕ → List Instr
default_code None = instr.Pop ∷ []
default_code (Some t) = instr.Pop ∷ instr.Jump t ∷ []

-- a test for each constant, and what comes after the tests
abbrev pub arms_code : Arms ℕ → List Instr
arms_code arms = tests_code arms ++ default_code (default_in arms)

-- code by the place where it begins
abbrev pub Code : Type 0
Code = (p : ℕ) → List Instr

abbrev pub put : Instr → Code
put i p = i ∷ []

infixr 60 ◌⨾◌
-- code after code
abbrev pub ◌⨾◌ : Code → Code → Code
◌⨾◌ c d p = c p ++ d (p + length (c p))

-- A fragment of code, its instructions being `code out`: a break in it that is in no loop and no switch of its own
-- jumps to `out`. The end is the place after it. Its targets are the places of its labels, and of its arms of the
-- switch around it.
pub record Fragment : Type 0 where
  pub code : (out : ℕ) → List Instr
  pub end : ℕ
  pub targets : Targets ℕ

-- A segment is a fragment by the place where it begins.
abbrev pub Segment : Type 0
Segment = (p : ℕ) → Fragment

abbrev pub empty_segment : Segment
empty_segment p = record { code = λ out. []; end = p; targets = no_targets }

-- code alone
abbrev pub of_code : Code → Segment
of_code c p = record { code = λ out. c p; end = p + length (c p); targets = no_targets }

abbrev pub jump : (there : ℕ) → Segment
jump there = of_code (put (instr.Jump there))

abbrev pub jump_if_zero : (there : ℕ) → Segment
jump_if_zero there = of_code (put (instr.JumpIfZero there))

-- a jump to where breaks lead
abbrev pub leave : Segment
leave p = record (jump 0 p) { code = λ out. instr.Jump out ∷ [] }

-- its breaks lead there
abbrev pub leaving : ℕ → Segment → Segment
leaving there f p = record (f p) { code = λ out. (f p).code there }

infixr 60 ◌▹◌ ◌▷◌
-- one segment after another
abbrev pub ◌▹◌ : Segment → Segment → Segment
◌▹◌ f g p =
    let a = f p in
    let b = g a.end in
    record { code = λ out. a.code out ++ b.code out; end = b.end; targets = both_targets a.targets b.targets }

-- a segment, and code without targets after it
abbrev pub ◌▷◌ : Segment → Segment → Segment
◌▷◌ f g p = record ((f ▹ g) p) { targets = (f p).targets }

-- a switch keeps its arms to itself
abbrev pub keeping_arms : Segment → Segment
keeping_arms f p = record (f p) { targets = record (f p).targets { arms = [] } }

-- A row is made of segments that know where it begins and what is after it. Where code ends doesn't depend on where its
-- jumps lead, so at first they lead to 0.
abbrev pub row : ((start after : ℕ) → Segment) → Segment
row f p = f p (f 0 0 p).end p

-- Two halves: the first one goes on with the second, and knows where that begins and what is after it. The second one
-- knows the first.
abbrev pub halves : ((middle after : ℕ) → Segment → Segment) → (Fragment → Segment) → Segment
halves f g p = let a = f 0 0 empty_segment p in f a.end (g a a.end).end (g a) p

module _ (names : Environment) where
  abbrev mutual
    -- leaves the word of an expression
    pub word_code : Expr → Code
    word_code (Named w) = λ p. name_word_code (names w.text) w.text
    word_code (Literal c) = put (instr.Constant (constant_value c))
    word_code (Text bytes offset) = put (instr.Text offset)
    word_code (Grouped e) = word_code e
    word_code (Indexed e f) = word_code e ⨾ word_code f ⨾ put (instr.Binary op.Add) ⨾ put instr.Load
    word_code (Called e args) = word_code e ⨾ argument_code args ⨾ put (instr.Call (argument_count args))
    word_code (Postfixed PostIncrement line e) = address_code e ⨾ put (instr.Increment increment.PostIncrement)
    word_code (Postfixed PostDecrement line e) = address_code e ⨾ put (instr.Increment increment.PostDecrement)
    word_code (Prefixed Negate line e) = word_code e ⨾ put instr.Negate
    word_code (Prefixed Not line e) = word_code e ⨾ put instr.Not
    word_code (Prefixed Indirection line e) = word_code e ⨾ put instr.Load
    word_code (Prefixed Address line e) = address_code e
    word_code (Prefixed PreIncrement line e) = address_code e ⨾ put (instr.Increment increment.PreIncrement)
    word_code (Prefixed PreDecrement line e) = address_code e ⨾ put (instr.Increment increment.PreDecrement)
    word_code (Binary op line e f) = word_code e ⨾ word_code f ⨾ put (instr.Binary op)
    word_code (Conditional e f g) = λ p.
        let ce = word_code e p in
        let cf = word_code f (p + length ce + 1) in
        let at_g = p + length ce + 1 + length cf + 1 in
        let cg = word_code g at_g in
        ce ++ (instr.JumpIfZero at_g ∷ (cf ++ (instr.Jump (at_g + length cg) ∷ cg)))
    word_code (Assigned op line e f) = address_code e ⨾ word_code f ⨾ put (assignment op)

    -- leaves the address of an lvalue; of what a scan refuses, a label's value or 0
    pub address_code : Expr → Code
    address_code (Named w) = put (name_address_code (names w.text) w.text)
    address_code (Grouped e) = address_code e
    address_code (Prefixed Indirection line e) = word_code e
    address_code (Indexed e f) = word_code e ⨾ word_code f ⨾ put (instr.Binary op.Add)
    address_code _ = put (instr.Constant 0)

    pub argument_code : Arguments → Code
    argument_code No_arguments = λ p. []
    argument_code (Another before e) = argument_code before ⨾ word_code e

  -- sets the own word of a vector
  abbrev pub vector_code : Referent → Option ℕ → List Instr
  vector_code (In_frame k) (Some c) = instr.Automatic k ∷ instr.Automatic (k + 1) ∷ instr.Store ∷ instr.Pop ∷ []
  vector_code _ _ = []

  abbrev pub heading_code : Heading → List Instr
  heading_code (Auto declared) = flat_map (λ d. vector_code (names d.word.text) d.size) declared
  heading_code _ = []

  abbrev pub heading_fragment : Heading → Segment
  heading_fragment h p = record (of_code (λ q. heading_code h) p) { targets = heading_targets h p }

  abbrev pub rvalue : Expr → Segment
  rvalue e = of_code (word_code e)

  -- the code of a statement
  abbrev mutual
    pub fragment : Stmt → Segment
    fragment (Headed h s) = heading_fragment h ▹ fragment s
    fragment (Compound body) = body_fragment body
    fragment (If e s) = row λ start after. rvalue e ▹ jump_if_zero after ▹ fragment s
    fragment (IfElse e s other) =
        halves (λ middle after rest. rvalue e ▹ jump_if_zero middle ▹ fragment s ▹ jump after ▹ rest)
        (λ first. fragment other)
    fragment (While e s) = row λ start after. rvalue e ▹ jump_if_zero after ▹ leaving after (fragment s) ▷ jump start
    fragment (Switch e body) =
        keeping_arms (halves
        (λ middle after rest. rvalue e ▹ jump middle ▹ leaving after (body_fragment body) ▷ jump after ▹ rest)
        (λ first. of_code λ p. arms_code first.targets.arms))
    fragment (Goto e) = rvalue e ▹ of_code (put instr.Goto)
    fragment (Break line) = leave
    fragment Return = of_code (put (instr.Constant 0) ⨾ put instr.Return)
    fragment (ReturnValue e) = rvalue e ▹ of_code (put instr.Return)
    fragment (Evaluate e) = rvalue e ▹ of_code (put instr.Pop)
    fragment Empty = empty_segment

    pub body_fragment : Stmts → Segment
    body_fragment Nothing = empty_segment
    body_fragment (More before s) = body_fragment before ▹ fragment s

-- the words of the strings of a definition, one after another
abbrev pub string_words_of : Definition → List ℕ
string_words_of d = flat_map (λ t. packed t.bytes) (texts_of d)

abbrev pub ival_code : Ival → coded_value.Ival
ival_code (Ival_constant c) = ival.Number (constant_value c)
ival_code (Ival_text bytes offset) = ival.Text offset
ival_code (Ival_name w) = ival.Name w.text

-- the constant of a vector; of empty brackets it is 0
abbrev pub vector_constant : Option ℕ → ℕ
vector_constant None = 0
vector_constant (Some c) = c

abbrev pub vector_words : Option ℕ → List Ival → ℕ
vector_words size values = max (vector_constant size + 1) (length values)

-- the scope of a function without a fault
abbrev pub clean : Result Scope Diagnostic → Scope
clean (Ok s) = s
clean (Err d) = no_scope

abbrev pub code_of : Definition → coded.Definition
code_of (Simple w values) =
    code.Simple (record { name = w.text; values = map ival_code values; strings = string_words_of (Simple w values) })
code_of (Vector w size values) =
    code.Vector record {
      name = w.text;
      words = vector_words size values;
      values = map ival_code values;
      strings = string_words_of (Vector w size values);
    }
code_of (Function w parameters body) =
    let scope = clean (function_scope parameters body) in
    let a = fragment (environment_of scope.names) body 0 in
    -- a scan refuses a break with no loop and no switch around it; here it leads to the end
    code.Function (record {
      name = w.text;
      parameters = length parameters;
      frame = scope.frame;
      targets = a.targets.labels;
      strings = string_words_of (Function w parameters body);
      code = a.code a.end ++ (instr.Constant 0 ∷ instr.Return ∷ []);
    })

-- within the limits of a definition
abbrev pub fits_limits : coded.Definition → Bool
fits_limits (code.Simple s) = nat_le (length s.values) MAX_VALUES && nat_le (length s.strings) MAX_STRING_WORDS
fits_limits (code.Vector v) =
    nat_le (length v.values) MAX_VALUES && nat_le (length v.strings) MAX_STRING_WORDS && nat_le v.words MAX_WORDS
fits_limits (code.Function f) =
    nat_le (length f.code) MAX_INSTRUCTIONS && nat_le (length f.strings) MAX_STRING_WORDS && nat_le f.frame MAX_WORDS

-- the fault of a scan, or else that the code is too large
abbrev pub or_too_large : Option Diagnostic → ℕ → coded.Definition → Option Diagnostic
or_too_large (Some f) line c = Some f
or_too_large None line c = if fits_limits c then None else Some (fault letters.TooLarge line)

-- the fault of a definition after definitions of these names
abbrev pub fault_of : List (List ℕ) → Definition → Option Diagnostic
fault_of defined d = or_too_large (scan defined d) (identifier_of d).line (code_of d)
