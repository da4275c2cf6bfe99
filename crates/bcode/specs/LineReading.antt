-- Inner words: reading a line from the front of a text.
use Rattle.std.specs.Prelude.{ℕ, ◌≡◌, ◌==◌, ◌<◌, ◌≤◌, if◌then◌else◌, List, [], ◌∷◌, ◌++◌, length, Option, Some, None}
use Rattle.bword.specs.declared.operators.BinOp.{BinOp}
use Rattle.bword.specs.declared.operators.BinOp.TheVariants as op
use Rattle.bcode.specs.Reading.{◌>>=◌, expect_byte, number_at, name_text_at}
use Rattle.bcode.specs.Headers.{header_fits}
use Rattle.bcode.specs.Streams.{IsLine}
use Rattle.blang.specs.declared.limits.TheConstants.{LINE_LEN, WORD_VALUES}
use Rattle.bcode.specs.declared.header.Header.{Header}
use Rattle.bcode.specs.declared.header.Header.TheVariants as header
use Rattle.blang.specs.declared.code.Sizes.{Sizes}
use Rattle.blang.specs.declared.code.Increment.{Increment}
use Rattle.blang.specs.declared.code.Increment.TheVariants as increment
use Rattle.blang.specs.declared.code.Instr.{Instr}
use Rattle.blang.specs.declared.code.Instr.TheVariants as instr
use Rattle.blang.specs.declared.code.Ival.{Ival}
use Rattle.blang.specs.declared.code.Ival.TheVariants as ival

abbrev pub LineReader : Type 0 → Type 0
LineReader X = List ℕ → Option (X × List ℕ)

-- a reader reads just these texts of these values
pub record IsExact {X : Type 0} (text : X → List ℕ) (within : X → Type 0) (read : LineReader X) : Type 0 where
  pub sound : (bytes : List ℕ) (x : X) (rest : List ℕ) → read bytes ≡ Some (x, rest)
      → within x × (bytes ≡ text x ++ rest)
  pub again : (x : X) (rest : List ℕ) → within x → read (text x ++ rest) ≡ Some (x, rest)
  pub filled : (x : X) → 0 < length (text x)

-- Just the texts of these values are read, and each is a line that fits.
pub record IsForm {X : Type 0} (text : X → List ℕ) (within : X → Type 0) (read : LineReader X) : Type 0 where
  pub exact : IsExact text within read
  pub shape : (x : X) → within x → IsLine LINE_LEN (text x)

-- the sizes are numbers of words
pub record FitSizes (sizes : Sizes) : Type 0 where
  pub frame : sizes.frame ≤ WORD_VALUES
  pub labels : sizes.labels ≤ WORD_VALUES
  pub strings : sizes.strings ≤ WORD_VALUES
  pub code : sizes.code ≤ WORD_VALUES

abbrev pub mapped : {X Y : Type 0} → (X → Y) → Option (X × List ℕ) → Option (Y × List ℕ)
mapped f (Some x) = Some (f x.0, x.1)
mapped f None = None

-- one of several readers, by the first byte
abbrev pub choose : {X : Type 0} → List (ℕ × LineReader X) → ℕ → LineReader X
choose [] byte rest = None
choose (r ∷ rs) byte rest = if byte == r.0 then r.1 rest else choose rs byte rest

abbrev pub by_first : {X : Type 0} → List (ℕ × LineReader X) → LineReader X
by_first readers [] = None
by_first readers (byte ∷ rest) = choose readers byte rest

-- the end of a line
unfoldable pub line_ended : {X : Type 0} → X → LineReader X
line_ended x bytes = expect_byte 10 bytes >>= λ rest. Some (x, rest)

-- the last number of a line
unfoldable pub operand_at : ℕ → LineReader ℕ
operand_at below bytes = expect_byte 32 bytes >>= number_at 10 below

unfoldable pub name_operand_at : LineReader (List ℕ)
name_operand_at bytes = expect_byte 32 bytes >>= name_text_at 10

unfoldable pub less_at : LineReader BinOp
less_at bytes =
    by_first ((10, λ rest. Some (op.Lt, rest)) ∷ (61, line_ended op.Le) ∷ (60, line_ended op.Shl) ∷ []) bytes

unfoldable pub greater_at : LineReader BinOp
greater_at bytes =
    by_first ((10, λ rest. Some (op.Gt, rest)) ∷ (61, line_ended op.Ge) ∷ (62, line_ended op.Shr) ∷ []) bytes

abbrev pub operator_readers : List (ℕ × LineReader BinOp)
operator_readers =
    (124, line_ended op.Or) ∷ (38, line_ended op.And) ∷ (61, λ rest. expect_byte 61 rest >>= line_ended op.Eq)
    ∷ (33, λ rest. expect_byte 61 rest >>= line_ended op.Ne)
    ∷ (60, less_at) ∷ (62, greater_at) ∷ (45, line_ended op.Sub) ∷ (43, line_ended op.Add) ∷ (37, line_ended op.Rem)
    ∷ (42, line_ended op.Mul)
    ∷ (47, line_ended op.Div) ∷ []

unfoldable pub operator_at : LineReader BinOp
operator_at bytes = expect_byte 32 bytes >>= by_first operator_readers

abbrev pub increment_readers : List (ℕ × LineReader Increment)
increment_readers =
    (48, line_ended increment.PreIncrement) ∷ (49, line_ended increment.PreDecrement)
    ∷ (50, line_ended increment.PostIncrement)
    ∷ (51, line_ended increment.PostDecrement) ∷ []

unfoldable pub increment_at : LineReader Increment
increment_at bytes = expect_byte 32 bytes >>= by_first increment_readers

unfoldable pub case_at : ℕ → LineReader Instr
case_at below bytes = do
  rest ← expect_byte 32 bytes
  value ← number_at 32 (WORD_VALUES) rest
  target ← number_at 10 below value.1
  Some (instr.JumpIfCase value.0 target.0, target.1)

-- an instruction with a number
abbrev pub counted_readers : Sizes → List (ℕ × LineReader Instr)
counted_readers sizes =
    (99, λ rest. mapped instr.Constant (operand_at (WORD_VALUES) rest))
    ∷ (97, λ rest. mapped instr.Automatic (operand_at sizes.frame rest))
    ∷ (115, λ rest. mapped instr.Text (operand_at sizes.strings rest))
    ∷ (108, λ rest. mapped instr.Label (operand_at sizes.labels rest))
    ∷ (106, λ rest. mapped instr.Jump (operand_at sizes.code rest))
    ∷ (122, λ rest. mapped instr.JumpIfZero (operand_at sizes.code rest))
    ∷ (107, λ rest. mapped instr.Call (operand_at (WORD_VALUES) rest)) ∷ []

abbrev pub instr_readers : Sizes → List (ℕ × LineReader Instr)
instr_readers sizes =
    (120, λ rest. mapped instr.External (name_operand_at rest))
    ∷ (118, line_ended instr.Load) ∷ (119, line_ended instr.Store)
    ∷ (98, λ rest. mapped instr.Binary (operator_at rest)) ∷ (109, λ rest. mapped instr.Modify (operator_at rest))
    ∷ (110, line_ended instr.Negate) ∷ (104, line_ended instr.Not)
    ∷ (105, λ rest. mapped instr.Increment (increment_at rest))
    ∷ (103, line_ended instr.Goto) ∷ (101, case_at sizes.code)
    ∷ (114, line_ended instr.Return) ∷ (112, line_ended instr.Pop) ∷ counted_readers sizes

unfoldable pub instr_at : Sizes → LineReader Instr
instr_at sizes bytes = by_first (instr_readers sizes) bytes

abbrev pub ival_readers : ℕ → List (ℕ × LineReader Ival)
ival_readers strings =
    (99, λ rest. mapped ival.Number (operand_at (WORD_VALUES) rest))
    ∷ (120, λ rest. mapped ival.Name (name_operand_at rest))
    ∷ (115, λ rest. mapped ival.Text (operand_at strings rest)) ∷ []

unfoldable pub ival_line_at : ℕ → LineReader Ival
ival_line_at strings bytes = by_first (ival_readers strings) bytes

-- the line of a label's target or of a string word
unfoldable pub number_line_at : ℕ → ℕ → LineReader ℕ
number_line_at letter below bytes = expect_byte letter bytes >>= operand_at below

unfoldable pub sizes_at : LineReader Sizes
sizes_at bytes = do
  frame ← number_at 32 WORD_VALUES bytes
  labels ← number_at 32 WORD_VALUES frame.1
  strings ← number_at 32 WORD_VALUES labels.1
  code ← number_at 10 WORD_VALUES strings.1
  Some (record { frame = frame.0; labels = labels.0; strings = strings.0; code = code.0 }, code.1)

unfoldable pub function_header_at : LineReader Header
function_header_at bytes = do
  rest ← expect_byte 32 bytes
  name ← name_text_at 32 rest
  parameters ← number_at 32 WORD_VALUES name.1
  sizes ← sizes_at parameters.1
  Some (header.Function name.0 parameters.0 sizes.0, sizes.1)

unfoldable pub simple_header_at : LineReader Header
simple_header_at bytes = do
  rest ← expect_byte 32 bytes
  name ← name_text_at 32 rest
  values ← number_at 32 WORD_VALUES name.1
  strings ← number_at 10 WORD_VALUES values.1
  Some (header.Simple name.0 values.0 strings.0, strings.1)

unfoldable pub vector_header_at : LineReader Header
vector_header_at bytes = do
  rest ← expect_byte 32 bytes
  name ← name_text_at 32 rest
  words ← number_at 32 WORD_VALUES name.1
  values ← number_at 32 WORD_VALUES words.1
  strings ← number_at 10 WORD_VALUES values.1
  Some (header.Vector name.0 words.0 values.0 strings.0, strings.1)

-- a first line, whatever its numbers
abbrev pub header_readers : List (ℕ × LineReader Header)
header_readers =
    (70, function_header_at) ∷ (88, simple_header_at) ∷ (86, vector_header_at) ∷ (69, line_ended header.End) ∷ []

unfoldable pub any_header_at : LineReader Header
any_header_at bytes = by_first header_readers bytes

-- a first line whose numbers are within their ranges
unfoldable pub header_at : LineReader Header
header_at bytes = any_header_at bytes >>= λ read. if header_fits read.0 then Some read else None
