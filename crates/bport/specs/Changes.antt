-- Promise: the list of what was changed.
use Rattle.std.specs.Prelude.{ℕ, ◌+◌, ◌==◌, Bool, List, [], ◌∷◌, ◌++◌, codes, decimal}
use Rattle.std.specs.Prelude.{if◌then◌else◌, count_by, drop, min, take}
use Rattle.std.specs.List.{list_any}
use Rattle.std.specs.Str.{bytes_eq}
use Rattle.bword.specs.ByteEnds.{most}
use Rattle.btools.specs.Quoting.{file_text}
use Rattle.bport.specs.declared.edit.Edit.{Edit}
use Rattle.bport.specs.declared.row.Row.{Row}
use Rattle.bport.specs.declared.row.Row.TheVariants as row

-- the sentence of each row
abbrev pub sentence : Row → List ℕ
sentence row.Remark = codes "a comment is between /* and */"
sentence row.Directive = codes "a line for a preprocessor is a comment"
sentence row.Escape = codes "in quotes * begins an escape"
sentence row.Brackets = codes "statements are in braces"
sentence row.Assignment = codes "an assignment operator begins with ="
sentence row.Apart = codes "= is apart from the operator after it"
sentence row.And = codes "&& is ?: or, between comparisons, &"
sentence row.Or = codes "|| is ?: or, between comparisons, |"
sentence row.Exclusive = codes "^ is the difference of | and &"
sentence row.Complement = codes "~ is the negative less 1"
sentence row.Number = codes "a number is decimal, or octal with digits up to 7"
sentence row.Constant = codes "a constant stands for its name"
sentence row.Characters = codes "a constant has two characters at most"
sentence row.Code = codes "a character that has no escape is its number"
sentence row.Name = codes "a name has eight letters at most"
sentence row.Taken = codes "a file after this one has a function of this name"
sentence row.InputEnd = codes "the input ends with '*e'"
sentence row.StringEnd = codes "a string ends with '*e'"
sentence row.Base = codes "printn has the base after the number"
sentence row.Stream = codes "getchar() reads the input, and putchar(c) writes the output"
sentence row.Vector = codes "auto has the last index of a vector without brackets"
sentence row.Size = codes "the size of a vector is one number"
sentence row.Index = codes "a vector has one index"
sentence row.Text = codes "the name of a string has no brackets"
sentence row.Type = codes "there are no types"
sentence row.Parameters = codes "parameters are names alone"
sentence row.Prototype = codes "a function that is elsewhere isn't declared here"
sentence row.External = codes "extrn declares externals in a function"
sentence row.Held = codes "a function's name as an initial value is the address of its word"
sentence row.Called = codes "f() calls the function in f"
sentence row.Mention = codes "extrn names the externals of a function"
sentence row.Heap = codes "getvec takes its words from a vector that givevec was given"
sentence row.Value = codes "an initial value has no = and no braces"
sentence row.Head = codes "a function has parentheses after its name"
sentence row.Return = codes "the value of return is in parentheses"
sentence row.For = codes "for is a while"
sentence row.Do = codes "do is a while, or a goto"
sentence row.Repeat = codes "repeat is while(1)"
sentence row.Negated = codes "until and unless are while and if with !"
sentence row.Continue = codes "the next turn is a goto to the end of the body"
sentence row.Range = codes "each case has one constant"
sentence row.Switch = codes "the cases of a switch are in braces"
sentence row.Empty = codes "a statement comes after a label"
sentence row.Packed = codes "a word has two characters of eight bits"
sentence row.Scope = codes "a name in inner braces isn't that of an outer auto"

-- how many lines end among bytes
abbrev pub newlines : List ℕ → ℕ
newlines bytes = count_by (λ b. b == 10) bytes

-- the row of the list for a change: the file, the line, and the sentence
abbrev pub row_text : (file : List ℕ) → (line : ℕ) → Row → List ℕ
row_text file line row =
    file_text file ++ (codes ":" ++ (decimal line ++ (codes ": ported: " ++ (sentence row ++ codes "\n"))))

-- one of these rows, which were told of a line, has the same sentence
abbrev pub is_told : List Row → Row → Bool
is_told rows row = list_any (λ r. bytes_eq (sentence r) (sentence row)) rows

abbrev pub told_once : List Row → (file : List ℕ) → (line : ℕ) → Row → List ℕ
told_once rows file line row = if is_told rows row then [] else row_text file line row

abbrev pub with_row : List Row → Row → List Row
with_row rows row = if is_told rows row then rows else rows ++ row ∷ []

-- of another line nothing was told
abbrev pub told_of : (line next : ℕ) → List Row → List Row
told_of line next rows = if line == next then rows else []

-- the line of a place, counted on from another one
abbrev pub line_on : List ℕ → (line at start : ℕ) → ℕ
line_on source line at start = min (line + newlines (drop at (take start source))) most

-- The list: each edit in order with its line, from a place on whose line has these rows. On a line each row is told
-- once.
abbrev pub listed : (file source : List ℕ) → (line at : ℕ) → List Row → List Edit → List ℕ
listed file source line at rows [] = []
listed file source line at rows (e ∷ es) =
    let next = line_on source line at e.start in
    let told = told_of line next rows in
    told_once told file next e.row ++ listed file source next e.start (with_row told e.row) es
