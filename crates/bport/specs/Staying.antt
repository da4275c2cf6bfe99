-- Promise: signs of other forms of the language that stay are told, and what is told of each note.
use Rattle.std.specs.Prelude.{ℕ, ◌+◌, ◌<◌, ◌==◌, ◌&&◌, ◌||◌, Bool, true, false, List, [], ◌∷◌, ◌++◌, ◌≡◌, ◌⊎◌}
use Rattle.std.specs.Prelude.{Option, None, Some, codes, count_by, decimal, drop, take}
use Rattle.std.specs.Prelude.{if◌then◌else◌, nat_eq, nat_le, nat_lt, not, reverse, slice_get}
use Rattle.std.specs.Char.{is_ascii_digit, is_ascii_whitespace}
use Rattle.std.specs.Int.{is_in_range}
use Rattle.std.specs.List.{find, flat_map, list_all, list_any, starts_with, zip}
use Rattle.std.specs.Option.{option_map_or}
use Rattle.std.specs.Str.{bytes_eq}
use Rattle.btools.specs.Quoting.{file_text}
use Rattle.bport.specs.Changes.{line_on}
use Rattle.bport.specs.Places.{places_of}
use Rattle.bport.specs.Words.{is_of_word}
use Rattle.bport.specs.declared.edit.Edit.{Edit}
use Rattle.bport.specs.declared.row.Note.{Note}
use Rattle.bport.specs.declared.row.NoteKind.{NoteKind}
use Rattle.bport.specs.declared.row.NoteKind.TheVariants as kind
use Rattle.bport.specs.declared.within.Within.{Within}
use Rattle.bport.specs.declared.within.Within.TheVariants as within

-- Two bytes are an assignment operator with `=` last, `&&`, `||`, `$(` or `$)`, or the first one is `~`. Before a
-- further `=` the first of the three belongs to what stands before, but for `<<=` and `>>=`.
abbrev pub is_old_sign : (first second : ℕ) → (is_longer : Bool) → Bool
is_old_sign a b is_longer =
    if b == 61 then (not is_longer && list_any (λ c. a == c) (codes "+-*/%&|^~"))
    else (if a == 36 then b == 40 || b == 41
    else (((a == b) && ((a == 38 || a == 124) || (is_longer && (a == 60 || a == 62)))) || (a == 126)))

-- two bytes in quotes are a newline of another form
abbrev pub is_old_newline : (first second : ℕ) → Bool
is_old_newline a b = (a == 92) && (b == 110)

abbrev pub is_equals : Option ℕ → Bool
is_equals (Some b) = b == 61
is_equals None = false

-- of a byte that stands in this and the next two
abbrev pub is_old : Option Within → (first second third : Option ℕ) → Bool
is_old (Some within.Code) (Some a) (Some b) c = is_old_sign a b (is_equals c)
is_old (Some within.Start) (Some a) (Some b) c = is_old_sign a b (is_equals c)
is_old (Some within.Char) (Some a) (Some b) c = is_old_newline a b
is_old (Some within.String) (Some a) (Some b) c = is_old_newline a b
is_old _ _ _ _ = false

abbrev pub is_old_at : List ℕ → List Within → ℕ → Bool
is_old_at source places at =
    is_old (slice_get places at) (slice_get source at) (slice_get source (at + 1)) (slice_get source (at + 2))

-- an edit takes a byte out, and a note is of a place
abbrev pub covers : ℕ → Edit → Bool
covers at e = nat_le e.start at && nat_lt at e.end

abbrev pub is_of : ℕ → Note → Bool
is_of at n = n.start == at

abbrev pub is_told_at : ℕ → List Edit → List Note → Bool
is_told_at at edits notes = list_any (covers at) edits || list_any (is_of at) notes

-- each of these signs, up to a place, is taken out or told
abbrev pub TellsOldUpTo : ℕ → List ℕ → List Within → List Edit → List Note → Type 0
TellsOldUpTo end source places edits notes =
    (at : ℕ) → at < end → is_old_at source places at ≡ true → is_told_at at edits notes ≡ true

abbrev pub TellsOld : List ℕ → List Edit → List Note → Type 0
TellsOld source edits notes =
    (at : ℕ) → is_old_at source (places_of within.Start source) at ≡ true → is_told_at at edits notes ≡ true

-- a note that says that nothing is edited
abbrev pub refuses_kind : NoteKind → Bool
refuses_kind kind.Bracket = true
refuses_kind kind.Fraction = true
refuses_kind kind.Numbered = true
refuses_kind kind.Accent = true
refuses_kind kind.Star = true
refuses_kind kind.Parted = true
refuses_kind kind.Unfit = true
refuses_kind _ = false

abbrev pub refuses : Note → Bool
refuses n = refuses_kind n.kind

-- the sentence of each note
abbrev pub note_sentence : NoteKind → List ℕ
note_sentence kind.Structure = codes "there are no structures: a vector has its parts by numbers"
note_sentence kind.Floating = codes "there are no fractions: all words are whole numbers"
note_sentence kind.Wide = codes "a word has 16 bits and a sign, also where the type said otherwise"
note_sentence kind.Static = codes "a word of a call isn't kept for the next one: make it an external"
note_sentence kind.Pointer =
    codes "a string has two characters in a word: char(s, i) and lchar(s, i, c) take them apart"
note_sentence kind.Words = codes "this vector has a word for each character, and a string two in a word"
note_sentence kind.Arguments = codes "a program gets no words: its parameters are 0"
note_sentence kind.Macro = codes "this name stands for no value: write what it stands for where it is used"
note_sentence kind.Escape = codes "this escape stands for no byte that quotes can have here"
note_sentence kind.Characters = codes "a word holds two characters: the others need words of their own"
note_sentence kind.Remark = codes "this comment has */ or stands among code that moves"
note_sentence kind.Exclusive = codes "write (a | b) - (a & b) for a ^ b, with a and b evaluated before"
note_sentence kind.Loop = codes "this loop has a comment or a string in what would move, or no end"
note_sentence kind.Large = codes "a word is at most 65535"
note_sentence kind.Break = codes "break and default are in edition 2: b port --edition 2"
note_sentence kind.Number = codes "this number has letters or digits that none has here"
note_sentence kind.Heap = codes "getvec gives 0 until main has called givevec"
note_sentence kind.Backslash = codes "\\ in quotes is a character here, and the next one, too: *n is a newline"
note_sentence kind.Ampersands = codes "&& is & before the address of what comes after it"
note_sentence kind.Unfit = codes "these changes don't fit one another: nothing is changed"
note_sentence kind.Branches = codes "all lines up to #endif stay: take out those that aren't meant"
note_sentence kind.Twice = codes "this name stands for its first value everywhere"
note_sentence kind.Wrapped = codes "what stands for this name is in parentheses now"
note_sentence kind.Range = codes "this range isn't written out: write a case for each constant, or an if"
note_sentence kind.Scope = codes "a name in inner braces has taken the place of this external: give it another one"
note_sentence kind.Signs = codes "this operator assigns, as in early B: write a blank after = where a sign is meant"
note_sentence kind.Wraps = codes "numbers past 32767 wrap around: b go --careful=wraps stays at the first one"
note_sentence kind.Base = codes "printn has the base after the number: printn(n, 10)"
note_sentence kind.Bracket = codes "no bracket fits this one: port changes nothing until one does"
note_sentence kind.Called = codes "(*f)() calls the function in the word at f: f() calls the one in f"
note_sentence kind.Sign = codes "this sign is one of another form, and stays"
note_sentence kind.Zero = codes "the input ends with '*e' here, and not with 0 or -1"
note_sentence kind.Held = codes "this is the address of the function's word: (*f)() calls it, and f() doesn't"
note_sentence kind.Sizes = codes "a vector has one index: write v[5] for v[2][3], and v[3 * i + k] for v[i][k]"
note_sentence kind.Negated = codes "write while(!(x)) for until(x), and if(!(x)) for unless(x)"
note_sentence kind.Ends = codes "a string ends with '*e', which is 4: a test for 0 doesn't see it"
note_sentence kind.Fewer = codes "the words of this vector that have no value aren't 0"
note_sentence kind.Shift = codes ">> puts zeros in: a word below 0 becomes a large one"
note_sentence kind.Fraction = codes "# is an operator of fractions, which aren't here: port changes nothing"
note_sentence kind.Numbered = codes "lines have no numbers before them: port changes nothing until these go"
note_sentence kind.Accent = codes "no form of the language has this byte in code: port changes nothing until it goes"
note_sentence kind.Star = codes "*\" doesn't end a string: port changes nothing until **\" stands where one ends"
note_sentence kind.Pair = codes "a word has two characters of eight bits: 'ab' is 97 * 256 + 98, and 040040 writes '@ '"
note_sentence kind.Order = codes "operands and arguments are evaluated from left to right: another order may be meant"
note_sentence kind.Octal = codes "%o, %u and %x write the 16 bits of a number below 0, without a sign"
note_sentence kind.Line = codes "puts(s) writes a newline after the string: write putstr(s); putchar('*n');"
note_sentence kind.Stars = codes "* begins an escape in a string, as in *n and *(: write ** for a star"
note_sentence kind.Form = codes "printf knows d, u, o, x, c and s after a %, nine values at most, and writes all else as it is"
note_sentence kind.End = codes "'*e' is 4, and as a value the same as the number 4, which EOF wasn't"
note_sentence kind.Status = codes "the value that main returns is no status: exit(n) ends a program with one"
note_sentence kind.Quarter = codes "a word has two characters, and not four: double this where it counts words of text"
note_sentence kind.Halves = codes "the first character of a word is its low byte: char and lchar take a word apart"
note_sentence kind.Label = codes "this is the label, which hides what else has its name: give the label another one"
note_sentence kind.High = codes "a char is a whole word: past 127 it is above 0, and past 255 it goes on"
note_sentence kind.Parted = codes "two strings, or two lines of one, don't join: port changes nothing until they do"
note_sentence kind.Case = codes "a case has one number or character: write what this comes to"
note_sentence kind.Unit = codes "there is one input and one output: printf, getchar and putchar have no unit"
note_sentence kind.Length = codes "a string has no length before it: char(s, 0) is its first character"
note_sentence kind.Taking = codes "! is not, and % a remainder: BCPL's !p, v!i and s%i are *p, v[i] and char(s, i)"
note_sentence kind.Given = codes "printf gives 0, and not how much it has written"
note_sentence kind.Vector = codes "this is the address of the vector's word, in which that of its first word is"

-- what is told of a note: the file, the line, and the sentence
abbrev pub note_row : (file : List ℕ) → (line : ℕ) → NoteKind → List ℕ
note_row file line kind =
    file_text file ++ (codes ":" ++ (decimal line ++ (codes ": left: " ++ (note_sentence kind ++ codes "\n"))))

abbrev pub note_text : (file source : List ℕ) → Note → List ℕ
note_text file source n = note_row file (line_on source 1 0 n.start) n.kind

abbrev pub notes_text : (file source : List ℕ) → List Note → List ℕ
notes_text file source notes = flat_map (note_text file source) notes

-- a byte that stands in this is code
abbrev pub is_code : Within → Bool
is_code within.Start = true
is_code within.Code = true
is_code within.Slash = true
is_code within.CharQuote = true
is_code _ = false

abbrev pub is_opening : ℕ → Bool
is_opening b = list_any (λ c. b == c) (codes "([{")

abbrev pub is_closing : ℕ → Bool
is_closing b = list_any (λ c. b == c) (codes ")]}")

-- no form of the language has this byte in its code: an accent, `@`, and bytes that are no character of it
abbrev pub is_foreign : ℕ → Bool
is_foreign b =
    list_any (λ c. b == c) (codes "`@") || is_in_range 0 8 b || (b == 11) || is_in_range 14 31 b || nat_le 127 b

-- how many of such bytes are code, each of which stands in the place beside it
abbrev pub count_in_code : (ℕ → Bool) → List ℕ → List Within → ℕ
count_in_code test source places = count_by (λ x. test x.0 && is_code x.1) (zip source places)

-- not as many brackets of code open as close
abbrev pub is_uneven : List ℕ → List Within → Bool
is_uneven source places =
    not (count_in_code is_opening source places == count_in_code is_closing source places)

-- a byte may stand in a listing with numbered lines: each line that has more than blanks begins with a digit
abbrev pub is_of_listing : ℕ × Within → Bool
is_of_listing (b, within.Start) = is_ascii_digit b || is_ascii_whitespace b
is_of_listing (b, place) = true

abbrev pub is_listing : List ℕ → List Within → Bool
is_listing source places = list_all is_of_listing (zip source places)

-- the first of these bytes that is no blank
abbrev pub first_sign : List ℕ → Option ℕ
first_sign bytes = find (λ b. not (is_ascii_whitespace b)) bytes

-- the last byte before a place that is no blank
abbrev pub sign_before : List ℕ → ℕ → Option ℕ
sign_before source at = first_sign (reverse (take at source))

-- an operand begins or ends with such a byte, and an operator has it
abbrev pub begins_operand : ℕ → Bool
begins_operand b = is_of_word b || list_any (λ c. b == c) (codes "(-*#")

abbrev pub ends_operand : ℕ → Bool
ends_operand b = is_of_word b || list_any (λ c. b == c) (codes ")]'\"")

abbrev pub is_of_operator : ℕ → Bool
is_of_operator b = list_any (λ c. b == c) (codes "+-*/%<>=!")

-- these bytes begin with an operator that fractions have, too, and with no line of signs
abbrev pub begins_operator : List ℕ → Bool
begins_operator (a ∷ b ∷ bs) =
    if b == 61 then list_any (λ c. a == c) (codes "<>=!") && not (bytes_eq (take 1 bs) (codes "="))
    else list_any (λ c. a == c) (codes "+-*/<>") && (is_of_word b || list_any (λ c. b == c) (codes " (#"))
begins_operator _ = false

-- a word after the `#` of a line for a preprocessor
abbrev pub directives : List (List ℕ)
directives = codes "define" ∷ codes "undef" ∷ codes "if" ∷ codes "else" ∷ codes "endif" ∷ codes "include"
    ∷ codes "pragma" ∷ []

abbrev pub begins_directive : List ℕ → Bool
begins_directive bytes = list_any (starts_with nat_eq bytes) directives

-- With this byte before these begin with a `#` that is an operator of fractions: right before the sign of one that
-- comes after an operand, or between an operator and an operand.
abbrev pub is_fraction : (before : Option ℕ) → List ℕ → Bool
is_fraction (Some c) (b ∷ after) =
    (b == 35) && (if ends_operand c then begins_operator after
    else is_of_operator c && option_map_or begins_operand (first_sign after) false && not (begins_directive after))
is_fraction _ _ = false

-- A note that nothing is edited is right, by the byte at its place and in what that stands: brackets are uneven, a `#`
-- that doesn't begin its line is an operator of fractions, a foreign byte is code, and each line begins with a number.
abbrev pub is_right_of : NoteKind → List ℕ → List Within → (at : ℕ) → Option ℕ → Option Within → Bool
is_right_of kind.Numbered source places at (Some b) (Some within.Start) = is_ascii_digit b && is_listing source places
is_right_of kind.Fraction source places at (Some b) (Some within.Start) = false
is_right_of kind.Fraction source places at (Some b) (Some place) =
    is_code place && is_fraction (sign_before source at) (drop at source)
is_right_of kind.Bracket source places at (Some b) (Some place) =
    list_any (λ c. b == c) (codes "([{)]}$") && is_code place && is_uneven source places
is_right_of kind.Accent source places at (Some b) (Some place) = is_foreign b && is_code place
is_right_of _ source places at b place = false

abbrev pub is_right : List ℕ → Note → Bool
is_right source n =
    let places = places_of within.Start source in
    is_right_of n.kind source places n.start (slice_get source n.start) (slice_get places n.start)

-- what is left of a source that is no program: each of these signs is taken out or told, or nothing is edited, and a
-- note that is right says so
abbrev pub IsLeft : List ℕ → List Edit → List Note → Type 0
IsLeft source edits notes = TellsOld source edits notes ⊎ ((edits ≡ []) × (list_any (is_right source) notes ≡ true))
