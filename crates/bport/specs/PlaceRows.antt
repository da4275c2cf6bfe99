-- Closed facts: in what the bytes of an old source stand, escapes, and why a source is none of a program.
use Rattle.std.specs.Prelude.{◌≡◌, ℕ, Bool, true, false, List, [], ◌∷◌, None, Some, codes, map, refl}
use Rattle.blang.specs.declared.run.LoadFault.TheVariants as faults
use Rattle.btools.specs.declared.program.ProgramFault.TheVariants as why
use Rattle.bport.specs.Places.{is_own_text, places_of}
use Rattle.bport.specs.Edits.{is_reason}
use Rattle.bport.specs.Escapes.{escape_for, is_cut_short}
use Rattle.bport.specs.declared.within.Within.TheVariants as within

-- which bytes of a text are a comment's or a string's own
abbrev own : List ℕ → List Bool
own text = map is_own_text (places_of within.Start text)

abbrev t : Bool
t = true

abbrev f : Bool
f = false

-- the marks of a comment that begins are none, nor is what comes after it
of_comment : own (codes "a/*b*/c") ≡ f ∷ f ∷ f ∷ t ∷ t ∷ t ∷ f ∷ []
of_comment = refl

of_stars : own (codes "/***/*/") ≡ f ∷ f ∷ t ∷ t ∷ t ∷ f ∷ f ∷ []
of_stars = refl

of_line : own (codes "//b\nc") ≡ f ∷ f ∷ t ∷ t ∷ f ∷ []
of_line = refl

of_hash : own (codes " #b\n#\na#b") ≡ f ∷ f ∷ t ∷ t ∷ f ∷ t ∷ f ∷ f ∷ t ∷ []
of_hash = refl

-- a quote within, in both forms of escapes
of_string : own (codes "\"a\\\"b*\"c\"d") ≡ f ∷ t ∷ t ∷ t ∷ t ∷ t ∷ t ∷ t ∷ t ∷ f ∷ []
of_string = refl

-- a character constant has none, and hides the quotes of a string
of_char : own (codes "'\"'\"a\"") ≡ f ∷ f ∷ f ∷ f ∷ t ∷ t ∷ []
of_char = refl

of_escaped_char : own (codes "'*'\"a'\\'\"") ≡ f ∷ f ∷ f ∷ f ∷ t ∷ t ∷ t ∷ t ∷ t ∷ []
of_escaped_char = refl

-- a newline ends a string that isn't closed
of_open_string : own (codes "\"a\nb") ≡ f ∷ t ∷ t ∷ f ∷ []
of_open_string = refl

escapes : map escape_for
    (codes "\\n" ∷ codes "\\t" ∷ codes "\\0" ∷ codes "\\\"" ∷ codes "\\'" ∷ codes "\\\\" ∷ codes "*" ∷ [])
    ≡ codes "*n" ∷ codes "*t" ∷ codes "*0" ∷ codes "*\"" ∷ codes "*'" ∷ codes "\\" ∷ codes "**" ∷ []
escapes = refl

octal_escapes : map escape_for (codes "\\012" ∷ codes "\\11" ∷ codes "\\000" ∷ codes "\\12" ∷ [])
    ≡ codes "*n" ∷ codes "*t" ∷ codes "*0" ∷ codes "*n" ∷ []
octal_escapes = refl

-- in capitals, and two stars that are two characters
star_escapes : map escape_for (codes "*N" ∷ codes "*T" ∷ codes "*E" ∷ codes "**" ∷ codes "*S" ∷ codes "*NN" ∷ [])
    ≡ codes "*n" ∷ codes "*t" ∷ codes "*e" ∷ codes "****" ∷ [] ∷ [] ∷ []
star_escapes = refl

-- a star before an escape with a backslash, and before another backslash
starred_escapes : map escape_for (codes "*\\n" ∷ codes "*\\012" ∷ codes "*\\\\" ∷ codes "*\\q" ∷ codes "*\\" ∷ [])
    ≡ codes "***n" ∷ codes "***n" ∷ codes "**\\" ∷ [] ∷ [] ∷ []
starred_escapes = refl

-- other bytes, four digits, and a digit that is none
no_octal_escapes : map escape_for (codes "\\101" ∷ codes "\\0012" ∷ codes "\\018" ∷ codes "\\8" ∷ [])
    ≡ [] ∷ [] ∷ [] ∷ [] ∷ []
no_octal_escapes = refl

-- one more digit
cut_short : map (λ old. is_cut_short old (Some 49))
    (codes "\\0" ∷ codes "\\01" ∷ codes "\\012" ∷ codes "\\n" ∷ codes "*" ∷ codes "*\\0" ∷ [])
    ≡ true ∷ true ∷ false ∷ false ∷ false ∷ true ∷ []
cut_short = refl

not_cut_short : map (is_cut_short (codes "\\0")) (None ∷ Some 56 ∷ Some 34 ∷ []) ≡ false ∷ false ∷ false ∷ []
not_cut_short = refl

no_escapes : map escape_for (codes "\\r" ∷ codes "n" ∷ codes "*n" ∷ codes "\\nn" ∷ [] ∷ [])
    ≡ [] ∷ [] ∷ [] ∷ [] ∷ [] ∷ []
no_escapes = refl

reasons : map is_reason (why.Memory ∷ why.Unloaded faults.NoMain ∷ why.Unread 1 ∷ []) ≡ false ∷ true ∷ true ∷ []
reasons = refl
