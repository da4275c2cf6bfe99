-- Closed facts: which signs of other forms are told where they stay, and how.
use Rattle.std.specs.Fmt.{digits}
use Rattle.std.specs.Prelude.{◌≡◌, ℕ, true, false, Bool, List, [], ◌∷◌, Some, codes, map, refl}
use Rattle.bport.specs.Places.{places_of}
use Rattle.bport.specs.Staying.{is_foreign, is_old_at, is_right, is_told_at, is_uneven, notes_text, refuses_kind}
use Rattle.bport.specs.declared.edit.Edit.{Edit}
use Rattle.bport.specs.declared.row.Note.{Note}
use Rattle.bport.specs.declared.row.NoteKind.{NoteKind}
use Rattle.bport.specs.declared.row.NoteKind.TheVariants as kind
use Rattle.bport.specs.declared.row.Row.TheVariants as row
use Rattle.bport.specs.declared.within.Within.TheVariants as within

abbrev old_in : List ℕ → List ℕ → List Bool
old_in source places_looked = map (λ at. is_old_at source (places_of within.Start source) at) places_looked

-- assignment operators, and what only looks like one
assignments : old_in (codes "a+=b-=c;i++==2") (1 ∷ 2 ∷ 4 ∷ 9 ∷ 10 ∷ 11 ∷ [])
    ≡ true ∷ false ∷ true ∷ false ∷ false ∷ false ∷ []
assignments = refl

others : old_in (codes "$(a&&b||c$)&d|e") (0 ∷ 3 ∷ 4 ∷ 6 ∷ 9 ∷ 11 ∷ 13 ∷ [])
    ≡ true ∷ true ∷ false ∷ true ∷ true ∷ false ∷ false ∷ []
others = refl

-- bits, and what only looks like an operator of them
bits : old_in (codes "a<<=b>>=c^=~d|=e&=f;g=<<h;i<=j") (1 ∷ 2 ∷ 5 ∷ 9 ∷ 11 ∷ 13 ∷ 16 ∷ 21 ∷ 22 ∷ 26 ∷ [])
    ≡ true ∷ false ∷ true ∷ true ∷ true ∷ true ∷ true ∷ false ∷ false ∷ false ∷ []
bits = refl

-- a newline in quotes, and a backslash with an n after it
newlines : old_in (codes "\"\\n\\\\n\"'\\n'") (1 ∷ 3 ∷ 4 ∷ 8 ∷ []) ≡ true ∷ false ∷ false ∷ true ∷ []
newlines = refl

-- in comments, strings and character constants there are none
not_in_code : old_in (codes "/*&&*/\"+=\"'$('") (2 ∷ 7 ∷ 11 ∷ []) ≡ false ∷ false ∷ false ∷ []
not_in_code = refl

abbrev note : Note
note = record { start = 2; kind = kind.Sign }

abbrev edit : Edit
edit = record { start = 4; end = 6; text = []; row = row.And }

-- taken out or told
told_at : map (λ at. is_told_at at (edit ∷ []) (note ∷ [])) (2 ∷ 3 ∷ 4 ∷ 5 ∷ 6 ∷ [])
    ≡ true ∷ false ∷ true ∷ true ∷ false ∷ []
told_at = refl

-- nothing is edited, and one note is told of another place
of_another_place : is_told_at 2 [] (record { start = 0; kind = kind.Bracket } ∷ []) ≡ false
of_another_place = refl

-- a note of such a place
abbrev noted : ℕ → NoteKind → Note
noted start kind = record { start = start; kind = kind }

-- whether a note of this kind is right at each of these places
abbrev right_at : NoteKind → List ℕ → List ℕ → List Bool
right_at kind source places_looked = map (λ at. is_right source (noted at kind)) places_looked

-- a bracket without another one, and an accent
right : map (is_right (codes "f( `a`;")) (noted 1 kind.Bracket ∷ noted 3 kind.Accent ∷ [])
    ≡ true ∷ true ∷ []
right = refl

-- at other bytes, in a comment, where all brackets fit, and of another kind
wrong : map (is_right (codes "f(a); /* ` # */")) (noted 0 kind.Bracket ∷ noted 1 kind.Bracket ∷ noted 9 kind.Accent
    ∷ noted 11 kind.Fraction ∷ noted 0 kind.Numbered ∷ noted 0 kind.Unfit ∷ [])
    ≡ false ∷ false ∷ false ∷ false ∷ false ∷ false ∷ []
wrong = refl

-- bytes of no form, and others
foreign : map is_foreign (96 ∷ 64 ∷ 0 ∷ 8 ∷ 11 ∷ 31 ∷ 127 ∷ 195 ∷ 9 ∷ 10 ∷ 12 ∷ 13 ∷ 32 ∷ 35 ∷ 92 ∷ 126 ∷ [])
    ≡ true ∷ true ∷ true ∷ true ∷ true ∷ true ∷ true ∷ true
    ∷ false ∷ false ∷ false ∷ false ∷ false ∷ false ∷ false ∷ false ∷ []
foreign = refl

-- operators of fractions: with one operand, between two, and of comparisons
fractions : right_at kind.Fraction (codes "x = # i\ny#+a\na #<=(b)\nc==#d\ne #==f") (4 ∷ 9 ∷ 15 ∷ 25 ∷ 30 ∷ [])
    ≡ true ∷ true ∷ true ∷ true ∷ true ∷ []
fractions = refl

-- lines for a preprocessor, also after a comment, and a `#` before an operator that begins a line
no_directives : right_at kind.Fraction (codes "#define N 5\n#if x\n/**/#define M\n #+ 1") (0 ∷ 12 ∷ 22 ∷ 33 ∷ [])
    ≡ false ∷ false ∷ false ∷ false ∷ []
no_directives = refl

-- comments after code: words, a line of signs, and a sign after a semicolon
no_remarks : right_at kind.Fraction (codes "f(a) # a\ng()#---\nx=1; #- b\na #===") (5 ∷ 12 ∷ 22 ∷ 29 ∷ [])
    ≡ false ∷ false ∷ false ∷ false ∷ []
no_remarks = refl

-- the number of each line, and any other digit
numbered : right_at kind.Numbered (codes "10 a\n\n 20 b\n") (0 ∷ 1 ∷ 3 ∷ 7 ∷ []) ≡ true ∷ false ∷ false ∷ true ∷ []
numbered = refl

-- one line has no number, or is a comment
not_numbered : map (λ source. is_right source (noted 0 kind.Numbered))
    (codes "10 a\nb" ∷ codes "10 a\n/* b */" ∷ codes "1;\n}" ∷ []) ≡ false ∷ false ∷ false ∷ []
not_numbered = refl

-- brackets in quotes and comments are none
uneven : map (λ source. is_uneven source (places_of within.Start source))
    (codes "f(a[1]){}" ∷ codes "f(a))" ∷ codes "$( $)" ∷ codes "'(' /* ( */ \"(\"" ∷ [])
    ≡ false ∷ true ∷ false ∷ false ∷ []
uneven = refl

refusing : map refuses_kind
    (kind.Bracket ∷ kind.Fraction ∷ kind.Numbered ∷ kind.Accent ∷ kind.Unfit ∷ kind.Star ∷ kind.Sign ∷ kind.Escape ∷ [])
    ≡ true ∷ true ∷ true ∷ true ∷ true ∷ true ∷ false ∷ false ∷ []
refusing = refl

note_line : notes_text (codes "f") (codes "a\nb") (note ∷ [])
    ≡ codes "f:2: left: this sign is one of another form, and stays\n"
unfolding digits
note_line = refl
