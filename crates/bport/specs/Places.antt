-- Promise: in what each byte of an old source stands: code, a comment, a string or a character constant.
use Rattle.std.specs.Prelude.{ℕ, ◌==◌, Bool, true, false, List, [], ◌∷◌, if◌then◌else◌, not, ◌||◌}
use Rattle.bport.specs.declared.within.Within.{Within}
use Rattle.bport.specs.declared.within.Within.TheVariants as within

-- after a byte of code: a newline, `/`, `#`, a quote of a string or of a character, or another one
abbrev pub after_code : ℕ → Within
after_code b =
    if b == 10 then within.Start
    else (if b == 47 then within.Slash
    else (if b == 35 then within.Line
    else (if b == 34 then within.String else (if b == 39 then within.Char else within.Code))))

-- after a byte in quotes: a newline, the closing quote, a mark of an escape, or another one
abbrev pub after_quoted : (quote : ℕ) → (escape otherwise : Within) → ℕ → Within
after_quoted quote escape otherwise b =
    if b == 10 then within.Start
    else (if b == quote then within.Code
    else (if b == 42 then escape else (if b == 92 then escape else otherwise)))

-- In what the byte after this one stands. A `#` among code begins a comment up to the end of its line, as `//` does.
abbrev pub after : Within → ℕ → Within
after within.Comment b = if b == 42 then within.Star else within.Comment
after within.Star b = if b == 47 then within.Code else (if b == 42 then within.Star else within.Comment)
after within.Line b = if b == 10 then within.Start else within.Line
after within.String b = after_quoted 34 within.StringEscape within.String b
after within.StringEscape b = if b == 10 then within.Start else within.String
after within.Char b = after_quoted 39 within.CharEscape within.Char b
after within.CharEscape b =
    if b == 39 then within.CharQuote else (if b == 10 then within.Start else within.Char)
after within.CharQuote b = if b == 39 then within.Code else after_code b
after within.Slash b = if b == 42 then within.Comment else (if b == 47 then within.Line else after_code b)
after within.Start b =
    if b == 32 then within.Start else (if b == 9 then within.Start else after_code b)
after within.Code b = after_code b

-- in what each byte stands, where the first one stands in this
abbrev pub places_of : Within → List ℕ → List Within
places_of place [] = []
places_of place (b ∷ bs) = place ∷ places_of (after place b) bs

-- a byte is a comment's or a string's own
abbrev pub is_own_text : Within → Bool
is_own_text within.Comment = true
is_own_text within.Star = true
is_own_text within.Line = true
is_own_text within.String = true
is_own_text within.StringEscape = true
is_own_text _ = false

-- A place before this byte is within a comment or a string, or within the two signs that begin a comment. Before the
-- end of its line a comment up to there is over.
abbrev pub is_within_text : Within → ℕ → Bool
is_within_text within.Line b = not (b == 10 || b == 13)
is_within_text within.Slash b = b == 42 || b == 47
is_within_text place b = is_own_text place
