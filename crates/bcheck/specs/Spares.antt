-- Promise: what a change that needs no choice keeps of a source.
use Rattle.std.specs.Prelude.{◌≡◌, ℕ, zero, suc, ◌+◌, ◌==◌, ◌&&◌, ◌||◌, Bool, true, false, not, nat_le, nat_lt}
use Rattle.std.specs.Prelude.{if◌then◌else◌, is_none, position, slice_range}
use Rattle.std.specs.Prelude.{List, [], ◌∷◌, ◌++◌, codes, count_by, drop, length, reverse, take, Option, Some, None}
use Rattle.std.specs.List.{flat_map, list_all, list_any}
use Rattle.std.specs.Str.{bytes_eq}
use Rattle.bword.specs.declared.edition.Edition.{Edition}
use Rattle.bword.specs.declared.operators.BinOp.TheVariants as operator
use Rattle.bword.specs.Words.{same_name}
use Rattle.blang.specs.declared.token.Keyword.TheVariants as keyword
use Rattle.blex.specs.declared.lexeme.Lexeme.{Lexeme}
use Rattle.blex.specs.declared.lexeme.Lexeme.TheVariants as lexeme
use Rattle.blex.specs.declared.scanner.PlacedPiece.{PlacedPiece}
use Rattle.blex.specs.Places.{next_piece}
use Rattle.bcheck.specs.declared.change.Change.{Change}
use Rattle.bcheck.specs.declared.spares.Both.{Both}
use Rattle.bcheck.specs.declared.spares.Class.{Class}
use Rattle.bcheck.specs.declared.spares.Class.TheVariants as class
use Rattle.bcheck.specs.declared.spares.Trial.{Trial}
use Rattle.bcheck.specs.Sections.{is_end}
use Rattle.bcheck.specs.UndefinedNames.{heading_words, type_words}

-- words of other languages, which may be taken out
abbrev pub other_words : List (List ℕ)
other_words = codes "then" ∷ codes "do" ∷ []

unfoldable pub is_other_word : List ℕ → Bool
is_other_word name =
    list_any (same_name name) type_words
    || (list_any (same_name name) heading_words || list_any (same_name name) other_words)

abbrev pub is_other : Option Lexeme → Bool
is_other (Some (lexeme.Name name)) = is_other_word name
is_other l = false

-- Signs that may be taken out: brackets but for braces, what stands between, and what other languages double.
abbrev pub is_sign : Option Lexeme → Bool
is_sign (Some lexeme.Comma) = true
is_sign (Some lexeme.Semicolon) = true
is_sign (Some lexeme.Colon) = true
is_sign (Some lexeme.OpenParen) = true
is_sign (Some lexeme.CloseParen) = true
is_sign (Some lexeme.OpenBracket) = true
is_sign (Some lexeme.CloseBracket) = true
is_sign (Some (lexeme.Assign None)) = true
is_sign (Some (lexeme.Operator operator.And)) = true
is_sign (Some (lexeme.Operator operator.Or)) = true
is_sign (Some (lexeme.Operator operator.Div)) = true
is_sign l = false

-- The classes: what is neither a sign nor such a word, signs, keywords with which a function or a loop is left, names,
-- numbers, the star of a pointer, what opens a call, comments and strings, what no token is, and of what a declaration
-- and a prototype consist.
unfoldable pub is_of_class : Class → Option Lexeme → Bool
is_of_class class.Bound l = not (is_sign l || is_other l)
is_of_class class.Sign l = is_sign l
is_of_class class.WayOut (Some (lexeme.Keyword keyword.Goto)) = true
is_of_class class.WayOut (Some (lexeme.Keyword keyword.Return)) = true
is_of_class class.WayOut (Some (lexeme.Keyword keyword.Break)) = true
is_of_class class.Name (Some (lexeme.Name name)) = true
is_of_class class.Number (Some (lexeme.Number n)) = true
is_of_class class.Star (Some (lexeme.Operator operator.Mul)) = true
is_of_class class.Call (Some lexeme.OpenParen) = true
is_of_class class.Quoted None = true
is_of_class class.Quoted (Some lexeme.String) = true
is_of_class class.Wrong (Some (lexeme.Bad letters)) = true
is_of_class class.Declaration (Some (lexeme.Name name)) = true
is_of_class class.Declaration (Some (lexeme.Keyword keyword.Auto)) = true
is_of_class class.Declaration (Some (lexeme.Keyword keyword.Extrn)) = true
is_of_class class.Declaration (Some lexeme.Comma) = true
is_of_class class.Declaration (Some lexeme.Semicolon) = true
is_of_class class.Prototype (Some (lexeme.Name name)) = true
is_of_class class.Prototype (Some (lexeme.Operator op)) = true
is_of_class class.Prototype (Some lexeme.Comma) = true
is_of_class class.Prototype (Some lexeme.OpenParen) = true
is_of_class class.Prototype (Some lexeme.CloseParen) = true
is_of_class class.Prototype (Some lexeme.Semicolon) = true
is_of_class c l = false

-- the piece, if it is none that is wrong
abbrev pub right_piece : PlacedPiece → List PlacedPiece
right_piece p = if is_of_class class.Wrong p.lexeme then [] else p ∷ []

-- those from a place on, among as many comments and tokens as the fuel
unfoldable pub right_from : Edition → (fuel : ℕ) → List ℕ → (at : ℕ) → List PlacedPiece
right_from edition zero source at = []
right_from edition (suc fuel) source at =
    let p = next_piece edition source at in
    if is_end p.lexeme then [] else right_piece p ++ right_from edition fuel source p.end

-- the comments and tokens of a source but for what is wrong
abbrev pub right_pieces : Edition → List ℕ → List PlacedPiece
right_pieces edition source = right_from edition (length source) source 0

-- a piece of a source has the bytes of one of another source
abbrev pub is_same_piece : (source : List ℕ) → PlacedPiece → (new : List ℕ) → PlacedPiece → Bool
is_same_piece source p new q = bytes_eq (slice_range source p.first p.end) (slice_range new q.first q.end)

-- the first ones of two lists of pieces are the same
abbrev pub begins_alike : (source : List ℕ) → List PlacedPiece → (new : List ℕ) → List PlacedPiece → Bool
begins_alike source (p ∷ ps) new (q ∷ qs) = is_same_piece source p new q
begins_alike source olds new news = false

-- how many pieces of two sources are the same, from the first ones on
abbrev pub alike : (source : List ℕ) → List PlacedPiece → (new : List ℕ) → List PlacedPiece → ℕ
alike source [] new news = 0
alike source (p ∷ ps) new [] = 0
alike source (p ∷ ps) new (q ∷ qs) = if is_same_piece source p new q then suc (alike source ps new qs) else 0

-- two sources, and pieces of each
pub record Pair : Type 0 where
  pub source : List ℕ
  pub olds : List PlacedPiece
  pub new : List ℕ
  pub news : List PlacedPiece

-- those of the program
abbrev pub pair_of : Both → Pair
pair_of b = record { source = b.source.now; olds = b.olds.now; new = b.new.now; news = b.news.now }

-- all pieces of both
abbrev pub whole_pair : Edition → (source new : List ℕ) → Pair
whole_pair edition source new = record {
  source = source;
  olds = right_pieces edition source;
  new = new;
  news = right_pieces edition new;
}

-- those after the first ones that are the same, from the last one back
abbrev pub rest_back : Pair → Pair
rest_back p =
    let n = alike p.source p.olds p.new p.news in
    record { source = p.source; olds = reverse (drop n p.olds); new = p.new; news = reverse (drop n p.news) }

-- those before that, from the last one back
abbrev pub before_back : Pair → List PlacedPiece
before_back p = reverse (take (alike p.source p.olds p.new p.news) p.olds)

-- those without the last ones that are the same, too: what changes
abbrev pub changed_pair : Edition → (source new : List ℕ) → Pair
changed_pair edition source new = rest_back (rest_back (whole_pair edition source new))

-- A change: all pieces, those that change, those before them, from the last one back, and the bytes that it takes out,
-- with their pieces.
pub record Swap : Type 0 where
  pub whole : Pair
  pub changed : Pair
  pub before : List PlacedPiece
  pub taken : List ℕ
  pub pieces : List PlacedPiece

-- that of the program
abbrev pub swap_of : Trial → Swap
swap_of t = record {
  whole = pair_of t.whole;
  changed = pair_of t.changed;
  before = t.before.now;
  taken = t.taken.now;
  pieces = t.pieces.now;
}

abbrev pub count_of : Class → List PlacedPiece → ℕ
count_of c ps = count_by (λ p. is_of_class c p.lexeme) ps

-- all are of a class, or there is one alone, of this class
abbrev pub are_of_class : Class → List PlacedPiece → Bool
are_of_class c ps = list_all (λ p. is_of_class c p.lexeme) ps

abbrev pub is_one : Class → List PlacedPiece → Bool
is_one c [] = false
is_one c (p ∷ ps) = nat_le (length ps) 0 && is_of_class c p.lexeme

-- no more of a class are there afterwards
abbrev pub adds_none : Class → Pair → Bool
adds_none c p = nat_le (count_of c p.news) (count_of c p.olds)

-- the pieces are among others, in their order
abbrev pub are_in : (source : List ℕ) → List PlacedPiece → (new : List ℕ) → List PlacedPiece → Bool
are_in source [] new qs = true
are_in source (p ∷ ps) new [] = false
are_in source (p ∷ ps) new (q ∷ qs) =
    if is_same_piece source p new q then are_in source ps new qs else are_in source (p ∷ ps) new qs

-- how often a piece of the first source is among pieces of a source
abbrev pub times : (source : List ℕ) → PlacedPiece → (new : List ℕ) → List PlacedPiece → ℕ
times source p new qs = count_by (is_same_piece source p new) qs

-- it is among the new ones as often as among the old ones
abbrev pub stays : Pair → PlacedPiece → Bool
stays pair p = nat_le (times pair.source p pair.source pair.olds) (times pair.source p pair.new pair.news)

-- quotes and backslashes; bytes that are no blanks; and those that are none of these and no star
abbrev pub is_quote : ℕ → Bool
is_quote b = (b == 34) || ((b == 39) || (b == 92))

abbrev pub is_letter : ℕ → Bool
is_letter b = nat_lt 32 b

abbrev pub star : ℕ
star = 42

abbrev pub is_plain : ℕ → Bool
is_plain b = is_letter b && not (is_quote b || (b == star))

-- a piece that is a name stands in the source
unfoldable pub is_known : (whole : Pair) → (new : List ℕ) → PlacedPiece → Bool
is_known whole new q = not (is_of_class class.Name q.lexeme) || nat_lt 0 (times new q whole.source whole.olds)

abbrev pub knows : (whole p : Pair) → Bool
knows whole p = list_all (is_known whole p.new) p.news

-- The kinds of changes. One puts pieces in, and all that were stay: nothing but quotes and stars, or three pieces at
-- most, and a name only in a declaration or alone, if it stands in the source.
abbrev pub puts_few : (whole p : Pair) → Bool
puts_few whole p =
    nat_le (length p.news) (length p.olds + 3)
    && (adds_none class.Name p || (are_of_class class.Declaration p.news && knows whole p))

abbrev pub puts : (whole p : Pair) → Bool
puts whole p =
    are_in p.source p.olds p.new p.news
    && (nat_le (count_by is_plain p.new) (count_by is_plain p.source) || puts_few whole p)

-- Another one takes out one or two signs, and words of other languages.
abbrev pub takes : Pair → Bool
takes p =
    are_in p.new p.news p.source p.olds
    && (nat_le (count_of class.Bound p.olds) (count_of class.Bound p.news)
    && nat_le (count_of class.Sign p.olds) (count_of class.Sign p.news + 2))

-- the token with which pieces begin
abbrev pub first_lexeme : List PlacedPiece → Option Lexeme
first_lexeme [] = None
first_lexeme (p ∷ ps) = p.lexeme

-- pieces of a source begin with this word or sign
abbrev pub begins : List ℕ → (source : List ℕ) → List PlacedPiece → Bool
begins word source [] = false
begins word source (p ∷ ps) = bytes_eq (slice_range source p.first p.end) word

-- Pieces assign a list in brackets to a name.
abbrev pub assigns_list : (source : List ℕ) → List PlacedPiece → Bool
assigns_list source ps =
    is_of_class class.Name (first_lexeme ps)
    && (begins (codes "=") source (drop 1 ps) && begins (codes "[") source (drop 2 ps))

-- A declaration of another language becomes one of this: types, signs and stars go, and values move. It is one by the
-- word with which what changes begins, or by what is taken out. Neither names that are new nor calls are put in.
abbrev pub begins_declaration : (olds : List PlacedPiece) → (taken : List ℕ) → (pieces : List PlacedPiece) → Bool
begins_declaration olds taken pieces =
    is_other (first_lexeme olds) || (begins (codes "auto") taken pieces || assigns_list taken pieces)

unfoldable pub stays_declared : Pair → PlacedPiece → Bool
stays_declared pair p =
    (not (is_of_class class.Bound p.lexeme) || is_of_class class.Star p.lexeme) || stays pair p

abbrev pub keeps_declared : Pair → Bool
keeps_declared pair = list_all (stays_declared pair) pair.olds

abbrev pub turns_declaration : (whole p : Pair) → (taken : List ℕ) → (pieces : List PlacedPiece) → Bool
turns_declaration whole p taken pieces =
    begins_declaration p.olds taken pieces && (keeps_declared p && (knows whole p && adds_none class.Call p))

-- A sign stands for another one, and a sign or a constant for a word of another language: these, without blanks.
abbrev pub stand_rows : List (List ℕ × List ℕ)
stand_rows =
    (codes "==", codes "=") ∷ (codes "=", codes "==") ∷ (codes "=<", codes "<=") ∷ (codes "=>", codes ">=") ∷
    (codes "+=", codes "=+") ∷ (codes "-=", codes "=-") ∷ (codes "*=", codes "=*") ∷ (codes "/=", codes "=/") ∷
    (codes "%=", codes "=%") ∷ (codes "&=", codes "=&") ∷ (codes "|=", codes "=|") ∷ (codes "<>", codes "!=") ∷
    (codes ":=", codes "=") ∷ (codes ";", codes ",") ∷ (codes ",", codes ";") ∷ (codes ":", codes ";") ∷
    (codes ";", codes ":") ∷ (codes ")", codes "]") ∷ (codes "]", codes ")") ∷ (codes "and", codes "&") ∷
    (codes "or", codes "|") ∷ (codes "not", codes "!") ∷ (codes "True", codes "1") ∷ (codes "true", codes "1") ∷
    (codes "TRUE", codes "1") ∷ (codes "False", codes "0") ∷ (codes "false", codes "0") ∷
    (codes "FALSE", codes "0") ∷ (codes "None", codes "0") ∷ (codes "NULL", codes "0") ∷ (codes "nil", codes "0") ∷
    (codes "null", codes "0") ∷ (codes "EOF", codes "'*e'") ∷ (codes "-1", codes "'*e'") ∷
    (codes ">-1", codes "!='*e'") ∷ (codes ">=0", codes "!='*e'") ∷ (codes "<=-1", codes "=='*e'") ∷
    (codes "<0", codes "=='*e'") ∷ (codes "-1<", codes "'*e'!=") ∷ (codes "0<=", codes "'*e'!=") ∷
    (codes "-1>=", codes "'*e'==") ∷ (codes "0>", codes "'*e'==") ∷ []

abbrev pub is_row : (old new : List ℕ) → (List ℕ × List ℕ) → Bool
is_row old new row = bytes_eq old row.0 && bytes_eq new row.1

-- Pieces, from the last one back, are a word that a statement begins with: a name, `*` and a name, or a name with an
-- index of one piece or of three; and a `++` or `--` after these.
abbrev pub ends_part : (source : List ℕ) → List PlacedPiece → Bool
ends_part source ps =
    begins (codes ";") source ps || (begins (codes "{") source ps || (begins (codes "}") source ps
    || (begins (codes ")") source ps || begins (codes "else") source ps)))

abbrev pub sets_name : (source : List ℕ) → List PlacedPiece → Bool
sets_name source ps =
    is_of_class class.Name (first_lexeme ps)
    && (ends_part source (drop 1 ps) || (begins (codes "*") source (drop 1 ps) && ends_part source (drop 2 ps)))

abbrev pub sets_index : (source : List ℕ) → List PlacedPiece → Bool
sets_index source ps = begins (codes "[") source ps && sets_name source (drop 1 ps)

abbrev pub sets_place : (source : List ℕ) → List PlacedPiece → Bool
sets_place source ps =
    sets_name source ps
    || (begins (codes "]") source ps && (sets_index source (drop 2 ps) || sets_index source (drop 4 ps)))

abbrev pub sets_word : (source : List ℕ) → List PlacedPiece → Bool
sets_word source ps =
    sets_place source ps
    || ((begins (codes "++") source ps || begins (codes "--") source ps) && sets_place source (drop 1 ps))

-- `==` becomes `=` only after such a word, and `=` becomes `==` only elsewhere.
abbrev pub fits_sign : (source : List ℕ) → (before : List PlacedPiece) → (old : List ℕ) → Bool
fits_sign source before old =
    if bytes_eq old (codes "==") then sets_word source before
    else not (bytes_eq old (codes "=") && sets_word source before)

abbrev pub stands : (source : List ℕ) → (before : List PlacedPiece) → (old new : List ℕ) → Bool
stands source before old new = list_any (is_row old new) stand_rows && fits_sign source before old

-- A name stands for one with nearly the same letters, which has at least one of them.
abbrev pub letters_apart : (name other : List ℕ) → ℕ
letters_apart name other = count_by (λ b. not (list_any (λ c. c == b) other)) name

abbrev pub are_near : (name other : List ℕ) → Bool
are_near name other =
    (nat_le (length name) (length other + 1) && nat_le (length other) (length name + 1))
    && ((nat_le (letters_apart name other) 1 && nat_lt (letters_apart name other) (length name))
    && nat_le (letters_apart other name) 1)

-- A `[` parts a name from an index.
abbrev pub open_bracket : ℕ
open_bracket = 91

abbrev pub opens_at : Option ℕ → (old new : List ℕ) → Bool
opens_at None old new = false
opens_at (Some n) old new = bytes_eq (take n old) (take n new) && bytes_eq (drop n old) (drop (n + 1) new)

abbrev pub opens : (old new : List ℕ) → Bool
opens old new = opens_at (position (λ b. b == open_bracket) new) old new

-- the bytes of pieces of a source, without what is between them
abbrev pub joined : List ℕ → List PlacedPiece → List ℕ
joined source ps = flat_map (λ p. slice_range source p.first p.end) ps

-- What stands for a name alone is another name, or an index.
abbrev pub renames : Pair → (old new : List ℕ) → Bool
renames p old new =
    is_one class.Name p.olds && (is_one class.Name p.news && are_near old new || opens old new)

abbrev pub fits_kind : Swap → (old new : List ℕ) → Bool
fits_kind s old new =
    let p = s.changed in
    (((puts s.whole p || takes p) || turns_declaration s.whole p s.taken s.pieces)
    || stands p.source s.before old new) || renames p old new

abbrev pub is_of_kind : Swap → Bool
is_of_kind s = fits_kind s (joined s.changed.source s.changed.olds) (joined s.changed.new s.changed.news)

-- bytes begin with this one
abbrev pub begins_with : ℕ → List ℕ → Bool
begins_with byte [] = false
begins_with byte (b ∷ bs) = b == byte

-- a remark, a line of another language or a number to the base 16 begins with them: with `#`, `//`, `0x` or `0X`
abbrev pub begins_foreign : List ℕ → Bool
begins_foreign bytes =
    let rest = drop 1 bytes in
    begins_with 35 bytes || ((begins_with 47 bytes && begins_with 47 rest)
    || (begins_with 48 bytes && (begins_with 120 rest || begins_with 88 rest)))

unfoldable pub is_type_word : List ℕ → Bool
is_type_word name = list_any (same_name name) type_words

abbrev pub is_type : Option Lexeme → Bool
is_type (Some (lexeme.Name name)) = is_type_word name
is_type l = false

-- tokens of a prototype, which begins with a type
abbrev pub is_prototype : List PlacedPiece → Bool
is_prototype ps = is_type (first_lexeme ps) && are_of_class class.Prototype ps

-- these pieces, which change, are in such bytes or such tokens alone, which are taken out
abbrev pub is_foreign : (taken : List ℕ) → (pieces olds : List PlacedPiece) → Bool
is_foreign taken pieces olds =
    (begins_foreign taken || is_prototype pieces) && nat_le (length olds) (length pieces)

-- What stands for it: a comment with each letter and its own four, a number, the name and the value of a `#define`, or
-- nothing.
abbrev pub are_comment : (new : List ℕ) → List PlacedPiece → (taken : List ℕ) → Bool
are_comment new [] taken = false
are_comment new (p ∷ ps) taken =
    nat_le (length ps) 0
    && (is_none p.lexeme
    && nat_le (count_by is_letter taken + 2) (count_by is_letter (slice_range new p.first p.end)))

abbrev pub translates : Pair → (taken : List ℕ) → Bool
translates p taken =
    are_comment p.new p.news taken
    || (if begins_with 48 taken then is_one class.Number p.news
    else (if begins (codes "define") p.source p.olds
    then are_in p.source (drop 1 p.olds) p.new p.news && nat_le (length p.news) (length p.olds)
    else nat_le (length p.news) 0))

-- What changes is small, and loses no quote, no comment and no string. No way out of a function or a loop is put in.
-- It is of such a kind, or of another language.
abbrev pub most_changed : ℕ
most_changed = 256

abbrev pub keeps_quoted : Pair → Bool
keeps_quoted pair = list_all (λ p. not (is_of_class class.Quoted p.lexeme) || stays pair p) pair.olds

abbrev pub keeps : Swap → Bool
keeps s =
    let p = s.changed in
    (nat_le (count_by is_quote p.source) (count_by is_quote p.new)
    && (nat_le (length p.olds) most_changed
    && (keeps_quoted p && adds_none class.WayOut p)))
    && (is_foreign s.taken s.pieces p.olds && translates p s.taken || is_of_kind s)

-- A change that takes out these bytes of a source and makes another one of it needs no choice.
abbrev pub spares : Edition → (source new taken : List ℕ) → Bool
spares edition source new taken =
    let whole = whole_pair edition source new in
    keeps (record {
      whole = whole;
      changed = changed_pair edition source new;
      before = before_back whole;
      taken = taken;
      pieces = right_pieces edition taken;
    })

-- the same of a text in the place of so many bytes from here on
abbrev pub spares_at : Edition → (source : List ℕ) → (start len : ℕ) → (text : List ℕ) → Bool
spares_at edition source start len text =
    spares edition source (take start source ++ (text ++ drop len (drop start source))) (take len (drop start source))

-- a change of a source needs no choice
abbrev pub IsSpared : Edition → List ℕ → Change → Type 0
IsSpared edition source c = spares_at edition source c.start c.len c.text ≡ true
