-- Promise: what tests of holes and of tokens say.
use Rattle.std.specs.Prelude.{ℕ, ◌+◌, ◌-◌, ◌*◌, ◌%◌, ◌==◌, ◌&&◌, ◌||◌, Bool, true, false, not, if◌then◌else◌, nat_le, nat_lt}
use Rattle.std.specs.Prelude.{List, [], ◌∷◌, drop, length, Option, None, Some, slice_get, take, unwrap_or}
use Rattle.std.specs.List.{count_by, find, list_any, range_with_len, take_while}
use Rattle.blex.specs.declared.lexeme.Lexeme.{Lexeme}
use Rattle.blex.specs.declared.lexeme.Lexeme.TheVariants as lexeme
use Rattle.btree.specs.declared.nodes.Node.TheVariants as node
use Rattle.btree.specs.declared.tags.Construct.TheVariants as construct
use Rattle.bmatch.specs.declared.binds.Binds.{Binds}
use Rattle.bmatch.specs.declared.conditions.Measure.{Measure}
use Rattle.bmatch.specs.declared.conditions.Measure.TheVariants as measure
use Rattle.bmatch.specs.declared.conditions.Relation.{Relation}
use Rattle.bmatch.specs.declared.conditions.Relation.TheVariants as relation
use Rattle.bmatch.specs.declared.conditions.Test.{Test}
use Rattle.bmatch.specs.declared.conditions.Test.TheVariants as test
use Rattle.bmatch.specs.declared.holds.Site.{Site}
use Rattle.bmatch.specs.declared.pattern.TheConstants.{ROOT}
use Rattle.bmatch.specs.declared.pattern.Word.{Word}
use Rattle.bmatch.specs.declared.tree.Kind.{Kind}
use Rattle.bmatch.specs.declared.tree.Kind.TheVariants as kind
use Rattle.bmatch.specs.declared.tree.TokenPlace.{TokenPlace}
use Rattle.bmatch.specs.declared.tree.Tree.{Tree}
use Rattle.bmatch.specs.Binds.{hole_of}
use Rattle.bmatch.specs.Counting.{arguments_in, indent_in, place_in}
use Rattle.bmatch.specs.Fits.{is_constant, is_named, is_word}
use Rattle.bmatch.specs.Same.{constant_in, is_same_lexeme}
use Rattle.bmatch.specs.Trees.{branch_at, lexeme_at, operator_number}

-- the token that is told, or the first one of what was found
abbrev pub told_token : Tree → Binds → ℕ
told_token tree b = unwrap_or b.told (branch_at tree.rows.now (unwrap_or (hole_of b ROOT) 0)).first

abbrev pub is_quiet : Tree → Option ℕ → Bool
is_quiet tree None = false
is_quiet tree (Some index) = not (branch_at tree.rows.now index).acts

-- the value of a branch that is a constant
abbrev pub value_at : Tree → (index : ℕ) → Option ℕ
value_at tree index =
    let b = branch_at tree.rows.now index in
    if is_constant b.kind then constant_in (lexeme_at tree.lexemes.now b.token) else None

abbrev pub compares : Relation → (one other : ℕ) → Bool
compares relation.Equal m n = m == n
compares relation.Unequal m n = not (m == n)
compares relation.Less m n = nat_lt m n
compares relation.AtMost m n = nat_le m n
compares relation.Greater m n = nat_lt n m
compares relation.AtLeast m n = nat_le n m

abbrev pub compares_both : (one : Option ℕ) → Relation → (other : Option ℕ) → Bool
compares_both (Some m) r (Some n) = compares r m n
compares_both _ r other = false

abbrev pub value_in : Tree → Option ℕ → Option ℕ
value_in tree None = None
value_in tree (Some index) = value_at tree index

abbrev pub product_of : (one other : Option ℕ) → Option ℕ
product_of (Some m) (Some n) = Some (m * n)
product_of _ other = None

abbrev pub place_at : Tree → (token : ℕ) → Option TokenPlace
place_at tree token = slice_get tree.places.now token

abbrev pub length_at : Option TokenPlace → ℕ
length_at None = 0
length_at (Some p) = p.len

-- how many bytes the first token of a branch has
abbrev pub bytes_of : Tree → (index : ℕ) → ℕ
bytes_of tree index = length_at (place_at tree (branch_at tree.rows.now index).first)

abbrev pub bytes_in : Tree → Option ℕ → Option ℕ
bytes_in tree None = None
bytes_in tree (Some index) = Some (bytes_of tree index)

abbrev pub remainder_of : (one other : Option ℕ) → Option ℕ
remainder_of (Some m) (Some n) = if nat_lt 0 n then Some (m % n) else None
remainder_of _ other = None

abbrev pub room_of : (last : Option ℕ) → Option ℕ
room_of None = None
room_of (Some n) = Some (2 * n + 1)

abbrev pub bytes_at : (source : List ℕ) → Option TokenPlace → List ℕ
bytes_at source None = []
bytes_at source (Some p) = take p.len (drop p.start source)

-- bytes that are no stars, without two quotes
abbrev pub letters_of : List ℕ → ℕ
letters_of bytes = count_by (λ b. not (b == 42)) bytes - 2

abbrev pub letters_in : Tree → Option ℕ → Option ℕ
letters_in tree None = None
letters_in tree (Some index) =
    Some (letters_of (bytes_at tree.text.now (place_at tree (branch_at tree.rows.now index).first)))

abbrev pub token_in : Tree → Option ℕ → Option ℕ
token_in tree None = None
token_in tree (Some index) = Some (branch_at tree.rows.now index).first

abbrev pub line_of : Option TokenPlace → Option ℕ
line_of None = None
line_of (Some p) = Some p.line

abbrev pub line_in : Tree → Option ℕ → Option ℕ
line_in tree None = None
line_in tree (Some index) = line_of (place_at tree (branch_at tree.rows.now index).first)

abbrev pub is_definition_kind : Kind → Bool
is_definition_kind (kind.Construct construct.Definition) = true
is_definition_kind _ = false

abbrev pub ends_definition : Tree → (index : ℕ) → Bool
ends_definition tree index = is_definition_kind (branch_at tree.rows.now index).kind

-- definitions stand in a row
abbrev pub begins_definition : Tree → Option ℕ → Bool
begins_definition tree None = false
begins_definition tree (Some index) = index == 0 || ends_definition tree (index - 1)

abbrev pub after : List Lexeme → (token : ℕ) → List Lexeme
after lexemes token = if nat_lt token (length lexemes) then drop (token + 1) lexemes else []

-- how many branches a definition has after its name
abbrev pub branches_up_to : (index : ℕ) → Option ℕ → ℕ
branches_up_to index None = 0
branches_up_to index (Some end) = end - index - 1

abbrev pub definition_end : Tree → (index : ℕ) → Option ℕ
definition_end tree index = find (ends_definition tree) (range_with_len index (length tree.rows.now - index))

abbrev pub larger : (one other : ℕ) → ℕ
larger one other = if nat_lt one other then other else one

-- a vector has as many words as its values need, at least those up to the index in brackets, and one
abbrev pub size_by : (last : Option ℕ) → (count : ℕ) → ℕ
size_by (Some last) count = larger (last + 1) (count - 1)
size_by None count = larger 1 count

abbrev pub size_defined : List Lexeme → (count : ℕ) → Option ℕ
size_defined (lexeme.OpenBracket ∷ (last ∷ rest)) count = Some (size_by (constant_in last) count)
size_defined _ count = None

abbrev pub size_declared : List Lexeme → Option ℕ
size_declared (lexeme.Number last ∷ rest) = Some (last + 1)
size_declared _ = None

-- how many words a vector has, where a name declares or defines it
abbrev pub size_in : Tree → Option ℕ → Option ℕ
size_in tree None = None
size_in tree (Some index) =
    let rest = after tree.lexemes.now (branch_at tree.rows.now index).token in
    if begins_definition tree (Some index)
    then size_defined rest (branches_up_to index (definition_end tree index)) else size_declared rest

abbrev pub sum_of : (one other : Option ℕ) → Option ℕ
sum_of (Some m) (Some n) = Some (m + n)
sum_of _ other = None

abbrev pub distance : (one other : ℕ) → ℕ
distance one other = if nat_lt one other then other - one else one - other

-- what is left of the difference of two values, divided by a third
abbrev pub rest_of : (one other step : Option ℕ) → Option ℕ
rest_of (Some m) (Some n) (Some k) = if nat_lt 0 k then Some (distance m n % k) else None
rest_of _ other step = None

abbrev pub is_no_end : Lexeme → Bool
is_no_end lexeme.Semicolon = false
is_no_end l = true

-- a minus, or a number below 0
abbrev pub is_negative : Lexeme → Bool
is_negative (lexeme.Number n) = nat_le 32768 n
is_negative (lexeme.Operator o) = operator_number o == 10
is_negative _ = false

-- up to the next ;
abbrev pub has_negative : Tree → Option ℕ → Bool
has_negative tree None = false
has_negative tree (Some index) =
    list_any is_negative (take_while is_no_end (after tree.lexemes.now (branch_at tree.rows.now index).token))

abbrev pub is_inside : Tree → (one other : Option ℕ) → Bool
is_inside tree (Some m) (Some n) = nat_le m n && nat_le (branch_at tree.rows.now n).begin m
is_inside tree _ other = false

abbrev pub comes_before : Tree → (one other : Option ℕ) → Bool
comes_before tree (Some m) (Some n) = nat_lt m (branch_at tree.rows.now n).begin
comes_before tree _ other = false

abbrev pub is_evaluated : Kind → Bool
is_evaluated (kind.Node node.Evaluated) = true
is_evaluated _ = false

-- what is evaluated by itself is all that a statement does
abbrev pub is_dropped : Tree → Option ℕ → Bool
is_dropped tree None = false
is_dropped tree (Some index) =
    nat_lt index (length tree.rows.now) && is_evaluated (branch_at tree.rows.now (index + 1)).kind

abbrev pub first_constant : List Lexeme → Option ℕ
first_constant [] = None
first_constant (l ∷ rest) = constant_in l

-- the constant that stands after a name
abbrev pub given_after : Tree → Option ℕ → Option ℕ
given_after tree None = None
given_after tree (Some index) = first_constant (after tree.lexemes.now (branch_at tree.rows.now index).token)

-- a number that a rule compares, if it is there
abbrev pub measure_of : Tree → Measure → Binds → Option ℕ
measure_of tree (measure.Number n) b = Some n
measure_of tree (measure.Value hole) b = value_in tree (hole_of b hole)
measure_of tree (measure.Product one other) b =
    product_of (value_in tree (hole_of b one)) (value_in tree (hole_of b other))
measure_of tree (measure.Bytes hole) b = bytes_in tree (hole_of b hole)
measure_of tree (measure.Remainder one other) b =
    remainder_of (value_in tree (hole_of b one)) (value_in tree (hole_of b other))
measure_of tree (measure.Arguments hole) b = arguments_in tree (hole_of b hole)
measure_of tree (measure.Place one other) b = place_in tree (hole_of b one) (hole_of b other)
measure_of tree (measure.Room hole) b = room_of (value_in tree (hole_of b hole))
measure_of tree (measure.Letters hole) b = letters_in tree (hole_of b hole)
measure_of tree (measure.Token hole) b = token_in tree (hole_of b hole)
measure_of tree (measure.Line hole) b = line_in tree (hole_of b hole)
measure_of tree (measure.Indent hole) b = indent_in tree (hole_of b hole)
measure_of tree (measure.Size hole) b = size_in tree (hole_of b hole)
measure_of tree (measure.Given hole) b = given_after tree (hole_of b hole)
measure_of tree (measure.Sum one other) b = sum_of (value_in tree (hole_of b one)) (value_in tree (hole_of b other))
measure_of tree (measure.Remains one other step) b =
    rest_of (value_in tree (hole_of b one)) (value_in tree (hole_of b other)) (value_in tree (hole_of b step))

-- n, t, r, 0 or a backslash after a backslash
abbrev pub is_c_escape : (before byte : ℕ) → Bool
is_c_escape before byte =
    before == 92 && (byte == 110 || (byte == 116 || (byte == 114 || (byte == 48 || byte == 92))))

abbrev pub has_c_escape : (before : ℕ) → List ℕ → Bool
has_c_escape before [] = false
has_c_escape before (b ∷ bs) = is_c_escape before b || has_c_escape b bs

abbrev pub has_backslash : Tree → Option ℕ → Bool
has_backslash tree None = false
has_backslash tree (Some index) =
    has_c_escape 0 (bytes_at tree.text.now (place_at tree (branch_at tree.rows.now index).first))

abbrev pub begins_with : Tree → Option ℕ → Word → Bool
begins_with tree None w = false
begins_with tree (Some index) w = is_word w (lexeme_at tree.lexemes.now (branch_at tree.rows.now index).first)

-- the second place is directly after the first
abbrev pub are_joined : (first second : Option TokenPlace) → Bool
are_joined (Some p) (Some q) = p.start + p.len == q.start
are_joined p q = false

-- a number for each sign that may be asked for, and 0 for all else
abbrev pub sign_number : Lexeme → ℕ
sign_number lexeme.OpenBrace = 1
sign_number lexeme.CloseBrace = 2
sign_number lexeme.OpenParen = 3
sign_number lexeme.CloseParen = 4
sign_number lexeme.OpenBracket = 5
sign_number lexeme.CloseBracket = 6
sign_number lexeme.Semicolon = 7
sign_number lexeme.Comma = 8
sign_number (lexeme.Operator o) = 10 + operator_number o
sign_number _ = 0

abbrev pub follows : (sign : ℕ) → Lexeme → Bool
follows sign l = nat_lt 0 sign && sign == sign_number l

abbrev pub is_operator : Lexeme → Bool
is_operator (lexeme.Operator o) = true
is_operator _ = false

-- the name of the function around
abbrev pub own_token : Site → ℕ
own_token s = (branch_at s.sight.tree.rows.now s.function.begin).token

abbrev pub is_own_name : Site → Option ℕ → Bool
is_own_name s None = false
is_own_name s (Some index) =
    is_same_lexeme (lexeme_at s.sight.tree.lexemes.now (branch_at s.sight.tree.rows.now index).token)
    (lexeme_at s.sight.tree.lexemes.now (own_token s))

abbrev pub is_no_close : Lexeme → Bool
is_no_close lexeme.CloseParen = false
is_no_close l = true

-- one of the names after that of the function, up to the first )
abbrev pub is_parameter : Site → Option ℕ → Bool
is_parameter s None = false
is_parameter s (Some index) =
    let name = lexeme_at s.sight.tree.lexemes.now (branch_at s.sight.tree.rows.now index).token in
    list_any (λ l. is_same_lexeme l name) (take_while is_no_close (after s.sight.tree.lexemes.now (own_token s)))

abbrev pub is_spelled : Tree → Option ℕ → (name : List ℕ) → Bool
is_spelled tree None name = false
is_spelled tree (Some index) name =
    is_named (lexeme_at tree.lexemes.now (branch_at tree.rows.now index).token) name

abbrev pub is_heading_kind : Kind → Bool
is_heading_kind (kind.Construct construct.Heading) = true
is_heading_kind _ = false

abbrev pub is_heading : Tree → Option ℕ → Bool
is_heading tree None = false
is_heading tree (Some index) = is_heading_kind (branch_at tree.rows.now index).kind

abbrev pub is_next : Tree → Option ℕ → (sign : ℕ) → Bool
is_next tree None l = false
is_next tree (Some index) l = follows l (lexeme_at tree.lexemes.now ((branch_at tree.rows.now index).last + 1))

abbrev pub within_tokens : Tree → (token : ℕ) → Bool
within_tokens tree token = nat_lt token (length tree.lexemes.now)

abbrev pub passes_test : Site → Test → Binds → Bool
passes_test s (test.Quiet hole) b = is_quiet s.sight.tree (hole_of b hole)
passes_test s (test.Compares m r n) b = compares_both (measure_of s.sight.tree m b) r (measure_of s.sight.tree n b)
passes_test s (test.Backslash hole) b = has_backslash s.sight.tree (hole_of b hole)
passes_test s (test.Begins hole w) b = begins_with s.sight.tree (hole_of b hole) w
passes_test s test.Joined b =
    let token = told_token s.sight.tree b in
    within_tokens s.sight.tree token && are_joined (place_at s.sight.tree token) (place_at s.sight.tree (token + 1))
passes_test s (test.Followed l) b =
    let token = told_token s.sight.tree b in
    within_tokens s.sight.tree token && follows l (lexeme_at s.sight.tree.lexemes.now (token + 1))
passes_test s test.AfterOperator b = is_operator (lexeme_at s.sight.tree.lexemes.now (told_token s.sight.tree b - 1))
passes_test s (test.OwnName hole) b = is_own_name s (hole_of b hole)
passes_test s (test.Parameter hole) b = is_parameter s (hole_of b hole)
passes_test s (test.Heading hole) b = is_heading s.sight.tree (hole_of b hole)
passes_test s (test.Next hole l) b = is_next s.sight.tree (hole_of b hole) l
passes_test s (test.Spelled hole bytes len) b = is_spelled s.sight.tree (hole_of b hole) (take len bytes)
passes_test s (test.Defines hole) b = begins_definition s.sight.tree (hole_of b hole)
passes_test s (test.Negative hole) b = has_negative s.sight.tree (hole_of b hole)
passes_test s (test.Inside one other) b = is_inside s.sight.tree (hole_of b one) (hole_of b other)
passes_test s (test.Precedes one other) b = comes_before s.sight.tree (hole_of b one) (hole_of b other)
passes_test s (test.Dropped hole) b = is_dropped s.sight.tree (hole_of b hole)
