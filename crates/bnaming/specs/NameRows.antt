-- Closed facts: the names of small sources, what each is, and where it is declared.
use Rattle.std.specs.Prelude.{◌≡◌, ℕ, List, [], ◌∷◌, ◌++◌, codes, map, refl, Option, None, Some}
use Rattle.std.specs.List.{filter_map}
use Rattle.bword.specs.declared.edition.Edition.{Edition}
use Rattle.bword.specs.declared.edition.Edition.TheVariants as editions
use Rattle.blang.specs.Cut.{fixed_of, greatest, keyword_of, longest, number_in, operator_of, other_of}
use Rattle.blang.specs.Cut.{whole, word_token}
use Rattle.bnaming.specs.declared.roles.Role.{Role}
use Rattle.bnaming.specs.declared.roles.Role.TheVariants as role
use Rattle.bnaming.specs.declared.rows.Content.{Content}
use Rattle.bnaming.specs.declared.rows.Content.TheVariants as content
use Rattle.bnaming.specs.declared.rows.Row.{Row}
use Rattle.bnaming.specs.Names.{bindings_of, rows_of, tokens_of}
use Rattle.bnaming.specs.Pieces.{pieces_from}

-- a name: its text, its column, what it is, and what declares it, with that one's column
abbrev Told : Type 0
Told = List ℕ × ℕ × Role × Option (Role × ℕ)

abbrev declared_by : Content → ℕ → Option (Role × ℕ)
declared_by (content.Name k name) unit = Some (k, unit)
declared_by c unit = None

abbrev declared : Option Row → Option (Role × ℕ)
declared None = None
declared (Some r) = declared_by r.content r.first.unit

abbrev told_name : Content → Row × Option Row → Option Told
told_name (content.Name k name) b = Some (name, b.0.first.unit, k, declared b.1)
told_name c b = None

abbrev told : Edition → List ℕ → List Told
told edition source =
    filter_map (λ (b : Row × Option Row). told_name b.0.content b) (bindings_of (rows_of (tokens_of edition source)))

-- a function, a parameter, automatics, a name in extrn, a label after its goto, and one that nothing defines
each_kind : map (told editions.One) (codes "f(a){auto b,c 2;extrn d;goto g;g:h(a,b,c,d,f);}" ∷ [])
    ≡ ((codes "f", 1, role.Function, Some (role.Function, 1))
    ∷ (codes "a", 3, role.Parameter, Some (role.Parameter, 3))
    ∷ (codes "b", 11, role.Automatic, Some (role.Automatic, 11))
    ∷ (codes "c", 13, role.Automatic, Some (role.Automatic, 13)) ∷ (codes "d", 23, role.Import, None)
    ∷ (codes "g", 30, role.Mention, Some (role.Label, 32)) ∷ (codes "g", 32, role.Label, Some (role.Label, 32))
    ∷ (codes "h", 34, role.Mention, None) ∷ (codes "a", 36, role.Mention, Some (role.Parameter, 3))
    ∷ (codes "b", 38, role.Mention, Some (role.Automatic, 11))
    ∷ (codes "c", 40, role.Mention, Some (role.Automatic, 13)) ∷ (codes "d", 42, role.Mention, None)
    ∷ (codes "f", 44, role.Mention, Some (role.Function, 1)) ∷ []) ∷ []
unfolding pieces_from longest greatest whole word_token keyword_of number_in operator_of other_of fixed_of
each_kind = refl

-- externals with names as initial values, before and after what these name
values : map (told editions.One) (codes "n 1,m,f;m;v[2]n,345;f(){n=m;v[m];}" ∷ [])
    ≡ ((codes "n", 1, role.External, Some (role.External, 1))
    ∷ (codes "m", 5, role.Value, Some (role.External, 9)) ∷ (codes "f", 7, role.Value, Some (role.Function, 21))
    ∷ (codes "m", 9, role.External, Some (role.External, 9))
    ∷ (codes "v", 11, role.External, Some (role.External, 11))
    ∷ (codes "n", 15, role.Value, Some (role.External, 1))
    ∷ (codes "f", 21, role.Function, Some (role.Function, 21))
    ∷ (codes "n", 25, role.Mention, Some (role.External, 1))
    ∷ (codes "m", 27, role.Mention, Some (role.External, 9))
    ∷ (codes "v", 29, role.Mention, Some (role.External, 11))
    ∷ (codes "m", 31, role.Mention, Some (role.External, 9)) ∷ []) ∷ []
unfolding pieces_from longest greatest whole word_token keyword_of number_in operator_of other_of fixed_of
values = refl

-- no definition, one, and names at the first and the last byte
first_and_last : map (told editions.One) (codes "" ∷ codes "a" ∷ codes " a;" ∷ codes "a(" ∷ codes "a;b" ∷ [])
    ≡ []
    ∷ ((codes "a", 1, role.External, Some (role.External, 1)) ∷ [])
    ∷ ((codes "a", 2, role.External, Some (role.External, 2)) ∷ [])
    ∷ ((codes "a", 1, role.Function, Some (role.Function, 1)) ∷ [])
    ∷ ((codes "a", 1, role.External, Some (role.External, 1))
    ∷ (codes "b", 3, role.External, Some (role.External, 3)) ∷ []) ∷ []
unfolding pieces_from longest greatest whole word_token keyword_of number_in operator_of other_of fixed_of
first_and_last = refl

-- a fault in the first token, in a function before a whole one, and between two
at_fault : map (told editions.One) (codes "@ f(a){a;}" ∷ codes "f(x){x=;y(}g(a){a;x;}"
    ∷ codes "f(a){a;} 5 a;g(b){b;a;}" ∷ [])
    ≡ ((codes "f", 3, role.Function, Some (role.Function, 3))
    ∷ (codes "a", 5, role.Parameter, Some (role.Parameter, 5))
    ∷ (codes "a", 8, role.Mention, Some (role.Parameter, 5)) ∷ [])
    ∷ ((codes "f", 1, role.Function, Some (role.Function, 1))
    ∷ (codes "x", 3, role.Parameter, Some (role.Parameter, 3))
    ∷ (codes "x", 6, role.Mention, Some (role.Parameter, 3)) ∷ (codes "y", 9, role.Mention, None)
    ∷ (codes "g", 12, role.Function, Some (role.Function, 12))
    ∷ (codes "a", 14, role.Parameter, Some (role.Parameter, 14))
    ∷ (codes "a", 17, role.Mention, Some (role.Parameter, 14)) ∷ (codes "x", 19, role.Mention, None) ∷ [])
    ∷ ((codes "f", 1, role.Function, Some (role.Function, 1))
    ∷ (codes "a", 3, role.Parameter, Some (role.Parameter, 3))
    ∷ (codes "a", 6, role.Mention, Some (role.Parameter, 3))
    ∷ (codes "a", 12, role.Mention, None)
    ∷ (codes "g", 14, role.Function, Some (role.Function, 14))
    ∷ (codes "b", 16, role.Parameter, Some (role.Parameter, 16))
    ∷ (codes "b", 19, role.Mention, Some (role.Parameter, 16)) ∷ (codes "a", 21, role.Mention, None) ∷ []) ∷ []
unfolding pieces_from longest greatest whole word_token keyword_of number_in operator_of other_of fixed_of
at_fault = refl

-- names that are declared in several functions, and for the whole source, too
own_names : map (told editions.One) (codes "f(a){a;}g(a){auto f;f=a;}a(){f(a);}" ∷ [])
    ≡ ((codes "f", 1, role.Function, Some (role.Function, 1))
    ∷ (codes "a", 3, role.Parameter, Some (role.Parameter, 3))
    ∷ (codes "a", 6, role.Mention, Some (role.Parameter, 3))
    ∷ (codes "g", 9, role.Function, Some (role.Function, 9))
    ∷ (codes "a", 11, role.Parameter, Some (role.Parameter, 11))
    ∷ (codes "f", 19, role.Automatic, Some (role.Automatic, 19))
    ∷ (codes "f", 21, role.Mention, Some (role.Automatic, 19))
    ∷ (codes "a", 23, role.Mention, Some (role.Parameter, 11))
    ∷ (codes "a", 26, role.Function, Some (role.Function, 26))
    ∷ (codes "f", 30, role.Mention, Some (role.Function, 1))
    ∷ (codes "a", 32, role.Mention, Some (role.Function, 26)) ∷ []) ∷ []
unfolding pieces_from longest greatest whole word_token keyword_of number_in operator_of other_of fixed_of
own_names = refl

-- a word that is a keyword of the other edition alone
first_keywords : map (told editions.One) (codes "f(break){break;}" ∷ [])
    ≡ ((codes "f", 1, role.Function, Some (role.Function, 1))
    ∷ (codes "break", 3, role.Parameter, Some (role.Parameter, 3))
    ∷ (codes "break", 10, role.Mention, Some (role.Parameter, 3)) ∷ []) ∷ []
unfolding pieces_from longest greatest whole word_token keyword_of number_in operator_of other_of fixed_of
first_keywords = refl

-- the same in that edition
second_keywords : map (told editions.Two) (codes "f(break){break;}" ∷ [])
    ≡ ((codes "f", 1, role.Function, Some (role.Function, 1)) ∷ []) ∷ []
unfolding pieces_from longest greatest whole word_token keyword_of number_in operator_of other_of fixed_of
second_keywords = refl

-- columns in units of UTF-16 after characters of two, four and three bytes
after_characters : map (told editions.One) ((codes "/*" ++ (195 ∷ 169 ∷ 240 ∷ 144 ∷ 128 ∷ 128 ∷ 226 ∷ 130 ∷ 172
    ∷ []) ++ codes "*/f(){a;}") ∷ [])
    ≡ ((codes "f", 9, role.Function, Some (role.Function, 9)) ∷ (codes "a", 13, role.Mention, None) ∷ []) ∷ []
unfolding pieces_from longest greatest whole word_token keyword_of number_in operator_of other_of fixed_of
after_characters = refl

-- names that are declared twice, of which the first counts
declared_twice : map (told editions.One) (codes "f(){auto a;a:a();}f(){}a;" ∷ [])
    ≡ ((codes "f", 1, role.Function, Some (role.Function, 1))
    ∷ (codes "a", 10, role.Automatic, Some (role.Automatic, 10))
    ∷ (codes "a", 12, role.Label, Some (role.Automatic, 10))
    ∷ (codes "a", 14, role.Mention, Some (role.Automatic, 10))
    ∷ (codes "f", 19, role.Function, Some (role.Function, 1))
    ∷ (codes "a", 24, role.External, Some (role.External, 24)) ∷ []) ∷ []
unfolding pieces_from longest greatest whole word_token keyword_of number_in operator_of other_of fixed_of
declared_twice = refl

-- a definition ends with its construct: an auto, a block, a label and a } after it, and one without braces
after_definitions : map (told editions.One) (codes "f(){g();} auto g;" ∷ codes "f(a){if(a){a;}a;}{a;}"
    ∷ codes "f(){a:;}g(){goto a;}" ∷ codes "f(a){a;}}a(){a;}" ∷ codes "f(a)a;a;" ∷ codes "f(a){a;" ∷ [])
    ≡ ((codes "f", 1, role.Function, Some (role.Function, 1)) ∷ (codes "g", 5, role.Mention, None)
    ∷ (codes "g", 16, role.Automatic, Some (role.Automatic, 16)) ∷ [])
    ∷ ((codes "f", 1, role.Function, Some (role.Function, 1))
    ∷ (codes "a", 3, role.Parameter, Some (role.Parameter, 3))
    ∷ (codes "a", 9, role.Mention, Some (role.Parameter, 3))
    ∷ (codes "a", 12, role.Mention, Some (role.Parameter, 3))
    ∷ (codes "a", 15, role.Mention, Some (role.Parameter, 3)) ∷ (codes "a", 19, role.Mention, None) ∷ [])
    ∷ ((codes "f", 1, role.Function, Some (role.Function, 1)) ∷ (codes "a", 5, role.Label, Some (role.Label, 5))
    ∷ (codes "g", 9, role.Function, Some (role.Function, 9)) ∷ (codes "a", 18, role.Mention, None) ∷ [])
    ∷ ((codes "f", 1, role.Function, Some (role.Function, 1))
    ∷ (codes "a", 3, role.Parameter, Some (role.Parameter, 3))
    ∷ (codes "a", 6, role.Mention, Some (role.Parameter, 3))
    ∷ (codes "a", 10, role.Function, Some (role.Function, 10))
    ∷ (codes "a", 14, role.Mention, Some (role.Function, 10)) ∷ [])
    ∷ ((codes "f", 1, role.Function, Some (role.Function, 1))
    ∷ (codes "a", 3, role.Parameter, Some (role.Parameter, 3))
    ∷ (codes "a", 5, role.Mention, Some (role.Parameter, 3))
    ∷ (codes "a", 7, role.External, Some (role.External, 7)) ∷ [])
    ∷ ((codes "f", 1, role.Function, Some (role.Function, 1))
    ∷ (codes "a", 3, role.Parameter, Some (role.Parameter, 3))
    ∷ (codes "a", 6, role.Mention, Some (role.Parameter, 3)) ∷ []) ∷ []
unfolding pieces_from longest greatest whole word_token keyword_of number_in operator_of other_of fixed_of
after_definitions = refl
