-- Closed facts: the names of the functions of whole sources and the words of their frames, a source a row.
use Rattle.std.specs.Prelude.{◌≡◌, ℕ, List, [], ◌∷◌, flat_map, map, codes, true, false}
use Rattle.bword.specs.declared.edition.Edition.{Edition}
use Rattle.bword.specs.declared.edition.Edition.TheVariants as editions
use Rattle.blang.specs.Cut.{tokens_from}
use Rattle.blang.specs.Trees.{Definition}
use Rattle.blang.specs.Scan.{Entry, NameKind, Automatic, External, Labelled}
use Rattle.bgrammar.specs.LineRows.{definitions_in}
use Rattle.bparse.specs.Locals.{NamedWord, frames_in, locals_of}

-- a source, and the named words of each of its functions
abbrev pub Row : Type 0
Row = List ℕ × List (List NamedWord)

-- the definitions of a source, at most three
abbrev pub three_of : Edition → List ℕ → List Definition
three_of edition source = definitions_in 3 (tokens_from edition 1 source)

abbrev pub AllNamed : Edition → List Row → Type 0
AllNamed edition rows =
    map (λ (row : Row). flat_map frames_in (three_of edition row.0)) rows ≡ map (λ (row : Row). row.1) rows

abbrev plain : List ℕ → ℕ → NamedWord
plain name offset = record { name = name; offset = offset; is_vector = false }

abbrev vector : List ℕ → ℕ → NamedWord
vector name offset = record { name = name; offset = offset; is_vector = true }

abbrev pub named : List Row
named =
    -- externals, and a function without names
    (codes "n 5;", [])
    ∷ (codes "v[2] 1, 2;", [])
    ∷ (codes "f();", [] ∷ [])
    -- parameters alone
    ∷ (codes "f(a);", (plain (codes "a") 0 ∷ []) ∷ [])
    ∷ (codes "f(a, b, c);", (plain (codes "a") 0 ∷ plain (codes "b") 1 ∷ plain (codes "c") 2 ∷ []) ∷ [])
    -- automatics, after the parameters, and wherever they stand
    ∷ (codes "f() { auto x, y; ; }", (plain (codes "x") 0 ∷ plain (codes "y") 1 ∷ []) ∷ [])
    ∷ (codes "f(a) { auto x; x = a; }", (plain (codes "a") 0 ∷ plain (codes "x") 1 ∷ []) ∷ [])
    ∷ (codes "f() { { auto x; ; } auto y; ; }", (plain (codes "x") 0 ∷ plain (codes "y") 1 ∷ []) ∷ [])
    -- a vector takes its own word, and a word more than its constant says
    ∷ (codes "f() { auto v 0, i; ; }", (vector (codes "v") 0 ∷ plain (codes "i") 2 ∷ []) ∷ [])
    ∷ (codes "f() { auto v 3, i; ; }", (vector (codes "v") 0 ∷ plain (codes "i") 5 ∷ []) ∷ [])
    ∷ (codes "f(a) { auto i, v 1; ; }", (plain (codes "a") 0 ∷ plain (codes "i") 1 ∷ vector (codes "v") 2 ∷ []) ∷ [])
    ∷ (codes "f() { auto v 1, w 1; ; }", (vector (codes "v") 0 ∷ vector (codes "w") 3 ∷ []) ∷ [])
    -- what is beside them takes no word
    ∷ (codes "f(a) { extrn n; auto x; L: goto L; g(n); }", (plain (codes "a") 0 ∷ plain (codes "x") 1 ∷ []) ∷ [])
    ∷ (codes "f() { extrn x; goto L; auto i; L: ; }", (plain (codes "i") 0 ∷ []) ∷ [])
    -- one function after another; a name stands for a word of its own function
    ∷ (codes "f(a); n; g(b, a);", (plain (codes "a") 0 ∷ []) ∷ (plain (codes "b") 0 ∷ plain (codes "a") 1 ∷ []) ∷ [])
    -- words that are keywords of the other edition
    ∷ (codes "f(break) { auto default; ; }", (plain (codes "break") 0 ∷ plain (codes "default") 1 ∷ []) ∷ [])
    ∷ []

abbrev pub named_of_two : List Row
named_of_two =
    (codes "f(break);", [])
    ∷ (
      codes "f(a) { auto v 1, i; while(a) break; }",
      (plain (codes "a") 0 ∷ vector (codes "v") 1 ∷ plain (codes "i") 4 ∷ []) ∷ [],
    )
    ∷ (codes "f(a) switch a { default: ; }", (plain (codes "a") 0 ∷ []) ∷ [])
    ∷ []

abbrev entry : List ℕ → NameKind → Entry
entry name kind = record { name = name; kind = kind }

-- the whole table, in the order in which names were first seen
abbrev pub HasTable : Type 0
HasTable = map locals_of (three_of editions.One (codes "f(a) { extrn n; goto L; auto v 2; L: M: g(n); } x 1;"))
    ≡ record {
      is_function = true;
      names = entry (codes "a") (Automatic 0) ∷ entry (codes "n") External ∷ entry (codes "L") (Labelled 0)
          ∷ entry (codes "v") (Automatic 1) ∷ entry (codes "M") (Labelled 1) ∷ entry (codes "g") External ∷ [];
      frame = 5;
    } ∷ record { is_function = false; names = []; frame = 0 } ∷ []
