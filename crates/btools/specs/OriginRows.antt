-- Closed facts: the lines of the places of code texts, files of lines, and what stands beside the lines of a program.
use Rattle.std.specs.Prelude.{◌≡◌, ℕ, List, [], ◌∷◌, ◌++◌, codes, map, refl, Option, Some, None}
use Rattle.std.specs.Fmt.{digits}
use Rattle.bword.specs.declared.edition.Edition.TheVariants as editions
use Rattle.blang.specs.declared.code.Definition.{Definition}
use Rattle.blang.specs.declared.code.Definition.TheVariants as definition
use Rattle.blang.specs.declared.code.Instr.TheVariants as instr
use Rattle.blang.specs.declared.code.Ival.TheVariants as ival
use Rattle.bauthor.specs.declared.fault.LineWanted.TheVariants as wanted
use Rattle.btools.specs.Origins.{Code, Source, beside}
use Rattle.btools.specs.PlaceLines.{CodeText, HasPlaceColumns, HasPlaceLines, HasWrongLine, last_in, lines_before}
use Rattle.btools.specs.PlaceLines.{place_lines, unlined_line}

-- X n 2 1, c 1, s 0, w 4
abbrev an_external : Definition
an_external =
    definition.Simple (record { name = codes "n"; values = ival.Number 1 ∷ ival.Text 0 ∷ []; strings = 4 ∷ [] })

-- V v 4 1 0, c 3
abbrev a_vector : Definition
a_vector = definition.Vector (record { name = codes "v"; words = 4; values = ival.Number 3 ∷ []; strings = [] })

-- F f 0 0 2 1 3, t 0, t 2, w 4, v, w, p
abbrev a_function : Definition
a_function = definition.Function (record {
  name = codes "f";
  parameters = 0;
  frame = 0;
  targets = 0 ∷ 2 ∷ [];
  strings = 4 ∷ [];
  code = instr.Load ∷ instr.Store ∷ instr.Pop ∷ [];
})

-- a definition without places
abbrev no_values : Definition
no_values = definition.Simple (record { name = codes "m"; values = []; strings = [] })

lines_of_each : map (λ d. place_lines 0 (d ∷ [])) (an_external ∷ a_vector ∷ a_function ∷ no_values ∷ [])
    ≡ (2 ∷ 3 ∷ []) ∷ (2 ∷ []) ∷ (5 ∷ 6 ∷ 7 ∷ []) ∷ [] ∷ []
lines_of_each = refl

-- each after the lines of those before it
lines_of_all : place_lines 1 (an_external ∷ no_values ∷ a_function ∷ a_vector ∷ [])
    ≡ 3 ∷ 4 ∷ 11 ∷ 12 ∷ 13 ∷ 15 ∷ []
lines_of_all = refl

no_definitions : place_lines 1 [] ≡ []
no_definitions = refl

-- a text of each edition, and texts whose first line isn't `B 2`
editions_told : map lines_before
    (codes "B 2\nE\n" ∷ codes "E\n" ∷ codes "B 1\nE\n" ∷ codes "X n 0 0\nB 2\nE\n" ∷ [] ∷ [])
    ≡ 1 ∷ 0 ∷ 0 ∷ 0 ∷ 0 ∷ []
editions_told = refl

unlined_told : unlined_line 3 (wanted.Number 2 (codes "main") 12)
    ≡ codes "error: line 3 of the file of lines has to be a number from 0 to 2, alone or with a column of it"
    ++ codes ", for place 12 of main\n"
unfolding digits
unlined_told = refl

end_told : unlined_line 12 wanted.End ≡ codes "error: line 12 of the file of lines has to be its end\n"
unfolding digits
end_told = refl

-- no source, an empty one, and one with and without a newline at its end
last_lines : map last_in
    (None ∷ Some [] ∷ Some (codes "a\nb") ∷ Some (codes "a\nb\n") ∷ Some (codes "\n") ∷ Some (codes "\n\n") ∷ [])
    ≡ 18446744073709551615 ∷ 1 ∷ 2 ∷ 2 ∷ 1 ∷ 2 ∷ []
last_lines = refl

-- a file of lines, where the source isn't known, and where it has two lines
abbrev text_of : (source : Option (List ℕ)) → CodeText
text_of source = record { code = codes "V v 1 1 0\nc 3\nE\n"; lines = Some (codes "3\n"); source = source; names = None }

lines_without : HasPlaceLines (text_of None) (a_vector ∷ []) (3 ∷ [])
unfolding digits
lines_without = (record { line = 3; column = None } ∷ [], refl, refl)

-- a column that is told, and one that isn't
abbrev told_columns : CodeText
told_columns =
    record { code = []; lines = Some (codes "2 3\n1\n"); source = Some (codes "a\nbc"); names = None }

columns_told : HasPlaceColumns told_columns (a_vector ∷ a_vector ∷ []) (3 ∷ 0 ∷ [])
unfolding digits
columns_told = (record { line = 2; column = Some 3 } ∷ record { line = 1; column = None } ∷ [], refl, refl)

lines_beyond : HasWrongLine (text_of (Some (codes "a\nb\n"))) (a_vector ∷ []) 1 (wanted.Number 2 (codes "v") 0)
unfolding digits
lines_beyond = refl

-- a source, a code text by itself, and one with lines of a source
what_stands_beside : map (λ o. beside o (codes "a"))
    (Source editions.Two ∷ Code (record { code = codes "E\n"; lines = None; source = None; names = None })
    ∷ Code (record { code = codes "E\n"; lines = Some []; source = Some (codes "a"); names = None }) ∷ [])
    ≡ codes "a" ∷ [] ∷ codes "a" ∷ []
what_stands_beside = refl
