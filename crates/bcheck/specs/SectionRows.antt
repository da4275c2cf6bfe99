-- Closed facts: where the sections of a source begin, and what is told of them.
use Rattle.std.specs.Prelude.{◌≡◌, ℕ, ◌+◌, ◌-◌, List, [], ◌∷◌, ◌++◌, codes, length, map, replicate, take}
use Rattle.std.specs.Prelude.{None, Option, Some, refl, true, false}
use Rattle.bword.specs.declared.edition.Edition.{Edition}
use Rattle.bword.specs.declared.edition.Edition.TheVariants as editions
use Rattle.blang.specs.declared.token.Diagnostic.{Diagnostic}
use Rattle.blang.specs.declared.token.Letters.TheVariants as letters
use Rattle.blang.specs.declared.run.LoadFault.{LoadFault}
use Rattle.blang.specs.declared.run.LoadFault.TheVariants as fault
use Rattle.blang.specs.Cut.{fixed_of, greatest, keyword_of, longest, number_in, operator_of, other_of, whole}
use Rattle.blang.specs.Cut.{word_token}
use Rattle.blex.specs.declared.lexeme.Lexeme.{Lexeme}
use Rattle.blex.specs.declared.lexeme.Lexeme.TheVariants as lexeme
use Rattle.blex.specs.declared.scanner.PlacedPiece.{PlacedPiece}
use Rattle.bsources.specs.Files.{Files}
use Rattle.bcheck.specs.Checks.{FindingParts, IsFurther, IsOfSection, IsOfSections, Outcome, StandsOn, TellsSection}
use Rattle.bcheck.specs.Checks.{diagnostic_code}
use Rattle.bcheck.specs.Counts.{IsCountFrom, IsCountOfWarnings, IsTallyOf}
use Rattle.bcheck.specs.Sections.{Section, at_fault, head_after, is_first_column, is_in_head, opened, places_from}
use Rattle.bcheck.specs.Sections.{section_places, sections_at}
use Rattle.bcheck.specs.UndefinedNames.{told_subjects}
use Rattle.bcheck.specs.declared.finding.TheConstants.{MOST_FINDINGS}

-- names, commas, parentheses and comments
in_heads : map is_in_head (None ∷ map Some (lexeme.Name (codes "f") ∷ lexeme.Comma ∷ lexeme.OpenParen
    ∷ lexeme.CloseParen ∷ lexeme.OpenBrace ∷ lexeme.Semicolon ∷ lexeme.Colon ∷ lexeme.Number 1
    ∷ lexeme.Bad letters.Character ∷ lexeme.End ∷ []))
    ≡ true ∷ true ∷ true ∷ true ∷ true ∷ false ∷ false ∷ false ∷ false ∷ false ∷ false ∷ []
in_heads = refl

first_columns : map (is_first_column (codes "a\nb")) (0 ∷ 1 ∷ 2 ∷ 3 ∷ []) ≡ true ∷ false ∷ true ∷ false ∷ []
first_columns = refl

-- a token of a byte
abbrev token_at : Lexeme → (line first : ℕ) → PlacedPiece
token_at l line first = record { lexeme = Some l; line = line; first = first; end = first + 1 }

-- A head begins with a name in the first column of a line after the third one. It goes on after what may be in one.
heads : map (head_after 3 (codes "a\nb") None) (token_at (lexeme.Name (codes "b")) 4 2
    ∷ token_at (lexeme.Name (codes "a")) 4 1 ∷ token_at (lexeme.Name (codes "b")) 3 2 ∷ token_at lexeme.Comma 4 2 ∷ [])
    ≡ Some 2 ∷ None ∷ None ∷ None ∷ []
heads = refl

heads_go_on : map (head_after 3 (codes "a\nb") (Some 0)) (token_at (lexeme.Name (codes "b")) 4 2
    ∷ token_at lexeme.OpenParen 2 1 ∷ token_at lexeme.Semicolon 4 2 ∷ token_at lexeme.OpenBrace 4 2 ∷ [])
    ≡ Some 0 ∷ Some 0 ∷ None ∷ None ∷ []
heads_go_on = refl

opened_heads : opened (Some 5) (Some lexeme.OpenBrace) ++ opened None (Some lexeme.OpenBrace)
    ++ opened (Some 6) (Some lexeme.CloseBrace) ++ opened (Some 7) None ≡ 5 ∷ []
opened_heads = refl

-- the functions f and k, and not g after a blank and h in a comment, each after its own line no more
found_heads : map (λ line. section_places editions.One line (codes "a(\nf(x){\n}\n g(){\n/*\nh(){*/\nk()\n{"))
    (1 ∷ 2 ∷ 6 ∷ 7 ∷ [])
    ≡ (3 ∷ 27 ∷ []) ∷ (27 ∷ []) ∷ (27 ∷ []) ∷ [] ∷ []
unfolding places_from longest greatest whole word_token keyword_of number_in operator_of other_of fixed_of
found_heads = refl

-- a head with types, and one after wrong bytes
other_heads : section_places editions.Two 1 (codes ";\nint f(int a){\n@#\ng(){") ≡ 2 ∷ 19 ∷ []
unfolding places_from longest greatest whole word_token keyword_of number_in operator_of other_of fixed_of
other_heads = refl

-- calls, words of loops and labels
no_heads : section_places editions.Two 1 (codes ";\nf(x);\nwhile(x){\nl:{\nf(1){") ≡ []
unfolding places_from longest greatest whole word_token keyword_of number_in operator_of other_of fixed_of
no_heads = refl

after_returns : section_places editions.Two 1 (codes ";" ++ (13 ∷ codes "\nf(){")) ≡ []
after_returns = refl

-- each section goes up to the next one, the last to the end
sections_of_places : sections_at (codes "ab\ncd\nef") (3 ∷ 6 ∷ [])
    ≡ record { before = codes "ab\n"; text = codes "cd\n" }
    ∷ record { before = codes "ab\ncd\n"; text = codes "ef" } ∷ []
sections_of_places = refl

-- those at fault, each with its own fault, in order
two_of_three : (a b c : Section) (d e : Diagnostic)
    → at_fault (a ∷ b ∷ c ∷ []) (Some d ∷ None ∷ Some e ∷ []) ≡ (a, d) ∷ (c, e) ∷ []
two_of_three a b c d e = refl

hundredth : map (λ n. length {A = ℕ} (take (MOST_FINDINGS - 1) (replicate n 0))) (98 ∷ 99 ∷ 100 ∷ [])
    ≡ 98 ∷ 99 ∷ 99 ∷ []
hundredth = refl

-- nothing is told after no diagnostic, and after one just what is told of the sections
further_of_none : (edition : Edition) (source : List ℕ) (further : List (FindingParts source))
    → IsFurther edition None further → further ≡ []
further_of_none edition source further = λ is. is

further_of_one : (edition : Edition) (source : List ℕ) (d : Diagnostic) (further : List (FindingParts source))
    → IsFurther edition (Some d) further → IsOfSections (TellsSection edition) edition d.line source further
further_of_one edition source d further = λ is. is

-- a finding of a section has the code of the diagnostic, and stands in the section as the diagnostic does
of_section : (edition : Edition) (s : Section) (d : Diagnostic) (code before : List ℕ)
    (is : IsOfSection edition (s, d) code before)
    → (before ≡ s.before ++ is.0) × (code ≡ diagnostic_code d) × StandsOn edition d.line is.0 is.1
of_section edition s d code before is = (is.3, is.4.0, is.4.1)

-- how many are told of a fault: it, and so many after it; of data that are too many, of names, and of what loads
counted : map (λ n. 1 + length {A = ℕ} (take (MOST_FINDINGS - 1) (replicate n 0))) (0 ∷ 1 ∷ 98 ∷ 99 ∷ 100 ∷ [])
    ≡ 1 ∷ 2 ∷ 99 ∷ 100 ∷ 100 ∷ []
counted = refl

count_alone : (count : ℕ) → IsCountFrom editions.Two 1 (codes ";") count → count ≡ 1
unfolding places_from longest greatest whole word_token keyword_of number_in operator_of other_of fixed_of
count_alone count h = h.2

tally_of_fault : (o : Outcome) (files : Files) (d : Diagnostic) (f : Option LoadFault) (count : ℕ)
    → IsTallyOf o files (Some d) f count → IsCountFrom o.edition d.line o.source count
tally_of_fault o files d f count h = h

tally_of_data : (o : Outcome) (files : Files) (count : ℕ) → IsTallyOf o files None (Some fault.TooLarge) count
    → count ≡ 1
tally_of_data o files count h = h

tally_of_names : (o : Outcome) (files : Files) (name : List ℕ) (count : ℕ)
    → IsTallyOf o files None (Some (fault.Undefined name)) count → count ≡ length (told_subjects o.definitions)
tally_of_names o files name count h = h

tally_of_program : (o : Outcome) (files : Files) (count : ℕ) → IsTallyOf o files None None count
    → IsCountOfWarnings o.edition files o.source count
tally_of_program o files count h = h

tally_without_main : (o : Outcome) (files : Files) (count : ℕ) → IsTallyOf o files None (Some fault.NoMain) count
    → IsCountOfWarnings o.edition files o.source count
tally_without_main o files count h = h
