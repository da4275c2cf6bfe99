-- Closed facts: the lines of the code of whole sources, a source a row. A blank in a row is a newline, so the number of
-- a token is its line.
use Rattle.std.specs.Prelude.{◌≡◌, ℕ, zero, suc, ◌==◌, List, [], ◌∷◌, map, codes, if◌then◌else◌}
use Rattle.bword.specs.declared.edition.Edition.{Edition}
use Rattle.bword.specs.declared.edition.Edition.TheVariants as editions
use Rattle.blang.specs.declared.token.Placed.{Placed}
use Rattle.blang.specs.Cut.{tokens_from}
use Rattle.blang.specs.Trees.{Definition}
use Rattle.blang.specs.Lines.{program_lines, lines_after}
use Rattle.bgrammar.specs.Reading.{Read, Got, Stop}
use Rattle.bgrammar.specs.DefinitionReader.{definition}

-- a source, and the lines of its instructions and initial values, one definition after another
abbrev pub Row : Type 0
Row = List ℕ × List ℕ

abbrev pub apart : List ℕ → List ℕ
apart source = map (λ c. if c == 32 then 10 else c) source

-- the definitions of tokens, of which there are at most so many
abbrev pub first_and_others : (others : List Placed → List Definition) → Read Definition → List Definition
first_and_others others (Got d rest) = d ∷ others rest
first_and_others others (Stop rest) = []

abbrev pub definitions_in : ℕ → List Placed → List Definition
definitions_in zero tokens = []
definitions_in (suc n) tokens = first_and_others (definitions_in n) (definition tokens)

abbrev pub lines_by : (List Definition → List ℕ → List ℕ) → ℕ → Edition → List ℕ → List ℕ
lines_by lines n edition source =
    let tokens = tokens_from edition 1 (apart source) in lines (definitions_in n tokens) (map (λ t. t.line) tokens)

abbrev pub lines_in : Edition → Row → List ℕ
lines_in edition row = lines_by program_lines 3 edition row.0

abbrev pub AllLined : Edition → List Row → Type 0
AllLined edition rows = map (lines_in edition) rows ≡ map (λ (row : Row). row.1) rows

abbrev pub lined : List Row
lined =
    -- initial values
    (codes "n 5 , 'a' , m ;", 2 ∷ 4 ∷ 6 ∷ [])
    ∷ (codes "n ;", [])
    ∷ (codes "v [ 2 ] \"ab\" , 1 ;", 5 ∷ 7 ∷ [])
    ∷ (codes "v [ ] m ;", 4 ∷ [])
    -- a body, and the return after it
    ∷ (codes "f ( ) ;", 4 ∷ 4 ∷ [])
    ∷ (codes "f ( ) { }", 5 ∷ 5 ∷ [])
    ∷ (codes "f ( ) { ; }", 6 ∷ 6 ∷ [])
    ∷ (codes "f ( ) { { ; } }", 8 ∷ 8 ∷ [])
    ∷ (codes "f ( a , b ) ;", 7 ∷ 7 ∷ [])
    -- one definition after another
    ∷ (codes "f ( ) ; n 7 ; g ( ) ;", 4 ∷ 4 ∷ 6 ∷ 11 ∷ 11 ∷ [])
    ∷ (codes "n ; v [ 1 ] 2 , 3 ; f ( a ) a ( ) ;", 7 ∷ 9 ∷ 15 ∷ 15 ∷ 15 ∷ 15 ∷ 15 ∷ 15 ∷ [])
    -- names, constants, strings, labels
    ∷ (codes "f ( a ) { a ; }", 6 ∷ 6 ∷ 6 ∷ 8 ∷ 8 ∷ [])
    ∷ (codes "f ( ) 5 ;", 4 ∷ 4 ∷ 4 ∷ 4 ∷ [])
    ∷ (codes "f ( ) 'a' ;", 4 ∷ 4 ∷ 4 ∷ 4 ∷ [])
    ∷ (codes "f ( ) \"ab\" ;", 4 ∷ 4 ∷ 4 ∷ 4 ∷ [])
    ∷ (codes "f ( ) { extrn x , y ; x ; L : goto L ; }", 10 ∷ 10 ∷ 10 ∷ 15 ∷ 15 ∷ 17 ∷ 17 ∷ [])
    -- vectors in auto
    ∷ (codes "f ( ) { auto v 1 , i , w 2 ; i ; }", 6 ∷ 6 ∷ 6 ∷ 6 ∷ 11 ∷ 11 ∷ 11 ∷ 11 ∷ 14 ∷ 14 ∷ 14 ∷ 16 ∷ 16 ∷ [])
    -- what stands in parentheses and brackets; calls
    ∷ (codes "f ( a ) ( a ) ;", 6 ∷ 6 ∷ 6 ∷ 6 ∷ 6 ∷ [])
    ∷ (codes "f ( a ) a [ 2 ] ;", 5 ∷ 5 ∷ 7 ∷ 7 ∷ 7 ∷ 7 ∷ 7 ∷ 7 ∷ [])
    ∷ (codes "f ( a ) a ( ) ;", 5 ∷ 5 ∷ 5 ∷ 5 ∷ 5 ∷ 5 ∷ [])
    ∷ (codes "f ( a ) a ( 1 , a [ 2 ] ) ;", 5 ∷ 5 ∷ 7 ∷ 9 ∷ 9 ∷ 11 ∷ 11 ∷ 11 ∷ 11 ∷ 11 ∷ 11 ∷ 11 ∷ [])
    ∷ (codes "f ( ) g ( 1 ) ;", 4 ∷ 4 ∷ 6 ∷ 6 ∷ 6 ∷ 6 ∷ 6 ∷ [])
    ∷ (codes "f ( a ) a ( 1 , 2 , 3 ) ;", 5 ∷ 5 ∷ 7 ∷ 9 ∷ 11 ∷ 11 ∷ 11 ∷ 11 ∷ 11 ∷ [])
    -- operators
    ∷ (codes "f ( a ) - a ;", 6 ∷ 5 ∷ 5 ∷ 5 ∷ 5 ∷ 5 ∷ [])
    ∷ (codes "f ( a ) ! a ;", 6 ∷ 5 ∷ 5 ∷ 5 ∷ 5 ∷ 5 ∷ [])
    ∷ (codes "f ( a ) * a ;", 6 ∷ 5 ∷ 5 ∷ 5 ∷ 5 ∷ 5 ∷ [])
    ∷ (codes "f ( a ) & a ;", 6 ∷ 5 ∷ 5 ∷ 5 ∷ [])
    ∷ (codes "f ( a ) ++ a ;", 6 ∷ 5 ∷ 5 ∷ 5 ∷ 5 ∷ [])
    ∷ (codes "f ( a ) -- a ;", 6 ∷ 5 ∷ 5 ∷ 5 ∷ 5 ∷ [])
    ∷ (codes "f ( a ) a ++ ;", 5 ∷ 6 ∷ 6 ∷ 6 ∷ 6 ∷ [])
    ∷ (codes "f ( a ) a -- ;", 5 ∷ 6 ∷ 6 ∷ 6 ∷ 6 ∷ [])
    ∷ (codes "f ( a ) - - a ;", 7 ∷ 6 ∷ 6 ∷ 5 ∷ 5 ∷ 5 ∷ 5 ∷ [])
    -- operators beside an address in brackets or parentheses, of an external and of what a word points to
    ∷ (codes "f ( a ) a [ 2 ] ++ ;", 5 ∷ 5 ∷ 7 ∷ 7 ∷ 9 ∷ 9 ∷ 9 ∷ 9 ∷ [])
    ∷ (codes "f ( a ) ( a ) ++ ;", 6 ∷ 8 ∷ 8 ∷ 8 ∷ 8 ∷ [])
    ∷ (codes "f ( a ) & a [ 2 ] ;", 6 ∷ 6 ∷ 8 ∷ 8 ∷ 5 ∷ 5 ∷ 5 ∷ [])
    ∷ (codes "f ( a ) * * a ;", 7 ∷ 6 ∷ 5 ∷ 5 ∷ 5 ∷ 5 ∷ 5 ∷ [])
    ∷ (codes "f ( a ) ++ * a ;", 7 ∷ 6 ∷ 5 ∷ 5 ∷ 5 ∷ 5 ∷ [])
    ∷ (codes "f ( ) { extrn x ; x = - x ; }", 8 ∷ 11 ∷ 10 ∷ 10 ∷ 10 ∷ 10 ∷ 13 ∷ 13 ∷ [])
    ∷ (codes "f ( ) { L : - L ; }", 8 ∷ 7 ∷ 7 ∷ 10 ∷ 10 ∷ [])
    ∷ (codes "f ( a ) - a ( ) ;", 6 ∷ 6 ∷ 6 ∷ 5 ∷ 5 ∷ 5 ∷ 5 ∷ [])
    ∷ (codes "f ( a ) - ( 1 + 2 ) ;", 7 ∷ 9 ∷ 9 ∷ 5 ∷ 5 ∷ 5 ∷ 5 ∷ [])
    ∷ (codes "f ( a ) a < 2 ;", 5 ∷ 5 ∷ 7 ∷ 7 ∷ 7 ∷ 7 ∷ 7 ∷ [])
    ∷ (codes "f ( a ) 1 + 2 * a ;", 5 ∷ 7 ∷ 9 ∷ 9 ∷ 9 ∷ 9 ∷ 9 ∷ 9 ∷ 9 ∷ [])
    ∷ (codes "f ( a ) a = 2 ;", 5 ∷ 7 ∷ 7 ∷ 7 ∷ 7 ∷ 7 ∷ [])
    ∷ (codes "f ( a , b ) a =+ - b ++ ;", 7 ∷ 10 ∷ 11 ∷ 9 ∷ 9 ∷ 9 ∷ 9 ∷ 9 ∷ [])
    ∷ (codes "f ( a ) * a = & a ;", 6 ∷ 5 ∷ 9 ∷ 8 ∷ 8 ∷ 8 ∷ 8 ∷ [])
    ∷ (codes "f ( a ) a ? 1 : a < 2 ;", 5 ∷ 5 ∷ 5 ∷ 7 ∷ 7 ∷ 9 ∷ 9 ∷ 11 ∷ 11 ∷ 11 ∷ 11 ∷ 11 ∷ [])
    -- statements
    ∷ (codes "f ( a ) if ( a ) ;", 7 ∷ 7 ∷ 7 ∷ 9 ∷ 9 ∷ [])
    ∷ (codes "f ( a ) if ( a ) ; else return ;", 7 ∷ 7 ∷ 7 ∷ 9 ∷ 11 ∷ 11 ∷ 11 ∷ 11 ∷ [])
    ∷ (codes "f ( a ) if ( a ) { } else { }", 7 ∷ 7 ∷ 7 ∷ 10 ∷ 13 ∷ 13 ∷ [])
    ∷ (codes "f ( a ) while ( a ) { a ; }", 7 ∷ 7 ∷ 7 ∷ 10 ∷ 10 ∷ 10 ∷ 5 ∷ 5 ∷ 5 ∷ [])
    ∷ (codes "f ( ) while ( 1 ) ;", 6 ∷ 6 ∷ 4 ∷ 4 ∷ 4 ∷ [])
    ∷ (codes "f ( a ) switch a { case 1 : a ; }", 6 ∷ 6 ∷ 6 ∷ 11 ∷ 11 ∷ 11 ∷ 5 ∷ 5 ∷ 5 ∷ 5 ∷ 5 ∷ [])
    ∷ (codes "f ( ) switch 1 { }", 5 ∷ 5 ∷ 4 ∷ 4 ∷ 4 ∷ 4 ∷ [])
    ∷ (codes "f ( ) { while ( 1 ) switch 2 { case 3 : ; } ; }", 7 ∷ 7 ∷ 10 ∷ 10 ∷ 9 ∷ 9 ∷ 9 ∷ 5 ∷ 18 ∷ 18 ∷ [])
    ∷ (codes "f ( ) return ;", 4 ∷ 4 ∷ 4 ∷ 4 ∷ [])
    ∷ (codes "f ( ) return ( 5 ) ;", 6 ∷ 6 ∷ 6 ∷ 6 ∷ [])
    ∷ (codes "f ( ) { 1 ; return ; }", 5 ∷ 5 ∷ 7 ∷ 7 ∷ 9 ∷ 9 ∷ [])
    ∷ (codes "f ( ) { L : return ; }", 7 ∷ 7 ∷ 9 ∷ 9 ∷ [])
    ∷ (codes "f ( a ) goto a ;", 6 ∷ 6 ∷ 6 ∷ 6 ∷ 6 ∷ [])
    ∷ []

-- the second edition alone
abbrev pub lined_of_two : List Row
lined_of_two =
    (codes "f ( a ) switch a { default : break ; }", 6 ∷ 6 ∷ 6 ∷ 10 ∷ 5 ∷ 5 ∷ 5 ∷ 5 ∷ 5 ∷ [])
    ∷ (codes "f ( ) { while ( 1 ) break ; ; }", 7 ∷ 7 ∷ 9 ∷ 5 ∷ 12 ∷ 12 ∷ [])
    ∷ (codes "f ( ) { switch 1 { case 2 : break ; default : 3 ; } ; }", 6 ∷ 6 ∷ 11 ∷ 15 ∷ 15 ∷ 5 ∷ 5 ∷ 5 ∷ 5 ∷ 19 ∷ 19 ∷ [])
    ∷ []

-- the lines of the tokens that come after two definitions, and after none
abbrev pub left : List (List ℕ)
left = lines_by lines_after 2 editions.One (codes "f ( ) ; n 7 ; g ;") ∷ lines_by lines_after 0 editions.One (codes "n ;") ∷ []

abbrev pub AreLeft : Type 0
AreLeft = left ≡ (8 ∷ 9 ∷ 9 ∷ []) ∷ (1 ∷ 2 ∷ 2 ∷ []) ∷ []
