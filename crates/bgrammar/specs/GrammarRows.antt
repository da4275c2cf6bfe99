-- Closed facts: each production of the grammar at each place where it may stand, and what is refused beside it.
use Rattle.std.specs.Prelude.{ℕ, List, [], ◌∷◌, ◌++◌, map, codes}
use Rattle.bgrammar.specs.SourceRows.{Row}

-- definitions of each kind
abbrev pub definitions : List Row
definitions =
    (codes "a 1, 'b', \"c\", d;", codes "X a 4 1\nc 1\nc 98\ns 0\nx d\nw 1123\nE\n", [])
    ∷ (codes "v[1] 1;", codes "V v 2 1 0\nc 1\nE\n", [])
    ∷ (codes "v[1] 1, 'b', \"c\", d, v;", codes "V v 5 5 1\nc 1\nc 98\ns 0\nx d\nx v\nw 1123\nE\n", [])
    ∷ (codes "v[] \"a\", \"bcd\", \"\";", codes "V v 3 3 4\ns 0\ns 1\ns 3\nw 1121\nw 25442\nw 1124\nw 4\nE\n", [])
    ∷ (codes "a; v[]; f() ;", codes "X a 0 0\nV v 1 0 0\nF f 0 0 0 0 2\nc 0\nr\nE\n", [])
    ∷ (codes "f(a,b,c) ;", codes "F f 3 3 0 0 2\nc 0\nr\nE\n", [])
    ∷ (codes "f() ; ;", codes "F f 0 0 0 0 2\nc 0\nr\n", codes "sx 1\n")
    ∷ (codes "n;;", codes "X n 0 0\n", codes "sx 1\n")
    ∷ (codes "f(a) a.b;", [], codes "ch 1\n")
    ∷ (codes "a b;", codes "X a 1 0\nx b\nE\n", [])
    ∷ []

-- each statement at each place of one
abbrev pub statements : List Row
statements =
    (codes "f() auto b; ;", codes "F f 0 1 0 0 2\nc 0\nr\nE\n", [])
    ∷ (codes "f() auto a; auto b; ;", codes "F f 0 2 0 0 2\nc 0\nr\nE\n", [])
    ∷ (codes "f() extrn a; auto b; ;", codes "F f 0 1 0 0 2\nc 0\nr\nE\n", [])
    ∷ (codes "f() L: auto b; ;", codes "F f 0 1 1 0 2\nt 0\nc 0\nr\nE\n", [])
    ∷ (codes "f() { auto b; ; }", codes "F f 0 1 0 0 2\nc 0\nr\nE\n", [])
    ∷ (codes "f() { ; auto b; ; }", codes "F f 0 1 0 0 2\nc 0\nr\nE\n", [])
    ∷ (codes "f() if(1) auto b; ;", codes "F f 0 1 0 0 4\nc 1\nz 2\nc 0\nr\nE\n", [])
    ∷ (codes "f() if(1) ; else auto b; ;", codes "F f 0 1 0 0 5\nc 1\nz 3\nj 3\nc 0\nr\nE\n", [])
    ∷ (codes "f() while(1) auto b; ;", codes "F f 0 1 0 0 5\nc 1\nz 3\nj 0\nc 0\nr\nE\n", [])
    ∷ (codes "f() switch 1 { auto b; ; }", codes "F f 0 1 0 0 6\nc 1\nj 3\nj 4\np\nc 0\nr\nE\n", [])
    ∷ (codes "f() switch 1 { case 2: auto b; ; }", codes "F f 0 1 0 0 7\nc 1\nj 3\nj 5\ne 2 2\np\nc 0\nr\nE\n", [])
    ∷ (codes "f() auto b 1, c; ;", codes "F f 0 4 0 0 6\na 0\na 1\nw\np\nc 0\nr\nE\n", [])
    ∷ (codes "f() auto a; auto b 1, c; ;", codes "F f 0 5 0 0 6\na 1\na 2\nw\np\nc 0\nr\nE\n", [])
    ∷ (codes "f() extrn a; auto b 1, c; ;", codes "F f 0 4 0 0 6\na 0\na 1\nw\np\nc 0\nr\nE\n", [])
    ∷ (codes "f() L: auto b 1, c; ;", codes "F f 0 4 1 0 6\nt 0\na 0\na 1\nw\np\nc 0\nr\nE\n", [])
    ∷ (codes "f() { auto b 1, c; ; }", codes "F f 0 4 0 0 6\na 0\na 1\nw\np\nc 0\nr\nE\n", [])
    ∷ (codes "f() { ; auto b 1, c; ; }", codes "F f 0 4 0 0 6\na 0\na 1\nw\np\nc 0\nr\nE\n", [])
    ∷ (codes "f() if(1) auto b 1, c; ;", codes "F f 0 4 0 0 8\nc 1\nz 6\na 0\na 1\nw\np\nc 0\nr\nE\n", [])
    ∷ (codes "f() if(1) ; else auto b 1, c; ;", codes "F f 0 4 0 0 9\nc 1\nz 3\nj 7\na 0\na 1\nw\np\nc 0\nr\nE\n", [])
    ∷ (codes "f() while(1) auto b 1, c; ;", codes "F f 0 4 0 0 9\nc 1\nz 7\na 0\na 1\nw\np\nj 0\nc 0\nr\nE\n", [])
    ∷ (
      codes "f() switch 1 { auto b 1, c; ; }",
      codes "F f 0 4 0 0 10\nc 1\nj 7\na 0\na 1\nw\np\nj 8\np\nc 0\nr\nE\n",
      [],
    )
    ∷ (
      codes "f() switch 1 { case 2: auto b 1, c; ; }",
      codes "F f 0 4 0 0 11\nc 1\nj 7\na 0\na 1\nw\np\nj 9\ne 2 2\np\nc 0\nr\nE\n",
      [],
    )
    ∷ (codes "f() extrn b; ;", codes "F f 0 0 0 0 2\nc 0\nr\nE\n", [])
    ∷ (codes "f() auto a; extrn b; ;", codes "F f 0 1 0 0 2\nc 0\nr\nE\n", [])
    ∷ (codes "f() extrn a; extrn b; ;", codes "F f 0 0 0 0 2\nc 0\nr\nE\n", [])
    ∷ (codes "f() L: extrn b; ;", codes "F f 0 0 1 0 2\nt 0\nc 0\nr\nE\n", [])
    ∷ (codes "f() { extrn b; ; }", codes "F f 0 0 0 0 2\nc 0\nr\nE\n", [])
    ∷ (codes "f() { ; extrn b; ; }", codes "F f 0 0 0 0 2\nc 0\nr\nE\n", [])
    ∷ (codes "f() if(1) extrn b; ;", codes "F f 0 0 0 0 4\nc 1\nz 2\nc 0\nr\nE\n", [])
    ∷ (codes "f() if(1) ; else extrn b; ;", codes "F f 0 0 0 0 5\nc 1\nz 3\nj 3\nc 0\nr\nE\n", [])
    ∷ (codes "f() while(1) extrn b; ;", codes "F f 0 0 0 0 5\nc 1\nz 3\nj 0\nc 0\nr\nE\n", [])
    ∷ (codes "f() switch 1 { extrn b; ; }", codes "F f 0 0 0 0 6\nc 1\nj 3\nj 4\np\nc 0\nr\nE\n", [])
    ∷ (codes "f() switch 1 { case 2: extrn b; ; }", codes "F f 0 0 0 0 7\nc 1\nj 3\nj 5\ne 2 2\np\nc 0\nr\nE\n", [])
    ∷ (codes "f() M: ;", codes "F f 0 0 1 0 2\nt 0\nc 0\nr\nE\n", [])
    ∷ (codes "f() auto a; M: ;", codes "F f 0 1 1 0 2\nt 0\nc 0\nr\nE\n", [])
    ∷ (codes "f() extrn a; M: ;", codes "F f 0 0 1 0 2\nt 0\nc 0\nr\nE\n", [])
    ∷ (codes "f() L: M: ;", codes "F f 0 0 2 0 2\nt 0\nt 0\nc 0\nr\nE\n", [])
    ∷ (codes "f() { M: ; }", codes "F f 0 0 1 0 2\nt 0\nc 0\nr\nE\n", [])
    ∷ (codes "f() { ; M: ; }", codes "F f 0 0 1 0 2\nt 0\nc 0\nr\nE\n", [])
    ∷ (codes "f() if(1) M: ;", codes "F f 0 0 1 0 4\nt 2\nc 1\nz 2\nc 0\nr\nE\n", [])
    ∷ (codes "f() if(1) ; else M: ;", codes "F f 0 0 1 0 5\nt 3\nc 1\nz 3\nj 3\nc 0\nr\nE\n", [])
    ∷ (codes "f() while(1) M: ;", codes "F f 0 0 1 0 5\nt 2\nc 1\nz 3\nj 0\nc 0\nr\nE\n", [])
    ∷ (codes "f() switch 1 { M: ; }", codes "F f 0 0 1 0 6\nt 2\nc 1\nj 3\nj 4\np\nc 0\nr\nE\n", [])
    ∷ (codes "f() switch 1 { case 2: M: ; }", codes "F f 0 0 1 0 7\nt 2\nc 1\nj 3\nj 5\ne 2 2\np\nc 0\nr\nE\n", [])
    ∷ (codes "f() {}", codes "F f 0 0 0 0 2\nc 0\nr\nE\n", [])
    ∷ (codes "f() auto a; {}", codes "F f 0 1 0 0 2\nc 0\nr\nE\n", [])
    ∷ (codes "f() extrn a; {}", codes "F f 0 0 0 0 2\nc 0\nr\nE\n", [])
    ∷ (codes "f() L: {}", codes "F f 0 0 1 0 2\nt 0\nc 0\nr\nE\n", [])
    ∷ (codes "f() { {} }", codes "F f 0 0 0 0 2\nc 0\nr\nE\n", [])
    ∷ (codes "f() { ; {} }", codes "F f 0 0 0 0 2\nc 0\nr\nE\n", [])
    ∷ (codes "f() if(1) {}", codes "F f 0 0 0 0 4\nc 1\nz 2\nc 0\nr\nE\n", [])
    ∷ (codes "f() if(1) ; else {}", codes "F f 0 0 0 0 5\nc 1\nz 3\nj 3\nc 0\nr\nE\n", [])
    ∷ (codes "f() while(1) {}", codes "F f 0 0 0 0 5\nc 1\nz 3\nj 0\nc 0\nr\nE\n", [])
    ∷ (codes "f() switch 1 { {} }", codes "F f 0 0 0 0 6\nc 1\nj 3\nj 4\np\nc 0\nr\nE\n", [])
    ∷ (codes "f() switch 1 { case 2: {} }", codes "F f 0 0 0 0 7\nc 1\nj 3\nj 5\ne 2 2\np\nc 0\nr\nE\n", [])
    ∷ (codes "f() { 2; 3; }", codes "F f 0 0 0 0 6\nc 2\np\nc 3\np\nc 0\nr\nE\n", [])
    ∷ (codes "f() auto a; { 2; 3; }", codes "F f 0 1 0 0 6\nc 2\np\nc 3\np\nc 0\nr\nE\n", [])
    ∷ (codes "f() extrn a; { 2; 3; }", codes "F f 0 0 0 0 6\nc 2\np\nc 3\np\nc 0\nr\nE\n", [])
    ∷ (codes "f() L: { 2; 3; }", codes "F f 0 0 1 0 6\nt 0\nc 2\np\nc 3\np\nc 0\nr\nE\n", [])
    ∷ (codes "f() { { 2; 3; } }", codes "F f 0 0 0 0 6\nc 2\np\nc 3\np\nc 0\nr\nE\n", [])
    ∷ (codes "f() { ; { 2; 3; } }", codes "F f 0 0 0 0 6\nc 2\np\nc 3\np\nc 0\nr\nE\n", [])
    ∷ (codes "f() if(1) { 2; 3; }", codes "F f 0 0 0 0 8\nc 1\nz 6\nc 2\np\nc 3\np\nc 0\nr\nE\n", [])
    ∷ (codes "f() if(1) ; else { 2; 3; }", codes "F f 0 0 0 0 9\nc 1\nz 3\nj 7\nc 2\np\nc 3\np\nc 0\nr\nE\n", [])
    ∷ (codes "f() while(1) { 2; 3; }", codes "F f 0 0 0 0 9\nc 1\nz 7\nc 2\np\nc 3\np\nj 0\nc 0\nr\nE\n", [])
    ∷ (codes "f() switch 1 { { 2; 3; } }", codes "F f 0 0 0 0 10\nc 1\nj 7\nc 2\np\nc 3\np\nj 8\np\nc 0\nr\nE\n", [])
    ∷ (
      codes "f() switch 1 { case 2: { 2; 3; } }",
      codes "F f 0 0 0 0 11\nc 1\nj 7\nc 2\np\nc 3\np\nj 9\ne 2 2\np\nc 0\nr\nE\n",
      [],
    )
    ∷ (codes "f() if(2) ;", codes "F f 0 0 0 0 4\nc 2\nz 2\nc 0\nr\nE\n", [])
    ∷ (codes "f() auto a; if(2) ;", codes "F f 0 1 0 0 4\nc 2\nz 2\nc 0\nr\nE\n", [])
    ∷ (codes "f() extrn a; if(2) ;", codes "F f 0 0 0 0 4\nc 2\nz 2\nc 0\nr\nE\n", [])
    ∷ (codes "f() L: if(2) ;", codes "F f 0 0 1 0 4\nt 0\nc 2\nz 2\nc 0\nr\nE\n", [])
    ∷ (codes "f() { if(2) ; }", codes "F f 0 0 0 0 4\nc 2\nz 2\nc 0\nr\nE\n", [])
    ∷ (codes "f() { ; if(2) ; }", codes "F f 0 0 0 0 4\nc 2\nz 2\nc 0\nr\nE\n", [])
    ∷ (codes "f() if(1) if(2) ;", codes "F f 0 0 0 0 6\nc 1\nz 4\nc 2\nz 4\nc 0\nr\nE\n", [])
    ∷ (codes "f() if(1) ; else if(2) ;", codes "F f 0 0 0 0 7\nc 1\nz 3\nj 5\nc 2\nz 5\nc 0\nr\nE\n", [])
    ∷ (codes "f() while(1) if(2) ;", codes "F f 0 0 0 0 7\nc 1\nz 5\nc 2\nz 4\nj 0\nc 0\nr\nE\n", [])
    ∷ (codes "f() switch 1 { if(2) ; }", codes "F f 0 0 0 0 8\nc 1\nj 5\nc 2\nz 4\nj 6\np\nc 0\nr\nE\n", [])
    ∷ (
      codes "f() switch 1 { case 2: if(2) ; }",
      codes "F f 0 0 0 0 9\nc 1\nj 5\nc 2\nz 4\nj 7\ne 2 2\np\nc 0\nr\nE\n",
      [],
    )
    ∷ (codes "f() if(2) ; else ;", codes "F f 0 0 0 0 5\nc 2\nz 3\nj 3\nc 0\nr\nE\n", [])
    ∷ (codes "f() auto a; if(2) ; else ;", codes "F f 0 1 0 0 5\nc 2\nz 3\nj 3\nc 0\nr\nE\n", [])
    ∷ (codes "f() extrn a; if(2) ; else ;", codes "F f 0 0 0 0 5\nc 2\nz 3\nj 3\nc 0\nr\nE\n", [])
    ∷ (codes "f() L: if(2) ; else ;", codes "F f 0 0 1 0 5\nt 0\nc 2\nz 3\nj 3\nc 0\nr\nE\n", [])
    ∷ (codes "f() { if(2) ; else ; }", codes "F f 0 0 0 0 5\nc 2\nz 3\nj 3\nc 0\nr\nE\n", [])
    ∷ (codes "f() { ; if(2) ; else ; }", codes "F f 0 0 0 0 5\nc 2\nz 3\nj 3\nc 0\nr\nE\n", [])
    ∷ (codes "f() if(1) if(2) ; else ;", codes "F f 0 0 0 0 7\nc 1\nz 5\nc 2\nz 5\nj 5\nc 0\nr\nE\n", [])
    ∷ (codes "f() if(1) ; else if(2) ; else ;", codes "F f 0 0 0 0 8\nc 1\nz 3\nj 6\nc 2\nz 6\nj 6\nc 0\nr\nE\n", [])
    ∷ (codes "f() while(1) if(2) ; else ;", codes "F f 0 0 0 0 8\nc 1\nz 6\nc 2\nz 5\nj 5\nj 0\nc 0\nr\nE\n", [])
    ∷ (codes "f() switch 1 { if(2) ; else ; }", codes "F f 0 0 0 0 9\nc 1\nj 6\nc 2\nz 5\nj 5\nj 7\np\nc 0\nr\nE\n", [])
    ∷ (
      codes "f() switch 1 { case 2: if(2) ; else ; }",
      codes "F f 0 0 0 0 10\nc 1\nj 6\nc 2\nz 5\nj 5\nj 8\ne 2 2\np\nc 0\nr\nE\n",
      [],
    )
    ∷ (codes "f() while(2) ;", codes "F f 0 0 0 0 5\nc 2\nz 3\nj 0\nc 0\nr\nE\n", [])
    ∷ (codes "f() auto a; while(2) ;", codes "F f 0 1 0 0 5\nc 2\nz 3\nj 0\nc 0\nr\nE\n", [])
    ∷ (codes "f() extrn a; while(2) ;", codes "F f 0 0 0 0 5\nc 2\nz 3\nj 0\nc 0\nr\nE\n", [])
    ∷ (codes "f() L: while(2) ;", codes "F f 0 0 1 0 5\nt 0\nc 2\nz 3\nj 0\nc 0\nr\nE\n", [])
    ∷ (codes "f() { while(2) ; }", codes "F f 0 0 0 0 5\nc 2\nz 3\nj 0\nc 0\nr\nE\n", [])
    ∷ (codes "f() { ; while(2) ; }", codes "F f 0 0 0 0 5\nc 2\nz 3\nj 0\nc 0\nr\nE\n", [])
    ∷ (codes "f() if(1) while(2) ;", codes "F f 0 0 0 0 7\nc 1\nz 5\nc 2\nz 5\nj 2\nc 0\nr\nE\n", [])
    ∷ (codes "f() if(1) ; else while(2) ;", codes "F f 0 0 0 0 8\nc 1\nz 3\nj 6\nc 2\nz 6\nj 3\nc 0\nr\nE\n", [])
    ∷ (codes "f() while(1) while(2) ;", codes "F f 0 0 0 0 8\nc 1\nz 6\nc 2\nz 5\nj 2\nj 0\nc 0\nr\nE\n", [])
    ∷ (codes "f() switch 1 { while(2) ; }", codes "F f 0 0 0 0 9\nc 1\nj 6\nc 2\nz 5\nj 2\nj 7\np\nc 0\nr\nE\n", [])
    ∷ (
      codes "f() switch 1 { case 2: while(2) ; }",
      codes "F f 0 0 0 0 10\nc 1\nj 6\nc 2\nz 5\nj 2\nj 8\ne 2 2\np\nc 0\nr\nE\n",
      [],
    )
    ∷ (codes "f() switch 2 {}", codes "F f 0 0 0 0 6\nc 2\nj 3\nj 4\np\nc 0\nr\nE\n", [])
    ∷ (codes "f() auto a; switch 2 {}", codes "F f 0 1 0 0 6\nc 2\nj 3\nj 4\np\nc 0\nr\nE\n", [])
    ∷ (codes "f() extrn a; switch 2 {}", codes "F f 0 0 0 0 6\nc 2\nj 3\nj 4\np\nc 0\nr\nE\n", [])
    ∷ (codes "f() L: switch 2 {}", codes "F f 0 0 1 0 6\nt 0\nc 2\nj 3\nj 4\np\nc 0\nr\nE\n", [])
    ∷ (codes "f() { switch 2 {} }", codes "F f 0 0 0 0 6\nc 2\nj 3\nj 4\np\nc 0\nr\nE\n", [])
    ∷ (codes "f() { ; switch 2 {} }", codes "F f 0 0 0 0 6\nc 2\nj 3\nj 4\np\nc 0\nr\nE\n", [])
    ∷ (codes "f() if(1) switch 2 {}", codes "F f 0 0 0 0 8\nc 1\nz 6\nc 2\nj 5\nj 6\np\nc 0\nr\nE\n", [])
    ∷ (codes "f() if(1) ; else switch 2 {}", codes "F f 0 0 0 0 9\nc 1\nz 3\nj 7\nc 2\nj 6\nj 7\np\nc 0\nr\nE\n", [])
    ∷ (codes "f() while(1) switch 2 {}", codes "F f 0 0 0 0 9\nc 1\nz 7\nc 2\nj 5\nj 6\np\nj 0\nc 0\nr\nE\n", [])
    ∷ (
      codes "f() switch 1 { switch 2 {} }",
      codes "F f 0 0 0 0 10\nc 1\nj 7\nc 2\nj 5\nj 6\np\nj 8\np\nc 0\nr\nE\n",
      [],
    )
    ∷ (
      codes "f() switch 1 { case 2: switch 2 {} }",
      codes "F f 0 0 0 0 11\nc 1\nj 7\nc 2\nj 5\nj 6\np\nj 9\ne 2 2\np\nc 0\nr\nE\n",
      [],
    )
    ∷ (codes "f() goto 2;", codes "F f 0 0 0 0 4\nc 2\ng\nc 0\nr\nE\n", [])
    ∷ (codes "f() auto a; goto 2;", codes "F f 0 1 0 0 4\nc 2\ng\nc 0\nr\nE\n", [])
    ∷ (codes "f() extrn a; goto 2;", codes "F f 0 0 0 0 4\nc 2\ng\nc 0\nr\nE\n", [])
    ∷ (codes "f() L: goto 2;", codes "F f 0 0 1 0 4\nt 0\nc 2\ng\nc 0\nr\nE\n", [])
    ∷ (codes "f() { goto 2; }", codes "F f 0 0 0 0 4\nc 2\ng\nc 0\nr\nE\n", [])
    ∷ (codes "f() { ; goto 2; }", codes "F f 0 0 0 0 4\nc 2\ng\nc 0\nr\nE\n", [])
    ∷ (codes "f() if(1) goto 2;", codes "F f 0 0 0 0 6\nc 1\nz 4\nc 2\ng\nc 0\nr\nE\n", [])
    ∷ (codes "f() if(1) ; else goto 2;", codes "F f 0 0 0 0 7\nc 1\nz 3\nj 5\nc 2\ng\nc 0\nr\nE\n", [])
    ∷ (codes "f() while(1) goto 2;", codes "F f 0 0 0 0 7\nc 1\nz 5\nc 2\ng\nj 0\nc 0\nr\nE\n", [])
    ∷ (codes "f() switch 1 { goto 2; }", codes "F f 0 0 0 0 8\nc 1\nj 5\nc 2\ng\nj 6\np\nc 0\nr\nE\n", [])
    ∷ (
      codes "f() switch 1 { case 2: goto 2; }",
      codes "F f 0 0 0 0 9\nc 1\nj 5\nc 2\ng\nj 7\ne 2 2\np\nc 0\nr\nE\n",
      [],
    )
    ∷ (codes "f() return;", codes "F f 0 0 0 0 4\nc 0\nr\nc 0\nr\nE\n", [])
    ∷ (codes "f() auto a; return;", codes "F f 0 1 0 0 4\nc 0\nr\nc 0\nr\nE\n", [])
    ∷ (codes "f() extrn a; return;", codes "F f 0 0 0 0 4\nc 0\nr\nc 0\nr\nE\n", [])
    ∷ (codes "f() L: return;", codes "F f 0 0 1 0 4\nt 0\nc 0\nr\nc 0\nr\nE\n", [])
    ∷ (codes "f() { return; }", codes "F f 0 0 0 0 4\nc 0\nr\nc 0\nr\nE\n", [])
    ∷ (codes "f() { ; return; }", codes "F f 0 0 0 0 4\nc 0\nr\nc 0\nr\nE\n", [])
    ∷ (codes "f() if(1) return;", codes "F f 0 0 0 0 6\nc 1\nz 4\nc 0\nr\nc 0\nr\nE\n", [])
    ∷ (codes "f() if(1) ; else return;", codes "F f 0 0 0 0 7\nc 1\nz 3\nj 5\nc 0\nr\nc 0\nr\nE\n", [])
    ∷ (codes "f() while(1) return;", codes "F f 0 0 0 0 7\nc 1\nz 5\nc 0\nr\nj 0\nc 0\nr\nE\n", [])
    ∷ (codes "f() switch 1 { return; }", codes "F f 0 0 0 0 8\nc 1\nj 5\nc 0\nr\nj 6\np\nc 0\nr\nE\n", [])
    ∷ (
      codes "f() switch 1 { case 2: return; }",
      codes "F f 0 0 0 0 9\nc 1\nj 5\nc 0\nr\nj 7\ne 2 2\np\nc 0\nr\nE\n",
      [],
    )
    ∷ (codes "f() return(2);", codes "F f 0 0 0 0 4\nc 2\nr\nc 0\nr\nE\n", [])
    ∷ (codes "f() auto a; return(2);", codes "F f 0 1 0 0 4\nc 2\nr\nc 0\nr\nE\n", [])
    ∷ (codes "f() extrn a; return(2);", codes "F f 0 0 0 0 4\nc 2\nr\nc 0\nr\nE\n", [])
    ∷ (codes "f() L: return(2);", codes "F f 0 0 1 0 4\nt 0\nc 2\nr\nc 0\nr\nE\n", [])
    ∷ (codes "f() { return(2); }", codes "F f 0 0 0 0 4\nc 2\nr\nc 0\nr\nE\n", [])
    ∷ (codes "f() { ; return(2); }", codes "F f 0 0 0 0 4\nc 2\nr\nc 0\nr\nE\n", [])
    ∷ (codes "f() if(1) return(2);", codes "F f 0 0 0 0 6\nc 1\nz 4\nc 2\nr\nc 0\nr\nE\n", [])
    ∷ (codes "f() if(1) ; else return(2);", codes "F f 0 0 0 0 7\nc 1\nz 3\nj 5\nc 2\nr\nc 0\nr\nE\n", [])
    ∷ (codes "f() while(1) return(2);", codes "F f 0 0 0 0 7\nc 1\nz 5\nc 2\nr\nj 0\nc 0\nr\nE\n", [])
    ∷ (codes "f() switch 1 { return(2); }", codes "F f 0 0 0 0 8\nc 1\nj 5\nc 2\nr\nj 6\np\nc 0\nr\nE\n", [])
    ∷ (
      codes "f() switch 1 { case 2: return(2); }",
      codes "F f 0 0 0 0 9\nc 1\nj 5\nc 2\nr\nj 7\ne 2 2\np\nc 0\nr\nE\n",
      [],
    )
    ∷ (codes "f() 2;", codes "F f 0 0 0 0 4\nc 2\np\nc 0\nr\nE\n", [])
    ∷ (codes "f() auto a; 2;", codes "F f 0 1 0 0 4\nc 2\np\nc 0\nr\nE\n", [])
    ∷ (codes "f() extrn a; 2;", codes "F f 0 0 0 0 4\nc 2\np\nc 0\nr\nE\n", [])
    ∷ (codes "f() L: 2;", codes "F f 0 0 1 0 4\nt 0\nc 2\np\nc 0\nr\nE\n", [])
    ∷ (codes "f() { 2; }", codes "F f 0 0 0 0 4\nc 2\np\nc 0\nr\nE\n", [])
    ∷ (codes "f() { ; 2; }", codes "F f 0 0 0 0 4\nc 2\np\nc 0\nr\nE\n", [])
    ∷ (codes "f() if(1) 2;", codes "F f 0 0 0 0 6\nc 1\nz 4\nc 2\np\nc 0\nr\nE\n", [])
    ∷ (codes "f() if(1) ; else 2;", codes "F f 0 0 0 0 7\nc 1\nz 3\nj 5\nc 2\np\nc 0\nr\nE\n", [])
    ∷ (codes "f() while(1) 2;", codes "F f 0 0 0 0 7\nc 1\nz 5\nc 2\np\nj 0\nc 0\nr\nE\n", [])
    ∷ (codes "f() switch 1 { 2; }", codes "F f 0 0 0 0 8\nc 1\nj 5\nc 2\np\nj 6\np\nc 0\nr\nE\n", [])
    ∷ (codes "f() switch 1 { case 2: 2; }", codes "F f 0 0 0 0 9\nc 1\nj 5\nc 2\np\nj 7\ne 2 2\np\nc 0\nr\nE\n", [])
    ∷ (codes "f() ;", codes "F f 0 0 0 0 2\nc 0\nr\nE\n", [])
    ∷ (codes "f() auto a; ;", codes "F f 0 1 0 0 2\nc 0\nr\nE\n", [])
    ∷ (codes "f() extrn a; ;", codes "F f 0 0 0 0 2\nc 0\nr\nE\n", [])
    ∷ (codes "f() L: ;", codes "F f 0 0 1 0 2\nt 0\nc 0\nr\nE\n", [])
    ∷ (codes "f() { ; }", codes "F f 0 0 0 0 2\nc 0\nr\nE\n", [])
    ∷ (codes "f() { ; ; }", codes "F f 0 0 0 0 2\nc 0\nr\nE\n", [])
    ∷ (codes "f() if(1) ;", codes "F f 0 0 0 0 4\nc 1\nz 2\nc 0\nr\nE\n", [])
    ∷ (codes "f() if(1) ; else ;", codes "F f 0 0 0 0 5\nc 1\nz 3\nj 3\nc 0\nr\nE\n", [])
    ∷ (codes "f() while(1) ;", codes "F f 0 0 0 0 5\nc 1\nz 3\nj 0\nc 0\nr\nE\n", [])
    ∷ (codes "f() switch 1 { ; }", codes "F f 0 0 0 0 6\nc 1\nj 3\nj 4\np\nc 0\nr\nE\n", [])
    ∷ (codes "f() switch 1 { case 2: ; }", codes "F f 0 0 0 0 7\nc 1\nj 3\nj 5\ne 2 2\np\nc 0\nr\nE\n", [])
    ∷ (
      codes "f() { if(1) {} else ; if(1) { 2; } else ; if(1) goto 2; else ; if(1) return; else ; if(1) return(2); else ; }",
      codes "F f 0 0 0 0 25\nc 1\nz 3\nj 3\nc 1\nz 8\nc 2\np\nj 8\nc 1\nz 13\nc 2\ng\nj 13\nc 1\nz 18\nc 0\nr\n"
          ++ codes "j 18\nc 1\nz 23\nc 2\nr\nj 23\nc 0\nr\nE\n",
      [],
    )
    ∷ (
      codes "f() { if(1) if(2) ; else ; else ; if(1) while(2) ; else ; if(1) switch 2 {} else ; }",
      codes "F f 0 0 0 0 21\nc 1\nz 6\nc 2\nz 5\nj 5\nj 6\nc 1\nz 12\nc 2\nz 11\nj 8\nj 12\nc 1\nz 19\nc 2\n"
          ++ codes "j 17\nj 18\np\nj 19\nc 0\nr\nE\n",
      [],
    )
    ∷ (
      codes "f() { if(1) auto b; ; else ; if(1) auto c 1; ; else ; if(1) extrn d; ; else ; if(1) M: ; else ; }",
      codes "F f 0 4 1 0 18\nt 15\nc 1\nz 3\nj 3\nc 1\nz 10\na 1\na 2\nw\np\nj 10\nc 1\nz 13\nj 13\nc 1\nz 16\n"
          ++ codes "j 16\nc 0\nr\nE\n",
      [],
    )
    ∷ (
      codes "f() { auto b; ; extrn c; ; M: ; {} { 2; } if(2) ; if(2) ; else ; while(2) ; switch 2 {} return; return(2); ; }",
      codes "F f 0 1 1 0 20\nt 0\nc 2\np\nc 2\nz 4\nc 2\nz 7\nj 7\nc 2\nz 10\nj 7\nc 2\nj 13\nj 14\np\nc 0\nr\n"
          ++ codes "c 2\nr\nc 0\nr\nE\n",
      [],
    )
    ∷ (
      codes "f() switch 1 { ; auto b; ; auto c 1; ; extrn d; ; M: ; {} { 2; } if(2) ; if(2) ; else ; while(2) ; ; }",
      codes "F f 0 4 1 0 20\nt 6\nc 1\nj 17\na 1\na 2\nw\np\nc 2\np\nc 2\nz 10\nc 2\nz 13\nj 13\nc 2\nz 16\n"
          ++ codes "j 13\nj 18\np\nc 0\nr\nE\n",
      [],
    )
    ∷ (
      codes "f() switch 1 { ; switch 2 {} goto 2; return; return(2); 2; ; }",
      codes "F f 0 0 0 0 18\nc 1\nj 15\nc 2\nj 5\nj 6\np\nc 2\ng\nc 0\nr\nc 2\nr\nc 2\np\nj 16\np\nc 0\nr\nE\n",
      [],
    )
    ∷ (codes "f() auto a,b; a=b;", codes "F f 0 2 0 0 7\na 0\na 1\nv\nw\np\nc 0\nr\nE\n", [])
    ∷ (codes "f() extrn a,b; a=b;", codes "F f 0 0 0 0 7\nx a\nx b\nv\nw\np\nc 0\nr\nE\n", [])
    ∷ []

-- a case at each place of a statement in a switch
abbrev pub cases : List Row
cases =
    (codes "f() switch 1 { case 3: ; }", codes "F f 0 0 0 0 7\nc 1\nj 3\nj 5\ne 3 2\np\nc 0\nr\nE\n", [])
    ∷ (codes "f() switch 1 { auto a; case 3: ; }", codes "F f 0 1 0 0 7\nc 1\nj 3\nj 5\ne 3 2\np\nc 0\nr\nE\n", [])
    ∷ (codes "f() switch 1 { extrn a; case 3: ; }", codes "F f 0 0 0 0 7\nc 1\nj 3\nj 5\ne 3 2\np\nc 0\nr\nE\n", [])
    ∷ (codes "f() switch 1 { L: case 3: ; }", codes "F f 0 0 1 0 7\nt 2\nc 1\nj 3\nj 5\ne 3 2\np\nc 0\nr\nE\n", [])
    ∷ (
      codes "f() switch 1 { case 2: case 3: ; }",
      codes "F f 0 0 0 0 8\nc 1\nj 3\nj 6\ne 2 2\ne 3 2\np\nc 0\nr\nE\n",
      [],
    )
    ∷ (codes "f() switch 1 { { case 3: ; } }", codes "F f 0 0 0 0 7\nc 1\nj 3\nj 5\ne 3 2\np\nc 0\nr\nE\n", [])
    ∷ (
      codes "f() switch 1 { if(1) case 3: ; }",
      codes "F f 0 0 0 0 9\nc 1\nj 5\nc 1\nz 4\nj 7\ne 3 4\np\nc 0\nr\nE\n",
      [],
    )
    ∷ (
      codes "f() switch 1 { if(1) ; else case 3: ; }",
      codes "F f 0 0 0 0 10\nc 1\nj 6\nc 1\nz 5\nj 5\nj 8\ne 3 5\np\nc 0\nr\nE\n",
      [],
    )
    ∷ (
      codes "f() switch 1 { while(1) case 3: ; }",
      codes "F f 0 0 0 0 10\nc 1\nj 6\nc 1\nz 5\nj 2\nj 8\ne 3 4\np\nc 0\nr\nE\n",
      [],
    )
    ∷ (
      codes "f() switch 1 { switch 2 { case 3: ; } }",
      codes "F f 0 0 0 0 11\nc 1\nj 8\nc 2\nj 5\nj 7\ne 3 4\np\nj 9\np\nc 0\nr\nE\n",
      [],
    )
    ∷ (codes "f() switch 1 { case 'a': ; }", codes "F f 0 0 0 0 7\nc 1\nj 3\nj 5\ne 97 2\np\nc 0\nr\nE\n", [])
    ∷ (
      codes "f() switch 1 { if(1) case 3: ; else ; }",
      codes "F f 0 0 0 0 10\nc 1\nj 6\nc 1\nz 5\nj 5\nj 8\ne 3 4\np\nc 0\nr\nE\n",
      [],
    )
    ∷ (
      codes "f() switch 1 { { ; case 3: ; } ; case 4: ; }",
      codes "F f 0 0 0 0 8\nc 1\nj 3\nj 6\ne 3 2\ne 4 2\np\nc 0\nr\nE\n",
      [],
    )
    ∷ []

-- the loosest forms at each place of an rvalue
abbrev pub rvalues : List Row
rvalues =
    (codes "f(a) a=1;", codes "F f 1 1 0 0 6\na 0\nc 1\nw\np\nc 0\nr\nE\n", [])
    ∷ (codes "f(a) if(a=1) ;", codes "F f 1 1 0 0 6\na 0\nc 1\nw\nz 4\nc 0\nr\nE\n", [])
    ∷ (codes "f(a) if(a=1) ; else ;", codes "F f 1 1 0 0 7\na 0\nc 1\nw\nz 5\nj 5\nc 0\nr\nE\n", [])
    ∷ (codes "f(a) while(a=1) ;", codes "F f 1 1 0 0 7\na 0\nc 1\nw\nz 5\nj 0\nc 0\nr\nE\n", [])
    ∷ (codes "f(a) switch a=1 {}", codes "F f 1 1 0 0 8\na 0\nc 1\nw\nj 5\nj 6\np\nc 0\nr\nE\n", [])
    ∷ (codes "f(a) goto a=1;", codes "F f 1 1 0 0 6\na 0\nc 1\nw\ng\nc 0\nr\nE\n", [])
    ∷ (codes "f(a) return(a=1);", codes "F f 1 1 0 0 6\na 0\nc 1\nw\nr\nc 0\nr\nE\n", [])
    ∷ (codes "f(a) (a=1);", codes "F f 1 1 0 0 6\na 0\nc 1\nw\np\nc 0\nr\nE\n", [])
    ∷ (codes "f(a) a[a=1];", codes "F f 1 1 0 0 10\na 0\nv\na 0\nc 1\nw\nb +\nv\np\nc 0\nr\nE\n", [])
    ∷ (codes "f(a) a(a=1);", codes "F f 1 1 0 0 9\na 0\nv\na 0\nc 1\nw\nk 1\np\nc 0\nr\nE\n", [])
    ∷ (codes "f(a) a(1,a=1);", codes "F f 1 1 0 0 10\na 0\nv\nc 1\na 0\nc 1\nw\nk 2\np\nc 0\nr\nE\n", [])
    ∷ (codes "f(a) a=a=1;", codes "F f 1 1 0 0 8\na 0\na 0\nc 1\nw\nw\np\nc 0\nr\nE\n", [])
    ∷ (codes "f(a) 1?a=1:2;", codes "F f 1 1 0 0 10\nc 1\nz 6\na 0\nc 1\nw\nj 7\nc 2\np\nc 0\nr\nE\n", [])
    ∷ (codes "f(a) 1?2:3;", codes "F f 1 1 0 0 8\nc 1\nz 4\nc 2\nj 5\nc 3\np\nc 0\nr\nE\n", [])
    ∷ (codes "f(a) if(1?2:3) ;", codes "F f 1 1 0 0 8\nc 1\nz 4\nc 2\nj 5\nc 3\nz 6\nc 0\nr\nE\n", [])
    ∷ (codes "f(a) if(1?2:3) ; else ;", codes "F f 1 1 0 0 9\nc 1\nz 4\nc 2\nj 5\nc 3\nz 7\nj 7\nc 0\nr\nE\n", [])
    ∷ (codes "f(a) while(1?2:3) ;", codes "F f 1 1 0 0 9\nc 1\nz 4\nc 2\nj 5\nc 3\nz 7\nj 0\nc 0\nr\nE\n", [])
    ∷ (codes "f(a) switch 1?2:3 {}", codes "F f 1 1 0 0 10\nc 1\nz 4\nc 2\nj 5\nc 3\nj 7\nj 8\np\nc 0\nr\nE\n", [])
    ∷ (codes "f(a) goto 1?2:3;", codes "F f 1 1 0 0 8\nc 1\nz 4\nc 2\nj 5\nc 3\ng\nc 0\nr\nE\n", [])
    ∷ (codes "f(a) return(1?2:3);", codes "F f 1 1 0 0 8\nc 1\nz 4\nc 2\nj 5\nc 3\nr\nc 0\nr\nE\n", [])
    ∷ (codes "f(a) (1?2:3);", codes "F f 1 1 0 0 8\nc 1\nz 4\nc 2\nj 5\nc 3\np\nc 0\nr\nE\n", [])
    ∷ (codes "f(a) a[1?2:3];", codes "F f 1 1 0 0 12\na 0\nv\nc 1\nz 6\nc 2\nj 7\nc 3\nb +\nv\np\nc 0\nr\nE\n", [])
    ∷ (codes "f(a) a(1?2:3);", codes "F f 1 1 0 0 11\na 0\nv\nc 1\nz 6\nc 2\nj 7\nc 3\nk 1\np\nc 0\nr\nE\n", [])
    ∷ (codes "f(a) a(1,1?2:3);", codes "F f 1 1 0 0 12\na 0\nv\nc 1\nc 1\nz 7\nc 2\nj 8\nc 3\nk 2\np\nc 0\nr\nE\n", [])
    ∷ (codes "f(a) a=1?2:3;", codes "F f 1 1 0 0 10\na 0\nc 1\nz 5\nc 2\nj 6\nc 3\nw\np\nc 0\nr\nE\n", [])
    ∷ (codes "f(a) 1?1?2:3:2;", codes "F f 1 1 0 0 12\nc 1\nz 8\nc 1\nz 6\nc 2\nj 7\nc 3\nj 9\nc 2\np\nc 0\nr\nE\n", [])
    ∷ (codes "f(a) 1|2;", codes "F f 1 1 0 0 6\nc 1\nc 2\nb |\np\nc 0\nr\nE\n", [])
    ∷ (codes "f(a) if(1|2) ;", codes "F f 1 1 0 0 6\nc 1\nc 2\nb |\nz 4\nc 0\nr\nE\n", [])
    ∷ (codes "f(a) if(1|2) ; else ;", codes "F f 1 1 0 0 7\nc 1\nc 2\nb |\nz 5\nj 5\nc 0\nr\nE\n", [])
    ∷ (codes "f(a) while(1|2) ;", codes "F f 1 1 0 0 7\nc 1\nc 2\nb |\nz 5\nj 0\nc 0\nr\nE\n", [])
    ∷ (codes "f(a) switch 1|2 {}", codes "F f 1 1 0 0 8\nc 1\nc 2\nb |\nj 5\nj 6\np\nc 0\nr\nE\n", [])
    ∷ (codes "f(a) goto 1|2;", codes "F f 1 1 0 0 6\nc 1\nc 2\nb |\ng\nc 0\nr\nE\n", [])
    ∷ (codes "f(a) return(1|2);", codes "F f 1 1 0 0 6\nc 1\nc 2\nb |\nr\nc 0\nr\nE\n", [])
    ∷ (codes "f(a) (1|2);", codes "F f 1 1 0 0 6\nc 1\nc 2\nb |\np\nc 0\nr\nE\n", [])
    ∷ (codes "f(a) a[1|2];", codes "F f 1 1 0 0 10\na 0\nv\nc 1\nc 2\nb |\nb +\nv\np\nc 0\nr\nE\n", [])
    ∷ (codes "f(a) a(1|2);", codes "F f 1 1 0 0 9\na 0\nv\nc 1\nc 2\nb |\nk 1\np\nc 0\nr\nE\n", [])
    ∷ (codes "f(a) a(1,1|2);", codes "F f 1 1 0 0 10\na 0\nv\nc 1\nc 1\nc 2\nb |\nk 2\np\nc 0\nr\nE\n", [])
    ∷ (codes "f(a) a=1|2;", codes "F f 1 1 0 0 8\na 0\nc 1\nc 2\nb |\nw\np\nc 0\nr\nE\n", [])
    ∷ (codes "f(a) 1?1|2:2;", codes "F f 1 1 0 0 10\nc 1\nz 6\nc 1\nc 2\nb |\nj 7\nc 2\np\nc 0\nr\nE\n", [])
    ∷ []

-- each operator of an assignment
abbrev pub assignments : List Row
assignments =
    (codes "f(a) a=1;", codes "F f 1 1 0 0 6\na 0\nc 1\nw\np\nc 0\nr\nE\n", [])
    ∷ (codes "f(a) a=|1;", codes "F f 1 1 0 0 6\na 0\nc 1\nm |\np\nc 0\nr\nE\n", [])
    ∷ (codes "f(a) a=&1;", codes "F f 1 1 0 0 6\na 0\nc 1\nm &\np\nc 0\nr\nE\n", [])
    ∷ (codes "f(a) a===1;", codes "F f 1 1 0 0 6\na 0\nc 1\nm ==\np\nc 0\nr\nE\n", [])
    ∷ (codes "f(a) a=!=1;", codes "F f 1 1 0 0 6\na 0\nc 1\nm !=\np\nc 0\nr\nE\n", [])
    ∷ (codes "f(a) a=<1;", codes "F f 1 1 0 0 6\na 0\nc 1\nm <\np\nc 0\nr\nE\n", [])
    ∷ (codes "f(a) a=<=1;", codes "F f 1 1 0 0 6\na 0\nc 1\nm <=\np\nc 0\nr\nE\n", [])
    ∷ (codes "f(a) a=>1;", codes "F f 1 1 0 0 6\na 0\nc 1\nm >\np\nc 0\nr\nE\n", [])
    ∷ (codes "f(a) a=>=1;", codes "F f 1 1 0 0 6\na 0\nc 1\nm >=\np\nc 0\nr\nE\n", [])
    ∷ (codes "f(a) a=<<1;", codes "F f 1 1 0 0 6\na 0\nc 1\nm <<\np\nc 0\nr\nE\n", [])
    ∷ (codes "f(a) a=>>1;", codes "F f 1 1 0 0 6\na 0\nc 1\nm >>\np\nc 0\nr\nE\n", [])
    ∷ (codes "f(a) a=-1;", codes "F f 1 1 0 0 6\na 0\nc 1\nm -\np\nc 0\nr\nE\n", [])
    ∷ (codes "f(a) a=+1;", codes "F f 1 1 0 0 6\na 0\nc 1\nm +\np\nc 0\nr\nE\n", [])
    ∷ (codes "f(a) a=%1;", codes "F f 1 1 0 0 6\na 0\nc 1\nm %\np\nc 0\nr\nE\n", [])
    ∷ (codes "f(a) a=*1;", codes "F f 1 1 0 0 6\na 0\nc 1\nm *\np\nc 0\nr\nE\n", [])
    ∷ (codes "f(a) a=/1;", codes "F f 1 1 0 0 6\na 0\nc 1\nm /\np\nc 0\nr\nE\n", [])
    ∷ []

-- each binary operator beside those of its own rank and of the next ones
abbrev pub operators : List Row
operators =
    (codes "f() 1|2|3;", codes "F f 0 0 0 0 8\nc 1\nc 2\nb |\nc 3\nb |\np\nc 0\nr\nE\n", [])
    ∷ (codes "f() 1&2&3;", codes "F f 0 0 0 0 8\nc 1\nc 2\nb &\nc 3\nb &\np\nc 0\nr\nE\n", [])
    ∷ (codes "f() 1==2!=3;", codes "F f 0 0 0 0 8\nc 1\nc 2\nb ==\nc 3\nb !=\np\nc 0\nr\nE\n", [])
    ∷ (
      codes "f() 1<2<=3>4>=5;",
      codes "F f 0 0 0 0 12\nc 1\nc 2\nb <\nc 3\nb <=\nc 4\nb >\nc 5\nb >=\np\nc 0\nr\nE\n",
      [],
    )
    ∷ (codes "f() 1<<2>>3;", codes "F f 0 0 0 0 8\nc 1\nc 2\nb <<\nc 3\nb >>\np\nc 0\nr\nE\n", [])
    ∷ (codes "f() 1-2+3;", codes "F f 0 0 0 0 8\nc 1\nc 2\nb -\nc 3\nb +\np\nc 0\nr\nE\n", [])
    ∷ (codes "f() 1*2/3%4;", codes "F f 0 0 0 0 10\nc 1\nc 2\nb *\nc 3\nb /\nc 4\nb %\np\nc 0\nr\nE\n", [])
    ∷ (codes "f() 1*2+3;", codes "F f 0 0 0 0 8\nc 1\nc 2\nb *\nc 3\nb +\np\nc 0\nr\nE\n", [])
    ∷ (codes "f() 1+2*3;", codes "F f 0 0 0 0 8\nc 1\nc 2\nc 3\nb *\nb +\np\nc 0\nr\nE\n", [])
    ∷ (codes "f() 1+2<<3;", codes "F f 0 0 0 0 8\nc 1\nc 2\nb +\nc 3\nb <<\np\nc 0\nr\nE\n", [])
    ∷ (codes "f() 1<<2+3;", codes "F f 0 0 0 0 8\nc 1\nc 2\nc 3\nb +\nb <<\np\nc 0\nr\nE\n", [])
    ∷ (codes "f() 1<<2<3;", codes "F f 0 0 0 0 8\nc 1\nc 2\nb <<\nc 3\nb <\np\nc 0\nr\nE\n", [])
    ∷ (codes "f() 1<2<<3;", codes "F f 0 0 0 0 8\nc 1\nc 2\nc 3\nb <<\nb <\np\nc 0\nr\nE\n", [])
    ∷ (codes "f() 1<2==3;", codes "F f 0 0 0 0 8\nc 1\nc 2\nb <\nc 3\nb ==\np\nc 0\nr\nE\n", [])
    ∷ (codes "f() 1==2<3;", codes "F f 0 0 0 0 8\nc 1\nc 2\nc 3\nb <\nb ==\np\nc 0\nr\nE\n", [])
    ∷ (codes "f() 1==2&3;", codes "F f 0 0 0 0 8\nc 1\nc 2\nb ==\nc 3\nb &\np\nc 0\nr\nE\n", [])
    ∷ (codes "f() 1&2==3;", codes "F f 0 0 0 0 8\nc 1\nc 2\nc 3\nb ==\nb &\np\nc 0\nr\nE\n", [])
    ∷ (codes "f() 1&2|3;", codes "F f 0 0 0 0 8\nc 1\nc 2\nb &\nc 3\nb |\np\nc 0\nr\nE\n", [])
    ∷ (codes "f() 1|2&3;", codes "F f 0 0 0 0 8\nc 1\nc 2\nc 3\nb &\nb |\np\nc 0\nr\nE\n", [])
    ∷ (
      codes "f() 1|2&3!=4<=5>>6-7/8;",
      codes "F f 0 0 0 0 18\nc 1\nc 2\nc 3\nc 4\nc 5\nc 6\nc 7\nc 8\nb /\nb -\nb >>\nb <=\nb !=\nb &\nb |\np\n"
          ++ codes "c 0\nr\nE\n",
      [],
    )
    ∷ (
      codes "f() 1/2-3>>4<=5!=6&7|8;",
      codes "F f 0 0 0 0 18\nc 1\nc 2\nb /\nc 3\nb -\nc 4\nb >>\nc 5\nb <=\nc 6\nb !=\nc 7\nb &\nc 8\nb |\np\n"
          ++ codes "c 0\nr\nE\n",
      [],
    )
    ∷ (
      codes "f() 1|2&3==4>5<<6+7%8;",
      codes "F f 0 0 0 0 18\nc 1\nc 2\nc 3\nc 4\nc 5\nc 6\nc 7\nc 8\nb %\nb +\nb <<\nb >\nb ==\nb &\nb |\np\n"
          ++ codes "c 0\nr\nE\n",
      [],
    )
    ∷ (
      codes "f() 1%2+3<<4>5==6&7|8;",
      codes "F f 0 0 0 0 18\nc 1\nc 2\nb %\nc 3\nb +\nc 4\nb <<\nc 5\nb >\nc 6\nb ==\nc 7\nb &\nc 8\nb |\np\n"
          ++ codes "c 0\nr\nE\n",
      [],
    )
    ∷ (
      codes "f() 1!=2>=3-4%5;",
      codes "F f 0 0 0 0 12\nc 1\nc 2\nc 3\nc 4\nc 5\nb %\nb -\nb >=\nb !=\np\nc 0\nr\nE\n",
      [],
    )
    ∷ (
      codes "f() 1%2-3>=4!=5;",
      codes "F f 0 0 0 0 12\nc 1\nc 2\nb %\nc 3\nb -\nc 4\nb >=\nc 5\nb !=\np\nc 0\nr\nE\n",
      [],
    )
    ∷ []

-- operands: prefix operators, indices, arguments, constants
abbrev pub operands : List Row
operands =
    (codes "f(a) -a[1];", codes "F f 1 1 0 0 9\na 0\nv\nc 1\nb +\nv\nn\np\nc 0\nr\nE\n", [])
    ∷ (codes "f(a) !a();", codes "F f 1 1 0 0 7\na 0\nv\nk 0\nh\np\nc 0\nr\nE\n", [])
    ∷ (codes "f(a) *a++;", codes "F f 1 1 0 0 6\na 0\ni 2\nv\np\nc 0\nr\nE\n", [])
    ∷ (codes "f(a) ++*a;", codes "F f 1 1 0 0 6\na 0\nv\ni 0\np\nc 0\nr\nE\n", [])
    ∷ (codes "f(a) --a[1];", codes "F f 1 1 0 0 8\na 0\nv\nc 1\nb +\ni 1\np\nc 0\nr\nE\n", [])
    ∷ (codes "f(a) &*a;", codes "F f 1 1 0 0 5\na 0\nv\np\nc 0\nr\nE\n", [])
    ∷ (codes "f(a) -a+1;", codes "F f 1 1 0 0 8\na 0\nv\nn\nc 1\nb +\np\nc 0\nr\nE\n", [])
    ∷ (codes "f(a) a*-1;", codes "F f 1 1 0 0 8\na 0\nv\nc 1\nn\nb *\np\nc 0\nr\nE\n", [])
    ∷ (codes "f(a) -a=1;", [], codes "lv 1\n")
    ∷ (codes "f(a) *a=1;", codes "F f 1 1 0 0 7\na 0\nv\nc 1\nw\np\nc 0\nr\nE\n", [])
    ∷ (codes "f(a) a[1]=2;", codes "F f 1 1 0 0 9\na 0\nv\nc 1\nb +\nc 2\nw\np\nc 0\nr\nE\n", [])
    ∷ (codes "f(a) (a)=1;", codes "F f 1 1 0 0 6\na 0\nc 1\nw\np\nc 0\nr\nE\n", [])
    ∷ (codes "f(a) a=a=1;", codes "F f 1 1 0 0 8\na 0\na 0\nc 1\nw\nw\np\nc 0\nr\nE\n", [])
    ∷ (codes "f(a) 1?2:3?4:5;", codes "F f 1 1 0 0 12\nc 1\nz 4\nc 2\nj 9\nc 3\nz 8\nc 4\nj 9\nc 5\np\nc 0\nr\nE\n", [])
    ∷ (codes "f(a) 1|2?3:4;", codes "F f 1 1 0 0 10\nc 1\nc 2\nb |\nz 6\nc 3\nj 7\nc 4\np\nc 0\nr\nE\n", [])
    ∷ (codes "f(a) 1?2:3|4;", codes "F f 1 1 0 0 10\nc 1\nz 4\nc 2\nj 7\nc 3\nc 4\nb |\np\nc 0\nr\nE\n", [])
    ∷ (codes "f(a) (a=1)?2:3;", codes "F f 1 1 0 0 10\na 0\nc 1\nw\nz 6\nc 2\nj 7\nc 3\np\nc 0\nr\nE\n", [])
    ∷ (codes "f(a) a=1?2:3;", codes "F f 1 1 0 0 10\na 0\nc 1\nz 5\nc 2\nj 6\nc 3\nw\np\nc 0\nr\nE\n", [])
    ∷ (codes "f(a) a(1)[2];", codes "F f 1 1 0 0 10\na 0\nv\nc 1\nk 1\nc 2\nb +\nv\np\nc 0\nr\nE\n", [])
    ∷ (codes "f(a) a[1](2);", codes "F f 1 1 0 0 10\na 0\nv\nc 1\nb +\nv\nc 2\nk 1\np\nc 0\nr\nE\n", [])
    ∷ (codes "f(a) a(1)(2)[3];", codes "F f 1 1 0 0 12\na 0\nv\nc 1\nk 1\nc 2\nk 1\nc 3\nb +\nv\np\nc 0\nr\nE\n", [])
    ∷ (codes "f(a) a[1]--;", codes "F f 1 1 0 0 8\na 0\nv\nc 1\nb +\ni 3\np\nc 0\nr\nE\n", [])
    ∷ (codes "f(a) (a)();", codes "F f 1 1 0 0 6\na 0\nv\nk 0\np\nc 0\nr\nE\n", [])
    ∷ (codes "f(a) 1();", codes "F f 1 1 0 0 5\nc 1\nk 0\np\nc 0\nr\nE\n", [])
    ∷ (codes "f() \"a\"[1];", codes "F f 0 0 0 1 7\nw 1121\ns 0\nc 1\nb +\nv\np\nc 0\nr\nE\n", [])
    ∷ (codes "f() 'a'[1];", codes "F f 0 0 0 0 7\nc 97\nc 1\nb +\nv\np\nc 0\nr\nE\n", [])
    ∷ (codes "f() g(1,2,3);", codes "F f 0 0 0 0 9\nx g\nv\nc 1\nc 2\nc 3\nk 3\np\nc 0\nr\nE\n", [])
    ∷ (codes "f() (1);", codes "F f 0 0 0 0 4\nc 1\np\nc 0\nr\nE\n", [])
    ∷ (codes "f() ((1));", codes "F f 0 0 0 0 4\nc 1\np\nc 0\nr\nE\n", [])
    ∷ (codes "f() 'ab';", codes "F f 0 0 0 0 4\nc 24930\np\nc 0\nr\nE\n", [])
    ∷ (codes "f() \"\";", codes "F f 0 0 0 1 4\nw 4\ns 0\np\nc 0\nr\nE\n", [])
    ∷ (codes "f() \"abc\";", codes "F f 0 0 0 2 4\nw 25185\nw 1123\ns 0\np\nc 0\nr\nE\n", [])
    ∷ (codes "f() 65535;", codes "F f 0 0 0 0 4\nc 65535\np\nc 0\nr\nE\n", [])
    ∷ (codes "f(a) (a)[1];", codes "F f 1 1 0 0 8\na 0\nv\nc 1\nb +\nv\np\nc 0\nr\nE\n", [])
    ∷ (codes "f(a) a++[1];", codes "F f 1 1 0 0 8\na 0\ni 2\nc 1\nb +\nv\np\nc 0\nr\nE\n", [])
    ∷ (codes "f(a) a--();", codes "F f 1 1 0 0 6\na 0\ni 3\nk 0\np\nc 0\nr\nE\n", [])
    ∷ (codes "f() \"a\"();", codes "F f 0 0 0 1 5\nw 1121\ns 0\nk 0\np\nc 0\nr\nE\n", [])
    ∷ (codes "f(a) (a)++;", codes "F f 1 1 0 0 5\na 0\ni 2\np\nc 0\nr\nE\n", [])
    ∷ (codes "f(a) --(a);", codes "F f 1 1 0 0 5\na 0\ni 1\np\nc 0\nr\nE\n", [])
    ∷ (codes "f(a) **a;", codes "F f 1 1 0 0 7\na 0\nv\nv\nv\np\nc 0\nr\nE\n", [])
    ∷ (codes "f() *1;", codes "F f 0 0 0 0 5\nc 1\nv\np\nc 0\nr\nE\n", [])
    ∷ (codes "f(a) !-a;", codes "F f 1 1 0 0 7\na 0\nv\nn\nh\np\nc 0\nr\nE\n", [])
    ∷ (codes "f() &1;", [], codes "lv 1\n")
    ∷ (codes "f() --1;", [], codes "lv 1\n")
    ∷ (codes "f() 1--;", [], codes "lv 1\n")
    ∷ []

-- with which no program begins
abbrev pub refused : List (List ℕ)
refused =
    codes ";" ∷ codes "1;" ∷ codes "{}" ∷ codes "auto;" ∷ codes "if;" ∷ codes "n 1 2;" ∷ codes "n" ∷ codes "n 1" ∷
    codes "n=1;" ∷ codes "v[;" ∷ codes "v];" ∷ codes "v[n];" ∷ codes "v[\"a\"];" ∷ codes "v[1;" ∷ codes "v[1] 1,;" ∷
    codes "v[1] ,1;" ∷ codes "v[1]" ∷ codes "v[-1];" ∷ codes "v[1][2];" ∷ codes "f( ;" ∷ codes "f) ;" ∷
    codes "f(1) ;" ∷ codes "f(\"a\") ;" ∷ codes "f(a,b;) ;" ∷ codes "f(a,1) ;" ∷ codes "f(a)" ∷ codes "f()" ∷
    codes "f(if) ;" ∷ codes "f(a)() ;" ∷ codes "n -1;" ∷ codes "n (1);" ∷ codes "n if;" ∷ codes "n {1};" ∷
    codes "n a[1];" ∷ codes "n 1+1;" ∷ codes "n &a;" ∷ codes "f(a) auto a b; ;" ∷ codes "f(a) auto a[1]; ;" ∷
    codes "f(a) auto a=1; ;" ∷ codes "f(a) auto a -1; ;" ∷ codes "f(a) auto a 1 2; ;" ∷ codes "f(a) auto if; ;" ∷
    codes "f(a) auto a" ∷ codes "f(a) auto a;" ∷ codes "f(a) auto a; }" ∷ codes "f(a) auto a,1; ;" ∷
    codes "f(a) extrn 1; ;" ∷ codes "f(a) extrn a 1; ;" ∷ codes "f(a) extrn a b; ;" ∷ codes "f(a) extrn a[1]; ;" ∷
    codes "f(a) extrn a" ∷ codes "f(a) extrn a;" ∷ codes "f(a) extrn a; }" ∷ codes "f(a) 1: ;" ∷
    codes "f(a) (L): ;" ∷ codes "f(a) L+1: ;" ∷ codes "f(a) L:" ∷ codes "f(a) L: }" ∷ codes "f(a) case a: ;" ∷
    codes "f(a) case -1: ;" ∷ codes "f(a) case 1,2: ;" ∷ codes "f(a) case (1): ;" ∷ codes "f(a) case : ;" ∷
    codes "f(a) case 1 ;" ∷ codes "f(a) case 1:" ∷ codes "f(a) {" ∷ codes "f(a) }" ∷ codes "f(a) { ;" ∷
    codes "f(a) { ) }" ∷ codes "f(a) if 1 ;" ∷ codes "f(a) if (1 ;" ∷ codes "f(a) if 1) ;" ∷ codes "f(a) if(1)" ∷
    codes "f(a) if(1) }" ∷ codes "f(a) if(1) else ;" ∷ codes "f(a) if(1) ; else" ∷ codes "f(a) if(1) ; else }" ∷
    codes "f(a) if(1) ; else else ;" ∷ codes "f(a) while 1 ;" ∷ codes "f(a) while(1 ;" ∷ codes "f(a) while(1)" ∷
    codes "f(a) while(1) }" ∷ codes "f(a) switch 1 ;" ∷ codes "f(a) switch 1 {" ∷ codes "f(a) switch 1 }" ∷
    codes "f(a) switch 1 { ) }" ∷ codes "f(a) switch (1 {}" ∷ codes "f(a) goto" ∷ codes "f(a) goto L" ∷
    codes "f(a) goto }" ∷ codes "f(a) goto if;" ∷ codes "f(a) return 1;" ∷ codes "f(a) return(1)" ∷
    codes "f(a) return(1;" ∷ codes "f(a) return(1)+2;" ∷ codes "f(a) return" ∷ codes "f(a) 1" ∷ codes "f(a) 1 2;" ∷
    codes "f(a) 1,2;" ∷ codes "f(a) 1 }" ∷ codes "f(a) a=;" ∷ codes "f(a) =1;" ∷ codes "f(a) a+b=1;" ∷
    codes "f(a) a?b:c=1;" ∷ codes "f(a) 1=" ∷ codes "f(a) 1?2;" ∷ codes "f(a) 1?:2;" ∷ codes "f(a) 1?2:;" ∷
    codes "f(a) ?1:2;" ∷ codes "f(a) 1?2:3:4;" ∷ codes "f(a) 1&;" ∷ codes "f(a) 1==;" ∷ codes "f(a) ==1;" ∷
    codes "f(a) 1<;" ∷ codes "f(a) <1;" ∷ codes "f(a) 1<<;" ∷ codes "f(a) <<1;" ∷ codes "f(a) 1-;" ∷
    codes "f(a) 1+;" ∷ codes "f(a) +1;" ∷ codes "f(a) 1*;" ∷ codes "f(a) 1/;" ∷ codes "f(a) /1;" ∷ codes "f(a) %1;" ∷
    codes "f(a) -;" ∷ codes "f(a) !;" ∷ codes "f(a) *;" ∷ codes "f(a) &;" ∷ codes "f(a) ++;" ∷ codes "f(a) 1+++;" ∷
    codes "f(a) 1!2;" ∷ codes "f(a) a[1;" ∷ codes "f(a) a[1" ∷ codes "f(a) a[1 2];" ∷ codes "f(a) a[1,2];" ∷
    codes "f(a) a];" ∷ codes "f(a) a(1;" ∷ codes "f(a) a(1" ∷ codes "f(a) a(1 2);" ∷ codes "f(a) a(,);" ∷
    codes "f(a) a(,1);" ∷ codes "f(a) a(1;);" ∷ codes "f(a) (1;" ∷ codes "f(a) (1" ∷ codes "f(a) 1);" ∷
    codes "f(a) () ;" ∷ codes "f(a) [1];" ∷ codes "f(a) if;" ∷ codes "f(a) 1|;" ∷ codes "f(a) |1;" ∷
    codes "f(a,) ;" ∷ codes "n 1,(;" ∷ codes "f(a) while 1) ;" ∷ codes "f(a) 1?2 3;" ∷ []

-- these sources have no code, and this line
abbrev pub all_refused : (code : List ℕ) → List (List ℕ) → List Row
all_refused code sources = map (λ source. (source, code, codes "sx 1\n")) sources

-- a break at each place in a loop or a switch, and a default at each in a switch
abbrev pub statements_of_two : List Row
statements_of_two =
    (codes "f() while(1) break;", codes "B 2\nF f 0 0 0 0 6\nc 1\nz 4\nj 4\nj 0\nc 0\nr\nE\n", [])
    ∷ (codes "f() switch 1 { break; }", codes "B 2\nF f 0 0 0 0 7\nc 1\nj 4\nj 5\nj 5\np\nc 0\nr\nE\n", [])
    ∷ (
      codes "f() switch 1 { case 2: break; }",
      codes "B 2\nF f 0 0 0 0 8\nc 1\nj 4\nj 6\nj 6\ne 2 2\np\nc 0\nr\nE\n",
      [],
    )
    ∷ (codes "f() while(1) { ; break; }", codes "B 2\nF f 0 0 0 0 6\nc 1\nz 4\nj 4\nj 0\nc 0\nr\nE\n", [])
    ∷ (codes "f() while(1) if(2) break;", codes "B 2\nF f 0 0 0 0 8\nc 1\nz 6\nc 2\nz 5\nj 6\nj 0\nc 0\nr\nE\n", [])
    ∷ (
      codes "f() while(1) if(2) ; else break;",
      codes "B 2\nF f 0 0 0 0 9\nc 1\nz 7\nc 2\nz 5\nj 6\nj 7\nj 0\nc 0\nr\nE\n",
      [],
    )
    ∷ (codes "f() while(1) auto a; break;", codes "B 2\nF f 0 1 0 0 6\nc 1\nz 4\nj 4\nj 0\nc 0\nr\nE\n", [])
    ∷ (codes "f() while(1) extrn a; break;", codes "B 2\nF f 0 0 0 0 6\nc 1\nz 4\nj 4\nj 0\nc 0\nr\nE\n", [])
    ∷ (codes "f() while(1) L: break;", codes "B 2\nF f 0 0 1 0 6\nt 2\nc 1\nz 4\nj 4\nj 0\nc 0\nr\nE\n", [])
    ∷ (
      codes "f() switch 1 { while(2) break; }",
      codes "B 2\nF f 0 0 0 0 10\nc 1\nj 7\nc 2\nz 6\nj 6\nj 2\nj 8\np\nc 0\nr\nE\n",
      [],
    )
    ∷ (
      codes "f() while(1) switch 2 { break; }",
      codes "B 2\nF f 0 0 0 0 10\nc 1\nz 8\nc 2\nj 6\nj 7\nj 7\np\nj 0\nc 0\nr\nE\n",
      [],
    )
    ∷ (
      codes "f() switch 1 { default: break; }",
      codes "B 2\nF f 0 0 0 0 8\nc 1\nj 4\nj 6\nj 6\np\nj 2\nc 0\nr\nE\n",
      [],
    )
    ∷ (codes "f() switch 1 { default: ; }", codes "B 2\nF f 0 0 0 0 7\nc 1\nj 3\nj 5\np\nj 2\nc 0\nr\nE\n", [])
    ∷ (codes "f() switch 1 { auto a; default: ; }", codes "B 2\nF f 0 1 0 0 7\nc 1\nj 3\nj 5\np\nj 2\nc 0\nr\nE\n", [])
    ∷ (codes "f() switch 1 { extrn a; default: ; }", codes "B 2\nF f 0 0 0 0 7\nc 1\nj 3\nj 5\np\nj 2\nc 0\nr\nE\n", [])
    ∷ (codes "f() switch 1 { L: default: ; }", codes "B 2\nF f 0 0 1 0 7\nt 2\nc 1\nj 3\nj 5\np\nj 2\nc 0\nr\nE\n", [])
    ∷ (
      codes "f() switch 1 { case 2: default: ; }",
      codes "B 2\nF f 0 0 0 0 8\nc 1\nj 3\nj 6\ne 2 2\np\nj 2\nc 0\nr\nE\n",
      [],
    )
    ∷ (codes "f() switch 1 { { default: ; } }", codes "B 2\nF f 0 0 0 0 7\nc 1\nj 3\nj 5\np\nj 2\nc 0\nr\nE\n", [])
    ∷ (
      codes "f() switch 1 { if(1) default: ; }",
      codes "B 2\nF f 0 0 0 0 9\nc 1\nj 5\nc 1\nz 4\nj 7\np\nj 4\nc 0\nr\nE\n",
      [],
    )
    ∷ (
      codes "f() switch 1 { if(1) ; else default: ; }",
      codes "B 2\nF f 0 0 0 0 10\nc 1\nj 6\nc 1\nz 5\nj 5\nj 8\np\nj 5\nc 0\nr\nE\n",
      [],
    )
    ∷ (
      codes "f() switch 1 { while(1) default: ; }",
      codes "B 2\nF f 0 0 0 0 10\nc 1\nj 6\nc 1\nz 5\nj 2\nj 8\np\nj 4\nc 0\nr\nE\n",
      [],
    )
    ∷ (
      codes "f() switch 1 { switch 2 { default: ; } }",
      codes "B 2\nF f 0 0 0 0 11\nc 1\nj 8\nc 2\nj 5\nj 7\np\nj 4\nj 9\np\nc 0\nr\nE\n",
      [],
    )
    ∷ (
      codes "f() switch 1 { default: case 2: ; }",
      codes "B 2\nF f 0 0 0 0 8\nc 1\nj 3\nj 6\ne 2 2\np\nj 2\nc 0\nr\nE\n",
      [],
    )
    ∷ (codes "f() while(1) { { break; } }", codes "B 2\nF f 0 0 0 0 6\nc 1\nz 4\nj 4\nj 0\nc 0\nr\nE\n", [])
    ∷ (codes "f() switch 1 { default: auto b; ; }", codes "B 2\nF f 0 1 0 0 7\nc 1\nj 3\nj 5\np\nj 2\nc 0\nr\nE\n", [])
    ∷ (
      codes "f() switch 1 { default: auto b 1; ; }",
      codes "B 2\nF f 0 3 0 0 11\nc 1\nj 7\na 0\na 1\nw\np\nj 9\np\nj 2\nc 0\nr\nE\n",
      [],
    )
    ∷ (codes "f() switch 1 { default: extrn b; ; }", codes "B 2\nF f 0 0 0 0 7\nc 1\nj 3\nj 5\np\nj 2\nc 0\nr\nE\n", [])
    ∷ (codes "f() switch 1 { default: M: ; }", codes "B 2\nF f 0 0 1 0 7\nt 2\nc 1\nj 3\nj 5\np\nj 2\nc 0\nr\nE\n", [])
    ∷ (codes "f() switch 1 { default: {} }", codes "B 2\nF f 0 0 0 0 7\nc 1\nj 3\nj 5\np\nj 2\nc 0\nr\nE\n", [])
    ∷ (
      codes "f() switch 1 { default: { 2; } }",
      codes "B 2\nF f 0 0 0 0 9\nc 1\nj 5\nc 2\np\nj 7\np\nj 2\nc 0\nr\nE\n",
      [],
    )
    ∷ (
      codes "f() switch 1 { default: if(2) ; }",
      codes "B 2\nF f 0 0 0 0 9\nc 1\nj 5\nc 2\nz 4\nj 7\np\nj 2\nc 0\nr\nE\n",
      [],
    )
    ∷ (
      codes "f() switch 1 { default: if(2) ; else ; }",
      codes "B 2\nF f 0 0 0 0 10\nc 1\nj 6\nc 2\nz 5\nj 5\nj 8\np\nj 2\nc 0\nr\nE\n",
      [],
    )
    ∷ (
      codes "f() switch 1 { default: while(2) ; }",
      codes "B 2\nF f 0 0 0 0 10\nc 1\nj 6\nc 2\nz 5\nj 2\nj 8\np\nj 2\nc 0\nr\nE\n",
      [],
    )
    ∷ (
      codes "f() switch 1 { default: switch 2 {} }",
      codes "B 2\nF f 0 0 0 0 11\nc 1\nj 7\nc 2\nj 5\nj 6\np\nj 9\np\nj 2\nc 0\nr\nE\n",
      [],
    )
    ∷ (
      codes "f() switch 1 { default: goto 2; }",
      codes "B 2\nF f 0 0 0 0 9\nc 1\nj 5\nc 2\ng\nj 7\np\nj 2\nc 0\nr\nE\n",
      [],
    )
    ∷ (
      codes "f() switch 1 { default: return; }",
      codes "B 2\nF f 0 0 0 0 9\nc 1\nj 5\nc 0\nr\nj 7\np\nj 2\nc 0\nr\nE\n",
      [],
    )
    ∷ (
      codes "f() switch 1 { default: return(2); }",
      codes "B 2\nF f 0 0 0 0 9\nc 1\nj 5\nc 2\nr\nj 7\np\nj 2\nc 0\nr\nE\n",
      [],
    )
    ∷ (codes "f() switch 1 { default: 2; }", codes "B 2\nF f 0 0 0 0 9\nc 1\nj 5\nc 2\np\nj 7\np\nj 2\nc 0\nr\nE\n", [])
    ∷ (
      codes "f() switch 1 { if(1) default: break; else ; }",
      codes "B 2\nF f 0 0 0 0 11\nc 1\nj 7\nc 1\nz 6\nj 9\nj 6\nj 9\np\nj 4\nc 0\nr\nE\n",
      [],
    )
    ∷ (
      codes "f() while(1) if(2) break; else ;",
      codes "B 2\nF f 0 0 0 0 9\nc 1\nz 7\nc 2\nz 6\nj 7\nj 6\nj 0\nc 0\nr\nE\n",
      [],
    )
    ∷ (
      codes "f() switch 1 { ; default: ; break; ; }",
      codes "B 2\nF f 0 0 0 0 8\nc 1\nj 4\nj 6\nj 6\np\nj 2\nc 0\nr\nE\n",
      [],
    )
    ∷ (
      codes "f() while(1) { { ; break; } break; ; }",
      codes "B 2\nF f 0 0 0 0 7\nc 1\nz 5\nj 5\nj 5\nj 0\nc 0\nr\nE\n",
      [],
    )
    ∷ []

-- with which no program of the second edition begins
abbrev pub refused_in_two : List (List ℕ)
refused_in_two =
    codes "f() while(1) break 1;" ∷ codes "f() while(1) break" ∷ codes "f() while(1) break(1);" ∷
    codes "f() switch 1 { default; }" ∷ codes "f() switch 1 { default 1: ; }" ∷ codes "f() switch 1 { default: }" ∷
    codes "f() switch 1 { case default: ; }" ∷ codes "f() switch 1 { default:" ∷ codes "default;" ∷
    codes "f() default();" ∷ codes "f() 1+break;" ∷ []
