-- Closed facts: what is written for whole sources, a source a row: the code text, and the line of the diagnostic.
use Rattle.std.specs.Prelude.{◌≡◌, ℕ, List, [], ◌∷◌, ◌++◌, codes}
use Rattle.bword.specs.declared.edition.Edition.{Edition}
use Rattle.bword.specs.declared.edition.Edition.TheVariants as editions
use Rattle.blang.specs.Cut.{tokens_from}
use Rattle.blang.specs.Compiles.{Compilation, CompilesTo, code_text, fault_text}

-- This code text and this line come of the source in an edition, and nothing else does.
pub record ComesIn (edition : Edition) (source code line : List ℕ) : Type 0 where
  pub outcome : Compilation
  pub goes : CompilesTo [] (tokens_from edition 1 source) outcome
  pub code_is : code_text edition outcome ≡ code
  pub line_is : fault_text outcome.stop ≡ line

abbrev pub Comes : List ℕ → List ℕ → List ℕ → Type 0
Comes source code line = ComesIn editions.One source code line

-- a source, its code text and its line
abbrev pub Row : Type 0
Row = List ℕ × List ℕ × List ℕ

-- what comes of each
abbrev pub AllCome : Edition → List Row → Type 0
AllCome edition [] = Unit {0}
AllCome edition ((source, code, line) ∷ rows) = ComesIn edition source code line × AllCome edition rows

-- definitions beside functions
abbrev pub externals : List Row
externals =
    ([], codes "E\n", [])
    ∷ (codes "n 2000;", codes "X n 1 0\nc 2000\nE\n", [])
    ∷ (codes "a;a;", codes "X a 0 0\n", codes "rd a 1\n")
    ∷ (codes "a; /* x", codes "X a 0 0\n", codes "*/ 1\n")
    ∷ (codes "s \"ab\", t, 'x'; t;", codes "X s 3 2\ns 0\nx t\nc 120\nw 25185\nw 4\nX t 0 0\nE\n", [])
    ∷ (codes "v[2] 1,2,3,4;", codes "V v 4 4 0\nc 1\nc 2\nc 3\nc 4\nE\n", [])
    ∷ (codes "v[5] 1;", codes "V v 6 1 0\nc 1\nE\n", [])
    ∷ (codes "v[];", codes "V v 1 0 0\nE\n", [])
    ∷ (codes "v[32766];", codes "V v 32767 0 0\nE\n", [])
    ∷ (codes "v[32767];", [], codes ">e 1\n")
    ∷ (codes "n 'ab';", codes "X n 1 0\nc 24930\nE\n", [])
    ∷ (codes "n/*x*/017;", codes "X n 1 0\nc 15\nE\n", [])
    ∷ (codes "abcdefghi;", [], codes "nm 1\n")
    ∷ (codes "n 08;", [], codes "ct 1\n")
    ∷ (codes "n 65536;", [], codes "ct 1\n")
    ∷ (codes "n '';", [], codes "ct 1\n")
    ∷ (codes "n #;", [], codes "ch 1\n")
    ∷ (codes "n -1;", [], codes "sx 1\n")
    ∷ (codes "n 5", [], codes "sx 1\n")
    ∷ []

-- functions, and where the syntax of one is at fault
abbrev pub functions : List Row
functions =
    (codes "main(){}", codes "F main 0 0 0 0 2\nc 0\nr\nE\n", [])
    ∷ (codes "f() ;", codes "F f 0 0 0 0 2\nc 0\nr\nE\n", [])
    ∷ (codes "main() { auto x; }", [], codes "sx 1\n")
    ∷ (codes "f() if(1) ; 5", codes "F f 0 0 0 0 4\nc 1\nz 2\nc 0\nr\n", codes "sx 1\n")
    ∷ (codes "f() if(1) ; else )", [], codes "sx 1\n")
    ∷ (codes "f() { 1 = 2; ) }", [], codes "sx 1\n")
    ∷ (codes "f() { auto a, a; ) }", [], codes "sx 1\n")
    ∷ (codes "f(a) a=!a;", codes "F f 1 1 0 0 8\na 0\na 0\nv\nh\nw\np\nc 0\nr\nE\n", [])
    ∷ (codes "f(x) return(x ? 1 : 2);", codes "F f 1 1 0 0 9\na 0\nv\nz 5\nc 1\nj 6\nc 2\nr\nc 0\nr\nE\n", [])
    ∷ (
      codes "f() while(1) if(2) 3; else 4;",
      codes "F f 0 0 0 0 12\nc 1\nz 10\nc 2\nz 7\nc 3\np\nj 9\nc 4\np\nj 0\nc 0\nr\nE\n",
      [],
    )
    ∷ (codes "f(x) x+++x;", codes "F f 1 1 0 0 8\na 0\ni 2\na 0\nv\nb +\np\nc 0\nr\nE\n", [])
    ∷ (codes "g(x) x(\"hi\",x);", codes "F g 1 1 0 2 9\nw 26984\nw 4\na 0\nv\ns 0\na 0\nv\nk 2\np\nc 0\nr\nE\n", [])
    ∷ (codes "f() g();", codes "F f 0 0 0 0 6\nx g\nv\nk 0\np\nc 0\nr\nE\n", [])
    ∷ (codes "f(a,b,c) a+b=c;", [], codes "sx 1\n")
    ∷ (codes "f(a,b,c) a?b:c=a;", [], codes "sx 1\n")
    ∷ (codes "f() { auto v 32765; ; }", codes "F f 0 32767 0 0 6\na 0\na 1\nw\np\nc 0\nr\nE\n", [])
    ∷ (
      codes "f(a) { auto v 1, i; L: v[i] =+ a; switch a { case 2: goto L; } return(i); }",
      codes "F f 1 5 1 0 26\nt 4\na 1\na 2\nw\np\na 1\nv\na 4\nv\nb +\na 0\nv\nm +\np\na 0\nv\nj 19\nl 0\ng\n"
          ++ codes "j 21\ne 2 16\np\na 4\nv\nr\nc 0\nr\nE\n",
      [],
    )
    ∷ (codes "f() { L: goto L; }", codes "F f 0 0 1 0 4\nt 0\nl 0\ng\nc 0\nr\nE\n", [])
    ∷ []

-- faults of names, cases and lvalues
abbrev pub faults : List Row
faults =
    (codes "f() { 1 = 2; }", [], codes "lv 1\n")
    ∷ (codes "f()\n1\n= (2\n= 3);", [], codes "lv 3\n")
    ∷ (codes "f(a,b) -a=b;", [], codes "lv 1\n")
    ∷ (codes "f(a) a(1)=2;", [], codes "lv 1\n")
    ∷ (codes "main(){x=5;}", [], codes "lv 1\n")
    ∷ (codes "main(){return(x);}", [], codes "un x 1\n")
    ∷ (codes "f() g+g();", [], codes "un g 1\n")
    ∷ (codes "f() (g)();", [], codes "un g 1\n")
    ∷ (codes "f() {\ngoto L;\n}", [], codes "un L 2\n")
    ∷ (codes "f() {\ngoto B;\ngoto A; goto B; }", [], codes "un B 2\n")
    ∷ (codes "f() { goto B;\ngoto A; B: ; }", [], codes "un A 2\n")
    ∷ (codes "f(a,a) ;", [], codes "rd a 1\n")
    ∷ (codes "f() {\nextrn a;\nauto a; ; }", [], codes "rd a 3\n")
    ∷ (codes "f(p) {\nh = --p; extrn h; ; }", [], codes "lv 2\n")
    ∷ (codes "f() { h;\nextrn h; ; }", [], codes "rd h 2\n")
    ∷ (codes "f() { L:\nL: ; }", [], codes "rd L 2\n")
    ∷ (codes "f() { L: ; L: ; goto M; }", [], codes "rd L 1\n")
    ∷ (codes "f() { goto M; L: ; L: ; }", [], codes "rd L 1\n")
    ∷ (codes "f() { case 1: ; L: L: ; }", [], codes "sx case 1\n")
    ∷ (codes "f()\ncase 1: ;", [], codes "sx case 2\n")
    ∷ (codes "f() switch 1 {\ncase 2: ;\ncase 2: ; }", [], codes "rd case 3\n")
    ∷ (codes "f() switch 1 { case 1: switch 2 { case 1: ; } case 1: ; }", [], codes "rd case 1\n")
    ∷ (
      codes "f() { switch 1 { case 1: ; } switch 2 { case 1: ; } }",
      codes "F f 0 0 0 0 12\nc 1\nj 3\nj 5\ne 1 2\np\nc 2\nj 8\nj 10\ne 1 7\np\nc 0\nr\nE\n",
      [],
    )
    ∷ (codes "f() { auto v 32766; ; }", [], codes ">e 1\n")
    ∷ (codes "f() { auto v 32766; x; }", [], codes "un x 1\n")
    ∷ (codes "v; v[32767];", codes "X v 0 0\n", codes "rd v 1\n")
    ∷ []

-- each fault with its line
abbrev pub places : List Row
places =
    (codes "a;\n/* x", codes "X a 0 0\n", codes "*/ 2\n")
    ∷ (codes "a;\n #", codes "X a 0 0\n", codes "ch 2\n")
    ∷ (codes "a;\n\nabcdefghi;", codes "X a 0 0\n", codes "nm 3\n")
    ∷ (codes "n\n65536;", [], codes "ct 2\n")
    ∷ (codes "n\n 'a\n';", [], codes "ct 2\n")
    ∷ (codes "n\n/*\n*/ -1;", [], codes "sx 3\n")
    ∷ (codes "n 5\n", [], codes "sx 2\n")
    ∷ (codes "a;\na;", codes "X a 0 0\n", codes "rd a 2\n")
    ∷ (codes "\nv[\n32767];", [], codes ">e 2\n")
    ∷ []

-- sources at the edges of the rules
abbrev pub edges : List Row
edges =
    (codes "f(a) f(a=1);", codes "F f 1 1 0 0 9\nx f\nv\na 0\nc 1\nw\nk 1\np\nc 0\nr\nE\n", [])
    ∷ (codes "f(a) a[a=1];", codes "F f 1 1 0 0 10\na 0\nv\na 0\nc 1\nw\nb +\nv\np\nc 0\nr\nE\n", [])
    ∷ (codes "f(a) a?a=1:2;", codes "F f 1 1 0 0 11\na 0\nv\nz 7\na 0\nc 1\nw\nj 8\nc 2\np\nc 0\nr\nE\n", [])
    ∷ (codes "f(a) switch a=1 { }", codes "F f 1 1 0 0 8\na 0\nc 1\nw\nj 5\nj 6\np\nc 0\nr\nE\n", [])
    ∷ (codes "f(a) goto a=1;", codes "F f 1 1 0 0 6\na 0\nc 1\nw\ng\nc 0\nr\nE\n", [])
    ∷ (codes "f(a) return(a=1);", codes "F f 1 1 0 0 6\na 0\nc 1\nw\nr\nc 0\nr\nE\n", [])
    ∷ (codes "f(a) while(a=1) ;", codes "F f 1 1 0 0 7\na 0\nc 1\nw\nz 5\nj 0\nc 0\nr\nE\n", [])
    ∷ (codes "f(a) if(a=1) ; else ;", codes "F f 1 1 0 0 7\na 0\nc 1\nw\nz 5\nj 5\nc 0\nr\nE\n", [])
    ∷ (codes "f(a) (a=1);", codes "F f 1 1 0 0 6\na 0\nc 1\nw\np\nc 0\nr\nE\n", [])
    ∷ (codes "f(a) - -!*&a;", codes "F f 1 1 0 0 8\na 0\nv\nh\nn\nn\np\nc 0\nr\nE\n", [])
    ∷ (codes "f(a) a()();", codes "F f 1 1 0 0 7\na 0\nv\nk 0\nk 0\np\nc 0\nr\nE\n", [])
    ∷ (codes "f(a) a[1][2]++;", codes "F f 1 1 0 0 11\na 0\nv\nc 1\nb +\nv\nc 2\nb +\ni 2\np\nc 0\nr\nE\n", [])
    ∷ (codes "n 00000001;", codes "X n 1 0\nc 1\nE\n", [])
    ∷ (codes "f(v) v[0];", codes "F f 1 1 0 0 8\na 0\nv\nc 0\nb +\nv\np\nc 0\nr\nE\n", [])
    ∷ (codes "f() -1;", codes "F f 0 0 0 0 5\nc 1\nn\np\nc 0\nr\nE\n", [])
    ∷ (codes "f() !1;", codes "F f 0 0 0 0 5\nc 1\nh\np\nc 0\nr\nE\n", [])
    ∷ (codes "f() 1+2;", codes "F f 0 0 0 0 6\nc 1\nc 2\nb +\np\nc 0\nr\nE\n", [])
    ∷ (codes "f() 1?2:3;", codes "F f 0 0 0 0 8\nc 1\nz 4\nc 2\nj 5\nc 3\np\nc 0\nr\nE\n", [])
    ∷ (codes "f() return;", codes "F f 0 0 0 0 4\nc 0\nr\nc 0\nr\nE\n", [])
    ∷ (codes "f(a) ++a;", codes "F f 1 1 0 0 5\na 0\ni 0\np\nc 0\nr\nE\n", [])
    ∷ (codes "f(a) --a;", codes "F f 1 1 0 0 5\na 0\ni 1\np\nc 0\nr\nE\n", [])
    ∷ (codes "f(a) *&a;", codes "F f 1 1 0 0 5\na 0\nv\np\nc 0\nr\nE\n", [])
    ∷ (codes "f(a) &a[0];", codes "F f 1 1 0 0 7\na 0\nv\nc 0\nb +\np\nc 0\nr\nE\n", [])
    ∷ (codes "f() { \"a\"; \"a\"; }", codes "F f 0 0 0 2 6\nw 1121\nw 1121\ns 0\np\ns 1\np\nc 0\nr\nE\n", [])
    ∷ (codes "v[0];", codes "V v 1 0 0\nE\n", [])
    ∷ (codes "v[] 1,2,3;", codes "V v 3 3 0\nc 1\nc 2\nc 3\nE\n", [])
    ∷ (codes "f() auto v 0, w; w;", codes "F f 0 3 0 0 9\na 0\na 1\nw\np\na 2\nv\np\nc 0\nr\nE\n", [])
    ∷ (
      codes "f() switch 1 { while(2) { case 3: ; } }",
      codes "F f 0 0 0 0 10\nc 1\nj 6\nc 2\nz 5\nj 2\nj 8\ne 3 4\np\nc 0\nr\nE\n",
      [],
    )
    ∷ (codes "a;A;", codes "X a 0 0\nX A 0 0\nE\n", [])
    ∷ (codes "exit;", codes "X exit 0 0\nE\n", [])
    ∷ (codes "f() { goto M; L: ; M: ; }", codes "F f 0 0 2 0 4\nt 2\nt 2\nl 1\ng\nc 0\nr\nE\n", [])
    ∷ (codes "f(f) f;", codes "F f 1 1 0 0 5\na 0\nv\np\nc 0\nr\nE\n", [])
    ∷ (codes "f() f();", codes "F f 0 0 0 0 6\nx f\nv\nk 0\np\nc 0\nr\nE\n", [])
    ∷ (codes "f() auto ; ;", [], codes "sx 1\n")
    ∷ (codes "f() extrn ; ;", [], codes "sx 1\n")
    ∷ (codes "f() g(1,);", [], codes "sx 1\n")
    ∷ (codes "n 1,;", [], codes "sx 1\n")
    ∷ (codes "f() auto a,; ;", [], codes "sx 1\n")
    ∷ (codes "f() extrn a,; ;", [], codes "sx 1\n")
    ∷ (codes "f() auto a 'x'; ;", [], codes "sx 1\n")
    ∷ (codes "v['a'];", [], codes "sx 1\n")
    ∷ (codes "f() { L: }", [], codes "sx 1\n")
    ∷ (codes "f() switch 1 { case 1: }", [], codes "sx 1\n")
    ∷ (codes "f() return();", [], codes "sx 1\n")
    ∷ (codes "f() {};", codes "F f 0 0 0 0 2\nc 0\nr\n", codes "sx 1\n")
    ∷ (codes "f() switch 1 { case \"a\": ; }", [], codes "sx 1\n")
    ∷ (codes "f() goto ;", [], codes "sx 1\n")
    ∷ (codes "f() ; f() ;", codes "F f 0 0 0 0 2\nc 0\nr\n", codes "rd f 1\n")
    ∷ (codes "v[1]; v;", codes "V v 2 0 0\n", codes "rd v 1\n")
    ∷ (codes "v[1]; v[1];", codes "V v 2 0 0\n", codes "rd v 1\n")
    ∷ (codes "a;b;a;", codes "X a 0 0\nX b 0 0\n", codes "rd a 1\n")
    ∷ (codes "a;b;b;", codes "X a 0 0\nX b 0 0\n", codes "rd b 1\n")
    ∷ (codes "f() f;", [], codes "un f 1\n")
    ∷ (codes "f() { extrn a; extrn a; ; }", [], codes "rd a 1\n")
    ∷ (codes "f() { auto a; extrn a; ; }", [], codes "rd a 1\n")
    ∷ (codes "f() { L: auto L; ; }", [], codes "rd L 1\n")
    ∷ (codes "f() { a; auto a; ; }", [], codes "rd a 1\n")
    ∷ (codes "f() { ++\nx; x: ;}", [], codes "lv 1\n")
    ∷ (codes "f() { x\n++; x: ;}", [], codes "lv 2\n")
    ∷ (codes "f() { x\n=1; x: ;}", [], codes "lv 2\n")
    ∷ (codes "f() { &\nx; x: ; }", [], codes "lv 1\n")
    ∷ (codes "f(a,\na) ;", [], codes "rd a 2\n")
    ∷ (codes "f()\nauto v 40000; ;", [], codes ">e 1\n")
    ∷ (codes "a; a; )", codes "X a 0 0\n", codes "rd a 1\n")
    ∷ (codes "f() {1=2;} )", [], codes "lv 1\n")
    ∷ (codes "f() { g(); g: ; }", [], codes "rd g 1\n")
    ∷ (codes "f(a) a[];", [], codes "sx 1\n")
    ∷ (codes "f() if() ;", [], codes "sx 1\n")
    ∷ (codes "f() while() ;", [], codes "sx 1\n")
    ∷ (codes "f() 1(,2);", [], codes "sx 1\n")
    ∷ (codes "f(a b) ;", [], codes "sx 1\n")
    ∷ (codes "f(,a) ;", [], codes "sx 1\n")
    ∷ (codes "v[1,2];", [], codes "sx 1\n")
    ∷ (codes "n ,1;", [], codes "sx 1\n")
    ∷ (codes "f() auto 1; ;", [], codes "sx 1\n")
    ∷ (codes "f() case 1;;", [], codes "sx 1\n")
    ∷ (codes "f() switch { }", [], codes "sx 1\n")
    ∷ (codes "f() else ;", [], codes "sx 1\n")
    ∷ (codes "f() ();", [], codes "sx 1\n")
    ∷ []

-- the second edition
abbrev pub of_two : List Row
of_two =
    ([], codes "B 2\nE\n", [])
    ∷ (
      codes "f(a) while(a) { a--; break; }",
      codes "B 2\nF f 1 1 0 0 10\na 0\nv\nz 8\na 0\ni 3\np\nj 8\nj 0\nc 0\nr\nE\n",
      [],
    )
    ∷ (
      codes "f(a) switch a { case 1: break; default: a=2; }",
      codes "B 2\nF f 1 1 0 0 14\na 0\nv\nj 9\nj 12\na 0\nc 2\nw\np\nj 12\ne 1 3\np\nj 4\nc 0\nr\nE\n",
      [],
    )
    ∷ (codes "f() break;", codes "B 2\n", codes "sx break 1\n")
    ∷ (codes "break;", codes "B 2\n", codes "sx 1\n")
    ∷ (codes "f() default: ;", codes "B 2\n", codes "sx default 1\n")
    ∷ (codes "f() switch 1 { default: ; default: ; }", codes "B 2\n", codes "rd default 1\n")
    ∷ (codes "n 010;", codes "B 2\nX n 1 0\nc 8\nE\n", [])
    ∷ (codes "n 'ab';", codes "B 2\nX n 1 0\nc 24930\nE\n", [])
    ∷ (codes "a;\r", codes "B 2\nX a 0 0\n", codes "ch 1\n")
    ∷ (codes "f() { break; }", codes "B 2\n", codes "sx break 1\n")
    ∷ (
      codes "f() while(1) switch 2 { default: break; }",
      codes "B 2\nF f 0 0 0 0 11\nc 1\nz 9\nc 2\nj 6\nj 8\nj 8\np\nj 4\nj 0\nc 0\nr\nE\n",
      [],
    )
    ∷ []

-- the words of the second edition in the first
abbrev pub names_of_one : List Row
names_of_one =
    (codes "break;", codes "X break 0 0\nE\n", [])
    ∷ (codes "f() default: ;", codes "F f 0 0 1 0 2\nt 0\nc 0\nr\nE\n", [])
    ∷ (codes "f() break;", [], codes "un break 1\n")
    ∷ []
