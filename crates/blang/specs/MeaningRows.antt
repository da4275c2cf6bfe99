-- Closed facts: what small programs mean.
use Rattle.std.specs.Prelude.{◌≡◌, ℕ, List, [], ◌∷◌, map, codes, replicate, true, false, Option, Some, None, refl}
use Rattle.std.specs.Fmt.{digits}
use Rattle.bword.specs.declared.operators.BinOp.TheVariants as op
use Rattle.blang.specs.Trees.{Identifier, Number, Character, Expr, Arguments, Negate, Address, Indirection, Not}
use Rattle.blang.specs.Trees.{PreIncrement, PreDecrement, PostIncrement, PostDecrement, Named, Literal, Text, Grouped}
use Rattle.blang.specs.Trees.{Indexed, Called, Postfixed, Prefixed, Binary, Conditional, Assigned, No_arguments}
use Rattle.blang.specs.Trees.{Another, Auto, Extrn, Label, Case, Default, Stmt, Headed, Compound, If, IfElse, While}
use Rattle.blang.specs.Trees.{Switch, Goto, Break, Return, ReturnValue, Evaluate, Empty, Stmts, Nothing, More}
use Rattle.blang.specs.Trees.{Definition, Ival_constant}
use Rattle.blang.specs.declared.run.Trap.TheVariants.{ZeroDivisor, NotAFunction, NotALabel, NoRoom, TooDeep}
use Rattle.blang.specs.Layout.{Ending, Exited, Trapped}
use Rattle.blang.specs.Value.{Answer, Gives, Ends, Wants, is_true}
use Rattle.blang.specs.Meaning.{meant, IsBeginningOf}

abbrev pub word : List ℕ → Identifier
word x = record { text = x; line = 1 }

abbrev pub name : List ℕ → Expr
name x = Named (word x)

abbrev pub number : ℕ → Expr
number n = Literal (Number n)

abbrev pub arguments_after : Arguments → List Expr → Arguments
arguments_after before [] = before
arguments_after before (e ∷ es) = arguments_after (Another before e) es

abbrev call : List ℕ → List Expr → Expr
call f es = Called (name f) (arguments_after No_arguments es)

abbrev set : List ℕ → Expr → Stmt
set x e = Evaluate (Assigned None 1 (name x) e)

abbrev printn : Expr → Stmt
printn e = Evaluate (call (codes "printn") (e ∷ number 10 ∷ []))

abbrev putchar : Expr → Stmt
putchar e = Evaluate (call (codes "putchar") (e ∷ []))

abbrev statements_after : Stmts → List Stmt → Stmts
statements_after before [] = before
statements_after before (s ∷ ss) = statements_after (More before s) ss

abbrev block : List Stmt → Stmt
block ss = Compound (statements_after Nothing ss)

-- a name with or without the constant of a vector, before a statement
abbrev auto : List ℕ → Option ℕ → Stmt → Stmt
auto x size s = Headed (Auto (record { word = word x; size = size } ∷ [])) s

abbrev label : List ℕ → Stmt → Stmt
label x s = Headed (Label (word x)) s

abbrev case : ℕ → Stmt → Stmt
case n s = Headed (Case 1 (Number n)) s

abbrev default : Stmt → Stmt
default s = Headed (Default 1) s

abbrev function : List ℕ → List (List ℕ) → List Stmt → Definition
function f parameters ss = Definition.Function (word f) (map word parameters) (block ss)

abbrev main : List Stmt → Definition
main ss = function (codes "main") [] ss

-- how the program ends with this fuel, or that it wants more, and what it has written
abbrev shown : Answer ⊥ → Option Ending × List ℕ
shown (Gives v w) = elim v [ ]
shown (Ends e w) = (Some e, w.output)
shown (Wants w) = (None, w.output)

abbrev pub does : List Definition → (input : List ℕ) → (fuel : ℕ) → Option Ending × List ℕ
does ds input n = shown (meant ds input n)

-- main(){}
does_nothing : does (main [] ∷ []) [] 0 ≡ (Some (Exited 0), [])
does_nothing = refl

-- the word that main returns is no status: main() return(5);
returns_5 : does (main (ReturnValue (number 5) ∷ []) ∷ []) [] 0 ≡ (Some (Exited 0), [])
returns_5 = refl

exits_200 : does (main (Evaluate (call (codes "exit") (number 200 ∷ [])) ∷ []) ∷ []) [] 0 ≡ (Some (Exited 72), [])
exits_200 = refl

-- f(){auto a; a='7';} g(){auto b; return(b);} main(){f(); putchar(g());}: a frame isn't cleared
keeps_frames : does
    (function (codes "f") [] (auto (codes "a") None (set (codes "a") (number 55)) ∷ []) ∷ function (codes "g") []
    (auto (codes "b") None (ReturnValue (name (codes "b"))) ∷ []) ∷ main
    (Evaluate (call (codes "f") []) ∷ putchar (call (codes "g") []) ∷ []) ∷ []) [] 1 ≡ (Some (Exited 0), codes "7")
keeps_frames = refl

-- p(x){putchar(x); return(x);} main(){p('a')-p('b');}
left_first : does
    (function (codes "p") (codes "x" ∷ []) (putchar (name (codes "x")) ∷ ReturnValue (name (codes "x")) ∷ []) ∷ main
    (Evaluate (Binary op.Sub 1 (call (codes "p") (number 97 ∷ [])) (call (codes "p") (number 98 ∷ []))) ∷ []) ∷ []) [] 1
    ≡ (Some (Exited 0), codes "ab")
left_first = refl

-- n 1; f(){extrn n; n=5; return(1);} main(){extrn n; n =+ f(); printn(n,10);}
reads_after : does
    (Definition.Simple (word (codes "n")) (Ival_constant (Number 1) ∷ []) ∷ function (codes "f") []
    (Headed (Extrn (word (codes "n") ∷ [])) (set (codes "n") (number 5)) ∷ ReturnValue (number 1) ∷ []) ∷ main
    (Headed (Extrn (word (codes "n") ∷ []))
    (Evaluate (Assigned (Some op.Add) 1 (name (codes "n")) (call (codes "f") []))) ∷ printn (name (codes "n")) ∷ [])
    ∷ []) [] 1 ≡ (Some (Exited 0), codes "6")
unfolding digits
reads_after = refl

-- main(){auto i; i=0; goto in; while(i<3){in: putchar('a'+i); i++;}}
abbrev into_loop : List Definition
into_loop =
    main (auto (codes "i") None (set (codes "i") (number 0)) ∷ Goto (name (codes "in")) ∷ While
    (Binary op.Lt 1 (name (codes "i")) (number 3))
    (block (label (codes "in") (putchar (Binary op.Add 1 (number 97) (name (codes "i")))) ∷ Evaluate
    (Postfixed PostIncrement 1 (name (codes "i"))) ∷ [])) ∷ []) ∷ []

goes_into_loop : does into_loop [] 4 ≡ (Some (Exited 0), codes "abc")
goes_into_loop = refl

goes_into_loop_3 : does into_loop [] 3 ≡ (None, codes "abc")
goes_into_loop_3 = refl

goes_into_loop_0 : does into_loop [] 0 ≡ (None, [])
goes_into_loop_0 = refl

-- main(){switch s {case 1: putchar('1'); case 2: putchar('2'); case 3: putchar('3');} putchar('.');}
abbrev switched : ℕ → List Definition
switched s =
    main (Switch (number s)
    (statements_after Nothing
    (case 1 (putchar (number 49)) ∷ case 2 (putchar (number 50)) ∷ case 3 (putchar (number 51)) ∷ [])) ∷ putchar
    (number 46) ∷ []) ∷ []

falls_through : map (λ s. does (switched s) [] 1) (2 ∷ 9 ∷ [])
    ≡ (Some (Exited 0), codes "23.") ∷ (Some (Exited 0), codes ".") ∷ []
falls_through = refl

-- main(){switch s {case 1: putchar('1'); default: putchar('d'); case 2: putchar('2');}}
abbrev defaulted : ℕ → List Definition
defaulted s =
    main (Switch (number s)
    (statements_after Nothing
    (case 1 (putchar (number 49)) ∷ default (putchar (number 100)) ∷ case 2 (putchar (number 50)) ∷ [])) ∷ []) ∷ []

goes_to_default : map (λ s. does (defaulted s) [] 1) (9 ∷ 2 ∷ 1 ∷ [])
    ≡ (Some (Exited 0), codes "d2") ∷ (Some (Exited 0), codes "2") ∷ (Some (Exited 0), codes "1d2") ∷ []
goes_to_default = refl

-- main(){auto i; i=0; while(i<2) {switch i {case 0: break; default: putchar('x');} i++;}}: the switch is left, not the
-- loop
breaks_a_switch : does
    (main (auto (codes "i") None (set (codes "i") (number 0)) ∷ While (Binary op.Lt 1 (name (codes "i")) (number 2))
    (block (Switch (name (codes "i"))
    (statements_after Nothing (case 0 (Break 1) ∷ default (putchar (number 120)) ∷ [])) ∷ Evaluate
    (Postfixed PostIncrement 1 (name (codes "i"))) ∷ [])) ∷ []) ∷ []) [] 5 ≡ (Some (Exited 0), codes "x")
breaks_a_switch = refl

-- main(){auto i; i=0; while(i<1) {i++; break; while(1) ;} putchar('k');}: a break leaves the loop with one fuel in all
breaks_a_loop : does
    (main (auto (codes "i") None (set (codes "i") (number 0)) ∷ While (Binary op.Lt 1 (name (codes "i")) (number 1))
    (block (Evaluate (Postfixed PostIncrement 1 (name (codes "i"))) ∷ Break 1 ∷ While (number 1) Empty ∷ [])) ∷ putchar
    (number 107) ∷ []) ∷ []) [] 1 ≡ (Some (Exited 0), codes "k")
breaks_a_loop = refl

-- main(){goto in; switch 1 {case 1: in: break;} putchar('k');}
breaks_after_a_goto : does
    (main (Goto (name (codes "in")) ∷ Switch (number 1)
    (statements_after Nothing (case 1 (label (codes "in") (Break 1)) ∷ [])) ∷ putchar (number 107) ∷ []) ∷ []) [] 1
    ≡ (Some (Exited 0), codes "k")
breaks_after_a_goto = refl

-- main(){goto in; while(1) {putchar('a'); in: while(1) {break;} putchar('b'); break;} putchar('c');}: each leaves its
-- own
breaks_in_and_out : does
    (main (Goto (name (codes "in")) ∷ While (number 1)
    (block (putchar (number 97) ∷ label (codes "in") (While (number 1) (block (Break 1 ∷ []))) ∷ putchar (number 98)
    ∷ Break 1 ∷ [])) ∷ putchar (number 99) ∷ []) ∷ []) [] 2 ≡ (Some (Exited 0), codes "bc")
breaks_in_and_out = refl

-- f(){a: b: ;} main(){auto i; i=d; c: printn(i,10); d: ;}: labels count over the whole program
label_values : does
    (function (codes "f") [] (label (codes "a") (label (codes "b") Empty) ∷ []) ∷ main
    (auto (codes "i") None (set (codes "i") (name (codes "d"))) ∷ label (codes "c") (printn (name (codes "i"))) ∷ label
    (codes "d") Empty ∷ []) ∷ []) [] 0 ≡ (Some (Exited 0), codes "4")
unfolding digits
label_values = refl

-- main(){goto x; a: b: putchar('1'); if(0) c: putchar('2'); else d: putchar('3'); while(1) {e: putchar('4'); break;}
-- switch 9 {case 1: f: putchar('5');} g: putchar('6');}: each name leads to its own label
abbrev going_to : List ℕ → List Definition
going_to x =
    main (Goto (name x) ∷ label (codes "a") (label (codes "b") (putchar (number 49))) ∷ IfElse (number 0)
    (label (codes "c") (putchar (number 50))) (label (codes "d") (putchar (number 51))) ∷ While (number 1)
    (block (label (codes "e") (putchar (number 52)) ∷ Break 1 ∷ [])) ∷ Switch (number 9)
    (statements_after Nothing (case 1 (label (codes "f") (putchar (number 53))) ∷ [])) ∷ label (codes "g")
    (putchar (number 54)) ∷ []) ∷ []

goes_to_each : map (λ x. (does (going_to x) [] 9).1)
    (codes "a" ∷ codes "b" ∷ codes "c" ∷ codes "d" ∷ codes "e" ∷ codes "f" ∷ codes "g" ∷ [])
    ≡ codes "1346" ∷ codes "1346" ∷ codes "246" ∷ codes "346" ∷ codes "46" ∷ codes "56" ∷ codes "6" ∷ []
goes_to_each = refl

-- main(){goto x; a: {putchar('1'); b: putchar('2'); if(0) c: putchar('3');}}: a label before others, and one in an if
abbrev going_in : List ℕ → List Definition
going_in x =
    main (Goto (name x) ∷ label (codes "a")
    (block (putchar (number 49) ∷ label (codes "b") (putchar (number 50)) ∷ If (number 0)
    (label (codes "c") (putchar (number 51))) ∷ [])) ∷ []) ∷ []

goes_in : map (λ x. (does (going_in x) [] 1).1) (codes "a" ∷ codes "b" ∷ codes "c" ∷ [])
    ≡ codes "12" ∷ codes "2" ∷ codes "3" ∷ []
goes_in = refl

-- main(){goto 9;}, and f(l){goto l;} main(){f(x); x: ;}
goes_nowhere : does (main (Goto (number 9) ∷ []) ∷ []) [] 0 ≡ (Some (Trapped NotALabel), [])
goes_nowhere = refl

goes_elsewhere : does
    (function (codes "f") (codes "l" ∷ []) (Goto (name (codes "l")) ∷ []) ∷ main
    (Evaluate (call (codes "f") (name (codes "x") ∷ [])) ∷ label (codes "x") Empty ∷ []) ∷ []) [] 1
    ≡ (Some (Trapped NotALabel), [])
goes_elsewhere = refl

-- main(){extrn n; n();} n 0;
calls_0 : does
    (main (Headed (Extrn (word (codes "n") ∷ [])) (Evaluate (call (codes "n") [])) ∷ []) ∷ Definition.Simple
    (word (codes "n")) (Ival_constant (Number 0) ∷ []) ∷ []) [] 0 ≡ (Some (Trapped NotAFunction), [])
calls_0 = refl

-- main(){putchar('.'); printn(1/0,10);}
divides_by_0 : does (main (putchar (number 46) ∷ printn (Binary op.Div 1 (number 1) (number 0)) ∷ []) ∷ []) [] 0
    ≡ (Some (Trapped ZeroDivisor), codes ".")
divides_by_0 = refl

-- main(){auto v 32000; main();}
no_room : does (main (auto (codes "v") (Some 32000) (Evaluate (call (codes "main") [])) ∷ []) ∷ []) [] 1
    ≡ (Some (Trapped NoRoom), [])
no_room = refl

-- f(a,b) return(b); main(){putchar(f(1)+'0'); putchar(f('a','b','c'));}
parameters : does
    (function (codes "f") (codes "a" ∷ codes "b" ∷ []) (ReturnValue (name (codes "b")) ∷ []) ∷ main
    (putchar (Binary op.Add 1 (call (codes "f") (number 1 ∷ [])) (number 48)) ∷ putchar
    (call (codes "f") (number 97 ∷ number 98 ∷ number 99 ∷ [])) ∷ []) ∷ []) [] 1 ≡ (Some (Exited 0), codes "0b")
parameters = refl

-- main(){main();}
too_deep : does (main (Evaluate (call (codes "main") []) ∷ []) ∷ []) [] 4095 ≡ (Some (Trapped TooDeep), [])
too_deep = refl

-- with one fuel less no call is refused yet
not_too_deep : does (main (Evaluate (call (codes "main") []) ∷ []) ∷ []) [] 4094 ≡ (None, [])
not_too_deep = refl

-- printn(n,b){extrn putchar; auto a; if(a=n/b) printn(a,b); putchar(n%b+'0');} main(){printn(1972,10);}: the library's
-- is hidden
hides_printn : does
    (function (codes "printn") (codes "n" ∷ codes "b" ∷ [])
    (Headed (Extrn (word (codes "putchar") ∷ []))
    (auto (codes "a") None
    (If (Assigned None 1 (name (codes "a")) (Binary op.Div 1 (name (codes "n")) (name (codes "b"))))
    (Evaluate (call (codes "printn") (name (codes "a") ∷ name (codes "b") ∷ []))))) ∷ putchar
    (Binary op.Add 1 (Binary op.Rem 1 (name (codes "n")) (name (codes "b"))) (number 48)) ∷ []) ∷ main
    (printn (number 1972) ∷ []) ∷ []) [] 4 ≡ (Some (Exited 0), codes "1972")
hides_printn = refl

-- n 5; v[1]; main(){extrn n,v; printn(&n,10); putchar(' '); printn(v,10);}
external_words : does
    (Definition.Simple (word (codes "n")) (Ival_constant (Number 5) ∷ []) ∷ Definition.Vector (word (codes "v"))
    (Some 1) [] ∷ main
    (Headed (Extrn (word (codes "n") ∷ word (codes "v") ∷ [])) (printn (Prefixed Address 1 (name (codes "n"))))
    ∷ putchar (number 32) ∷ printn (name (codes "v")) ∷ []) ∷ []) [] 0 ≡ (Some (Exited 0), codes "7 9")
unfolding digits
external_words = refl

-- main(){putchar(char("hi",1)); printn("a",10);}: each string has its own words, after the function's
words_of_strings : does
    (main (putchar (call (codes "char") (Text (codes "hi") 0 ∷ number 1 ∷ [])) ∷ printn (Text (codes "a") 2) ∷ [])
    ∷ []) [] 0 ≡ (Some (Exited 0), codes "i10")
unfolding digits
words_of_strings = refl

-- main(){auto i; i=0; a: {auto v 0; if(v-&v) putchar('1'); v=&v;} if(i++<1) goto a;}: v is set each time
sets_vector : does
    (main (auto (codes "i") None (set (codes "i") (number 0)) ∷ label (codes "a")
    (block (auto (codes "v") (Some 0)
    (If (Binary op.Sub 1 (name (codes "v")) (Prefixed Address 1 (name (codes "v")))) (putchar (number 49))) ∷ set
    (codes "v") (Prefixed Address 1 (name (codes "v"))) ∷ [])) ∷ If
    (Binary op.Lt 1 (Postfixed PostIncrement 1 (name (codes "i"))) (number 1)) (Goto (name (codes "a"))) ∷ []) ∷ []) []
    1 ≡ (Some (Exited 0), codes "11")
sets_vector = refl

-- main(){auto c; while((c=getchar())!='*e') putchar(c);}
copies : does
    (main (auto (codes "c") None
    (While (Binary op.Ne 1 (Assigned None 1 (name (codes "c")) (call (codes "getchar") [])) (Literal (Character 4)))
    (putchar (name (codes "c")))) ∷ []) ∷ []) (codes "hi") 3 ≡ (Some (Exited 0), codes "hi")
copies = refl

-- main(){auto v 1, w 1; exit(w-v);}: each vector is set
sets_vectors : does
    (main (Headed
    (Auto (record { word = word (codes "v"); size = Some 1 } ∷ record { word = word (codes "w"); size = Some 1 } ∷ []))
    (Evaluate (call (codes "exit") (Binary op.Sub 1 (name (codes "w")) (name (codes "v")) ∷ []))) ∷ []) ∷ []) [] 0
    ≡ (Some (Exited 3), [])
sets_vectors = refl

-- main(){auto x; exit(&x);}: the frame of main begins at the data end
first_frame : does
    (main (auto (codes "x") None (Evaluate (call (codes "exit") (Prefixed Address 1 (name (codes "x")) ∷ []))) ∷ [])
    ∷ []) [] 0 ≡ (Some (Exited 8), [])
first_frame = refl

-- main(){auto i; i=0; switch 1 {while(i<2) {case 1: putchar('a'); i++;}} putchar('.');}
case_in_loop : does
    (main (auto (codes "i") None (set (codes "i") (number 0)) ∷ Switch (number 1)
    (statements_after Nothing
    (While (Binary op.Lt 1 (name (codes "i")) (number 2))
    (block (case 1 (putchar (number 97)) ∷ Evaluate (Postfixed PostIncrement 1 (name (codes "i"))) ∷ [])) ∷ []))
    ∷ putchar (number 46) ∷ []) ∷ []) [] 5 ≡ (Some (Exited 0), codes "aa.")
case_in_loop = refl

-- main(){auto i; i=0; goto in; while(i<2) {i++; putchar('a'); in: break; while(1) ;} putchar('k');}: a break skips a
-- loop
skips_a_loop : does
    (main (auto (codes "i") None (set (codes "i") (number 0)) ∷ Goto (name (codes "in")) ∷ While
    (Binary op.Lt 1 (name (codes "i")) (number 2))
    (block (Evaluate (Postfixed PostIncrement 1 (name (codes "i"))) ∷ putchar (number 97) ∷ label (codes "in") (Break 1)
    ∷ While (number 1) Empty ∷ [])) ∷ putchar (number 107) ∷ []) ∷ []) [] 1 ≡ (Some (Exited 0), codes "k")
skips_a_loop = refl

-- f() return(0); main() while(f()) ;: the call has what fuel the while left
condition_fuel : map
    (does (function (codes "f") [] (ReturnValue (number 0) ∷ []) ∷ main (While (call (codes "f") []) Empty ∷ [])
    ∷ []) []) (0 ∷ 1 ∷ 2 ∷ []) ≡ (None, []) ∷ (None, []) ∷ (Some (Exited 0), []) ∷ []
condition_fuel = refl

-- the same of a switch
value_fuel : map
    (does (function (codes "f") [] (ReturnValue (number 0) ∷ []) ∷ main (Switch (call (codes "f") []) Nothing ∷ [])
    ∷ []) []) (0 ∷ 1 ∷ 2 ∷ []) ≡ (None, []) ∷ (None, []) ∷ (Some (Exited 0), []) ∷ []
value_fuel = refl

-- main() { extrn putchar, n, v; auto i, c, col, a; i = col = 0; while(i<n) v[i++] = 1; while(col<n) { a = n+1; c = i =
-- 0; while(i<n) { c =+ v[i]*10; v[i++] = c%a; c =/ a--; } putchar(c+'0'); if(!(++col%5)) putchar(col%50?' ':'*n'); }
-- putchar('*n*n'); } v[10]; n 10;
abbrev n : Expr
n = name (codes "n")

abbrev i : Expr
i = name (codes "i")

abbrev c : Expr
c = name (codes "c")

abbrev col : Expr
col = name (codes "col")

abbrev a : Expr
a = name (codes "a")

abbrev counted : Expr → Expr
counted e = Postfixed PostIncrement 1 e

abbrev digits_of_e : List Definition
digits_of_e =
    main (Headed (Extrn (map word (codes "putchar" ∷ codes "n" ∷ codes "v" ∷ [])))
    (Headed (Auto
    (map (λ x. record { word = word x; size = None }) (codes "i" ∷ codes "c" ∷ codes "col" ∷ codes "a" ∷ [])))
    (set (codes "i") (Assigned None 1 col (number 0))))
    ∷ While (Binary op.Lt 1 i n) (Evaluate (Assigned None 1 (Indexed (name (codes "v")) (counted i)) (number 1)))
    ∷ While (Binary op.Lt 1 col n) (block (set (codes "a") (Binary op.Add 1 n (number 1))
    ∷ set (codes "c") (Assigned None 1 i (number 0))
    ∷ While (Binary op.Lt 1 i n)
    (block (Evaluate (Assigned (Some op.Add) 1 c (Binary op.Mul 1 (Indexed (name (codes "v")) i) (number 10)))
    ∷ Evaluate (Assigned None 1 (Indexed (name (codes "v")) (counted i)) (Binary op.Rem 1 c a))
    ∷ Evaluate (Assigned (Some op.Div) 1 c (Postfixed PostDecrement 1 a))
    ∷ []))
    ∷ putchar (Binary op.Add 1 c (number 48))
    ∷ If (Prefixed Not 1 (Grouped (Binary op.Rem 1 (Prefixed PreIncrement 1 col) (number 5))))
    (putchar (Conditional (Binary op.Rem 1 col (number 50)) (number 32) (number 10)))
    ∷ []))
    ∷ putchar (number 2570)
    ∷ [])
    ∷ Definition.Vector (word (codes "v")) (Some 10) []
    ∷ Definition.Simple (word (codes "n")) (Ival_constant (Number 10) ∷ [])
    ∷ []

computes_e : does digits_of_e [] 150 ≡ (Some (Exited 0), codes "71828 18261 \n\n")
computes_e = refl

-- p(x){putchar(x); return(x);}, before main
abbrev telling : Definition
telling = function (codes "p") (codes "x" ∷ []) (putchar (name (codes "x")) ∷ ReturnValue (name (codes "x")) ∷ [])

abbrev told : Expr → List Definition
told e = telling ∷ main (Evaluate e ∷ []) ∷ []

abbrev tells : ℕ → Expr
tells n = call (codes "p") (number n ∷ [])

-- main() p('a')[p('b')];, main() *p('a') = p('b');, main() p('a') + p('b'); and so on: the left side comes first
left_sides : map (λ e. does (told e) [] 1) (
    Indexed (tells 97) (tells 98) ∷ Assigned None 1 (Prefixed Indirection 1 (tells 97)) (tells 98)
    ∷ Assigned (Some op.Add) 1 (Prefixed Indirection 1 (tells 97)) (tells 98)
    ∷ Assigned None 1 (Indexed (tells 97) (number 1)) (tells 98) ∷ Binary op.Lt 1 (tells 97) (tells 98) ∷ []
    ) ≡ replicate 5 (Some (Exited 0), codes "ab")
left_sides = refl

-- the function first, and then the arguments in order
arguments_in_order : does (told (Called (tells 2) (Another (Another No_arguments (tells 97)) (tells 98)))) [] 2
    ≡ (Some (Exited 0), 2 ∷ codes "ab")
arguments_in_order = refl

-- each word but 0 is true: if(256) putchar('y'); and 256 ? 'y' : 'n'
truths : map is_true (0 ∷ 1 ∷ 256 ∷ 32768 ∷ 65535 ∷ []) ≡ false ∷ true ∷ true ∷ true ∷ true ∷ []
truths = refl

if_256 : does (main (If (number 256) (putchar (number 121))
    ∷ putchar (Conditional (number 256) (number 121) (number 110)) ∷ []) ∷ []) [] 0 ≡ (Some (Exited 0), codes "yy")
if_256 = refl

-- main(){switch 264 {case 8: putchar('8'); case 264: putchar('x');}}
case_of_a_word : does
    (main (Switch (number 264)
    (statements_after Nothing (case 8 (putchar (number 56)) ∷ case 264 (putchar (number 120)) ∷ [])) ∷ []) ∷ []) [] 1
    ≡ (Some (Exited 0), codes "x")
case_of_a_word = refl

-- main(){auto c; while((c=getchar())!='z') putchar(c);}: a byte 4 is copied
copies_4 : does
    (main (auto (codes "c") None
    (While (Binary op.Ne 1 (Assigned None 1 (name (codes "c")) (call (codes "getchar") [])) (number 122))
    (putchar (name (codes "c")))) ∷ []) ∷ []) (4 ∷ 97 ∷ 200 ∷ 122 ∷ []) 4 ≡ (Some (Exited 0), 4 ∷ 97 ∷ 200 ∷ [])
copies_4 = refl

-- v[32766]; w[32736]; main(){auto x 30; putchar('x');} has room, and with w[32737] it has none
abbrev filled : ℕ → List Definition
filled n =
    Definition.Vector (word (codes "v")) (Some 32766) [] ∷ Definition.Vector (word (codes "w")) (Some n) []
    ∷ main (auto (codes "x") (Some 15) Empty ∷ []) ∷ []

main_without_room : map (λ n. does (filled n) [] 0) (32741 ∷ 32742 ∷ [])
    ≡ (Some (Exited 0), []) ∷ (Some (Trapped NoRoom), []) ∷ []
main_without_room = refl

-- a vector is no main function
vector_main : does (Definition.Vector (word (codes "main")) (Some 1) [] ∷ []) [] 9 ≡ (None, [])
vector_main = refl

-- v[32766]; w[3]; main(){extrn w; auto a, b 1; w[3]=7; a=5; printn(w[3],10); printn(a,10); printn(w,10);
-- printn(&a,10); printn(b,10); printn("a",10);}: words from 32768 on are words as others
above_32767 : does
    (Definition.Vector (word (codes "v")) (Some 32766) [] ∷ Definition.Vector (word (codes "w")) (Some 3) [] ∷ main
    (Headed (Extrn (word (codes "w") ∷ []))
    (auto (codes "a") None (auto (codes "b") (Some 1)
    (Evaluate (Assigned None 1 (Indexed (name (codes "w")) (number 3)) (number 7))))) ∷ set
    (codes "a") (number 5) ∷ printn (Indexed (name (codes "w")) (number 3)) ∷ printn (name (codes "a"))
    ∷ printn (name (codes "w")) ∷ printn (Prefixed Address 1 (name (codes "a"))) ∷ printn (name (codes "b"))
    ∷ printn (Text (codes "a") 0) ∷ []) ∷ []) [] 0 ≡ (Some (Exited 0), codes "75-32760-32754-32752-32755")
unfolding digits
above_32767 = refl

-- f() S; main() exit(f()+7);: what returns no value gives 0, also where a break was last
abbrev after_f : Stmt → List Definition
after_f s =
    function (codes "f") [] (s ∷ [])
    ∷ main (Evaluate (call (codes "exit") (Binary op.Add 1 (call (codes "f") []) (number 7) ∷ [])) ∷ []) ∷ []

gives_0 : map (λ s. does (after_f s) [] 3) (Empty ∷ Return ∷ Evaluate (number 5) ∷ While (number 0) Empty
    ∷ While (number 1) (Break 1) ∷ Switch (number 1) Nothing
    ∷ Switch (number 1) (More Nothing (case 1 (Break 1))) ∷ [])
    ≡ replicate 7 (Some (Exited 7), [])
gives_0 = refl

-- main(){auto a; auto v 2; a=5; v[1]=9; exit(E);}, by what each E is
abbrev variable : Expr
variable = name (codes "a")

abbrev vector : Expr
vector = name (codes "v")

abbrev element : Expr
element = Indexed vector (number 1)

abbrev plus : Expr → Expr → Expr
plus e f = Binary op.Add 1 e f

-- an assignment and what was stored
abbrev and_then : Expr → Expr → Expr
and_then e f = plus (Assigned None 1 e (number 3)) f

abbrev ends_with : Expr → Option Ending
ends_with e = (does (main (auto (codes "a") None (auto (codes "v") (Some 2) (set (codes "a") (number 5)))
    ∷ Evaluate (Assigned None 1 element (number 9)) ∷ Evaluate (call (codes "exit") (e ∷ [])) ∷ []) ∷ []) [] 0).0

abbrev exits : List ℕ → List (Option Ending)
exits statuses = map (λ n. Some (Exited n)) statuses

primaries : map ends_with
    (number 7 ∷ Literal (Character 97) ∷ variable ∷ Grouped variable ∷ element ∷ Indexed (number 1) vector
    ∷ Prefixed Indirection 1 (plus vector (number 1))
    ∷ Prefixed Indirection 1 (Prefixed Address 1 variable) ∷ Prefixed Not 1 variable
    ∷ Prefixed Not 1 (number 0) ∷ plus (Prefixed Negate 1 variable) (number 6)
    ∷ Binary op.Sub 1 (Prefixed Address 1 element) vector ∷ Binary op.Sub 1 vector (Prefixed Address 1 variable) ∷ [])
    ≡ exits (7 ∷ 97 ∷ 5 ∷ 5 ∷ 9 ∷ 9 ∷ 9 ∷ 5 ∷ 0 ∷ 1 ∷ 1 ∷ 1 ∷ 2 ∷ [])
primaries = refl

choices : map ends_with (Conditional variable (number 1) (number 2) ∷ Conditional (number 0) (number 1) (number 2)
    ∷ Conditional (number 0) (number 1) (Conditional (number 0) (number 2) (number 3)) ∷ []) ≡ exits (1 ∷ 2 ∷ 3 ∷ [])
choices = refl

assignments : map ends_with
    (and_then variable variable ∷ and_then (Grouped variable) variable ∷ and_then element element
    ∷ and_then (Prefixed Indirection 1 (plus vector (number 1))) element ∷ and_then (Grouped (Grouped element)) element
    ∷ plus (Assigned (Some op.Sub) 1 variable (number 3)) variable
    ∷ plus (Assigned (Some op.Add) 1 element variable) element ∷ [])
    ≡ exits (6 ∷ 6 ∷ 6 ∷ 6 ∷ 6 ∷ 4 ∷ 28 ∷ [])
assignments = refl

counts : map ends_with
    (plus (Postfixed PostIncrement 1 variable) variable ∷ plus (Postfixed PostDecrement 1 variable) variable
    ∷ plus (Prefixed PreIncrement 1 variable) variable ∷ plus (Prefixed PreDecrement 1 variable) variable
    ∷ plus (Postfixed PostIncrement 1 (Grouped element)) element ∷ []) ≡ exits (11 ∷ 9 ∷ 12 ∷ 8 ∷ 19 ∷ [])
counts = refl

-- main(){while(1) {S putchar('x');} putchar('k');}: each S breaks the loop
breaks : map
    (λ s. does (main (While (number 1) (block (s ∷ putchar (number 120) ∷ [])) ∷ putchar (number 107) ∷ []) ∷ []) [] 1)
    (Break 1 ∷ label (codes "l") (Break 1) ∷ block (Empty ∷ Break 1 ∷ []) ∷ block (Break 1 ∷ Empty ∷ [])
    ∷ If (number 1) (Break 1) ∷ IfElse (number 1) (Break 1) Empty ∷ IfElse (number 0) Empty (Break 1) ∷ [])
    ≡ replicate 7 (Some (Exited 0), codes "k")
breaks = refl

-- main(){while(1) {S putchar('x'); break;} putchar('k');}: no S breaks it
goes_on : map (λ s. does (main (While (number 1) (block (s ∷ putchar (number 120) ∷ Break 1 ∷ []))
    ∷ putchar (number 107) ∷ []) ∷ []) [] 2)
    (Empty ∷ label (codes "l") Empty ∷ Compound Nothing ∷ If (number 0) (Break 1) ∷ IfElse (number 1) Empty (Break 1)
    ∷ IfElse (number 0) (Break 1) Empty ∷ While (number 0) (Break 1) ∷ While (number 1) (Break 1)
    ∷ Switch (number 1) (More Nothing (Break 1)) ∷ Switch (number 1) (More Nothing (case 1 (Break 1))) ∷ [])
    ≡ replicate 10 (Some (Exited 0), codes "xk")
goes_on = refl

-- "ab" begins with "a", and "a" doesn't begin with "ab"
begins : IsBeginningOf (codes "a") (codes "ab")
begins = (codes "b", refl)

begins_not : IsBeginningOf (codes "ab") (codes "a") → ⊥
begins_not b = let e : 97 ∷ 98 ∷ b.0 ≡ 97 ∷ [] = b.1 in cc
