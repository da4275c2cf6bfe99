-- Closed facts: whole sources, what they mean and what the machine does with their code.
use Rattle.std.specs.Prelude.{◌≡◌, ℕ, zero, suc, List, [], ◌∷◌, map, replicate, codes, refl}
use Rattle.bword.specs.declared.edition.Edition.{Edition}
use Rattle.bword.specs.declared.edition.Edition.TheVariants as editions
use Rattle.std.specs.Fmt.{digits}
use Rattle.blang.specs.Cut.{whole, word_token, keyword_of, number_in, with_quoted_byte, escape_of, operator_of}
use Rattle.blang.specs.Cut.{other_of, fixed_of, tokens_from, cut, longest, greatest}
use Rattle.blang.specs.declared.token.Placed.{Placed}
use Rattle.bgrammar.specs.Reading.{Got, Stop}
use Rattle.blang.specs.Trees.{Definition}
use Rattle.bgrammar.specs.DefinitionReader.{definition}
use Rattle.blang.specs.Code.{code_of}
use Rattle.blang.specs.declared.run.Outcome.{Outcome}
use Rattle.blang.specs.declared.run.Outcome.TheVariants.{Exit, Trap, Limit}
use Rattle.blang.specs.declared.run.Trap.TheVariants as trap
use Rattle.blang.specs.Machine.{State, Halted, image_of, run, state_world}
use Rattle.blang.specs.Reports.{state_outcome}
use Rattle.blang.specs.Value.{Answer, Gives, Ends, Wants}
use Rattle.blang.specs.Meaning.{meant}

-- at most so many definitions, read one after another
abbrev read_all : ℕ → List Placed → List Definition
read_all zero tokens = []
read_all (suc n) tokens = elim (definition tokens) [ Got d rest ↦ d ∷ read_all n rest | Stop rest ↦ [] ]

abbrev definitions : Edition → List ℕ → List Definition
definitions edition source = read_all 8 (tokens_from edition 1 source)

-- how a program ends, where want of fuel is the limit, and what it has written
abbrev answered : Answer ⊥ → Outcome × List ℕ
answered (Gives v w) = elim v [ ]
answered (Ends e w) = (state_outcome (Halted e w), w.output)
answered (Wants w) = (Limit, w.output)

abbrev reached : State → Outcome × List ℕ
reached s = (state_outcome s, (state_world s).output)

-- the meaning with so much fuel, and the machine after so many steps
abbrev both_in : Edition → List ℕ → (input : List ℕ) → ℕ → List (Outcome × List ℕ)
both_in edition source input n =
    let ds = definitions edition source in
    answered (meant ds input n) ∷ reached (run (image_of (map code_of ds)) input n) ∷ []

abbrev both : List ℕ → (input : List ℕ) → ℕ → List (Outcome × List ℕ)
both = both_in editions.One

abbrev both_in_two : List ℕ → (input : List ℕ) → ℕ → List (Outcome × List ℕ)
both_in_two = both_in editions.Two

-- jumps into a loop, where the loop goes on, and to a label by its number
record Jumps : Type 0 where
  into_loop : both (codes "main(){auto i; i=0; goto in; while(i<3){in: putchar('a'+i); i++;}}") [] 400
      ≡ replicate 2 (Exit 0, codes "abc")
  back : both (codes "main(){auto i; i=0; L: putchar('a'+i); i++; if(i<3) goto L;}") [] 400
      ≡ replicate 2 (Exit 0, codes "abc")
  by_number : both (codes "f(){a: ;} main(){goto 3; b: putchar('b'); c: putchar('c');}") [] 400
      ≡ replicate 2 (Exit 0, codes "c")
  label_value : both (codes "f(){a: b: ;} main(){auto i; i=d; c: printn(i,10); d: ;}") [] 400
      ≡ replicate 2 (Exit 0, codes "4")
  no_label : both (codes "main(){putchar('.'); goto 9;}") [] 400 ≡ replicate 2 (Trap trap.NotALabel, codes ".")
  label_elsewhere : both (codes "f(l){goto l;} main(){f(x); x: ;}") [] 400 ≡ replicate 2 (Trap trap.NotALabel, [])

jumps : Jumps
unfolding tokens_from cut longest greatest whole word_token keyword_of number_in with_quoted_byte escape_of operator_of other_of fixed_of digits
jumps = record {
  into_loop = refl;
  back = refl;
  by_number = refl;
  label_value = refl;
  no_label = refl;
  label_elsewhere = refl;
}

-- switches: falling through, one inside another, a case inside a loop, none that fits
record Switches : Type 0 where
  falls_through :
      both (codes "main(){switch 2 {case 1: putchar('1'); case 2: putchar('2'); case 3: putchar('3');}}") [] 400
      ≡ replicate 2 (Exit 0, codes "23")
  no_case : both (codes "main(){switch 9 {case 1: putchar('1'); case 2: putchar('2');} putchar('.');}") [] 400
      ≡ replicate 2 (Exit 0, codes ".")
  inner_switch :
      both (codes
      "main(){switch 2 {case 1: putchar('1'); case 2: switch 1 {case 2: putchar('x'); case 1: putchar('y');} case 3: putchar('z');}}") [] 400
      ≡ replicate 2 (Exit 0, codes "yz")
  inner_case : both (codes "main(){switch 3 {case 1: switch 1 {case 3: putchar('x');} case 3: putchar('z');}}") [] 400
      ≡ replicate 2 (Exit 0, codes "z")
  case_in_loop :
      both (codes "main(){auto i; i=0; switch 1 {while(i<2) {case 1: putchar('a'); i++;}} putchar('.');}") [] 400
      ≡ replicate 2 (Exit 0, codes "aa.")
  nearest_if : both (codes "main(){if(1) if(0) putchar('a'); else putchar('b');}") [] 400
      ≡ replicate 2 (Exit 0, codes "b")

switches : Switches
unfolding tokens_from cut longest greatest whole word_token keyword_of number_in with_quoted_byte escape_of operator_of other_of fixed_of digits
switches = record {
  falls_through = refl;
  no_case = refl;
  inner_switch = refl;
  inner_case = refl;
  case_in_loop = refl;
  nearest_if = refl;
}

-- breaks and defaults: in each other, with jumps into them and out of them
record Breaks : Type 0 where
  default_falls_through :
      both_in_two (codes "main(){switch 9 {case 1: putchar('1'); default: putchar('d'); case 2: putchar('2');}}") [] 400
      ≡ replicate 2 (Exit 0, codes "d2")
  case_before_default :
      both_in_two (codes "main(){switch 2 {case 1: putchar('1'); default: putchar('d'); case 2: putchar('2');}}") [] 400
      ≡ replicate 2 (Exit 0, codes "2")
  default_alone : both_in_two (codes "main(){switch 9 {putchar('a'); default: putchar('d');} putchar('.');}") [] 400
      ≡ replicate 2 (Exit 0, codes "d.")
  leaves_the_switch :
      both_in_two
      (codes "main(){auto i; i=0; while(i<2) { switch i { case 0: break; default: putchar('x'); } i++; }}") [] 400
      ≡ replicate 2 (Exit 0, codes "x")
  loop_after :
      both_in_two (codes "main(){auto i; i=0; while(i<2) {i++; putchar('a'); break; while(1) ;} putchar('k');}") [] 400
      ≡ replicate 2 (Exit 0, codes "ak")
  loop_after_a_label :
      both_in_two
      (codes "main(){auto i; i=0; goto in; while(i<2) {i++; putchar('a'); in: break; while(1) ;} putchar('k');}") []
      400
      ≡ replicate 2 (Exit 0, codes "k")
  case_in_loop :
      both_in_two (codes "main(){switch 1 {while(1) {case 1: putchar('a'); break;} putchar('b');} putchar('c');}") []
      400
      ≡ replicate 2 (Exit 0, codes "abc")
  goto_to_a_break : both_in_two (codes "main(){goto in; switch 1 { case 1: in: break; } putchar('k');}") [] 400
      ≡ replicate 2 (Exit 0, codes "k")
  goto_into_both :
      both_in_two
      (codes "main(){goto in; switch 0 {case 1: while(1) {putchar('b'); in: break;} putchar('c'); break; default: putchar('d');} putchar('e');}") [] 400
      ≡ replicate 2 (Exit 0, codes "ce")
  three_deep :
      both_in_two
      (codes "main(){auto i; i=0; switch 1 {case 1: while(1) {switch i {default: i++; break; case 3: putchar('x');} putchar('w'); if(i==2) break;} putchar('s'); break; default: putchar('x');} putchar('.');}") [] 400
      ≡ replicate 2 (Exit 0, codes "wws.")
  in_and_out :
      both_in_two
      (codes "main(){auto i; i=0; goto in; switch 1 {case 1: while(i<3) {switch i {default: putchar('d'); in: i++; break; case 2: goto out;} putchar('w');} putchar('x'); default: ;} out: putchar('o');}") [] 400
      ≡ replicate 2 (Exit 0, codes "wdwo")

breaks : Breaks
unfolding tokens_from cut longest greatest whole word_token keyword_of number_in with_quoted_byte escape_of operator_of other_of fixed_of digits
breaks = record {
  default_falls_through = refl;
  case_before_default = refl;
  default_alone = refl;
  leaves_the_switch = refl;
  loop_after = refl;
  loop_after_a_label = refl;
  case_in_loop = refl;
  goto_to_a_break = refl;
  goto_into_both = refl;
  three_deep = refl;
  in_and_out = refl;
}

-- strings, each with words of its own
record Strings : Type 0 where
  string :
      both (codes
      "main(){auto s; s=\"hi\"; lchar(s,0,'H'); putchar(char(s,0)); putchar(char(s,1)); printn(char(s,2),10);}") []
      400
      ≡ replicate 2 (Exit 0, codes "Hi4")
  two_strings :
      both (codes "main(){auto s, t; s=\"a\"; t=\"a\"; lchar(s,0,'b'); putchar(char(s,0)); putchar(char(t,0));}") [] 400
      ≡ replicate 2 (Exit 0, codes "ba")

strings : Strings
unfolding tokens_from cut longest greatest whole word_token keyword_of number_in with_quoted_byte escape_of operator_of other_of fixed_of digits
strings = record {
  string = refl;
  two_strings = refl;
}

-- externals: words in order, a name that stands for an address, a name of the library that a definition hides
record Externals : Type 0 where
  addresses : both (codes "n 5; v[1]; main() { extrn n, v; printn(&n,10); putchar(' '); printn(v,10); }") [] 400
      ≡ replicate 2 (Exit 0, codes "7 9")
  values : both (codes "v[2] 'a','b'; main(){extrn v; putchar(v[0]); putchar(v[1]); printn(v[2],10);}") [] 400
      ≡ replicate 2 (Exit 0, codes "ab0")
  pointer : both (codes "p n; n 'x'; main(){extrn p; putchar(*p);}") [] 400 ≡ replicate 2 (Exit 0, codes "x")
  hides_exit : both (codes "exit(n) putchar(n); main(){exit('x'); putchar('y');}") [] 400
      ≡ replicate 2 (Exit 0, codes "xy")
  hides_printn :
      both (codes
      "printn(n,b) { extrn putchar; auto a; if(a=n/b) printn(a, b); putchar(n%b + '0'); } main() { printn(1972,10); }") [] 400
      ≡ replicate 2 (Exit 0, codes "1972")
  function_value : both (codes "f(x) putchar(x); main(){extrn f; auto g; g=f; g('q');}") [] 400
      ≡ replicate 2 (Exit 0, codes "q")
  no_function : both (codes "main(){extrn n; n();} n 0;") [] 400 ≡ replicate 2 (Trap trap.NotAFunction, [])

externals : Externals
unfolding tokens_from cut longest greatest whole word_token keyword_of number_in with_quoted_byte escape_of operator_of other_of fixed_of digits
externals = record {
  addresses = refl;
  values = refl;
  pointer = refl;
  hides_exit = refl;
  hides_printn = refl;
  function_value = refl;
  no_function = refl;
}

-- frames: not cleared, vectors in them, addresses that wrap
record Frames : Type 0 where
  frame_kept : both (codes "f(){auto a; a=7;} g(){auto b; return(b);} main(){f(); printn(g(),10);}") [] 400
      ≡ replicate 2 (Exit 0, codes "7")
  vector : both (codes "main(){auto v 2, i; i=0; while(i<3) {v[i]=i+'a'; i++;} i=3; while(i--) putchar(v[i]);}") [] 400
      ≡ replicate 2 (Exit 0, codes "cba")
  last_word :
      both (codes "main(){auto p; p=0; *p='a'; p=65535; *p='b'; putchar(*p); putchar(p[1]); putchar(*0);}") [] 400
      ≡ replicate 2 (Exit 0, codes "baa")
  no_room : both (codes "main(){auto v 32000; main();}") [] 400 ≡ replicate 2 (Trap trap.NoRoom, [])

frames : Frames
unfolding tokens_from cut longest greatest whole word_token keyword_of number_in with_quoted_byte escape_of operator_of other_of fixed_of digits
frames = record {
  frame_kept = refl;
  vector = refl;
  last_word = refl;
  no_room = refl;
}

-- calls: missing and extra arguments, the left operand first, recursion, what main returns
record Calls : Type 0 where
  arguments : both (codes "f(a,b) return(b); main(){printn(f(1),10); printn(f(1,2,3),10);}") [] 400
      ≡ replicate 2 (Exit 0, codes "02")
  left_first : both (codes "p(x){putchar(x);return(x);} main(){p('a')-p('b');}") [] 400
      ≡ replicate 2 (Exit 0, codes "ab")
  read_after : both (codes "n 1; f(){extrn n; n=5; return(1);} main(){extrn n; n =+ f(); printn(n,10);}") [] 400
      ≡ replicate 2 (Exit 0, codes "6")
  factorial : both (codes "f(n){if(n==0) return(1); return(n*f(n-1));} main(){printn(f(8),10);}") [] 400
      ≡ replicate 2 (Exit 0, codes "-25216")
  main_returns : both (codes "main() return(5);") [] 400 ≡ replicate 2 (Exit 0, [])
  exits : both (codes "main(){putchar('*n*n'); exit(200); putchar('x');}") [] 400 ≡ replicate 2 (Exit 72, codes "\n\n")
  exits_at_most : both (codes "main() exit(65535);") [] 400 ≡ replicate 2 (Exit 127, [])

calls : Calls
unfolding tokens_from cut longest greatest whole word_token keyword_of number_in with_quoted_byte escape_of operator_of other_of fixed_of digits
calls = record {
  arguments = refl;
  left_first = refl;
  read_after = refl;
  factorial = refl;
  main_returns = refl;
  exits = refl;
  exits_at_most = refl;
}

-- arithmetic: signs, wrapping, counting, zero divisors, bases
record Arithmetic : Type 0 where
  assigned : both (codes "main(){auto x; x=5; x=-1; printn(x,10);}") [] 400 ≡ replicate 2 (Exit 0, codes "4")
  toward_zero : both (codes "main(){printn(-7/2,10);printn(-7%2,10);}") [] 400 ≡ replicate 2 (Exit 0, codes "-3-1")
  least : both (codes "main(){printn((1<<15)/-1,10);printn((1<<15)%-1,10);}") [] 400
      ≡ replicate 2 (Exit 0, codes "-327680")
  shifted_out : both (codes "main(){printn(1<<16,10);printn(5,2);}") [] 400 ≡ replicate 2 (Exit 0, codes "0101")
  counts_down : both (codes "main(){auto x; x=0; printn(--x,10); printn(x--,10); printn(x,10);}") [] 400
      ≡ replicate 2 (Exit 0, codes "-1-1-2")
  counts_up : both (codes "main(){auto x; x=32767; printn(++x,10); x=65535; printn(x++,10); printn(x,10);}") [] 400
      ≡ replicate 2 (Exit 0, codes "-32768-10")
  zero_divisor : both (codes "main(){putchar('.'); printn(1/0,10);}") [] 400
      ≡ replicate 2 (Trap trap.ZeroDivisor, codes ".")
  zero_remainder : both (codes "main(){auto x; x=5; x=%0; putchar('.');}") [] 400
      ≡ replicate 2 (Trap trap.ZeroDivisor, [])
  base_11 : both (codes "main(){printn(5,11);}") [] 400 ≡ replicate 2 (Trap trap.BadBase, [])

arithmetic : Arithmetic
unfolding tokens_from cut longest greatest whole word_token keyword_of number_in with_quoted_byte escape_of operator_of other_of fixed_of digits
arithmetic = record {
  assigned = refl;
  toward_zero = refl;
  least = refl;
  shifted_out = refl;
  counts_down = refl;
  counts_up = refl;
  zero_divisor = refl;
  zero_remainder = refl;
  base_11 = refl;
}

-- the input
record Input : Type 0 where
  copies : both (codes "main(){auto c; while((c=getchar())!='*e') putchar(c);}") (codes "hi") 400
      ≡ replicate 2 (Exit 0, codes "hi")
  copies_nothing : both (codes "main(){auto c; while((c=getchar())!='*e') putchar(c);}") [] 400
      ≡ replicate 2 (Exit 0, [])
  end_again : both (codes "main(){getchar(); printn(getchar(),10); printn(getchar(),10);}") (codes "a") 400
      ≡ replicate 2 (Exit 0, codes "44")

input : Input
unfolding tokens_from cut longest greatest whole word_token keyword_of number_in with_quoted_byte escape_of operator_of other_of fixed_of digits
input = record {
  copies = refl;
  copies_nothing = refl;
  end_again = refl;
}

-- A run halts with its last step, and wants as much fuel as it makes turns of loops.
record Limits : Type 0 where
  two_steps : map (λ n. both (codes "main(){}") [] n) (1 ∷ 2 ∷ [])
      ≡ ((Exit 0, []) ∷ (Limit, []) ∷ []) ∷ ((Exit 0, []) ∷ (Exit 0, []) ∷ []) ∷ []
  endless : both (codes "main(){putchar('a'); while(1) ;}") [] 100 ≡ replicate 2 (Limit, codes "a")

limits : Limits
unfolding tokens_from cut longest greatest whole word_token keyword_of number_in with_quoted_byte escape_of operator_of other_of fixed_of digits
limits = record {
  two_steps = refl;
  endless = refl;
}
