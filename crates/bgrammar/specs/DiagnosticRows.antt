-- Closed facts: the lines of diagnostics, and each size limit with what is one past it.
use Rattle.std.specs.Prelude.{◌≡◌, ℕ, zero, suc, List, [], ◌∷◌, ◌++◌, map, replicate, codes, true, false, None, refl}
use Rattle.std.specs.Fmt.{digits}
use Rattle.blang.specs.declared.token.Letters.{Letters}
use Rattle.blang.specs.declared.token.Letters.TheVariants as letters
use Rattle.blang.specs.declared.token.Token.TheVariants as token
use Rattle.blang.specs.declared.token.Keyword.TheVariants as keyword
use Rattle.blang.specs.declared.token.Placed.{Placed}
use Rattle.blang.specs.declared.token.About.{About}
use Rattle.blang.specs.declared.token.About.TheVariants as about
use Rattle.blang.specs.declared.code.Instr.TheVariants as instr
use Rattle.blang.specs.declared.code.Ival.TheVariants as ival
use Rattle.blang.specs.declared.code.Definition as coded
use Rattle.blang.specs.declared.code.Definition.TheVariants as code
use Rattle.blang.specs.Trees.{mark, keyword_mark}
use Rattle.blang.specs.Cut.{placed}
use Rattle.blang.specs.Code.{fits_limits}
use Rattle.blang.specs.Compiles.{line_of}
use Rattle.bgrammar.specs.CodeRows.{number, semicolon, braced, function_f, fault_in, not_read, name_fault, lone_fault}
use Rattle.bgrammar.specs.CodeRows.{case_fault, case_token, default_on, cases_below, names_below}

-- all letters, in the order of their type
abbrev all : List Letters
all = letters.OpenComment ∷ letters.Character ∷ letters.LongName ∷ letters.Constant ∷ letters.Syntax
    ∷ letters.Redeclared
    ∷ letters.NotLvalue ∷ letters.TooManyNames ∷ letters.TooManyCases ∷ letters.Undefined ∷ letters.TooLarge ∷ []

abbrev lines : About → ℕ → List (List ℕ)
lines a line = map (λ l. line_of (record { letters = l; about = a; line = line })) all

about_nothing : lines about.Nothing 1
    ≡ codes "*/ 1\n" ∷ codes "ch 1\n" ∷ codes "nm 1\n" ∷ codes "ct 1\n" ∷ codes "sx 1\n"
    ∷ codes "rd 1\n" ∷ codes "lv 1\n" ∷ codes ">s 1\n" ∷ codes ">c 1\n" ∷ codes "un 1\n" ∷ codes ">e 1\n" ∷ []
unfolding digits
about_nothing = refl

about_case : lines about.Case 20
    ≡ codes "*/ case 20\n" ∷ codes "ch case 20\n" ∷ codes "nm case 20\n" ∷ codes "ct case 20\n"
    ∷ codes "sx case 20\n" ∷ codes "rd case 20\n" ∷ codes "lv case 20\n" ∷ codes ">s case 20\n" ∷ codes ">c case 20\n"
    ∷ codes "un case 20\n" ∷ codes ">e case 20\n" ∷ []
unfolding digits
about_case = refl

-- the greatest number of a line
about_name : lines (about.Name (codes "_name_12")) 18446744073709551615
    ≡ map (λ l. l ++ codes " _name_12 18446744073709551615\n")
    (codes "*/" ∷ codes "ch" ∷ codes "nm" ∷ codes "ct" ∷ codes "sx" ∷ codes "rd" ∷ codes "lv" ∷ codes ">s"
    ∷ codes ">c" ∷ codes "un"
    ∷ codes ">e" ∷ [])
unfolding digits
about_name = refl

-- a function with so many instructions, string words and frame words
abbrev function_of : ℕ → ℕ → ℕ → coded.Definition
function_of instrs strings frame = code.Function (record {
  name = codes "f";
  parameters = 0;
  frame = frame;
  targets = [];
  strings = replicate strings 4;
  code = replicate instrs instr.Pop;
})

abbrev simple_of : ℕ → ℕ → coded.Definition
simple_of values strings =
    code.Simple (record { name = codes "s"; values = replicate values (ival.Number 1); strings = replicate strings 4 })

abbrev vector_of : ℕ → ℕ → ℕ → coded.Definition
vector_of words values strings = code.Vector (record {
  name = codes "v";
  words = words;
  values = replicate values (ival.Number 1);
  strings = replicate strings 4;
})

-- 4096 instructions, 1024 string words, 32767 frame words
function_limits : map fits_limits (function_of 4096 1024 32767 ∷ function_of 4097 0 0 ∷ function_of 0 1025 0
    ∷ function_of 0 0 32768 ∷ []) ≡ true ∷ replicate 3 false
function_limits = refl

-- 1024 initial values and as many string words
simple_limits : map fits_limits (simple_of 1024 1024 ∷ simple_of 1025 0 ∷ simple_of 0 1025 ∷ [])
    ≡ true ∷ replicate 2 false
simple_limits = refl

-- 32767 words of a vector
vector_limits : map fits_limits
    (vector_of 32767 1024 1024 ∷ vector_of 32768 0 0 ∷ vector_of 1 1025 0 ∷ vector_of 1 0 1025
    ∷ []) ≡ true ∷ replicate 3 false
vector_limits = refl

-- `case` with this constant, on this line
abbrev one_case : ℕ → ℕ → List Placed
one_case line n = case_token line ∷ number n ∷ mark token.Colon ∷ []

abbrev switched : List Placed → List Placed
switched ts = function_f [] (keyword_mark keyword.Switch ∷ number 1 ∷ braced (ts ++ semicolon ∷ []))

-- After 256 cases, which are those of 0 to 255, a further one is too many; one that was there is refused for that.
case_again : fault_in [] (switched (cases_below 256 ++ one_case 3 7)) ≡ case_fault letters.Redeclared 3
case_again = refl

case_257 : fault_in [] (switched (cases_below 256 ++ one_case 3 256)) ≡ lone_fault letters.TooManyCases 3
case_257 = refl

-- and outside a switch before both: `f() { switch 1 { .. } case 0: ; }`
case_outside : fault_in [] (function_f [] (braced (keyword_mark keyword.Switch ∷ number 1 ∷ (braced (cases_below 256
    ++ semicolon ∷ []) ++ one_case 3 0 ++ semicolon ∷ [])))) ≡ case_fault letters.Syntax 3
case_outside = refl

-- Cases count over a whole function: 256 in one switch, and one in another.
case_elsewhere : fault_in [] (function_f [] (braced (keyword_mark keyword.Switch ∷ number 1 ∷ (braced (cases_below 256
    ++ semicolon ∷ []) ++ keyword_mark keyword.Switch ∷ number 1 ∷ braced (one_case 3 0 ++ semicolon ∷ [])))))
    ≡ lone_fault letters.TooManyCases 3
case_elsewhere = refl

-- After 128 names one that is there isn't too many, but it is declared again.
name_again : fault_in [] (function_f (names_below 128) (keyword_mark keyword.Auto ∷ placed (token.Name (7 ∷ [])) 3
    ∷ semicolon ∷ semicolon ∷ [])) ≡ name_fault letters.Redeclared 7 3
name_again = refl

-- The name of the definition itself comes first: `f() 1=2;` after a definition of `f`.
defined_first : fault_in (codes "f" ∷ []) (function_f [] (number 1 ∷ placed (token.Assign None) 3 ∷ number 2
    ∷ semicolon ∷ [])) ≡ name_fault letters.Redeclared 102 1
defined_first = refl

-- so many switches, each at the default of the one around it
abbrev switches : ℕ → List Placed
switches zero = semicolon ∷ []
switches (suc n) = keyword_mark keyword.Switch ∷ number 1 ∷ braced (default_on 1 ++ switches n)

-- 200 switches may be open, each with a default, and 201 may not.
open_switches : fault_in [] (function_f [] (switches 200)) ≡ None
open_switches = refl

too_deep_switches : fault_in [] (function_f [] (switches 201)) ≡ not_read
too_deep_switches = refl
