-- Closed facts: what the first rules of `check` find in small programs, at which token, and where two meet there.
use Rattle.std.specs.Prelude.{◌≡◌, ℕ, zero, suc, ◌+◌, codes, List, [], ◌∷◌, ◌++◌, length, None, Option}
use Rattle.std.specs.Prelude.{Some, drop, refl, replicate, take}
use Rattle.std.specs.List.{flat_map, range_with_len}
use Rattle.bword.specs.declared.operators.BinOp.TheVariants as op
use Rattle.blang.specs.Trees.{Address, Another, Assigned, Binary, Break, Called, Compound, Conditional, Definition}
use Rattle.blang.specs.Trees.{Empty, Evaluate, Expr, Function, Goto, Grouped, Identifier, If, IfElse, Indexed}
use Rattle.blang.specs.Trees.{Indirection, Literal, More, Named, Negate, No_arguments, Not, Nothing, Number, Character}
use Rattle.blang.specs.Trees.{PostDecrement, Postfixed, PostIncrement, Prefixed, Return, ReturnValue, Stmts, Text}
use Rattle.blang.specs.Trees.{While}
use Rattle.bmatch.specs.declared.noticing.Notice.{Notice}
use Rattle.bmatch.specs.declared.pattern.RuleTable.{RuleTable}
use Rattle.bmatch.specs.declared.tree.TokenPlace.{TokenPlace}
use Rattle.bmatch.specs.declared.tree.Tree.{Tree}
use Rattle.bmatch.specs.Fits.{ends_of}
use Rattle.bmatch.specs.Growing.{lexemes_of, program_rows}
use Rattle.bmatch.specs.Notices.{notices_by}
use Rattle.blint.specs.declared.check_rules.TheConstants.{CLAIMS, RULES, STEPS, WARNINGS}
use Rattle.blint.specs.declared.warnings.Warning.{Warning}
use Rattle.blint.specs.declared.warnings.Warning.TheVariants as warning
use Rattle.blint.specs.Noticed.{first_notice, warning_of}

-- The rules that are asked here come first, but for the last of them. So what they say of a token counts before all others.
abbrev asked : {A : Type 0} → List A → List A
asked all = take 44 all ++ take 1 (drop 79 all)

first_warnings : asked WARNINGS
    ≡ warning.AndAnd ∷ warning.OperatorAssigns ∷ warning.Backslash ∷ warning.BitsCompared ∷ warning.BitsCompared ∷
    warning.BitsCompared ∷ warning.ComparesTwice ∷ warning.NotCompared ∷ warning.NotCompared ∷ warning.OrConstant ∷
    warning.StringsAdded ∷ warning.StringForCharacter ∷ warning.NegativeNumber ∷ warning.StringEnd ∷
    warning.StringEnd ∷ warning.InputEnd ∷ warning.InputZero ∷ warning.InputZero ∷ warning.AssignsItself ∷
    warning.PassesOldValue ∷ warning.AssignsComparison ∷ warning.AssignsComparison ∷ warning.AssignsComparison ∷
    warning.AssignsComparison ∷ warning.ConditionAssigns ∷ warning.ConditionAssigns ∷ warning.ConditionAssigns ∷
    warning.ConditionAssigns ∷ warning.ConditionAssigns ∷ warning.AssignsCompared ∷ warning.AssignsCompared ∷
    warning.AssignsCompared ∷ warning.EmptyIf ∷ warning.EmptyLoop ∷ warning.EmptyLoop ∷ warning.EmptyLoop ∷
    warning.EndlessLoop ∷ warning.NoReturn ∷ warning.NameAlone ∷ warning.ComparesAlone ∷ warning.ValueDropped ∷
    warning.ValueDropped ∷ warning.ValueDropped ∷ warning.NoEffect ∷ warning.StringCompared ∷ []
first_warnings = refl

abbrev table : RuleTable
table =
    record {
      steps = record { ref_ptr = (0, 0); now = STEPS };
      claims = record { ref_ptr = (0, 0); now = CLAIMS };
      rules = record { ref_ptr = (0, 0); now = asked RULES };
    }

abbrev tree : (text : List ℕ) → List TokenPlace → List Definition → Tree
tree text places ds =
    record {
      text = record { ref_ptr = (0, 0); now = text };
      lexemes = record { ref_ptr = (0, 0); now = lexemes_of ds };
      places = record { ref_ptr = (0, 0); now = places };
      rows = record { ref_ptr = (0, 0); now = program_rows ds };
    }

abbrev Told : Type 0
Told = ℕ × Warning

abbrev with_token : (token : ℕ) → Option Warning → List Told
with_token token None = []
with_token token (Some w) = (token, w) ∷ []

-- the tokens of which something is said, each with what is said first
abbrev first_of : (tokens : ℕ) → List Notice → List Told
first_of tokens ns = flat_map (λ token. with_token token (warning_of (first_notice ns token))) (range_with_len 0 tokens)

abbrev told : Tree → List Told
told t = first_of (length t.lexemes.now) (notices_by t table)

abbrev name : List ℕ → Identifier
name text = record { text = text; line = 1 }

-- g(x){..}: what stands in the braces begins with the token 5
abbrev program : Stmts → List Definition
program body = Function (name (codes "g")) (name (codes "x") ∷ []) (Compound body) ∷ []

abbrev seen : Stmts → List Told
seen body = told (tree [] [] (program body))

-- the places of tokens of so many bytes; 0 is a blank between two
abbrev places_from : (start : ℕ) → List ℕ → List TokenPlace
places_from start [] = []
places_from start (zero ∷ lens) = places_from (start + 1) lens
places_from start (suc n ∷ lens) =
    record { line = 1; start = start; len = suc n } ∷ places_from (start + suc n) lens

-- the same with the text and the places of what stands in the braces, where a rule looks at them
abbrev seen_at : (text lens : List ℕ) → Stmts → List Told
seen_at text lens body =
    told (tree (codes "g(x){" ++ text ++ codes "}") (places_from 0 (replicate 5 1 ++ lens ++ 1 ∷ [])) (program body))

abbrev named : List ℕ → Expr
named text = Named (name text)

abbrev number : ℕ → Expr
number n = Literal (Number n)

abbrev character : ℕ → Expr
character n = Literal (Character n)

abbrev x : Expr
x = named (codes "x")

abbrev y : Expr
y = named (codes "y")

abbrev c : Expr
c = named (codes "c")

abbrev s : Expr
s = named (codes "s")

abbrev f : Expr
f = named (codes "f")

abbrev char : Expr
char = named (codes "char")

abbrev getchar : Expr
getchar = named (codes "getchar")

-- && , and & before &
ands :
    -- y=x&&c;
    seen_at (codes "y=x&&c;") (1 ∷ 1 ∷ 1 ∷ 1 ∷ 1 ∷ 1 ∷ 1 ∷ []) (More Nothing (Evaluate (Assigned None 1 y (Binary
    op.And 1 x (Prefixed Address 1 c)))))
    -- y=x& &c;
    ∷ seen_at (codes "y=x& &c;") (1 ∷ 1 ∷ 1 ∷ 1 ∷ 0 ∷ 1 ∷ 1 ∷ 1 ∷ []) (More Nothing (Evaluate (Assigned None 1 y
    (Binary op.And 1 x (Prefixed Address 1 c)))))
    -- if(x&&y==1)f();
    ∷ seen_at (codes "if(x&&y==1)f();") (2 ∷ 1 ∷ 1 ∷ 1 ∷ 1 ∷ 1 ∷ 2 ∷ 1 ∷ 1 ∷ 1 ∷ 1 ∷ 1 ∷ 1 ∷ []) (More Nothing (If
    (Binary op.And 1 x (Binary op.Eq 1 (Prefixed Address 1 y) (number 1))) (Evaluate (Called f No_arguments))))
    -- if(x& &y==1)f();
    ∷ seen_at (codes "if(x& &y==1)f();") (2 ∷ 1 ∷ 1 ∷ 1 ∷ 0 ∷ 1 ∷ 1 ∷ 2 ∷ 1 ∷ 1 ∷ 1 ∷ 1 ∷ 1 ∷ 1 ∷ []) (More Nothing
    (If (Binary op.And 1 x (Binary op.Eq 1 (Prefixed Address 1 y) (number 1))) (Evaluate (Called f No_arguments)))) ∷ []
    ≡ ((8, warning.AndAnd) ∷ []) ∷ [] ∷ ((8, warning.AndAnd) ∷ []) ∷ ((8, warning.BitsCompared) ∷ []) ∷ []
unfolding ends_of
ands = refl

-- =- without a blank, also in a condition
operators_assign :
    -- y=-1;
    seen_at (codes "y=-1;") (1 ∷ 2 ∷ 1 ∷ 1 ∷ []) (More Nothing (Evaluate (Assigned (Some op.Sub) 1 y (number 1))))
    -- y=*x;
    ∷ seen_at (codes "y=*x;") (1 ∷ 2 ∷ 1 ∷ 1 ∷ []) (More Nothing (Evaluate (Assigned (Some op.Mul) 1 y x)))
    -- y=&x;
    ∷ seen_at (codes "y=&x;") (1 ∷ 2 ∷ 1 ∷ 1 ∷ []) (More Nothing (Evaluate (Assigned (Some op.And) 1 y x)))
    -- y=- 1;
    ∷ seen_at (codes "y=- 1;") (1 ∷ 2 ∷ 0 ∷ 1 ∷ 1 ∷ []) (More Nothing (Evaluate (Assigned (Some op.Sub) 1 y (number
    1))))
    -- y=+1;
    ∷ seen_at (codes "y=+1;") (1 ∷ 2 ∷ 1 ∷ 1 ∷ []) (More Nothing (Evaluate (Assigned (Some op.Add) 1 y (number 1))))
    -- if(y=-1)f();
    ∷ seen_at (codes "if(y=-1)f();") (2 ∷ 1 ∷ 1 ∷ 2 ∷ 1 ∷ 1 ∷ 1 ∷ 1 ∷ 1 ∷ 1 ∷ []) (More Nothing (If (Assigned (Some
    op.Sub) 1 y (number 1)) (Evaluate (Called f No_arguments))))
    -- if(y=- 1)f();
    ∷ seen_at (codes "if(y=- 1)f();") (2 ∷ 1 ∷ 1 ∷ 2 ∷ 0 ∷ 1 ∷ 1 ∷ 1 ∷ 1 ∷ 1 ∷ 1 ∷ []) (More Nothing (If (Assigned
    (Some op.Sub) 1 y (number 1)) (Evaluate (Called f No_arguments)))) ∷ []
    ≡ ((6, warning.OperatorAssigns) ∷ []) ∷ ((6, warning.OperatorAssigns) ∷ []) ∷ ((6, warning.OperatorAssigns) ∷ [])
    ∷ [] ∷ [] ∷ ((8, warning.OperatorAssigns) ∷ []) ∷ ((8, warning.ConditionAssigns) ∷ []) ∷ []
unfolding ends_of
operators_assign = refl

backslashes :
    -- f('\n');
    seen_at (codes "f('\\n');") (1 ∷ 1 ∷ 4 ∷ 1 ∷ 1 ∷ []) (More Nothing (Evaluate (Called f (Another No_arguments
    (character 23662)))))
    -- f("a\n");
    ∷ seen_at (codes "f(\"a\\n\");") (1 ∷ 1 ∷ 5 ∷ 1 ∷ 1 ∷ []) (More Nothing (Evaluate (Called f (Another No_arguments
    (Text (codes "a\\n") 0)))))
    -- f('*n');
    ∷ seen_at (codes "f('*n');") (1 ∷ 1 ∷ 4 ∷ 1 ∷ 1 ∷ []) (More Nothing (Evaluate (Called f (Another No_arguments
    (character 10)))))
    -- '\n';
    ∷ seen_at (codes "'\\n';") (4 ∷ 1 ∷ []) (More Nothing (Evaluate (character 23662)))
    -- '*n';
    ∷ seen_at (codes "'*n';") (4 ∷ 1 ∷ []) (More Nothing (Evaluate (character 10))) ∷ []
    ≡ ((7, warning.Backslash) ∷ []) ∷ ((7, warning.Backslash) ∷ []) ∷ [] ∷ ((5, warning.Backslash) ∷ []) ∷ ((
      5,
      warning.NoEffect,
    ) ∷ []) ∷ []
unfolding ends_of
backslashes = refl

-- a string of at most two bytes after the operator is meant as a character
strings_compared :
    -- if(c=="a")f();
    seen_at (codes "if(c==\"a\")f();") (2 ∷ 1 ∷ 1 ∷ 2 ∷ 3 ∷ 1 ∷ 1 ∷ 1 ∷ 1 ∷ 1 ∷ []) (More Nothing (If (Binary op.Eq 1
    c (Text (codes "a") 0)) (Evaluate (Called f No_arguments))))
    -- if(c<"ab")f();
    ∷ seen_at (codes "if(c<\"ab\")f();") (2 ∷ 1 ∷ 1 ∷ 1 ∷ 4 ∷ 1 ∷ 1 ∷ 1 ∷ 1 ∷ 1 ∷ []) (More Nothing (If (Binary op.Lt
    1 c (Text (codes "ab") 0)) (Evaluate (Called f No_arguments))))
    -- if(c=="abc")f();
    ∷ seen_at (codes "if(c==\"abc\")f();") (2 ∷ 1 ∷ 1 ∷ 2 ∷ 5 ∷ 1 ∷ 1 ∷ 1 ∷ 1 ∷ 1 ∷ []) (More Nothing (If (Binary
    op.Eq 1 c (Text (codes "abc") 0)) (Evaluate (Called f No_arguments))))
    -- if("a"==c)f();
    ∷ seen_at (codes "if(\"a\"==c)f();") (2 ∷ 1 ∷ 3 ∷ 2 ∷ 1 ∷ 1 ∷ 1 ∷ 1 ∷ 1 ∷ 1 ∷ []) (More Nothing (If (Binary op.Eq
    1 (Text (codes "a") 0) c) (Evaluate (Called f No_arguments))))
    -- if(c=='a')f();
    ∷ seen_at (codes "if(c=='a')f();") (2 ∷ 1 ∷ 1 ∷ 2 ∷ 3 ∷ 1 ∷ 1 ∷ 1 ∷ 1 ∷ 1 ∷ []) (More Nothing (If (Binary op.Eq 1
    c (character 97)) (Evaluate (Called f No_arguments))))
    -- c=="abc";
    ∷ seen_at (codes "c==\"abc\";") (1 ∷ 2 ∷ 5 ∷ 1 ∷ []) (More Nothing (Evaluate (Binary op.Eq 1 c (Text (codes "abc")
    0)))) ∷ []
    ≡ ((9, warning.StringForCharacter) ∷ []) ∷ ((9, warning.StringForCharacter) ∷ []) ∷ ((9, warning.StringCompared) ∷
    []) ∷ ((7, warning.StringCompared) ∷ []) ∷ [] ∷ ((6, warning.ComparesAlone) ∷ (7, warning.StringCompared) ∷ []) ∷
    []
unfolding ends_of
strings_compared = refl

bits_compared :
    -- if(x&1==1)f();
    seen (More Nothing (If (Binary op.And 1 x (Binary op.Eq 1 (number 1) (number 1))) (Evaluate (Called f
    No_arguments))))
    -- if(x|1!=1)f();
    ∷ seen (More Nothing (If (Binary op.Or 1 x (Binary op.Ne 1 (number 1) (number 1))) (Evaluate (Called f
    No_arguments))))
    -- if((x&1)==1)f();
    ∷ seen (More Nothing (If (Binary op.Eq 1 (Grouped (Binary op.And 1 x (number 1))) (number 1)) (Evaluate (Called f
    No_arguments))))
    -- if(x&1<1)f();
    ∷ seen (More Nothing (If (Binary op.And 1 x (Binary op.Lt 1 (number 1) (number 1))) (Evaluate (Called f
    No_arguments))))
    -- if(f(x)&1==1)f();
    ∷ seen (More Nothing (If (Binary op.And 1 (Called f (Another No_arguments x)) (Binary op.Eq 1 (number 1) (number
    1))) (Evaluate (Called f No_arguments))))
    -- if(f(x)&x==1)f();
    ∷ seen (More Nothing (If (Binary op.And 1 (Called f (Another No_arguments x)) (Binary op.Eq 1 x (number 1)))
    (Evaluate (Called f No_arguments))))
    -- x&1==1;
    ∷ seen (More Nothing (Evaluate (Binary op.And 1 x (Binary op.Eq 1 (number 1) (number 1))))) ∷ []
    ≡ ((8, warning.BitsCompared) ∷ []) ∷ ((8, warning.BitsCompared) ∷ []) ∷ [] ∷ [] ∷ ((11, warning.BitsCompared) ∷
    []) ∷ [] ∷ ((5, warning.NoEffect) ∷ (6, warning.BitsCompared) ∷ []) ∷ []
unfolding ends_of
bits_compared = refl

bits_of_words :
    -- if(s[x]&y==c)f();
    seen (More Nothing (If (Binary op.And 1 (Indexed s x) (Binary op.Eq 1 y c)) (Evaluate (Called f No_arguments))))
    -- if(*s&y==c)f();
    ∷ seen (More Nothing (If (Binary op.And 1 (Prefixed Indirection 1 s) (Binary op.Eq 1 y c)) (Evaluate (Called f
    No_arguments))))
    -- if(-x&y==c)f();
    ∷ seen (More Nothing (If (Binary op.And 1 (Prefixed Negate 1 x) (Binary op.Eq 1 y c)) (Evaluate (Called f
    No_arguments))))
    -- if(x+1&y==c)f();
    ∷ seen (More Nothing (If (Binary op.And 1 (Binary op.Add 1 x (number 1)) (Binary op.Eq 1 y c)) (Evaluate (Called f
    No_arguments))))
    -- if(2&y==c)f();
    ∷ seen (More Nothing (If (Binary op.And 1 (number 2) (Binary op.Eq 1 y c)) (Evaluate (Called f No_arguments))))
    -- if(!x&y==c)f();
    ∷ seen (More Nothing (If (Binary op.And 1 (Prefixed Not 1 x) (Binary op.Eq 1 y c)) (Evaluate (Called f
    No_arguments)))) ∷ []
    ≡ ((11, warning.BitsCompared) ∷ []) ∷ ((9, warning.BitsCompared) ∷ []) ∷ ((9, warning.BitsCompared) ∷ []) ∷ ((
      10,
      warning.BitsCompared,
    ) ∷ []) ∷ ((8, warning.BitsCompared) ∷ []) ∷ [] ∷ []
unfolding ends_of
bits_of_words = refl

compares_twice :
    -- if(1<x<3)f();
    seen (More Nothing (If (Binary op.Lt 1 (Binary op.Lt 1 (number 1) x) (number 3)) (Evaluate (Called f
    No_arguments))))
    -- if(1==x!=3)f();
    ∷ seen (More Nothing (If (Binary op.Ne 1 (Binary op.Eq 1 (number 1) x) (number 3)) (Evaluate (Called f
    No_arguments))))
    -- if(1<x==3<c)f();
    ∷ seen (More Nothing (If (Binary op.Eq 1 (Binary op.Lt 1 (number 1) x) (Binary op.Lt 1 (number 3) c)) (Evaluate
    (Called f No_arguments))))
    -- if((1<x)<3)f();
    ∷ seen (More Nothing (If (Binary op.Lt 1 (Grouped (Binary op.Lt 1 (number 1) x)) (number 3)) (Evaluate (Called f
    No_arguments))))
    -- 1==x==3;
    ∷ seen (More Nothing (Evaluate (Binary op.Eq 1 (Binary op.Eq 1 (number 1) x) (number 3)))) ∷ []
    ≡ ((10, warning.ComparesTwice) ∷ []) ∷ ((10, warning.ComparesTwice) ∷ []) ∷ [] ∷ [] ∷ ((8, warning.ComparesTwice)
    ∷ []) ∷ []
unfolding ends_of
compares_twice = refl

not_compared :
    -- if(!x==3)f();
    seen (More Nothing (If (Binary op.Eq 1 (Prefixed Not 1 x) (number 3)) (Evaluate (Called f No_arguments))))
    -- if(!x==!y)f();
    ∷ seen (More Nothing (If (Binary op.Eq 1 (Prefixed Not 1 x) (Prefixed Not 1 y)) (Evaluate (Called f
    No_arguments))))
    -- if((!x)==3)f();
    ∷ seen (More Nothing (If (Binary op.Eq 1 (Grouped (Prefixed Not 1 x)) (number 3)) (Evaluate (Called f
    No_arguments))))
    -- if(!x<3)f();
    ∷ seen (More Nothing (If (Binary op.Lt 1 (Prefixed Not 1 x) (number 3)) (Evaluate (Called f No_arguments))))
    -- if(!x<!y)f();
    ∷ seen (More Nothing (If (Binary op.Lt 1 (Prefixed Not 1 x) (Prefixed Not 1 y)) (Evaluate (Called f
    No_arguments))))
    -- if(!(x<3))f();
    ∷ seen (More Nothing (If (Prefixed Not 1 (Grouped (Binary op.Lt 1 x (number 3)))) (Evaluate (Called f
    No_arguments))))
    -- !x==3;
    ∷ seen (More Nothing (Evaluate (Binary op.Eq 1 (Prefixed Not 1 x) (number 3)))) ∷ []
    ≡ ((9, warning.NotCompared) ∷ []) ∷ [] ∷ [] ∷ ((9, warning.NotCompared) ∷ []) ∷ ((9, warning.NotCompared) ∷ []) ∷
    [] ∷ ((7, warning.NotCompared) ∷ []) ∷ []
unfolding ends_of
not_compared = refl

or_constant :
    -- if(c=='a'|'e')f();
    seen (More Nothing (If (Binary op.Or 1 (Binary op.Eq 1 c (character 97)) (character 101)) (Evaluate (Called f
    No_arguments))))
    -- if(c<'a'&'e')f();
    ∷ seen (More Nothing (If (Binary op.And 1 (Binary op.Lt 1 c (character 97)) (character 101)) (Evaluate (Called f
    No_arguments))))
    -- if(c=='a'|c=='e')f();
    ∷ seen (More Nothing (If (Binary op.Or 1 (Binary op.Eq 1 c (character 97)) (Binary op.Eq 1 c (character 101)))
    (Evaluate (Called f No_arguments))))
    -- if(y|c=='a'|'e')f();
    ∷ seen (More Nothing (If (Binary op.Or 1 (Binary op.Or 1 y (Binary op.Eq 1 c (character 97))) (character 101))
    (Evaluate (Called f No_arguments)))) ∷ []
    ≡ ((10, warning.OrConstant) ∷ []) ∷ ((10, warning.OrConstant) ∷ []) ∷ [] ∷ ((8, warning.BitsCompared) ∷ (
      12,
      warning.OrConstant,
    ) ∷ []) ∷ []
unfolding ends_of
or_constant = refl

strings_added :
    -- f("a"+"b");
    seen (More Nothing (Evaluate (Called f (Another No_arguments (Binary op.Add 1 (Text (codes "a") 0) (Text (codes
    "b") 0))))))
    -- f("a"+1);
    ∷ seen (More Nothing (Evaluate (Called f (Another No_arguments (Binary op.Add 1 (Text (codes "a") 0) (number
    1))))))
    -- f("a"-"b");
    ∷ seen (More Nothing (Evaluate (Called f (Another No_arguments (Binary op.Sub 1 (Text (codes "a") 0) (Text (codes
    "b") 0))))))
    -- "a"+"b";
    ∷ seen (More Nothing (Evaluate (Binary op.Add 1 (Text (codes "a") 0) (Text (codes "b") 0)))) ∷ []
    ≡ ((8, warning.StringsAdded) ∷ []) ∷ [] ∷ [] ∷ ((5, warning.NoEffect) ∷ (6, warning.StringsAdded) ∷ []) ∷ []
unfolding ends_of
strings_added = refl

negative_numbers :
    -- if(x>40000)f();
    seen (More Nothing (If (Binary op.Gt 1 x (number 40000)) (Evaluate (Called f No_arguments))))
    -- if(32768<x)f();
    ∷ seen (More Nothing (If (Binary op.Lt 1 (number 32768) x) (Evaluate (Called f No_arguments))))
    -- if(x>32767)f();
    ∷ seen (More Nothing (If (Binary op.Gt 1 x (number 32767)) (Evaluate (Called f No_arguments))))
    -- if(x==40000)f();
    ∷ seen (More Nothing (If (Binary op.Eq 1 x (number 40000)) (Evaluate (Called f No_arguments))))
    -- x>40000;
    ∷ seen (More Nothing (Evaluate (Binary op.Gt 1 x (number 40000)))) ∷ []
    ≡ ((9, warning.NegativeNumber) ∷ []) ∷ ((7, warning.NegativeNumber) ∷ []) ∷ [] ∷ [] ∷ ((6, warning.ComparesAlone)
    ∷ (7, warning.NegativeNumber) ∷ []) ∷ []
unfolding ends_of
negative_numbers = refl

string_end :
    -- while(char(s,x)!=0)x++;
    seen (More Nothing (While (Binary op.Ne 1 (Called char (Another (Another No_arguments s) x)) (number 0)) (Evaluate
    (Postfixed PostIncrement 1 x))))
    -- while((c=char(s,x++))!=0)f(c);
    ∷ seen (More Nothing (While (Binary op.Ne 1 (Grouped (Assigned None 1 c (Called char (Another (Another
    No_arguments s) (Postfixed PostIncrement 1 x))))) (number 0)) (Evaluate (Called f (Another No_arguments c)))))
    -- while(char(s,x)!=-1)x++;
    ∷ seen (More Nothing (While (Binary op.Ne 1 (Called char (Another (Another No_arguments s) x)) (Prefixed Negate 1
    (number 1))) (Evaluate (Postfixed PostIncrement 1 x))))
    -- while(char(s,x)!='*e')x++;
    ∷ seen (More Nothing (While (Binary op.Ne 1 (Called char (Another (Another No_arguments s) x)) (character 4))
    (Evaluate (Postfixed PostIncrement 1 x))))
    -- while(char(s,x))x++;
    ∷ seen (More Nothing (While (Called char (Another (Another No_arguments s) x)) (Evaluate (Postfixed PostIncrement
    1 x))))
    -- while(c=char(s,x++))f(c);
    ∷ seen (More Nothing (While (Assigned None 1 c (Called char (Another (Another No_arguments s) (Postfixed
    PostIncrement 1 x)))) (Evaluate (Called f (Another No_arguments c)))))
    -- while((c=char(s,x++))!='*e')f(c);
    ∷ seen (More Nothing (While (Binary op.Ne 1 (Grouped (Assigned None 1 c (Called char (Another (Another
    No_arguments s) (Postfixed PostIncrement 1 x))))) (character 4)) (Evaluate (Called f (Another No_arguments c))))) ∷ []
    ≡ ((14, warning.StringEnd) ∷ []) ∷ ((19, warning.StringEnd) ∷ []) ∷ ((14, warning.StringEnd) ∷ []) ∷ [] ∷ ((
      7,
      warning.StringEnd,
    ) ∷ []) ∷ ((9, warning.StringEnd) ∷ []) ∷ [] ∷ []
unfolding ends_of
string_end = refl

input_end :
    -- while((c=getchar())!=-1)f(c);
    seen (More Nothing (While (Binary op.Ne 1 (Grouped (Assigned None 1 c (Called getchar No_arguments))) (Prefixed
    Negate 1 (number 1))) (Evaluate (Called f (Another No_arguments c)))))
    -- if(getchar()<0)f();
    ∷ seen (More Nothing (If (Binary op.Lt 1 (Called getchar No_arguments) (number 0)) (Evaluate (Called f
    No_arguments))))
    -- while((c=getchar())!='*e')f(c);
    ∷ seen (More Nothing (While (Binary op.Ne 1 (Grouped (Assigned None 1 c (Called getchar No_arguments))) (character
    4)) (Evaluate (Called f (Another No_arguments c)))))
    -- while((c=f())!=-1)f(c);
    ∷ seen (More Nothing (While (Binary op.Ne 1 (Grouped (Assigned None 1 c (Called f No_arguments))) (Prefixed Negate
    1 (number 1))) (Evaluate (Called f (Another No_arguments c))))) ∷ []
    ≡ ((15, warning.InputEnd) ∷ []) ∷ ((11, warning.InputEnd) ∷ []) ∷ [] ∷ [] ∷ []
unfolding ends_of
input_end = refl

input_zero :
    -- while((c=getchar())!=0)f(c);
    seen (More Nothing (While (Binary op.Ne 1 (Grouped (Assigned None 1 c (Called getchar No_arguments))) (number 0))
    (Evaluate (Called f (Another No_arguments c)))))
    -- while((c=getchar())!=4)f(c);
    ∷ seen (More Nothing (While (Binary op.Ne 1 (Grouped (Assigned None 1 c (Called getchar No_arguments))) (number
    4)) (Evaluate (Called f (Another No_arguments c)))))
    -- while(c=getchar())f(c);
    ∷ seen (More Nothing (While (Assigned None 1 c (Called getchar No_arguments)) (Evaluate (Called f (Another
    No_arguments c)))))
    -- while(getchar())x++;
    ∷ seen (More Nothing (While (Called getchar No_arguments) (Evaluate (Postfixed PostIncrement 1 x))))
    -- while(c=f())f(c);
    ∷ seen (More Nothing (While (Assigned None 1 c (Called f No_arguments)) (Evaluate (Called f (Another No_arguments
    c)))))
    -- while(c=getchar()!=0)f(c);
    ∷ seen (More Nothing (While (Assigned None 1 c (Binary op.Ne 1 (Called getchar No_arguments) (number 0)))
    (Evaluate (Called f (Another No_arguments c))))) ∷ []
    ≡ ((15, warning.InputZero) ∷ []) ∷ [] ∷ ((9, warning.InputZero) ∷ []) ∷ ((7, warning.InputZero) ∷ []) ∷ [] ∷ ((
      8,
      warning.AssignsComparison,
    ) ∷ (13, warning.InputZero) ∷ []) ∷ []
unfolding ends_of
input_zero = refl

assigns_itself :
    -- x=x++;
    seen (More Nothing (Evaluate (Assigned None 1 x (Postfixed PostIncrement 1 x))))
    -- x=x--;
    ∷ seen (More Nothing (Evaluate (Assigned None 1 x (Postfixed PostDecrement 1 x))))
    -- x=--x;
    ∷ seen (More Nothing (Evaluate (Assigned (Some op.Sub) 1 x (Prefixed Negate 1 x))))
    -- x=y++;
    ∷ seen (More Nothing (Evaluate (Assigned None 1 x (Postfixed PostIncrement 1 y))))
    -- x=x+1;
    ∷ seen (More Nothing (Evaluate (Assigned None 1 x (Binary op.Add 1 x (number 1))))) ∷ []
    ≡ ((6, warning.AssignsItself) ∷ []) ∷ ((6, warning.AssignsItself) ∷ []) ∷ [] ∷ [] ∷ [] ∷ []
unfolding ends_of
assigns_itself = refl

passes_old_value :
    -- if(x)g(x--);
    seen (More Nothing (If x (Evaluate (Called (named (codes "g")) (Another No_arguments (Postfixed PostDecrement 1
    x))))))
    -- if(x)g(y,x++);
    ∷ seen (More Nothing (If x (Evaluate (Called (named (codes "g")) (Another (Another No_arguments y) (Postfixed
    PostIncrement 1 x))))))
    -- if(x)g(x-1);
    ∷ seen (More Nothing (If x (Evaluate (Called (named (codes "g")) (Another No_arguments (Binary op.Sub 1 x (number
    1)))))))
    -- if(x)f(x--);
    ∷ seen (More Nothing (If x (Evaluate (Called f (Another No_arguments (Postfixed PostDecrement 1 x))))))
    -- if(x)g(y--);
    ∷ seen (More Nothing (If x (Evaluate (Called (named (codes "g")) (Another No_arguments (Postfixed PostDecrement 1
    y)))))) ∷ []
    ≡ ((11, warning.PassesOldValue) ∷ []) ∷ ((13, warning.PassesOldValue) ∷ []) ∷ [] ∷ [] ∷ [] ∷ []
unfolding ends_of
passes_old_value = refl

assigns_comparison :
    -- while(c=getchar()!=4)f(c);
    seen (More Nothing (While (Assigned None 1 c (Binary op.Ne 1 (Called getchar No_arguments) (number 4))) (Evaluate
    (Called f (Another No_arguments c)))))
    -- while((c=getchar())!=4)f(c);
    ∷ seen (More Nothing (While (Binary op.Ne 1 (Grouped (Assigned None 1 c (Called getchar No_arguments))) (number
    4)) (Evaluate (Called f (Another No_arguments c)))))
    -- while(c=getchar()>4)f(c);
    ∷ seen (More Nothing (While (Assigned None 1 c (Binary op.Gt 1 (Called getchar No_arguments) (number 4)))
    (Evaluate (Called f (Another No_arguments c))))) ∷ []
    ≡ ((8, warning.AssignsComparison) ∷ []) ∷ [] ∷ ((8, warning.AssignsComparison) ∷ []) ∷ []
unfolding ends_of
assigns_comparison = refl

calls_compared :
    -- if(x=f(y)+1<c)f();
    seen (More Nothing (If (Assigned None 1 x (Binary op.Lt 1 (Binary op.Add 1 (Called f (Another No_arguments y))
    (number 1)) c)) (Evaluate (Called f No_arguments))))
    -- if(x=y<c)f();
    ∷ seen (More Nothing (If (Assigned None 1 x (Binary op.Lt 1 y c)) (Evaluate (Called f No_arguments))))
    -- while((c=getchar()!=4))f(c);
    ∷ seen (More Nothing (While (Grouped (Assigned None 1 c (Binary op.Ne 1 (Called getchar No_arguments) (number
    4)))) (Evaluate (Called f (Another No_arguments c)))))
    -- if((x=y==c))f();
    ∷ seen (More Nothing (If (Grouped (Assigned None 1 x (Binary op.Eq 1 y c))) (Evaluate (Called f No_arguments)))) ∷ []
    ≡ ((8, warning.AssignsComparison) ∷ []) ∷ [] ∷ ((9, warning.AssignsComparison) ∷ []) ∷ [] ∷ []
unfolding ends_of
calls_compared = refl

compared_further :
    -- if(!(x=y==c))f();
    seen (More Nothing (If (Prefixed Not 1 (Grouped (Assigned None 1 x (Binary op.Eq 1 y c)))) (Evaluate (Called f
    No_arguments))))
    -- y=(x=c==1)?1:2;
    ∷ seen (More Nothing (Evaluate (Assigned None 1 y (Conditional (Grouped (Assigned None 1 x (Binary op.Eq 1 c
    (number 1)))) (number 1) (number 2))))) ∷ []
    ≡ ((10, warning.AssignsComparison) ∷ []) ∷ ((9, warning.AssignsComparison) ∷ []) ∷ []
unfolding ends_of
compared_further = refl

condition_assigns :
    -- if(x=1)f();
    seen (More Nothing (If (Assigned None 1 x (number 1)) (Evaluate (Called f No_arguments))))
    -- while(x=y)f();
    ∷ seen (More Nothing (While (Assigned None 1 x y) (Evaluate (Called f No_arguments))))
    -- if(x="a")f();
    ∷ seen (More Nothing (If (Assigned None 1 x (Text (codes "a") 0)) (Evaluate (Called f No_arguments))))
    -- if((x=1))f();
    ∷ seen (More Nothing (If (Grouped (Assigned None 1 x (number 1))) (Evaluate (Called f No_arguments))))
    -- if(x=f())f();
    ∷ seen (More Nothing (If (Assigned None 1 x (Called f No_arguments)) (Evaluate (Called f No_arguments))))
    -- if(x=y+1)f();
    ∷ seen (More Nothing (If (Assigned None 1 x (Binary op.Add 1 y (number 1))) (Evaluate (Called f No_arguments))))
    -- x=1;
    ∷ seen (More Nothing (Evaluate (Assigned None 1 x (number 1)))) ∷ []
    ≡ ((8, warning.ConditionAssigns) ∷ []) ∷ ((8, warning.ConditionAssigns) ∷ []) ∷ ((8, warning.ConditionAssigns) ∷
    []) ∷ [] ∷ [] ∷ [] ∷ [] ∷ []
unfolding ends_of
condition_assigns = refl

assigned_further :
    -- if(!(x= -y))f();
    seen (More Nothing (If (Prefixed Not 1 (Grouped (Assigned None 1 x (Prefixed Negate 1 y)))) (Evaluate (Called f
    No_arguments))))
    -- y=(x=1)?2:3;
    ∷ seen (More Nothing (Evaluate (Assigned None 1 y (Conditional (Grouped (Assigned None 1 x (number 1))) (number 2)
    (number 3))))) ∷ []
    ≡ ((10, warning.ConditionAssigns) ∷ []) ∷ ((9, warning.ConditionAssigns) ∷ []) ∷ []
unfolding ends_of
assigned_further = refl

operators_in_conditions :
    -- if(x===1)f();
    seen (More Nothing (If (Assigned (Some op.Eq) 1 x (number 1)) (Evaluate (Called f No_arguments))))
    -- if(x===f())f();
    ∷ seen (More Nothing (If (Assigned (Some op.Eq) 1 x (Called f No_arguments)) (Evaluate (Called f No_arguments))))
    -- x===1;
    ∷ seen (More Nothing (Evaluate (Assigned (Some op.Eq) 1 x (number 1))))
    -- if(x=-1)f();
    ∷ seen (More Nothing (If (Assigned (Some op.Sub) 1 x (number 1)) (Evaluate (Called f No_arguments))))
    -- if(x=-y)f();
    ∷ seen (More Nothing (If (Assigned (Some op.Sub) 1 x y) (Evaluate (Called f No_arguments))))
    -- y=x=1?2:3;
    ∷ seen (More Nothing (Evaluate (Assigned None 1 y (Assigned None 1 x (Conditional (number 1) (number 2) (number
    3))))))
    -- y=x==1?2:3;
    ∷ seen (More Nothing (Evaluate (Assigned None 1 y (Conditional (Binary op.Eq 1 x (number 1)) (number 2) (number
    3)))))
    -- y=x=c?2:3;
    ∷ seen (More Nothing (Evaluate (Assigned None 1 y (Assigned None 1 x (Conditional c (number 2) (number 3)))))) ∷ []
    ≡ ((8, warning.ConditionAssigns) ∷ []) ∷ ((8, warning.ConditionAssigns) ∷ []) ∷ [] ∷ ((
      8,
      warning.ConditionAssigns,
    ) ∷ []) ∷ [] ∷ ((8, warning.ConditionAssigns) ∷ []) ∷ [] ∷ [] ∷ []
unfolding ends_of
operators_in_conditions = refl

assigns_compared :
    -- if(x=>18)f();
    seen (More Nothing (If (Assigned (Some op.Gt) 1 x (number 18)) (Evaluate (Called f No_arguments))))
    -- while(x=!=y)f();
    ∷ seen (More Nothing (While (Assigned (Some op.Ne) 1 x y) (Evaluate (Called f No_arguments))))
    -- while(x=<=y)f();
    ∷ seen (More Nothing (While (Assigned (Some op.Le) 1 x y) (Evaluate (Called f No_arguments))))
    -- x=>18;
    ∷ seen (More Nothing (Evaluate (Assigned (Some op.Gt) 1 x (number 18))))
    -- if((x=>18))f();
    ∷ seen (More Nothing (If (Grouped (Assigned (Some op.Gt) 1 x (number 18))) (Evaluate (Called f No_arguments)))) ∷ []
    ≡ ((8, warning.AssignsCompared) ∷ []) ∷ ((8, warning.AssignsCompared) ∷ []) ∷ ((8, warning.AssignsCompared) ∷ [])
    ∷ [] ∷ ((9, warning.AssignsCompared) ∷ []) ∷ []
unfolding ends_of
assigns_compared = refl

empty_if :
    -- if(x==1);f();
    seen (More (More Nothing (If (Binary op.Eq 1 x (number 1)) (Empty))) (Evaluate (Called f No_arguments)))
    -- if(x==1)f();
    ∷ seen (More Nothing (If (Binary op.Eq 1 x (number 1)) (Evaluate (Called f No_arguments))))
    -- if(x==1);else f();
    ∷ seen (More Nothing (IfElse (Binary op.Eq 1 x (number 1)) (Empty) (Evaluate (Called f No_arguments))))
    -- if(x==1);if(x=1)f();
    ∷ seen (More (More Nothing (If (Binary op.Eq 1 x (number 1)) (Empty))) (If (Assigned None 1 x (number 1))
    (Evaluate (Called f No_arguments)))) ∷ []
    ≡ ((11, warning.EmptyIf) ∷ []) ∷ [] ∷ [] ∷ ((11, warning.EmptyIf) ∷ (15, warning.ConditionAssigns) ∷ []) ∷ []
unfolding ends_of
empty_if = refl

empty_loop :
    -- while(x<5);{x++;}
    seen (More (More Nothing (While (Binary op.Lt 1 x (number 5)) (Empty))) (Compound (More Nothing (Evaluate
    (Postfixed PostIncrement 1 x)))))
    -- while(x++<5);{f();}
    ∷ seen (More (More Nothing (While (Binary op.Lt 1 (Postfixed PostIncrement 1 x) (number 5)) (Empty))) (Compound
    (More Nothing (Evaluate (Called f No_arguments)))))
    -- while(x<5);x++;
    ∷ seen (More (More Nothing (While (Binary op.Lt 1 x (number 5)) (Empty))) (Evaluate (Postfixed PostIncrement 1
    x)))
    -- while(x++<5);f();
    ∷ seen (More (More Nothing (While (Binary op.Lt 1 (Postfixed PostIncrement 1 x) (number 5)) (Empty))) (Evaluate
    (Called f No_arguments)))
    -- while(1);
    ∷ seen (More Nothing (While (number 1) (Empty)))
    -- while(x<5)x++;
    ∷ seen (More Nothing (While (Binary op.Lt 1 x (number 5)) (Evaluate (Postfixed PostIncrement 1 x)))) ∷ []
    ≡ ((11, warning.EmptyLoop) ∷ []) ∷ ((12, warning.EmptyLoop) ∷ []) ∷ ((11, warning.EmptyLoop) ∷ []) ∷ [] ∷ [] ∷ []
    ∷ []
unfolding ends_of
empty_loop = refl

endless_loop :
    -- while(1)x++;
    seen (More Nothing (While (number 1) (Evaluate (Postfixed PostIncrement 1 x))))
    -- while(!0)x=getchar();
    ∷ seen (More Nothing (While (Prefixed Not 1 (number 0)) (Evaluate (Assigned None 1 x (Called getchar
    No_arguments)))))
    -- while(1)while(x)break;
    ∷ seen (More Nothing (While (number 1) (While x (Break 1))))
    -- while(0)x++;
    ∷ seen (More Nothing (While (number 0) (Evaluate (Postfixed PostIncrement 1 x))))
    -- while(1)if(x==4)break;
    ∷ seen (More Nothing (While (number 1) (If (Binary op.Eq 1 x (number 4)) (Break 1))))
    -- while(1)if(x==4)return;
    ∷ seen (More Nothing (While (number 1) (If (Binary op.Eq 1 x (number 4)) (Return)))) ∷ []
    ≡ ((5, warning.EndlessLoop) ∷ []) ∷ ((5, warning.EndlessLoop) ∷ []) ∷ ((5, warning.EndlessLoop) ∷ []) ∷ [] ∷ [] ∷
    [] ∷ []
unfolding ends_of
endless_loop = refl

loops_that_end :
    -- while(1){x++;return(x);}
    seen (More Nothing (While (number 1) (Compound (More (More Nothing (Evaluate (Postfixed PostIncrement 1 x)))
    (ReturnValue x)))))
    -- while(1)goto y;
    ∷ seen (More Nothing (While (number 1) (Goto y)))
    -- while(1)f();
    ∷ seen (More Nothing (While (number 1) (Evaluate (Called f No_arguments))))
    -- while(x)y++;
    ∷ seen (More Nothing (While x (Evaluate (Postfixed PostIncrement 1 y))))
    -- while(1);
    ∷ seen (More Nothing (While (number 1) (Empty))) ∷ []
    ≡ [] ∷ [] ∷ [] ∷ [] ∷ [] ∷ []
unfolding ends_of
loops_that_end = refl

-- x; has no effect, too, and is told as a name
name_alone :
    -- x;
    seen (More Nothing (Evaluate x))
    -- x();
    ∷ seen (More Nothing (Evaluate (Called x No_arguments)))
    -- (x);
    ∷ seen (More Nothing (Evaluate (Grouped x)))
    -- 1;
    ∷ seen (More Nothing (Evaluate (number 1))) ∷ []
    ≡ ((5, warning.NameAlone) ∷ []) ∷ [] ∷ ((5, warning.NoEffect) ∷ []) ∷ ((5, warning.NoEffect) ∷ []) ∷ []
unfolding ends_of
name_alone = refl

compares_alone :
    -- x==4;
    seen (More Nothing (Evaluate (Binary op.Eq 1 x (number 4))))
    -- f()<y;
    ∷ seen (More Nothing (Evaluate (Binary op.Lt 1 (Called f No_arguments) y)))
    -- x=4;
    ∷ seen (More Nothing (Evaluate (Assigned None 1 x (number 4))))
    -- if(x==4)f();
    ∷ seen (More Nothing (If (Binary op.Eq 1 x (number 4)) (Evaluate (Called f No_arguments)))) ∷ []
    ≡ ((6, warning.ComparesAlone) ∷ []) ∷ ((8, warning.ComparesAlone) ∷ []) ∷ [] ∷ [] ∷ []
unfolding ends_of
compares_alone = refl

value_dropped :
    -- -f();
    seen (More Nothing (Evaluate (Prefixed Negate 1 (Called f No_arguments))))
    -- !f();
    ∷ seen (More Nothing (Evaluate (Prefixed Not 1 (Called f No_arguments))))
    -- f();
    ∷ seen (More Nothing (Evaluate (Called f No_arguments)))
    -- *f();
    ∷ seen (More Nothing (Evaluate (Prefixed Indirection 1 (Called f No_arguments))))
    -- s[f()];
    ∷ seen (More Nothing (Evaluate (Indexed s (Called f No_arguments))))
    -- f(1)+f(2);
    ∷ seen (More Nothing (Evaluate (Binary op.Add 1 (Called f (Another No_arguments (number 1))) (Called f (Another
    No_arguments (number 2))))))
    -- f(1)&f(2);
    ∷ seen (More Nothing (Evaluate (Binary op.And 1 (Called f (Another No_arguments (number 1))) (Called f (Another
    No_arguments (number 2))))))
    -- *s=f();
    ∷ seen (More Nothing (Evaluate (Assigned None 1 (Prefixed Indirection 1 s) (Called f No_arguments)))) ∷ []
    ≡ ((5, warning.ValueDropped) ∷ []) ∷ ((5, warning.ValueDropped) ∷ []) ∷ [] ∷ ((5, warning.ValueDropped) ∷ []) ∷
    ((5, warning.ValueDropped) ∷ []) ∷ ((9, warning.ValueDropped) ∷ []) ∷ [] ∷ [] ∷ []
unfolding ends_of
value_dropped = refl

no_effect :
    -- x+y;
    seen (More Nothing (Evaluate (Binary op.Add 1 x y)))
    -- -x;
    ∷ seen (More Nothing (Evaluate (Prefixed Negate 1 x)))
    -- s[x];
    ∷ seen (More Nothing (Evaluate (Indexed s x)))
    -- *s;
    ∷ seen (More Nothing (Evaluate (Prefixed Indirection 1 s)))
    -- f();
    ∷ seen (More Nothing (Evaluate (Called f No_arguments)))
    -- x++;
    ∷ seen (More Nothing (Evaluate (Postfixed PostIncrement 1 x)))
    -- if(y)x&c;
    ∷ seen (More Nothing (If y (Evaluate (Binary op.And 1 x c)))) ∷ []
    ≡ ((5, warning.NoEffect) ∷ []) ∷ ((5, warning.NoEffect) ∷ []) ∷ ((5, warning.NoEffect) ∷ []) ∷ ((
      5,
      warning.NoEffect,
    ) ∷ []) ∷ [] ∷ [] ∷ ((9, warning.NoEffect) ∷ []) ∷ []
unfolding ends_of
no_effect = refl
