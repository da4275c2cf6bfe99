-- Promise: changes that are never made without a choice, and some that may be.
use Rattle.std.specs.Prelude.{◌≡◌, ℕ, ◌≤◌, Bool, true, false, List, [], ◌∷◌, codes, count_by}
use Rattle.std.specs.List.{list_all, list_any}
use Rattle.bword.specs.declared.edition.Edition.{Edition}
use Rattle.bword.specs.declared.edition.Edition.TheVariants as editions
use Rattle.bcheck.specs.Spares.{is_quote, spares}

-- whether a change needs no choice: of this source to that one, where these bytes are taken out
abbrev pub is_made : (List ℕ × List ℕ × List ℕ) → Bool
is_made change = spares editions.One change.0 change.1 change.2

abbrev pub refused : List (List ℕ × List ℕ × List ℕ)
refused =
    -- A brace, a declaration, a statement or a byte of a string is taken out, a declaration is made of a call, tokens are
    -- changed at two places, or a comment is opened before a statement.
    (codes "{}}", codes "{}", codes "}") ∷
    (codes "auto i;", [], codes "auto i;") ∷
    (codes "f();", [], codes "f();") ∷
    (codes "\"ab\"", codes "\"b\"", codes "a") ∷
    (codes "a f(1)", codes "a,f 1", codes " f(1)") ∷
    (codes "a;b;c", codes "x;b;y", codes "a;b;c") ∷
    (codes "a;/*b*/", codes "/*a;/*b*/", []) ∷
    -- A way out of a function or a loop is put in, four pieces, a call, or a name that doesn't stand in the source.
    (codes "a;", codes "return;a;", []) ∷
    (codes "a", codes "a;;;;", []) ∷
    (codes "a;", codes "exit();a;", []) ∷
    (codes "f();a;", codes "f();f()a;", []) ∷
    (codes "{a;", codes "{auto b;a;", []) ∷
    (codes "c>1&<9", codes "c>1&d<9", []) ∷
    -- Three signs are taken out, a name, or another operator; a sign stands for each other one.
    (codes "f(a))));", codes "f(a);", codes ")))") ∷
    (codes "f(a b);", codes "f(a);", codes " b") ∷
    (codes "a-(b);", codes "a(b);", codes "-") ∷
    (codes "a<b", codes "a>b", codes "<") ∷
    (codes "a+b", codes "a-b", codes "+") ∷
    -- `==` becomes `=` in a condition or a value, and `=` becomes `==` where a statement begins with a word that it sets.
    (codes "if(a==b)c;", codes "if(a=b)c;", codes "==") ∷
    (codes "{x=a==b;", codes "{x=a=b;", codes "==") ∷
    (codes "{a=b;", codes "{a==b;", codes "=") ∷
    -- A name for another one with two letters more or none of its letters; an index for another one.
    (codes "tol;", codes "total;", codes "tol") ∷
    (codes "count;", codes "total;", codes "count") ∷
    (codes "i;", codes "j;", codes "i") ∷
    (codes "v0];", codes "v[1];", codes "v0") ∷
    -- A declaration without a name or a value of it, or with a call; an index is moved.
    (codes "int i,j;", codes "auto i;", codes "int i,j") ∷
    (codes "auto i=5,j;", codes "auto i,j;i=0;", codes "auto i=5,j;") ∷
    (codes "f();int i;", codes "f();auto i;f();", codes "int i;") ∷
    (codes "x[i]=y;", codes "x=y[i];", codes "x[i]=y") ∷
    -- A remark with a word less, no name of a `#define`, more than it, no number, and more than a prototype.
    (codes "//a b", codes "/*a*/", codes "//a b") ∷
    (codes "#define n 5", [], codes "#define n 5") ∷
    (codes "#define n 5", codes "n 5;m;", codes "#define n 5") ∷
    (codes "0x10", codes "n", codes "0x10") ∷
    (codes "int f(a);b", codes "c;b", codes "int f(a);") ∷ []

abbrev pub made : List (List ℕ × List ℕ × List ℕ)
made =
    -- A `;` is put in, three pieces, a declaration or a name alone that stands in the source, or a quote.
    (codes "a}", codes "a;}", []) ∷
    (codes "a", codes "a;;;", []) ∷
    (codes "{a;", codes "{auto a;a;", []) ∷
    (codes "c>1&<9", codes "c>1&c<9", []) ∷
    (codes "f(\"a,b);", codes "f(\"a\",b);", []) ∷
    -- One sign or two are taken out, or a sign stands for another one.
    (codes "f(a));", codes "f(a);", codes ")") ∷
    (codes "f(a)));", codes "f(a);", codes "))") ∷
    (codes "a=<b", codes "a<=b", codes "=<") ∷
    (codes "a+=b", codes "a=+b", codes "+=") ∷
    -- `==` becomes `=` where a statement begins with a word that this sets, and `=` becomes `==` elsewhere.
    (codes "{a==b;", codes "{a=b;", codes "==") ∷
    (codes "{v[i]==b;", codes "{v[i]=b;", codes "==") ∷
    (codes "{*v++==b;", codes "{*v++=b;", codes "==") ∷
    (codes "if(a='b')c;", codes "if(a=='b')c;", codes "=") ∷
    -- A name with one letter more or other, or with a `[`; a declaration, whose type goes and whose values move.
    (codes "totl;", codes "total;", codes "totl") ∷
    (codes "ii;", codes "i;", codes "ii") ∷
    (codes "v0];", codes "v[0];", []) ∷
    (codes "int i;", codes "auto i;", codes "int") ∷
    (codes "auto i=0,j;", codes "auto i,j;i=0;", codes "auto i=0,j;") ∷
    (codes "v=[1,2];", codes "v[0]=1;v[1]=2;", codes "v=[1,2];") ∷
    -- A remark, the name and the value of a `#define`, a number; and a prototype is taken out.
    (codes "//a b", codes "/*a b*/", codes "//a b") ∷
    (codes "#define n 5", codes "n 5;", codes "#define n 5") ∷
    (codes "0x10", codes "16", codes "0x10") ∷
    (codes "int f(a);b", codes "b", codes "int f(a);") ∷ []

pub record WrongChanges : Type 0 where
  pub none_refused : list_any is_made refused ≡ false
  pub all_made : list_all is_made made ≡ true
  -- Of any source: one after which a quote or a backslash is missing.
  pub quotes : (edition : Edition) (source new taken : List ℕ) → spares edition source new taken ≡ true
      → count_by is_quote source ≤ count_by is_quote new
