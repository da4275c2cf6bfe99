-- Moves of a source by a byte or none.
use Rattle.std.proofs.Common.{◌≡◌, ℕ, ◌+◌, ◌<◌, ◌≤◌, Bool, true, false, ◌==◌, List, [], ◌∷◌, ◌++◌, length, Option, Some, None, Result, Ok, Err, OnErr, refl, sym, ap, ◌∙◌, arith, append-nil, length-append}
use Rattle.std.proofs.lemmas.Bool.Decides.{nat_tests}
use Rattle.std.specs.List.{list_all}
use Rattle.std.proofs.lemmas.List.Folds.{list_all-append}
use Rattle.std.specs.Prelude.{option_to_list}
use Rattle.blex.specs.Sources.{Source, GoesAfter, NextIs, StaysAtEnd, CanCome, room}
use Rattle.blex.specs.Lexing.{TakesIf}
use Rattle.blex.proofs.Passing.{Passes-append, CanCome-none}

pub on_err : {A E P : Type 0} (r : Result A E) → P → OnErr r P
on_err (Ok x) p = tt
on_err (Err e) p = p

-- each byte that is passed leaves less room
pub room-falls : {a b : Source} {xs : List ℕ} → GoesAfter a xs b → room b + length xs ≤ room a
room-falls {a} {b} {xs} h =
    let taken = h.taken in let split = h.split in let bound = h.took.bound in
    let lengths : length a.ahead + length taken ≡ length xs + length b.ahead =
    sym (length-append a.ahead taken) ∙ ap length split ∙ length-append xs b.ahead in
    omega arith

pub Passes-then : {a b c : Source} {xs : List ℕ} → GoesAfter a xs b → GoesAfter b [] c → GoesAfter a xs c
Passes-then {a} {b} {c} {xs} h k = let p = Passes-append h k in rw append-nil at p

-- a peek and what it saw
pub take_if : (p : ℕ → Bool) (a b c : Source) (byte : ℕ) → GoesAfter a [] b × NextIs (Some byte) b → ((x : ℕ) → NextIs (Some x) b → GoesAfter b (x ∷ []) c) → p byte ≡ true → TakesIf p a (Some byte) c
take_if p a b c byte h k e = (Passes-append h.0 (k byte h.1), e)

-- the loop's turns take bytes
pub taken_falls : (p : ℕ → Bool) (a b : Source) (o : Option ℕ) (byte : ℕ) → o ≡ Some byte → TakesIf p a o b → room b < room a
taken_falls p a b None byte e h = cc
taken_falls p a b (Some x) byte e h = omega (arith, room-falls h.0)

-- the byte that a call of `next` gave
pub byte_passed : (o : Option ℕ) (first : ℕ) (b m : Source) → o ≡ Some first → GoesAfter b (option_to_list o) m × StaysAtEnd o m → GoesAfter b (first ∷ []) m
byte_passed None first b m e h = cc
byte_passed (Some x) first b m e h = let same : x ≡ first = cc in rw same at h.0

-- where it gave none, none can come
pub none_passed : (o : Option ℕ) (a b : Source) → o ≡ None → GoesAfter a (option_to_list o) b × StaysAtEnd o b → GoesAfter a [] b × ((xs : List ℕ) → CanCome b xs → xs ≡ [])
none_passed (Some x) a b e h = cc
none_passed None a b e h = (h.0, λ xs m. CanCome-none b xs h.1 m)

pub byte_falls : {a b c : Source} {xs ys : List ℕ} → GoesAfter a xs b → 0 < length xs → GoesAfter b ys c → room c < room a
byte_falls {a} {b} {c} {xs} {ys} h some k = omega (arith, room-falls h, room-falls k)

pub more_bytes : (p : ℕ → Bool) (run : List ℕ) (b : ℕ) → list_all p run ≡ true → p b ≡ true → list_all p (run ++ b ∷ []) ≡ true
more_bytes p run b h k = rw (list_all-append p run (b ∷ []), h, k) refl

-- what isn't full has room
pub below : (n most : ℕ) → false ≡ (n == most) → n ≤ most → n < most
below n most e h = grind (arith, nat_tests)
