-- What holds of each thing of a list, as a record.
use Rattle.std.proofs.Common.{List, [], ◌∷◌, ◌++◌}
use Rattle.std.specs.List.{All, AllByRecursion}
use Rattle.std.proofs.lemmas.List.Elements.{All-from_recursion}

pub record Holds {X : Type 0} (P : X → Type 0) (xs : List X) : Type 0 where
  pub each : AllByRecursion P xs

pub Holds-nil : {X : Type 0} {P : X → Type 0} → Holds P []
Holds-nil = record { each = tt }

pub Holds-cons : {X : Type 0} {P : X → Type 0} {x : X} {xs : List X} → P x → Holds P xs → Holds P (x ∷ xs)
Holds-cons p h = record { each = (p, h.each) }

pub Holds-first : {X : Type 0} {P : X → Type 0} {x : X} {xs : List X} → Holds P (x ∷ xs) → P x
Holds-first h = h.each.0

pub Holds-rest : {X : Type 0} {P : X → Type 0} {x : X} {xs : List X} → Holds P (x ∷ xs) → Holds P xs
Holds-rest h = record { each = h.each.1 }

pub Holds-append : {X : Type 0} {P : X → Type 0} {xs ys : List X} → Holds P xs → Holds P ys → Holds P (xs ++ ys)
Holds-append {xs = []} h k = k
Holds-append {xs = x ∷ xs} h k = Holds-cons (Holds-first h) (Holds-append (Holds-rest h) k)

-- of the things in front, and of those after
pub Holds-front : {X : Type 0} {P : X → Type 0} (xs ys : List X) → Holds P (xs ++ ys) → Holds P xs
Holds-front [] ys h = Holds-nil
Holds-front (x ∷ xs) ys h = Holds-cons (Holds-first h) (Holds-front xs ys (Holds-rest h))

pub Holds-back : {X : Type 0} {P : X → Type 0} (xs ys : List X) → Holds P (xs ++ ys) → Holds P ys
Holds-back [] ys h = h
Holds-back (x ∷ xs) ys h = Holds-back xs ys (Holds-rest h)

pub Holds-weaker : {X : Type 0} {P Q : X → Type 0} {xs : List X} → ((x : X) → P x → Q x) → Holds P xs → Holds Q xs
Holds-weaker {xs = []} f h = Holds-nil
Holds-weaker {xs = x ∷ xs} f h = Holds-cons (f x (Holds-first h)) (Holds-weaker f (Holds-rest h))

pub Holds-All : {X : Type 0} {P : X → Type 0} {xs : List X} → Holds P xs → All P xs
Holds-All {P = P} {xs = xs} h = All-from_recursion P xs h.each
