-- Tokens with what trees keep of them, and lists that are split.
use Rattle.std.proofs.Common.{◌≡◌, suc, Bool, true, false, List, [], ◌∷◌, ◌++◌, length, map, ap, ◌∙◌, refl, sym, if◌then◌else◌}
use Rattle.std.proofs.lemmas.List.{map-append}
use Rattle.blang.specs.declared.token.Token.{Token}
use Rattle.blang.specs.declared.token.Placed.{Placed}
use Rattle.bgrammar.specs.Reading.{first}
use Rattle.blang.specs.Trees.{mark, kept, kept_tokens, bare, keeps_line}

pub kept-length : (ts : List Placed) → length (kept_tokens ts) ≡ length ts
kept-length [] = refl
kept-length (t ∷ ts) = ap suc (kept-length ts)

bare_if : (b : Bool) (p : Placed) → bare (if b then p else mark p.token) ≡ bare p
bare_if true p = refl
bare_if false p = refl

pub bare-kept : (p : Placed) → bare (kept p) ≡ bare p
bare-kept p = bare_if (keeps_line p.token) p

pub first-kept : (ts : List Placed) → first (kept_tokens ts) ≡ first ts
first-kept [] = refl
first-kept (p ∷ ts) = bare-kept p

pub map_bare-kept : (ts : List Placed) → map bare (map kept ts) ≡ map bare ts
map_bare-kept [] = refl
map_bare-kept (t ∷ ts) = ap (λ x. x ∷ map bare (map kept ts)) (bare-kept t) ∙ ap (λ l. bare t ∷ l) (map_bare-kept ts)

kept_if : (b : Bool) (p : Placed) → keeps_line p.token ≡ b → kept (if b then p else mark p.token) ≡ (if b then p else mark p.token)
kept_if true p e = rw e refl
kept_if false p e = rw e refl

kept-kept : (p : Placed) → kept (kept p) ≡ kept p
kept-kept p = kept_if (keeps_line p.token) p refl

pub kept-twice : (ts : List Placed) → kept_tokens (kept_tokens ts) ≡ kept_tokens ts
kept-twice [] = refl
kept-twice (t ∷ ts) = ap (λ x. x ∷ kept_tokens (kept_tokens ts)) (kept-kept t) ∙ ap (λ l. kept t ∷ l) (kept-twice ts)

pub map_bare-mark : (ts : List Token) → map bare (map mark ts) ≡ ts
map_bare-mark [] = refl
map_bare-mark (t ∷ ts) = ap (λ l. t ∷ l) (map_bare-mark ts)

pub kept-append : (a b : List Placed) → kept_tokens (a ++ b) ≡ kept_tokens a ++ kept_tokens b
kept-append a b = map-append kept a b

-- a list whose image falls into two falls into two
pub record Split {A B : Type 0} (f : A → B) (ps : List A) (xs ys : List B) : Type 0 where
  pub front : List A
  pub back : List A
  pub whole : ps ≡ front ++ back
  pub front_is : map f front ≡ xs
  pub back_is : map f back ≡ ys

pub split_map : {A B : Type 0} (f : A → B) (xs ys : List B) (ps : List A) → map f ps ≡ xs ++ ys → Split f ps xs ys
split_map f [] ys ps e = record { front = []; back = ps; whole = refl; front_is = refl; back_is = e }
split_map f (x ∷ xs) ys [] e = cc
split_map f (x ∷ xs) ys (p ∷ ps) e =
    let head : f p ≡ x = cc in
    let tail : map f ps ≡ xs ++ ys = cc in
    let s = split_map f xs ys ps tail in
    record { front = p ∷ s.front; back = s.back; whole = ap (λ l. p ∷ l) s.whole; front_is = ap (λ l. f p ∷ l) s.front_is ∙ ap (λ h. h ∷ xs) head; back_is = s.back_is }

-- two ways to split a list at an element: the same, or one after the other
pub data Order {A : Type 0} (us : List A) (a : A) (xs : List A) (vs : List A) (b : A) (ys : List A) : Type 0 where
  together : us ≡ vs → a ≡ b → xs ≡ ys → Order us a xs vs b ys
  sooner : (c : List A) → vs ≡ us ++ a ∷ c → Order us a xs vs b ys
  later : (c : List A) → us ≡ vs ++ b ∷ c → Order us a xs vs b ys

order_cons : {A : Type 0} (x : A) (us : List A) (a : A) (xs vs : List A) (b : A) (ys : List A) → Order us a xs vs b ys → Order (x ∷ us) a xs (x ∷ vs) b ys
order_cons x us a xs vs b ys (together e f g) = together (ap (λ l. x ∷ l) e) f g
order_cons x us a xs vs b ys (sooner c e) = sooner c (ap (λ l. x ∷ l) e)
order_cons x us a xs vs b ys (later c e) = later c (ap (λ l. x ∷ l) e)

pub order : {A : Type 0} (us : List A) (a : A) (xs vs : List A) (b : A) (ys : List A) → us ++ a ∷ xs ≡ vs ++ b ∷ ys → Order us a xs vs b ys
order [] a xs [] b ys e = let f : a ≡ b = cc in let g : xs ≡ ys = cc in together refl f g
order [] a xs (v ∷ vs) b ys e = let f : a ≡ v = cc in sooner vs (ap (λ x. x ∷ vs) (sym f))
order (u ∷ us) a xs [] b ys e = let f : u ≡ b = cc in later us (ap (λ x. x ∷ us) f)
order (u ∷ us) a xs (v ∷ vs) b ys e =
    let f : u ≡ v = cc in
    let g : us ++ a ∷ xs ≡ vs ++ b ∷ ys = cc in
    rw f (order_cons v us a xs vs b ys (order us a xs vs b ys g))
