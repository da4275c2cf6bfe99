-- Lines that go to an end by way of a page.
use Rattle.std.proofs.Common.{subst, ◌≡◌, ℕ, ◌+◌, ◌<◌, List, [], ◌∷◌, ◌++◌, length, take, drop, map, get_or, decimal, codes, Result, Ok, Err, refl, sym, ap, ◌∙◌, append_assoc, append-nil, IsErrAnd}
use Rattle.std.specs.List.{flat_map}
use Rattle.std.proofs.lemmas.List.{map-append, take_more, take-append-drop}
use Rattle.std.proofs.lemmas.List.Concat.{flat_map-append}
use Rattle.bword.specs.ByteEnds.{Outgoing, Refuses, PutGives}
use Rattle.bword.specs.declared.ends.EndFault.{EndFault}
use Rattle.bword.proofs.Putting.{gives_last, gives_same, Writes-none, Writes-append, Refuses-following, Refuses-short}
use Rattle.bcode.specs.Pages.{PageWritten, PageGives}
use Rattle.blang.specs.Text.{line, joined}

pub Passes-append : {a b c : Outgoing} {p q r xs ys : List ℕ} → PageWritten a p xs b q → PageWritten b q ys c r → PageWritten a p (xs ++ ys) c r
Passes-append {a} {b} {c} {p} {q} {r} {xs} {ys} h k = record {
  sent = h.sent ++ k.sent;
  written = Writes-append h.written k.written;
  rest = sym (append_assoc p xs ys) ∙ ap (λ l. l ++ ys) h.rest ∙ append_assoc h.sent q ys ∙ ap (λ l. h.sent ++ l) k.rest
      ∙ sym (append_assoc h.sent k.sent r);
}

-- what stands in the page passes with it
pub Passes-push : {a b : Outgoing} {p q xs : List ℕ} (line : List ℕ) (r : List ℕ) → PageWritten a p xs b q → r ≡ q ++ line → PageWritten a p (xs ++ line) b r
Passes-push {a} {b} {p} {q} {xs} line r h e =
    rw e (Passes-append h record { sent = []; written = Writes-none b; rest = refl })

pub Refuses-after : {a b c : Outgoing} {p q xs : List ℕ} {e : EndFault} (ys : List ℕ) → PageWritten a p xs b q → Refuses b (q ++ ys) e c → Refuses a (p ++ (xs ++ ys)) e c
Refuses-after {a} {b} {c} {p} {q} {xs} {e} ys h k =
    let same : h.sent ++ (q ++ ys) ≡ p ++ (xs ++ ys) = sym (append_assoc h.sent q ys) ∙ ap (λ l. l ++ ys) (sym h.rest) ∙ append_assoc p xs ys in
    let P : List ℕ → Type 0 = λ l. Refuses a l e c in
    subst P same (Refuses-following h.written k)

pub joined-two : (xs ys : List (List ℕ)) → joined (xs ++ ys) ≡ joined xs ++ joined ys
joined-two xs ys = flat_map-append (λ l. l) xs ys

pub joined-three : (xs ys zs : List (List ℕ)) → joined (xs ++ ys ++ zs) ≡ (joined xs ++ joined ys) ++ joined zs
joined-three xs ys zs = joined-two (xs ++ ys) zs ∙ ap (λ l. l ++ joined zs) (joined-two xs ys)

module _ {X : Type 0} (f : X → List ℕ) where
  joined_more : (xs : List X) (i : ℕ) (x : X) → i < length xs → x ≡ get_or xs i x
      → joined (map f (take (i + 1) xs)) ≡ joined (map f (take i xs)) ++ f x
  joined_more xs i x h e =
      let last : take (i + 1) xs ≡ take i xs ++ x ∷ [] = take_more xs i x h ∙ ap (λ y. take i xs ++ y ∷ []) (sym e) in
      ap (λ l. joined (map f l)) last ∙ ap joined (map-append f (take i xs) (x ∷ [])) ∙ joined-two (map f (take i xs)) (f x ∷ [])
      ∙ ap (λ l. joined (map f (take i xs)) ++ l) (append-nil (f x))

  -- one more line
  pub Passes-more : {a b c : Outgoing} {p q r : List ℕ} (s : List ℕ) (xs : List X) (i : ℕ) (x : X) → i < length xs → x ≡ get_or xs i x
      → PageWritten a p (joined (map f (take i xs))) b q → PageWritten b q [] c r → s ≡ r ++ f x → PageWritten a p (joined (map f (take (i + 1) xs))) c s
  Passes-more {a} {b} {c} {p} {q} {r} s xs i x h e before room pushed =
      let P : List ℕ → Type 0 = λ l. PageWritten a p l c s in
      let all : PageWritten a p (joined (map f (take i xs)) ++ ([] ++ f x)) c s = Passes-append before (Passes-push (f x) s room pushed) in
      subst P (sym (joined_more xs i x h e)) all

  -- no room for one more line
  pub Refuses-more : {a b c : Outgoing} {p q : List ℕ} {e : EndFault} (xs : List X) (i : ℕ) → PageWritten a p (joined (map f (take i xs))) b q
      → Refuses b (q ++ []) e c → Refuses a (p ++ joined (map f xs)) e c
  Refuses-more {a} {b} {c} {p} {q} {e} xs i before refused =
      let split : joined (map f xs) ≡ joined (map f (take i xs)) ++ joined (map f (drop i xs)) =
      ap (λ l. joined (map f l)) (sym (take-append-drop i xs)) ∙ ap joined (map-append f (take i xs) (drop i xs))
      ∙ joined-two (map f (take i xs)) (map f (drop i xs)) in
      let P : List ℕ → Type 0 = λ l. Refuses a l e c in
      let short : Refuses b (q ++ joined (map f (drop i xs))) e c =
      subst (λ (l : List ℕ). Refuses b (l ++ joined (map f (drop i xs))) e c) (append-nil q) (Refuses-short (joined (map f (drop i xs))) refused) in
      subst P (ap (λ l. p ++ l) (sym split)) (Refuses-after (joined (map f (drop i xs))) before short)

-- a line's further parts
pub line-numbers : (part : List ℕ) (ns : List ℕ) → line (part ∷ map decimal ns) ≡ part ++ (flat_map (λ n. codes " " ++ decimal n) ns ++ codes "\n")
line-numbers part [] = refl
line-numbers part (n ∷ ns) =
    ap (λ l. part ++ codes " " ++ l) (line-numbers (decimal n) ns)
    ∙ simp append_assoc

-- the first line of a text
pub Passes-first : (a : Outgoing) (line page : List ℕ) → page ≡ line → PageWritten a [] line a page
Passes-first a line page e = record { sent = []; written = Writes-none a; rest = sym e }

-- the page that is put last
pub gives_page : {a b : Outgoing} {q xs : List ℕ} (c : Outgoing) (r : Result (Unit {0}) EndFault) → PageWritten a [] xs b q → PutGives b q r c → PutGives a xs r c
gives_page {a} {b} {q} {xs} c r h k =
    gives_same a c r (h.sent ++ q) xs (sym h.rest) (gives_last c q r h.written k)

-- the exit of a `?`
pub page_err : {a b : Outgoing} (p xs q : List ℕ) (r : Result (Unit {0}) EndFault) (e : EndFault) → IsErrAnd r (λ y. y ≡ e) → Refuses a (p ++ xs) e b → PageGives a p xs r b q
page_err p xs q (Ok u) e h k = absurd h
page_err p xs q (Err f) e h k = rw h k

pub page_short : {a b : Outgoing} {e : EndFault} (p xs ys : List ℕ) → Refuses a (p ++ xs) e b → Refuses a (p ++ (xs ++ ys)) e b
page_short {a} {b} {e} p xs ys h =
    let P : List ℕ → Type 0 = λ l. Refuses a l e b in subst P (append_assoc p xs ys) (Refuses-short ys h)

-- the first of two texts, then the second
pub page_first : {a b : Outgoing} (p xs ys q : List ℕ) (r : Result (Unit {0}) EndFault) (e : EndFault) → IsErrAnd r (λ y. y ≡ e) → Refuses a (p ++ xs) e b → PageGives a p (xs ++ ys) r b q
page_first p xs ys q r e h k = page_err p (xs ++ ys) q r e h (page_short p xs ys k)

pub page_second : {a b : Outgoing} {p q xs : List ℕ} (c : Outgoing) (ys s : List ℕ) (r : Result (Unit {0}) EndFault) → PageWritten a p xs b q → PageGives b q ys r c s → PageGives a p (xs ++ ys) r c s
page_second c ys s (Ok u) h k = Passes-append h k
page_second c ys s (Err f) h k = Refuses-after ys h k

pub page_same : (a b : Outgoing) (p q : List ℕ) (xs ys : List ℕ) (r : Result (Unit {0}) EndFault) → xs ≡ ys → PageGives a p xs r b q → PageGives a p ys r b q
page_same a b p q xs ys r e h = rw (← e) h
