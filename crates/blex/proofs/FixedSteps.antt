-- Tokens of fixed text, the longest first.
use Rattle.std.proofs.Common.{subst, ◌≡◌, ℕ, zero, suc, ◌+◌, List, [], ◌∷◌, ◌++◌, length, take, drop, Option, Some, None, refl, sym, ap, ◌∙◌, arith, append-nil}
use Rattle.std.proofs.Math.Seq.{take-append-add, take-append_seam}
use Rattle.std.specs.Prelude.{option_to_list}
use Rattle.blang.specs.declared.token.Token.{Token}
use Rattle.blang.specs.declared.token.Token.TheVariants as token
use Rattle.blang.specs.declared.token.Letters.TheVariants as letters
use Rattle.blang.specs.Cut.{Piece, Word, whole, alone, fixed_of, fixed_or_stray}
use Rattle.blex.specs.Sources.{Source, GoesAfter, NextIs, BeginsTwo, CanCome}
use Rattle.blex.specs.Lexing.{PassesPiece, BeginsFixed, IsLongest, NoneOfThree, fixed_of_two, fixed_of_three}
use Rattle.blex.proofs.Passing.{Passes-refl, Passes-append, CanCome-following, CanCome-none, CanCome-some}
use Rattle.blex.proofs.FixedTexts.{fixed_of-long}

CanCome-ahead : (s : Source) → CanCome s s.ahead
CanCome-ahead s = record { more = []; split = sym (append-nil s.ahead); over = λ _. refl }

alone-some : (piece : Piece) (xs : List ℕ) (b : ℕ) (bs : List ℕ) → alone piece (xs ++ b ∷ bs) ≡ None
alone-some piece [] b bs = refl
alone-some piece (x ∷ xs) b bs = refl

fixed_here : {old new : Source} {rest : List ℕ} (first : ℕ) → BeginsFixed first old → GoesAfter old rest new
    → whole old.edition (first ∷ rest) ≡ fixed_or_stray (fixed_of (first ∷ rest)) rest
fixed_here {old} {new} {rest} first begins passes =
    rw (take-append_seam rest new.ahead) at (begins.whole_is (rest ++ new.ahead) (CanCome-following passes (CanCome-ahead new)) (length rest))

fixed_longer : {old new : Source} {rest : List ℕ} (first c : ℕ) (cs : List ℕ) (n : ℕ) → BeginsFixed first old → GoesAfter old rest new → CanCome new (c ∷ cs)
    → fixed_of (first ∷ (rest ++ c ∷ take n cs)) ≡ None → whole old.edition (first ∷ (rest ++ c ∷ take n cs)) ≡ None
fixed_longer {old} {new} {rest} first c cs n begins passes comes none =
    let is = rw (take-append-add rest (c ∷ cs) (suc n)) at (begins.whole_is (rest ++ c ∷ cs) (CanCome-following passes comes) (length rest + suc n)) in
    is ∙ ap (λ o. fixed_or_stray o (rest ++ c ∷ take n cs)) none ∙ alone-some (Word (token.Bad letters.Character)) rest c (take n cs)

-- no longer text with these bytes is a token's
abbrev pub IsNoLonger : ℕ → List ℕ → Source → Type 0
IsNoLonger first rest new = (c : ℕ) (cs : List ℕ) → CanCome new (c ∷ cs) → (n : ℕ) → fixed_of (first ∷ (rest ++ c ∷ take n cs)) ≡ None

fixed_stops : {old new : Source} {rest : List ℕ} (first : ℕ) → BeginsFixed first old → GoesAfter old rest new → IsNoLonger first rest new
    → (xs : List ℕ) → CanCome new xs → IsLongest old.edition (first ∷ rest) xs
fixed_stops {old} {new} {rest} first begins passes longer [] comes = tt
fixed_stops {old} {new} {rest} first begins passes longer (c ∷ cs) comes = λ n. fixed_longer first c cs n begins passes comes (longer c cs comes n)

fixed_piece : {old new : Source} {rest : List ℕ} (first : ℕ) (t : Token) → BeginsFixed first old → GoesAfter old rest new
    → fixed_or_stray (fixed_of (first ∷ rest)) rest ≡ Some (Word t) → IsNoLonger first rest new → PassesPiece first old (Some t) new
fixed_piece {old} {new} {rest} first t begins passes is longer =
    record { rest = rest; passes = passes; is = fixed_here first begins passes ∙ is; stops = fixed_stops first begins passes longer }

-- what comes is what was seen ahead
second_comes : (second third : Option ℕ) (s : Source) (c : ℕ) (cs : List ℕ) → BeginsTwo second third s → CanCome s (c ∷ cs) → second ≡ Some c
second_comes None third s c cs h m =
    let none : third ≡ None = h.order refl in
    let ahead : s.ahead ≡ [] = h.ahead ∙ ap (λ o. option_to_list o) none in
    let all : c ∷ cs ≡ [] = rw (ahead, m.over (h.over none)) at m.split in
    cc
second_comes (Some b) third s c cs h m = let all : c ∷ cs ≡ (b ∷ option_to_list third) ++ m.more = rw h.ahead at m.split in cc

third_comes : (b : ℕ) (third : Option ℕ) (s : Source) (c : ℕ) (cs : List ℕ) → BeginsTwo (Some b) third s → CanCome s (b ∷ c ∷ cs) → third ≡ Some c
third_comes b None s c cs h m = let all : b ∷ c ∷ cs ≡ b ∷ [] = rw (h.ahead, m.over (h.over refl)) at m.split in cc
third_comes b (Some d) s c cs h m = let all : b ∷ c ∷ cs ≡ (b ∷ d ∷ []) ++ m.more = rw h.ahead at m.split in cc

two_or_long : (first b c : ℕ) (more : List ℕ) → fixed_of (first ∷ b ∷ c ∷ []) ≡ None → fixed_of (first ∷ b ∷ c ∷ more) ≡ None
two_or_long first b c [] e = e
two_or_long first b c (d ∷ more) e = fixed_of-long (first ∷ b ∷ c ∷ d ∷ more) (omega arith)

not_three : (first b c : ℕ) (third : Option ℕ) → third ≡ Some c → None ≡ fixed_of_three first (Some b) third → fixed_of (first ∷ b ∷ c ∷ []) ≡ None
not_three first b c third e h = sym (rw e at h)

not_two : (first c : ℕ) (second : Option ℕ) → second ≡ Some c → None ≡ fixed_of_two first second → fixed_of (first ∷ c ∷ []) ≡ None
not_two first c second e h = sym (rw e at h)

pub three_piece : {a mid one two : Source} (first : ℕ) (second third : Option ℕ) (t : Token) → BeginsFixed first a → GoesAfter a [] mid × BeginsTwo second third mid
    → ((x : ℕ) → NextIs (Some x) mid → GoesAfter mid (x ∷ []) one) → one.ahead ≡ drop 1 mid.ahead → ((x : ℕ) → NextIs (Some x) one → GoesAfter one (x ∷ []) two)
    → Some t ≡ fixed_of_three first second third → PassesPiece first a (Some t) two
three_piece {a} {mid} {one} {two} first None third t begins h skip ahead again e = cc
three_piece {a} {mid} {one} {two} first (Some b) None t begins h skip ahead again e = cc
three_piece {a} {mid} {one} {two} first (Some b) (Some c) t begins h skip ahead again e =
    let passes = Passes-append h.0 (Passes-append (skip b (c ∷ [], h.1.ahead)) (again c ([], rw h.1.ahead at ahead))) in
    fixed_piece first t begins passes (ap (λ o. fixed_or_stray o (b ∷ c ∷ [])) (sym e)) (λ d ds m n. fixed_of-long (first ∷ b ∷ c ∷ d ∷ take n ds) (omega arith))

pub two_piece : {a mid one : Source} (first : ℕ) (second third : Option ℕ) (t : Token) → BeginsFixed first a → GoesAfter a [] mid × BeginsTwo second third mid
    → ((x : ℕ) → NextIs (Some x) mid → GoesAfter mid (x ∷ []) one)
    → None ≡ fixed_of_three first second third → Some t ≡ fixed_of_two first second → PassesPiece first a (Some t) one
two_piece {a} {mid} {one} first None third t begins h skip three e = cc
two_piece {a} {mid} {one} first (Some b) third t begins h skip three e =
    let following = skip b (option_to_list third, h.1.ahead) in
    fixed_piece first t begins (Passes-append h.0 following) (ap (λ o. fixed_or_stray o (b ∷ [])) (sym e))
    (λ c cs m n. two_or_long first b c (take n cs) (not_three first b c third (third_comes b third mid c cs h.1 (CanCome-following following m)) three))

take-nil : (n : ℕ) → take {A = ℕ} n [] ≡ []
take-nil zero = refl
take-nil (suc n) = refl

-- what comes after one byte is no part of a longer text
alone_longer : (first : ℕ) (second third : Option ℕ) (s : Source) → BeginsTwo second third s → None ≡ fixed_of_three first second third → None ≡ fixed_of_two first second
    → IsNoLonger first [] s
alone_longer first second third s h three two c [] m n =
    rw (take-nil n) (not_two first c second (second_comes second third s c [] h m) two)
alone_longer first second third s h three two c (d ∷ ds) m zero = not_two first c second (second_comes second third s c (d ∷ ds) h m) two
alone_longer first second third s h three two c (d ∷ ds) m (suc n) =
    let here = second_comes second third s c (d ∷ ds) h m in
    let there : third ≡ Some d = third_comes c third s d ds (rw here at h) m in
    two_or_long first c d (take n ds) (not_three first c d third there (rw here at three))

pub one_piece : {a mid : Source} (first : ℕ) (second third : Option ℕ) (t : Token) → BeginsFixed first a → GoesAfter a [] mid × BeginsTwo second third mid
    → None ≡ fixed_of_three first second third → None ≡ fixed_of_two first second → fixed_or_stray (fixed_of (first ∷ [])) [] ≡ Some (Word t) → PassesPiece first a (Some t) mid
one_piece {a} {mid} first second third t begins h three two e = fixed_piece first t begins h.0 e (alone_longer first second third mid h.1 three two)

-- with no look at the bytes after
pub alone_piece : {a : Source} (first : ℕ) (t : Token) → BeginsFixed first a → fixed_of (first ∷ []) ≡ Some t → ((c : ℕ) (cs : List ℕ) → fixed_of (first ∷ c ∷ cs) ≡ None)
    → PassesPiece first a (Some t) a
alone_piece {a} first t begins is longer =
    fixed_piece first t begins (Passes-refl a) (ap (λ o. fixed_or_stray o []) is) (λ c cs m n. longer c (take n cs))

-- with a look at one byte
pub two_seen : {a mid one : Source} (first : ℕ) (second : Option ℕ) (t : Token) → BeginsFixed first a → GoesAfter a [] mid × NextIs second mid
    → ((x : ℕ) → NextIs (Some x) mid → GoesAfter mid (x ∷ []) one) → NoneOfThree first second → Some t ≡ fixed_of_two first second → PassesPiece first a (Some t) one
two_seen {a} {mid} {one} first None t begins h skip three e = cc
two_seen {a} {mid} {one} first (Some b) t begins h skip three e =
    fixed_piece first t begins (Passes-append h.0 (skip b h.1)) (ap (λ o. fixed_or_stray o (b ∷ [])) (sym e))
    (λ c cs m n. two_or_long first b c (take n cs) (three c))

no_longer : (first : ℕ) (second : Option ℕ) (s : Source) → NextIs second s → NoneOfThree first second → None ≡ fixed_of_two first second → IsNoLonger first [] s
no_longer first None s h three two c cs m n = let none : c ∷ cs ≡ [] = CanCome-none s (c ∷ cs) h m in cc
no_longer first (Some b) s h three two c [] m n =
    let comes = CanCome-some s (c ∷ []) b h m in let same : b ≡ c = let e = comes.1 in cc in rw (take-nil n, ← same) (sym two)
no_longer first (Some b) s h three two c (d ∷ ds) m zero =
    let comes = CanCome-some s (c ∷ d ∷ ds) b h m in let same : b ≡ c = let e = comes.1 in cc in rw (← same) (sym two)
no_longer first (Some b) s h three two c (d ∷ ds) m (suc n) =
    let comes = CanCome-some s (c ∷ d ∷ ds) b h m in let same : b ≡ c = let e = comes.1 in cc in rw (← same) (two_or_long first b d (take n ds) (three d))

pub one_seen : {a mid : Source} (first : ℕ) (second : Option ℕ) (t : Token) → BeginsFixed first a → GoesAfter a [] mid × NextIs second mid → NoneOfThree first second
    → None ≡ fixed_of_two first second → fixed_or_stray (fixed_of (first ∷ [])) [] ≡ Some (Word t) → PassesPiece first a (Some t) mid
one_seen {a} {mid} first second t begins h three two e = fixed_piece first t begins h.0 e (no_longer first second mid h.1 three two)

pub begins_after : {a b : Source} {first : ℕ} → GoesAfter a [] b → BeginsFixed first a → BeginsFixed first b
begins_after {a} {b} {first} h k = record {
  whole_is = λ xs m n. subst (λ e. whole e (first ∷ take n xs) ≡ fixed_or_stray (fixed_of (first ∷ take n xs)) (take n xs)) (sym h.edition) (k.whole_is xs (CanCome-following h m) n);
}
