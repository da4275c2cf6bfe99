-- What an end gives of the bytes that were read and not yet given.
use Rattle.std.proofs.Common.{◌≡◌, ℕ, suc, ◌+◌, ◌-◌, ◌<◌, ◌≤◌, Bool, true, false, List, [], ◌∷◌, ◌++◌, length, take, drop, get_or, Option, Some, None, Result, Ok, Err, refl, sym, ap, ◌∙◌, arith, append_assoc, take-append-drop, length-take-le, add-one}
use Rattle.std.proofs.Math.Seq.{drop-cons, take-suc, take-nil}
use Rattle.std.proofs.Math.ListN.{drop_of_length-le}
use Rattle.std.proofs.lemmas.List.{get_or-take}
use Rattle.std.specs.Io.KnownBytes.{Consumes, Keeps, prepend_known}
use Rattle.std.proofs.lemmas.Bool.{both_ways}
use Rattle.bword.specs.declared.ends.Device.{Device}
use Rattle.bword.specs.ByteEnds.{most, Incoming, Streamed, streamed_of, Takes, TakesReady, NextGives, GivesReady}
use Rattle.bword.proofs.Taking.{Took-none, Took-append, Took-next}

pub TakesReady-none : (a : Incoming) → TakesReady a [] a
TakesReady-none a = record { took = Took-none a; over = refl; failures = refl }

takes_one : {a b c : Incoming} {xs : List ℕ} (x : ℕ) → TakesReady a xs b → Takes b x c → TakesReady a (xs ++ x ∷ []) c
takes_one {a} {b} {c} {xs} x h k = record {
  took = Took-append h.took (Took-next b c (Some x) k);
  over = k.still ∙ sym k.not_over ∙ h.over;
  failures = k.failures ∙ h.failures;
}

takes_given : {a b c : Incoming} {xs : List ℕ} (x : ℕ) (rest after : List ℕ) (r : Result (Option ℕ) Device) → TakesReady a xs b
    → NextGives b r c → GivesReady (x ∷ rest) r after → TakesReady a (xs ++ x ∷ []) c × (after ≡ rest)
takes_given x rest after (Err e) h k g = let no = g.0 in cc
takes_given x rest after (Ok None) h k g = let no = g.0 in cc
takes_given x rest after (Ok (Some y)) h k g = let same : y ≡ x = let e = g.0 in cc in (takes_one x h (rw same at k), g.1)

-- one more call of `next`
pub takes_next : {a b c : Incoming} (all now after : List ℕ) (n : ℕ) (r : Result (Option ℕ) Device) → n < length all → TakesReady a (take n all) b → now ≡ drop n all
    → NextGives b r c → GivesReady now r after → TakesReady a (take (n + 1) all) c × (after ≡ drop (n + 1) all)
takes_next {a} {b} {c} all now after n r l h e k g =
    let here : now ≡ get_or all n 0 ∷ drop (suc n) all = e ∙ drop-cons all n 0 l in
    let both = takes_given (get_or all n 0) (drop (suc n) all) after r h k (rw here at g) in
    rw (add-one, take-suc all n 0 l) both

-- an end over a reader with these bytes in its buffer
abbrev buffered : List ℕ → Option (List ℕ) → Bool → ℕ → ℕ → Streamed
buffered bytes rest is_over failures given = record { left = prepend_known bytes rest; is_over = is_over; failures = failures; given = given; ready = bytes }

Consumes-front : (rest : Option (List ℕ)) (front back : List ℕ) → Consumes (prepend_known (front ++ back) rest) (prepend_known back rest) front
Consumes-front None front back = tt
Consumes-front (Some xs) front back = append_assoc front back xs

Consumes-kept-from : (a b c : Option (List ℕ)) (bs : List ℕ) → Keeps a b → Consumes b c bs → Consumes a c bs
Consumes-kept-from None b c bs p q = tt
Consumes-kept-from (Some x) None c bs p q = absurd p
Consumes-kept-from (Some x) (Some y) None bs p q = absurd q
Consumes-kept-from (Some x) (Some y) (Some z) bs p q = sym p ∙ q

none_of : (bytes : List ℕ) (count : ℕ) → bytes ≡ [] → take count bytes ≡ []
none_of bytes count e = rw e (take-nil count)

pub buffer_takes : (bytes : List ℕ) (rest : Option (List ℕ)) (is_over : Bool) (failures given given' count : ℕ) → count ≤ length bytes → given' ≡ given + count → given' ≤ most
    → (is_over ≡ true → bytes ≡ [])
    → TakesReady (streamed_of (buffered bytes rest is_over failures given)) (take count bytes) (streamed_of (buffered (drop count bytes) rest is_over failures given'))
buffer_takes bytes rest is_over failures given given' count within more fits over =
    let front = Consumes-front rest (take count bytes) (drop count bytes) in
    record {
      took = record {
        bytes = rw (take-append-drop count bytes) at front;
        bound = let n : length (take count bytes) ≡ count = length-take-le count bytes within in omega arith;
        over = λ o. (none_of bytes count (over o), o);
        all = λ o p. absurd (both_ways is_over o p);
      };
      over = refl;
      failures = refl;
    }

-- the first byte of a buffer that begins with what came next
pub buffer_gives : (before : List ℕ) (rest rest' : Option (List ℕ)) (buffer : List ℕ) (at filled fetched given failures : ℕ) (is_over : Bool)
    → Keeps (prepend_known before rest) (prepend_known (drop at (take filled buffer)) rest') → at < filled → filled ≤ length buffer → filled - at ≤ fetched → fetched ≤ most
    → given ≡ fetched - (filled - at) → is_over ≡ false
    → Takes (streamed_of (buffered before rest is_over failures given)) (get_or buffer at 0)
    (streamed_of (buffered (drop (at + 1) (take filled buffer)) rest' is_over failures (fetched - (filled - (at + 1)))))
buffer_gives before rest rest' buffer at filled fetched given failures is_over keeps some within here fits is not_over =
    let bytes = take filled buffer in
    let n : length bytes ≡ filled = length-take-le filled buffer within in
    let cons : drop at bytes ≡ get_or buffer at 0 ∷ drop (at + 1) bytes = rw (add-one) (drop-cons bytes at 0 (omega arith) ∙ ap (λ x. x ∷ drop (suc at) bytes) (get_or-take filled buffer at 0 some)) in
    record {
      bytes = Consumes-kept-from (prepend_known before rest) _ _ _ (rw cons at keeps) (Consumes-front rest' (get_or buffer at 0 ∷ []) (drop (at + 1) bytes));
      not_over = not_over;
      still = not_over;
      falls = omega arith;
      failures = refl;
    }

pub no_bytes : (n : ℕ) (bytes : List ℕ) → length bytes ≤ n → drop n bytes ≡ []
no_bytes n bytes h = drop_of_length-le bytes h

-- what a read put into the buffer is a beginning of what was left, where the buffer was empty
pub fetched_keeps : (bytes front : List ℕ) (rest rest' : Option (List ℕ)) → bytes ≡ [] → Consumes rest rest' front → Keeps (prepend_known bytes rest) (prepend_known front rest')
fetched_keeps bytes front None rest' e h = tt
fetched_keeps bytes front (Some xs) None e h = absurd h
fetched_keeps bytes front (Some xs) (Some ys) e h = rw e (sym h)
