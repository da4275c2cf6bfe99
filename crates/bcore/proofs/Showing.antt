-- What is shown of a block and kept in it, piece after piece.
use Rattle.std.proofs.Common.{Option, Some, None, ap, append_assoc, append-nil, ◌≡◌, ℕ, ◌+◌, ◌<◌, refl, sym, List, [], ◌++◌, length, take, Result, Ok, Err, ◌∙◌, arith, length-append, MatchResult, Bool, true, false}
use Rattle.std.proofs.KnownBytes.{Appends-nil, Appends-trans}
use Rattle.std.specs.Io.KnownBytes.{Appends, append_known}
use Rattle.std.proofs.Math.Seq.{take-append-add}
use Rattle.std.proofs.lemmas.Bool.{leb-false, lt-leb}
use Rattle.bcore.specs.Blocks.{Held, HandsOn, HandsSome, PassesOn, TakesPiece, has_room, held}

HandsOn-following : {a b c : Held} {xs ys : List ℕ} → HandsOn a xs [] b → HandsOn b ys [] c → HandsOn a (xs ++ ys) [] c
HandsOn-following {a} {b} {c} {xs} {ys} h k = record {
  appended = Appends-trans a.shown b.shown c.shown xs ys h.appended k.appended;
  kept_is = k.kept_is;
  same_len = k.same_len ∙ h.same_len;
}

HandsSome-following : {a b c : Held} {xs ys : List ℕ} → HandsOn a xs [] b → HandsSome b ys c → HandsSome a (xs ++ ys) c
HandsSome-following {a} {b} {c} {xs} {ys} h k = record {
  count = length xs + k.count;
  within = let l = k.within in omega (arith, length-append xs ys);
  appended = rw (take-append-add xs ys k.count) (Appends-trans a.shown b.shown c.shown xs (take k.count ys) h.appended k.appended);
  kept_is = k.kept_is;
  same_len = k.same_len ∙ h.same_len;
}

-- a piece that is too long for an empty block
pub passes_rest : {E : Type 0} (old mid same new : Held) (piece : List ℕ) (r : Result (Unit {0}) E)
    → HandsOn old old.kept [] mid → same ≡ mid → false ≡ has_room mid mid.kept piece
    → MatchResult r (λ u. HandsOn same piece [] new) (λ e. HandsSome same piece new)
    → MatchResult r (λ u. PassesOn (has_room old [] piece) old piece new) (λ e. HandsSome old (old.kept ++ piece) new)
passes_rest old mid same new piece (Ok u) h s long k =
    let l = h.same_len in let e : length mid.kept ≡ 0 = rw h.kept_is refl in
    let n : mid.len < length mid.kept + length piece = leb-false (length mid.kept + length piece) mid.len (sym long) in
    rw (lt-leb (0 + length piece) old.len (omega (arith, e, l, n))) (HandsOn-following h (rw s at k))
passes_rest old mid same new piece (Err e) h s long k = HandsSome-following h (rw s at k)

-- bytes that were held, and then shown or kept
holds : (a b : Option (List ℕ)) (kept shown left piece : List ℕ) → shown ++ left ≡ kept ++ piece → Appends a b shown
    → Appends (append_known a kept) (append_known b left) piece
holds None b kept shown left piece e h = tt
holds (Some xs) None kept shown left piece e h = absurd h
holds (Some xs) (Some ys) kept shown left piece e h =
    ap (λ zs. zs ++ left) h ∙ append_assoc xs shown left ∙ ap (λ zs. xs ++ zs) e ∙ sym (append_assoc xs kept piece)

hands_on : (old new : Held) (shown left piece : List ℕ) → shown ++ left ≡ old.kept ++ piece → HandsOn old shown left new
    → Appends (held old) (held new) piece
hands_on old new shown left piece e h =
    rw h.kept_is (holds old.shown new.shown old.kept shown left piece e h.appended)

pub held_grows : (room fits : Bool) (old new : Held) (piece : List ℕ) → TakesPiece room fits old piece new
    → Appends (held old) (held new) piece
held_grows true fits old new piece h =
    rw h (holds old.shown old.shown old.kept [] (old.kept ++ piece) piece refl (Appends-nil old.shown))
held_grows false true old new piece h = hands_on old new old.kept piece piece refl h
held_grows false false old new piece h = hands_on old new (old.kept ++ piece) [] piece (append-nil (old.kept ++ piece)) h

pub held_stays : (old new : Held) → HandsOn old old.kept [] new → Appends (held old) (held new) []
held_stays old new h = hands_on old new old.kept [] [] refl h
