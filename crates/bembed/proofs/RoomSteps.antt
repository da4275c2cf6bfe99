-- What a write at the head of a room does.
use Rattle.std.proofs.Common.{◌≡◌, ◌∙◌, ℕ, ◌+◌, ◌-◌, ◌≤◌, min, List, [], ◌∷◌, ◌++◌, length, take, drop, Option, Some, None}
use Rattle.std.proofs.Common.{refl, sym, ap, subst, add-one, arith, append_assoc, append-nil}
use Rattle.std.specs.Prelude.{slice_get}
use Rattle.std.specs.Option.{option_or}
use Rattle.std.proofs.lemmas.List.{length-take}
use Rattle.std.proofs.lemmas.Option.{get_or_from_slice_get, slice_get_within}
use Rattle.std.proofs.Math.Seq.{drop-drop, take-suc}
use Rattle.bword.specs.ByteEnds.{Refuses, Grew}
use Rattle.bword.specs.declared.ends.EndFault.TheVariants as fault
use Rattle.bembed.specs.Rooms.{FailsFull, room_of, overflow_of}

-- what a write leaves after its bytes was there before all writes
pub kept_on : (before room written : List ℕ) (count more : ℕ) → drop count room ≡ drop count before
    → drop (count + more) written ≡ drop (count + more) room → drop (count + more) written ≡ drop (count + more) before
kept_on before room written count more kept left =
    left ∙ sym (drop-drop more count room) ∙ ap (drop more) kept ∙ drop-drop more count before

-- where a byte had no room, the room is full
full_where_over : (room : List ℕ) (count failures byte : ℕ) → FailsFull room count (overflow_of failures (Some byte)) → count ≡ length room
full_where_over room count failures byte full = (full.0 (λ none. let is = full.1 none in cc)).0

-- the bytes that fit, and the first that doesn't, begin the bytes
with_next : (bytes : List ℕ) (n byte : ℕ) → slice_get bytes (length (take n bytes)) ≡ Some byte
    → take (length (take n bytes) + 1) bytes ≡ take n bytes ++ byte ∷ []
with_next bytes n byte is =
    let lt = slice_get_within bytes (length (take n bytes)) byte is in
    let whole : length (take n bytes) ≡ n = omega (arith, length-take n bytes, lt) in
    let at : slice_get bytes n ≡ Some byte = subst (λ k. slice_get bytes k ≡ Some byte) whole is in
    ap (λ k. take (k + 1) bytes) whole
    ∙ rw add-one (take-suc bytes n byte (slice_get_within bytes n byte at))
    ∙ ap (λ b. take n bytes ++ b ∷ []) (get_or_from_slice_get bytes n byte byte at)

-- a write of more bytes than there is room for
pub refused : (room written bytes : List ℕ) (count n failures failed byte : ℕ) (over : Option ℕ) → count ≤ length room
    → n ≡ min (length bytes) (length room - count)
    → take (count + length (take n bytes)) written ≡ take count room ++ take n bytes
    → slice_get bytes (length (take n bytes)) ≡ Some byte → Grew failures failed
    → FailsFull room count (overflow_of failures over)
    → Refuses (room_of room count (overflow_of failures over)) bytes fault.Device
    (room_of written (count + length (take n bytes)) (overflow_of failed (option_or over (Some byte))))
refused room written bytes count n failures failed byte None within is wrote next grew full = record {
  count = length (take n bytes) + 1;
  within = omega (arith, slice_get_within bytes (length (take n bytes)) byte next);
  appended = ap (λ t. t ++ byte ∷ []) wrote ∙ append_assoc (take count room) (take n bytes) (byte ∷ [])
      ∙ ap (λ t. take count room ++ t) (sym (with_next bytes n byte next))
      ∙ ap (λ t. t ++ take (length (take n bytes) + 1) bytes) (sym (append-nil (take count room)));
  counted = (grew, refl);
}
refused room written bytes count n failures failed byte (Some first) within is wrote next grew full =
    let all = full_where_over room count failures first full in
    let none : n ≡ 0 = omega (arith, is, all) in
    record {
      count = 0;
      within = omega arith;
      appended = ap (λ t. t ++ first ∷ [])
          (wrote ∙ ap (λ k. take count room ++ take k bytes) none ∙ append-nil (take count room))
          ∙ sym (append-nil (take count room ++ first ∷ []));
      counted = (grew, refl);
    }
