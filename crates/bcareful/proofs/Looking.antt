-- Looking for the function of a call, the external of a name, and the thing of a word.
use Rattle.std.proofs.Common.{◌≡◌, ◌∙◌, ℕ, zero, suc, ◌+◌, ◌<◌, ◌≤◌, List, [], ◌∷◌, ◌++◌, ◌%◌, append_assoc, Option, None, Some, ap, arith, drop, get_or, length, map, refl, sym}
use Rattle.std.specs.Prelude.{nat_le, slice_get, if◌then◌else◌}
use Rattle.std.proofs.lemmas.List.{drop_more}
use Rattle.std.proofs.lemmas.Option.{get_or_from_slice_get, slice_get_past, slice_get_within}
use Rattle.std.specs.Option.{option_map}
use Rattle.std.proofs.lemmas.Bool.{cond-true, eq-eqb, le-leb, ne_eqb}
use Rattle.bparse.specs.Locals.{NamedWord}
use Rattle.bcareful.specs.Tellings.{holder, holds, named_at}
use Rattle.blang.specs.declared.code.Definition.{Definition}
use Rattle.blang.specs.Layout.{shape_of, size_of}
use Rattle.blang.specs.Machine.{Call}
use Rattle.bmach.specs.Stops.{active_of}
use Rattle.bmach.specs.declared.machine.Active.{Active}
use Rattle.btools.specs.FrameNames.{frame_seen, word_seen}
use Rattle.btools.specs.Functions.{placed_entry}
use Rattle.btools.proofs.Searching.{Ascend}
use Rattle.btools.specs.declared.names.Frame.{Frame}
use Rattle.btools.specs.declared.names.FrameWord.{FrameWord}
use Rattle.btools.specs.declared.tables.FunctionEntry.{FunctionEntry}
use Rattle.bcareful.specs.Marks.{data_marks, shape_marks}
use Rattle.bcareful.specs.Things.{Atlas, Site, located}
use Rattle.bcareful.specs.declared.thing.Mark.{Mark}

-- what stands from an index on in tables of functions and frames
abbrev pub located_from : (strings : ℕ) → List FunctionEntry → List Frame → Option Site
located_from strings es fs = located (map placed_entry es) (map frame_seen fs) strings

-- none of the functions is the one
pub none_located : (s : ℕ) (es : List FunctionEntry) (fs : List Frame) → ((k : ℕ) (d : FunctionEntry) → k < length es → (get_or es k d).strings ≡ s → ⊥) → located_from s es fs ≡ None
none_located s [] fs others = refl
none_located s (e ∷ es) [] others = refl
none_located s (e ∷ es) (f ∷ fs) others = rw (ne_eqb e.strings s (others 0 e (omega arith))) (none_located s es fs (λ k d lt. others (suc k) d (omega arith)))

-- a function with the words of a frame
abbrev pub site_with : FunctionEntry → Frame → Site
site_with e f = record { function = (placed_entry e).function; words = frame_seen f }

-- the one with this number is, if it has a frame
pub one_located : (s : ℕ) (es : List FunctionEntry) (fs : List Frame) (i : ℕ) (d : FunctionEntry) → Ascend es → i < length es → (get_or es i d).strings ≡ s
    → located_from s es fs ≡ option_map (site_with (get_or es i d)) (slice_get fs i)
one_located s [] fs i d ascend lt is = absurd (omega arith)
one_located s (e ∷ es) [] zero d ascend lt is = refl
one_located s (e ∷ es) [] (suc i) d ascend lt is = refl
one_located s (e ∷ es) (f ∷ fs) zero d ascend lt is = rw (eq-eqb e.strings s is) refl
one_located s (e ∷ es) (f ∷ fs) (suc i) d ascend lt is =
    let before = ascend 0 (suc i) d (omega arith) lt in
    rw (ne_eqb e.strings s (λ at. omega (arith, before, at, is)))
    (one_located s es fs i d (λ k l c less within. ascend (suc k) (suc l) c (omega arith) (omega arith)) (omega arith) is)

-- and else none is
pub unframed : (s : ℕ) (es : List FunctionEntry) (fs : List Frame) (i : ℕ) → Ascend es → i < length es → ((d : FunctionEntry) → (get_or es i d).strings ≡ s) → length fs ≤ i → located_from s es fs ≡ None
unframed s [] fs i ascend lt is past = absurd (omega arith)
unframed s (e ∷ es) fs i ascend lt is past =
    one_located s (e ∷ es) fs i e ascend lt (is e) ∙ ap (option_map (site_with (get_or (e ∷ es) i e))) (slice_get_past fs i past)

-- the marks of one definition more
pub one_definition : (a : Atlas) (address : ℕ) (ds : List Definition) (i : ℕ) (d : Definition) → i < length ds → d ≡ get_or ds i d → (before after whole : List Mark) (size : ℕ) → after ≡ before ++ shape_marks a address (shape_of d)
    → size ≡ size_of (shape_of d) → before ++ data_marks a address (drop i ds) ≡ whole → after ++ data_marks a ((address + size) % 65536) (drop (i + 1) ds) ≡ whole
one_definition a address ds i d lt is before after whole size added sized so_far =
    let first : drop i ds ≡ d ∷ drop (i + 1) ds = drop_more ds i d lt ∙ ap (λ x. x ∷ drop (i + 1) ds) (sym is) in
    (λ k. added k ++ data_marks a ((address + sized k) % 65536) (drop (i + 1) ds))
    ∙ append_assoc before (shape_marks a address (shape_of d)) (data_marks a ((address + size_of (shape_of d)) % 65536) (drop (i + 1) ds))
    ∙ ap (λ xs. before ++ data_marks a address xs) (sym first) ∙ so_far

-- one call
pub at_call : (a : Atlas) (address : ℕ) (xs : List Active) (n : ℕ) (call : Active) → slice_get xs n ≡ Some call → holder a (drop n xs) address ≡ (if holds a address call then Some call else holder a (drop (n + 1) xs) address)
at_call a address xs n call is = ap (λ ys. holder a ys address) (drop_more xs n call (slice_get_within xs n call is) ∙ ap (λ x. x ∷ drop (n + 1) xs) (get_or_from_slice_get xs n call call is))

-- there is one where there are more
pub is_there : (below : List Call) (n : ℕ) → n < length below → (found : Option Active) → found ≡ option_map active_of (slice_get below n) → found ≡ None → ⊥
is_there [] n lt found gives is = omega (arith, lt)
is_there (c ∷ below) zero lt found gives is = none (sym gives ∙ is)
  where
    none : Some (active_of c) ≡ None → ⊥
    none e = cc
is_there (c ∷ below) (suc n) lt found gives is = is_there below n (omega (arith, lt)) found gives is

-- one word of a frame that comes up to an offset
pub one_word : (ws : List FrameWord) (i : ℕ) (w : FrameWord) (offset : ℕ) (last : Option NamedWord) → i < length ws → w ≡ get_or ws i w → w.offset ≤ offset
    → named_at (map word_seen (drop (i + 1) ws)) offset (Some (word_seen w)) ≡ named_at (map word_seen (drop i ws)) offset last
one_word ws i w offset last lt is le =
    let first : drop i ws ≡ w ∷ drop (i + 1) ws = drop_more ws i w lt ∙ ap (λ x. x ∷ drop (i + 1) ws) (sym is) in
    let after = named_at (map word_seen (drop (i + 1) ws)) offset (Some (word_seen w)) in
    sym (ap (λ xs. named_at (map word_seen xs) offset last) first ∙ cond-true (nat_le w.offset offset) after last (le-leb w.offset offset le))
