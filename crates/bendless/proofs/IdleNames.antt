-- The words of the frame of a function, and the names of externals, one after another.
use Rattle.std.proofs.Common.{◌≡◌, ◌∙◌, ℕ, zero, suc, ◌+◌, ◌<◌, ◌≤◌, false, min, List, [], ◌∷◌, ◌++◌, ◌%◌, append_assoc, ap, arith, drop, get_or, length, map, refl, sym}
use Rattle.std.specs.Prelude.{◌==◌}
use Rattle.std.proofs.lemmas.List.{drop_more}
use Rattle.blang.specs.Layout.{shape_of, size_of}
use Rattle.blang.specs.declared.code.Definition.{Definition}
use Rattle.bparse.specs.Locals.{NamedWord}
use Rattle.btools.specs.FrameNames.{frame_seen, word_seen}
use Rattle.btools.specs.Functions.{placed_entry}
use Rattle.btools.specs.declared.names.Frame.{Frame}
use Rattle.btools.specs.declared.names.FrameWord.{FrameWord}
use Rattle.btools.specs.declared.tables.FunctionEntry.{FunctionEntry}
use Rattle.bendless.specs.Idle.{external_name, external_names, idle_name, frame_names, words_with}
use Rattle.bendless.specs.Loops.{Noted}

-- what stands from an index on in tables of functions and frames
abbrev pub words_from : (strings : ℕ) → List FunctionEntry → List Frame → List NamedWord
words_from strings es fs = words_with (map placed_entry es) (map frame_seen fs) strings

-- a function that isn't the one
pub missed : (s : ℕ) (es : List FunctionEntry) (fs : List Frame) (i : ℕ) (e : FunctionEntry) → i < length es → i < length fs → ((get_or es i e).strings == s) ≡ false
    → words_from s (drop i es) (drop i fs) ≡ words_from s (drop (i + 1) es) (drop (i + 1) fs)
missed s [] fs i e lt within other = absurd (omega (arith, lt))
missed s (x ∷ es) [] i e lt within other = absurd (omega (arith, within))
missed s (x ∷ es) (y ∷ fs) zero e lt within other = rw other refl
missed s (x ∷ es) (y ∷ fs) (suc i) e lt within other =
    let more : suc i + 1 ≡ suc (i + 1) = omega arith in
    missed s es fs i e (omega (arith, lt)) (omega (arith, within)) other ∙ ap (λ k. words_from s (drop k (x ∷ es)) (drop k (y ∷ fs))) (sym more)

no_frames : (s : ℕ) (es : List FunctionEntry) → words_from s es [] ≡ []
no_frames s [] = refl
no_frames s (e ∷ es) = refl

-- none is left
pub none_left : (s : ℕ) (es : List FunctionEntry) (fs : List Frame) (n : ℕ) → min (length es) (length fs) ≤ n → words_from s (drop n es) (drop n fs) ≡ []
none_left s [] fs zero le = refl
none_left s [] fs (suc n) le = refl
none_left s (x ∷ es) [] zero le = refl
none_left s (x ∷ es) [] (suc n) le = no_frames s (drop n es)
none_left s (x ∷ es) (y ∷ fs) zero le = absurd (omega (arith, le))
none_left s (x ∷ es) (y ∷ fs) (suc n) le = none_left s es fs n (omega (arith, le))

-- the name of one external more
pub one_external : (n : Noted) (address : ℕ) (ds : List Definition) (i : ℕ) (d : Definition) → i < length ds → d ≡ get_or ds i d → (before after whole : List ℕ) (size : ℕ) → after ≡ before ++ external_name n address d
    → size ≡ size_of (shape_of d) → before ++ external_names n address (drop i ds) ≡ whole → after ++ external_names n ((address + size) % 65536) (drop (i + 1) ds) ≡ whole
one_external n address ds i d lt is before after whole size added sized so_far =
    let first : drop i ds ≡ d ∷ drop (i + 1) ds = drop_more ds i d lt ∙ ap (λ x. x ∷ drop (i + 1) ds) (sym is) in
    (λ k. added k ++ external_names n ((address + sized k) % 65536) (drop (i + 1) ds))
    ∙ append_assoc before (external_name n address d) (external_names n ((address + size_of (shape_of d)) % 65536) (drop (i + 1) ds))
    ∙ ap (λ xs. before ++ external_names n address xs) (sym first) ∙ so_far

-- the name of one word of a frame more
pub one_word : (n : Noted) (start : ℕ) (words : List FrameWord) (i : ℕ) (w : FrameWord) → i < length words → w ≡ get_or words i w → (before after whole : List ℕ) → after ≡ before ++ idle_name n start (word_seen w)
    → before ++ frame_names n start (map word_seen (drop i words)) ≡ whole → after ++ frame_names n start (map word_seen (drop (i + 1) words)) ≡ whole
one_word n start words i w lt is before after whole added so_far =
    let first : drop i words ≡ w ∷ drop (i + 1) words = drop_more words i w lt ∙ ap (λ x. x ∷ drop (i + 1) words) (sym is) in
    ap (λ t. t ++ frame_names n start (map word_seen (drop (i + 1) words))) added
    ∙ append_assoc before (idle_name n start (word_seen w)) (frame_names n start (map word_seen (drop (i + 1) words)))
    ∙ ap (λ xs. before ++ frame_names n start (map word_seen xs)) (sym first) ∙ so_far
