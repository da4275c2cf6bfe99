-- The parts of the facts of a page, one after another.
use Rattle.std.proofs.Common.{◌≡◌, ◌∙◌, ℕ, ◌+◌, ◌<◌, List, [], ◌∷◌, ◌++◌, ap, append-nil, append_assoc, get_or, length, map, reverse, sym, take}
use Rattle.std.specs.Prelude.{zip}
use Rattle.std.specs.List.{flat_map, range_with_len}
use Rattle.std.proofs.lemmas.List.{length-map, map-append, reverse-append, take_more}
use Rattle.std.proofs.lemmas.List.Concat.{flat_map-append}
use Rattle.blang.specs.declared.code.Definition.{Definition}
use Rattle.blang.specs.Layout.{data_end, shape_of, spot_after, spots, store_words}
use Rattle.bmach.proofs.Spots.{length-spots_after, spots_after-push, zip-push}
use Rattle.bmach.specs.declared.machine.Active.{Active}
use Rattle.bshow.specs.declared.seen.SeenStep.{SeenStep}
use Rattle.bshow.specs.Facts.{all_addresses, call_text, definition_text, spot_text}

-- the texts of definitions, with one more
abbrev pub texts_of : List Definition → List ℕ
texts_of ds = flat_map spot_text (zip (spots (map shape_of ds)) ds)

texts-push : (ds : List Definition) (d : Definition) → texts_of (ds ++ d ∷ []) ≡ texts_of ds ++ definition_text (data_end (map shape_of ds)) d
texts-push ds d =
    let shapes = map shape_of ds in
    let s = spot_after shapes (shape_of d) in
    ap (λ es. flat_map spot_text (zip (spots es) (ds ++ d ∷ []))) (map-append shape_of ds (d ∷ []))
    ∙ ap (λ ss. flat_map spot_text (zip ss (ds ++ d ∷ []))) (spots_after-push [] shapes (shape_of d))
    ∙ ap (flat_map spot_text) (zip-push (spots shapes) ds s d (length-spots_after [] shapes ∙ length-map ds shape_of))
    ∙ flat_map-append spot_text (zip (spots shapes) ds) ((s, d) ∷ [])
    ∙ ap (λ x. texts_of ds ++ x) (append-nil (definition_text (data_end (map shape_of ds)) d))

pub one_definition : (ds : List Definition) (i : ℕ) (d : Definition) → i < length ds → d ≡ get_or ds i d → (head text new : List ℕ) (address : ℕ) → address ≡ data_end (map shape_of (take i ds))
    → text ≡ head ++ texts_of (take i ds) → new ≡ text ++ definition_text address d → new ≡ head ++ texts_of (take (i + 1) ds)
one_definition ds i d lt is head text new address here before one =
    one ∙ (λ j. before j ++ definition_text (here j) d)
    ∙ append_assoc head (texts_of (take i ds)) (definition_text (data_end (map shape_of (take i ds))) d)
    ∙ ap (λ x. head ++ x) (sym (ap texts_of (take_more ds i d lt ∙ ap (λ x. take i ds ++ x ∷ []) (sym is)) ∙ texts-push (take i ds) d))

-- a call more of those that are left, and none
pub calls_left : (text new whole : List ℕ) (left rest : List Active) (c : Active) → left ≡ rest ++ c ∷ [] → text ++ flat_map call_text (reverse left) ≡ whole → new ≡ text ++ call_text c
    → new ++ flat_map call_text (reverse rest) ≡ whole
calls_left text new whole left rest c is before one =
    ap (λ t. t ++ flat_map call_text (reverse rest)) one
    ∙ append_assoc text (call_text c) (flat_map call_text (reverse rest))
    ∙ ap (λ cs. text ++ flat_map call_text cs) (sym (ap reverse is ∙ reverse-append rest (c ∷ [])))
    ∙ before

pub no_calls_left : (text whole : List ℕ) (left : List Active) → length left ≡ 0 → text ++ flat_map call_text (reverse left) ≡ whole → text ≡ whole
no_calls_left text whole [] none all = sym (append-nil text) ∙ all
no_calls_left text whole (c ∷ left) none all = cc

-- the numbers below that of all words
pub all_are : (n : ℕ) → n ≡ store_words → range_with_len 0 n ≡ all_addresses
unfolding all_addresses
all_are n e = ap (range_with_len 0) e

-- one row more
pub one_row : (cells : SeenStep → List ℕ) (start text new : List ℕ) (step : SeenStep) (rest : List SeenStep) → text ++ flat_map cells (step ∷ rest) ≡ start → new ≡ text ++ cells step → new ++ flat_map cells rest ≡ start
one_row cells start text new step rest before one = ap (λ t. t ++ flat_map cells rest) one ∙ append_assoc text (cells step) (flat_map cells rest) ∙ before
