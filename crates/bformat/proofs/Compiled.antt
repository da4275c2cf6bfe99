-- A source that compiles has no wrong token.
use Rattle.std.proofs.Common.{◌≡◌, ◌∙◌, ℕ, zero, suc, Bool, true, false, List, [], ◌∷◌, ◌++◌, Option, Some, None, ap, append-nil, drop, map, refl, subst, sym, take}
use Rattle.std.specs.Prelude.{if◌then◌else◌}
use Rattle.std.specs.List.{list_any}
use Rattle.bword.specs.declared.edition.Edition.{Edition}
use Rattle.blang.specs.Code.{fault_of}
use Rattle.blang.specs.Compiles.{Compilation, CompilesTo, Defined, compilation_of, compilation_with, compiled_text}
use Rattle.blang.specs.Cut.{Piece, Space, Word, cut, is_last, line_number_after, longest, piece_first, tokens_from, whole}
use Rattle.blang.specs.Scan.{identifier_of}
use Rattle.blang.specs.Trees.{Definition, bare}
use Rattle.blang.specs.WellFormed.{IsProgram, StopsAt}
use Rattle.blang.specs.declared.token.Diagnostic.{Diagnostic}
use Rattle.blang.specs.declared.token.Placed.{Placed}
use Rattle.blang.specs.declared.token.Token.{Token}
use Rattle.blang.specs.declared.token.Token.TheVariants as token
use Rattle.bgrammar.proofs.GoingOn.{GoOn}
use Rattle.bgrammar.proofs.Outcomes.{begun_goes_on}
use Rattle.bformat.specs.Formats.{has_wrong_token, is_wrong}
use Rattle.bformat.proofs.Upcoming.{fine_before}

-- nothing comes after the last token
abbrev EndsThere : List Placed → Type 0
EndsThere [] = Unit {0}
EndsThere (p ∷ ps) = (is_last p.token ≡ true → ps ≡ []) × EndsThere ps

ends_rest : (b : Bool) (ps : List Placed) → EndsThere ps → EndsThere (if b then [] else ps)
ends_rest true ps h = tt
ends_rest false ps h = h

ends_first : (o : Option Piece) (line : ℕ) (rest : List Placed) → EndsThere rest → EndsThere (piece_first o line rest)
ends_first None line rest h = (λ e. refl, tt)
ends_first (Some Space) line rest h = h
ends_first (Some (Word t)) line rest h = (λ e. ap (λ (b : Bool). if b then [] else rest) e, ends_rest (is_last t) rest h)

cut_ends : (edition : Edition) (fuel line : ℕ) (bytes : List ℕ) → EndsThere (cut edition fuel line bytes)
unfolding cut
cut_ends edition zero line bytes = (λ e. refl, tt)
cut_ends edition (suc fuel) line [] = (λ e. refl, tt)
cut_ends edition (suc fuel) line (b ∷ bs) =
    let n = longest edition (b ∷ bs) in
    let text = take n (b ∷ bs) in
    ends_first (whole edition text) line _ (cut_ends edition fuel (line_number_after line text) (drop n (b ∷ bs)))

tokens_end : (edition : Edition) (source : List ℕ) → EndsThere (tokens_from edition 1 source)
unfolding tokens_from
tokens_end edition source = cut_ends edition _ 1 source

-- tokens of which only one ends a source, and is its end
fine_up_to : (before : List Placed) (at : Placed) (following : List Placed) → GoOn before → at.token ≡ token.End → EndsThere (before ++ at ∷ following)
    → list_any is_wrong (map (λ (p : Placed). p.token) (before ++ at ∷ following)) ≡ false
fine_up_to [] at following go is ends =
    let none : following ≡ [] = ends.0 (ap is_last is) in
    subst (λ (ps : List Placed). list_any is_wrong (at.token ∷ map (λ (p : Placed). p.token) ps) ≡ false) (sym none)
    (subst (λ (t : Token). list_any is_wrong (t ∷ []) ≡ false) (sym is) refl)
fine_up_to (p ∷ before) at following go is ends =
    fine_before p.token (map (λ (q : Placed). q.token) (before ++ at ∷ following)) go.0 ∙ fine_up_to before at following go.1 is ends.1

-- definitions without a fault stop as their tokens do
stops_so : (names : Defined) (ds : List Definition) (stop : Option Diagnostic) → (compilation_of names ds stop).stop ≡ None → stop ≡ None
stops_so names [] stop none = none
stops_so names (d ∷ ds) stop none =
    by_fault (fault_of names d) (compiled_text d) (compilation_of (names ++ (identifier_of d).text ∷ []) ds stop) (stops_so (names ++ (identifier_of d).text ∷ []) ds stop) none
  where
    by_fault : (fault : Option Diagnostic) (text : List ℕ) (later : Compilation) → (later.stop ≡ None → stop ≡ None) → (compilation_with fault text later).stop ≡ None → stop ≡ None
    by_fault None text later rest none = rest none
    by_fault (Some fault) text later rest none = cc

pub compiled_is_fine : (edition : Edition) (source : List ℕ) (r : Compilation) → CompilesTo [] (tokens_from edition 1 source) r → r.stop ≡ None → has_wrong_token edition source ≡ false
compiled_is_fine edition source r g clean =
    let p = g.parted in
    let stop : g.stop ≡ None = stops_so [] g.definitions g.stop (sym (ap (λ (c : Compilation). c.stop) g.outcome_is) ∙ clean) in
    let ends : (p.at.token ≡ token.End) × IsProgram (map bare p.before) = subst (λ (s : Option Diagnostic). StopsAt (map bare p.before) p.at s) stop p.stops in
    let go = begun_goes_on p.before (record { more = []; program = subst IsProgram (sym (append-nil (map bare p.before))) ends.1 }) in
    ap (λ (ps : List Placed). list_any is_wrong (map (λ (q : Placed). q.token) ps)) p.split
    ∙ fine_up_to p.before p.at p.following go ends.0 (subst EndsThere p.split (tokens_end edition source))
