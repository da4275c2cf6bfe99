-- What comes of the tokens of a source, step by step.
use Rattle.std.proofs.Common.{◌≡◌, ℕ, zero, suc, ◌<◌, ◌≤◌, Bool, true, false, List, [], ◌∷◌, ◌++◌, map, length, sym, ap, ◌∙◌, refl, subst, length-append, ◌⊎◌, inl, inr, arith}
use Rattle.std.proofs.lemmas.List.{length-map}
use Rattle.std.specs.Prelude.{Option, Some, None, take, drop, if◌then◌else◌}
use Rattle.blang.specs.declared.token.Token.{Token}
use Rattle.blang.specs.declared.token.Token.TheVariants as token
use Rattle.blang.specs.declared.token.Placed.{Placed}
use Rattle.blang.specs.declared.token.Diagnostic.{Diagnostic}
use Rattle.blang.specs.Cut.{Piece, Space, Word, whole, placed, is_last, piece_first, cut, tokens_from, line_number_after, longest}
use Rattle.bword.specs.declared.edition.Edition.{Edition}
use Rattle.blang.specs.Trees.{kept, bare, Definition}
use Rattle.blang.specs.Walk.{spell_definition}
use Rattle.bgrammar.specs.Reading.{Got, Stop}
use Rattle.bgrammar.specs.ReadingOn.{Fine, goes, halts, Closer}
use Rattle.bgrammar.specs.DefinitionReader.{definition}
use Rattle.blang.specs.Scan.{identifier_of}
use Rattle.blang.specs.Code.{fault_of}
use Rattle.blang.specs.WellFormed.{Parted, fault_at}
use Rattle.blang.specs.Compiles.{Defined, Compilation, compilation_of, compilation_with, compiled_text, CompilesTo}
use Rattle.bgrammar.specs.Laws.{EachSourceComes, OutcomesAreEqual}
use Rattle.bgrammar.proofs.CommaLaws.{append-nil}
use Rattle.bgrammar.proofs.GoingOn.{GoOn, definition_goes_on}
use Rattle.bgrammar.proofs.KeptLemmas.{Split, split_map}
use Rattle.bgrammar.proofs.LawProofs.{reads_on}
use Rattle.bgrammar.proofs.ProgramLaws.{read_there}
use Rattle.bgrammar.proofs.Parting.{Halts, halting_there, halts_begins, takes_some, parted_end, parted_stop}
use Rattle.bgrammar.proofs.Outcomes.{parted_after, parted_once, Ended, ended_after, go_on_kept, begun_goes_on}

-- The tokens of a source end.
pub ended_cons : (t : Placed) (ts : List Placed) → Ended ts → Ended (t ∷ ts)
ended_cons t [] e = absurd e
ended_cons t (u ∷ ts) e = e

token_ended : (b : Bool) (t : Token) (line : ℕ) (rest : List Placed) → is_last t ≡ b → Ended rest → Ended (placed t line ∷ (if b then [] else rest))
token_ended true t line rest h e = h
token_ended false t line rest h e = ended_cons (placed t line) rest e

piece_ended : (o : Option Piece) (line : ℕ) (rest : List Placed) → Ended rest → Ended (piece_first o line rest)
piece_ended None line rest e = refl
piece_ended (Some Space) line rest e = e
piece_ended (Some (Word t)) line rest e = token_ended (is_last t) t line rest refl e

cut_ended : (edition : Edition) (fuel line : ℕ) (bytes : List ℕ) → Ended (cut edition fuel line bytes)
unfolding cut
cut_ended edition zero line bytes = refl
cut_ended edition (suc fuel) line [] = refl
cut_ended edition (suc fuel) line (b ∷ bs) =
    let n = longest edition (b ∷ bs) in
    let text = take n (b ∷ bs) in
    let next = line_number_after line text in
    let rest = drop n (b ∷ bs) in
    piece_ended (whole edition text) line (cut edition fuel next rest) (cut_ended edition fuel next rest)

pub tokens_from-ended : (edition : Edition) (line : ℕ) (bytes : List ℕ) → Ended (tokens_from edition line bytes)
unfolding tokens_from
tokens_from-ended edition line bytes = cut_ended edition (length bytes) line bytes

-- Each list of tokens that ends is parted.
pub record SomeParting (tokens : List Placed) : Type 0 where
  pub definitions : List Definition
  pub stop : Option Diagnostic
  pub parted : Parted tokens definitions stop

end_or_not : (t : Token) → (t ≡ token.End) ⊎ (t ≡ token.End → ⊥)
end_or_not token.End = inl refl
end_or_not _ = inr (λ h. cc)

-- where reading stops
some_stop : (t : Placed) (ts : List Placed) → (t.token ≡ token.End → ⊥) → Ended (t ∷ ts) → (us r : List Placed) → Halts us r → definition (us ++ r) ≡ Stop r → (s : Split kept (t ∷ ts) us r) → SomeParting (t ∷ ts)
some_stop t ts not_end e us r halting h s = go s.back refl
  where
    here : Halts (map kept s.front) r
    here = subst (λ l. Halts l r) (sym s.front_is) halting

    go : (back : List Placed) → s.back ≡ back → SomeParting (t ∷ ts)
    go [] b =
        let whole : t ∷ ts ≡ s.front = s.whole ∙ ap (λ l. s.front ++ l) b ∙ append-nil s.front in
        absurd (ended_after (t ∷ ts) [] (subst GoOn (sym whole) (begun_goes_on s.front (halts_begins s.front r here))) (subst Ended (sym (append-nil (t ∷ ts))) e))
    go (at ∷ rest) b =
        let whole : t ∷ ts ≡ s.front ++ at ∷ rest = s.whole ∙ ap (λ l. s.front ++ l) b in
        let r_is : r ≡ map kept (at ∷ rest) = sym s.back_is ∙ ap (map kept) b in
        let stopped : definition (map kept s.front ++ map kept (at ∷ rest)) ≡ Stop (map kept (at ∷ rest)) = ap (λ l. definition (l ++ map kept (at ∷ rest))) s.front_is ∙ subst (λ l. definition (us ++ l) ≡ Stop l) r_is h in
        let no_end : at.token ≡ token.End → s.front ≡ [] → ⊥ = λ a n. let first_is : t ∷ ts ≡ at ∷ rest = whole ∙ ap (λ l. l ++ at ∷ rest) n in let same_ : t ≡ at = cc in not_end (ap bare same_ ∙ a) in
        record { definitions = []; stop = Some (fault_at at); parted = subst (λ l. Parted l [] (Some (fault_at at))) (sym whole) (parted_stop s.front at rest stopped no_end) }

-- where a definition was read
some_after : (ts us r : List Placed) (d : Definition) → Ended ts → definition (us ++ r) ≡ Got d r → (s : Split kept ts us r) → ((back : List Placed) → length back < length ts → Ended back → SomeParting back) → SomeParting ts
some_after ts us r d e h s others =
    let front_is : map kept s.front ≡ spell_definition d = (read_there s.front s.back d read).0 in
    let on : GoOn s.front = go_on_kept s.front (subst GoOn (sym front_is) (definition_goes_on d)) in
    let some : 1 ≤ length (map kept s.front) = subst (λ l. 1 ≤ length l) (sym front_is) (takes_some d) in
    let shorter : length s.back < length ts = omega (arith, ap length s.whole, length-append s.front s.back, length-map s.front kept) in
    let rest = others s.back shorter (ended_after s.front s.back on (subst Ended s.whole e)) in
    record { definitions = d ∷ rest.definitions; stop = rest.stop; parted = subst (λ l. Parted l (d ∷ rest.definitions) rest.stop) (sym s.whole) (parted_after s.front d s.back rest.definitions rest.stop rest.parted read) }
  where
    read : definition (map kept s.front ++ map kept s.back) ≡ Got d (map kept s.back)
    read = ap (λ l. definition (l ++ map kept s.back)) s.front_is ∙ subst (λ l. definition (us ++ l) ≡ Got d l) (sym s.back_is) h

pub parted_some : (n : ℕ) (ts : List Placed) → length ts ≤ n → Ended ts → SomeParting ts
parted_some n [] le e = absurd e
parted_some zero (t ∷ ts) le e = absurd (omega arith)
parted_some (suc n) (t ∷ ts) le e = go (end_or_not t.token) (λ back less ended. parted_some n back (omega arith) ended)
  where
    read : Fine Closer definition (map kept (t ∷ ts)) → (t.token ≡ token.End → ⊥) → ((back : List Placed) → length back < length (t ∷ ts) → Ended back → SomeParting back) → SomeParting (t ∷ ts)
    read (goes u r d h on) not_end others = some_after (t ∷ ts) u r d e (on r (inl refl)) (split_map kept u r (t ∷ ts) h) others
    read (halts u r h stop c a fin) not_end others = some_stop t ts not_end e u r (halting_there u r c a stop fin) (stop r refl) (split_map kept u r (t ∷ ts) h)

    go : (t.token ≡ token.End) ⊎ (t.token ≡ token.End → ⊥) → ((back : List Placed) → length back < length (t ∷ ts) → Ended back → SomeParting back) → SomeParting (t ∷ ts)
    go (inl h) others = record { definitions = []; stop = None; parted = parted_end t ts h }
    go (inr not_end) others = read (reads_on (map kept (t ∷ ts))) not_end others

-- What comes of tokens is one outcome.
pub goes_once : {names : Defined} {tokens : List Placed} {r q : Compilation} → CompilesTo names tokens r → CompilesTo names tokens q → r ≡ q
goes_once {names} {tokens} {r} {q} a b =
    let one = parted_once tokens a.definitions b.definitions a.stop b.stop a.parted b.parted in
    a.outcome_is ∙ ap (λ ds. compilation_of names ds a.stop) one.0 ∙ ap (λ s. compilation_of names b.definitions s) one.1 ∙ sym b.outcome_is

pub record SomeOutcome (names : Defined) (tokens : List Placed) : Type 0 where
  pub outcome : Compilation
  pub goes : CompilesTo names tokens outcome

pub goes_some : (names : Defined) (tokens : List Placed) → Ended tokens → SomeOutcome names tokens
goes_some names tokens e =
    let p = parted_some (length tokens) tokens (omega arith) e in
    record { outcome = compilation_of names p.definitions p.stop; goes = record { definitions = p.definitions; stop = p.stop; parted = p.parted; outcome_is = refl } }

-- at the end
pub goes_end : (names : Defined) (at : Placed) (rest : List Placed) → at.token ≡ token.End → CompilesTo names (at ∷ rest) (record { code = []; stop = None })
goes_end names at rest e = record { definitions = []; stop = None; parted = parted_end at rest e; outcome_is = refl }

-- at a token that can't come
pub goes_stop : (names : Defined) (tokens : List Placed) (at : Placed) (rest : List Placed) → definition (map kept tokens ++ map kept (at ∷ rest)) ≡ Stop (map kept (at ∷ rest)) → (at.token ≡ token.End → tokens ≡ [] → ⊥)
    → CompilesTo names (tokens ++ at ∷ rest) (record { code = []; stop = Some (fault_at at) })
goes_stop names tokens at rest h not_end = record { definitions = []; stop = Some (fault_at at); parted = parted_stop tokens at rest h not_end; outcome_is = refl }

-- after a definition without fault
pub goes_after : (names : Defined) (taken : List Placed) (d : Definition) (tokens : List Placed) (r : Compilation) → definition (map kept taken ++ map kept tokens) ≡ Got d (map kept tokens) → fault_of names d ≡ None
    → CompilesTo (names ++ (identifier_of d).text ∷ []) tokens r → CompilesTo names (taken ++ tokens) (record { code = compiled_text d ∷ r.code; stop = r.stop })
goes_after names taken d tokens r h clean g = record {
  definitions = d ∷ g.definitions;
  stop = g.stop;
  parted = parted_after taken d tokens g.definitions g.stop g.parted h;
  outcome_is = ap (λ o. compilation_with None (compiled_text d) o) g.outcome_is ∙ ap (λ f. compilation_with f (compiled_text d) (compilation_of (names ++ (identifier_of d).text ∷ []) g.definitions g.stop)) (sym clean);
}

-- at a definition with a fault
pub goes_fault : (names : Defined) (taken : List Placed) (d : Definition) (tokens : List Placed) (fault : Diagnostic) → definition (map kept taken ++ map kept tokens) ≡ Got d (map kept tokens) → fault_of names d ≡ Some fault
    → Ended tokens → CompilesTo names (taken ++ tokens) (record { code = []; stop = Some fault })
goes_fault names taken d tokens fault h wrong e =
    let p = parted_some (length tokens) tokens (omega arith) e in
    record {
      definitions = d ∷ p.definitions;
      stop = p.stop;
      parted = parted_after taken d tokens p.definitions p.stop p.parted h;
      outcome_is = ap (λ f. compilation_with f (compiled_text d) (compilation_of (names ++ (identifier_of d).text ∷ []) p.definitions p.stop)) (sym wrong);
    }

pub each_source_comes : EachSourceComes
each_source_comes names edition line bytes = let some = goes_some names (tokens_from edition line bytes) (tokens_from-ended edition line bytes) in (some.outcome, some.goes)

pub outcomes_are_equal : OutcomesAreEqual
outcomes_are_equal names tokens r q g h = goes_once g h
