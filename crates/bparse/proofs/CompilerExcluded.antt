-- Answers that the contract of a compiler's calls excludes, whatever was written before.
use Rattle.std.proofs.Common.{◌≡◌, ◌≢◌, ℕ, ◌<◌, List, [], ◌∷◌, ◌++◌, length, map, take, true, false, Some, sym, ap, ◌∙◌, subst, arith, inl, inr, ◌⊎◌}
use Rattle.std.proofs.lemmas.List.Concat.{flat_map-append}
use Rattle.std.proofs.lemmas.List.{map-append}
use Rattle.bword.specs.ByteEnds.{Grew}
use Rattle.bword.specs.declared.ends.EndFault.TheVariants as end_fault
use Rattle.bword.proofs.Remaining.{Rest}
use Rattle.bword.proofs.Taking.{Took-append}
use Rattle.blang.specs.Compiles.{Compilation, CompilesTo, Tells, compiled_text, next_text}
use Rattle.blang.specs.Cut.{tokens_from}
use Rattle.blang.specs.Code.{code_of}
use Rattle.blang.specs.Text.{definition_text, joined}
use Rattle.blang.specs.Trees.{Definition}
use Rattle.blang.specs.declared.token.Diagnostic.{Diagnostic}
use Rattle.blang.specs.declared.code.Definition as code
use Rattle.blang.specs.declared.code.Definition.TheVariants as kinds
use Rattle.bparse.specs.Compilers.{Compiler, CompilerGives, HasWrittenSince, GrowthRefused, OutRefused, ReadFailed, BeginRefused, opening_written, unopened}
use Rattle.bparse.specs.Steps.{name_of}
use Rattle.bgrammar.specs.Compiled.{has}
use Rattle.bparse.specs.declared.step.Step.TheVariants as step
use Rattle.bparse.proofs.Remaining.{rest_of, all_written}

rest_nil : (xs ys : List (List ℕ)) → xs ++ ys ≡ [] → ys ≡ []
rest_nil [] ys e = e
rest_nil (x ∷ xs) ys e = cc

last_nil : (xs ys : List ℕ) → [] ≡ xs ++ ys → ys ≡ []
last_nil [] ys e = sym e
last_nil (x ∷ xs) ys e = cc

some_text : (d : code.Definition) (rest : List ℕ) → definition_text d ++ rest ≢ []
some_text (kinds.Function f) rest e = cc
some_text (kinds.Simple s) rest e = cc
some_text (kinds.Vector v) rest e = cc

module _ (c : Compiler) (ds : List Definition) (h : HasWrittenSince c ds) where
  -- other bytes than what the text begins with, once, and the text of each definition
  pub no_other_bytes : (bytes : List ℕ) → c.first.out.written ≡ Some [] → c.out.written ≡ Some bytes → bytes ≡ opening_written c ++ joined (map compiled_text ds)
  no_other_bytes bytes before now = all_written c.first.out c.out (opening_written c ++ joined (map compiled_text ds)) bytes before now h.written.appended

  -- the name of a definition, whichever it is, is none that was noted, or fewer names were noted than definitions
  pub no_name_forgotten : (x : List ℕ) → has x (map name_of ds) ≡ true → has x c.names ≡ false → ⊥
  no_name_forgotten x named forgotten = let same = h.names.members x in cc

  pub no_name_left_out : length c.names < length (map name_of ds) → ⊥
  no_name_left_out few = let same = h.names.size in omega (arith, few, same)

  -- a definition after a read that failed
  pub no_failure_passed : c.first.source.failures ≡ 0 → c.tokens.source.end.failures ≡ 1 → ⊥
  no_failure_passed e f = let same = h.failures in omega (arith, e, f, same)

  -- three bytes after those of the token that is held
  pub no_bytes_ahead : 2 < length c.tokens.source.ahead → ⊥
  no_bytes_ahead many = let few = h.near.few in omega (arith, few, many)

  -- a definition that is none of the outcome's, as one with a fault
  pub no_faulty_definition : (text : List ℕ) (r : Compilation) → Tells c.first.source text → CompilesTo [] (tokens_from c.first.edition 1 text) r
      → (rest : List (List ℕ)) × (r.code ≡ map compiled_text ds ++ rest)
  no_faulty_definition text r tells goes =
      let t = rest_of c.first.source c.tokens.source.end h.taken text h.took tells in
      let g = h.comes t.more t.follows r (subst (λ x. CompilesTo [] (tokens_from c.first.edition 1 x) r) (sym t.whole) goes) in
      (g.0.code, g.2.code)

module _ (old new : Compiler) where
  -- a definition of which nothing is written
  pub no_definition_unwritten : new.first.out.written ≡ Some [] → new.out.written ≡ Some [] → CompilerGives old step.Written new → ⊥
  no_definition_unwritten before now g =
      let w = g.1 g.0.before g.0.since in
      let ds = g.0.before in
      let all = no_other_bytes new (ds ++ w.definition ∷ []) w.now [] before now in
      let texts : joined (map compiled_text (ds ++ w.definition ∷ [])) ≡ [] = last_nil (opening_written new) (joined (map compiled_text (ds ++ w.definition ∷ []))) all in
      let split : joined (map compiled_text (ds ++ w.definition ∷ [])) ≡ joined (map compiled_text ds) ++ (compiled_text w.definition ++ []) =
      ap joined (map-append compiled_text ds (w.definition ∷ [])) ∙ flat_map-append (λ l. l) (map compiled_text ds) (compiled_text w.definition ∷ []) in
      some_text (code_of w.definition) [] (last_nil (joined (map compiled_text ds)) (compiled_text w.definition ++ []) (sym texts ∙ split))

  module _ (text : List ℕ) (r : Compilation) (tells : Tells old.first.source text) (goes : CompilesTo [] (tokens_from old.first.edition 1 text) r) where
    came : (taken : List ℕ) (rest : Rest new.tokens.source.end taken text) → CompilesTo [] (tokens_from old.first.edition 1 (taken ++ rest.more)) r
    came taken rest = subst (λ x. CompilesTo [] (tokens_from old.first.edition 1 x) r) (sym rest.whole) goes

    -- another fault than the source's, or one of a source without a fault
    pub no_other_fault : (fault : Diagnostic) → CompilerGives old (step.Fault fault) new → r.stop ≡ Some fault
    no_other_fault fault g =
        let since = g.0.since in
        let s = g.1 g.0.before since in
        let rest = rest_of old.first.source new.tokens.source.end (since.taken ++ s.taken) text (Took-append since.took s.took) tells in
        (s.comes rest.more rest.follows r (came (since.taken ++ s.taken) rest)).1

    -- no memory, where no definition comes and no write is refused any
    pub no_memory_for_nothing : r.code ≡ [] → (Grew old.out.refusals new.out.refusals → ⊥) → CompilerGives old step.Memory new → ⊥
    no_memory_for_nothing none kept g = by_cause (g.1 g.0.before since)
      where
        since : HasWrittenSince old g.0.before
        since = g.0.since

        growth : GrowthRefused since new → ⊥
        growth broke =
            let b = broke.0.0 in
            let rest = rest_of old.first.source new.tokens.source.end (since.taken ++ b.taken) text (Took-append since.took b.took) tells in
            let c = b.comes rest.more rest.follows r (came (since.taken ++ b.taken) rest) in
            c.2 (rest_nil (map compiled_text g.0.before) c.0.code (sym c.1.code ∙ none))

        written : OutRefused since end_fault.Memory new → ⊥
        written o =
            let b = o.2.0 in
            let rest = rest_of old.first.source new.tokens.source.end (since.taken ++ b.taken) text (Took-append since.took b.took) tells in
            let c = b.comes rest.more rest.follows r (came (since.taken ++ b.taken) rest) in
            kept (subst (λ n. Grew n new.out.refusals) o.1.written.refusals c.2.1.counted.0)

        by_cause : GrowthRefused since new ⊎ OutRefused since end_fault.Memory new ⊎ BeginRefused old end_fault.Memory new → ⊥
        by_cause (inl broke) = growth broke
        by_cause (inr (inl o)) = written o
        by_cause (inr (inr b)) = kept b.refused.counted.0

    module _ (since : HasWrittenSince old []) (quiet : Grew old.first.source.failures new.tokens.source.end.failures → ⊥) (before : old.out.written ≡ Some []) where
      -- something written after a text that was refused
      pub no_text_after_a_refused_one : (bytes : List ℕ) → unopened old ≡ [] → new.out.written ≡ Some bytes → CompilerGives old step.Device new
          → (count : ℕ) × (bytes ≡ take count (next_text r.code r.stop))
      no_text_after_a_refused_one bytes opened now g = by_cause (g.1 [] since)
        where
          written : OutRefused since end_fault.Device new → (count : ℕ) × (bytes ≡ take count (next_text r.code r.stop))
          written o =
              let b = o.2.0 in
              let rest = rest_of old.first.source new.tokens.source.end (since.taken ++ b.taken) text (Took-append since.took b.took) tells in
              let c = b.comes rest.more rest.follows r (came (since.taken ++ b.taken) rest) in
              let refused = c.2.1 in
              let same : o.0.written ≡ Some [] = ap (λ out. out.written) (o.1.nothing opened) ∙ before in
              let all = all_written o.0 new.out (take refused.count (next_text c.0.code c.0.stop)) bytes same now refused.appended in
              let code_is : c.0.code ≡ r.code = sym c.1.code in
              let stop_is : c.0.stop ≡ r.stop = sym c.1.stop in
              let same_code = subst (λ t. bytes ≡ take refused.count (next_text t c.0.stop)) code_is all in
              (refused.count, subst (λ s. bytes ≡ take refused.count (next_text r.code s)) stop_is same_code)

          by_cause : ReadFailed since new ⊎ OutRefused since end_fault.Device new ⊎ BeginRefused old end_fault.Device new → (count : ℕ) × (bytes ≡ take count (next_text r.code r.stop))
          by_cause (inl f) = absurd (quiet f.1)
          by_cause (inr (inl o)) = written o
          by_cause (inr (inr b)) = absurd (b.some opened)

-- something read before the refused beginning of a text
pub no_read_before_the_beginning : (old new : Compiler) → new.tokens ≢ old.tokens → BeginRefused old end_fault.Device new → ⊥
no_read_before_the_beginning old new apart b = apart b.unread
