-- How far a call has read, by the tokens of the source.
use Rattle.std.proofs.Common.{◌≡◌, ℕ, suc, List, [], ◌∷◌, ◌++◌, length, map, refl, sym, ap, ◌∙◌, append_assoc, append-nil, length-append, arith, inl, inr}
use Rattle.std.proofs.lemmas.List.{map-append}
use Rattle.bword.specs.ByteEnds.{CanFollow, Took}
use Rattle.blang.specs.Cut.{token_first, tokens_from}
use Rattle.blang.specs.declared.token.Token.{Token}
use Rattle.blang.specs.declared.token.Placed.{Placed}
use Rattle.blang.specs.Compiles.{TakenUpTo}
use Rattle.blang.specs.Trees.{Definition, Simple, bare, kept}
use Rattle.blang.specs.Walk.{spell_definition}
use Rattle.blang.specs.WellFormed.{IsFormed}
use Rattle.bgrammar.specs.DefinitionReader.{definition}
use Rattle.bgrammar.specs.Reading.{after}
use Rattle.bgrammar.specs.Unread.{kept_read}
use Rattle.bgrammar.proofs.GoesReads.{got_taken, stop_taken}
use Rattle.bgrammar.proofs.KeptLemmas.{map_bare-kept}
use Rattle.bgrammar.proofs.LawProofs.{definition_read, lines_unread}
use Rattle.bgrammar.proofs.Parting.{stop_on, bare_spelled}
use Rattle.bread.specs.Tokens.{Tokens, tokens_of, tokens_with, last_ahead, IsSingle}
use Rattle.bparse.specs.Compilers.{Compiler, HasWrittenSince, ReadNoFurther}
use Rattle.bparse.specs.Steps.{StandsAt}
use Rattle.bparse.proofs.SinceSteps.{AllFormed-append, spell_all-append, follow, tree_spelled}

-- A definition begins with the tokens before these.
record Passing (u v : List Placed) : Type 0 where
  pub tokens : List Placed
  pub split : u ≡ tokens ++ v
  pub tree : Definition
  pub formed : IsFormed tree
  pub rest : List Token
  pub spelled : map bare (spell_definition tree) ≡ map bare tokens ++ rest

passing : (new : Tokens) (u v : List Placed) → StandsAt new u v → Passing u v
passing new u v (single, inl stop) =
    let t = stop_taken u v stop in
    let read = ap definition (sym (map-append kept t.tokens v) ∙ ap (map kept) (sym t.split)) ∙ lines_unread u ∙ ap kept_read stop in
    let halting = stop_on (map kept t.tokens) (map kept v) read in
    record { tokens = t.tokens; split = t.split; tree = halting.tree; formed = halting.formed; rest = map bare halting.completion; spelled = bare_spelled t.tokens (map kept v) halting }
passing new u v (single, inr (inl (d, got))) =
    let t = got_taken u v d got in
    record {
      tokens = t.tokens;
      split = t.split;
      tree = d;
      formed = (definition_read u v d got).1;
      rest = [];
      spelled = ap (map bare) (sym (tree_spelled u v d t got)) ∙ map_bare-kept t.tokens ∙ sym (append-nil (map bare t.tokens));
    }
passing new u v (single, inr (inr (same, ends))) =
    let d = Simple (record { text = []; line = 0 }) [] in
    record { tokens = []; split = sym same; tree = d; formed = tt; rest = map bare (spell_definition d); spelled = refl }

-- the current token comes first
one_ahead : (t : Tokens) (s : IsSingle t) → t.ahead ≡ s.0.current ∷ []
one_ahead t s = s.0.ahead ∙ ap (λ ps. s.0.current ∷ ps) (sym (ap after s.0.ahead) ∙ s.1)

module _ {old new : Compiler} {before : List Definition} (since : HasWrittenSince old before) (taken : List ℕ) (took : Took old.tokens.source.end taken new.tokens.source.end) (h : ReadNoFurther since taken new) where
  pub taken_up_to : (more : List ℕ) → CanFollow new.tokens.source.end more → TakenUpTo old.first.edition (since.taken ++ taken) more (suc (length before))
  taken_up_to more f =
      let s = h.stands more f in
      let q = since.spelled (taken ++ more) (follow took more f) in
      let p = passing new.tokens (tokens_of old.tokens (taken ++ more)) (tokens_of new.tokens more) s in
      let ahead = one_ahead new.tokens s.0 in
      let source = new.tokens.source in
      let held = s.0.0.current in
      let comes : tokens_of new.tokens more ≡ token_first held.token held.line (tokens_from old.first.edition source.line (source.ahead ++ more)) =
      ap (λ ps. tokens_with ps source.edition source.line (source.ahead ++ more)) ahead
      ∙ ap (λ e. token_first held.token held.line (tokens_from e source.line (source.ahead ++ more))) h.near.edition_is in
      record {
        before = q.passed ++ p.tokens;
        held = held;
        line = source.line;
        looked = h.near.passed;
        ahead = source.ahead;
        split = h.near.split;
        few = h.near.few;
        ends = h.near.ends held (ap last_ahead ahead);
        tokens = ap (tokens_from old.first.edition 1) (append_assoc since.taken taken more) ∙ q.split
            ∙ ap (λ l. q.passed ++ l) (p.split ∙ ap (λ l. p.tokens ++ l) comes)
            ∙ sym (append_assoc q.passed p.tokens (token_first held.token held.line (tokens_from old.first.edition source.line (source.ahead ++ more))));
        begun = record {
          more = p.rest;
          program = record {
            definitions = before ++ p.tree ∷ [];
            formed = AllFormed-append before p.tree since.formed p.formed;
            spelled = ap (map bare) (spell_all-append before p.tree ∙ ap (λ l. l ++ spell_definition p.tree) (sym q.spelled))
                ∙ map-append bare (map kept q.passed) (spell_definition p.tree)
                ∙ ap (λ l. l ++ map bare (spell_definition p.tree)) (map_bare-kept q.passed)
                ∙ ap (λ l. map bare q.passed ++ l) p.spelled ∙ sym (append_assoc (map bare q.passed) (map bare p.tokens) p.rest)
                ∙ ap (λ l. l ++ p.rest) (sym (map-append bare q.passed p.tokens));
          };
        };
        count_is = omega (arith, length-append before (p.tree ∷ []));
      }
