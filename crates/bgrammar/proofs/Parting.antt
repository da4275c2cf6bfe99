-- Reading definitions one by one parts the tokens of a source, in the one way there is.
use Rattle.std.proofs.Common.{◌≡◌, ◌≤◌, List, [], ◌∷◌, ◌++◌, map, length, sym, ap, ◌∙◌, refl, subst, append_assoc, ◌⊎◌, inl, inr, arith}
use Rattle.std.proofs.lemmas.List.{append_cancel_right}
use Rattle.std.specs.Prelude.{Some, None}
use Rattle.blang.specs.declared.token.Token.TheVariants as token
use Rattle.blang.specs.declared.token.Placed.{Placed}
use Rattle.blang.specs.Trees.{mark, kept, kept_tokens, bare, name_token, Definition}
use Rattle.blang.specs.Walk.{spell_definition, spell_all}
use Rattle.bgrammar.specs.Reading.{Got, Stop, first}
use Rattle.bgrammar.specs.ReadingOn.{Fine, goes, halts, Closer}
use Rattle.blang.specs.WellFormed.{IsFormed, AllFormed, IsProgram, BeginsProgram, IsViable, StopsAt, IsPart, Parts, Parted, fault_at}
use Rattle.bgrammar.specs.DefinitionReader.{definition}
use Rattle.bgrammar.proofs.CommaLaws.{append-nil}
use Rattle.bgrammar.proofs.KeptLemmas.{kept-append, bare-kept, map_bare-kept, map_bare-mark, kept-twice}
use Rattle.bgrammar.proofs.DefinitionSound.{SpelledDefinition, definition_sound}
use Rattle.bgrammar.proofs.LawProofs.{reads_on, begins_with_name}
use Rattle.bgrammar.proofs.ProgramLaws.{bare-append, all_relined, read_first, viable_cases, stops_there, reads_first}

-- What reading does where the next token is the same.
pub got_on : (us r : List Placed) (d : Definition) → definition (us ++ r) ≡ Got d r → (new : List Placed) → first new ≡ first r → definition (us ++ new) ≡ Got d new
got_on us r d h new n = go (reads_on (us ++ r))
  where
    go : Fine Closer definition (us ++ r) → definition (us ++ new) ≡ Got d new
    go (goes u r2 a e on) =
        let got : Got d r ≡ Got a r2 = sym h ∙ ap definition e ∙ on r2 (inl refl) in
        let r_is : r2 ≡ r = cc in
        let u_is : u ≡ us = append_cancel_right u us r (ap (λ l. u ++ l) (sym r_is) ∙ sym e) in
        let a_is : a ≡ d = cc in
        ap (λ l. definition (l ++ new)) (sym u_is) ∙ on new (inl (n ∙ ap first (sym r_is))) ∙ ap (λ x. Got x new) a_is
    go (halts u r2 e stop c a fin) = let no : Got d r ≡ Stop r2 = sym h ∙ ap definition e ∙ stop r2 refl in cc

-- where reading stops, other tokens would have ended a definition
pub record Halts (us r : List Placed) : Type 0 where
  pub stop : (new : List Placed) → first new ≡ first r → definition (us ++ new) ≡ Stop new
  pub completion : List Placed
  pub tree : Definition
  pub formed : IsFormed tree
  pub spelled : kept_tokens us ++ completion ≡ spell_definition tree

pub halting_there : (us r c : List Placed) (d : Definition) → ((new : List Placed) → first new ≡ first r → definition (us ++ new) ≡ Stop new) → ((k : List Placed) → Closer (first k) → definition (us ++ (c ++ k)) ≡ Got d k) → Halts us r
halting_there us r c d stop fin =
    let s : SpelledDefinition (kept_tokens (us ++ (c ++ []))) (Got d []) = subst (λ x. SpelledDefinition (kept_tokens (us ++ (c ++ []))) x) (fin [] refl) (definition_sound (us ++ (c ++ []))) in
    record {
      stop = stop;
      completion = kept_tokens (c ++ []);
      tree = d;
      formed = s.1;
      spelled = sym (kept-append us (c ++ [])) ∙ s.0 ∙ append-nil (spell_definition d);
    }

pub stop_on : (us r : List Placed) → definition (us ++ r) ≡ Stop r → Halts us r
stop_on us r h = go (reads_on (us ++ r))
  where
    go : Fine Closer definition (us ++ r) → Halts us r
    go (goes u r2 a e on) = let no : Stop r ≡ Got a r2 = sym h ∙ ap definition e ∙ on r2 (inl refl) in cc
    go (halts u r2 e stop c a fin) =
        let stopped : Stop r ≡ Stop r2 = sym h ∙ ap definition e ∙ stop r2 refl in
        let r_is : r2 ≡ r = cc in
        let u_is : u ≡ us = append_cancel_right u us r (ap (λ l. u ++ l) (sym r_is) ∙ sym e) in
        subst (λ l. Halts l r) u_is (halting_there u r c a (λ new n. stop new (n ∙ ap first (sym r_is))) fin)

-- no definition is without tokens
pub not_nothing : (d : Definition) (rest : List Placed) → spell_definition d ++ rest ≡ [] → ⊥
not_nothing d rest e = let name = begins_with_name d in let h : (name_token name.0 ∷ name.1) ++ rest ≡ [] = ap (λ l. l ++ rest) (sym name.2) ∙ e in cc

pub takes_some : (d : Definition) → 1 ≤ length (spell_definition d)
takes_some d = let name = begins_with_name d in omega (arith, ap length name.2)

-- no whole definition stands before the first token
none_in_nothing : (others : List Definition) → Parts [] others → length others ≤ 0
none_in_nothing [] p = omega arith
none_in_nothing (d ∷ ds) p = absurd (not_nothing d (spell_all ds ++ p.part) (sym (append_assoc (spell_definition d) (spell_all ds) p.part) ∙ sym p.split))

pub parted_end : (at : Placed) (rest : List Placed) → at.token ≡ token.End → Parted (at ∷ rest) [] None
parted_end at rest e = record {
  before = [];
  at = at;
  following = rest;
  split = refl;
  stops = (e, record { definitions = []; formed = tt; spelled = refl });
  parts = record { part = []; split = refl; formed = tt; is_part = inl refl };
  longest = none_in_nothing;
}

-- a definition that stands first, in tokens that stop there, is what reading gives
pub first_there : (tokens : List Placed) (at : Placed) (rest : List Placed) → (BeginsProgram (map bare tokens ++ at.token ∷ []) → ⊥) → (d : Definition) (ds : List Definition) → (p : Parts tokens (d ∷ ds))
    → definition (map kept (tokens ++ at ∷ rest)) ≡ Got d ((spell_all ds ++ p.part) ++ map kept (at ∷ rest))
first_there tokens at rest wrong d ds p =
    let split : map kept tokens ≡ spell_definition d ++ (spell_all ds ++ p.part) = p.split ∙ append_assoc (spell_definition d) (spell_all ds) p.part in
    let bares : map bare tokens ≡ map bare (spell_definition d ++ (spell_all ds ++ p.part)) = sym (map_bare-kept tokens) ∙ ap (map bare) split in
    let no = λ (b : BeginsProgram (map bare (spell_definition d ++ (spell_all ds ++ p.part)) ++ at.token ∷ [])). wrong (subst (λ l. BeginsProgram (l ++ at.token ∷ [])) (sym bares) b) in
    ap definition (kept-append tokens (at ∷ rest) ∙ ap (λ l. l ++ map kept (at ∷ rest)) split ∙ append_assoc (spell_definition d) (spell_all ds ++ p.part) (map kept (at ∷ rest)))
    ∙ reads_first d p.formed.0 ds p.part p.is_part at (map kept rest) no

-- Where reading stops, a program begins with what it took.
module _ (tokens r : List Placed) (halting : Halts (map kept tokens) r) where
  pub bare_spelled : map bare (spell_definition halting.tree) ≡ map bare tokens ++ map bare halting.completion
  bare_spelled =
      ap (map bare) (sym halting.spelled) ∙ bare-append (kept_tokens (map kept tokens)) halting.completion
      ∙ ap (λ l. map bare l ++ map bare halting.completion) (kept-twice tokens) ∙ ap (λ l. l ++ map bare halting.completion) (map_bare-kept tokens)

  pub halts_begins : BeginsProgram (map bare tokens)
  halts_begins = record {
    more = map bare halting.completion;
    program = record { definitions = halting.tree ∷ []; formed = (halting.formed, tt); spelled = ap (map bare) (append-nil (spell_definition halting.tree)) ∙ bare_spelled };
  }

-- Reading that stops, at a token that is no end in place of a definition.
module _ (tokens : List Placed) (at : Placed) (rest : List Placed) (halting : Halts (map kept tokens) (map kept (at ∷ rest))) where
  -- no definitions have these tokens and then what begins so
  not_spelled : (ds : List Definition) → AllFormed ds → (ps : List Placed) → first (map kept ps) ≡ bare (kept at) → (tokens ++ ps ≡ [] → ⊥) → map bare (spell_all ds) ≡ map bare (tokens ++ ps) → ⊥
  not_spelled ds f ps n some e = go (all_relined ds f (tokens ++ ps) e)
    where
      go : ((es : List Definition) × AllFormed es × (spell_all es ≡ map kept (tokens ++ ps))) → ⊥
      go ([], g, h) = nothing (tokens ++ ps) some h
        where
          nothing : (l : List Placed) → (l ≡ [] → ⊥) → [] ≡ map kept l → ⊥
          nothing [] some h = some refl
          nothing (x ∷ l) some h = cc
      go (d ∷ es, g, h) =
          let read : Got d (spell_all es) ≡ Stop (map kept ps) = sym (read_first d es g) ∙ ap definition (h ∙ kept-append tokens ps) ∙ halting.stop (map kept ps) n in
          cc

  not_viable : (at.token ≡ token.End → tokens ≡ [] → ⊥) → IsViable (map bare tokens) at.token → ⊥
  not_viable no_end v = go (viable_cases (map bare tokens) at.token v)
    where
      end_kept : at.token ≡ token.End → token.End ≡ bare (kept at)
      end_kept e = sym (bare-kept at ∙ e)

      go : ((at.token ≡ token.End) × IsProgram (map bare tokens)) ⊎ BeginsProgram (map bare tokens ++ at.token ∷ []) → ⊥
      go (inl h) = not_spelled h.1.definitions h.1.formed [] (end_kept h.0) (λ e. no_end h.0 (sym (append-nil tokens) ∙ e)) (h.1.spelled ∙ ap (map bare) (sym (append-nil tokens)))
      go (inr b) =
          let ps = at ∷ map mark b.more in
          let e : map bare (spell_all b.program.definitions) ≡ map bare (tokens ++ ps) =
          b.program.spelled ∙ append_assoc (map bare tokens) (at.token ∷ []) b.more ∙ ap (λ l. map bare tokens ++ at.token ∷ l) (sym (map_bare-mark b.more)) ∙ sym (bare-append tokens ps) in
          not_spelled b.program.definitions b.program.formed ps refl (λ e. some tokens e) e
        where
          some : (l : List Placed) → l ++ (at ∷ map mark b.more) ≡ [] → ⊥
          some [] e = cc
          some (x ∷ l) e = cc

  stops_so : (at.token ≡ token.End → tokens ≡ [] → ⊥) → StopsAt (map bare tokens) at (Some (fault_at at))
  stops_so no_end = (halts_begins tokens (map kept (at ∷ rest)) halting, not_viable no_end, refl)

  -- what was read before isn't all of a definition
  is_a_part : (no_end : at.token ≡ token.End → tokens ≡ [] → ⊥) → (c : List Placed) → halting.completion ≡ c → IsPart (map bare (map kept tokens))
  is_a_part no_end (t ∷ c) e = inr (halting.tree, bare t, map bare c, halting.formed, bare_spelled tokens (map kept (at ∷ rest)) halting ∙ ap (λ l. map bare tokens ++ map bare l) e ∙ ap (λ l. l ++ bare t ∷ map bare c) (sym (map_bare-kept tokens)))
  is_a_part no_end [] e =
      let spelled : map kept tokens ≡ spell_definition halting.tree ++ [] = sym (append-nil (map kept tokens)) ∙ ap (λ l. map kept tokens ++ l) (sym e) ∙ ap (λ l. l ++ halting.completion) (sym (kept-twice tokens)) ∙ halting.spelled ∙ sym (append-nil (spell_definition halting.tree)) in
      let parts : Parts tokens (halting.tree ∷ []) = record { part = []; split = spelled ∙ ap (λ l. l ++ []) (sym (append-nil (spell_definition halting.tree))); formed = (halting.formed, tt); is_part = inl refl } in
      let read = first_there tokens at rest (stops_there (map bare tokens) at (Some (fault_at at)) (stops_so no_end)) halting.tree [] parts in
      let no : Got halting.tree (([] ++ []) ++ map kept (at ∷ rest)) ≡ Stop (map kept (at ∷ rest)) = sym read ∙ ap definition (kept-append tokens (at ∷ rest)) ∙ halting.stop (map kept (at ∷ rest)) refl in
      cc

  none_whole : (at.token ≡ token.End → tokens ≡ [] → ⊥) → (others : List Definition) → Parts tokens others → length others ≤ 0
  none_whole no_end [] p = omega arith
  none_whole no_end (d ∷ ds) p =
      let read = first_there tokens at rest (stops_there (map bare tokens) at (Some (fault_at at)) (stops_so no_end)) d ds p in
      let no : Got d ((spell_all ds ++ p.part) ++ map kept (at ∷ rest)) ≡ Stop (map kept (at ∷ rest)) = sym read ∙ ap definition (kept-append tokens (at ∷ rest)) ∙ halting.stop (map kept (at ∷ rest)) refl in
      absurd (let n : ⊥ = cc in n)

pub parted_stop : (tokens : List Placed) (at : Placed) (rest : List Placed) → definition (map kept tokens ++ map kept (at ∷ rest)) ≡ Stop (map kept (at ∷ rest)) → (at.token ≡ token.End → tokens ≡ [] → ⊥)
    → Parted (tokens ++ at ∷ rest) [] (Some (fault_at at))
parted_stop tokens at rest h no_end =
    let halting = stop_on (map kept tokens) (map kept (at ∷ rest)) h in
    record {
      before = tokens;
      at = at;
      following = rest;
      split = refl;
      stops = stops_so tokens at rest halting no_end;
      parts = record { part = map kept tokens; split = refl; formed = tt; is_part = is_a_part tokens at rest halting no_end halting.completion refl };
      longest = none_whole tokens at rest halting no_end;
    }
