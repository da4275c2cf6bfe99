-- What the steps of the compiler make of what was read.
use Rattle.std.proofs.Common.{◌≡◌, ℕ, ◌<◌, Bool, true, false, List, [], ◌∷◌, ◌++◌, Option, Some, None, Result, Ok, Err, IsErrAnd, refl, sym, ap, ◌∙◌, subst, append_assoc, arith, inl, inr, if◌then◌else◌}
use Rattle.bword.specs.declared.edition.Edition.{Edition}
use Rattle.blang.specs.Text.{end_text, IsWithinRanges}
use Rattle.bword.specs.ByteEnds.{Outgoing, Writes, Refuses, CanFollow}
use Rattle.bword.specs.declared.ends.EndFault.{EndFault}
use Rattle.bword.specs.declared.ends.EndFault.TheVariants as fault
use Rattle.bword.proofs.Putting.{Writes-none}
use Rattle.blang.specs.Cut.{is_last, placed}
use Rattle.blang.specs.declared.token.Token.TheVariants as token
use Rattle.blang.specs.declared.token.Placed.{Placed}
use Rattle.blang.specs.declared.token.Diagnostic.{Diagnostic}
use Rattle.bgrammar.specs.Compiled.{AreNames}
use Rattle.blang.specs.Compiles.{Defined, Compilation, CompilesTo, next_text, compiled_text}
use Rattle.blang.specs.Code.{code_of, fault_of}
use Rattle.blang.specs.Trees.{Definition, kept_tokens}
use Rattle.blang.specs.Walk.{spell_definition}
use Rattle.bgrammar.proofs.Definitions.{definition_within}
use Rattle.bgrammar.proofs.Holds.{Holds-nil, Holds-cons, Holds-first, Holds-rest, Holds-front, Holds-back}
use Rattle.bgrammar.proofs.KeptLemmas.{bare-kept}
use Rattle.bgrammar.proofs.LawProofs.{definition_read}
use Rattle.bgrammar.proofs.Tokens.{IsSound, AreSound, sound-tokens_from}
use Rattle.bgrammar.specs.DefinitionReader.{definition}
use Rattle.blang.specs.WellFormed.{fault_at}
use Rattle.bgrammar.specs.Reading.{Got, Stop, first, line_ahead}
use Rattle.blang.specs.Scan.{identifier_of}
use Rattle.bgrammar.proofs.Membership.{by_membership}
use Rattle.bgrammar.proofs.Outcomes.{Ended}
use Rattle.bgrammar.proofs.GoesLaws.{tokens_from-ended, ended_cons, goes_once, goes_some, goes_end}
use Rattle.bgrammar.proofs.GoesReads.{goes_after_read, goes_fault_read, goes_stop_read}
use Rattle.bemit.specs.Drafts.{started}
use Rattle.bemit.specs.Trails.{no_lines, took, trail, trailed_definition, definition_trail}
use Rattle.bparse.proofs.MadeSteps.{started_fresh}
use Rattle.bread.specs.Tokens.{Tokens, lines_in, tokens_of, tokens_with, is_name, IsLoaded, IsSingle, Looks, LooksAt, Moves, work, TakesAhead, TokensFail}
use Rattle.bread.proofs.TokenSteps.{Reads-append, LooksAt-append, CanFollow-append}
use Rattle.bread.proofs.Moving.{single_here}
use Rattle.bparse.specs.Locals.{Locals, locals_of}
use Rattle.bparse.specs.Steps.{AreOfSource, Point, point, HasCode, Writing, Stopping, OutRefuses, PointGives, StandsAt, refused_step}
use Rattle.bparse.specs.declared.step.Step.{Step}
use Rattle.bparse.specs.declared.step.Step.TheVariants as step

sound_kept : (ts : List Placed) → AreSound ts → AreSound (kept_tokens ts)
sound_kept [] h = Holds-nil
sound_kept (p ∷ ts) h = Holds-cons (subst IsSound (sym (bare-kept p)) (Holds-first h)) (sound_kept ts (Holds-rest h))

-- the tokens to come end
token_first_ended : (b : Bool) (p : Placed) (rest : List Placed) → is_last p.token ≡ b → Ended rest → Ended (p ∷ (if b then [] else rest))
token_first_ended true p rest e h = e
token_first_ended false p rest e h = ended_cons p rest h

with_ended : (ps : List Placed) (edition : Edition) (line : ℕ) (bytes : List ℕ) → Ended (tokens_with ps edition line bytes)
with_ended [] edition line bytes = tokens_from-ended edition line bytes
with_ended (p ∷ ps) edition line bytes = token_first_ended (is_last p.token) p (tokens_with ps edition line bytes) refl (with_ended ps edition line bytes)

pub tokens_of-ended : (t : Tokens) (more : List ℕ) → Ended (tokens_of t more)
tokens_of-ended t more = with_ended t.ahead t.source.edition t.source.line (t.source.ahead ++ more)

-- the tokens that come begin with those that are ahead
pub record Begins (t : Tokens) (more : List ℕ) : Type 0 where
  pub at : Placed
  pub rest : List Placed
  pub split : tokens_of t more ≡ at ∷ rest
  pub token_is : at.token ≡ first t.ahead
  pub line_is : at.line ≡ line_ahead t.ahead

begins_with : (ps : List Placed) (p : Placed) (following : List Placed) (edition : Edition) (line : ℕ) (bytes : List ℕ) → ps ≡ p ∷ following
    → (rest : List Placed) × (tokens_with ps edition line bytes ≡ p ∷ rest)
begins_with ps p following edition line bytes e =
    ((if is_last p.token then [] else tokens_with following edition line bytes), ap (λ l. tokens_with l edition line bytes) e)

pub begins : (t : Tokens) → IsLoaded t → (more : List ℕ) → Begins t more
begins t l more =
    let b = begins_with t.ahead l.current l.following t.source.edition t.source.line (t.source.ahead ++ more) l.ahead in
    record { at = l.current; rest = b.0; split = b.1; token_is = sym (ap first l.ahead); line_is = sym (ap line_ahead l.ahead) }

-- the diagnostic of the token that is ahead
abbrev pub fault_ahead : Tokens → Diagnostic
fault_ahead t = fault_at (placed (first t.ahead) (line_ahead t.ahead))

same_fault : (t : Tokens) (more : List ℕ) (b : Begins t more) → fault_at b.at ≡ fault_ahead t
same_fault t more b = ap (λ k. fault_at (placed k b.at.line)) b.token_is ∙ ap (λ n. fault_at (placed (first t.ahead) n)) b.line_is

first_of : (at p : Placed) (rest more : List Placed) → at ∷ rest ≡ p ∷ more → at ≡ p
first_of at p rest more e = cc

-- A failed read, before anything is written.
pub read_fails : (old new : Tokens) {locals locals' : Option Locals} (names names' : Defined) (out : Outgoing) → TokensFail old new → PointGives (point old locals names out) (Err step.Device) (point new locals' names' out)
read_fails old new names names' out b = inl (record { taken = b.taken; reads = b.reads; each = λ more c r g. tt }, b.counted, refl)

-- The token that comes is ahead.
module _ (old mid : Tokens) (names : Defined) (l : Looks old mid) where
  module _ {P : List Placed → List Placed → Type 0} (new : Tokens) (m : Moves mid new P) where
    abbrev both : List ℕ
    both = l.moves.taken ++ m.taken

    both_read : TakesAhead old.source both new.source
    both_read = Reads-append l.moves.reads m.reads

    both_looked : LooksAt old both new
    both_looked = LooksAt-append l.moves.looked m.looked

    come : (more : List ℕ) → CanFollow new.source.end more → tokens_of old (both ++ more) ≡ tokens_of mid (m.taken ++ more)
    come more c =
        ap (tokens_of old) (append_assoc l.moves.taken m.taken more)
        ∙ l.moves.come (m.taken ++ more) (CanFollow-append l.moves.reads m.reads more c)

    failed_none : new.source.end.failures ≡ old.source.end.failures
    failed_none = m.failures ∙ l.moves.failures

  -- a token that can't come
  pub fault_stops : {locals locals' : Option Locals} (new : Tokens) (out : Outgoing) (d : Diagnostic) → Moves mid new (λ u v. definition u ≡ Stop v) → IsSingle new → (first mid.ahead ≡ token.End → ⊥) → d ≡ fault_ahead new
      → Stopping (point old locals names out) (Some d) (point new locals' names out)
  fault_stops new out d m single not_end d_is = record {
    taken = both new m;
    reads = both_read new m;
    looked = both_looked new m;
    failures = failed_none new m;
    stands = λ more c. (single, inl (ap definition (come new m more c) ∙ m.come more c));
    written = Writes-none out;
    comes = λ more c. stopped more c;
  }
    where
      stopped : (more : List ℕ) → CanFollow new.source.end more → CompilesTo names (tokens_of old (both new m ++ more)) (record { code = []; stop = Some d })
      stopped more c =
          let at = begins new single.0 more in
          let here = begins mid l.loaded (m.taken ++ more) in
          let g = goes_stop_read names (tokens_of mid (m.taken ++ more)) at.rest at.at (m.come more c ∙ ap Stop at.split)
          (λ e u. not_end (sym here.token_is ∙ ap (λ p. p.token) (first_of here.at at.at here.rest at.rest (sym here.split ∙ u)) ∙ e)) in
          subst (λ ts. CompilesTo names ts (record { code = []; stop = Some d })) (sym (come new m more c))
          (subst (λ x. CompilesTo names (tokens_of mid (m.taken ++ more)) (record { code = []; stop = Some x })) (same_fault new more at ∙ sym d_is) g)

  -- the end of the source
  module _ (out out' : Outgoing) (at_end : first mid.ahead ≡ token.End) where
    comes_end : (more : List ℕ) → CanFollow mid.source.end more → CompilesTo names (tokens_of old (l.moves.taken ++ more)) (record { code = []; stop = None })
    comes_end more c =
        let here = begins mid l.loaded more in
        subst (λ ts. CompilesTo names ts (record { code = []; stop = None })) (sym (l.moves.come more c ∙ here.split))
        (goes_end names here.at here.rest (here.token_is ∙ at_end))

    ends_there : (more : List ℕ) → CanFollow mid.source.end more → StandsAt mid (tokens_of old (l.moves.taken ++ more)) (tokens_of mid more)
    ends_there more c = (single_here l.loaded (ap is_name at_end), inr (inr (sym (l.moves.come more c), at_end)))

    pub end_stops : {locals locals' : Option Locals} → Writes out end_text out' → Stopping (point old locals names out) None (point mid locals' names out')
    end_stops w = record { taken = l.moves.taken; reads = l.moves.reads; looked = l.moves.looked; failures = l.moves.failures; stands = ends_there; written = w; comes = comes_end }

    end_refused : {locals locals' : Option Locals} (e : EndFault) → Refuses out end_text e out' → OutRefuses (point old locals names out) e (point mid locals' names out')
    end_refused e w = (
      (
        record {
          taken = l.moves.taken;
          reads = l.moves.reads;
          each = λ more c r g. subst (λ q. HasCode q × Refuses out (next_text q.code q.stop) e out') (goes_once (comes_end more c) g) ((λ none. refl), w);
        },
        l.moves.looked,
        ends_there,
      ),
      l.moves.failures,
    )

    pub end_breaks : (locals locals' : Option Locals) (e : EndFault) → Refuses out end_text e out' → PointGives (point old locals names out) (Err (refused_step e)) (point mid locals' names out')
    end_breaks locals locals' fault.Device w = inr (end_refused fault.Device w)
    end_breaks locals locals' fault.Memory w = inl (end_refused fault.Memory w)

  -- after a definition
  module _ (new : Tokens) (out : Outgoing) (tree : Definition) (name : List ℕ) (name_is : name ≡ (identifier_of tree).text) (m : Moves mid new (λ u v. definition u ≡ Got tree v)) where
    -- a definition without fault comes first
    comes_first : fault_of names tree ≡ None → (more : List ℕ) → CanFollow new.source.end more → (r : Compilation) → CompilesTo (names ++ name ∷ []) (tokens_of new more) r
        → CompilesTo names (tokens_of old (both new m ++ more)) (record { code = compiled_text tree ∷ r.code; stop = r.stop })
    comes_first clean more c r g =
        subst (λ ts. CompilesTo names ts (record { code = compiled_text tree ∷ r.code; stop = r.stop })) (sym (come new m more c))
        (goes_after_read names (tokens_of mid (m.taken ++ more)) (tokens_of new more) tree r (m.come more c) clean (subst (λ n. CompilesTo (names ++ n ∷ []) (tokens_of new more) r) name_is g))

    -- so it comes whatever comes
    first_text : fault_of names tree ≡ None → (more : List ℕ) → CanFollow new.source.end more → (r : Compilation) → CompilesTo names (tokens_of old (both new m ++ more)) r → (rest : Compilation) × (r ≡ record { code = compiled_text tree ∷ rest.code; stop = rest.stop })
    first_text clean more c r g =
        let some = goes_some (names ++ name ∷ []) (tokens_of new more) (tokens_of-ended new more) in
        (some.outcome, goes_once g (comes_first clean more c some.outcome some.goes))

    pub wrote : {locals : Option Locals} (locals' : Option Locals) (names' : Defined) (out' : Outgoing) → fault_of names tree ≡ None → AreNames names' (names ++ name ∷ []) → Writes out (compiled_text tree) out' → IsSingle new → work new < work mid
        → ((ls : List ℕ) → trailed_definition tree (started names (identifier_of tree)) (took (trail (m.passed ls) no_lines)) ≡ trail ls new.noted)
        → locals' ≡ Some (locals_of tree) → Writing (point old locals names out) (point new locals' names' out')
    wrote locals' names' out' clean added w single less notes named = record {
      taken = both new m;
      reads = both_read new m;
      looked = both_looked new m;
      failures = failed_none new m;
      tree = tree;
      clean = clean;
      read = λ more c. ap definition (come new m more c) ∙ m.come more c;
      names = subst (λ n. AreNames names' (names ++ n ∷ [])) name_is added;
      written = w;
      single = single;
      falls = let a = l.moves.falls in omega (arith, a, less);
      locals = named;
      lines = λ more c.
          let ls = lines_in (tokens_of new more) in
          ap (λ ts. definition_trail tree (lines_in ts)) (come new m more c) ∙ ap (definition_trail tree) (m.spans more c)
          ∙ ap (λ d. trailed_definition tree d (took (trail (m.passed ls) no_lines))) (sym (started_fresh names tree clean)) ∙ notes ls;
      comes = λ more c r g. comes_first clean more c r (by_membership names' (names ++ name ∷ []) (tokens_of new more) r added.members g);
    }

    -- a definition without a fault is within its ranges
    pub within : AreOfSource old → fault_of names tree ≡ None → IsWithinRanges (code_of tree)
    within source clean =
        let s = source (both new m ++ []) (λ over. let o = (both_read new m).took.over over in rw o.0 refl) in
        let comes = come new m [] (λ over. refl) in
        let all = Holds-back s.2 _ (subst AreSound s.3 (sound-tokens_from s.0 1 s.1)) in
        let read = definition_read (tokens_of mid (m.taken ++ [])) (tokens_of new []) tree (m.come [] (λ over. refl)) in
        let spelled = subst AreSound read.0 (sound_kept (tokens_of mid (m.taken ++ [])) (subst AreSound comes all)) in
        definition_within names tree clean read.1 (Holds-front (spell_definition tree) _ spelled)

    pub fault_after : {locals locals' : Option Locals} (names' : Defined) (fault : Diagnostic) → fault_of names tree ≡ Some fault → IsSingle new → Stopping (point old locals names out) (Some fault) (point new locals' names' out)
    fault_after names' fault wrong single = record {
      taken = both new m;
      reads = both_read new m;
      looked = both_looked new m;
      failures = failed_none new m;
      stands = λ more c. (single, inr (inl (tree, ap definition (come new m more c) ∙ m.come more c)));
      written = Writes-none out;
      comes = λ more c. subst (λ ts. CompilesTo names ts (record { code = []; stop = Some fault })) (sym (come new m more c))
          (goes_fault_read names (tokens_of mid (m.taken ++ more)) (tokens_of new more) tree fault (m.come more c) wrong (tokens_of-ended new more));
    }

    some_text : fault_of names tree ≡ None → (more : List ℕ) → CanFollow new.source.end more → (r : Compilation) → CompilesTo names (tokens_of old (both new m ++ more)) r → r.code ≡ [] → ⊥
    some_text clean more c r g e = let f = first_text clean more c r g in let h : [] ≡ compiled_text tree ∷ f.0.code = sym e ∙ ap (λ q. q.code) f.1 in cc

    got_whole : IsSingle new → (more : List ℕ) → CanFollow new.source.end more → StandsAt new (tokens_of old (both new m ++ more)) (tokens_of new more)
    got_whole single more c = (single, inr (inl (tree, ap definition (come new m more c) ∙ m.come more c)))

    pub no_memory : {locals locals' : Option Locals} → fault_of names tree ≡ None → IsSingle new → (names' : Defined) → PointGives (point old locals names out) (Err step.Memory) (point new locals' names' out)
    no_memory clean single names' = inr ((record { taken = both new m; reads = both_read new m; each = some_text clean }, both_looked new m, got_whole single), failed_none new m, refl)

    text_refused : {locals locals' : Option Locals} (e : EndFault) (names' : Defined) (out' : Outgoing) → fault_of names tree ≡ None → IsSingle new → Refuses out (compiled_text tree) e out' → OutRefuses (point old locals names out) e (point new locals' names' out')
    text_refused e names' out' clean single w = (
      (
        record {
          taken = both new m;
          reads = both_read new m;
          each = λ more c r g.
              let f = first_text clean more c r g in
              ((λ none. absurd (some_text clean more c r g none)), subst (λ q. Refuses out (next_text q.code q.stop) e out') (sym f.1) w);
        },
        both_looked new m,
        got_whole single,
      ),
      failed_none new m,
    )

    pub write_breaks : (locals locals' : Option Locals) (names' : Defined) (out' : Outgoing) (e : EndFault) → fault_of names tree ≡ None → IsSingle new → Refuses out (compiled_text tree) e out'
        → PointGives (point old locals names out) (Err (refused_step e)) (point new locals' names' out')
    write_breaks locals locals' names' out' fault.Device clean single w = inr (text_refused fault.Device names' out' clean single w)
    write_breaks locals locals' names' out' fault.Memory clean single w = inl (text_refused fault.Memory names' out' clean single w)

-- the exits of a `?`
pub gives_stop : (old new : Point) (r : Result (Unit {0}) Step) (e : Step) → IsErrAnd r (λ y. y ≡ e) → PointGives old (Err e) new → PointGives old r new
gives_stop old new (Ok u) e h k = absurd h
gives_stop old new (Err s) e h k = subst (λ x. PointGives old (Err x) new) (sym h) k
