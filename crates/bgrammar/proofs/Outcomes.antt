-- Definitions one after another: each list of tokens is parted in one way.
use Rattle.std.proofs.Common.{◌≡◌, ◌≤◌, true, List, [], ◌∷◌, ◌++◌, map, length, sym, ap, ◌∙◌, refl, subst, append_assoc, ◌⊎◌, inl, inr, arith}
use Rattle.std.proofs.lemmas.List.{append_cancel_right}
use Rattle.std.specs.Prelude.{Option, Some, None}
use Rattle.blang.specs.declared.token.Token.{Token}
use Rattle.blang.specs.declared.token.Token.TheVariants as token
use Rattle.blang.specs.declared.token.Placed.{Placed}
use Rattle.blang.specs.declared.token.Diagnostic.{Diagnostic}
use Rattle.blang.specs.Cut.{is_last}
use Rattle.blang.specs.Trees.{mark, kept, bare, Definition}
use Rattle.blang.specs.Walk.{spell_definition, spell_all}
use Rattle.bgrammar.specs.Reading.{Got, first}
use Rattle.blang.specs.WellFormed.{IsFormed, AllFormed, IsProgram, BeginsProgram, IsViable, StopsAt, Parts, Parted}
use Rattle.bgrammar.specs.DefinitionReader.{definition}
use Rattle.bgrammar.proofs.GoingOn.{GoOn}
use Rattle.bgrammar.proofs.KeptLemmas.{kept-append, bare-kept, map_bare-kept, map_bare-mark, split_map, Order, together, sooner, later, order}
use Rattle.bgrammar.proofs.ProgramLaws.{bare-append, all_relined, read_there, read_first, program_goes_on, viable_cases, viable_end, viable_next, one_before, begins_before, stops_begins, stops_there}
use Rattle.bgrammar.proofs.Parting.{got_on, not_nothing, first_there}

-- A definition that was read, before tokens that are parted.
module _ (taken : List Placed) (d : Definition) (tokens : List Placed) (ds : List Definition) (stop : Option Diagnostic) (p : Parted tokens ds stop)
    (read : definition (map kept taken ++ map kept tokens) ≡ Got d (map kept tokens)) where
  taken_spelled : (map kept taken ≡ spell_definition d) × IsFormed d
  taken_spelled = read_there taken tokens d read

  taken_bare : map bare (spell_definition d) ≡ map bare taken
  taken_bare = ap (map bare) (sym taken_spelled.0) ∙ map_bare-kept taken

  -- a program that begins with it goes on with a program
  peeled : (ps : List Placed) → first (map kept ps) ≡ first (map kept tokens) → IsProgram (map bare (taken ++ ps)) → IsProgram (map bare ps)
  peeled ps n program = go (all_relined program.definitions program.formed (taken ++ ps) program.spelled)
    where
      go : ((es : List Definition) × AllFormed es × (spell_all es ≡ map kept (taken ++ ps))) → IsProgram (map bare ps)
      go ([], g, h) = absurd (not_nothing d (map kept ps) (ap (λ l. l ++ map kept ps) (sym taken_spelled.0) ∙ sym (kept-append taken ps) ∙ sym h))
      go (e ∷ es, g, h) =
          let same_ : Got e (spell_all es) ≡ Got d (map kept ps) = sym (read_first e es g) ∙ ap definition (h ∙ kept-append taken ps) ∙ got_on (map kept taken) (map kept tokens) d read (map kept ps) n in
          let rest : spell_all es ≡ map kept ps = cc in
          record { definitions = es; formed = g.1; spelled = ap (map bare) rest ∙ map_bare-kept ps }

  first_same : (before : List Placed) (at : Placed) (xs ys : List Placed) → first (map kept (before ++ at ∷ xs)) ≡ first (map kept (before ++ at ∷ ys))
  first_same [] at xs ys = refl
  first_same (b ∷ before) at xs ys = refl

  end_same : (before : List Placed) (at : Placed) (xs : List Placed) → at.token ≡ token.End → first (map kept before) ≡ first (map kept (before ++ at ∷ xs))
  end_same [] at xs e = sym (bare-kept at ∙ e)
  end_same (b ∷ before) at xs e = refl

  at_first : (more : List Token) → first (map kept (p.before ++ p.at ∷ map mark more)) ≡ first (map kept tokens)
  at_first more = first_same p.before p.at (map mark more) p.following ∙ ap (λ l. first (map kept l)) (sym p.split)

  still_wrong : (IsViable (map bare p.before) p.at.token → ⊥) → IsViable (map bare (taken ++ p.before)) p.at.token → ⊥
  still_wrong wrong v = go (viable_cases (map bare (taken ++ p.before)) p.at.token v)
    where
      go : ((p.at.token ≡ token.End) × IsProgram (map bare (taken ++ p.before))) ⊎ BeginsProgram (map bare (taken ++ p.before) ++ p.at.token ∷ []) → ⊥
      go (inl h) = wrong (viable_end (map bare p.before) p.at.token h.0 (peeled p.before (end_same p.before p.at p.following h.0 ∙ ap (λ l. first (map kept l)) (sym p.split)) h.1))
      go (inr b) =
          let ps = p.before ++ p.at ∷ map mark b.more in
          let spelled : map bare (taken ++ ps) ≡ (map bare (taken ++ p.before) ++ p.at.token ∷ []) ++ b.more =
          ap (map bare) (sym (append_assoc taken p.before (p.at ∷ map mark b.more)))
          ∙ bare-append (taken ++ p.before) (p.at ∷ map mark b.more)
          ∙ ap (λ l. map bare (taken ++ p.before) ++ p.at.token ∷ l) (map_bare-mark b.more)
          ∙ sym (append_assoc (map bare (taken ++ p.before)) (p.at.token ∷ []) b.more) in
          let rest = peeled ps (at_first b.more) (subst IsProgram (sym spelled) b.program) in
          let same_ : map bare ps ≡ (map bare p.before ++ p.at.token ∷ []) ++ b.more =
          bare-append p.before (p.at ∷ map mark b.more) ∙ ap (λ l. map bare p.before ++ p.at.token ∷ l) (map_bare-mark b.more) ∙ sym (append_assoc (map bare p.before) (p.at.token ∷ []) b.more) in
          wrong (viable_next (map bare p.before) p.at.token (record { more = b.more; program = subst IsProgram same_ rest }))

  stops_after : (s : Option Diagnostic) → StopsAt (map bare p.before) p.at s → StopsAt (map bare (taken ++ p.before)) p.at s
  stops_after None h = (h.0, subst IsProgram (sym (bare-append taken p.before)) (one_before d taken_spelled.1 (map bare taken) taken_bare (map bare p.before) h.1))
  stops_after (Some f) h = (subst BeginsProgram (sym (bare-append taken p.before)) (begins_before d taken_spelled.1 (map bare taken) taken_bare (map bare p.before) h.0), still_wrong h.1, h.2)

  all_split : taken ++ tokens ≡ (taken ++ p.before) ++ p.at ∷ p.following
  all_split = ap (λ l. taken ++ l) p.split ∙ sym (append_assoc taken p.before (p.at ∷ p.following))

  no_longer : (others : List Definition) → Parts (taken ++ p.before) others → length others ≤ length (d ∷ ds)
  no_longer [] q = omega arith
  no_longer (e ∷ es) q =
      let R = map kept (p.at ∷ p.following) in
      let there = first_there (taken ++ p.before) p.at p.following (stops_there (map bare (taken ++ p.before)) p.at stop (stops_after stop p.stops)) e es q in
      let same_ : Got e ((spell_all es ++ q.part) ++ R) ≡ Got d (map kept tokens) = sym there ∙ ap (λ l. definition (map kept l)) (sym all_split) ∙ ap definition (kept-append taken tokens) ∙ read in
      let rest : (spell_all es ++ q.part) ++ R ≡ map kept tokens = cc in
      let split : spell_all es ++ q.part ≡ map kept p.before = append_cancel_right (spell_all es ++ q.part) (map kept p.before) R (rest ∙ ap (map kept) p.split ∙ kept-append p.before (p.at ∷ p.following)) in
      let shorter : length es ≤ length ds = p.longest es (record { part = q.part; split = sym split; formed = q.formed.1; is_part = q.is_part }) in
      omega arith

  pub parted_after : Parted (taken ++ tokens) (d ∷ ds) stop
  parted_after = record {
    before = taken ++ p.before;
    at = p.at;
    following = p.following;
    split = all_split;
    stops = stops_after stop p.stops;
    parts = record {
      part = p.parts.part;
      split = kept-append taken p.before ∙ ap (λ l. l ++ map kept p.before) taken_spelled.0 ∙ ap (λ l. spell_definition d ++ l) p.parts.split ∙ sym (append_assoc (spell_definition d) (spell_all ds) p.parts.part);
      formed = (taken_spelled.1, p.parts.formed);
      is_part = p.parts.is_part;
    };
    longest = no_longer;
  }

-- Two partings with as many definitions have the same.
pub same_parts : (tokens : List Placed) (at : Placed) (rest : List Placed) → (BeginsProgram (map bare tokens ++ at.token ∷ []) → ⊥) → (ds es : List Definition) → Parts tokens ds → Parts tokens es → length ds ≡ length es → ds ≡ es
same_parts tokens at rest wrong [] [] p q l = refl
same_parts tokens at rest wrong [] (e ∷ es) p q l = absurd (omega arith)
same_parts tokens at rest wrong (d ∷ ds) [] p q l = absurd (omega arith)
same_parts tokens at rest wrong (d ∷ ds) (e ∷ es) p q l =
    let R = map kept (at ∷ rest) in
    let both : Got d ((spell_all ds ++ p.part) ++ R) ≡ Got e ((spell_all es ++ q.part) ++ R) = sym (first_there tokens at rest wrong d ds p) ∙ first_there tokens at rest wrong e es q in
    let first_one : d ≡ e = cc in
    let rests : (spell_all ds ++ p.part) ++ R ≡ (spell_all es ++ q.part) ++ R = cc in
    let others : spell_all ds ++ p.part ≡ spell_all es ++ q.part = append_cancel_right (spell_all ds ++ p.part) (spell_all es ++ q.part) R rests in
    let s = split_map kept (spell_definition d) (spell_all ds ++ p.part) tokens (p.split ∙ append_assoc (spell_definition d) (spell_all ds) p.part) in
    let bare_front : map bare (spell_definition d) ≡ map bare s.front = ap (map bare) (sym s.front_is) ∙ map_bare-kept s.front in
    let still = λ (b : BeginsProgram (map bare s.back ++ at.token ∷ [])). wrong (subst (λ l. BeginsProgram (l ++ at.token ∷ [])) (sym (bare-append s.front s.back) ∙ ap (map bare) (sym s.whole)) (subst BeginsProgram (sym (append_assoc (map bare s.front) (map bare s.back) (at.token ∷ []))) (begins_before d p.formed.0 (map bare s.front) bare_front (map bare s.back ++ at.token ∷ []) b))) in
    let p' : Parts s.back ds = record { part = p.part; split = s.back_is; formed = p.formed.1; is_part = p.is_part } in
    let q' : Parts s.back es = record { part = q.part; split = s.back_is ∙ others; formed = q.formed.1; is_part = q.is_part } in
    let fewer : length ds ≡ length es = omega arith in
    ap (λ x. x ∷ ds) first_one ∙ ap (λ l. e ∷ l) (same_parts s.back at rest still ds es p' q' fewer)

-- a longer beginning would go on where no program does
pub no_further : (before : List Placed) (at : Placed) (stop : Option Diagnostic) → StopsAt (map bare before) at stop → (c further : List Placed) → further ≡ before ++ at ∷ c → BeginsProgram (map bare further) → ⊥
no_further before at stop stops c further e b =
    let spelled : map bare further ++ b.more ≡ (map bare before ++ at.token ∷ []) ++ (map bare c ++ b.more) =
    ap (λ l. map bare l ++ b.more) e ∙ ap (λ l. l ++ b.more) (bare-append before (at ∷ c)) ∙ append_assoc (map bare before) (at.token ∷ map bare c) b.more
    ∙ sym (append_assoc (map bare before) (at.token ∷ []) (map bare c ++ b.more)) in
    stops_there (map bare before) at stop stops (record { more = map bare c ++ b.more; program = subst IsProgram spelled b.program })

same_stop : (before : List Token) (at : Placed) (s t : Option Diagnostic) → StopsAt before at s → StopsAt before at t → s ≡ t
same_stop before at None None h k = refl
same_stop before at None (Some d) h k = absurd (k.1 (viable_end before at.token h.0 h.1))
same_stop before at (Some d) None h k = absurd (h.1 (viable_end before at.token k.0 k.1))
same_stop before at (Some d) (Some e) h k = ap Some (h.2 ∙ sym k.2)

-- There is one parting.
pub parted_once : (tokens : List Placed) (ds es : List Definition) (s t : Option Diagnostic) → Parted tokens ds s → Parted tokens es t → (ds ≡ es) × (s ≡ t)
parted_once tokens ds es s t p q = go (order p.before p.at p.following q.before q.at q.following (sym p.split ∙ q.split))
  where
    go : Order p.before p.at p.following q.before q.at q.following → (ds ≡ es) × (s ≡ t)
    go (sooner c e) = absurd (no_further p.before p.at s p.stops c q.before e (stops_begins (map bare q.before) q.at t q.stops))
    go (later c e) = absurd (no_further q.before q.at t q.stops c p.before e (stops_begins (map bare p.before) p.at s p.stops))
    go (together e f g) =
        let q_parts : Parts p.before es = subst (λ l. Parts l es) (sym e) q.parts in
        let p_parts : Parts q.before ds = subst (λ l. Parts l ds) e p.parts in
        let less : length es ≤ length ds = p.longest es q_parts in
        let more : length ds ≤ length es = q.longest ds p_parts in
        let lengths : length ds ≡ length es = omega arith in
        let q_stops : StopsAt (map bare p.before) p.at t = subst (λ b. StopsAt (map bare p.before) b t) (sym f) (subst (λ l. StopsAt (map bare l) q.at t) (sym e) q.stops) in (
          same_parts p.before p.at p.following (stops_there (map bare p.before) p.at s p.stops) ds es p.parts q_parts lengths,
          same_stop (map bare p.before) p.at s t p.stops q_stops,
        )

-- the last token is one that ends a source
abbrev pub Ended : List Placed → Type 0
Ended [] = ⊥
Ended (t ∷ []) = is_last t.token ≡ true
Ended (t ∷ u ∷ ts) = Ended (u ∷ ts)

pub ended_after : (us ts : List Placed) → GoOn us → Ended (us ++ ts) → Ended ts
ended_after [] ts g e = e
ended_after (u ∷ []) [] g e = let no = g.0 in cc
ended_after (u ∷ []) (t ∷ ts) g e = e
ended_after (u ∷ v ∷ us) ts g e = ended_after (v ∷ us) ts g.1 e

pub go_on_kept : (us : List Placed) → GoOn (map kept us) → GoOn us
go_on_kept [] g = tt
go_on_kept (u ∷ us) g = (ap is_last (sym (bare-kept u)) ∙ g.0, go_on_kept us g.1)

-- What begins a program ends no source.
pub begun_goes_on : (us : List Placed) → BeginsProgram (map bare us) → GoOn us
begun_goes_on [] b = tt
begun_goes_on (u ∷ us) b = (program_goes_on [] (bare u) (map bare us ++ b.more) b.program, begun_tail us (bare u ∷ []) b)
  where
    begun_tail : (us : List Placed) (front : List Token) → BeginsProgram (front ++ map bare us) → GoOn us
    begun_tail [] front b = tt
    begun_tail (u ∷ us) front b = (
      program_goes_on front (bare u) (map bare us ++ b.more) (subst IsProgram (append_assoc front (bare u ∷ map bare us) b.more) b.program),
      begun_tail us (front ++ bare u ∷ []) (subst BeginsProgram (sym (append_assoc front (bare u ∷ []) (map bare us))) b),
    )
