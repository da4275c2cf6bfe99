-- Programs: lists of definitions, and what reading the first of them tells.
use Rattle.std.proofs.Common.{◌≡◌, Bool, true, false, List, [], ◌∷◌, ◌++◌, map, sym, ap, ◌∙◌, refl, subst, append_assoc, ◌⊎◌, inl, inr}
use Rattle.std.proofs.lemmas.List.{map-append, append_cancel_right}
use Rattle.std.specs.Prelude.{Option, Some, None}
use Rattle.blang.specs.declared.token.Keyword.TheVariants as keyword
use Rattle.blang.specs.declared.token.Token.{Token}
use Rattle.blang.specs.declared.token.Token.TheVariants as token
use Rattle.blang.specs.declared.token.Placed.{Placed}
use Rattle.blang.specs.declared.token.Diagnostic.{Diagnostic}
use Rattle.blang.specs.Cut.{is_last}
use Rattle.blang.specs.Trees.{mark, kept, bare, name_token, keyword_mark, Definition}
use Rattle.blang.specs.Walk.{spell_definition, spell_all}
use Rattle.bgrammar.specs.Reading.{Got, first}
use Rattle.bgrammar.specs.StatementReader.{is_else}
use Rattle.blang.specs.WellFormed.{IsFormed, AllFormed, IsProgram, BeginsProgram, IsViable, StopsAt, IsPart}
use Rattle.bgrammar.specs.DefinitionReader.{definition, is_open_definition}
use Rattle.bgrammar.proofs.CommaLaws.{append-nil}
use Rattle.bgrammar.proofs.GoingOn.{GoOn, GoOn-append, definition_goes_on}
use Rattle.bgrammar.proofs.KeptLemmas.{kept-append, bare-kept, split_map}
use Rattle.bgrammar.proofs.StatementSound.{only_else}
use Rattle.bgrammar.proofs.LawProofs.{reads_spelling, reads_again, goes_on_with_else, has_twin, begins_with_name}

pub bare-append : (us vs : List Placed) → map bare (us ++ vs) ≡ map bare us ++ map bare vs
bare-append us vs = map-append bare us vs

-- tokens that are spelled so but for their lines are spelled by other definitions
pub all_relined : (ds : List Definition) → AllFormed ds → (ps : List Placed) → map bare (spell_all ds) ≡ map bare ps → (es : List Definition) × AllFormed es × (spell_all es ≡ map kept ps)
all_relined [] f [] h = ([], tt, refl)
all_relined [] f (p ∷ ps) h = cc
all_relined (d ∷ ds) f ps h =
    let s = split_map bare (map bare (spell_definition d)) (map bare (spell_all ds)) ps (sym h ∙ bare-append (spell_definition d) (spell_all ds)) in
    let e = has_twin d s.front f.0 (sym s.front_is) in
    let es = all_relined ds f.1 s.back (sym s.back_is) in
    (e.0 ∷ es.0, (e.1, es.1), ap (λ l. l ++ spell_all es.0) e.3 ∙ ap (λ l. map kept s.front ++ l) es.2 ∙ sym (map-append kept s.front s.back) ∙ ap (map kept) (sym s.whole))

-- what was read stands there, and is well formed
pub read_there : (taken tokens : List Placed) (d : Definition) → definition (map kept taken ++ map kept tokens) ≡ Got d (map kept tokens) → (map kept taken ≡ spell_definition d) × IsFormed d
read_there taken tokens d h =
    let s = reads_spelling (taken ++ tokens) (map kept tokens) d (ap definition (kept-append taken tokens) ∙ h) in
    (append_cancel_right (map kept taken) (spell_definition d) (map kept tokens) (sym (kept-append taken tokens) ∙ s.0), s.1)

-- after a definition comes a name or the end, and no `else`
pub name_first : (d : Definition) (rest : List Placed) → is_else (first (spell_definition d ++ rest)) ≡ false
name_first d rest = let name = begins_with_name d in ap (λ l. is_else (first (l ++ rest))) name.2

pub program_first : (ds : List Definition) → is_else (first (spell_all ds)) ≡ false
program_first [] = refl
program_first (d ∷ ds) = name_first d (spell_all ds)

pub read_first : (d : Definition) (ds : List Definition) → AllFormed (d ∷ ds) → definition (spell_all (d ∷ ds)) ≡ Got d (spell_all ds)
read_first d ds f = reads_again d (spell_all ds) f.0 (λ h. program_first ds)

-- no token of a program ends a source
all_go_on : (ds : List Definition) → GoOn (spell_all ds)
all_go_on [] = tt
all_go_on (d ∷ ds) = GoOn-append (spell_definition d) (spell_all ds) (definition_goes_on d) (all_go_on ds)

inner_goes_on : (us : List Token) (t : Token) (more : List Token) (ps : List Placed) → GoOn ps → map bare ps ≡ us ++ t ∷ more → is_last t ≡ false
inner_goes_on us t more [] h e = go us e
  where
    go : (us : List Token) → [] ≡ us ++ t ∷ more → is_last t ≡ false
    go [] e = cc
    go (u ∷ us) e = cc
inner_goes_on [] t more (p ∷ ps) h e = let same : bare p ≡ t = cc in ap is_last (sym same) ∙ h.0
inner_goes_on (u ∷ us) t more (p ∷ ps) h e = let same : map bare ps ≡ us ++ t ∷ more = cc in inner_goes_on us t more ps h.1 same

pub program_goes_on : (us : List Token) (t : Token) (more : List Token) → IsProgram (us ++ t ∷ more) → is_last t ≡ false
program_goes_on us t more p = inner_goes_on us t more (spell_all p.definitions) (all_go_on p.definitions) p.spelled

pub begins_goes_on : (us : List Token) (t : Token) → BeginsProgram (us ++ t ∷ []) → is_last t ≡ false
begins_goes_on us t b = program_goes_on us t b.more (subst IsProgram (append_assoc us (t ∷ []) b.more) b.program)

-- a program that goes on or ends with the next token
pub viable_cases : (before : List Token) (t : Token) → IsViable before t → ((t ≡ token.End) × IsProgram before) ⊎ BeginsProgram (before ++ t ∷ [])
viable_cases before token.End h = inl (refl, h)
viable_cases before _ h = inr h

pub viable_end : (before : List Token) (t : Token) → t ≡ token.End → IsProgram before → IsViable before t
viable_end before token.End e p = p
viable_end before _ e p = cc

pub viable_next : (before : List Token) (t : Token) → BeginsProgram (before ++ t ∷ []) → IsViable before t
viable_next before token.End b = let h = begins_goes_on before token.End b in cc
viable_next before _ b = b

-- a definition before what begins a program
pub one_before : (d : Definition) → IsFormed d → (front : List Token) → map bare (spell_definition d) ≡ front → (tokens : List Token) → IsProgram tokens → IsProgram (front ++ tokens)
one_before d f front e tokens p = record {
  definitions = d ∷ p.definitions;
  formed = (f, p.formed);
  spelled = bare-append (spell_definition d) (spell_all p.definitions) ∙ ap (λ l. l ++ map bare (spell_all p.definitions)) e ∙ ap (λ l. front ++ l) p.spelled;
}

pub begins_before : (d : Definition) → IsFormed d → (front : List Token) → map bare (spell_definition d) ≡ front → (tokens : List Token) → BeginsProgram tokens → BeginsProgram (front ++ tokens)
begins_before d f front e tokens b = record { more = b.more; program = subst IsProgram (sym (append_assoc front tokens b.more)) (one_before d f front e (tokens ++ b.more) b.program) }

pub stops_begins : (before : List Token) (at : Placed) (stop : Option Diagnostic) → StopsAt before at stop → BeginsProgram before
stops_begins before at None h = record { more = []; program = subst IsProgram (sym (append-nil before)) h.1 }
stops_begins before at (Some d) h = h.0

-- no program goes on after the place where one stops
pub stops_there : (before : List Token) (at : Placed) (stop : Option Diagnostic) → StopsAt before at stop → BeginsProgram (before ++ at.token ∷ []) → ⊥
stops_there before at None h b = let no = begins_goes_on before at.token b in let last : is_last at.token ≡ true = ap is_last h.0 in cc
stops_there before at (Some d) h b = h.1 (viable_next before at.token b)

-- the first token of a part is a name
part_first : (part : List Placed) (rest : List Placed) → IsPart (map bare part) → (part ≡ [] → ⊥) → is_else (first (part ++ rest)) ≡ false
part_first [] rest h n = absurd (n refl)
part_first (p ∷ part) rest (inl e) n = cc
part_first (p ∷ part) rest (inr h) n =
    let name = begins_with_name h.0 in
    let e : map bare (name_token name.0 ∷ name.1) ≡ (bare p ∷ map bare part) ++ h.1 ∷ h.2 = ap (map bare) (sym name.2) ∙ h.4 in
    let same : token.Name name.0.text ≡ bare p = cc in
    ap is_else (sym same)

-- what stands after a first definition, and then where a program stops: no `else` that it would go on with
module _ (d : Definition) (f : IsFormed d) (ds : List Definition) (part : List Placed) (is_part : IsPart (map bare part)) (at : Placed) (following : List Placed)
    (wrong : BeginsProgram (map bare (spell_definition d ++ (spell_all ds ++ part)) ++ at.token ∷ []) → ⊥) where
  open_goes_on : is_open_definition d ≡ true → (ds ≡ []) → (part ≡ []) → is_else at.token ≡ true → ⊥
  open_goes_on o e e2 h =
      let longer = goes_on_with_else d f o in
      let more : List Placed = mark token.Semicolon ∷ [] in
      let spelled : map bare (spell_definition longer.0 ++ []) ≡ (map bare (spell_definition d ++ (spell_all ds ++ part)) ++ at.token ∷ []) ++ map bare more =
      ap (map bare) (append-nil (spell_definition longer.0) ∙ longer.2) ∙ bare-append (spell_definition d) (keyword_mark keyword.Else ∷ more)
      ∙ ap (λ k. map bare (spell_definition d) ++ k ∷ map bare more) (sym (only_else at.token h))
      ∙ sym (append_assoc (map bare (spell_definition d)) (at.token ∷ []) (map bare more))
      ∙ ap (λ l. (map bare l ++ at.token ∷ []) ++ map bare more) (sym (append-nil (spell_definition d)) ∙ ap (λ l. spell_definition d ++ l) (sym (rw (e, e2) refl))) in
      wrong (record { more = map bare more; program = record { definitions = longer.0 ∷ []; formed = (longer.1, tt); spelled = spelled } })

  no_else_after : (ds' : List Definition) → ds ≡ ds' → (part' : List Placed) → part ≡ part' → is_open_definition d ≡ true → is_else (first ((spell_all ds ++ part) ++ (kept at ∷ following))) ≡ false
  no_else_after (e ∷ es) h part' k o =
      ap (λ l. is_else (first ((spell_all l ++ part) ++ (kept at ∷ following)))) h
      ∙ ap (λ l. is_else (first (l ++ (kept at ∷ following)))) (append_assoc (spell_definition e) (spell_all es) part)
      ∙ ap (λ l. is_else (first l)) (append_assoc (spell_definition e) (spell_all es ++ part) (kept at ∷ following))
      ∙ name_first e ((spell_all es ++ part) ++ (kept at ∷ following))
  no_else_after [] h (p ∷ part') k o =
      ap (λ l. is_else (first ((spell_all l ++ part) ++ (kept at ∷ following)))) h
      ∙ part_first part (kept at ∷ following) is_part (λ n. let m : [] ≡ p ∷ part' = sym n ∙ k in cc)
  no_else_after [] h [] k o = go (is_else at.token) refl
    where
      go : (b : Bool) → is_else at.token ≡ b → is_else (first ((spell_all ds ++ part) ++ (kept at ∷ following))) ≡ false
      go true e = absurd (open_goes_on o h k e)
      go false e = ap (λ l. is_else (first ((spell_all l ++ part) ++ (kept at ∷ following)))) h ∙ ap (λ l. is_else (first (l ++ (kept at ∷ following)))) k ∙ ap is_else (bare-kept at) ∙ e

  -- so reading gives this definition first
  pub reads_first : definition (spell_definition d ++ ((spell_all ds ++ part) ++ (kept at ∷ following))) ≡ Got d ((spell_all ds ++ part) ++ (kept at ∷ following))
  reads_first = reads_again d ((spell_all ds ++ part) ++ (kept at ∷ following)) f (no_else_after ds refl part refl)
