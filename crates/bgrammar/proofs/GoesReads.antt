-- What comes of tokens that were read as they stand.
use Rattle.std.proofs.Common.{◌≡◌, List, [], ◌∷◌, ◌++◌, map, sym, ap, ◌∙◌, refl, subst, inl}
use Rattle.std.proofs.lemmas.List.{map-append}
use Rattle.std.specs.Prelude.{Some, None}
use Rattle.blang.specs.declared.token.Token.TheVariants as token
use Rattle.blang.specs.declared.token.Placed.{Placed}
use Rattle.blang.specs.declared.token.Diagnostic.{Diagnostic}
use Rattle.blang.specs.Trees.{kept, Definition}
use Rattle.blang.specs.Walk.{spell_definition}
use Rattle.bgrammar.specs.Reading.{Got, Stop}
use Rattle.bgrammar.specs.ReadingOn.{Fine, goes, halts, Closer}
use Rattle.bgrammar.specs.DefinitionReader.{definition}
use Rattle.blang.specs.Scan.{identifier_of}
use Rattle.blang.specs.Code.{fault_of}
use Rattle.blang.specs.WellFormed.{fault_at}
use Rattle.bgrammar.specs.Unread.{kept_read}
use Rattle.blang.specs.Compiles.{Defined, Compilation, compiled_text, CompilesTo}
use Rattle.bgrammar.proofs.LawProofs.{reads_on, lines_unread}
use Rattle.bgrammar.proofs.GoingOn.{GoOn, definition_goes_on}
use Rattle.bgrammar.proofs.ProgramLaws.{read_there}
use Rattle.bgrammar.proofs.Outcomes.{Ended, ended_after, go_on_kept}
use Rattle.bgrammar.proofs.GoesLaws.{goes_stop, goes_after, goes_fault}

-- the tokens that were taken before these
pub record Taken (u v : List Placed) : Type 0 where
  pub tokens : List Placed
  pub split : u ≡ tokens ++ v

pub got_taken : (u v : List Placed) (d : Definition) → definition u ≡ Got d v → Taken u v
got_taken u v d h = go (reads_on u)
  where
    go : Fine Closer definition u → Taken u v
    go (goes p r a e g) =
        let b : Got a r ≡ Got d v = sym (g r (inl refl)) ∙ ap definition (sym e) ∙ h in
        let q : r ≡ v = cc in
        record { tokens = p; split = e ∙ ap (λ x. p ++ x) q }
    go (halts p r e stop c a fin) = let b : Stop r ≡ Got d v = sym (stop r refl) ∙ ap definition (sym e) ∙ h in cc

pub stop_taken : (u v : List Placed) → definition u ≡ Stop v → Taken u v
stop_taken u v h = go (reads_on u)
  where
    go : Fine Closer definition u → Taken u v
    go (goes p r a e g) = let b : Got a r ≡ Stop v = sym (g r (inl refl)) ∙ ap definition (sym e) ∙ h in cc
    go (halts p r e stop c a fin) =
        let b : Stop r ≡ Stop v = sym (stop r refl) ∙ ap definition (sym e) ∙ h in
        let q : r ≡ v = cc in
        record { tokens = p; split = e ∙ ap (λ x. p ++ x) q }

module _ (u v : List Placed) (t : Taken u v) where
  read_kept : definition (map kept t.tokens ++ map kept v) ≡ kept_read (definition u)
  read_kept = ap definition (sym (map-append kept t.tokens v) ∙ ap (map kept) (sym t.split)) ∙ lines_unread u

-- the tokens after a definition end where these do
pub ended_read : (u v : List Placed) (d : Definition) → definition u ≡ Got d v → Ended u → Ended v
ended_read u v d h e =
    let t = got_taken u v d h in
    let there : map kept t.tokens ≡ spell_definition d = (read_there t.tokens v d (read_kept u v t ∙ ap kept_read h)).0 in
    ended_after t.tokens v (go_on_kept t.tokens (subst GoOn (sym there) (definition_goes_on d))) (subst Ended t.split e)

-- after a definition without fault
pub goes_after_read : (names : Defined) (u v : List Placed) (d : Definition) (r : Compilation) → definition u ≡ Got d v → fault_of names d ≡ None
    → CompilesTo (names ++ (identifier_of d).text ∷ []) v r → CompilesTo names u (record { code = compiled_text d ∷ r.code; stop = r.stop })
goes_after_read names u v d r h clean g =
    let t = got_taken u v d h in
    subst (λ l. CompilesTo names l (record { code = compiled_text d ∷ r.code; stop = r.stop })) (sym t.split)
    (goes_after names t.tokens d v r (read_kept u v t ∙ ap kept_read h) clean g)

-- at a definition with a fault
pub goes_fault_read : (names : Defined) (u v : List Placed) (d : Definition) (fault : Diagnostic) → definition u ≡ Got d v → fault_of names d ≡ Some fault
    → Ended v → CompilesTo names u (record { code = []; stop = Some fault })
goes_fault_read names u v d fault h wrong e =
    let t = got_taken u v d h in
    subst (λ l. CompilesTo names l (record { code = []; stop = Some fault })) (sym t.split)
    (goes_fault names t.tokens d v fault (read_kept u v t ∙ ap kept_read h) wrong e)

nothing_taken : (ts v : List Placed) → ts ≡ [] → ts ++ v ≡ v
nothing_taken [] v e = refl
nothing_taken (p ∷ ts) v e = cc

-- at a token that can't come, which is not the end where a definition could begin
pub goes_stop_read : (names : Defined) (u rest : List Placed) (at : Placed) → definition u ≡ Stop (at ∷ rest) → (at.token ≡ token.End → u ≡ at ∷ rest → ⊥)
    → CompilesTo names u (record { code = []; stop = Some (fault_at at) })
goes_stop_read names u rest at h not_end =
    let t = stop_taken u (at ∷ rest) h in
    subst (λ l. CompilesTo names l (record { code = []; stop = Some (fault_at at) })) (sym t.split)
    (goes_stop names t.tokens at rest (read_kept u (at ∷ rest) t ∙ ap kept_read h) (λ e n. not_end e (t.split ∙ nothing_taken t.tokens (at ∷ rest) n)))
