-- The laws of reading a definition, from those of its readers.
use Rattle.std.proofs.Common.{◌≡◌, List, [], ◌∷◌, ◌++◌, length, length-append, append-nil, map, Bool, true, false, sym, ap, ◌∙◌, refl, subst, inl, arith}
use Rattle.std.proofs.lemmas.List.{map-append}
use Rattle.blang.specs.declared.token.Token.TheVariants as token
use Rattle.blang.specs.declared.token.Keyword.TheVariants as keyword
use Rattle.blang.specs.declared.token.Placed.{Placed}
use Rattle.blang.specs.Trees.{mark, keyword_mark, kept_tokens, bare, Expr, Stmt, Definition, Simple, Vector, Function}
use Rattle.bgrammar.specs.Spelling.{spell, spell_statement}
use Rattle.blang.specs.Walk.{spell_definition, walk, walk_statement}
use Rattle.blang.specs.WellFormed.{rvalue_rank, IsFormed}
use Rattle.bgrammar.specs.Fitting.{Fits, Sits}
use Rattle.bgrammar.specs.Reading.{Read, Got, Stop}
use Rattle.bgrammar.specs.Unread.{kept_read, LinesUnread}
use Rattle.bgrammar.specs.ReadingOn.{Fine, goes, halts, Closer}
use Rattle.bgrammar.specs.ExpressionReader.{Rvalue, reader}
use Rattle.bgrammar.specs.StatementReader.{statement}
use Rattle.bgrammar.specs.DefinitionReader.{definition, is_open_definition}
use Rattle.bgrammar.specs.Laws.{ReadsSpelling, DefinitionRead, StatementRead, ExpressionRead, ReadsAgain, GoesOnWithElse, HasTwin, ReadsOn, BeginsWithName, OneExpression, OneStatement, OneDefinition}
use Rattle.bgrammar.proofs.KeptLemmas.{kept-length, kept-append, kept-twice, map_bare-kept}
use Rattle.bgrammar.proofs.Forms.{onto_is}
use Rattle.bgrammar.proofs.ExpressionAgain.{ends, reader_again}
use Rattle.bgrammar.proofs.StatementAgain.{statement_read_again}
use Rattle.bgrammar.proofs.ExpressionSound.{Sound, reader_sound}
use Rattle.bgrammar.proofs.StatementSound.{Spelled, statement_sound}
use Rattle.bgrammar.proofs.DefinitionSound.{SpelledDefinition, definition_sound}
use Rattle.bgrammar.proofs.DefinitionFine.{definition_fine}
use Rattle.bgrammar.proofs.DefinitionAgain.{definition_again, definition_longer}
use Rattle.bgrammar.proofs.Lineless.{BareAlike, length_alike, ReadAlike, Any}
use Rattle.bgrammar.proofs.StatementLineless.{definition_lineless}

-- lists of which the ends are as long
same_ends : {A : Type 0} (xs ys us vs : List A) → length us ≡ length vs → xs ++ us ≡ ys ++ vs → (xs ≡ ys) × (us ≡ vs)
same_ends [] [] us vs l e = (refl, e)
same_ends [] (y ∷ ys) us vs l e = absurd (omega (arith, ap length e, length-append ys vs))
same_ends (x ∷ xs) [] us vs l e = absurd (omega (arith, ap length e, length-append xs us))
same_ends (x ∷ xs) (y ∷ ys) us vs l e =
    let head : x ≡ y = cc in
    let tail : xs ++ us ≡ ys ++ vs = cc in
    let s = same_ends xs ys us vs l tail in
    (ap (λ z. z ∷ xs) head ∙ ap (λ l. y ∷ l) s.0, s.1)

abbrev rest_of : Read Definition → List Placed
rest_of (Got d r) = r
rest_of (Stop r) = r

-- What is left stands at the end of the tokens.
left_over : (ts : List Placed) → (u : List Placed) × (ts ≡ u ++ rest_of (definition ts))
left_over ts = go (definition_fine ts)
  where
    go : Fine Closer definition ts → (u : List Placed) × (ts ≡ u ++ rest_of (definition ts))
    go (goes u r d e g) = (u, e ∙ ap (λ x. u ++ rest_of x) (sym (g r (inl refl)) ∙ ap definition (sym e)))
    go (halts u r e stop c a fin) = (u, e ∙ ap (λ x. u ++ rest_of x) (sym (stop r refl) ∙ ap definition (sym e)))

left_alike : (x y : Read Definition) → ReadAlike Any x y → BareAlike (rest_of x) (rest_of y)
left_alike (Got d r) (Got e s) h = h.1
left_alike (Stop r) (Stop s) h = h
left_alike (Got d r) (Stop s) h = absurd h
left_alike (Stop r) (Got e s) h = absurd h

-- of what trees keep of tokens, what trees keep of the rest is left
kept_left : (ts : List Placed) → kept_tokens (rest_of (definition ts)) ≡ rest_of (definition (kept_tokens ts))
kept_left ts =
    let r = rest_of (definition ts) in
    let s = rest_of (definition (kept_tokens ts)) in
    let u = left_over ts in
    let v = left_over (kept_tokens ts) in
    let same : length (kept_tokens r) ≡ length s = kept-length r ∙ length_alike r s (left_alike _ _ (definition_lineless ts (kept_tokens ts) (sym (map_bare-kept ts)))) in
    (same_ends (kept_tokens u.0) v.0 (kept_tokens r) s same (sym (kept-append u.0 r) ∙ ap kept_tokens (sym u.1) ∙ v.1)).1

rest_kept : (ts rest : List Placed) (d : Definition) → definition (kept_tokens ts) ≡ Got d rest → kept_tokens rest ≡ rest
rest_kept ts rest d h = ap (λ x. kept_tokens (rest_of x)) (sym h) ∙ kept_left (kept_tokens ts) ∙ ap (λ l. rest_of (definition l)) (kept-twice ts) ∙ ap rest_of h

pub reads_spelling : ReadsSpelling
reads_spelling tokens rest d h =
    let s : SpelledDefinition (kept_tokens (kept_tokens tokens)) (Got d rest) = subst (λ x. SpelledDefinition (kept_tokens (kept_tokens tokens)) x) h (definition_sound (kept_tokens tokens)) in
    (sym (kept-twice tokens) ∙ s.0 ∙ ap (λ l. spell_definition d ++ l) (rest_kept tokens rest d h), s.1)

pub definition_read : DefinitionRead
definition_read tokens rest d h = subst (λ x. SpelledDefinition (kept_tokens tokens) x) h (definition_sound tokens)

pub statement_read : StatementRead
statement_read tokens rest room off s h = subst (λ x. Spelled (λ s. Sits s room off) (kept_tokens tokens) x) h (statement_sound room off tokens)

pub expression_read : ExpressionRead
expression_read tokens rest room off e h = subst (λ x. Sound spell (λ e. Fits e rvalue_rank room off) (kept_tokens tokens) x) h (reader_sound room Rvalue off tokens)

pub reads_again : ReadsAgain
reads_again d rest f n = definition_again d f rest n

pub goes_on_with_else : GoesOnWithElse
goes_on_with_else d f o = definition_longer d f o

pub reads_on : ReadsOn
reads_on tokens = definition_fine tokens

pub begins_with_name : BeginsWithName
begins_with_name (Simple w values) = (w, _, refl)
begins_with_name (Vector w size values) = (w, _, refl)
begins_with_name (Function w parameters body) = (w, _, refl)

pub one_expression : OneExpression
one_expression e f room off he hf same =
    let there : (g : Expr) → Fits g rvalue_rank room off → reader room Rvalue off (spell g ++ []) ≡ Got g [] = λ g h. ap (reader room Rvalue off) (sym (onto_is (walk g) [])) ∙ reader_again g room off h [] (ends token.End refl) in
    let c : Got e [] ≡ Got f [] = sym (there e he) ∙ ap (λ l. reader room Rvalue off (l ++ [])) same ∙ there f hf in cc

pub one_statement : OneStatement
one_statement s t room off hs ht same =
    let there : (u : Stmt) → Sits u room off → statement room off (spell_statement u ++ []) ≡ Got u [] = λ u h. ap (statement room off) (sym (onto_is (walk_statement u) [])) ∙ statement_read_again u room off h [] (λ o. refl) in
    let c : Got s [] ≡ Got t [] = sym (there s hs) ∙ ap (λ l. statement room off (l ++ [])) same ∙ there t ht in cc

pub one_definition : OneDefinition
one_definition d e hd he same =
    let a : definition (spell_definition d ++ []) ≡ Got d [] = definition_again d hd [] (λ o. refl) in
    let b : definition (spell_definition e ++ []) ≡ Got e [] = definition_again e he [] (λ o. refl) in
    let c : Got d [] ≡ Got e [] = sym a ∙ ap (λ l. definition (l ++ [])) same ∙ b in cc

pub lines_unread : LinesUnread
lines_unread ts = go (definition ts) (definition (kept_tokens ts)) (definition_sound ts) (definition_sound (kept_tokens ts)) (definition_lineless ts (kept_tokens ts) (sym (map_bare-kept ts))) (kept_left ts)
  where
    go : (x y : Read Definition) → SpelledDefinition (kept_tokens ts) x → SpelledDefinition (kept_tokens (kept_tokens ts)) y → ReadAlike Any x y → kept_tokens (rest_of x) ≡ rest_of y → y ≡ kept_read x
    go (Got d r) (Got e s) sx sy h left =
        let same : length (kept_tokens r) ≡ length (kept_tokens s) = kept-length r ∙ length_alike r s h.1 ∙ sym (kept-length s) in
        let tree : d ≡ e = one_definition d e sx.1 sy.1 (same_ends (spell_definition d) (spell_definition e) (kept_tokens r) (kept_tokens s) same (sym sx.0 ∙ sym (kept-twice ts) ∙ sy.0)).0 in
        ap (λ x. Got x s) (sym tree) ∙ ap (λ l. Got d l) (sym left)
    go (Stop r) (Stop s) sx sy h left = ap (λ l. Stop l) (sym left)
    go (Got d r) (Stop s) sx sy h left = absurd h
    go (Stop r) (Got e s) sx sy h left = absurd h

-- Tokens that are bare alike are read alike.
read_alike : (ts us r : List Placed) (d : Definition) → BareAlike ts us → definition ts ≡ Got d r → (e : Definition) × (s : List Placed) × (definition us ≡ Got e s) × BareAlike r s
read_alike ts us r d b h = go (definition us) refl (subst (λ x. ReadAlike Any x (definition us)) h (definition_lineless ts us b))
  where
    go : (y : Read Definition) → definition us ≡ y → ReadAlike Any (Got d r) y → (e : Definition) × (s : List Placed) × (definition us ≡ Got e s) × BareAlike r s
    go (Got e s) q k = (e, s, q, k.1)
    go (Stop s) q k = absurd k

none_left : (s : List Placed) → BareAlike [] s → s ≡ []
none_left [] h = refl
none_left (t ∷ s) h = cc

twin : (d : Definition) (tokens : List Placed) → IsFormed d → BareAlike (spell_definition d) tokens → (e : Definition) × IsFormed e × (spell_definition e ≡ kept_tokens tokens)
twin d tokens f h =
    let x = read_alike (spell_definition d ++ []) tokens [] d (ap (map bare) (append-nil (spell_definition d)) ∙ h) (definition_again d f [] (λ o. refl)) in
    let s : SpelledDefinition (kept_tokens tokens) (Got x.0 x.1) = subst (λ y. SpelledDefinition (kept_tokens tokens) y) x.2 (definition_sound tokens) in
    (x.0, s.1, sym (s.0 ∙ ap (λ l. spell_definition x.0 ++ kept_tokens l) (none_left x.1 x.3) ∙ append-nil (spell_definition x.0)))

abbrev following : List Placed
following = keyword_mark keyword.Else ∷ mark token.Semicolon ∷ []

-- an else goes on with both or with neither
stays_open : (d e : Definition) → IsFormed d → IsFormed e → BareAlike (spell_definition d) (spell_definition e) → is_open_definition d ≡ true → is_open_definition e ≡ true
stays_open d e fd fe h o = go (is_open_definition e) refl
  where
    go : (b : Bool) → is_open_definition e ≡ b → is_open_definition e ≡ true
    go true q = q
    go false q =
        let g = definition_longer d fd o in
        let b : BareAlike (spell_definition g.0 ++ []) (spell_definition e ++ following) = ap (map bare) (append-nil (spell_definition g.0) ∙ g.2) ∙ map-append bare (spell_definition d) following ∙ ap (λ l. l ++ map bare following) h ∙ sym (map-append bare (spell_definition e) following) in
        let x = read_alike (spell_definition g.0 ++ []) (spell_definition e ++ following) [] g.0 b (definition_again g.0 g.1 [] (λ o. refl)) in
        let shut : Got e following ≡ Got x.0 x.1 = sym (definition_again e fe following (λ o. let n : false ≡ true = sym q ∙ o in cc)) ∙ x.2 in
        let none : following ≡ [] = ap rest_of shut ∙ none_left x.1 x.3 in cc

same_open : (d e : Definition) → IsFormed d → IsFormed e → BareAlike (spell_definition d) (spell_definition e) → is_open_definition e ≡ is_open_definition d
same_open d e fd fe h = go (is_open_definition d) (is_open_definition e) refl refl
  where
    go : (a b : Bool) → is_open_definition d ≡ a → is_open_definition e ≡ b → is_open_definition e ≡ is_open_definition d
    go true b p q = stays_open d e fd fe h p ∙ sym p
    go false true p q = let n : false ≡ true = sym p ∙ stays_open e d fe fd (sym h) q in cc
    go false false p q = q ∙ sym p

pub has_twin : HasTwin
has_twin d tokens f h =
    let t = twin d tokens f h in
    (t.0, t.1, same_open d t.0 f t.1 (h ∙ sym (map_bare-kept tokens) ∙ ap (map bare) (sym t.2)), t.2)
