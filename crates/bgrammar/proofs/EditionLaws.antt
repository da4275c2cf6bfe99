-- Each break can be a return, and each default a label: with these the other tokens stay, and no level gets deeper.
use Rattle.std.proofs.Common.{◌≡◌, ◌≤◌, ℕ, zero, suc, ◌+◌, List, [], ◌∷◌, ◌++◌, false, refl, sym, ap, ◌∙◌, map, arith}
use Rattle.std.proofs.lemmas.List.{map-append}
use Rattle.blang.specs.declared.token.Keyword.{Keyword}
use Rattle.blang.specs.declared.token.Keyword.TheVariants as keyword
use Rattle.blang.specs.declared.token.Token.{Token}
use Rattle.blang.specs.declared.token.Token.TheVariants as token
use Rattle.blang.specs.declared.token.Placed.{Placed}
use Rattle.blang.specs.Trees.{bare, Heading, Auto, Extrn, Label, Case, Default, Stmt, Headed, Compound, If, IfElse, While, Switch, Goto, Break, Return, ReturnValue, Evaluate, Empty, Stmts, Nothing, More, Definition, Simple, Vector, Function}
use Rattle.bgrammar.specs.Spelling.{spell, list_spelling, spell_heading, spell_condition, spell_statement, spell_body}
use Rattle.blang.specs.Walk.{spell_definition, spell_all, Walk, Said, Level, ◌▸◌, Event, tokens_in, texts_in, levels_in, walk_declared, walk_heading, walk_statement, walk_body, walk_parameter, walk_definition}
use Rattle.blang.specs.WellFormed.{is_open, IsHeading, StatementBinds, BodyBinds, IsFormed, AllFormed, OffsetsFrom}
use Rattle.blang.specs.declared.limits.TheConstants.{MAX_NESTING}
use Rattle.bgrammar.specs.Editions.{is_new, AllOld, IsOldHeading, IsOld, IsOldBody, OldTokensOldTree, BeginsOld, PartOfOld}
use Rattle.bgrammar.specs.Fitting.{words_in, Deeper, FitsIn}
use Rattle.bgrammar.proofs.WalkForms.{IsSaid, KeptByWalks, constant_kept, expression_kept, list_kept, size_kept, declared_kept, imports_kept, parameters_kept, condition_kept, values_kept}
use Rattle.bgrammar.proofs.WalkLaws.{fits_in, in_room, in_order, at_offset, IsPlain, plain_words, plain_fits}

-- a word of the first edition in place of a new one
abbrev old : Token → Token
old (token.Keyword keyword.Break) = token.Keyword keyword.Return
old (token.Keyword keyword.Default) = token.Name (97 ∷ [])
old t = t

old_is_old : (t : Token) → is_new (old t) ≡ false
old_is_old (token.Keyword keyword.Break) = refl
old_is_old (token.Keyword keyword.Default) = refl
old_is_old _ = refl

all_old : (ts : List Token) → AllOld (map old ts)
all_old [] = tt
all_old (t ∷ ts) = (old_is_old t, all_old ts)

old_stays : (t : Token) → is_new t ≡ false → old t ≡ t
old_stays (token.Keyword keyword.Break) h = cc
old_stays (token.Keyword keyword.Default) h = cc
old_stays _ h = refl

all_stay : (ts : List Token) → AllOld ts → map old ts ≡ ts
all_stay [] h = refl
all_stay (t ∷ ts) h = ap (λ x. x ∷ map old ts) (old_stays t h.0) ∙ ap (λ l. t ∷ l) (all_stay ts h.1)

-- the second tokens are the first ones with old words
abbrev Becomes : List Placed → List Placed → Type 0
Becomes [] [] = Unit {0}
Becomes [] (q ∷ qs) = ⊥
Becomes (p ∷ ps) [] = ⊥
Becomes (p ∷ ps) (q ∷ qs) = (bare q ≡ old (bare p)) × Becomes ps qs

become_both : (ps qs ps' qs' : List Placed) → Becomes ps qs → Becomes ps' qs' → Becomes (ps ++ ps') (qs ++ qs')
become_both [] [] ps' qs' h k = k
become_both [] (q ∷ qs) ps' qs' h k = elim h [ ]
become_both (p ∷ ps) [] ps' qs' h k = elim h [ ]
become_both (p ∷ ps) (q ∷ qs) ps' qs' h k = (h.0, become_both ps qs ps' qs' h.1 k)

become_tokens : (ps qs : List Placed) → Becomes ps qs → map bare qs ≡ map old (map bare ps)
become_tokens [] [] h = refl
become_tokens [] (q ∷ qs) h = elim h [ ]
become_tokens (p ∷ ps) [] h = elim h [ ]
become_tokens (p ∷ ps) (q ∷ qs) h = ap (λ x. x ∷ map bare qs) h.0 ∙ ap (λ l. old (bare p) ∷ l) (become_tokens ps qs h.1)

-- tokens among which neither word is become themselves
abbrev Same : List Placed → Type 0
Same ps = Becomes ps ps

abbrev NoWord : Keyword → Type 0
NoWord k = ⊥

said_same : (t : Token) → IsSaid NoWord t → t ≡ old t
said_same (token.Keyword k) h = absurd h
said_same _ h = refl

-- The second walk fits wherever the first one does, with as many string words.
record Like (v w : Walk) : Type 0 where
  words : words_in w ≡ words_in v
  fits : (room off : ℕ) → FitsIn v room off → FitsIn w room off

like_itself : (w : Walk) → Like w w
like_itself w = record { words = refl; fits = λ room off h. h }

like_plain : (v w : Walk) → IsPlain v → IsPlain w → Like v w
like_plain v w p q = record { words = plain_words w q ∙ sym (plain_words v p); fits = λ room off h. plain_fits w q room off }

beside : {v v2 w w2 : Walk} → Like v v2 → Like w w2 → Like (v ▸ w) (v2 ▸ w2)
beside {v} {v2} {w} {w2} a b = record {
  words = let e = a.words in let f = b.words in omega arith;
  fits = λ room off h. (a.fits room off h.0, at_offset w2 room (off + words_in v) (off + words_in v2) (ap (λ n. off + n) (sym a.words)) (b.fits room (off + words_in v) h.1));
}

opening : {w w2 : Walk} (p p2 : Placed) (end end2 : List Event) → Like w w2 → Like (Level p w end) (Level p2 w2 end2)
opening {w} {w2} p p2 end end2 a = record { words = a.words; fits = λ room off h. inside room off h }
  where
    inside : (room off : ℕ) → Deeper (λ k. FitsIn w k off) room → Deeper (λ k. FitsIn w2 k off) room
    inside zero off h = h
    inside (suc k) off h = a.fits k off h

like_levels : {v w : Walk} (most : ℕ) → Like v w → levels_in v ≤ most → OffsetsFrom 0 (texts_in v) → levels_in w ≤ most
like_levels {v} {w} most a l o = in_room w most 0 (a.fits most 0 (fits_in v most 0 l o))

like_offsets : {v w : Walk} → Like v w → OffsetsFrom 0 (texts_in v) → OffsetsFrom 0 (texts_in w)
like_offsets {v} {w} a o = in_order w (levels_in v) 0 (a.fits (levels_in v) 0 (fits_in v (levels_in v) 0 (omega arith) o))

-- The second walk has the first one's tokens with old words, and fits wherever it does.
record Ages (v w : Walk) : Type 0 where
  like : Like v w
  becomes : Becomes (tokens_in v) (tokens_in w)

steady : {w : Walk} → Same (tokens_in w) → Ages w w
steady {w} h = record { like = like_itself w; becomes = h }

-- a token that is old
token_steady : {p : Placed} → bare p ≡ old (bare p) → Ages (Said p) (Said p)
token_steady h = steady (h, tt)

then_ages : {v v2 w w2 : Walk} → Ages v v2 → Ages w w2 → Ages (v ▸ w) (v2 ▸ w2)
then_ages {v} {v2} {w} {w2} a b = record { like = beside a.like b.like; becomes = become_both (tokens_in v) (tokens_in v2) (tokens_in w) (tokens_in w2) a.becomes b.becomes }

level_ages : {p : Placed} {w w2 : Walk} {end end2 : List Event} → bare p ≡ old (bare p) → Ages w w2 → Ages (Level p w end) (Level p w2 end2)
level_ages h a = record { like = opening _ _ _ _ a.like; becomes = (h, a.becomes) }

-- without keywords nothing changes
steady_walks : KeptByWalks NoWord (λ w. Ages w w)
steady_walks = record {
  none = steady tt;
  said = λ p h. token_steady (said_same p.token h);
  text = λ t. steady (refl, tt);
  noted = λ e h. steady tt;
  opens = λ p end h q x. level_ages (said_same p.token h) x;
  joins = then_ages;
}

abbrev old_heading : Heading → Heading
old_heading (Default line) = Label (record { text = 97 ∷ []; line = line })
old_heading h = h

abbrev mutual
  old_statement : Stmt → Stmt
  old_statement (Headed h s) = Headed (old_heading h) (old_statement s)
  old_statement (Compound body) = Compound (old_body body)
  old_statement (If e s) = If e (old_statement s)
  old_statement (IfElse e s other) = IfElse e (old_statement s) (old_statement other)
  old_statement (While e s) = While e (old_statement s)
  old_statement (Switch e body) = Switch e (old_body body)
  old_statement (Break line) = Return
  old_statement s = s

  old_body : Stmts → Stmts
  old_body Nothing = Nothing
  old_body (More before s) = More (old_body before) (old_statement s)

heading_ages : (h : Heading) → Ages (walk_heading h) (walk_heading (old_heading h))
heading_ages (Auto declared) = then_ages (token_steady refl) (then_ages (list_kept steady_walks walk_declared (declared_kept steady_walks) declared) (token_steady refl))
heading_ages (Extrn names) = then_ages (token_steady refl) (then_ages (imports_kept steady_walks names) (token_steady refl))
heading_ages (Label w) = steady (refl, (refl, tt))
heading_ages (Case line c) = then_ages (token_steady refl) (then_ages (constant_kept steady_walks c) (then_ages (steady tt) (token_steady refl)))
heading_ages (Default line) = record { like = like_plain _ _ (tt, (tt, tt)) ((tt, tt), tt); becomes = (refl, (refl, tt)) }

mutual
  statement_ages : (s : Stmt) → Ages (walk_statement s) (walk_statement (old_statement s))
  statement_ages (Headed h s) = then_ages (heading_ages h) (statement_ages s)
  statement_ages (Compound body) = then_ages (level_ages refl (body_ages body)) (token_steady refl)
  statement_ages (If e s) = level_ages refl (then_ages (condition_kept steady_walks e) (statement_ages s))
  statement_ages (IfElse e s other) = level_ages refl (then_ages (condition_kept steady_walks e) (then_ages (statement_ages s) (then_ages (token_steady refl) (statement_ages other))))
  statement_ages (While e s) = level_ages refl (then_ages (condition_kept steady_walks e) (then_ages (steady tt) (statement_ages s)))
  statement_ages (Switch e body) = level_ages refl (then_ages (expression_kept steady_walks e) (then_ages (token_steady refl) (then_ages (steady tt) (then_ages (body_ages body) (token_steady refl)))))
  statement_ages (Goto e) = then_ages (token_steady refl) (then_ages (expression_kept steady_walks e) (token_steady refl))
  statement_ages (Break line) = record { like = like_plain _ _ (tt, (tt, tt)) (tt, tt); becomes = (refl, (refl, tt)) }
  statement_ages Return = steady (refl, (refl, tt))
  statement_ages (ReturnValue e) = then_ages (token_steady refl) (then_ages (condition_kept steady_walks e) (token_steady refl))
  statement_ages (Evaluate e) = then_ages (expression_kept steady_walks e) (token_steady refl)
  statement_ages Empty = token_steady refl

  body_ages : (body : Stmts) → Ages (walk_body body) (walk_body (old_body body))
  body_ages Nothing = steady tt
  body_ages (More before s) = then_ages (body_ages before) (statement_ages s)

same_open : (s : Stmt) → is_open (old_statement s) ≡ is_open s
same_open (Headed h s) = same_open s
same_open (IfElse e s other) = same_open other
same_open (While e s) = same_open s
same_open _ = refl

heading_stays : (h : Heading) → IsHeading h → IsHeading (old_heading h)
heading_stays (Default line) f = tt
heading_stays _ f = f

mutual
  old_binds : (s : Stmt) → StatementBinds s → StatementBinds (old_statement s)
  old_binds (Headed h s) b = (heading_stays h b.0, old_binds s b.1)
  old_binds (Compound body) b = old_body_binds body b
  old_binds (If e s) b = (b.0, old_binds s b.1)
  old_binds (IfElse e s other) b = (same_open s ∙ b.0, b.1, old_binds s b.2, old_binds other b.3)
  old_binds (While e s) b = (b.0, old_binds s b.1)
  old_binds (Switch e body) b = (b.0, old_body_binds body b.1)
  old_binds (Break line) b = tt
  old_binds _ b = b

  old_body_binds : (body : Stmts) → BodyBinds body → BodyBinds (old_body body)
  old_body_binds Nothing b = b
  old_body_binds (More before s) b = (old_body_binds before b.0, old_binds s b.1)

abbrev old_definition : Definition → Definition
old_definition (Function w parameters body) = Function w parameters (old_statement body)
old_definition d = d

definition_ages : (d : Definition) → Ages (walk_definition d) (walk_definition (old_definition d))
definition_ages (Simple w values) = then_ages (token_steady refl) (values_kept steady_walks values)
definition_ages (Vector w size values) = then_ages (token_steady refl) (then_ages (token_steady refl) (then_ages (size_kept steady_walks size) (then_ages (token_steady refl) (values_kept steady_walks values))))
definition_ages (Function w parameters body) =
    then_ages (token_steady refl) (then_ages (token_steady refl) (then_ages (parameters_kept steady_walks parameters) (then_ages (token_steady refl) (statement_ages body))))

definition_formed : (d : Definition) → IsFormed d → IsFormed (old_definition d)
definition_formed (Function w parameters body) f =
    let a = (statement_ages body).like in
    (old_binds body f.0, like_levels MAX_NESTING a f.1 f.2, like_offsets a f.2)
definition_formed (Simple w values) f = f
definition_formed (Vector w size values) f = f

all_become : (ds : List Definition) → Becomes (spell_all ds) (spell_all (map old_definition ds))
all_become [] = tt
all_become (d ∷ ds) = become_both (spell_definition d) (spell_definition (old_definition d)) (spell_all ds) (spell_all (map old_definition ds)) (definition_ages d).becomes (all_become ds)

all_formed : (ds : List Definition) → AllFormed ds → AllFormed (map old_definition ds)
all_formed [] f = tt
all_formed (d ∷ ds) f = (definition_formed d f.0, all_formed ds f.1)

pub begins_old : BeginsOld
begins_old tokens o b =
    let p = b.program in
    let spelled : map bare (spell_all (map old_definition p.definitions)) ≡ tokens ++ map old b.more = become_tokens (spell_all p.definitions) (spell_all (map old_definition p.definitions)) (all_become p.definitions) ∙ ap (map old) p.spelled ∙ map-append old tokens b.more ∙ ap (λ l. l ++ map old b.more) (all_stay tokens o) in
    (map old b.more, all_old b.more, record { definitions = map old_definition p.definitions; formed = all_formed p.definitions p.formed; spelled = spelled })

pub part_of_old : PartOfOld
part_of_old tokens t more d o f e =
    let spelled : map bare (spell_definition (old_definition d)) ≡ tokens ++ old t ∷ map old more = become_tokens (spell_definition d) (spell_definition (old_definition d)) (definition_ages d).becomes ∙ ap (map old) e ∙ map-append old tokens (t ∷ more) ∙ ap (λ l. l ++ old t ∷ map old more) (all_stay tokens o) in
    (old t, map old more, old_definition d, (old_is_old t, all_old more), definition_formed d f, spelled)

-- old tokens in two parts
old_front : (ps qs : List Placed) → AllOld (map bare (ps ++ qs)) → AllOld (map bare ps)
old_front [] qs h = tt
old_front (p ∷ ps) qs h = (h.0, old_front ps qs h.1)

old_back : (ps qs : List Placed) → AllOld (map bare (ps ++ qs)) → AllOld (map bare qs)
old_back [] qs h = h
old_back (p ∷ ps) qs h = old_back ps qs h.1

heading_old : (h : Heading) → AllOld (map bare (spell_heading h)) → IsOldHeading h
heading_old (Default line) o = let e = o.0 in cc
heading_old _ o = tt

mutual
  statement_old : (s : Stmt) → AllOld (map bare (spell_statement s)) → IsOld s
  statement_old (Headed h s) o = (heading_old h (old_front (spell_heading h) (spell_statement s) o), statement_old s (old_back (spell_heading h) (spell_statement s) o))
  statement_old (Compound body) o = body_old body (old_front (spell_body body) (_ ∷ []) o.1)
  statement_old (If e s) o = statement_old s (old_back (spell_condition e) (spell_statement s) o.1)
  statement_old (IfElse e s other) o =
      let both = old_back (spell_condition e) (spell_statement s ++ _ ∷ spell_statement other) o.1 in
      (statement_old s (old_front (spell_statement s) (_ ∷ spell_statement other) both), statement_old other (old_back (spell_statement s) (_ ∷ spell_statement other) both).1)
  statement_old (While e s) o = statement_old s (old_back (spell_condition e) (spell_statement s) o.1)
  statement_old (Switch e body) o =
      body_old body (old_front (spell_body body) (_ ∷ []) (old_back (spell e) (_ ∷ (spell_body body ++ _ ∷ [])) o.1).1)
  statement_old (Goto e) o = tt
  statement_old (Break line) o = let e = o.0 in cc
  statement_old Return o = tt
  statement_old _ o = tt

  body_old : (body : Stmts) → AllOld (map bare (spell_body body)) → IsOldBody body
  body_old Nothing o = tt
  body_old (More before s) o = (body_old before (old_front (spell_body before) (spell_statement s) o), statement_old s (old_back (spell_body before) (spell_statement s) o))

pub old_tokens_old_tree : OldTokensOldTree
old_tokens_old_tree (Simple w values) o = tt
old_tokens_old_tree (Vector w size values) o = tt
old_tokens_old_tree (Function w parameters body) o =
    statement_old body (old_back (list_spelling walk_parameter parameters) (_ ∷ spell_statement body) o.1.1).1
