-- Programs stand for tokens in one way, and have one way of parts.
use Rattle.std.proofs.Common.{◌≡◌, List, [], ◌∷◌, ◌++◌, map, length, sym, ap, ◌∙◌, refl, arith}
use Rattle.blang.specs.Cut.{tokens_from}
use Rattle.blang.specs.Trees.{bare, Definition}
use Rattle.blang.specs.Walk.{spell_definition, spell_all}
use Rattle.bgrammar.specs.Reading.{Got}
use Rattle.blang.specs.WellFormed.{AllFormed}
use Rattle.blang.specs.declared.limits.TheConstants.{MAX_NESTING}
use Rattle.bgrammar.specs.DefinitionReader.{definition}
use Rattle.bgrammar.specs.Levels.{AllFormedIn}
use Rattle.bgrammar.specs.ProgramRules.{OneProgram, FormedWithin, HasParts, OneWay}
use Rattle.bgrammar.proofs.Fitting.{formed_in, in_formed}
use Rattle.bgrammar.proofs.KeptLemmas.{Order, together, sooner, later, order}
use Rattle.bgrammar.proofs.ProgramLaws.{read_first, stops_begins}
use Rattle.bgrammar.proofs.LawProofs.{begins_with_name}
use Rattle.bgrammar.proofs.Outcomes.{parted_once, no_further}
use Rattle.bgrammar.proofs.GoesLaws.{parted_some, tokens_from-ended}

-- a definition's spelling isn't empty
some_spelling : (d : Definition) (ds : List Definition) → spell_all (d ∷ ds) ≡ [] → ⊥
some_spelling d ds e = let name = begins_with_name d in let same : spell_definition d ++ spell_all ds ≡ _ ∷ (name.1 ++ spell_all ds) = ap (λ l. l ++ spell_all ds) name.2 in cc

same_programs : (ds es : List Definition) → AllFormed ds → AllFormed es → spell_all ds ≡ spell_all es → ds ≡ es
same_programs [] [] f g h = refl
same_programs [] (e ∷ es) f g h = absurd (some_spelling e es (sym h))
same_programs (d ∷ ds) [] f g h = absurd (some_spelling d ds h)
same_programs (d ∷ ds) (e ∷ es) f g h =
    let both : Got d (spell_all ds) ≡ Got e (spell_all es) = sym (read_first d ds f) ∙ ap definition h ∙ read_first e es g in
    let one : d ≡ e = cc in
    let rest : spell_all ds ≡ spell_all es = cc in
    ap (λ x. x ∷ ds) one ∙ ap (λ l. e ∷ l) (same_programs ds es f.1 g.1 rest)

pub one_program : OneProgram
one_program ds es tokens p q = same_programs ds es p.formed q.formed (p.spelled ∙ sym q.spelled)

all_formed_in : (ds : List Definition) → AllFormed ds → AllFormedIn MAX_NESTING ds
all_formed_in [] f = tt
all_formed_in (d ∷ ds) f = (formed_in d f.0, all_formed_in ds f.1)

all_in_formed : (ds : List Definition) → AllFormedIn MAX_NESTING ds → AllFormed ds
all_in_formed [] f = tt
all_in_formed (d ∷ ds) f = (in_formed d f.0, all_in_formed ds f.1)

pub formed_within : FormedWithin
formed_within ds = (all_formed_in ds, all_in_formed ds)

pub has_parts : HasParts
has_parts edition line bytes =
    let tokens = tokens_from edition line bytes in
    let p = parted_some (length tokens) tokens (omega arith) (tokens_from-ended edition line bytes) in
    (p.definitions, p.stop, p.parted)

pub one_way : OneWay
one_way tokens ds es s t p q = go (order p.before p.at p.following q.before q.at q.following (sym p.split ∙ q.split))
  where
    go : Order p.before p.at p.following q.before q.at q.following → (p.before ≡ q.before) × (p.at ≡ q.at) × (ds ≡ es) × (s ≡ t)
    go (sooner c e) = absurd (no_further p.before p.at s p.stops c q.before e (stops_begins (map bare q.before) q.at t q.stops))
    go (later c e) = absurd (no_further q.before q.at t q.stops c p.before e (stops_begins (map bare p.before) p.at s p.stops))
    go (together e f g) = let one = parted_once tokens ds es s t p q in (e, f, one.0, one.1)
