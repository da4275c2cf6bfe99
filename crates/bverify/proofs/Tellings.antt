-- What is told of definitions, one after another, and that code of which nothing is told that can be stuck never is.
use Rattle.std.proofs.Common.{◌≡◌, ℕ, zero, suc, ◌+◌, ◌<◌, ◌≤◌, List, [], ◌∷◌, ◌++◌, length, get_or, drop, take, Bool, true, false, refl, sym, ap, ◌∙◌, subst, arith, add-one, drop-cons, append_assoc}
use Rattle.std.specs.Prelude.{◌||◌, All, None}
use Rattle.std.proofs.lemmas.List.Elements.{All-nil, All-cons}
use Rattle.std.proofs.lemmas.List.{append-nil}
use Rattle.btools.specs.Origins.{Origin, Source, Code, ProgramOf}
use Rattle.blang.specs.Machine.{Image}
use Rattle.blang.specs.Lines.{size_of}
use Rattle.blang.specs.Layout.{load_fault}
use Rattle.blang.specs.declared.code.Definition.{Definition}
use Rattle.blang.specs.declared.code.Definition.TheVariants as definition
use Rattle.bverify.specs.Flaws.{some_can_be_stuck}
use Rattle.bverify.specs.Stands.{HasDepths, IsNeverStuck}
use Rattle.bverify.specs.Verifies.{AreFlawsOf, IsChecked, AreChecked, with_flaws, told_from, nothing_told, TellsOf}
use Rattle.bverify.specs.declared.flaws.PlacedFlaw.{PlacedFlaw}
use Rattle.bverify.specs.declared.verifying.Telling.{Telling}
use Rattle.bverify.proofs.Standing.{never_stuck}
use Rattle.bverify.proofs.FlawLists.{neither}

-- Whatever is told of the rest, all is told of the whole.
abbrev pub TellsOn : List Definition → (lines : List ℕ) → Telling → (rest : List Definition) → (left : List ℕ) → Type 0
TellsOn ds lines now rest left =
    (later : List (List PlacedFlaw)) → AreChecked rest later
    → (flaws : List (List PlacedFlaw)) × AreChecked ds flaws × (told_from now rest left later ≡ told_from nothing_told ds lines flaws)

pub tells_first : (ds : List Definition) (lines : List ℕ) → TellsOn ds lines nothing_told ds lines
tells_first ds lines later all = (later, all, refl)

tells_last : (ds : List Definition) (lines : List ℕ) (now : Telling) (left : List ℕ) → TellsOn ds lines now [] left → TellsOf ds lines now
tells_last ds lines now left h = h [] tt

one_told : (ds : List Definition) (lines : List ℕ) (now new : Telling) (left : List ℕ) (all : List Definition) (i : ℕ) (d : Definition) → i < length all → d ≡ get_or all i d
    → TellsOn ds lines now (drop i all) left → (flaws : List PlacedFlaw) × IsChecked d flaws × (new ≡ with_flaws now d (take (size_of d) left) flaws) → TellsOn ds lines new (drop (i + 1) all) (drop (size_of d) left)
one_told ds lines now new left all i d lt is h one later each =
    let first : drop i all ≡ d ∷ drop (i + 1) all =
    drop-cons all i d lt ∙ ap (λ x. x ∷ drop (suc i) all) (sym is) ∙ ap (λ j. d ∷ drop j all) (sym (add-one i)) in
    let g = subst (λ l. TellsOn ds lines now l left) first h in
    let r = g (one.0 ∷ later) (one.1, each) in
    (r.0, r.1, ap (λ t. told_from t (drop (i + 1) all) (drop (size_of d) left) later) one.2 ∙ r.2)

pub tells_on : (ds : List Definition) (lines : List ℕ) (now new : Telling) (left own rest : List ℕ) (all : List Definition) (i : ℕ) (d : Definition) → i < length all → d ≡ get_or all i d → own ≡ take (size_of d) left → rest ≡ drop (size_of d) left
    → TellsOn ds lines now (drop i all) left → (flaws : List PlacedFlaw) × IsChecked d flaws × (new ≡ with_flaws now d own flaws) → TellsOn ds lines new (drop (i + 1) all) rest
tells_on ds lines now new left own rest all i d lt is mine others h one =
    subst (TellsOn ds lines new (drop (i + 1) all)) (sym others)
    (one_told ds lines now new left all i d lt is h (subst (λ l. (flaws : List PlacedFlaw) × IsChecked d flaws × (new ≡ with_flaws now d l flaws)) mine one))

no_more : (all : List Definition) (i : ℕ) → length all ≤ i → drop i all ≡ []
no_more [] zero le = refl
no_more [] (suc i) le = refl
no_more (d ∷ ds) zero le = absurd (omega (arith, le))
no_more (d ∷ ds) (suc i) le = no_more ds i (omega (arith, le))

pub tells_all : (ds : List Definition) (lines : List ℕ) (now : Telling) (left : List ℕ) (i : ℕ) → length ds ≤ i → TellsOn ds lines now (drop i ds) left → TellsOf ds lines now
tells_all ds lines now left i le h = tells_last ds lines now left (subst (λ l. TellsOn ds lines now l left) (no_more ds i le) h)

or_false : (b : Bool) → b ≡ (b || false)
or_false true = refl
or_false false = refl

-- Nothing is told of a definition without flaws.
pub none_told : (t : Telling) (d : Definition) (lines : List ℕ) → t ≡ with_flaws t d lines []
none_told t d lines =
    ap (λ x. record { text = x; can_be_stuck = Telling.can_be_stuck t }) (sym (append-nil (Telling.text t)))
    ∙ ap (λ b. record { text = Telling.text t ++ []; can_be_stuck = b }) (or_false (Telling.can_be_stuck t))

pub same_telling : (s t : Telling) → Telling.text s ≡ Telling.text t → Telling.can_be_stuck s ≡ Telling.can_be_stuck t → s ≡ t
same_telling s t text stuck =
    let first : s ≡ record { text = Telling.text t; can_be_stuck = Telling.can_be_stuck s } =
    ap (λ x. record { text = x; can_be_stuck = Telling.can_be_stuck s }) text in
    first ∙ ap (λ b. record { text = Telling.text t; can_be_stuck = b }) stuck

pub program_loads : (origin : Origin) (source : List ℕ) (ds : List Definition) (image : Image) → ProgramOf origin source ds image → load_fault ds ≡ None
program_loads (Source edition) source ds image h = h.loads
program_loads (Code c) source ds image h = h.loads

has_depths : (d : Definition) (flaws : List PlacedFlaw) → IsChecked d flaws → some_can_be_stuck flaws ≡ false → HasDepths d
has_depths (definition.Function f) flaws is none = (AreFlawsOf.depths is, AreFlawsOf.fits is none)
has_depths (definition.Simple x) flaws is none = tt
has_depths (definition.Vector v) flaws is none = tt

all_have : (t : Telling) (ds : List Definition) (lines : List ℕ) (flaws : List (List PlacedFlaw)) → AreChecked ds flaws → Telling.can_be_stuck (told_from t ds lines flaws) ≡ false → (Telling.can_be_stuck t ≡ false) × All HasDepths ds
all_have t [] lines [] all none = (none, All-nil HasDepths)
all_have t [] lines (f ∷ fs) all none = absurd all
all_have t (d ∷ ds) lines [] all none = absurd all
all_have t (d ∷ ds) lines (f ∷ fs) all none =
    let r = all_have (with_flaws t d (take (size_of d) lines) f) ds (drop (size_of d) lines) fs all.1 none in
    let s = neither (Telling.can_be_stuck t) (some_can_be_stuck f) r.0 in
    (s.0, All-cons HasDepths d ds (has_depths d f all.0 s.1) r.1)

pub told_never_stuck : (ds : List Definition) (lines : List ℕ) (t : Telling) → load_fault ds ≡ None → TellsOf ds lines t → Telling.can_be_stuck t ≡ false → IsNeverStuck ds
told_never_stuck ds lines t loads h none =
    never_stuck ds loads (all_have nothing_told ds lines h.0 h.1 (ap (λ v. Telling.can_be_stuck v) (sym h.2) ∙ none)).1

-- two texts are added
pub two_texts : (t t' t'' a b : List ℕ) → t' ≡ t ++ a → t'' ≡ t' ++ b → t'' ≡ t ++ (a ++ b)
two_texts t t' t'' a b one other = other ∙ ap (λ l. l ++ b) one ∙ append_assoc t a b
