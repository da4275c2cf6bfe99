-- What the events of a function count: its labels and parameters.
use Rattle.std.proofs.Common.{◌≡◌, ℕ, ◌≤◌, List, [], ◌∷◌, length, length-append, refl, ◌∙◌, arith}
use Rattle.std.specs.Prelude.{None, sum_by}
use Rattle.std.proofs.lemmas.List.Sums.{sum_by-append, sum_by-cons}
use Rattle.blang.specs.declared.token.Keyword.{Keyword}
use Rattle.blang.specs.Trees.{Identifier, Heading, Auto, Extrn, Label, Stmt}
use Rattle.blang.specs.Walk.{Event, AutoHere, LabelHere, Walk, Noted, Level, ◌▸◌, events_in, walk_commas, walk_list, walk_declared, walk_heading, walk_statement, walk_parameter, walk_function}
use Rattle.bgrammar.proofs.WalkForms.{NoLabel, NoLabels, KeptByWalks, expression_kept, list_kept, declared_kept, imports_kept, parameters_kept}
use Rattle.blang.specs.Scan.{function_events}
use Rattle.blang.specs.Code.{Environment, heading_targets, Segment, empty_segment, ◌▹◌, fragment}
use Rattle.bgrammar.proofs.RowLaws.{labels_in, arms_segment, KeptBySegments, by_segments}
use Rattle.bgrammar.proofs.CodeLaws.{Anything}
use Rattle.bgrammar.proofs.Scans.{label_in, declaration_in}

labels_are : (w : Walk) → sum_by label_in (events_in w) ≡ labels_in w
labels_are (Noted e) = omega (arith, sum_by-cons label_in e [])
labels_are (Level p w end) = omega (arith, sum_by-append label_in (events_in w) end, labels_are w)
labels_are (v ▸ w) = omega (arith, sum_by-append label_in (events_in v) (events_in w), labels_are v, labels_are w)
labels_are _ = refl

abbrev NoWord : Keyword → Type 0
NoWord k = ⊥

event_labels : (e : Event) → NoLabel e → label_in e ≡ 0
event_labels (LabelHere w) h = absurd h
event_labels _ h = refl

events_labels : (es : List Event) → NoLabels es → sum_by label_in es ≡ 0
events_labels [] h = refl
events_labels (e ∷ es) h = omega (arith, sum_by-cons label_in e es, event_labels e h.0, events_labels es h.1)

-- expressions and lists have no labels
no_labels : KeptByWalks NoWord (λ w. labels_in w ≡ 0)
no_labels = record {
  none = refl;
  said = λ p h. refl;
  text = λ t. refl;
  noted = event_labels;
  opens = λ p end h q x. omega (arith, x, events_labels end q);
  joins = λ x y. omega (arith, x, y);
}

module _ (names : Environment) where
  heading_labels : (h : Heading) (p : ℕ) → labels_in (walk_heading h) ≡ length (heading_targets h p).labels
  heading_labels (Auto declared) p = omega (arith, list_kept no_labels walk_declared (declared_kept no_labels) declared)
  heading_labels (Extrn ws) p = omega (arith, imports_kept no_labels ws)
  heading_labels (Label w) p = refl
  heading_labels _ p = refl

  -- a segment has as many labels as its walk
  record Labelled (w : Walk) (f : Segment) : Type 0 where
    at : (p : ℕ) → labels_in w ≡ length ((f p).targets.labels)

  labelled_then : {v w : Walk} {f g : Segment} → Labelled v f → Labelled w g → Labelled (v ▸ w) (f ▹ g)
  labelled_then {f = f} {g = g} x y = record {
    at = λ p. let q = (f p).end in omega (arith, length-append ((f p).targets.labels) ((g q).targets.labels), x.at p, y.at q);
  }

  labelled : KeptBySegments names names Anything Anything (λ w f g. Labelled w f)
  labelled = record {
    known = λ s. tt;
    none = record { at = λ p. refl };
    lone = λ i. record { at = λ p. refl };
    returns = record { at = λ p. refl };
    jumps = λ there m. record { at = λ p. refl };
    jumps_if_zero = λ there m. record { at = λ p. refl };
    leaves = record { at = λ p. refl };
    value = λ e. record { at = λ p. expression_kept no_labels e };
    heads = λ h. record { at = heading_labels h };
    quiet = λ q x. record { at = λ p. q ∙ x.at p };
    after = λ q x. record { at = λ p. omega (arith, q, x.at p) };
    before = λ q x. record { at = λ p. omega (arith, q, x.at p) };
    inside = λ q x. record { at = λ p. omega (arith, q, x.at p) };
    then_ = labelled_then;
    coded = λ x y. record { at = λ p. let h = (labelled_then x y).at p in omega (arith, h) };
    ended = λ x y. record { at = x.at };
    leads = λ there m x. record { at = x.at };
    whole = λ {w} {f} x k same. record { at = λ p. (x p ((f 0 0 p).end) tt tt).at p };
    halved = λ {w} {u} {f} {f2} {g} x y k l same. record { at = λ p. let middle = (f 0 0 empty_segment p).end in (x middle ((g middle).end) tt tt u g g y).at p };
    chosen = λ {w} {f} x k same. record {
      at = λ p. let a = f 0 0 empty_segment p in (x a.end ((arms_segment a a.end).end) tt tt (arms_segment a) (arms_segment a) (record { at = λ q. refl })).at p;
    };
  }

  pub function_labels : (parameters : List Identifier) (body : Stmt) → sum_by label_in (function_events parameters body) ≡ length ((fragment names body 0).targets.labels)
  function_labels parameters body = omega (arith, labels_are (walk_function parameters body), parameters_kept no_labels parameters, (by_segments labelled body).at 0)

-- parameters are declared
further_declared : (ws : List Identifier) → length ws ≤ sum_by declaration_in (events_in (walk_commas walk_parameter ws))
further_declared [] = omega arith
further_declared (w ∷ ws) = omega (arith, sum_by-cons declaration_in (AutoHere w None) (events_in (walk_commas walk_parameter ws)), further_declared ws)

list_declared : (ws : List Identifier) → length ws ≤ sum_by declaration_in (events_in (walk_list walk_parameter ws))
list_declared [] = omega arith
list_declared (w ∷ ws) = omega (arith, sum_by-cons declaration_in (AutoHere w None) (events_in (walk_commas walk_parameter ws)), further_declared ws)

pub parameters_declared : (ws : List Identifier) (body : Stmt) → length ws ≤ sum_by declaration_in (function_events ws body)
parameters_declared ws body = omega (arith, list_declared ws, sum_by-append declaration_in (events_in (walk_list walk_parameter ws)) (events_in (walk_statement body)))
