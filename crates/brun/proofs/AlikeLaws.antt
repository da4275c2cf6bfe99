-- Code texts of the same definitions run alike.
use Rattle.std.proofs.Common.{subst, ◌≡◌, ℕ, List, [], ◌∷◌, ◌++◌, refl, sym, ap, ◌∙◌, append_assoc}
use Rattle.std.specs.Prelude.{All}
use Rattle.std.specs.List.{flat_map}
use Rattle.std.proofs.lemmas.List.Elements.{All-nil, All-head}
use Rattle.bword.specs.declared.edition.Edition.{Edition}
use Rattle.bword.specs.declared.edition.Edition.TheVariants as editions
use Rattle.bcode.specs.Faults.{HasHeader}
use Rattle.bcode.specs.Headers.{header_of, header_text}
use Rattle.blang.specs.Text.{joined, opening, code_lines, header_line, body_lines, definition_text, end_text, IsTextOf, IsWithinRanges}
use Rattle.blang.specs.declared.code.Definition.{Definition}
use Rattle.bcode.specs.declared.header.Header.TheVariants as header
use Rattle.bcode.proofs.BodyLaws.{text_header, not_end}
use Rattle.bcode.proofs.CodeLaws.{header_of-text, header_of-within}
use Rattle.bcode.proofs.FaultLaws.{code_spelled, unique_code}
use Rattle.bcode.proofs.HeaderLaws.{header_at-exact, end_within}
use Rattle.bcode.proofs.StoppingLaws.{same_spelling, no_header, same_after}
use Rattle.brun.specs.Migrates.{RunsAs}
use Rattle.brun.specs.Runs.{RunsDefinitions, unread, read, no_room}

-- the first line of a text of definitions, where there is one
record BeginsSo (text : List ℕ) : Type 0 where
  first : Definition
  inside : IsWithinRanges first
  following : List ℕ
  same : text ≡ header_text (header_of first) ++ following

begins_so : (known : List Definition) (next : Definition) (rest : List ℕ) → All IsWithinRanges known → IsWithinRanges next → BeginsSo (flat_map definition_text known ++ (header_line next ++ rest))
begins_so [] next rest known_in inside = record { first = next; inside = inside; following = rest; same = ap (λ l. l ++ rest) (sym (header_of-text next)) }
begins_so (k ∷ ks) next rest known_in inside =
    let others = flat_map definition_text ks ++ (header_line next ++ rest) in
    record {
      first = k;
      inside = All-head IsWithinRanges k ks known_in;
      following = joined (body_lines k) ++ others;
      same = append_assoc (definition_text k) (flat_map definition_text ks) (header_line next ++ rest) ∙ text_header k others;
    }

-- the last line begins no definition
end_alone : BeginsSo end_text → ⊥
end_alone b = not_end b.first (sym (same_spelling header_at-exact header.End (header_of b.first) [] b.following end_within (header_of-within b.first b.inside) b.same).0)

other_begins : {text other : List ℕ} → text ≡ other → BeginsSo other → BeginsSo text
other_begins e b = record { first = b.first; inside = b.inside; following = b.following; same = e ∙ b.same }

-- a text without definitions has no first line of one
no_header_alone : (e f : Edition) (text : List ℕ) → opening e ++ end_text ≡ opening f ++ text → BeginsSo text → ⊥
no_header_alone editions.One editions.One text same b = end_alone (other_begins same b)
no_header_alone editions.One editions.Two text same b = cc
no_header_alone editions.Two editions.One text same b = no_header (header_of b.first) end_text b.following (same ∙ b.same)
no_header_alone editions.Two editions.Two text same b = end_alone (other_begins (same_after end_text text same) b)

header_alone : (e : Edition) (text : List ℕ) → IsTextOf e text [] → HasHeader text → ⊥
header_alone e text is h =
    no_header_alone e h.edition (flat_map definition_text h.definitions ++ (header_line h.next ++ h.rest)) (empty e ∙ sym is.spelled ∙ h.same)
    (begins_so h.definitions h.next h.rest h.within h.next_within)
  where
    empty : (e : Edition) → opening e ++ end_text ≡ joined (code_lines e [])
    empty editions.One = refl
    empty editions.Two = refl

has_header : (f : Edition) (other : List ℕ) (ds : List Definition) → IsTextOf f other ds → (ds ≡ [] → ⊥) → HasHeader other
has_header f other [] is some = absurd (some refl)
has_header f other (d ∷ ds) is some =
    let others = flat_map definition_text ds ++ end_text in
    record {
      edition = f;
      definitions = [];
      next = d;
      within = All-nil IsWithinRanges;
      next_within = All-head IsWithinRanges d ds is.within;
      rest = joined (body_lines d) ++ others;
      same = is.spelled ∙ code_spelled f (d ∷ ds) ∙ append_assoc (opening f) (flat_map definition_text (d ∷ ds)) end_text
          ∙ ap (λ l. opening f ++ l) (append_assoc (definition_text d) (flat_map definition_text ds) end_text ∙ append_assoc (header_line d) (joined (body_lines d)) others);
    }

pub runs_as : (e f : Edition) (text other : List ℕ) (ds : List Definition) → IsTextOf e text ds → IsTextOf f other ds → RunsAs text other
runs_as e f text other ds one two steps ends status (unread n fault no_text quiet line) = absurd (no_text ds (e, one))
runs_as e f text other ds one two steps ends status (read es is runs) =
    read ds (f, two) (subst (λ l. RunsDefinitions steps l ends status) (unique_code text es ds is (e, one)) runs)
runs_as e f text other ds one two steps ends status (no_room header quiet line answer) =
    no_room (has_header f other ds two (λ none. header_alone e text (subst (λ l. IsTextOf e text l) none one) header)) quiet line answer
