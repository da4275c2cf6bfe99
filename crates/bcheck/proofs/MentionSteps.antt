-- The search for names that nothing defines, one name after another.
use Rattle.std.proofs.Common.{◌≡◌, ◌∙◌, ◌+◌, ℕ, List, [], ◌∷◌, ◌++◌, Bool, true, false, cond, if◌then◌else◌, Option, Some, None, ap, append-nil, append_assoc, drop, length, map, refl, sym, ◌<◌, ◌≤◌, suc, get_or, subst, take}
use Rattle.std.specs.Prelude.{filter, is_none, is_some, not, zip, ◌&&◌, ◌||◌}
use Rattle.std.specs.Bool.{OnTrue}
use Rattle.std.specs.Cmp.Lexicographic.{bytes_decides}
use Rattle.std.specs.List.{list_any, AllZip}
use Rattle.std.specs.Option.{option_or}
use Rattle.std.proofs.lemmas.List.{length-map, drop_all, take-map}
use Rattle.std.proofs.lemmas.List.Folds.{list_any-append}
use Rattle.bword.specs.Words.{same_name}
use Rattle.bnames.specs.NameTables.{KnowsOneMore, value_in, with_name}
use Rattle.bnames.proofs.NameMembers.{is_some-value_of, members_more}
use Rattle.blang.specs.declared.code.Definition.{Definition}
use Rattle.blang.specs.Layout.{Shape, Spot, address_in, defined_names, library_addresses, shape_of, spots, names_in}
use Rattle.bmach.proofs.Lookups.{is_some-lookup-zip, lookup-append}
use Rattle.bmach.proofs.Spots.{length-spots_after}
use Rattle.bcheck.specs.Mentions.{IsOneMore, Knows, Meets, is_in, subjects}
use Rattle.bcheck.specs.UndefinedNames.{first_mentions, is_undefined, heading_of, subject_of, told_after, told_of, told_subjects}
use Rattle.std.proofs.Math.Numerals.{add-one}
use Rattle.std.proofs.Math.Seq.{drop-cons}
use Rattle.bmach.proofs.Undefined.{map_more}
use Rattle.bcheck.specs.Findings.{TellsOf}
use Rattle.bcheck.specs.declared.finding.Finding.{Finding}
use Rattle.bcheck.specs.declared.mention.Mention.{Mention}
use Rattle.bcheck.proofs.AddedFindings.{zip_more}

or_false : (b : Bool) → (b || false) ≡ b
or_false true = refl
or_false false = refl

or_true : (b : Bool) → (b || true) ≡ true
or_true true = refl
or_true false = refl

or_assoc : (a b c : Bool) → ((a || b) || c) ≡ (a || (b || c))
or_assoc true b c = refl
or_assoc false b c = refl

none_is_not : {A : Type 0} (o : Option A) → is_none o ≡ not (is_some o)
none_is_not None = refl
none_is_not (Some a) = refl

not_not : (a b : Bool) → a ≡ not b → b ≡ not a
not_not true true e = cc
not_not true false e = refl
not_not false true e = refl
not_not false false e = cc

-- a name that is put in is new where the table hasn't it
pub put_new : (b : Bool) (old : List (List ℕ × ℕ)) (x : List ℕ) → b ≡ is_none (value_in x old) → b ≡ not (is_in old x)
put_new b old x is = is ∙ none_is_not (value_in x old) ∙ ap not (is_some-value_of x old)

-- the table has a name, and those that it had
again : (table : List (List ℕ × ℕ)) (x y : List ℕ) → is_in table x ≡ true → (b : Bool) → same_name y x ≡ b → is_in table y ≡ (is_in table y || b)
again table x y has true e =
    let there : is_in table y ≡ true = ap (is_in table) ((bytes_decides y x).0 e) ∙ has in
    there ∙ sym (or_true (is_in table y))
again table x y has false e = sym (or_false (is_in table y))

pub put_more : (b : Bool) (old new : List (List ℕ × ℕ)) (x : List ℕ) → b ≡ is_none (value_in x old) → new ≡ (if b then with_name old x 0 else old) → OnTrue b (KnowsOneMore old x 0 new) → IsOneMore old x new
put_more true old new x there is more = λ y. members_more old new x 0 more y ∙ ap (λ b. is_in old y || b) (or_false (same_name y x))
put_more false old new x there is more =
    λ y. ap (λ t. is_in t y) is ∙ again old x y (not_not false (is_in old x) (put_new false old x there)) (same_name y x) refl

abbrev pub HasDefined : List Definition → (table : List (List ℕ × ℕ)) → Type 0
HasDefined ds table = (x : List ℕ) → is_in table x ≡ list_any (same_name x) (defined_names (map shape_of ds))

-- a name is undefined that is neither of the definitions nor of the library
none_of_two : (a b : Option ℕ) → is_none (option_or a b) ≡ (not (is_some a) && not (is_some b))
none_of_two (Some x) b = refl
none_of_two None b = none_is_not b

undefined_is : (ds : List Definition) (x : List ℕ) → is_undefined ds x ≡ (not (list_any (same_name x) (defined_names (map shape_of ds))) && not (is_some (address_in library_addresses x)))
undefined_is ds x =
    let shapes = map shape_of ds in
    let places = map (λ (s : Spot). s.address) (spots shapes) in
    let long : length (defined_names shapes) ≡ length places =
    length-map shapes (λ (s : Shape). s.name) ∙ sym (length-spots_after [] shapes) ∙ sym (length-map (spots shapes) (λ (s : Spot). s.address)) in
    ap is_none (lookup-append (same_name x) (zip (defined_names shapes) places) library_addresses)
    ∙ none_of_two (address_in (zip (defined_names shapes) places) x) (address_in library_addresses x)
    ∙ ap (λ b. not b && not (is_some (address_in library_addresses x))) (is_some-lookup-zip (same_name x) (defined_names shapes) places long)

-- the names of a search after the first ones
module _ (ds : List Definition) (before : List (List ℕ)) where
  abbrev pub later : (names mentioned : List (List ℕ)) → List (List ℕ)
  later names mentioned = first_mentions (before ++ names) (filter (is_undefined ds) mentioned)

  abbrev pub MeetsSoFar : (mentioned : List (List ℕ)) → (i : ℕ) → (names : List (List ℕ)) → (table : List (List ℕ × ℕ)) → Type 0
  MeetsSoFar mentioned i names table =
      (first_mentions before (filter (is_undefined ds) mentioned) ≡ names ++ later names (drop i mentioned)) × Knows ds (before ++ names) table

  passed_defined : (b : Bool) (known : List (List ℕ)) (x : List ℕ) (rest : List (List ℕ)) → b ≡ false → first_mentions known (cond b (x ∷ rest) rest) ≡ first_mentions known rest
  passed_defined true known x rest e = cc
  passed_defined false known x rest e = refl

  passed_known : (b : Bool) (known : List (List ℕ)) (x : List ℕ) (rest : List (List ℕ)) → list_any (same_name x) known ≡ true → first_mentions known (cond b (x ∷ rest) rest) ≡ first_mentions known rest
  passed_known true known x rest e = ap (λ b. cond b (first_mentions known rest) (x ∷ first_mentions (known ++ x ∷ []) rest)) e
  passed_known false known x rest e = refl

  met : (b : Bool) (known : List (List ℕ)) (x : List ℕ) (rest : List (List ℕ)) → b ≡ true → list_any (same_name x) known ≡ false → first_mentions known (cond b (x ∷ rest) rest) ≡ x ∷ first_mentions (known ++ x ∷ []) rest
  met true known x rest e new = ap (λ b. cond b (first_mentions known rest) (x ∷ first_mentions (known ++ x ∷ []) rest)) new
  met false known x rest e new = cc

  -- a name of the library
  pub passes_library : (mentioned : List (List ℕ)) (i : ℕ) (x : List ℕ) (rest names : List (List ℕ)) (table : List (List ℕ × ℕ)) → drop i mentioned ≡ x ∷ rest → drop (i + 1) mentioned ≡ rest → is_some (address_in library_addresses x) ≡ true
      → MeetsSoFar mentioned i names table → MeetsSoFar mentioned (i + 1) names table
  passes_library mentioned i x rest names table here next known so =
      let fine : is_undefined ds x ≡ false = undefined_is ds x ∙ ap (λ b. not (list_any (same_name x) (defined_names (map shape_of ds))) && not b) known ∙ and_false (not (list_any (same_name x) (defined_names (map shape_of ds)))) in
      (so.0 ∙ ap (λ ms. names ++ later names ms) here ∙ ap (λ ns. names ++ ns) (passed_defined (is_undefined ds x) (before ++ names) x (filter (is_undefined ds) rest) fine) ∙ ap (λ ms. names ++ later names ms) (sym next), so.1)
    where
      and_false : (b : Bool) → (b && false) ≡ false
      and_false true = refl
      and_false false = refl

  -- a name that is known
  pub passes_known : (mentioned : List (List ℕ)) (i : ℕ) (x : List ℕ) (rest names : List (List ℕ)) (old new : List (List ℕ × ℕ)) → drop i mentioned ≡ x ∷ rest → drop (i + 1) mentioned ≡ rest → false ≡ not (is_in old x) → IsOneMore old x new
      → MeetsSoFar mentioned i names old → MeetsSoFar mentioned (i + 1) names new
  passes_known mentioned i x rest names old new here next there more so =
      let has : is_in old x ≡ true = not_not false (is_in old x) there in
      (so.0 ∙ ap (λ ms. names ++ later names ms) here ∙ ap (λ ns. names ++ ns) (go (list_any (same_name x) (defined_names (map shape_of ds))) refl (sym has ∙ so.1 x)) ∙ ap (λ ms. names ++ later names ms) (sym next), λ y. more y ∙ sym (again old x y has (same_name y x) refl) ∙ so.1 y)
    where
      go : (b : Bool) → list_any (same_name x) (defined_names (map shape_of ds)) ≡ b → true ≡ (list_any (same_name x) (defined_names (map shape_of ds)) || list_any (same_name x) (before ++ names)) → later names (x ∷ rest) ≡ later names rest
      go true is e = passed_defined (is_undefined ds x) (before ++ names) x (filter (is_undefined ds) rest) (undefined_is ds x ∙ ap (λ b. not b && not (is_some (address_in library_addresses x))) is)
      go false is e = passed_known (is_undefined ds x) (before ++ names) x (filter (is_undefined ds) rest) (sym (e ∙ ap (λ b. b || list_any (same_name x) (before ++ names)) is))

  -- a new one
  pub meets_new : (mentioned : List (List ℕ)) (i : ℕ) (x : List ℕ) (rest names : List (List ℕ)) (old new : List (List ℕ × ℕ)) → drop i mentioned ≡ x ∷ rest → drop (i + 1) mentioned ≡ rest → is_some (address_in library_addresses x) ≡ false → true ≡ not (is_in old x) → IsOneMore old x new
      → MeetsSoFar mentioned i names old → MeetsSoFar mentioned (i + 1) (names ++ x ∷ []) new
  meets_new mentioned i x rest names old new here next known there more so =
      let has : is_in old x ≡ false = not_not true (is_in old x) there in
      let neither : false ≡ (list_any (same_name x) (defined_names (map shape_of ds)) || list_any (same_name x) (before ++ names)) = sym has ∙ so.1 x in
      let either = none_of_both _ _ neither in
      let wrong : is_undefined ds x ≡ true = undefined_is ds x ∙ ap (λ b. not b && not (is_some (address_in library_addresses x))) either.0 ∙ ap not known in
      let found : later names (x ∷ rest) ≡ x ∷ first_mentions ((before ++ names) ++ x ∷ []) (filter (is_undefined ds) rest) =
      met (is_undefined ds x) (before ++ names) x (filter (is_undefined ds) rest) wrong either.1 in (
        so.0 ∙ ap (λ ms. names ++ later names ms) here ∙ ap (λ ns. names ++ ns) (found ∙ ap (λ ns. x ∷ first_mentions ns (filter (is_undefined ds) rest)) (append_assoc before names (x ∷ [])))
            ∙ sym (append_assoc names (x ∷ []) (later (names ++ x ∷ []) rest)) ∙ ap (λ ms. (names ++ x ∷ []) ++ later (names ++ x ∷ []) ms) (sym next),
        λ y. more y ∙ ap (λ b. b || same_name y x) (so.1 y) ∙ or_assoc (list_any (same_name y) (defined_names (map shape_of ds))) (list_any (same_name y) (before ++ names)) (same_name y x)
            ∙ ap (λ b. list_any (same_name y) (defined_names (map shape_of ds)) || b) (ap (λ b. list_any (same_name y) (before ++ names) || b) (sym (or_false (same_name y x))) ∙ sym (list_any-append (same_name y) (before ++ names) (x ∷ [])) ∙ ap (list_any (same_name y)) (append_assoc before names (x ∷ []))),
      )
    where
      none_of_both : (a b : Bool) → false ≡ (a || b) → (a ≡ false) × (b ≡ false)
      none_of_both true b e = cc
      none_of_both false b e = (refl, sym e)

  -- all of them
  pub all_met : (mentioned : List (List ℕ)) (i : ℕ) (names : List (List ℕ)) (table : List (List ℕ × ℕ)) → drop i mentioned ≡ [] → MeetsSoFar mentioned i names table → Meets ds before mentioned names table
  all_met mentioned i names table over so =
      (sym (so.0 ∙ ap (λ ms. names ++ later names ms) over ∙ append-nil names), so.1)

-- The loops of the search for names that nothing defines.

-- what a loop has left
pub here : {A : Type 0} (xs : List A) (i : ℕ) (x : A) → i < length xs → x ≡ get_or xs i x → drop i xs ≡ x ∷ drop (i + 1) xs
here xs i x lt is = drop-cons xs i x lt ∙ ap (λ y. y ∷ drop (suc i) xs) (sym is) ∙ ap (λ n. x ∷ drop n xs) (sym (add-one i))

-- one definition more, and all of them
module _ (ds : List Definition) where
  abbrev pub FoundSoFar : (i : ℕ) → (found : List Mention) → (table : List (List ℕ × ℕ)) → Type 0
  FoundSoFar i found table =
      (seen : List (List ℕ)) × Knows ds seen table × (told_after (is_undefined ds) [] ds ≡ subjects found ++ told_after (is_undefined ds) seen (drop i ds))

  pub found_more : (i : ℕ) (d : Definition) (names : List (List ℕ)) (old new : List Mention) (before after : List (List ℕ × ℕ)) → i < length ds → d ≡ get_or ds i d
      → ((seen : List (List ℕ)) → Knows ds seen before → Meets ds seen (names_in d) names after)
      → subjects new ≡ subjects old ++ map (subject_of (heading_of d) (shape_of d).name) (told_of (heading_of d) names)
      → FoundSoFar i old before → FoundSoFar (i + 1) new after
  found_more i d names old new before after lt is meets pushed so =
      let u = is_undefined ds in
      let seen = so.0 in
      let met = meets seen so.1 in
      let rest = drop (i + 1) ds in
      let told = map (subject_of (heading_of d) (shape_of d).name) (told_of (heading_of d) names) in (
        seen ++ names,
        met.1,
        so.2 ∙ ap (λ left. subjects old ++ told_after u seen left) (here ds i d lt is)
            ∙ ap (λ ns. subjects old ++ (map (subject_of (heading_of d) (shape_of d).name) (told_of (heading_of d) ns) ++ told_after u (seen ++ ns) rest)) (sym met.0)
            ∙ sym (append_assoc (subjects old) told (told_after u (seen ++ names) rest)) ∙ ap (λ ss. ss ++ told_after u (seen ++ names) rest) (sym pushed),
      )

  pub none_found : (table : List (List ℕ × ℕ)) → Knows ds [] table → FoundSoFar 0 [] table
  none_found table knows = ([], knows, refl)

  pub all_found : (i : ℕ) (found cut : List Mention) (table : List (List ℕ × ℕ)) → length ds ≤ i → cut ≡ take 100 found → FoundSoFar i found table → subjects cut ≡ told_subjects ds
  all_found i found cut table over is so =
      let u = is_undefined ds in
      let all : told_after u [] ds ≡ subjects found = so.2 ∙ ap (λ left. subjects found ++ told_after u so.0 left) (drop_all i ds over) ∙ append-nil (subjects found) in
      ap subjects is ∙ sym (take-map (λ (m : Mention). m.subject) 100 found) ∙ ap (take 100) (sym all)

-- one finding more
pub told_more : (source : List ℕ) (mentions : List Mention) (i : ℕ) (m : Mention) (old new : List Finding) (f : Finding) → i < length mentions → m ≡ get_or mentions i m → new ≡ old ++ f ∷ [] → TellsOf source m.subject f → AllZip (TellsOf source) (subjects (take i mentions)) old → AllZip (TellsOf source) (subjects (take (i + 1) mentions)) new
told_more source mentions i m old new f lt is pushed on so =
    subst (λ fs. AllZip (TellsOf source) (subjects (take (i + 1) mentions)) fs) (sym pushed)
    (subst (λ ss. AllZip (TellsOf source) ss (old ++ f ∷ [])) (sym (map_more (λ (n : Mention). n.subject) mentions i m lt is)) (zip_more (TellsOf source) (subjects (take i mentions)) old m.subject f so on))
