-- Code texts as paths of lines, and that a code text is that of one list of definitions.
use Rattle.std.proofs.Common.{subst, ◌≡◌, ℕ, zero, suc, ◌+◌, ◌<◌, ◌≤◌, true, List, [], ◌∷◌, ◌++◌, length, map, replicate, refl, sym, ap, ◌∙◌, arith, append_assoc, append-nil, ◌⊎◌, inl, inr}
use Rattle.std.specs.Prelude.{All, IsTrue}
use Rattle.std.specs.List.{flat_map}
use Rattle.std.proofs.lemmas.List.Elements.{All-nil, All-cons, All-head, All-tail}
use Rattle.std.proofs.lemmas.Bool.Decides.{nat_tests}
use Rattle.bword.specs.Words.{is_name}
use Rattle.bword.specs.declared.edition.Edition.{Edition}
use Rattle.bword.specs.declared.edition.Edition.TheVariants as editions
use Rattle.blang.specs.CodeParts.{Function, Simple, Vector, IsWord, IsInstrWithin, IsIvalWithin, IsFunctionWithinRanges, IsSimpleWithinRanges, IsVectorWithinRanges, sizes_of}
use Rattle.bcode.specs.Headers.{header_of, header_text, function_fits, simple_fits, vector_fits, IsHeaderWithin}
use Rattle.bcode.specs.Stopping.{LineKind, value, target, string, instruction, IsOfKind, LineState, opens, expects, finished, state_after, Leads, IsStuckAfter}
use Rattle.blang.specs.Text.{end_text, header_line, body_lines, lines_of, edition_line, ended_lines, code_lines, target_line, string_line, ival_line, instr_line, IsWithinRanges}
use Rattle.blang.specs.declared.limits.TheConstants.{MAX_INSTRUCTIONS, MAX_LABELS, MAX_PARAMETERS, MAX_STRING_WORDS, MAX_VALUES, MAX_WORDS}
use Rattle.blang.specs.declared.code.Definition.{Definition}
use Rattle.blang.specs.declared.code.Definition.TheVariants as definition
use Rattle.bcode.specs.declared.header.Header.{Header}
use Rattle.bcode.specs.declared.header.Header.TheVariants as header
use Rattle.blang.specs.declared.code.Sizes.{Sizes}
use Rattle.blang.specs.declared.code.Instr.{Instr}
use Rattle.blang.specs.declared.code.Ival.{Ival}
use Rattle.bcode.proofs.HeaderLaws.{end_within}
use Rattle.bcode.proofs.StoppingLaws.{Path}

pub header_of-text : (d : Definition) → header_text (header_of d) ≡ header_line d
header_of-text (definition.Function f) = refl
header_of-text (definition.Simple s) = refl
header_of-text (definition.Vector v) = refl

-- The numbers of a definition and those of its first line.
no_labels : (targets : List ℕ) (code : ℕ) → All (λ t. t < code) targets → (length targets ≡ 0) ⊎ (1 ≤ code)
no_labels [] code all = inl refl
no_labels (t ∷ ts) code all = inr (let first = All-head (λ n. n < code) t ts all in omega arith)

all_fit : (parameters : ℕ) (s : Sizes) → parameters ≤ MAX_PARAMETERS → parameters ≤ s.frame → s.frame ≤ MAX_WORDS → s.labels ≤ MAX_LABELS → s.strings ≤ MAX_STRING_WORDS
    → s.code ≤ MAX_INSTRUCTIONS → (s.labels ≡ 0) ⊎ (1 ≤ s.code) → function_fits parameters s ≡ true
all_fit parameters s few inside frame labels strings code (inl none) = grind (arith, nat_tests)
all_fit parameters s few inside frame labels strings code (inr some) = grind (arith, nat_tests)

both_fit : (values strings : ℕ) → values ≤ MAX_VALUES → strings ≤ MAX_STRING_WORDS → simple_fits values strings ≡ true
both_fit values strings v s = grind (arith, nat_tests)

words_fit : (words values strings : ℕ) → 1 ≤ words → words ≤ MAX_WORDS → values ≤ words → values ≤ MAX_VALUES → strings ≤ MAX_STRING_WORDS → vector_fits words values strings ≡ true
words_fit words values strings some few inside v s = grind (arith, nat_tests)

pub header_of-within : (d : Definition) → IsWithinRanges d → IsHeaderWithin (header_of d)
header_of-within (definition.Function f) h = record {
  named = h.named;
  fits = all_fit f.parameters (sizes_of f) h.few_parameters h.parameters_in_frame h.frame h.few_labels h.few_strings h.few_instrs (no_labels f.targets (length f.code) h.targets);
}
header_of-within (definition.Simple s) h = record { named = h.named; fits = both_fit (length s.values) (length s.strings) h.few_values h.few_strings }
header_of-within (definition.Vector v) h = record {
  named = h.named;
  fits = words_fit v.words (length v.values) (length v.strings) h.some_word h.few_words h.values_in_words h.few_values h.few_strings;
}

-- The numbers of a first line that fit are those of a definition within its ranges.
pub function_within : (f : Function) → IsTrue (is_name f.name) → function_fits f.parameters (sizes_of f) ≡ true
    → All (λ t. t < length f.code) f.targets → All IsWord f.strings → All (IsInstrWithin (sizes_of f)) f.code → IsFunctionWithinRanges f
function_within f named fit targets strings code = record {
  named = named;
  few_parameters = grind (arith, nat_tests);
  parameters_in_frame = grind (arith, nat_tests);
  frame = grind (arith, nat_tests);
  few_labels = grind (arith, nat_tests);
  few_strings = grind (arith, nat_tests);
  few_instrs = grind (arith, nat_tests);
  targets = targets;
  strings = strings;
  code = code;
}

pub simple_within : (s : Simple) → IsTrue (is_name s.name) → simple_fits (length s.values) (length s.strings) ≡ true
    → All (IsIvalWithin (length s.strings)) s.values → All IsWord s.strings → IsSimpleWithinRanges s
simple_within s named fit values strings = record {
  named = named;
  few_values = grind (arith, nat_tests);
  few_strings = grind (arith, nat_tests);
  values = values;
  strings = strings;
}

pub vector_within : (v : Vector) → IsTrue (is_name v.name) → vector_fits v.words (length v.values) (length v.strings) ≡ true
    → All (IsIvalWithin (length v.strings)) v.values → All IsWord v.strings → IsVectorWithinRanges v
vector_within v named fit values strings = record {
  named = named;
  some_word = grind (arith, nat_tests);
  values_in_words = grind (arith, nat_tests);
  few_words = grind (arith, nat_tests);
  few_values = grind (arith, nat_tests);
  few_strings = grind (arith, nat_tests);
  values = values;
  strings = strings;
}

-- lines of one kind
module _ {X : Type 0} (spell : X → List ℕ) (within : X → Type 0) (kind : LineKind) (of_kind : (x : X) → within x → IsOfKind kind (spell x)) where
  path_items : (xs : List X) (ks : List LineKind) (ls : List (List ℕ)) → All within xs → Path (expects ks) ls
      → Path (expects (replicate (length xs) kind ++ ks)) (map spell xs ++ ls)
  path_items [] ks ls all path = path
  path_items (x ∷ xs) ks ls all path =
      (expects (replicate (length xs) kind ++ ks), (of_kind x (All-head within x xs all), refl), path_items xs ks ls (All-tail within x xs all) path)

  path_last : (xs : List X) (ls : List (List ℕ)) → All within xs → Path (expects []) ls → Path (expects (replicate (length xs) kind)) (map spell xs ++ ls)
  path_last xs ls all path = subst (λ (ks : List LineKind). Path (expects ks) (map spell xs ++ ls)) (append-nil (replicate (length xs) kind)) (path_items xs [] ls all path)

  -- after these lines as text
  pub stops_after : (xs : List X) (ks : List LineKind) (n : ℕ) (rest : List ℕ) → All within xs → IsStuckAfter n (expects ks) rest
      → IsStuckAfter (length xs + n) (expects (replicate (length xs) kind ++ ks)) (flat_map spell xs ++ rest)
  stops_after [] ks n rest all stops =
      let same : n ≡ 0 + n = omega arith in subst (λ (m : ℕ). IsStuckAfter m (expects ks) rest) same stops
  stops_after (x ∷ xs) ks n rest all stops =
      let same : suc (length xs + n) ≡ suc (length xs) + n = omega arith in
      let others = stops_after xs ks n rest (All-tail within x xs all) stops in
      let to = expects (replicate (length xs) kind ++ ks) in
      let first : IsStuckAfter (suc (length xs + n)) (expects (kind ∷ (replicate (length xs) kind ++ ks))) (spell x ++ flat_map spell xs ++ rest) =
      (spell x, to, flat_map spell xs ++ rest, (of_kind x (All-head within x xs all), refl), append_assoc (spell x) (flat_map spell xs) rest, others) in
      subst (λ (m : ℕ). IsStuckAfter m (expects (kind ∷ (replicate (length xs) kind ++ ks))) (spell x ++ flat_map spell xs ++ rest)) same first

  pub stops_last : (xs : List X) (n : ℕ) (rest : List ℕ) → All within xs → IsStuckAfter n (expects []) rest
      → IsStuckAfter (length xs + n) (expects (replicate (length xs) kind)) (flat_map spell xs ++ rest)
  stops_last xs n rest all stops =
      subst (λ (ks : List LineKind). IsStuckAfter (length xs + n) (expects ks) (flat_map spell xs ++ rest)) (append-nil (replicate (length xs) kind)) (stops_after xs [] n rest all stops)

  -- fewer lines than are expected, and then none
  module _ (is_kind : (l : List ℕ) → IsOfKind kind l → (x : X) × within x × (l ≡ spell x)) where
    pub stops_among : (xs : List X) (count : ℕ) (ks : List LineKind) (rest : List ℕ) → length xs < count → All within xs
        → ((x : X) (following : List ℕ) → within x → rest ≡ spell x ++ following → ⊥)
        → IsStuckAfter (length xs) (expects (replicate count kind ++ ks)) (flat_map spell xs ++ rest)
    stops_among xs zero ks rest fewer all none = absurd (omega arith)
    stops_among [] (suc count) ks rest fewer all none = record {
      refused = λ l to following leads same.
          let read = is_kind l leads.0 in none read.0 following read.1 (same ∙ ap (λ t. t ++ following) read.2);
      not_finished = λ same. absurd (cc);
    }
    stops_among (x ∷ xs) (suc count) ks rest fewer all none = (
      spell x,
      expects (replicate count kind ++ ks),
      flat_map spell xs ++ rest,
      (of_kind x (All-head within x xs all), refl),
      append_assoc (spell x) (flat_map spell xs) rest,
      stops_among xs count ks rest (omega arith) (All-tail within x xs all) none,
    )

pub of_value : (strings : ℕ) (x : Ival) → IsIvalWithin strings x → IsOfKind (value strings) (ival_line x)
of_value strings x h = (x, h, refl)

pub of_target : (code n : ℕ) → n < code → IsOfKind (target code) (target_line n)
of_target code n h = (n, h, refl)

pub of_string : (n : ℕ) → IsWord n → IsOfKind string (string_line n)
of_string n h = (n, h, refl)

pub of_instr : (sizes : Sizes) (i : Instr) → IsInstrWithin sizes i → IsOfKind (instruction sizes) (instr_line i)
of_instr sizes i h = (i, h, refl)

-- code texts are paths

pub path_body : (d : Definition) (ls : List (List ℕ)) → IsWithinRanges d → Path (expects []) ls → Path (state_after (header_of d)) (body_lines d ++ ls)
path_body (definition.Function f) ls h path =
    let lines = map target_line f.targets in
    let words = map string_line f.strings in
    let code = map instr_line f.code in
    let sizes = sizes_of f in
    let all = path_items target_line (λ t. t < length f.code) (target (length f.code)) (of_target (length f.code)) f.targets _ _ h.targets
    (path_items string_line IsWord string of_string f.strings _ _ h.strings
    (path_last instr_line (IsInstrWithin sizes) (instruction sizes) (of_instr sizes) f.code ls h.code path)) in
    let same : lines ++ (words ++ (code ++ ls)) ≡ lines ++ words ++ code ++ ls =
    sym (append_assoc lines words (code ++ ls)) ∙ sym (append_assoc (lines ++ words) code ls) in
    subst (λ (m : List (List ℕ)). Path (state_after (header_of (definition.Function f))) m) same all
path_body (definition.Simple s) ls h path =
    let values = map ival_line s.values in
    let words = map string_line s.strings in
    let strings = length s.strings in
    let all = path_items ival_line (IsIvalWithin strings) (value strings) (of_value strings) s.values _ _ h.values
    (path_last string_line IsWord string of_string s.strings ls h.strings path) in
    subst (λ (m : List (List ℕ)). Path (state_after (header_of (definition.Simple s))) m) (sym (append_assoc values words ls)) all
path_body (definition.Vector v) ls h path =
    let values = map ival_line v.values in
    let words = map string_line v.strings in
    let strings = length v.strings in
    let all = path_items ival_line (IsIvalWithin strings) (value strings) (of_value strings) v.values _ _ h.values
    (path_last string_line IsWord string of_string v.strings ls h.strings path) in
    subst (λ (m : List (List ℕ)). Path (state_after (header_of (definition.Vector v))) m) (sym (append_assoc values words ls)) all

pub ended_path : (ds : List Definition) → All IsWithinRanges ds → Path (expects []) (ended_lines ds)
ended_path [] all = (finished, (header.End, end_within, refl, refl), refl)
ended_path (d ∷ ds) all =
    let within = All-head IsWithinRanges d ds all in
    let others = path_body d (ended_lines ds) within (ended_path ds (All-tail IsWithinRanges d ds all)) in
    let same : body_lines d ++ ended_lines ds ≡ body_lines d ++ flat_map lines_of ds ++ end_text ∷ [] =
    sym (append_assoc (body_lines d) (flat_map lines_of ds) (end_text ∷ [])) in (
      state_after (header_of d),
      (header_of d, header_of-within d within, sym (header_of-text d), refl),
      subst (λ (ls : List (List ℕ)). Path (state_after (header_of d)) ls) same others,
    )

opens_path : (ls : List (List ℕ)) → Path (expects []) ls → Path opens ls
opens_path [] path = absurd (cc)
opens_path (l ∷ ls) path = (path.0, inr path.1, path.2)

pub code_path : (edition : Edition) (ds : List Definition) → All IsWithinRanges ds → Path opens (code_lines edition ds)
code_path editions.One ds all = opens_path (ended_lines ds) (ended_path ds all)
code_path editions.Two ds all = (expects [], inl (refl, refl), ended_path ds all)

-- paths are code texts

abbrev pub OfKinds : List LineKind → List (List ℕ) → Type 0
OfKinds [] bs = bs ≡ []
OfKinds (k ∷ ks) [] = ⊥
OfKinds (k ∷ ks) (l ∷ ls) = IsOfKind k l × OfKinds ks ls

abbrev pub OfState : LineState → List (List ℕ) → Type 0
OfState opens bs = ⊥
OfState (expects ks) bs = OfKinds ks bs
OfState finished bs = ⊥

-- values whose lines these are
record Items {X : Type 0} (spell : X → List ℕ) (within : X → Type 0) (n : ℕ) (ks : List LineKind) (bs : List (List ℕ)) : Type 0 where
  values : List X
  following : List (List ℕ)
  count : length values ≡ n
  inside : All within values
  lines : bs ≡ map spell values ++ following
  others : OfKinds ks following

module _ {X : Type 0} (spell : X → List ℕ) (within : X → Type 0) (kind : LineKind) (is_kind : (l : List ℕ) → IsOfKind kind l → (x : X) × within x × (l ≡ spell x)) where
  items_of : (n : ℕ) (ks : List LineKind) (bs : List (List ℕ)) → OfKinds (replicate n kind ++ ks) bs → Items spell within n ks bs
  items_of zero ks bs of = record { values = []; following = bs; count = refl; inside = All-nil within; lines = refl; others = of }
  items_of (suc n) ks [] of = absurd of
  items_of (suc n) ks (l ∷ bs) of =
      let first = is_kind l of.0 in
      let more = items_of n ks bs of.1 in
      record {
        values = first.0 ∷ more.values;
        following = more.following;
        count = let c = more.count in omega arith;
        inside = All-cons within first.0 more.values first.1 more.inside;
        lines = ap (λ m. m ∷ bs) first.2 ∙ ap (λ m. spell first.0 ∷ m) more.lines;
        others = more.others;
      }

  last_items : (n : ℕ) (bs : List (List ℕ)) → OfKinds (replicate n kind) bs → (xs : List X) × (length xs ≡ n) × All within xs × (bs ≡ map spell xs)
  last_items n bs of =
      let same : OfKinds (replicate n kind ++ []) bs = subst (λ (ks : List LineKind). OfKinds ks bs) (sym (append-nil (replicate n kind))) of in
      let all = items_of n [] bs same in
      (all.values, all.count, all.inside, all.lines ∙ ap (λ m. map spell all.values ++ m) all.others ∙ append-nil (map spell all.values))

pub same_sizes : (s : Sizes) (labels strings code : ℕ) → labels ≡ s.labels → strings ≡ s.strings → code ≡ s.code
    → let sizes : Sizes = record { frame = s.frame; labels = labels; strings = strings; code = code } in sizes ≡ s
same_sizes s labels strings code l w c = rw (l, w, c) refl

-- a definition with this header and these lines
pub record Made (h : Header) (bs : List (List ℕ)) : Type 0 where
  pub definition : Definition
  pub header : header_of definition ≡ h
  pub inside : IsWithinRanges definition
  pub lines : bs ≡ body_lines definition

made_function : (name : List ℕ) (parameters : ℕ) (s : Sizes) (bs : List (List ℕ)) → IsHeaderWithin (header.Function name parameters s)
    → OfKinds (replicate s.labels (target s.code) ++ (replicate s.strings string ++ replicate s.code (instruction s))) bs
    → Made (header.Function name parameters s) bs
made_function name parameters s bs h of =
    let t = items_of target_line (λ n. n < s.code) (target s.code) (λ l x. x) s.labels (replicate s.strings string ++ replicate s.code (instruction s)) bs of in
    let w = items_of string_line IsWord string (λ l x. x) s.strings (replicate s.code (instruction s)) t.following t.others in
    let c = last_items instr_line (IsInstrWithin s) (instruction s) (λ l x. x) s.code w.following w.others in
    let f : Function = record { name = name; parameters = parameters; frame = s.frame; targets = t.values; strings = w.values; code = c.0 } in
    let sizes = same_sizes s (length t.values) (length w.values) (length c.0) t.count w.count c.1 in
    record {
      definition = definition.Function f;
      header = ap (λ z. header.Function name parameters z) sizes;
      inside = function_within f h.named (subst (λ (z : Sizes). function_fits parameters z ≡ true) (sym sizes) h.fits)
          (subst (λ (n : ℕ). All (λ k. k < n) t.values) (sym c.1) t.inside) w.inside (subst (λ (z : Sizes). All (IsInstrWithin z) c.0) (sym sizes) c.2);
      lines = t.lines ∙ ap (λ m. map target_line t.values ++ m) (w.lines ∙ ap (λ m. map string_line w.values ++ m) c.3)
          ∙ sym (append_assoc (map target_line t.values) (map string_line w.values) (map instr_line c.0));
    }

made_values : (values strings : ℕ) (bs : List (List ℕ)) → OfKinds (replicate values (value strings) ++ replicate strings string) bs
    → (vs : List Ival) × (ws : List ℕ) × (length vs ≡ values) × (length ws ≡ strings) × All (IsIvalWithin (length ws)) vs × All IsWord ws
    × (bs ≡ map ival_line vs ++ map string_line ws)
made_values values strings bs of =
    let v = items_of ival_line (IsIvalWithin strings) (value strings) (λ l x. x) values (replicate strings string) bs of in
    let w = last_items string_line IsWord string (λ l x. x) strings v.following v.others in (
      v.values,
      w.0,
      v.count,
      w.1,
      subst (λ (n : ℕ). All (IsIvalWithin n) v.values) (sym w.1) v.inside,
      w.2,
      v.lines ∙ ap (λ m. map ival_line v.values ++ m) w.3,
    )

pub made : (h : Header) (bs : List (List ℕ)) → IsHeaderWithin h → OfState (state_after h) bs → Made h bs
made (header.Function name parameters s) bs h of = made_function name parameters s bs h of
made (header.Simple name values strings) bs h of =
    let m = made_values values strings bs of in
    record {
      definition = definition.Simple record { name = name; values = m.0; strings = m.1 };
      header = rw (m.2, m.3) refl;
      inside = simple_within _ h.named (rw (m.2, m.3) h.fits) m.4 m.5;
      lines = m.6;
    }
made (header.Vector name words values strings) bs h of =
    let m = made_values values strings bs of in
    record {
      definition = definition.Vector record { name = name; words = words; values = m.0; strings = m.1 };
      header = rw (m.2, m.3) refl;
      inside = vector_within _ h.named (rw (m.2, m.3) h.fits) m.4 m.5;
      lines = m.6;
    }
made header.End bs h of = absurd of

-- the lines of a body that is under way, and whole definitions
record Split (ks : List LineKind) (ls : List (List ℕ)) : Type 0 where
  body : List (List ℕ)
  definitions : List Definition
  of_kinds : OfKinds ks body
  inside : All IsWithinRanges definitions
  lines : ls ≡ body ++ ended_lines definitions

split_end : (l : List ℕ) (ls : List (List ℕ)) → l ≡ end_text → Path finished ls → Split [] (l ∷ ls)
split_end l [] e path = record { body = []; definitions = []; of_kinds = refl; inside = All-nil IsWithinRanges; lines = ap (λ m. m ∷ []) e }
split_end l (k ∷ ls) e path = absurd path.1

split_header : (h : Header) (l : List ℕ) (ls : List (List ℕ)) (ks : List LineKind) → state_after h ≡ expects ks → IsHeaderWithin h → l ≡ header_text h → Split ks ls → Split [] (l ∷ ls)
split_header h l ls ks state within e s =
    let of : OfState (state_after h) s.body = subst (λ (z : LineState). OfState z s.body) (sym state) s.of_kinds in
    let m = made h s.body within of in
    record {
      body = [];
      definitions = m.definition ∷ s.definitions;
      of_kinds = refl;
      inside = All-cons IsWithinRanges m.definition s.definitions m.inside s.inside;
      lines =
          let first : l ≡ header_line m.definition = e ∙ ap header_text (sym m.header) ∙ header_of-text m.definition in
          ap (λ z. z ∷ ls) first ∙ ap (λ z. header_line m.definition ∷ z) (s.lines ∙ ap (λ z. z ++ ended_lines s.definitions) m.lines
          ∙ sym (append_assoc (body_lines m.definition) (flat_map lines_of s.definitions) (end_text ∷ [])));
    }

split_after : (h : Header) (l : List ℕ) (ls : List (List ℕ)) → ((ks : List LineKind) → Path (expects ks) ls → Split ks ls) → IsHeaderWithin h → l ≡ header_text h
    → Path (state_after h) ls → Split [] (l ∷ ls)
split_after (header.Function name parameters s) l ls further within e path = split_header (header.Function name parameters s) l ls _ refl within e (further _ path)
split_after (header.Simple name values strings) l ls further within e path = split_header (header.Simple name values strings) l ls _ refl within e (further _ path)
split_after (header.Vector name words values strings) l ls further within e path = split_header (header.Vector name words values strings) l ls _ refl within e (further _ path)
split_after header.End l ls further within e path = split_end l ls e path

split_path : (ls : List (List ℕ)) (ks : List LineKind) → Path (expects ks) ls → Split ks ls
split_path [] ks path = absurd (cc)
split_path (l ∷ ls) [] path =
    split_after path.1.0 l ls (split_path ls) path.1.1 path.1.2 (subst (λ (z : LineState). Path z ls) path.1.3 path.2)
split_path (l ∷ ls) (k ∷ ks) path =
    let others = split_path ls ks (subst (λ (z : LineState). Path z ls) path.1.1 path.2) in
    record {
      body = l ∷ others.body;
      definitions = others.definitions;
      of_kinds = (path.1.0, others.of_kinds);
      inside = others.inside;
      lines = ap (λ m. l ∷ m) others.lines;
    }

pub path_ended : (ls : List (List ℕ)) → Path (expects []) ls → (ds : List Definition) × All IsWithinRanges ds × (ls ≡ ended_lines ds)
path_ended ls path =
    let s = split_path ls [] path in (s.definitions, s.inside, s.lines ∙ ap (λ b. b ++ ended_lines s.definitions) s.of_kinds)

-- a path is a code text
abbrev pub Coded : List (List ℕ) → Type 0
Coded ls = (edition : Edition) × (ds : List Definition) × All IsWithinRanges ds × (ls ≡ code_lines edition ds)

path_opened : (l : List ℕ) (ls : List (List ℕ)) (to : LineState) → Leads opens l to → Path to ls → Coded (l ∷ ls)
path_opened l ls to (inl x) path =
    let ended = path_ended ls (subst (λ (z : LineState). Path z ls) x.1 path) in
    (editions.Two, ended.0, ended.1, ap (λ z. z ∷ ls) x.0 ∙ ap (λ z. edition_line ∷ z) ended.2)
path_opened l ls to (inr x) path = let ended = path_ended (l ∷ ls) (to, x, path) in (editions.One, ended.0, ended.1, ended.2)

pub path_code : (ls : List (List ℕ)) → Path opens ls → Coded ls
path_code [] path = absurd (cc)
path_code (l ∷ ls) path = path_opened l ls path.0 path.1 path.2
