-- What comes of whole sources, by reading them one definition at a time.
use Rattle.std.proofs.Common.{◌≡◌, ℕ, zero, suc, List, [], ◌∷◌, ◌++◌, ap, ◌∙◌, refl, subst}
use Rattle.bword.specs.declared.edition.Edition.{Edition}
use Rattle.std.specs.Prelude.{codes, map, Option, Some, None}
use Rattle.bword.specs.declared.edition.Edition.TheVariants as editions
use Rattle.std.specs.Fmt.{digits}
use Rattle.blang.specs.Cut.{whole, word_token as word_token, keyword_of, number_in, with_quoted_byte, escape_of, operator_of, other_of, fixed_of, tokens_from, cut, longest, greatest}
use Rattle.blang.specs.declared.token.Token.{Token}
use Rattle.blang.specs.declared.token.Token.TheVariants as token
use Rattle.blang.specs.declared.token.Placed.{Placed}
use Rattle.blang.specs.declared.token.Diagnostic.{Diagnostic}
use Rattle.bgrammar.specs.Reading.{Read, Got, Stop, first}
use Rattle.blang.specs.Trees.{Definition}
use Rattle.bgrammar.specs.DefinitionReader.{definition}
use Rattle.blang.specs.Scan.{identifier_of}
use Rattle.blang.specs.Code.{fault_of}
use Rattle.blang.specs.WellFormed.{fault_at}
use Rattle.blang.specs.Compiles.{Defined, Compilation, compiled_text, CompilesTo, code_text, fault_text}
use Rattle.bgrammar.specs.SourceRows.{ComesIn, Row, AllCome, externals, functions, faults, places, edges, of_two, names_of_one}
use Rattle.bgrammar.specs.GrammarRows.{definitions, statements, cases, rvalues, assignments, operators, operands, refused, all_refused, statements_of_two, refused_in_two}
use Rattle.blang.specs.Text.{edition_line}
use Rattle.bgrammar.proofs.Outcomes.{Ended}
use Rattle.bgrammar.proofs.GoesLaws.{goes_end, tokens_from-ended}
use Rattle.bgrammar.proofs.GoesReads.{goes_after_read, goes_fault_read, goes_stop_read, ended_read}

abbrev pub Later : Type 0
Later = Defined → List Placed → Option Compilation

abbrev pub with_text : List ℕ → Option Compilation → Option Compilation
with_text text None = None
with_text text (Some r) = Some (record { code = text ∷ r.code; stop = r.stop })

abbrev pub at_definition : Later → Defined → Option Diagnostic → Definition → List Placed → Option Compilation
at_definition later names (Some fault) d rest = Some (record { code = []; stop = Some fault })
at_definition later names None d rest = with_text (compiled_text d) (later (names ++ (identifier_of d).text ∷ []) rest)

abbrev pub at_stop : List Placed → Option Compilation
at_stop [] = None
at_stop (at ∷ rest) = Some (record { code = []; stop = Some (fault_at at) })

abbrev pub at_read : Later → Defined → Read Definition → Option Compilation
at_read later names (Got d rest) = at_definition later names (fault_of names d) d rest
at_read later names (Stop rest) = at_stop rest

abbrev pub at_first : Later → Defined → Token → List Placed → Option Compilation
at_first later names token.End ts = Some (record { code = []; stop = None })
at_first later names t ts = at_read later names (definition ts)

-- what comes of at most so many definitions
abbrev pub outcome_at : ℕ → Later
outcome_at zero names ts = None
outcome_at (suc n) names ts = at_first (λ names ts. outcome_at n names ts) names (first ts) ts

module _ (later : Later) (sound : (names : Defined) (ts : List Placed) (r : Compilation) → Ended ts → later names ts ≡ Some r → CompilesTo names ts r) (names : Defined) where
  with_text_sound : (u v : List Placed) (d : Definition) (o : Option Compilation) (r : Compilation) → Ended v → definition u ≡ Got d v → fault_of names d ≡ None → later (names ++ (identifier_of d).text ∷ []) v ≡ o → with_text (compiled_text d) o ≡ Some r → CompilesTo names u r
  with_text_sound u v d None r e h clean is from = cc
  with_text_sound u v d (Some q) r e h clean is from =
      let same : record { code = compiled_text d ∷ q.code; stop = q.stop } ≡ r = cc in
      subst (λ x. CompilesTo names u x) same (goes_after_read names u v d q h clean (sound (names ++ (identifier_of d).text ∷ []) v q e is))

  definition_sound : (u v : List Placed) (d : Definition) (f : Option Diagnostic) (r : Compilation) → Ended v → definition u ≡ Got d v → fault_of names d ≡ f → at_definition later names f d v ≡ Some r → CompilesTo names u r
  definition_sound u v d (Some fault) r e h is from =
      let same : record { code = []; stop = Some fault } ≡ r = cc in
      subst (λ x. CompilesTo names u x) same (goes_fault_read names u v d fault h is e)
  definition_sound u v d None r e h is from = with_text_sound u v d (later (names ++ (identifier_of d).text ∷ []) v) r e h is refl from

  stop_sound : (u v : List Placed) (r : Compilation) → (first u ≡ token.End → ⊥) → definition u ≡ Stop v → at_stop v ≡ Some r → CompilesTo names u r
  stop_sound u [] r n h from = cc
  stop_sound u (at ∷ rest) r n h from =
      let same : record { code = []; stop = Some (fault_at at) } ≡ r = cc in
      subst (λ x. CompilesTo names u x) same (goes_stop_read names u rest at h (λ e q. n (ap first q ∙ e)))

  read_sound : (u : List Placed) (x : Read Definition) (r : Compilation) → Ended u → (first u ≡ token.End → ⊥) → definition u ≡ x → at_read later names x ≡ Some r → CompilesTo names u r
  read_sound u (Got d v) r e n h from = definition_sound u v d (fault_of names d) r (ended_read u v d h e) h refl from
  read_sound u (Stop v) r e n h from = stop_sound u v r n h from

  first_sound : (t : Token) (u : List Placed) (r : Compilation) → Ended u → first u ≡ t → at_first later names t u ≡ Some r → CompilesTo names u r
  first_sound t [] r e is from = absurd e
  first_sound token.End (p ∷ ts) r e is from =
      let same : record { code = []; stop = None } ≡ r = cc in
      subst (λ x. CompilesTo names (p ∷ ts) x) same (goes_end names p ts is)
  first_sound _ (p ∷ ts) r e is from = read_sound (p ∷ ts) (definition (p ∷ ts)) r e (λ n. cc) refl from

pub outcome_sound : (n : ℕ) (names : Defined) (ts : List Placed) (r : Compilation) → Ended ts → outcome_at n names ts ≡ Some r → CompilesTo names ts r
outcome_sound zero names ts r e h = cc
outcome_sound (suc n) names ts r e h = first_sound (outcome_at n) (outcome_sound n) names (first ts) ts r e refl h

-- the code text and the line
abbrev pub written : Edition → Option Compilation → Option (List ℕ × List ℕ)
written edition None = None
written edition (Some r) = Some (code_text edition r, fault_text r.stop)

written_comes : (edition : Edition) (source : List ℕ) (o : Option Compilation) (code line : List ℕ) → outcome_at 8 [] (tokens_from edition 1 source) ≡ o → written edition o ≡ Some (code, line) → ComesIn edition source code line
written_comes edition source None code line h w = cc
written_comes edition source (Some r) code line h w =
    let pair : (code_text edition r, fault_text r.stop) ≡ (code, line) = cc in
    record {
      outcome = r;
      goes = outcome_sound 8 [] (tokens_from edition 1 source) r (tokens_from-ended edition 1 source) h;
      code_is = ap (λ (p : List ℕ × List ℕ). p.0) pair;
      line_is = ap (λ (p : List ℕ × List ℕ). p.1) pair;
    }

-- what is written for a source of at most eight definitions
abbrev answer : Edition → Row → Option (List ℕ × List ℕ)
answer edition r = written edition (outcome_at 8 [] (tokens_from edition 1 r.0))

rows_come : (edition : Edition) (rows : List Row) → map (answer edition) rows ≡ map (λ r. Some (r.1, r.2)) rows → AllCome edition rows
rows_come edition [] h = tt
rows_come edition ((source, code, line) ∷ rows) h =
    let first : answer edition (source, code, line) ≡ Some (code, line) = cc in
    let others : map (answer edition) rows ≡ map (λ r. Some (r.1, r.2)) rows = cc in
    (written_comes edition source (outcome_at 8 [] (tokens_from edition 1 source)) code line refl first, rows_come edition rows others)

-- Of these six, other crates show what their promises exclude.
comes : (edition : Edition) (source : List ℕ) {code line : List ℕ} → answer edition (source, code, line) ≡ Some (code, line) → ComesIn edition source code line
comes edition source {code} {line} h = written_comes edition source (outcome_at 8 [] (tokens_from edition 1 source)) code line refl h

pub an_empty_source : ComesIn editions.One [] (codes "E\n") []
unfolding tokens_from cut longest greatest whole word_token keyword_of number_in with_quoted_byte escape_of operator_of other_of fixed_of digits
an_empty_source = comes editions.One _ refl

pub a_number : ComesIn editions.One (codes "n 2000;") (codes "X n 1 0\nc 2000\nE\n") []
unfolding tokens_from cut longest greatest whole word_token keyword_of number_in with_quoted_byte escape_of operator_of other_of fixed_of digits
a_number = comes editions.One _ refl

pub a_name_twice : ComesIn editions.One (codes "a;a;") (codes "X a 0 0\n") (codes "rd a 1\n")
unfolding tokens_from cut longest greatest whole word_token keyword_of number_in with_quoted_byte escape_of operator_of other_of fixed_of digits
a_name_twice = comes editions.One _ refl

pub a_function : ComesIn editions.One (codes "main(){}") (codes "F main 0 0 0 0 2\nc 0\nr\nE\n") []
unfolding tokens_from cut longest greatest whole word_token keyword_of number_in with_quoted_byte escape_of operator_of other_of fixed_of digits
a_function = comes editions.One _ refl

pub a_break_outside : ComesIn editions.Two (codes "f() break;") (codes "B 2\n") (codes "sx break 1\n")
unfolding tokens_from cut longest greatest whole word_token keyword_of number_in with_quoted_byte escape_of operator_of other_of fixed_of digits
a_break_outside = comes editions.Two _ refl

pub a_break_of_one : ComesIn editions.One (codes "f() break;") [] (codes "un break 1\n")
unfolding tokens_from cut longest greatest whole word_token keyword_of number_in with_quoted_byte escape_of operator_of other_of fixed_of digits
a_break_of_one = comes editions.One _ refl

pub externals_come : AllCome editions.One externals
unfolding tokens_from cut longest greatest whole word_token keyword_of number_in with_quoted_byte escape_of operator_of other_of fixed_of digits
externals_come = rows_come editions.One externals refl

pub functions_come : AllCome editions.One functions
unfolding tokens_from cut longest greatest whole word_token keyword_of number_in with_quoted_byte escape_of operator_of other_of fixed_of digits
functions_come = rows_come editions.One functions refl

pub faults_come : AllCome editions.One faults
unfolding tokens_from cut longest greatest whole word_token keyword_of number_in with_quoted_byte escape_of operator_of other_of fixed_of digits
faults_come = rows_come editions.One faults refl

pub places_come : AllCome editions.One places
unfolding tokens_from cut longest greatest whole word_token keyword_of number_in with_quoted_byte escape_of operator_of other_of fixed_of digits
places_come = rows_come editions.One places refl

pub edges_come : AllCome editions.One edges
unfolding tokens_from cut longest greatest whole word_token keyword_of number_in with_quoted_byte escape_of operator_of other_of fixed_of digits
edges_come = rows_come editions.One edges refl

pub of_two_come : AllCome editions.Two of_two
unfolding tokens_from cut longest greatest whole word_token keyword_of number_in with_quoted_byte escape_of operator_of other_of fixed_of digits
of_two_come = rows_come editions.Two of_two refl

pub names_of_one_come : AllCome editions.One names_of_one
unfolding tokens_from cut longest greatest whole word_token keyword_of number_in with_quoted_byte escape_of operator_of other_of fixed_of digits
names_of_one_come = rows_come editions.One names_of_one refl

pub definitions_come : AllCome editions.One definitions
unfolding tokens_from cut longest greatest whole word_token keyword_of number_in with_quoted_byte escape_of operator_of other_of fixed_of digits
definitions_come = rows_come editions.One definitions refl

pub statements_come : AllCome editions.One statements
unfolding tokens_from cut longest greatest whole word_token keyword_of number_in with_quoted_byte escape_of operator_of other_of fixed_of digits
statements_come = rows_come editions.One statements refl

pub cases_come : AllCome editions.One cases
unfolding tokens_from cut longest greatest whole word_token keyword_of number_in with_quoted_byte escape_of operator_of other_of fixed_of digits
cases_come = rows_come editions.One cases refl

pub rvalues_come : AllCome editions.One rvalues
unfolding tokens_from cut longest greatest whole word_token keyword_of number_in with_quoted_byte escape_of operator_of other_of fixed_of digits
rvalues_come = rows_come editions.One rvalues refl

pub assignments_come : AllCome editions.One assignments
unfolding tokens_from cut longest greatest whole word_token keyword_of number_in with_quoted_byte escape_of operator_of other_of fixed_of digits
assignments_come = rows_come editions.One assignments refl

pub operators_come : AllCome editions.One operators
unfolding tokens_from cut longest greatest whole word_token keyword_of number_in with_quoted_byte escape_of operator_of other_of fixed_of digits
operators_come = rows_come editions.One operators refl

pub operands_come : AllCome editions.One operands
unfolding tokens_from cut longest greatest whole word_token keyword_of number_in with_quoted_byte escape_of operator_of other_of fixed_of digits
operands_come = rows_come editions.One operands refl

pub refused_come : AllCome editions.One (all_refused [] refused)
unfolding tokens_from cut longest greatest whole word_token keyword_of number_in with_quoted_byte escape_of operator_of other_of fixed_of digits
refused_come = rows_come editions.One (all_refused [] refused) refl

pub statements_of_two_come : AllCome editions.Two statements_of_two
unfolding tokens_from cut longest greatest whole word_token keyword_of number_in with_quoted_byte escape_of operator_of other_of fixed_of digits
statements_of_two_come = rows_come editions.Two statements_of_two refl

pub refused_in_two_come : AllCome editions.Two (all_refused edition_line refused_in_two)
unfolding tokens_from cut longest greatest whole word_token keyword_of number_in with_quoted_byte escape_of operator_of other_of fixed_of digits
refused_in_two_come = rows_come editions.Two (all_refused edition_line refused_in_two) refl
