-- Closed facts: what the rules say of a small program, which notice of a token comes first, where tokens stand, how much
-- is told, and what rules alone give.
use Rattle.std.specs.Prelude.{◌≡◌, ℕ, codes, false, List, [], ◌∷◌, ◌++◌, map, None, refl, replicate, Some, take, true}
use Rattle.bword.specs.declared.edition.Edition.TheVariants as editions
use Rattle.bword.specs.declared.operators.BinOp.TheVariants as op
use Rattle.blang.specs.Cut.{fixed_of, greatest, keyword_of, longest, number_in, operator_of, other_of, whole}
use Rattle.blang.specs.Cut.{word_token}
use Rattle.blang.specs.Trees.{Binary, Compound, Definition, Evaluate, Function, Identifier, Literal, More, Named, Not}
use Rattle.blang.specs.Trees.{Nothing, Number, Prefixed}
use Rattle.bmatch.specs.Growing.{lexemes_of, program_rows}
use Rattle.bmatch.specs.Notices.{notices_by}
use Rattle.bmatch.specs.declared.noticing.Notice.{Notice}
use Rattle.bmatch.specs.declared.pattern.RuleTable.{RuleTable}
use Rattle.bmatch.specs.declared.tree.Tree.{Tree}
use Rattle.blint.specs.declared.check_rules.TheConstants.{CLAIMS, RULES, STEPS, WARNINGS}
use Rattle.blint.specs.declared.telling.TheConstants.{MOST_CAUTIONS}
use Rattle.blint.specs.declared.warnings.Slip.TheVariants as slip
use Rattle.blint.specs.declared.warnings.Warning.TheVariants as warning
use Rattle.blint.specs.Noticed.{first_notice, warning_of}
use Rattle.blint.specs.SourceTokens.{PlacedToken, tokens_at, tokens_of}
use Rattle.blint.specs.Warns.{is_of_rules}

abbrev name : List ℕ → Identifier
name text = record { text = text; line = 1 }

-- f(){1;}   g(x){!x==3;}
abbrev two : List Definition
two =
    Function (name (codes "f")) [] (Compound (More Nothing (Evaluate (Literal (Number 1)))))
    ∷ Function (name (codes "g")) (name (codes "x") ∷ [])
    (Compound (More Nothing (Evaluate
    (Binary op.Eq 1 (Prefixed Not 1 (Named (name (codes "x")))) (Literal (Number 3))))))
    ∷ []

abbrev tree : Tree
tree =
    record {
      text = record { ref_ptr = (0, 0); now = [] };
      lexemes = record { ref_ptr = (0, 0); now = lexemes_of two };
      places = record { ref_ptr = (0, 0); now = [] };
      rows = record { ref_ptr = (0, 0); now = program_rows two };
    }

-- the first rules of check
abbrev first_rules : (count : ℕ) → RuleTable
first_rules count =
    record {
      steps = record { ref_ptr = (0, 0); now = STEPS };
      claims = record { ref_ptr = (0, 0); now = CLAIMS };
      rules = record { ref_ptr = (0, 0); now = take count RULES };
    }

-- the rule of !x == 3, and its token
said_of_two : map (λ (n : Notice). n.rule ∷ n.token ∷ []) (notices_by tree (first_rules 9)) ≡ (7 ∷ 14 ∷ []) ∷ []
said_of_two = refl

abbrev notice : (rule token : ℕ) → Notice
notice rule token = record { rule = rule; token = token; named = None; beside = None }

-- of a token with no notice, with one, and with two of which the later one has the lower number; and past the table
firsts : map (λ n. warning_of (first_notice (notice 6 1 ∷ notice 7 2 ∷ notice 0 2 ∷ notice 65535 3 ∷ []) n)) (0 ∷ 1 ∷ 2 ∷ 3 ∷ [])
    ≡ None ∷ Some warning.ComparesTwice ∷ Some warning.NotCompared ∷ None ∷ []
firsts = refl

limit : MOST_CAUTIONS ≡ 100
limit = refl

-- f(), a comment and 1;
placed : map (λ (t : PlacedToken). t.1.start) (tokens_of editions.One (codes "f()/**/1;"))
    ≡ 0 ∷ 1 ∷ 2 ∷ 7 ∷ 8 ∷ []
unfolding tokens_at longest greatest whole word_token keyword_of number_in operator_of other_of fixed_of
placed = refl

-- what finders give, and some of what rules alone give
of_rules : map is_of_rules (warning.CommentGoesOn ∷ warning.DanglingElse
    ∷ warning.FormValues ∷ warning.HidesExternal ∷ warning.NearMain ∷ warning.NoMain
    ∷ warning.OctalNumber ∷ warning.Unset ∷ warning.UnsetVector ∷ warning.Slip slip.FormKind
    ∷ warning.Slip slip.SetLater ∷ warning.Slip slip.LastTurnOnly ∷ warning.Slip slip.NextPast ∷ warning.CountPastVector
    ∷ warning.AndAnd ∷ warning.Backslash ∷ warning.BitsCompared ∷ warning.FallsIntoCase ∷ warning.NoEffect ∷ warning.Power
    ∷ warning.StringForCharacter ∷ warning.LoopUnchanged ∷ warning.Slip slip.SameTwice ∷ [])
    ≡ replicate 11 false ++ replicate 12 true
of_rules = refl
