-- Promise: what the rules of `check` say of a source, and of each token what is said first.
use Rattle.std.specs.Prelude.{ℕ, zero, suc, ◌+◌, ◌==◌, ◌≡◌, List, [], ◌∷◌, length, Option, None, Some}
use Rattle.std.specs.Prelude.{if◌then◌else◌, nat_lt, slice_get, slice_set, unwrap_or}
use Rattle.blang.specs.Trees.{Definition}
use Rattle.blang.specs.WellFormed.{AllFormed}
use Rattle.blex.specs.declared.lexeme.Lexeme.{Lexeme}
use Rattle.bmatch.specs.Growing.{lexemes_of, program_rows}
use Rattle.bmatch.specs.Notices.{notices_by}
use Rattle.bmatch.specs.declared.noticing.Notice.{Notice}
use Rattle.bmatch.specs.declared.conditions.Claim.{Claim}
use Rattle.bmatch.specs.declared.pattern.Rule.{Rule}
use Rattle.bmatch.specs.declared.pattern.RuleTable.{RuleTable}
use Rattle.bmatch.specs.declared.pattern.Step.{Step}
use Rattle.bmatch.specs.declared.tree.Branch.{Branch}
use Rattle.bmatch.specs.declared.tree.TokenPlace.{TokenPlace}
use Rattle.bmatch.specs.declared.tree.Tree.{Tree}
use Rattle.blint.specs.declared.check_rules.TheConstants.{CLAIMS, RULES, STEPS, WARNINGS}
use Rattle.blint.specs.declared.warnings.Warning.{Warning}

-- Rules say this of a source with these tokens and branches. Of the tree and of the table that they are asked of no
-- definition looks at where in memory they stand.
pub record IsSaid (text : List ℕ) (lexemes : List Lexeme) (places : List TokenPlace) (rows : List Branch)
    (steps : List Step) (claims : List Claim) (rules : List Rule) (notices : List Notice) : Type 0 where
  pub tree : Tree
  pub table : RuleTable
  pub of_text : tree.text.now ≡ text
  pub of_lexemes : tree.lexemes.now ≡ lexemes
  pub of_places : tree.places.now ≡ places
  pub of_rows : tree.rows.now ≡ rows
  pub by_steps : table.steps.now ≡ steps
  pub by_claims : table.claims.now ≡ claims
  pub by_rules : table.rules.now ≡ rules
  pub all : notices ≡ notices_by tree table

-- the rules of `check` say this of it
abbrev pub IsNoticed : (text : List ℕ) → List Lexeme → List TokenPlace → List Branch → List Notice → Type 0
IsNoticed text lexemes places rows notices = IsSaid text lexemes places rows STEPS CLAIMS RULES notices

-- what is said first of a token, and the warning that it is
abbrev pub first_notice : List Notice → (token : ℕ) → Option Notice
first_notice [] token = None
first_notice (n ∷ ns) token = if n.token == token then Some n else first_notice ns token

abbrev pub warning_of : Option Notice → Option Warning
warning_of None = None
warning_of (Some n) = slice_get WARNINGS n.rule

-- Inner words: of so many tokens, from this one on
abbrev pub first_notices : List Notice → (token count : ℕ) → List (Option Notice)
first_notices ns token zero = []
first_notices ns token (suc count) = first_notice ns token ∷ first_notices ns (token + 1) count

abbrev pub notice_at : List (Option Notice) → (token : ℕ) → Option Notice
notice_at firsts token = unwrap_or (slice_get firsts token) None

-- the same where one comes before them
abbrev pub with_notice : Notice → List (Option Notice) → List (Option Notice)
with_notice n firsts = if nat_lt n.token (length firsts) then slice_set firsts n.token (Some n) else firsts
