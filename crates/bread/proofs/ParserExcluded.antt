-- Answers that the contracts of the parser exclude, over a stream that tells its bytes: all but what the reader of the
-- grammar makes of their tokens.
use Rattle.std.proofs.Common.{◌≡◌, ℕ, false, List, ◌++◌, Option, Some, Ok, Err, sym, ap, ◌∙◌, subst}
use Rattle.bword.proofs.Remaining.{rest_after}
use Rattle.blang.specs.Compiles.{Tells}
use Rattle.blang.specs.Trees.{Expr, Definition}
use Rattle.blang.specs.Scan.{identifier_of}
use Rattle.blang.specs.declared.token.Placed.{Placed}
use Rattle.bgrammar.specs.Reading.{Reader, Got, Stop, after}
use Rattle.bgrammar.specs.DefinitionReader.{definition}
use Rattle.bemit.specs.Drafts.{Draft, started}
use Rattle.bemit.specs.Effects.{definition_done, form, held}
use Rattle.bemit.specs.Trails.{Lines}
use Rattle.bemit.specs.declared.form.Form.{Form}
use Rattle.bread.specs.Tokens.{Tokens, Moves, AdvancesTo, tokens_of}
use Rattle.bread.specs.Parsers.{Follows}
use Rattle.bread.specs.Definitions.{FindsDefinition}
use Rattle.bread.specs.declared.halt.Halt.TheVariants as halt
use Rattle.bread.specs.declared.header.DefinitionHead.{DefinitionHead}

-- the same bytes are left
same_left : (end : Option (List ℕ)) (xs ys : List ℕ) → end ≡ Some xs → end ≡ Some ys → xs ≡ ys
same_left end xs ys e f = let same : Some xs ≡ Some ys = sym e ∙ f in cc

module _ (old new : Tokens) (bytes left : List ℕ) (tells : Tells old.source.end bytes) (has_left : new.source.end.left ≡ Some left) where
  -- what a call says of the tokens, of those that come before it and after it
  came : {P : List Placed → List Placed → Type 0} → Moves old new P → P (tokens_of old bytes) (tokens_of new left)
  came {P} m =
      let r = rest_after old.source.end new.source.end m.taken bytes m.reads.took tells.left tells.follow in
      let same : r.more ≡ left = same_left new.source.end.left r.more left r.left has_left in
      subst (λ x. P (tokens_of old x) (tokens_of new left)) r.whole
      (subst (λ x. P (tokens_of old (m.taken ++ r.more)) (tokens_of new x)) same (m.come r.more r.follows))

  -- after a token come those after it, and no others
  pub no_lost_token : (noted : Lines) → AdvancesTo noted old new → tokens_of new left ≡ after (tokens_of old bytes)
  no_lost_token noted h = (came h.moves).rest

  module _ (read : ℕ → Reader Expr) (start draft : Draft) where
    -- another tree, another draft, another form, or other tokens afterwards
    pub no_other_expression : (tree : Expr) (rest : List Placed) (found : Form) → read 0 (tokens_of old bytes) ≡ Got tree rest → Follows read false old start (Ok found) new draft
        → (draft ≡ held false tree start) × (found ≡ form tree draft) × (tokens_of new left ≡ rest)
    no_other_expression tree rest found e h =
        let t = h.0 0 in
        let same : Got tree rest ≡ Got t.tree (tokens_of new left) = sym e ∙ came t.runs in
        let tree_is : t.tree ≡ tree = cc in
        let rest_is : tokens_of new left ≡ rest = cc in
        (t.made ∙ ap (λ x. held false x start) tree_is, t.form_is ∙ ap (λ x. form x draft) tree_is, rest_is)

    -- an expression where the reader stops
    pub no_expression_past_a_stop : (rest : List Placed) (found : Form) → read 0 (tokens_of old bytes) ≡ Stop rest → Follows read false old start (Ok found) new draft → ⊥
    no_expression_past_a_stop rest found e h =
        let t = h.0 0 in
        let same : Stop rest ≡ Got t.tree (tokens_of new left) = sym e ∙ came t.runs in
        cc

    -- a stop where the reader reads an expression, or at another token than it
    pub no_stop_in_an_expression : (tree : Expr) (rest : List Placed) → read 0 (tokens_of old bytes) ≡ Got tree rest → Follows read false old start (Err halt.Fault) new draft → ⊥
    no_stop_in_an_expression tree rest e h =
        let same : Got tree rest ≡ Stop (tokens_of new left) = sym e ∙ came (h 0).0 in
        cc

    pub no_other_stop : (rest : List Placed) → read 0 (tokens_of old bytes) ≡ Stop rest → Follows read false old start (Err halt.Fault) new draft → tokens_of new left ≡ rest
    no_other_stop rest e h =
        let same : Stop rest ≡ Stop (tokens_of new left) = sym e ∙ came (h 0).0 in
        cc

  module _ (names : List (List ℕ)) (draft : Draft) where
    -- another tree, another draft, or other tokens afterwards
    pub no_other_definition : (tree : Definition) (rest : List Placed) (header : DefinitionHead) → definition (tokens_of old bytes) ≡ Got tree rest → FindsDefinition names old (Ok header) new draft
        → (draft ≡ definition_done tree (started names (identifier_of tree))) × (tokens_of new left ≡ rest)
    no_other_definition tree rest header e t =
        let same : Got tree rest ≡ Got t.tree (tokens_of new left) = sym e ∙ came t.moves in
        let tree_is : t.tree ≡ tree = cc in
        let rest_is : tokens_of new left ≡ rest = cc in
        (t.made ∙ ap (λ x. definition_done x (started names (identifier_of x))) tree_is, rest_is)

    -- a definition where the reader stops, or a stop where it reads one
    pub no_definition_past_a_stop : (rest : List Placed) (header : DefinitionHead) → definition (tokens_of old bytes) ≡ Stop rest → FindsDefinition names old (Ok header) new draft → ⊥
    no_definition_past_a_stop rest header e t =
        let same : Stop rest ≡ Got t.tree (tokens_of new left) = sym e ∙ came t.moves in
        cc

    pub no_stop_in_a_definition : (tree : Definition) (rest : List Placed) → definition (tokens_of old bytes) ≡ Got tree rest → FindsDefinition names old (Err halt.Fault) new draft → ⊥
    no_stop_in_a_definition tree rest e h =
        let same : Got tree rest ≡ Stop (tokens_of new left) = sym e ∙ came h.0 in
        cc
