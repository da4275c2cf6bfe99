-- What comes of some sources, step by step.
use Rattle.std.proofs.Common.{[], ◌∷◌, ◌++◌, refl}
use Rattle.blang.specs.declared.token.Token.TheVariants as token
use Rattle.blang.specs.declared.token.Keyword.TheVariants as keyword
use Rattle.blang.specs.declared.token.Letters.TheVariants as letters
use Rattle.blang.specs.Trees.{mark, Identifier, Literal, Number, If, IfElse, Empty, keyword_mark, Simple}
use Rattle.blang.specs.Cut.{placed}
use Rattle.blang.specs.Scan.{name_fault}
use Rattle.bgrammar.specs.Rows.{name, word, assign, function, body}
use Rattle.bgrammar.specs.CodeRows.{number, semicolon}
use Rattle.bgrammar.specs.OutcomeRows.{OutcomeRows, open_function, else_empty, last}
use Rattle.bgrammar.proofs.GoesLaws.{goes_stop, goes_after, goes_fault}

pub outcome_rows : OutcomeRows
outcome_rows = record {
  defined_twice =
      let again : Identifier = record { text = 97 ∷ []; line = 2 } in
      goes_after [] (name 97 ∷ semicolon ∷ []) (Simple (word 97) []) (placed (token.Name (97 ∷ [])) 2 ∷ last token.Semicolon) _ refl refl
      (goes_fault ((97 ∷ []) ∷ []) (placed (token.Name (97 ∷ [])) 2 ∷ placed token.Semicolon 2 ∷ []) (Simple again []) (mark token.End ∷ []) (name_fault letters.Redeclared again) refl refl refl);
  after_a_function =
      goes_after [] open_function (body (If (Literal (Number 1)) Empty)) (last (token.Number 5)) _ refl refl
      (goes_stop ((102 ∷ []) ∷ []) [] (placed (token.Number 5) 2) (mark token.End ∷ []) refl (λ e n. cc));
  after_an_else =
      goes_after [] (open_function ++ else_empty) (body (IfElse (Literal (Number 1)) Empty Empty)) (last (token.Number 5)) _ refl refl
      (goes_stop ((102 ∷ []) ∷ []) [] (placed (token.Number 5) 2) (mark token.End ∷ []) refl (λ e n. cc));
  in_a_function =
      goes_stop [] (function (mark token.OpenBrace ∷ number 1 ∷ assign ∷ number 2 ∷ semicolon ∷ [])) (placed token.CloseParen 2) (mark token.End ∷ []) refl (λ e n. cc);
  in_an_else =
      goes_stop [] (open_function ++ keyword_mark keyword.Else ∷ []) (placed token.CloseParen 2) (mark token.End ∷ []) refl (λ e n. cc);
}
