use Rattle.std.proofs.Common.{◌≡◌, ◌≤◌, ◌*◌, ◌∙◌, ℕ, List, ap, length, subst, sym}
use Rattle.bformat.specs.Pieces.{pieces_of}
use Rattle.bformat.specs.declared.formatting.TheConstants.{MOST_BYTES}
use Rattle.bformat.proofs.Upcoming.{same_tokens}
use Rattle.bformat.proofs.formatting.layout.Goals as goal

pub returns-then-has_pieces : goal.returns-then-has_pieces
returns-then-has_pieces c =
    let same : pieces_of c.args.edition c.in_ok-text.text ≡ pieces_of c.args.edition c.args.source.now =
    ap (pieces_of c.args.edition) (sym c.as_slice-2.ensures) ∙ c.has_pieces.ensures c.if-has_pieces.true ∙ c.requires.all in
    record {
      pieces = same;
      tokens = same_tokens c.args.edition c.args.source.now c.in_ok-text.text same;
      size = subst (λ (t : List ℕ). length t ≤ MOST_BYTES * length c.args.source.now) c.as_slice.ensures
          (c.is_within.ensures c.if-not-is_within.false);
    }
