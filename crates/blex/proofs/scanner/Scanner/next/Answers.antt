use Rattle.std.proofs.Common.{◌≡◌, ◌∙◌, ◌≤◌, ap, [], arith, drop, false, length, subst, sym}
use Rattle.std.proofs.lemmas.List.{take_rest}
use Rattle.bword.specs.ByteEnds.{Unread, incoming_of, most}
use Rattle.blex.specs.Places.{PassesFirst, Scanner, after_blanks}
use Rattle.blex.proofs.PlaceSteps.{Ends, ends_after, finds}
use Rattle.blex.proofs.scanner.Scanner.next.Goals as goal

-- what the piece is and where it ends
ended : (c : goal.After-self-2-1) → Ends c.self.inside.edition c.self.inside.bytes.now c.self.inside.at c.in-Ok.lexeme c.first_piece.new.source.line c.saturating_sub-self-inside.result
ended c =
    let bytes = c.self.inside.bytes.now in
    let first = c.self.inside.at in
    let small : length bytes ≤ most = omega (arith, c.self.told.0) in
    let memory : c.new.result ≡ record { left = drop first bytes; is_over = false } = c.new.ensures ∙ ap (λ b. record { left = b; is_over = false }) (take_rest bytes first) in
    let old : c.new-source.result ≡ record { ahead = []; line = c.self.inside.line; end = incoming_of (record { left = drop first bytes; is_over = false }); lender = []; edition = c.self.inside.edition } =
    c.new-source.ensures ∙ ap (λ (m : Unread). record { ahead = []; line = c.self.inside.line; end = incoming_of m; lender = []; edition = c.self.inside.edition }) memory in
    subst (λ e. Ends c.self.inside.edition bytes first c.in-Ok.lexeme c.first_piece.new.source.line e) (sym c.saturating_sub-self-inside.ensures)
    (ends_after c.self.inside.edition bytes first c.self.inside.line [] c.in-Ok.lexeme c.first_piece.new.source c.left.result c.self.invariant.0 small c.self.invariant.1
    (subst (λ s. PassesFirst s c.in-Ok.lexeme c.first_piece.new.source) old c.in-Ok.ensures.ok) c.left.ensures)

pub invariant_of-self : goal.invariant_of-self
invariant_of-self c = let e = ended c in (e.within, c.line-self-inside.ensures ∙ e.line_is)

pub returns-clause-finds : goal.returns-clause-finds
returns-clause-finds c =
    let e = ended c in
    let at : c.self.inside.at ≡ after_blanks c.args.self.now.source c.args.self.now.at = ap (λ (s : Scanner). s.at) c.self.view_is ∙ c.pass_blanks.ensures.at in
    finds c.args.self.now c.self.inside.edition c.self.inside.bytes.now c.self.inside.at c.self.inside.line c.saturating_sub-self-inside.result c.first_piece.new.source.line c.in-Ok.lexeme e c.self.invariant.1 at
    (ap (λ (s : Scanner). s.edition) c.self.view_is ∙ c.pass_blanks.ensures.kept.0) (ap (λ (s : Scanner). s.source) c.self.view_is ∙ c.pass_blanks.ensures.kept.1)

pub returns-clause-grows : goal.returns-clause-grows
returns-clause-grows c = λ other.
    let e = ended c in
    let at : c.self.inside.at ≡ after_blanks c.args.self.now.source c.args.self.now.at = ap (λ (s : Scanner). s.at) c.self.view_is ∙ c.pass_blanks.ensures.at in
    omega (arith, e.grows other)

pub returns-clause-after : goal.returns-clause-after
returns-clause-after c =
    let at : c.self.inside.at ≡ after_blanks c.args.self.now.source c.args.self.now.at = ap (λ (s : Scanner). s.at) c.self.view_is ∙ c.pass_blanks.ensures.at in
    omega arith

pub returns-clause-order : goal.returns-clause-order
returns-clause-order c = omega (arith, (ended c).end_is)
