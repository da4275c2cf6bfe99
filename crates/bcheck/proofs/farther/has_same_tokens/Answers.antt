use Rattle.std.proofs.Common.{◌∙◌, ◌≡◌, ◌==◌, arith, length, subst, sym, true}
use Rattle.std.proofs.lemmas.Bool.{not-false}
use Rattle.std.proofs.lemmas.Bool.Decides.{nat_tests}
use Rattle.std.proofs.lemmas.List.{nil_from_length}
use Rattle.std.specs.Cmp.Lexicographic.{bytes_decides}
use Rattle.blex.proofs.PlaceSteps.{found_in}
use Rattle.bcheck.proofs.MendSteps.{Agrees, agrees_all, agrees_more, agrees_wrong, text_of}
use Rattle.bcheck.proofs.farther.has_same_tokens.Goals as goal

pub returns-then-is_same_wrong : goal.returns-then-is_same_wrong
returns-then-is_same_wrong c =
    let i = c.loop-scanner.invariant in
    let edition = c.args.edition in
    let piece = found_in _ _ _ edition c.args.one.now c.next-piece.ensures.finds i.edition i.source in
    let found = found_in _ _ _ edition c.args.other.now c.next-found.ensures.finds i.other_edition i.other_source in
    λ yes.
    agrees_wrong edition c.args.one.now c.args.other.now c.loop-scanner.scanner.at c.loop-scanner.others.at
    c.next-piece.result c.next-found.result piece found i.agrees (c.is_same_wrong.ensures c.if-is_same_wrong.true)

pub returns-then-is_empty : goal.returns-then-is_empty
returns-then-is_empty c =
    let i = c.loop-scanner.invariant in
    let edition = c.args.edition in
    let one = c.args.one.now in
    let other = c.args.other.now in
    let piece = found_in _ _ _ edition one c.next-piece.ensures.finds i.edition i.source in
    let found = found_in _ _ _ edition other c.next-found.ensures.finds i.other_edition i.other_source in
    let same : text_of one c.next-piece.result ≡ text_of other c.next-found.result =
    (bytes_decides _ _).0 (not-false _ (sym c.ne.ensures ∙ c.if-ne.false)) in
    let empty : (length (text_of one c.next-piece.result) == 0) ≡ true = sym c.is_empty.ensures ∙ c.if-is_empty.true in
    let none : length (text_of one c.next-piece.result) ≡ 0 = grind (arith, nat_tests, empty) in
    λ yes.
    agrees_all edition one other c.loop-scanner.scanner.at c.loop-scanner.others.at c.next-piece.result
    c.next-found.result piece found i.agrees same
    (nil_from_length (text_of one c.next-piece.result) none)

pub loop-scanner-preserved : goal.loop-scanner-preserved
loop-scanner-preserved c =
    let i = c.loop-scanner.invariant in
    let edition = c.args.edition in
    let one = c.args.one.now in
    let other = c.args.other.now in
    let piece = found_in _ _ _ edition one c.next-piece.ensures.finds i.edition i.source in
    let found = found_in _ _ _ edition other c.next-found.ensures.finds i.other_edition i.other_source in
    let same : text_of one c.next-piece.result ≡ text_of other c.next-found.result =
    (bytes_decides _ _).0 (not-false _ (sym c.ne.ensures ∙ c.if-ne.false)) in
    let more =
    agrees_more edition one other c.loop-scanner.scanner.at c.loop-scanner.others.at c.next-piece.result
    c.next-found.result piece found i.agrees same in
    record {
      agrees =
          subst (λ at. Agrees edition one other at c.next-found.new.self.at) (sym c.next-piece.ensures.finds.at)
          (subst (λ at. Agrees edition one other c.next-piece.result.end at) (sym c.next-found.ensures.finds.at) more);
      edition = c.next-piece.ensures.finds.edition ∙ i.edition;
      source = c.next-piece.ensures.finds.source ∙ i.source;
      other_edition = c.next-found.ensures.finds.edition ∙ i.other_edition;
      other_source = c.next-found.ensures.finds.source ∙ i.other_source;
      within = rw c.next-piece.ensures.finds.at (rw i.source at c.next-piece.ensures.within);
    }
