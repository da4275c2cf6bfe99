use Rattle.std.proofs.Common.{◌≡◌, ◌++◌, map, option_map, take}
use Rattle.blist.specs.ListingTexts.{code_rows, number_before}
use Rattle.blist.proofs.listing.push_code.Given as goal

abbrev pub invariant-loop-place : goal.invariant-loop-place
invariant-loop-place l = record {
  before : l.before ≡ number_before l.told.lines.now l.place;
  text : l.text ≡ l.fn.text ++ code_rows (map (λ line. line.now) l.told.texts.now) l.told.lines.now (option_map (λ f. f.now) l.told.frame) (take l.place l.code);
}
