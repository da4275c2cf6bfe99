use Rattle.std.proofs.Common.{◌≡◌, ◌%◌, ◌++◌, codes}
use Rattle.std.proofs.lemmas.Result.{on_ok_weaker}
use Rattle.btools.specs.Characters.{shown_byte, shown_high}
use Rattle.btools.proofs.AddedTexts.{high_added, nothing_added, piece}
use Rattle.btools.proofs.characters.push_characters.Goals as goal
use Rattle.btools.proofs.characters.push_characters.Goals.{then-word-ge256+in_ok-push_byte-2, else-word-ge256}

pub returns : goal.returns
returns c =
    let word = c.args.word in
    let start = c.args.text.now in
    let quote = codes "'" in
    let low = shown_byte (word % 256) in
    let t1 = c.push.new.self in
    let t2 = c.push_byte.new.text in
    let t3 = c.if-word-ge256.text in
    let high : t3 ≡ t2 ++ shown_high word = elim c.if-word-ge256.branch [
      | then-word-ge256+in_ok-push_byte-2 w ↦ high_added t2 t3 word w.if-word-ge256.true (rw w.text-is w.in_ok-push_byte-2.ensures)
      | else-word-ge256 w ↦ nothing_added t2 t3 word w.if-word-ge256.false w.text-is
    ] in
    let before = piece start t1 t2 quote low c.in_ok-push.ensures c.in_ok-push_byte.ensures in
    let both = piece start t2 t3 (quote ++ low) (shown_high word) before high in
    on_ok_weaker c.push-2.result (piece start t3 c.push-2.new.self (quote ++ low ++ shown_high word) quote both) c.push-2.ensures
