use Rattle.std.proofs.Common.{◌≡◌, ◌++◌, drop}
use Rattle.bport.specs.Changes.{line_on}
use Rattle.bport.specs.Staying.{notes_text}
use Rattle.bport.proofs.listing.push_notes.Given as goal

abbrev pub invariant-loop-note : goal.invariant-loop-note
invariant-loop-note l = record {
  told : l.text ++ notes_text l.file l.source (drop l.note-index l.notes) ≡ l.fn.text ++ notes_text l.file l.source l.notes;
  line : l.line ≡ line_on l.source 1 0 l.at;
}
