use Rattle.std.proofs.Common.{◌≡◌, ◌+◌, ℕ, List, length, sym, ap, ◌∙◌, subst, is_none}
use Rattle.std.specs.Prelude.{slice_get}
use Rattle.std.specs.Global.{Vec}
use Rattle.bnames.specs.declared.name_table.Entry.{Entry}
use Rattle.bnames.specs.NameTables.{Ascends, joined_entries, offset}
use Rattle.bnames.proofs.NameTableFinds.{filled, found, gap_here, read_piece, piece_ascends, ascends}
use Rattle.bnames.proofs.name_table.gap_of.Goals as goal

pub piece_for-piece-requires-clause-filled : goal.piece_for-piece-requires-clause-filled
piece_for-piece-requires-clause-filled c = filled c.args.pieces.now c.requires.table.full

pub search-requires : goal.search-requires
search-requires c =
    let ps = c.args.pieces.now in
    let i = c.piece_for-piece.result in
    let there = read_piece ps c.args.name.now i c.index-pieces-piece.result c.piece_for-piece.ensures.place c.index-pieces-piece.is in
    subst (λ (l : List Entry). Ascends l) (sym c.as_slice.ensures.value) (piece_ascends ps i c.index-pieces-piece.result (ascends (joined_entries ps) c.requires.table.ascends) there)

pub returns-in-Ok : goal.returns-in-Ok
returns-in-Ok c =
    let ps = c.args.pieces.now in
    let i = c.piece_for-piece.result in
    let piece = c.index-pieces-piece.result in
    let there = read_piece ps c.args.name.now i piece c.piece_for-piece.ensures.place c.index-pieces-piece.is in
    let f = c.in-Ok.ensures.place in
    ap is_none (found ps (length (joined_entries ps)) i c.in-Ok.field-0 piece c.args.name.now f.entry c.requires.table there
    (ap (λ (l : List Entry). slice_get l c.in-Ok.field-0) (sym c.as_slice.ensures.value) ∙ f.there) f.same)

pub returns-in-Err : goal.returns-in-Err
returns-in-Err c =
    let ps = c.args.pieces.now in
    gap_here ps (length (joined_entries ps)) c.piece_for-piece.result c.in-Err.place c.index-pieces-piece.result c.as_slice.result.now c.args.name.now c.requires.table
    c.piece_for-piece.ensures.place c.index-pieces-piece.is c.as_slice.ensures.value c.in-Err.ensures.place
