-- Inner words: what a keeper of names has kept.
use Rattle.std.specs.Prelude.{map, Option, Some, None, if◌then◌else◌}
use Rattle.bparse.specs.Locals.{Notes}
use Rattle.btools.specs.FrameNames.{frame_seen}
use Rattle.btools.specs.declared.names.Names.{Names}
use Rattle.btools.specs.declared.names.NameKeeper.{NameKeeper}

-- the lines and the names of frames
abbrev pub notes_in : Names → Notes
notes_in n = record { lines = n.lines.items; frames = map frame_seen n.frames.items }

-- none once memory was refused
abbrev pub notes_kept : NameKeeper → Option Notes
notes_kept k = if k.is_refused then None else Some (notes_in k.names)
