-- Inner words: rows that were added to a picture.
use Rattle.std.specs.Prelude.{◌≡◌, ◌++◌, List, map, zip}
use Rattle.btools.specs.FrameNames.{frame_seen}
use Rattle.btools.specs.Functions.{entries_of}
use Rattle.btools.specs.declared.program.Program.{Program}
use Rattle.btools.specs.declared.tables.Tables.{Tables}
use Rattle.bdraw.specs.Pictures.{DrawnProgram, PictureRow, bottom, stacked}
use Rattle.bdraw.specs.declared.drawing.Drawer.{Drawer}
use Rattle.bdraw.specs.declared.picture.Picture.{Picture}

-- what is drawn of a program, whose functions are in a table
abbrev pub drawn_in : Program → Tables → DrawnProgram
drawn_in program tables = record {
  definitions = program.definitions.items;
  functions = zip (entries_of tables) (map frame_seen program.names.frames.items);
  image = program.image;
}

-- These rows were added below the others.
pub record Adds (rows : List PictureRow) (old new : Picture) : Type 0 where
  pub shapes : new.shapes.items ≡ old.shapes.items ++ stacked old.height rows
  pub height : new.height ≡ bottom old.height rows

-- Somebody who draws still has the same program.
abbrev pub IsOf : (first now : Drawer) → Type 0
IsOf first now = (now.program ≡ first.program) × (now.tables ≡ first.tables)

-- A picture has these rows, from the first place on.
pub record Holds (rows : List PictureRow) (p : Picture) : Type 0 where
  pub shapes : p.shapes.items ≡ stacked 56 rows
  pub height : p.height ≡ bottom 56 rows
