-- Promise: what no listing and no map is, of each source and whatever its ends do.
use Rattle.std.specs.Prelude.{◌≡◌, ℕ, List, [], Option, Some, None, ◌⊎◌}
use Rattle.bword.specs.declared.edition.Edition.{Edition}
use Rattle.bword.specs.ByteEnds.{Grew, Writes}
use Rattle.blang.specs.declared.run.LoadFault.{LoadFault}
use Rattle.blang.specs.declared.status.TheConstants.{DEVICE, DONE, FAULT, REFUSED, WRONG_COMMAND}
use Rattle.blang.specs.declared.token.Diagnostic.{Diagnostic}
use Rattle.blang.specs.Compiles.{Compilation, CompilesTo, line_of}
use Rattle.blang.specs.Cut.{tokens_from}
use Rattle.blang.specs.Layout.{load_fault}
use Rattle.blang.specs.Lines.{program_lines}
use Rattle.blang.specs.Machine.{image_of}
use Rattle.btools.specs.ProgramsExcluded.{code_in}
use Rattle.btools.specs.FrameNames.{HasNames}
use Rattle.btools.specs.ProgramLines.{token_lines}
use Rattle.btools.specs.Origins.{Source}
use Rattle.btools.specs.Programs.{ToldEnds, load_line}
use Rattle.btools.specs.declared.names.Frame.{Frame}
use Rattle.blist.specs.declared.listing.TheConstants.{UNDEFINED}
use Rattle.blist.specs.Listings.{Lists, list_text, wanted}
use Rattle.blist.specs.Maps.{Maps, map_text}

module _ (edition : Edition) (source : List ℕ) (r : Compilation) (g : CompilesTo [] (tokens_from edition 1 source) r)
    (ends : ToldEnds) where
  -- What is excluded of each tool that tells of a program, by the statuses that it may have.
  pub record WrongStatuses (Gives : ℕ → Type 0) : Type 0 where
    -- 1 for a source without a fault, or with another line, or with anything else written
    pub fault : Gives FAULT
        → ((d : Diagnostic) × (r.stop ≡ Some d) × Writes ends.line (line_of d) ends.line_after)
        × (ends.out_after ≡ ends.out)
    -- 132 for definitions that load, or with another line, or with anything else written
    pub unloaded : Gives REFUSED
        → ((f : LoadFault) × (text : List ℕ) × (load_fault (code_in edition source r g) ≡ Some f)
        × (load_line f ≡ Some text) × Writes ends.line text ends.line_after)
        × (ends.out_after ≡ ends.out)
    -- 133 where no write failed
    pub device : Gives DEVICE
        → Grew ends.out.failures ends.out_after.failures ⊎ Grew ends.line.failures ends.line_after.failures

  -- What is excluded of a listing.
  pub record WrongListings (name : Option (List ℕ)) : Type 0 where
    -- 0 for a source with a fault, for what doesn't load, for a name that isn't defined, or with other rows, as with
    -- another line of the source, or another name of a word
    pub done : Lists (Source edition) source name ends DONE
        → (r.stop ≡ None) × (load_fault (code_in edition source r g) ≡ None)
        × (wanted name (code_in edition source r g) ≡ [] → ⊥)
        × ((frames : List Frame) × HasNames edition source frames
        × Writes ends.out (list_text (image_of (code_in edition source r g)) source name
        (code_in edition source r g) (program_lines g.definitions (token_lines edition source)) frames) ends.out_after)
    -- 135 for a name that is defined, or with another line, or with anything else written
    pub unknown : Lists (Source edition) source name ends WRONG_COMMAND
        → (wanted name (code_in edition source r g) ≡ []) × Writes ends.line UNDEFINED.now ends.line_after
        × (ends.out_after ≡ ends.out)
    pub statuses : WrongStatuses (Lists (Source edition) source name ends)

  -- What is excluded of a map.
  pub record WrongMaps : Type 0 where
    -- 0 for a source with a fault, for what doesn't load, or with another map
    pub done : Maps (Source edition) source ends DONE
        → (r.stop ≡ None) × (load_fault (code_in edition source r g) ≡ None)
        × Writes ends.out (map_text (image_of (code_in edition source r g)) (code_in edition source r g))
        ends.out_after
    -- 135
    pub unknown : Maps (Source edition) source ends WRONG_COMMAND → ⊥
    pub statuses : WrongStatuses (Maps (Source edition) source ends)

abbrev pub NoListings : Type 0
NoListings =
    (edition : Edition) (source : List ℕ) (r : Compilation) (g : CompilesTo [] (tokens_from edition 1 source) r)
    (ends : ToldEnds) (name : Option (List ℕ)) → WrongListings edition source r g ends name

abbrev pub NoMaps : Type 0
NoMaps =
    (edition : Edition) (source : List ℕ) (r : Compilation) (g : CompilesTo [] (tokens_from edition 1 source) r)
    (ends : ToldEnds) → WrongMaps edition source r g ends
