use Rattle.std.proofs.Common.{◌≡◌, map, take}
use Rattle.bsources.specs.Files.{followed}
use Rattle.bembed.specs.WithFiles.{AreNamed, text_of}
use Rattle.bembed.proofs.joined.follow.Given as goal

abbrev pub invariant-loop-file : goal.invariant-loop-file
invariant-loop-file l = AreNamed (map text_of (take l.file-index l.files))
    × (l.rest ≡ followed (map text_of (take l.file-index l.files)))
