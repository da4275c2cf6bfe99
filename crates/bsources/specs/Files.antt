-- Promise: a source in several files, by the types of the code.
pub use Rattle.bsources.specs.FileLines.{File, Files, Followed, Line, NamedText, beyond_first, beyond_first_among, file_in, file_of, file_shown, followed, following, joined, later_shown, line_among, line_shown, lines_in, own_line, own_line_among}
use Rattle.bsources.specs.declared.files.SourceFiles.{SourceFiles}

abbrev pub files_shown : SourceFiles → Files
files_shown files = record { first = file_shown files.first; rest = files.rest.now.files }
