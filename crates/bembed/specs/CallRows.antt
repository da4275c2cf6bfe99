-- Closed facts: the editions by their numbers, the streams over texts and rooms, and what is run over them.
use Rattle.std.specs.Prelude.{◌≡◌, ℕ, List, [], ◌∷◌, codes, map, Some, None, false, true, refl}
use Rattle.std.proofs.Common.{◌∙◌, arith, sym}
use Rattle.std.proofs.lemmas.Str.{is_utf8-from_IsUtf8}
use Rattle.std.specs.Str.{chars, is_utf8}
use Rattle.bword.specs.ByteEnds.{Outgoing, Unread, incoming_of, most}
use Rattle.bword.specs.declared.edition.Edition.TheVariants as editions
use Rattle.blang.specs.Compiles.{Compiles, CompileHeadline}
use Rattle.blang.specs.Headline.{GoesOff, Headline}
use Rattle.blang.specs.Reports.{Reported, run_ends}
use Rattle.bcheck.specs.Checks.{Checks}
use Rattle.bcheck.specs.declared.form.FindingForm.TheVariants as form
use Rattle.bformat.specs.Formats.{Format, Formats}
use Rattle.brun.specs.Migrates.{Migrates}
use Rattle.brun.specs.Runs.{RunsText}
use Rattle.bwhere.specs.Wheres.{LocatesCode}
use Rattle.bcount.specs.Counts.{Counts}
use Rattle.bcount.specs.declared.table.CountStyle.TheVariants as style
use Rattle.blist.specs.Listings.{Lists}
use Rattle.blist.specs.Maps.{Maps}
use Rattle.bshow.specs.Shows.{Shows}
use Rattle.bsources.specs.FileLines.{NamedText}
use Rattle.btools.specs.Origins.{Source}
use Rattle.btools.specs.Programs.{told_ends}
use Rattle.btrace.specs.Traces.{Traces}
use Rattle.bwatch.specs.declared.trail.TraceRows.TheVariants as rows
use Rattle.bembed.specs.Asks.{ChecksIn, FormatsIn, SaysIn, check_of, format_of}
use Rattle.bembed.specs.Calls.{CompilesIn, GoesIn, LocatesIn, MigratesIn, RunsIn, compile_run, edition_of, ends_of}
use Rattle.bembed.specs.Looks.{CountsWhole, ListsWhole, MapsWhole, ShowsWhole, TracesWhole, rows_of, style_of}
use Rattle.bembed.specs.Wholes.{Whole, alone, whole_of}
use Rattle.bembed.specs.WithFiles.{AreNamed, AskedWith, ChecksWhole, CompilesWhole, GoesWhole, done, text_of, unread}
use Rattle.bembed.specs.declared.asking.TheConstants.{VERSION}
use Rattle.bembed.specs.declared.joined.NamedFile.{NamedFile}
use Rattle.bembed.specs.Rooms.{Filled, FailsFull, Overflow, Room, Untouched, overflow_of, room_of, stream_of}

numbers : map edition_of (0 ∷ 1 ∷ 2 ∷ 3 ∷ 255 ∷ []) ≡ (None ∷ Some editions.One ∷ Some editions.Two ∷ None ∷ None ∷ [])
numbers = refl

abbrev all_fits : Overflow
all_fits = overflow_of 0 None

-- a byte 9 had no room in writes that failed so often
abbrev nine_over : (failures : ℕ) → Overflow
nine_over failures = overflow_of failures (Some 9)

-- of a room just what was written is seen, and one byte that had no room
a_full_room : Outgoing.written (room_of (7 ∷ 8 ∷ []) 2 all_fits) ≡ Some (7 ∷ 8 ∷ [])
a_full_room = refl

one_over : Outgoing.written (room_of (7 ∷ 8 ∷ []) 2 (nine_over 1)) ≡ Some (7 ∷ 8 ∷ 9 ∷ [])
one_over = refl

room_left : Outgoing.written (room_of (7 ∷ 8 ∷ []) 1 all_fits) ≡ Some (7 ∷ [])
room_left = refl

failures_told : map (λ n. Outgoing.failures (room_of (7 ∷ 8 ∷ []) 2 (nine_over n))) (1 ∷ 255 ∷ most ∷ [])
    ≡ 1 ∷ 255 ∷ most ∷ []
failures_told = refl

-- a write fails in a full room where a byte has none, and in no other
fails_in_a_full_room : FailsFull (7 ∷ 8 ∷ []) 2 (nine_over 1)
fails_in_a_full_room = (λ failed. (refl, refl), λ none. absurd (omega (arith, none)))

what_fits_is_dropped : FailsFull (7 ∷ 8 ∷ []) 1 (nine_over 1) → ⊥
what_fits_is_dropped full = let is_full = (full.0 (omega arith)).0 in omega (arith, is_full)

nothing_over : FailsFull (7 ∷ 8 ∷ []) 2 (overflow_of 1 None) → ⊥
nothing_over full = let over = (full.0 (omega arith)).1 in cc

over_without_failure : FailsFull (7 ∷ 8 ∷ []) 2 (nine_over 0) → ⊥
over_without_failure full = let over = full.1 refl in cc

-- a room of two bytes, before and after so many of them were written
abbrev two : (count : ℕ) → Room
two count = record { before = 0 ∷ 8 ∷ []; after = 7 ∷ 8 ∷ []; count = count }

abbrev one : (count : ℕ) → Room
one count = record { before = 0 ∷ []; after = 9 ∷ []; count = count }

more_than_there_is : Filled (one 2) (nine_over 1) → ⊥
more_than_there_is filled = let within = filled.within in omega arith

-- one byte was written in a room of three, and this is after it
abbrev three : (rest : List ℕ) → Room
three rest = record { before = 0 ∷ 5 ∷ 6 ∷ []; after = 7 ∷ rest; count = 1 }

left_as_it_was : Filled (three (5 ∷ 6 ∷ [])) all_fits
left_as_it_was = record {
  size = refl;
  within = omega arith;
  kept = refl;
  full = (λ failed. absurd (failed refl), λ none. refl);
}

cleared : Filled (three (0 ∷ 0 ∷ [])) all_fits → ⊥
cleared filled = let kept = filled.kept in cc

last_byte_changed : Filled (three (5 ∷ 0 ∷ [])) all_fits → ⊥
last_byte_changed filled = let kept = filled.kept in cc

touched : Untouched (one 0) → ⊥
touched untouched = let same = untouched.same in cc

-- the end over a text that was not read yet, and the streams over the two rooms
abbrev text_ahead : List ℕ → Unread
text_ahead bytes = record { left = bytes; is_over = false }

abbrev stream : (written : List ℕ) (failures : ℕ) → Outgoing
stream written failures = record { written = Some written; failures = failures; refusals = 0 }

-- a run has all of the input ahead, and two streams that have written nothing
ends_given : (after : Unread) → ends_of (97 ∷ 98 ∷ []) after (two 1) (one 1) all_fits (nine_over 3)
    ≡ run_ends (incoming_of (text_ahead (97 ∷ 98 ∷ []))) (incoming_of after) (stream [] 0) (stream (7 ∷ []) 0)
    (stream [] 0) (stream (9 ∷ 9 ∷ []) 3)
ends_given after = refl

-- a run of the compiler has all of the source ahead
compile_given : (after : Unread)
    → compile_run editions.Two (97 ∷ 98 ∷ []) after (two 1) (one 1) all_fits (nine_over 3) 133 ≡ record {
      edition = editions.Two;
      source = incoming_of (text_ahead (97 ∷ 98 ∷ []));
      source_after = incoming_of after;
      code = stream [] 0;
      code_after = stream (7 ∷ []) 0;
      line = stream [] 0;
      line_after = stream (9 ∷ 9 ∷ []) 3;
      status = 133;
    }
compile_given after = refl

-- what is done is done for the texts, the edition and the steps that are given
compiled : (c : CompilesIn (97 ∷ []) (two 1) (one 1) 133 editions.Two)
    → Compiles (compile_run editions.Two (97 ∷ []) c.source_after (two 1) (one 1) c.out_over c.line_over 133)
    × CompileHeadline (compile_run editions.Two (97 ∷ []) c.source_after (two 1) (one 1) c.out_over c.line_over 133)
compiled c = (c.compiles, c.headline)

gone : (g : GoesIn 5 (97 ∷ []) (98 ∷ []) (two 1) (one 1) 3 editions.Two)
    → GoesOff editions.Two 5 (incoming_of (text_ahead (97 ∷ []))) (incoming_of g.source_after)
    (ends_of (98 ∷ []) g.input_after (two 1) (one 1) g.out_over g.line_over) 3
    × Headline editions.Two 5 (incoming_of (text_ahead (97 ∷ []))) (incoming_of g.source_after)
    (ends_of (98 ∷ []) g.input_after (two 1) (one 1) g.out_over g.line_over) 3
gone g = (g.goes, g.headline)

ran : (r : RunsIn 5 (97 ∷ []) (98 ∷ []) (two 1) (one 1) 3)
    → RunsText 5 (97 ∷ []) (ends_of (98 ∷ []) r.input_after (two 1) (one 1) r.out_over r.line_over) 3
ran r = r.runs

checked : (c : ChecksIn (97 ∷ []) (two 1) (record { before = []; after = []; count = 0 }) 1 editions.Two)
    → Checks (check_of editions.Two (alone (97 ∷ [])) (97 ∷ []) (stream [] 0) (stream_of (two 1) c.out_over) 1)
checked c = c.checks

-- a check is one for an editor, of a source by itself
check_given : check_of editions.Two (alone (97 ∷ 10 ∷ [])) (97 ∷ 10 ∷ []) (stream [] 0) (stream (7 ∷ []) 0) 1 ≡ record {
  edition = editions.Two;
  form = form.Json;
  files = record { first = record { name = 45 ∷ []; lines = 2 }; rest = [] };
  source = 97 ∷ 10 ∷ [];
  out = stream [] 0;
  out_after = stream (7 ∷ []) 0;
  status = 1;
}
check_given = refl

formatted : (f : FormatsIn (97 ∷ []) (two 1) (one 1) 0 editions.Two) → Formats (format_of editions.Two (97 ∷ [])
    (stream [] 0) (stream_of (two 1) f.out_over) (stream [] 0) (stream_of (one 1) f.line_over) 0)
formatted f = f.formats

-- what is laid out is written, and not only looked at
format_given : Format.is_check
    (format_of editions.Two (97 ∷ []) (stream [] 0) (stream [] 0) (stream [] 0) (stream [] 0) 0) ≡ false
format_given = refl

-- the version of this library
version : VERSION.now ≡ codes "1.0.0, proved with the Rattle logic dac8208d650f15bf"
version = refl

said : (s : SaysIn (97 ∷ []) (two 1) (record { before = []; after = []; count = 0 }) 0)
    → Reported (97 ∷ []) 0 (stream [] 0) (stream_of (two 1) s.out_over) 0
said s = s.says

located : (l : LocatesIn 5 (97 ∷ []) (98 ∷ []) (two 1) (one 1) 3)
    → LocatesCode 5 (97 ∷ []) (ends_of (98 ∷ []) l.input_after (two 1) (one 1) l.out_over l.line_over) 3
located l = l.locates

migrated : (m : MigratesIn (97 ∷ []) (two 1) (one 1) 132) → Migrates (record {
  input = incoming_of (text_ahead (97 ∷ []));
  input_after = incoming_of m.code_after;
  out = stream [] 0;
  out_after = stream_of (two 1) m.out_over;
}) (stream [] 0) (stream_of (one 1) m.line_over) 132
migrated m = m.migrates

-- a source and a file that follows it, with a newline between
abbrev after : List NamedText
after = record { name = 98 ∷ []; text = 99 ∷ 10 ∷ [] } ∷ []

whole_given : whole_of editions.Two (97 ∷ []) after ≡ record {
  edition = editions.Two;
  text = 97 ∷ 10 ∷ 99 ∷ 10 ∷ [];
  files = record {
    first = record { name = 45 ∷ []; lines = 1 };
    rest = record { name = 98 ∷ []; lines = 2 } ∷ [];
  };
}
whole_given = refl

file_given : (file : NamedFile) → text_of file ≡ record { name = file.name.now; text = file.text.now }
file_given file = refl

-- what is done is done with this source in this edition, and with each of its files
abbrev asked_of_two : (status : ℕ) → (Whole → Type 0) → Type 0
asked_of_two status P = AskedWith 2 (97 ∷ []) after (two 1) (one 1) status P

with_this : asked_of_two 0 (λ it. it.text ≡ []) → ⊥
with_this (done it read empty) = let whole = read.whole in let text = empty in cc
with_this (unread out line why) = let none = out.none in omega (arith, none)

-- where there is no such edition, nothing is done, and the status says so
no_edition : (status : ℕ) (P : Whole → Type 0) → AskedWith 3 (97 ∷ []) after (two 0) (one 0) status P → status ≡ 135
no_edition status P (done it read does) = let some = read.edition in cc
no_edition status P (unread out line why) = why

-- a name that isn't UTF-8 is refused, and nothing is done with its file
abbrev unnamed : List NamedText
unnamed = record { name = 255 ∷ []; text = [] } ∷ []

wrong_byte : is_utf8 (255 ∷ []) ≡ false
unfolding is_utf8 chars
wrong_byte = refl

names : AreNamed unnamed → ⊥
names named =
    let first = named 0 (record { name = []; text = [] }) (omega arith) in
    let utf8 : false ≡ true = sym wrong_byte ∙ is_utf8-from_IsUtf8 (255 ∷ []) first in cc

-- the last so many steps have rows; or, where none are asked for, those from a number on
rows_asked : (rows_of 3 0 ≡ rows.From 3) × (rows_of 3 2 ≡ rows.Last 2)
rows_asked = (refl, refl)

styles : map style_of (0 ∷ 1 ∷ 255 ∷ []) ≡ style.Table ∷ style.Json ∷ style.Json ∷ []
styles = refl

-- the whole is compiled, run, checked, listed, laid out, traced, counted and shown
abbrev both : Whole
both = whole_of editions.Two (97 ∷ []) after

compiled_with : CompilesWhole (two 1) (one 1) 133 both
    → CompilesIn (97 ∷ 10 ∷ 99 ∷ 10 ∷ []) (two 1) (one 1) 133 editions.Two
compiled_with c = c

gone_with : GoesWhole 5 (98 ∷ []) (two 1) (one 1) 3 both
    → GoesIn 5 (97 ∷ 10 ∷ 99 ∷ 10 ∷ []) (98 ∷ []) (two 1) (one 1) 3 editions.Two
gone_with g = g

checked_with : (c : ChecksWhole (two 1) (record { before = []; after = []; count = 0 }) 1 both)
    → Checks (check_of editions.Two both.files (97 ∷ 10 ∷ 99 ∷ 10 ∷ []) (stream [] 0) (stream_of (two 1) c.out_over) 1)
checked_with c = c.checks

listed : (l : ListsWhole (two 1) (one 1) 0 both) → Lists (Source editions.Two) (97 ∷ 10 ∷ 99 ∷ 10 ∷ []) None
    (told_ends (stream [] 0) (stream_of (two 1) l.out_over) (stream [] 0) (stream_of (one 1) l.line_over)) 0
listed l = l.tells

laid_out : (m : MapsWhole (two 1) (one 1) 0 both) → Maps (Source editions.Two) (97 ∷ 10 ∷ 99 ∷ 10 ∷ [])
    (told_ends (stream [] 0) (stream_of (two 1) m.out_over) (stream [] 0) (stream_of (one 1) m.line_over)) 0
laid_out m = m.tells

traced : (t : TracesWhole 5 (rows.From 2) (98 ∷ []) (two 1) (one 1) 0 both)
    → Traces (Source editions.Two) (97 ∷ 10 ∷ 99 ∷ 10 ∷ []) 5 (rows.From 2) both.files None
    (ends_of (98 ∷ []) t.input_after (two 1) (one 1) t.out_over t.line_over) 0
traced t = t.runs

counted : (c : CountsWhole 5 style.Json (98 ∷ []) (two 1) (one 1) 0 both) → Counts (record {
  origin = Source editions.Two;
  steps = 5;
  files = both.files;
  style = style.Json;
}) (97 ∷ 10 ∷ 99 ∷ 10 ∷ []) (ends_of (98 ∷ []) c.input_after (two 1) (one 1) c.out_over c.line_over) 0
counted c = c.runs

-- a page has the input that is given
showed : (s : ShowsWhole 5 (rows.From 2) (98 ∷ []) (two 1) (one 1) 0 both)
    → Shows (Source editions.Two) (97 ∷ 10 ∷ 99 ∷ 10 ∷ []) (record {
      steps = 5;
      which = rows.From 2;
      files = both.files;
      given = 98 ∷ [];
      finding = None;
    }) (ends_of (98 ∷ []) s.input_after (two 1) (one 1) s.out_over s.line_over) 0
showed s = s.runs
