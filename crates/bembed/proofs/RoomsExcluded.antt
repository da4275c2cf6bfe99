-- What no call tells of its rooms.
use Rattle.std.proofs.Common.{◌≡◌, ◌∙◌, ℕ, ◌-◌, ◌<◌, List, length, take, Option, Some, None, refl, sym, ap, subst, inl, inr, arith}
use Rattle.std.specs.Prelude.{get_or, is_some, true}
use Rattle.std.proofs.lemmas.List.{get_or-drop, length-append, length-take}
use Rattle.bword.specs.ByteEnds.{Refuses}
use Rattle.bword.specs.declared.edition.Edition.{Edition}
use Rattle.bword.specs.declared.ends.EndFault.{EndFault}
use Rattle.bword.specs.declared.ends.EndFault.TheVariants as fault
use Rattle.blang.specs.Compiles.{status_of}
use Rattle.blang.specs.Reports.{RunEnds}
use Rattle.blang.specs.declared.status.TheConstants.{DEVICE}
use Rattle.btools.specs.Programs.{ToldEnds}
use Rattle.bembed.specs.Asks.{SaysIn}
use Rattle.bembed.specs.Calls.{InEdition, edition_of}
use Rattle.bembed.specs.Looks.{RunsOver, TellsOver}
use Rattle.bembed.specs.Rooms.{Filled, Overflow, Room, Untouched, bytes_over, fresh, stream_of}
use Rattle.bembed.specs.RoomsExcluded.{BothKeepRest, Excluded, KeepsAll, KeepsInEditions, KeepsRest, KeepsWith}
use Rattle.bembed.specs.Wholes.{Whole}
use Rattle.bembed.specs.WithFiles.{done, unread}

one_over : (byte : Option ℕ) → is_some byte ≡ true → length (bytes_over byte) ≡ 1
one_over None some = cc
one_over (Some byte) some = refl

too_little : (text : List ℕ) (room : Room) (over : Overflow) → Filled room over
    → Refuses fresh text fault.Device (stream_of room over) → length room.before < length text
too_little text room over filled refuses =
    let full = filled.full.0 (λ none. let grew = refuses.counted.0 in omega (arith, grew, none)) in
    let lengths = ap length refuses.appended in
    omega (
      arith,
      lengths,
      full.0,
      filled.size,
      one_over over.byte full.1,
      length-append (take room.count room.after) (bytes_over over.byte),
      length-take room.count room.after,
      length-take refuses.count text,
    )

of_a_device : (f : EndFault) → DEVICE ≡ status_of f → f ≡ fault.Device
of_a_device fault.Device is = refl
of_a_device fault.Memory is = absurd (omega (arith, is))

said : (text : List ℕ) (out line : Room) → SaysIn text out line DEVICE → length out.before < length text
said text out line s = elim s.says [
  | inl told ↦ absurd (let done = told.1 in omega (arith, done))
  | inr refused ↦ too_little text out s.out_over s.out_filled
      (rw (of_a_device refused.fault refused.status) at refused.refuses)
]

changed : (room : Room) (over : Overflow) → Filled room over → KeepsRest room
changed room over filled place past =
    subst (λ p. get_or room.after p 0 ≡ get_or room.before p 0) (omega (arith, past))
    (sym (get_or-drop room.count room.after (place - room.count) 0)
    ∙ ap (λ bytes. get_or bytes (place - room.count) 0) filled.kept
    ∙ get_or-drop room.count room.before (place - room.count) 0)

untouched : (room : Room) → Untouched room → KeepsRest room
untouched room none place past = ap (λ bytes. get_or bytes place 0) none.same

in_any : (Does : Room → Room → ℕ → Edition → Type 0)
    → ((edition : Edition) → KeepsAll (λ out line status. Does out line status edition)) → KeepsInEditions Does
in_any Does keeps number out line status = in_one (edition_of number) where
  in_one : (edition : Option Edition) → InEdition edition out line status (Does out line status) → BothKeepRest out line
  in_one (Some edition) does = keeps edition out line status does
  in_one None none = (untouched out none.0, untouched line none.1)

with_files : (Does : Room → Room → ℕ → Whole → Type 0)
    → ((it : Whole) → KeepsAll (λ out line status. Does out line status it)) → KeepsWith Does
with_files Does keeps number source files out line status asked = elim asked [
  | done it read does ↦ keeps it out line status does
  | unread no_out no_line why ↦ (untouched out no_out, untouched line no_line)
]

over : (input : List ℕ) (out line : Room) (P : RunEnds → Type 0) → RunsOver input out line P → BothKeepRest out line
over input out line P r = (changed out r.out_over r.out_filled, changed line r.line_over r.line_filled)

told : (out line : Room) (P : ToldEnds → Type 0) → TellsOver out line P → BothKeepRest out line
told out line P t = (changed out t.out_over t.out_filled, changed line t.line_over t.line_filled)

pub excluded : Excluded
excluded = record {
  refused = too_little;
  said = said;
  changed = changed;
  compiles = λ source. in_any _ (λ e out line status c. (changed out c.out_over c.out_filled, changed line c.line_over c.line_filled));
  goes = λ steps source input. in_any _ (λ e out line status g. (changed out g.out_over g.out_filled, changed line g.line_over g.line_filled));
  runs = λ steps code input out line status r. (changed out r.out_over r.out_filled, changed line r.line_over r.line_filled);
  locates = λ steps code input out line status l. (changed out l.out_over l.out_filled, changed line l.line_over l.line_filled);
  migrates = λ code out line status m. (changed out m.out_over m.out_filled, changed line m.line_over m.line_filled);
  checks = λ source. in_any _ (λ e out line status c. (changed out c.out_over c.out_filled, untouched line c.no_line));
  formats = λ source. in_any _ (λ e out line status f. (changed out f.out_over f.out_filled, changed line f.line_over f.line_filled));
  says = λ text out line status s. (changed out s.out_over s.out_filled, untouched line s.no_line);
  compiles_with = with_files _ (λ it out line status c. (changed out c.out_over c.out_filled, changed line c.line_over c.line_filled));
  goes_with = λ steps input. with_files _ (λ it out line status g. (changed out g.out_over g.out_filled, changed line g.line_over g.line_filled));
  checks_with = with_files _ (λ it out line status c. (changed out c.out_over c.out_filled, untouched line c.no_line));
  lists = with_files _ (λ it out line status l. told out line _ l);
  maps = with_files _ (λ it out line status m. told out line _ m);
  traces = λ steps which input. with_files _ (λ it out line status t. over input out line _ t);
  counts = λ steps style input. with_files _ (λ it out line status c. over input out line _ c);
  shows = λ steps which input. with_files _ (λ it out line status s. over input out line _ s);
  loads_with = λ h. with_files _ (λ it out line status l. (untouched out l.no_output, changed line l.loads.line_over l.loads.line_filled));
  loads_text = λ text h out line status l. (untouched out l.no_output, changed line l.loads.line_over l.loads.line_filled);
}
