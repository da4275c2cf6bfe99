-- Closed facts: what is no answer of a session that is held with its program, and the statuses of all answers.
use Rattle.std.specs.Prelude.{◌≡◌, ℕ, ◌+◌, List, [], ◌∷◌, map, false, true, None, Option, Some, get_or, length, refl}
use Rattle.std.specs.Prelude.{slice_get}
use Rattle.std.specs.Prelude.{slice_index}
use Rattle.std.proofs.Common.{◌∙◌, ap, arith, inl, inr, sym}
use Rattle.blang.specs.Machine.{Image}
use Rattle.blang.specs.declared.run.LoadFault.TheVariants as load
use Rattle.blang.specs.declared.run.Outcome.TheVariants as outcome
use Rattle.blang.specs.declared.run.Trap.{Trap}
use Rattle.blang.specs.declared.run.Trap.TheVariants as trap
use Rattle.blang.specs.declared.token.Diagnostic.{Diagnostic}
use Rattle.bmach.specs.declared.machine.Active.{Active}
use Rattle.bauthor.specs.declared.fault.LineWanted.TheVariants as line_wanted
use Rattle.bauthor.specs.declared.fault.Wanted.TheVariants as wanted
use Rattle.bmach.specs.Stepping.{Paused, ShowsFirst}
use Rattle.bsession.specs.Sessions.{Goes, Lost, SessionView}
use Rattle.btools.specs.Functions.{Placed}
use Rattle.bsession.specs.declared.session.Held.TheVariants as held
use Rattle.bsession.specs.declared.session.Limits.{Limits}
use Rattle.bsession.specs.declared.session.SliceEnd.TheVariants as end
use Rattle.bsession.specs.declared.session.StopEnd.TheVariants as stop_end
use Rattle.btools.specs.declared.program.ProgramFault.TheVariants as fault
use Rattle.bhost.specs.Deeds.{Acts, ActsIfReady, Begins, Does, DoesWith, IsFed, IsStored, NamesFunction, IsTaken}
use Rattle.bhost.specs.Deeds.{allows, frame_in, frame_of, is_ready, stands_with, word_told}
use Rattle.bhost.specs.Hosts.{LoadedValue}
use Rattle.bhost.specs.Runs.{IsCopied, RunsView, copy_told, swapped, without}
use Rattle.bhost.specs.Statuses.{answer_callers, answer_frame, answer_column, answer_function, answer_line, answer_place}
use Rattle.bhost.specs.Statuses.{answer_status, answer_steps, answer_value, answer_word, fault_status, name_status}
use Rattle.bhost.specs.Statuses.{trap_number}
use Rattle.bhost.specs.declared.desk.Answer.{Answer}
use Rattle.bhost.specs.declared.desk.Answer.TheVariants as answer
use Rattle.bhost.specs.declared.desk.Deed.{Deed}
use Rattle.bhost.specs.declared.desk.Deed.TheVariants as deed
use Rattle.bhost.specs.declared.desk.Frame.{Frame}
use Rattle.bhost.specs.declared.desk.Query.{Query}
use Rattle.bhost.specs.declared.desk.StopList.{StopList}

abbrev none : Limits
none = record { operands = 0; pages = 0; output = 0 }

-- a session that is lost, with a byte of input and two of output
abbrev lost : SessionView
lost = record { state = Lost; unread = 5 ∷ []; is_closed = true; output = 7 ∷ 8 ∷ []; steps = 3; limits = none }

-- it without a copy, and with two
abbrev alone : RunsView
alone = record { run = lost; kept = [] }

abbrev at : (steps : ℕ) → SessionView
at steps = record lost { steps = steps }

abbrev with_two : RunsView
with_two = record { run = lost; kept = at 4 ∷ at 5 ∷ [] }

-- no run begins without a program, and nothing is done without one
not_begun : Acts deed.Begin [] None None None [] answer.Done → ⊥
not_begun begun = begun

not_ended : Acts deed.End [] None (Some alone) None [] answer.Done → ⊥
not_ended ended = ended

-- what is done where a run lacks, and where there is one
abbrev all_deeds : StopList → Query → List Deed
all_deeds stops query =
    deed.Begin ∷ deed.Continue 1 ∷ deed.ContinueTo stops 1 ∷ deed.Limit none ∷ deed.Feed ∷ deed.Close ∷ deed.Take 1
    ∷ deed.Look ∷ deed.Frame 0 ∷ deed.Read 7 ∷ deed.Store 7 1 ∷ deed.Name 8 ∷ deed.Tell query ∷ deed.Copy ∷ deed.Swap 0
    ∷ deed.Forget 0 ∷ deed.End ∷ []

where_none : (stops : StopList) (query : Query) → map (λ (it : Deed). allows it true) (all_deeds stops query)
    ≡ (true ∷ false ∷ false ∷ false ∷ false ∷ false ∷ false ∷ false ∷ false ∷ false ∷ false ∷ true ∷ true ∷ false
    ∷ false ∷ false ∷ false ∷ [])
where_none stops query = refl

where_one : (stops : StopList) (query : Query) → map (λ (it : Deed). allows it false) (all_deeds stops query)
    ≡ (false ∷ true ∷ true ∷ true ∷ true ∷ true ∷ true ∷ true ∷ true ∷ true ∷ true ∷ true ∷ true ∷ true ∷ true ∷ true
    ∷ true ∷ [])
where_one stops query = refl

no_program : (loaded : LoadedValue) → map (λ program. is_ready deed.Begin program None) (None ∷ Some loaded ∷ [])
    ≡ (false ∷ true ∷ [])
no_program loaded = refl

-- nothing is done without a program, nor does a run begin in the place of another one, and that is told
not_without : ActsIfReady deed.End [] None (Some alone) None [] answer.Unready → ⊥
not_without tried = let same = tried.0 in cc

none_lost : (loaded : LoadedValue) → ActsIfReady deed.Begin [] (Some loaded) (Some alone) None [] answer.Unready → ⊥
none_lost loaded tried = let same = tried.0 in cc

nothing_put : ActsIfReady (deed.Take 1) [] None None None (6 ∷ []) answer.Unready → ⊥
nothing_put tried = let stay = tried.1 in cc

unready_told : (loaded : LoadedValue)
    → ActsIfReady deed.Begin [] (Some loaded) (Some alone) (Some alone) [] answer.Done → ⊥
unready_told loaded tried = let told = tried.2 in cc

-- what can be done is done
ready_ends : (loaded : LoadedValue)
    → ActsIfReady deed.End [] (Some loaded) (Some alone) (Some alone) [] answer.Unready → ⊥
ready_ends loaded tried = let told = tried.2 in cc

-- a run that doesn't begin is over by no other trap than that its first frame has no room, and by no other end
no_other_trap : (image : Image) (kind : Trap) → Begins image None (answer.Unbegun (outcome.Trap kind)) → kind ≡ trap.NoRoom
no_other_trap image kind (inl refused) = let told = refused.0 in cc
no_other_trap image kind (inr (why, told, starts, inl memory)) = cc
no_other_trap image kind (inr (why, told, starts, inr room)) = cc

no_exit : (image : Image) (status : ℕ) → Begins image None (answer.Unbegun (outcome.Exit status)) → ⊥
no_exit image status (inl refused) = let told = refused.0 in cc
no_exit image status (inr (why, told, starts, inl memory)) = cc
no_exit image status (inr (why, told, starts, inr room)) = cc

-- memory isn't refused where the first frame has no room
room_comes_first : (image : Image) → ShowsFirst image (outcome.Trap trap.NoRoom) → Begins image None answer.Refused → ⊥
room_comes_first image shown (inl refused) = let goes = sym (shown []).outcome ∙ (refused.1 []).outcome in cc
room_comes_first image shown (inr (why, told, begins, lacks)) = cc

-- no word is stored in a session that is lost
nothing_stored : IsStored lost lost 0 9 answer.Done → ⊥
nothing_stored stored = stored.0

-- an input that was closed takes no bytes
closed_is_closed : IsFed lost lost (6 ∷ []) answer.Done → ⊥
closed_is_closed fed = let closed = fed.0 in cc

closed_is_told : IsFed lost lost (6 ∷ []) answer.Refused → ⊥
closed_is_told fed = let closed = fed.0 in cc

-- bytes that were fed are there
fed_comes_after : IsFed (record lost { is_closed = false }) lost (6 ∷ []) answer.Done → ⊥
fed_comes_after fed = let same = fed.1 in cc

-- no memory is asked for where no bytes are fed or taken, or the word is there, or no function is
nothing_to_feed : IsFed (record lost { is_closed = false }) (record lost { is_closed = false }) [] answer.Refused → ⊥
nothing_to_feed fed = fed.1 refl

nothing_to_take : IsTaken lost lost 0 [] answer.Refused → ⊥
nothing_to_take taken = taken.1 refl

word_is_there : (p : Paused)
    → IsStored (record lost { state = Goes p }) (record lost { state = Goes p }) 4 (slice_index p.store 4) answer.Refused
    → ⊥
word_is_there p stored = stored.0 refl

no_function_there : NamesFunction None [] answer.Refused → ⊥
no_function_there named = let some = named.0 in cc

-- what is taken is the beginning of the output; and where memory is refused, nothing is
taken_is_there : IsTaken lost lost 1 (8 ∷ []) answer.Done → ⊥
taken_is_there taken = let same = taken.0 in cc

nothing_is_taken : IsTaken lost lost 1 (7 ∷ []) answer.Refused → ⊥
nothing_is_taken taken = let none = taken.0 in cc

-- a look changes nothing, and tells of no other place
looked_only : (loaded : LoadedValue) → Does deed.Look loaded lost (record lost { steps = 4 }) [] [] answer.Refused → ⊥
looked_only loaded looked = let same : 4 ≡ 3 = ap (λ (h : SessionView). h.steps) looked.1.0 in omega (arith, same)

-- what isn't taken stays on the desk
bytes_stay : (loaded : LoadedValue) → Does deed.Feed loaded lost lost (6 ∷ []) [] answer.Closed → ⊥
bytes_stay loaded fed = let stay = fed.0 in cc

nothing_comes : (loaded : LoadedValue) → Does (deed.Read 0) loaded lost lost [] (6 ∷ []) answer.Refused → ⊥
nothing_comes loaded read = let stay = read.0 in cc

none_at_the_end : (loaded : LoadedValue) → Acts deed.End [] (Some loaded) (Some alone) None (6 ∷ []) answer.Done → ⊥
none_at_the_end loaded gone = let stay = gone.0 in cc

-- no session is left after the end
ended : (loaded : LoadedValue) → Acts deed.End [] (Some loaded) (Some alone) (Some alone) [] answer.Done → ⊥
ended loaded gone = let none = gone.1 in cc

-- a name that is told is that of a function, and none is told where there is none, or memory is refused
no_name : NamesFunction None (7 ∷ []) answer.Missing → ⊥
no_name named = let none = named.1 in cc

not_there : NamesFunction None [] answer.Done → ⊥
not_there named = let is = named.0 in cc

half_a_name : (found : Option Placed) → NamesFunction found (7 ∷ []) answer.Refused → ⊥
half_a_name found named = let none = named.1 in cc

-- where a run stands
abbrev call : Active
call = record { strings = 5; parameters = 1; place = 6; start = 90 }

abbrev told : Answer
told = answer.Stands (record { strings = 5; place = 6; callers = 7; steps = 8; line = 11; column = 95 })

places : map (λ it. stands_with (λ c. c.strings + c.place) (λ c. c.strings + c.start) it 7 8) (Some call ∷ None ∷ [])
    ≡ (told ∷ answer.Refused ∷ [])
places = refl

-- the calls of a run: the running one, the first and the second below it, one that isn't there, and none of a lost one
abbrev caller : ℕ → Active
caller place = record { strings = 5; parameters = 2; place = place; start = 70 }

abbrev below : ℕ → Option Active
below number = slice_get (caller 3 ∷ caller 0 ∷ []) number

frames : (loaded : LoadedValue) → map (frame_in loaded (Some call) below) (0 ∷ 1 ∷ 2 ∷ 3 ∷ [])
    ≡ (answer.Calls (frame_of loaded call 6) ∷ answer.Calls (frame_of loaded (caller 3) 2)
    ∷ answer.Calls (frame_of loaded (caller 0) 0) ∷ answer.Missing ∷ [])
frames loaded = refl

no_frames : (loaded : LoadedValue) → map (frame_in loaded None below) (0 ∷ 1 ∷ []) ≡ (answer.Refused ∷ answer.Refused ∷ [])
no_frames loaded = refl

frame_parts : (loaded : LoadedValue) → (frame_of loaded call 9).place ≡ 6
frame_parts loaded = refl

frame_told : Frame
frame_told = record { strings = 5; place = 6; start = 90; parameters = 1; line = 11; column = 95 }

told_frame : answer_frame (answer.Calls frame_told) ≡ frame_told
told_frame = refl

abbrev nowhere : Frame
nowhere = record { strings = 0; place = 0; start = 0; parameters = 0; line = 0; column = 0 }

no_frame : map answer_frame (told ∷ answer.Unready ∷ []) ≡ (nowhere ∷ nowhere ∷ [])
no_frame = refl

abbrev parts_of : Answer → List ℕ
parts_of it = map (λ (f : Answer → ℕ). f it) (answer_function ∷ answer_place ∷ answer_callers ∷ answer_steps
    ∷ answer_line ∷ answer_column ∷ answer_word ∷ answer_value ∷ answer_status ∷ [])

parts : map parts_of (told ∷ answer.Word 3 ∷ answer.Unready ∷ [])
    ≡ ((5 ∷ 6 ∷ 7 ∷ 8 ∷ 11 ∷ 95 ∷ 0 ∷ 0 ∷ 0 ∷ []) ∷ (0 ∷ 0 ∷ 0 ∷ 0 ∷ 0 ∷ 0 ∷ 3 ∷ 0 ∷ 0 ∷ [])
    ∷ (0 ∷ 0 ∷ 0 ∷ 0 ∷ 0 ∷ 0 ∷ 0 ∷ 0 ∷ 142 ∷ []) ∷ [])
parts = refl

words : map word_told (None ∷ Some 0 ∷ Some 65535 ∷ []) ≡ (answer.Refused ∷ answer.Word 0 ∷ answer.Word 65535 ∷ [])
words = refl

-- the statuses of all answers, and what stands beside them
statuses : map answer_status (answer.Done ∷ answer.Ended (end.Halted 9) ∷ answer.Ended (end.Trapped trap.Stuck)
    ∷ answer.Ended end.Limit ∷ answer.Ended end.WantsInput ∷ answer.Ended (end.Holds held.Output)
    ∷ answer.Ended (end.Holds held.Operands) ∷ answer.Ended (end.Holds held.Pages) ∷ answer.Ended end.Memory
    ∷ answer.Unbegun outcome.Memory ∷ answer.Unbegun (outcome.Trap trap.NotAFunction) ∷ answer.Closed
    ∷ answer.Missing ∷ answer.Refused ∷ answer.Word 9 ∷ [])
    ≡ (0 ∷ 0 ∷ 130 ∷ 131 ∷ 133 ∷ 136 ∷ 137 ∷ 137 ∷ 134 ∷ 134 ∷ 130 ∷ 135 ∷ 132 ∷ 134 ∷ 0 ∷ [])
statuses = refl

values : map answer_value (answer.Ended (end.Halted 0) ∷ answer.Ended (end.Halted 9) ∷ answer.Ended (end.Halted 255)
    ∷ answer.Ended (end.Trapped trap.Stuck) ∷ answer.Ended end.Limit ∷ answer.Ended end.WantsInput
    ∷ answer.Ended (end.Holds held.Output) ∷ answer.Ended (end.Holds held.Operands)
    ∷ answer.Ended (end.Holds held.Pages) ∷ answer.Ended end.Memory ∷ [])
    ≡ (0 ∷ 9 ∷ 255 ∷ 7 ∷ 0 ∷ 0 ∷ 0 ∷ 1 ∷ 2 ∷ 0 ∷ [])
values = refl

-- a slice with stops
walks : map answer_status (answer.Walked stop_end.Stopped ∷ answer.Walked (stop_end.Ended (end.Halted 9))
    ∷ answer.Walked (stop_end.Ended end.Limit) ∷ answer.Calls frame_told ∷ [])
    ≡ (138 ∷ 0 ∷ 131 ∷ 0 ∷ [])
walks = refl

walk_values : map answer_value (answer.Walked stop_end.Stopped ∷ answer.Walked (stop_end.Ended (end.Halted 9))
    ∷ answer.Walked (stop_end.Ended (end.Trapped trap.Stuck)) ∷ [])
    ≡ (0 ∷ 9 ∷ 7 ∷ [])
walk_values = refl

traps : map trap_number (trap.ZeroDivisor ∷ trap.NotAFunction ∷ trap.NotALabel ∷ trap.NoRoom ∷ trap.TooDeep
    ∷ trap.BadBase ∷ trap.Stuck ∷ []) ≡ (1 ∷ 2 ∷ 3 ∷ 4 ∷ 5 ∷ 6 ∷ 7 ∷ [])
traps = refl

-- the statuses of all reasons why there is no program
faults : (d : Diagnostic) → map fault_status (fault.Faulty d ∷ fault.Unread 4 ∷ fault.Unlined 4 line_wanted.End
    ∷ fault.Unnamed 4 wanted.End ∷ fault.Unloaded load.NoMain ∷ fault.Unloaded load.TooLarge ∷ fault.Memory ∷ [])
    ≡ (1 ∷ 132 ∷ 135 ∷ 135 ∷ 132 ∷ 132 ∷ 134 ∷ [])
faults d = refl

-- a name of two bytes in rooms of 0 to 3 bytes
name_statuses : map (λ size. name_status size (7 ∷ 8 ∷ []) answer.Done) (0 ∷ 1 ∷ 2 ∷ 3 ∷ []) ≡ (133 ∷ 133 ∷ 0 ∷ 0 ∷ [])
name_statuses = refl

-- A copy forgets nothing of the run: no step, no byte of its input or output, and not that it is lost; and it is there.
abbrev kept_as : SessionView → Type 0
kept_as h = IsCopied alone (record alone { kept = h ∷ [] }) answer.Done

abbrev first : RunsView → SessionView
first runs = get_or runs.kept 0 runs.run

copied : kept_as lost
copied = refl

no_step_forgotten : kept_as (record lost { steps = 0 }) → ⊥
no_step_forgotten same = let steps : 0 ≡ 3 = ap (λ r. (first r).steps) same in omega (arith, steps)

no_input_forgotten : kept_as (record lost { unread = [] }) → ⊥
no_input_forgotten same = let unread : 0 ≡ 1 = ap (λ r. length (first r).unread) same in omega (arith, unread)

no_output_forgotten : kept_as (record lost { output = [] }) → ⊥
no_output_forgotten same = let output : 0 ≡ 2 = ap (λ r. length (first r).output) same in omega (arith, output)

no_state_forgotten : (p : Paused) → kept_as (record lost { state = Goes p }) → ⊥
no_state_forgotten p same = let state : Goes p ≡ Lost = ap (λ r. (first r).state) same in cc

no_copy_missing : IsCopied alone alone answer.Done → ⊥
no_copy_missing same = cc

-- the run stays as it is, and so do the copies before
run_stays : IsCopied alone (record { run = at 4; kept = lost ∷ [] }) answer.Done → ⊥
run_stays same = let steps : 4 ≡ 3 = ap (λ (runs : RunsView). runs.run.steps) same in omega (arith, steps)

refused_changes_nothing : IsCopied alone (record alone { kept = lost ∷ [] }) answer.Refused → ⊥
refused_changes_nothing same = let kept : lost ∷ [] ≡ [] = ap (λ (runs : RunsView). runs.kept) same in cc

-- it is closed as the run is, and has its limits
no_close_forgotten : kept_as (record lost { is_closed = false }) → ⊥
no_close_forgotten same = let closed : false ≡ true = ap (λ r. (first r).is_closed) same in cc

no_limit_forgotten : kept_as (record lost { limits = record none { operands = 1 } }) → ⊥
no_limit_forgotten same = let few : 1 ≡ 0 = ap (λ r. (first r).limits.operands) same in omega (arith, few)

-- a copy comes after those that are there, and they stay with all that is done with the run
copied_after : IsCopied with_two (record with_two { kept = at 4 ∷ at 5 ∷ lost ∷ [] }) answer.Done
copied_after = refl

copies_stay : (loaded : LoadedValue) → DoesWith deed.Close loaded with_two alone [] [] answer.Done → ⊥
copies_stay loaded does = let kept : [] ≡ at 4 ∷ at 5 ∷ [] = does.1 in cc

none_at_first : (image : Image) → Begins image (Some with_two) answer.Done → ⊥
none_at_first image begins = let kept : at 4 ∷ at 5 ∷ [] ≡ [] = begins.1 in cc

-- each copy in the place of the run, and none
swaps : map (λ n. swapped with_two n (slice_get with_two.kept n)) (0 ∷ 1 ∷ 2 ∷ [])
    ≡ (record { run = at 4; kept = lost ∷ at 5 ∷ [] } ∷ record { run = at 5; kept = at 4 ∷ lost ∷ [] } ∷ with_two ∷ [])
swaps = refl

forgets : map (λ n. without with_two n (slice_get with_two.kept n)) (0 ∷ 1 ∷ 2 ∷ [])
    ≡ (record { run = lost; kept = at 5 ∷ [] } ∷ record { run = lost; kept = at 4 ∷ [] } ∷ with_two ∷ [])
forgets = refl

copies_told : map copy_told (None ∷ Some lost ∷ []) ≡ (answer.Missing ∷ answer.Done ∷ [])
copies_told = refl
