-- Closed facts: the lines and the statuses of runs.
use Rattle.std.specs.Prelude.{◌≡◌, ℕ, [], ◌∷◌, map, codes, Some, None, refl}
use Rattle.std.specs.Fmt.{digits}
use Rattle.bword.specs.ByteEnds.{Outgoing}
use Rattle.bword.specs.declared.ends.EndFault.TheVariants as end_fault
use Rattle.bcode.specs.declared.fault.CodeFault.TheVariants as code_fault
use Rattle.blang.specs.Compiles.{status_of}
use Rattle.blang.specs.declared.status.TheConstants.{DONE, FAULT, TRAP, LIMIT, REFUSED, DEVICE, MEMORY, WRONG_COMMAND}
use Rattle.blang.specs.Layout.{Exited, Trapped}
use Rattle.blang.specs.declared.run.LoadFault.TheVariants as fault
use Rattle.blang.specs.declared.run.Outcome.TheVariants as outcome
use Rattle.blang.specs.declared.run.Trap.{Trap}
use Rattle.blang.specs.declared.run.Trap.TheVariants as trap
use Rattle.blang.specs.Headline.{line_at, status_at}
use Rattle.blang.specs.Reports.{Reported, report_text, load_number, Finishes, NotLoaded}
use Rattle.brun.specs.Runs.{NotRead}
use Rattle.blang.specs.declared.run.Report.TheVariants as report

statuses : (DONE ∷ FAULT ∷ TRAP ∷ LIMIT ∷ REFUSED ∷ DEVICE ∷ MEMORY ∷ WRONG_COMMAND ∷ [])
    ≡ (0 ∷ 1 ∷ 130 ∷ 131 ∷ 132 ∷ 133 ∷ 134 ∷ 135 ∷ [])
statuses = refl

refused_writes : map status_of (end_fault.Device ∷ end_fault.Memory ∷ []) ≡ (133 ∷ 134 ∷ [])
refused_writes = refl

zero_divisor : report_text (report.Trap trap.ZeroDivisor) ≡ codes "trap dz\n"
zero_divisor = refl

not_a_function : report_text (report.Trap trap.NotAFunction) ≡ codes "trap fn\n"
not_a_function = refl

not_a_label : report_text (report.Trap trap.NotALabel) ≡ codes "trap gt\n"
not_a_label = refl

no_room : report_text (report.Trap trap.NoRoom) ≡ codes "trap st\n"
no_room = refl

too_deep : report_text (report.Trap trap.TooDeep) ≡ codes "trap dp\n"
too_deep = refl

bad_base : report_text (report.Trap trap.BadBase) ≡ codes "trap bs\n"
bad_base = refl

stuck : report_text (report.Trap trap.Stuck) ≡ codes "trap sk\n"
stuck = refl

limit : report_text report.Limit ≡ codes "limit\n"
limit = refl

first_line : report_text (report.Code 1) ≡ codes "code 1\n"
unfolding digits
first_line = refl

last_line : report_text (report.Code 18446744073709551615) ≡ codes "code 18446744073709551615\n"
unfolding digits
last_line = refl

loads : map (λ n. report_text (report.Load n)) (1 ∷ 2 ∷ 3 ∷ 4 ∷ [])
    ≡ (codes "load 1\n" ∷ codes "load 2\n" ∷ codes "load 3\n" ∷ codes "load 4\n" ∷ [])
unfolding digits
loads = refl

load_numbers : map load_number
    (fault.Duplicate (codes "a") ∷ fault.TooLarge ∷ fault.Undefined (codes "a") ∷ fault.NoMain ∷ fault.Memory ∷ [])
    ≡ (Some 1 ∷ Some 2 ∷ Some 3 ∷ Some 4 ∷ None ∷ [])
load_numbers = refl

-- The line and the status of each outcome, and of what isn't run.
module _ (line following : Outgoing) (status : ℕ) where
  exits : (n : ℕ) → Finishes (outcome.Exit n) line following status ≡ ((following ≡ line) × (status ≡ n))
  exits n = refl

  traps : (kind : Trap) → Finishes (outcome.Trap kind) line following status
      ≡ Reported (report_text (report.Trap kind)) 130 line following status
  traps kind = refl

  limits : Finishes outcome.Limit line following status ≡ Reported (codes "limit\n") 131 line following status
  limits = refl

  fails : Finishes outcome.Device line following status ≡ ((following ≡ line) × (status ≡ 133))
  fails = refl

  is_refused_memory : Finishes outcome.Memory line following status ≡ ((following ≡ line) × (status ≡ 134))
  is_refused_memory = refl

  no_code_text : NotRead (code_fault.Line 7) line following status ≡ Reported (codes "code 7\n") 132 line following status
  unfolding digits
  no_code_text = refl

  no_memory_to_read : NotRead code_fault.Memory line following status ≡ ((following ≡ line) × (status ≡ 134))
  no_memory_to_read = refl

  does_not_load : NotLoaded 3 line following status ≡ Reported (codes "load 3\n") 132 line following status
  unfolding digits
  does_not_load = refl

-- The same of a program that ends.
ends_itself : line_at (Exited 72) ≡ []
ends_itself = refl

its_status : map (λ n. status_at (Exited n)) (0 ∷ 72 ∷ 127 ∷ []) ≡ 0 ∷ 72 ∷ 127 ∷ []
its_status = refl

ends_trapped : line_at (Trapped trap.ZeroDivisor) ≡ codes "trap dz\n"
ends_trapped = refl

trapped_status : status_at (Trapped trap.ZeroDivisor) ≡ 130
trapped_status = refl
