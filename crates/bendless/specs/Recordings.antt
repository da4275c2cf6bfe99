-- Inner words: what is kept of the bytes that are read.
use Rattle.std.specs.Prelude.{◌≡◌, ℕ, zero, suc, ◌+◌, ◌*◌, Bool, true, false, if◌then◌else◌, List, [], ◌∷◌, Option, Some}
use Rattle.std.specs.Prelude.{None}
use Rattle.bword.specs.ByteEnds.{Incoming, Took}
use Rattle.bendless.specs.declared.recorder.Extent.{Extent}
use Rattle.bendless.specs.declared.recorder.Extent.TheVariants as extent
use Rattle.bendless.specs.declared.recorder.Record.{Record}

-- The other end when it was given and as it is now; the bytes that are kept; whether these are all that were taken; and
-- whether the end was answered.
pub record Recording (I : Type 0) : Type 0 where
  pub first : I
  pub input : I
  pub bytes : List ℕ
  pub is_whole : Bool
  pub is_over : Bool

abbrev pub is_whole : Extent → Bool
is_whole extent.Whole = true
is_whole extent.TooLong = false
is_whole extent.Refused = false

abbrev pub recording : {I : Type 0} → (first input : I) → (bytes : List ℕ) → Extent → (is_over : Bool) → Recording I
recording first input bytes whole is_over =
    record { first = first; input = input; bytes = bytes; is_whole = is_whole whole; is_over = is_over }

-- with nothing taken yet
abbrev pub recording_new : {I : Type 0} → I → Recording I
recording_new input = recording input input [] extent.Whole false

-- a pair of numbers, a list of them and bytes that may be known, each as one number
abbrev pub coded_pair : ℕ → ℕ → ℕ
coded_pair zero y = 2 * y + 1
coded_pair (suc x) y = 2 * coded_pair x y

abbrev pub coded_list : List ℕ → ℕ
coded_list [] = 0
coded_list (x ∷ xs) = coded_pair x (coded_list xs)

abbrev pub coded : Option (List ℕ) → ℕ
coded None = 0
coded (Some bytes) = suc (coded_list bytes)

-- which end it is: what could be seen of the other end when it was given, and which end that is
abbrev pub lender_recording : Incoming → (lender : List ℕ) → List ℕ
lender_recording first lender =
    (if first.is_over then 1 else 0) ∷ first.failures ∷ first.bound ∷ coded first.left ∷ lender

-- These bytes were taken of the other end, if they are all; and its end was answered, if it is known.
pub record IsRecording {I : Type 0} (incoming : I → Incoming) (r : Recording I) : Type 0 where
  pub taken : r.is_whole ≡ true → Took (incoming r.first) r.bytes (incoming r.input)
  pub over : r.is_over ≡ true → (incoming r.input).is_over ≡ true

-- What is kept of what was read, from one end to the other: all bytes that were taken, if it is all; and whether the
-- end was answered.
pub record Records (r : Record) (i j : Incoming) : Type 0 where
  pub taken : is_whole r.extent ≡ true → Took i r.bytes.items j
  pub over : r.is_over ≡ true → j.is_over ≡ true
