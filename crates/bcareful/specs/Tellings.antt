-- Promise: what is told of a finding.
use Rattle.std.specs.Prelude.{◌≡◌, ◌⊎◌, ℕ, ◌+◌, ◌-◌, ◌%◌, ◌&&◌, List, [], ◌∷◌, ◌++◌, Option, Some, None, codes, decimal}
use Rattle.std.specs.Prelude.{find}
use Rattle.std.specs.Prelude.{Bool, false, nat_le, nat_lt, unwrap_or, if◌then◌else◌}
use Rattle.std.specs.Option.{option_map_or}
use Rattle.bword.specs.ByteEnds.{Outgoing}
use Rattle.bword.specs.declared.operators.BinOp.{BinOp}
use Rattle.bword.specs.declared.operators.BinOp.TheVariants as op
use Rattle.blang.specs.Reports.{Finishes, Reported}
use Rattle.blang.specs.declared.status.TheConstants.{MEMORY, TRAP}
use Rattle.blang.specs.declared.code.Definition.{Definition}
use Rattle.blang.specs.declared.code.Ival.{Ival}
use Rattle.blang.specs.Layout.{DefinitionKind, Shape, Vector, shape_of, size_of, store_words, words_before_strings}
use Rattle.bmach.specs.declared.machine.Active.{Active}
use Rattle.bmach.specs.declared.machine.Stop.{Stop}
use Rattle.bparse.specs.Locals.{NamedWord}
use Rattle.btools.specs.Characters.{signed_text}
use Rattle.btools.specs.Programs.{located_status}
use Rattle.btrace.specs.Locates.{TellsSite, site_line}
use Rattle.btrace.specs.RowTexts.{Legend, source_text}
use Rattle.bwatch.specs.Sights.{Sight}
use Rattle.bendless.specs.declared.endless.Endless.{Endless}
use Rattle.bcareful.specs.Things.{Atlas, Site, located}
use Rattle.bcareful.specs.declared.finding.Finding.{Finding}
use Rattle.bcareful.specs.declared.finding.Finding.TheVariants.{Index, Low, Never, Over, Past, Wraps}
use Rattle.bcareful.specs.declared.naming as told
use Rattle.bcareful.specs.declared.thing.Part.{Part}
use Rattle.bcareful.specs.declared.thing.Part.TheVariants as part
use Rattle.bcareful.specs.declared.thing.Thing.{Thing}
use Rattle.bcareful.specs.declared.watching.Found.{Found}

-- how a word of memory is told: whether it is one of a string; its name, if it is a word of the program; its index, if
-- it is one of a vector; and the name of the function in whose frame it is, if it is in one
pub record WordName : Type 0 where
  pub is_string : Bool
  pub name : Option (List ℕ)
  pub index : Option ℕ
  pub function : Option (List ℕ)

abbrev pub word_name_of : told.WordName.WordName → WordName
word_name_of w =
    record { is_string = w.is_string; name = w.name; index = w.index; function = w.function }

abbrev pub index_text : (index : List ℕ) → List ℕ
index_text index = codes "[" ++ index ++ codes "]"

abbrev pub function_text : Option (List ℕ) → List ℕ
function_text None = []
function_text (Some name) = codes " of " ++ name

-- A word of a string has the name of the definition that has the string.
abbrev pub string_mark : (is_string : Bool) → List ℕ
string_mark is_string = if is_string then codes "a string of " else []

-- the name as far as the index
abbrev pub start_text : WordName → List ℕ
start_text w = string_mark w.is_string ++ unwrap_or w.name (codes "no word of the program")

-- the name with this text for the index
abbrev pub name_with : WordName → List ℕ → List ℕ
name_with w text = start_text w ++ text ++ function_text w.function

abbrev pub own_index_text : Option ℕ → List ℕ
own_index_text None = []
own_index_text (Some index) = index_text (decimal index)

abbrev pub name_text : WordName → List ℕ
name_text w = name_with w (own_index_text w.index)

-- the word with this number, where the first word of its thing has this name
abbrev pub numbered_by : (index : Option ℕ) → WordName → (number : List ℕ) → List ℕ
numbered_by (Some index) w number = name_with w (index_text number)
numbered_by None w number = codes "word " ++ number ++ codes " of " ++ name_text w

abbrev pub numbered_text : WordName → (number : List ℕ) → List ℕ
numbered_text w number = numbered_by w.index w number

-- the last word of a frame that has a name, up to this one
abbrev pub named_at : List NamedWord → (offset : ℕ) → Option NamedWord → Option NamedWord
named_at [] offset last = last
named_at (w ∷ ws) offset last = if nat_le w.offset offset then named_at ws offset (Some w) else last

-- The words after the own word of a vector are its words.
abbrev pub index_after : NamedWord → (offset : ℕ) → Option ℕ
index_after w offset =
    if w.is_vector && nat_lt w.offset offset then Some (offset - (w.offset + 1)) else None

abbrev pub no_name : WordName
no_name = record { is_string = false; name = None; index = None; function = None }

-- the name of a word of a frame
abbrev pub frame_word_name : Site → (offset : ℕ) → WordName
frame_word_name site offset = option_map_or
    (λ w. record {
      is_string = false;
      name = Some w.name;
      index = index_after w offset;
      function = Some site.function.name;
    })
    (named_at site.words offset None) no_name

-- whether a word of a definition is one of its strings
abbrev pub is_string : Shape → (offset : ℕ) → Bool
is_string d offset = nat_le (words_before_strings d.kind d.values) offset

-- the index of a word of a vector
abbrev pub data_index : DefinitionKind → List Ival → (offset : ℕ) → Option ℕ
data_index (Vector n) values offset =
    if nat_lt 0 offset && nat_lt offset (words_before_strings (Vector n) values) then Some (offset - 1) else None
data_index kind values offset = None

abbrev pub shape_name : Shape → (offset : ℕ) → WordName
shape_name d offset =
    record {
      is_string = is_string d offset;
      name = Some d.name;
      index = data_index d.kind d.values offset;
      function = None;
    }

-- the definition that has the word with this offset among the words of all
abbrev pub data_name : List Definition → (offset : ℕ) → WordName
data_name [] offset = no_name
data_name (d ∷ ds) offset =
    if nat_lt offset (size_of (shape_of d)) then shape_name (shape_of d) offset
    else data_name ds (offset - size_of (shape_of d))

-- The data begin at word 7.
abbrev pub address_name : List Definition → (address : ℕ) → WordName
address_name ds address = if nat_lt address 7 then no_name else data_name ds (address - 7)

-- the active calls, the running one first
abbrev pub calls_in : Sight → List Active
calls_in s = option_map_or (λ call. call ∷ s.below) s.call s.below

-- whether the frame of a call has the word at an address
abbrev pub holds : Atlas → (address : ℕ) → Active → Bool
holds a address call =
    option_map_or (λ site. nat_le call.start address && nat_lt (address - call.start) site.function.frame)
    (located a.functions a.frames call.strings) false

-- the call whose frame has it, if there is one
abbrev pub holder : Atlas → List Active → (address : ℕ) → Option Active
holder a calls address = find (holds a address) calls

-- the name of a word of a call's frame
abbrev pub held_name : Atlas → (address : ℕ) → Active → WordName
held_name a address call =
    option_map_or (λ site. frame_word_name site (address - call.start))
    (located a.functions a.frames call.strings) no_name

-- the name of a word of memory, while these calls are active
abbrev pub word_name : Atlas → List Active → (address : ℕ) → WordName
word_name a calls address =
    option_map_or (held_name a address) (holder a calls address) (address_name a.definitions address)

-- how many words a thing has
abbrev pub extent_text : Thing → List ℕ
extent_text t =
    if nat_lt 1 t.words then codes ", which has words 0 to " ++ decimal (t.words - 1) else codes ", which is one word"

-- which word of a thing an address is
abbrev pub thing_text : Atlas → List Active → Thing → (address : ℕ) → List ℕ
thing_text a calls t address =
    numbered_text (word_name a calls t.start) (signed_text ((address + (store_words - t.start)) % store_words))
    ++ extent_text t ++ codes ": this is "

abbrev pub address_text : (address : ℕ) → List ℕ
address_text address = codes "the address " ++ decimal address ++ codes " is "

-- the operators whose results may be no word
abbrev pub sign : BinOp → List ℕ
sign op.Add = codes "+"
sign op.Sub = codes "-"
sign op.Mul = codes "*"
sign operator = []

abbrev pub wrap_text : BinOp → (left right : ℕ) → List ℕ
wrap_text operator left right =
    signed_text left ++ codes " " ++ sign operator ++ codes " " ++ signed_text right
    ++ codes " is no number from -32768 to 32767"

abbrev pub part_text : Part → List ℕ
part_text part.Whole = []
part_text part.First = codes "the first character of "
part_text part.Second = codes "the second character of "

-- what is wrong with a step, as far as the name of its word
abbrev pub fault_text : Atlas → List Active → Finding → List ℕ
fault_text a calls (Never unset address) = codes "nothing has set " ++ part_text unset
fault_text a calls (Low address) = address_text address
fault_text a calls (Index t address) = thing_text a calls t address
fault_text a calls (Past address) = codes "a character after the end of "
fault_text a calls (Over address) = codes "a word of a call that is over: this is "
fault_text a calls (Wraps operator left right) = wrap_text operator left right

abbrev pub address_of : Finding → Option ℕ
address_of (Never unset address) = Some address
address_of (Low address) = Some address
address_of (Index t address) = Some address
address_of (Past address) = Some address
address_of (Over address) = Some address
address_of (Wraps operator left right) = None

-- the name of the word, if the step reads or stores a wrong one
abbrev pub fault_name : Atlas → List Active → Finding → List ℕ
fault_name a calls f = option_map_or (λ address. name_text (word_name a calls address)) (address_of f) []

-- what is wrong with a step
abbrev pub finding_meaning : Atlas → List Active → Finding → List ℕ
finding_meaning a calls f = fault_text a calls f ++ fault_name a calls f

-- the line of a finding
abbrev pub careful_line : Finding → List ℕ
careful_line (Never unset address) = codes "careful set\n"
careful_line (Low address) = codes "careful low\n"
careful_line (Index t address) = codes "careful index\n"
careful_line (Past address) = codes "careful index\n"
careful_line (Over address) = codes "careful index\n"
careful_line (Wraps operator left right) = codes "careful wraps\n"

-- the place of the step after so many, and its line of the source
abbrev pub found_place : Legend → (source : List ℕ) → Found → List ℕ
found_place legend source found =
    site_line legend found.call (found.made + 1) ++ source_text legend source found.call ++ codes "  means: "

-- what is told of a run that stays at a finding
abbrev pub careful_text : Atlas → Legend → (source : List ℕ) → Sight → Found → List ℕ
careful_text a legend source s found =
    careful_line found.finding ++ found_place legend source found ++ finding_meaning a (calls_in s) found.finding
    ++ codes "\n"

-- This was written, or a beginning of it; or memory was refused for it.
abbrev pub Tells : (text : List ℕ) → Outgoing → Outgoing → (status : ℕ) → Type 0
Tells text old new status = Reported text TRAP old new status ⊎ ((new ≡ old) × (status ≡ MEMORY))

-- The line of a run without a finding was written, and where it is that of a trap or of the limit, the place after it,
-- and that a state comes again, if one does.
pub data TellsOver (legend : Legend) (source : List ℕ) (stop : Stop) (again : Option Endless) (old new : Outgoing)
    (status : ℕ) : Type 0 where
  placed : (told : Outgoing) (answer : ℕ) → Finishes stop.outcome old told answer
      → located_status stop.outcome ≡ Some answer
      → TellsSite legend source stop.outcome stop.call stop.steps again answer told new status
      → TellsOver legend source stop again old new status
  unplaced : Finishes stop.outcome old new status → (located_status stop.outcome ≡ Some status → ⊥)
      → TellsOver legend source stop again old new status
