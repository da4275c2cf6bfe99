-- Closed facts: the lines and names of each definition of a listing, at the edges.
use Rattle.std.specs.Prelude.{◌≡◌, List, [], ◌∷◌, Some, None, codes, refl}
use Rattle.blang.specs.declared.code.Definition.{Definition}
use Rattle.blang.specs.declared.code.Definition.TheVariants as definition
use Rattle.blang.specs.declared.code.Instr.TheVariants as instr
use Rattle.blang.specs.declared.code.Ival.TheVariants as ival
use Rattle.blist.specs.Listings.{Told, told_of}
use Rattle.btools.specs.declared.names.Frame.{Frame}

-- a function of two instructions, one of none, and data with a value and without one
abbrev function : Definition
function = definition.Function (record {
  name = codes "f";
  parameters = 0;
  frame = 0;
  targets = [];
  strings = 4 ∷ [];
  code = instr.Constant 0 ∷ instr.Return ∷ [];
})

abbrev empty : Definition
empty = definition.Function (record {
  name = codes "g";
  parameters = 0;
  frame = 0;
  targets = [];
  strings = [];
  code = [];
})

abbrev numbers : Definition
numbers = definition.Simple (record { name = codes "n"; values = ival.Number 4 ∷ []; strings = [] })

abbrev bare : Definition
bare = definition.Vector (record { name = codes "v"; words = 3; values = []; strings = [] })

-- nothing is told of no definition, and one without lines and names has none
none_told : (frame : Frame) → told_of [] (1 ∷ []) (frame ∷ []) ≡ []
none_told frame = refl

no_lines : told_of (function ∷ numbers ∷ []) [] []
    ≡ record { definition = function; lines = []; frame = None }
    ∷ record { definition = numbers; lines = []; frame = None }
    ∷ []
no_lines = refl

-- one has just its own lines, and as many as there are
one_told : (frame other : Frame) → told_of (function ∷ []) (1 ∷ 2 ∷ 3 ∷ []) (frame ∷ other ∷ [])
    ≡ record { definition = function; lines = 1 ∷ 2 ∷ []; frame = Some frame } ∷ []
one_told frame other = refl

too_few : (frame : Frame) → told_of (function ∷ []) (1 ∷ []) (frame ∷ [])
    ≡ record { definition = function; lines = 1 ∷ []; frame = Some frame } ∷ []
too_few frame = refl

-- of several each has its own, the last one too, and one without a place has none
each_has_its_own : (f g h : Frame) → told_of (function ∷ empty ∷ bare ∷ numbers ∷ function ∷ [])
    (1 ∷ 2 ∷ 3 ∷ 4 ∷ 5 ∷ []) (f ∷ g ∷ h ∷ [])
    ≡ record { definition = function; lines = 1 ∷ 2 ∷ []; frame = Some f }
    ∷ record { definition = empty; lines = []; frame = Some g }
    ∷ record { definition = bare; lines = []; frame = Some h }
    ∷ record { definition = numbers; lines = 3 ∷ []; frame = Some h }
    ∷ record { definition = function; lines = 4 ∷ 5 ∷ []; frame = Some h }
    ∷ []
each_has_its_own f g h = refl
