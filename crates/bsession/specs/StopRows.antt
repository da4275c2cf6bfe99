-- Closed facts: before which steps a slice stops.
use Rattle.std.specs.Prelude.{◌≡◌, ℕ, List, [], ◌∷◌, false, true, map, None, refl}
use Rattle.blang.specs.Machine.{Call, Image, Loaded}
use Rattle.bmach.specs.Stepping.{Paused}
use Rattle.bsession.specs.Sessions.{Goes, Lost}
use Rattle.bsession.specs.Stops.{StopSet, made_all, stops_before, stops_in}
use Rattle.bsession.specs.declared.session.SliceEnd.TheVariants as end
use Rattle.bsession.specs.declared.stops.CodePlace.{CodePlace}
use Rattle.bsession.specs.declared.stops.WatchedWord.{WatchedWord}

abbrev function_at : ℕ → Loaded
function_at strings = record {
  parameters = 0;
  frame = 0;
  targets = [];
  code = [];
  strings = strings;
  first_label = 1;
}

abbrev call_at : (strings place : ℕ) → Call
call_at strings place = record { function = function_at strings; start = 20; place = place; operands = [] }

-- place 4 of function 8, called by place 4 of function 9, with the words 0, 7 and 65535
abbrev there : Paused
there = record {
  image = record { functions = []; main = None; words = []; data_end = 0; addresses = [] };
  call = call_at 8 4;
  below = call_at 9 4 ∷ [];
  store = 0 ∷ 7 ∷ 65535 ∷ [];
}

abbrev at : (strings place : ℕ) → CodePlace
at strings place = record { strings = strings; place = place }

abbrev was : (address word : ℕ) → WatchedWord
was address word = record { address = address; word = word }

abbrev stops : (places near : List CodePlace) → (callers returned : ℕ) → (words : List WatchedWord) → StopSet
stops places near callers returned words = record {
  places = places;
  near = near;
  callers = callers;
  returned = returned;
  words = words;
}

-- nothing that could stop it
nowhere : map (λ s. stops_before s there) (stops [] [] 0 0 [] ∷ stops [] [] 65535 0 [] ∷ []) ≡ false ∷ false ∷ []
nowhere = refl

-- a breakpoint: at it, and at another place, in another function, and in the calling one; the last of three
breakpoints : map (λ places. stops_before (stops places [] 0 0 []) there)
    ((at 8 4 ∷ []) ∷ (at 8 5 ∷ []) ∷ (at 8 3 ∷ []) ∷ (at 7 4 ∷ []) ∷ (at 9 4 ∷ [])
    ∷ (at 8 0 ∷ at 9 4 ∷ at 8 4 ∷ []) ∷ [])
    ≡ true ∷ false ∷ false ∷ false ∷ false ∷ true ∷ []
breakpoints = refl

-- a place near enough: with no call below, one, and two
near_places : map (λ callers. stops_before (stops [] (at 8 4 ∷ []) callers 0 []) there) (0 ∷ 1 ∷ 2 ∷ [])
    ≡ false ∷ true ∷ true ∷ []
near_places = refl

other_near : map (λ near. stops_before (stops [] near 1 0 []) there) ((at 8 3 ∷ []) ∷ (at 9 4 ∷ []) ∷ [])
    ≡ false ∷ false ∷ []
other_near = refl

-- fewer calls below than none, one, two and more
returned : map (λ least. stops_before (stops [] [] 0 least []) there) (0 ∷ 1 ∷ 2 ∷ 65535 ∷ [])
    ≡ false ∷ false ∷ true ∷ true ∷ []
returned = refl

-- a word that is the same, one that isn't, the last one of three, and words that the store hasn't: they are 0
watchpoints : map (λ words. stops_before (stops [] [] 0 0 words) there)
    ((was 1 7 ∷ []) ∷ (was 1 8 ∷ []) ∷ (was 2 65535 ∷ []) ∷ (was 0 0 ∷ was 1 7 ∷ was 2 0 ∷ [])
    ∷ (was 3 0 ∷ []) ∷ (was 65535 1 ∷ []) ∷ [])
    ≡ false ∷ true ∷ false ∷ true ∷ false ∷ true ∷ []
watchpoints = refl

-- of two one is enough: a breakpoint and a place that is too far, a word and another place, a return and the same word
one_of_two : map (λ s. stops_before s there)
    (stops (at 8 4 ∷ []) (at 8 4 ∷ []) 0 0 [] ∷ stops (at 8 5 ∷ []) [] 0 0 (was 1 8 ∷ [])
    ∷ stops [] [] 0 2 (was 1 7 ∷ []) ∷ stops (at 8 5 ∷ []) (at 8 4 ∷ []) 0 1 (was 1 7 ∷ []) ∷ [])
    ≡ true ∷ true ∷ true ∷ false ∷ []
one_of_two = refl

-- only a session that can go on stops
lost_stops : stops_in (stops (at 8 4 ∷ []) [] 0 65535 []) Lost ≡ false
lost_stops = refl

goes_stops : stops_in (stops (at 8 4 ∷ []) [] 0 0 []) (Goes there) ≡ true
goes_stops = refl

ends_of_all : map made_all (end.Limit ∷ end.WantsInput ∷ end.Memory ∷ end.Halted 0 ∷ []) ≡ true ∷ false ∷ false ∷ false ∷ []
ends_of_all = refl
