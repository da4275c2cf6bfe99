-- Closed facts: what is told of names, addresses, frames, labels and places, at the edges.
use Rattle.std.specs.Prelude.{◌≡◌, ℕ, false, true, codes, List, [], ◌∷◌, ◌++◌, map, option_map, refl, replicate}
use Rattle.std.specs.Prelude.{Option, Some, None, option_and_then, find}
use Rattle.blang.specs.declared.code.Definition.{Definition}
use Rattle.blang.specs.declared.code.Definition.TheVariants as definition
use Rattle.blang.specs.declared.code.Instr.TheVariants as instr
use Rattle.blang.specs.declared.code.Ival.TheVariants as ival
use Rattle.btools.specs.declared.names.Frame.{Frame}
use Rattle.btools.specs.declared.names.FrameWord.{FrameWord}
use Rattle.bhost.specs.Deeds.{Acts}
use Rattle.bhost.specs.Hosts.{LoadedValue}
use Rattle.bhost.specs.Statuses.{FindsName, answer_status, answer_symbol}
use Rattle.bhost.specs.Symbols.{Defined, answers, blank, defined_from, local_kind, next_offset, padded, symbol_in}
use Rattle.bhost.specs.declared.desk.Answer.TheVariants as answer
use Rattle.bhost.specs.declared.desk.Deed.TheVariants as deed
use Rattle.bhost.specs.declared.desk.Query.{Query}
use Rattle.bhost.specs.declared.desk.Query.TheVariants as query
use Rattle.bhost.specs.declared.desk.Symbol.{Symbol}
use Rattle.bhost.specs.declared.host.Host.{Host}

-- n of two words, f of two parameters, a vector of three words and a label, and v of four words, one after another
abbrev n : Definition
n = definition.Simple (record { name = codes "n"; values = ival.Number 4 ∷ ival.Number 5 ∷ []; strings = [] })

abbrev f : Definition
f = definition.Function (record {
  name = codes "f";
  parameters = 2;
  frame = 6;
  targets = 1 ∷ [];
  strings = 97 ∷ 98 ∷ [];
  code = instr.Constant 0 ∷ instr.Return ∷ [];
})

abbrev v : Definition
v = definition.Vector (record { name = codes "v"; words = 4; values = []; strings = [] })

-- they begin at 7: n has 7 and 8, f 9 with its string words 10 and 11, and v its own word 12 and four more
abbrev program : List Defined
program = defined_from 7 (n ∷ f ∷ v ∷ []) [] (1 ∷ 1 ∷ 2 ∷ 3 ∷ []) (4 ∷ 6 ∷ 8 ∷ 0 ∷ [])

abbrev told : Query → Option Symbol
told q = option_and_then (λ d. symbol_in d q) (find (answers q) program)

abbrev address_told : Query → Option (ℕ × ℕ × ℕ)
address_told q = option_map (λ s. (s.kind, s.address, s.words)) (told q)

-- a definition by its name; no name has another's beginning
by_name : map (λ text. address_told (query.Named text))
    (codes "n" ∷ codes "f" ∷ codes "v" ∷ codes "w" ∷ codes "nn" ∷ [] ∷ [])
    ≡ Some (2, 7, 2) ∷ Some (1, 9, 3) ∷ Some (3, 12, 5) ∷ None ∷ None ∷ None ∷ []
by_name = refl

-- and by each of its words: before the first one, at it, within, at the last one, and past the last of all
by_address : map (λ address. option_map (λ s. s.address) (told (query.At address)))
    (6 ∷ 7 ∷ 8 ∷ 9 ∷ 11 ∷ 12 ∷ 16 ∷ 17 ∷ [])
    ≡ None ∷ Some 7 ∷ Some 7 ∷ Some 9 ∷ Some 9 ∷ Some 12 ∷ Some 12 ∷ None ∷ []
by_address = refl

-- all of a function
all_told : told (query.Named (codes "f")) ≡ Some (record {
  name = codes "f" ++ replicate 8 0;
  kind = 1;
  parameters = 2;
  address = 9;
  words = 3;
  frame = 6;
  labels = 1;
  instructions = 2;
  line = 2;
  column = 8;
})
all_told = refl

-- an instruction of it, by the address of its string words alone; none past the last one, or of what is no function
abbrev place_told : Query → Option (ℕ × ℕ × ℕ)
place_told q = option_map (λ s. (s.address, s.line, s.column)) (told q)

by_place : map place_told
    (query.Instruction 10 0 ∷ query.Instruction 10 1 ∷ query.Instruction 10 2 ∷ query.Instruction 9 0
    ∷ query.Instruction 13 0 ∷ [])
    ≡ Some (0, 2, 8) ∷ Some (1, 3, 0) ∷ None ∷ None ∷ None ∷ []
by_place = refl

-- without names of its frame it has neither words nor labels
no_names : map told (query.Local 10 0 ∷ query.Label 10 0 ∷ []) ≡ None ∷ None ∷ []
no_names = refl

-- the words of a frame: a parameter, the last one, a vector that two words belong to, and the last word
abbrev word : (name : List ℕ) → (offset : ℕ) → FrameWord
word name offset = record { name = name; offset = offset; is_vector = false }

abbrev vector : FrameWord
vector = record { name = codes "w"; offset = 2; is_vector = true }

abbrev words : List FrameWord
words = word (codes "x") 0 ∷ word (codes "y") 1 ∷ vector ∷ word (codes "i") 5 ∷ []

kinds : map (λ w. local_kind w 2) words ≡ 4 ∷ 4 ∷ 6 ∷ 5 ∷ []
kinds = refl

ends : map (λ number. next_offset words number 6) (0 ∷ 1 ∷ 2 ∷ 3 ∷ 4 ∷ []) ≡ 1 ∷ 2 ∷ 5 ∷ 6 ∷ 6 ∷ []
ends = refl

-- of the function with names of its frame: a parameter, the vector, the last word and none after it; and its label
abbrev framed_told : Frame → Query → Option Symbol
framed_told frame q =
    let framed = defined_from 7 (n ∷ f ∷ v ∷ []) (frame ∷ []) (1 ∷ 1 ∷ 2 ∷ 3 ∷ []) (4 ∷ 6 ∷ 8 ∷ 9 ∷ []) in
    option_and_then (λ d. symbol_in d q) (find (answers q) framed)

abbrev word_told : Frame → ℕ → Option (ℕ × ℕ × ℕ)
word_told frame number = option_map (λ s. (s.kind, s.address, s.words)) (framed_told frame (query.Local 10 number))

words_told : (frame : Frame) → frame.words.items ≡ words → map (word_told frame) (0 ∷ 2 ∷ 3 ∷ 4 ∷ [])
    ≡ Some (4, 0, 1) ∷ Some (6, 2, 3) ∷ Some (5, 5, 1) ∷ None ∷ []
words_told frame is = rw is refl

labels_told : (frame : Frame) → frame.labels.items ≡ codes "top" ∷ []
    → map (λ number. framed_told frame (query.Label 10 number)) (0 ∷ 1 ∷ [])
    ≡ Some (record blank { name = codes "top" ++ replicate 6 0; kind = 7; address = 1; line = 3; column = 9 })
    ∷ None ∷ []
labels_told frame is = rw is refl

-- names of one byte and of eight have a zero after them
padding : map padded (codes "a" ∷ codes "abcdefgh" ∷ [])
    ≡ (codes "a" ++ replicate 8 0) ∷ (codes "abcdefgh" ++ 0 ∷ []) ∷ []
padding = refl

-- what isn't there is told as such, without a symbol
missing_told : answer_status answer.Missing ≡ 132
missing_told = refl

no_symbol : answer_symbol answer.Missing ≡ blank
no_symbol = refl

-- what is no name changes nothing
no_name : (old new : Host) (symbol : Symbol) → FindsName false (codes "1") old new 0 symbol → ⊥
no_name old new symbol found = let refused = found.1 in cc

-- nor does a name that is found change the session, or the bytes on the desk
nothing_done : (loaded : LoadedValue) (q : Query)
    → Acts (deed.Tell q) [] (Some loaded) None None (7 ∷ []) answer.Missing → ⊥
nothing_done loaded q found = let same = found.0 in cc
