-- What is noted while a heading is read is what origins say.
use Rattle.std.proofs.Common.{◌≡◌, ℕ, ◌+◌, List, [], ◌∷◌, length, map, fold, Option, Some, None, refl, sym, ap, ◌∙◌, arith, le_refl, append-nil, length-append, add-zero}
use Rattle.std.specs.List.{flat_map}
use Rattle.blang.specs.declared.code.Instr.{Instr}
use Rattle.blang.specs.Trees.{Identifier, Declared, Heading, Auto, Extrn, Label, Case, Default}
use Rattle.blang.specs.Walk.{Walk, Event, AutoHere, ExtrnHere, walk_size, walk_declared, walk_import, walk_parameter, walk_list, walk_commas, walk_heading}
use Rattle.blang.specs.Code.{Environment, vector_code}
use Rattle.blang.specs.Lines.{Origin, origin, count, auto_origins, name_origins, heading_origins}
use Rattle.bgrammar.specs.Events.{heading_events}
use Rattle.bgrammar.proofs.WalkLaws.{list_events, declared_events}
use Rattle.bemit.specs.Drafts.{Draft, declared, imported}
use Rattle.bemit.specs.Trails.{Trail, took, noted, took_size, trailed_declared, trailed_name, trailed_more, trailed_list, trailed_heading}
use Rattle.bcodegen.proofs.Parts.{Parts, no_parts, joined, Makes, idle, then_}
use Rattle.bcodegen.proofs.Expressions.{only}
use Rattle.bcodegen.proofs.Headings.{declared_makes, imported_makes, no_vector, heading_parts}
use Rattle.bcodegen.proofs.Notes.{lines_in, Notes, renoted, rescanned_notes, here, past, through, notes_then, nothing_noted}

-- names of which each is noted where its code begins
abbrev pub all_origins : {A : Type 0} → (say : A → Walk) → (size : A → ℕ → ℕ) → List A → (p t : ℕ) → List Origin
all_origins say size [] p t = []
all_origins say size (x ∷ xs) p t = origin p t ∷ all_origins say size xs (p + size x p) (t + count (say x) + 1)

abbrev pub all_parts : {A : Type 0} → (A → Parts) → List A → Parts
all_parts parts [] = no_parts
all_parts parts (x ∷ xs) = joined (parts x) (all_parts parts xs)

-- what is known of one of them
pub record Item {A : Type 0} (names : Environment) (effect : A → Draft → Draft) (step : A → Draft → Trail → Trail) (say : A → Walk) (event : A → Event) (size : A → ℕ → ℕ) (parts : A → Parts) : Type 0 where
  pub makes : (x : A) (room off : ℕ) → Makes names (effect x) (event x ∷ []) room off (parts x)
  pub long : (x : A) (p : ℕ) → length ((parts x).code p) ≡ size x p
  pub plain : (x : A) → length (parts x).strings ≡ 0
  pub notes : (x : A) (room off : ℕ) → Notes names (step x) (event x ∷ []) room off (parts x) (λ at t rest. lines_in at (say x) t rest) (λ p t. origin p t ∷ [])

-- a list of names with commas between them
module _ {A : Type 0} {names : Environment} {effect : A → Draft → Draft} {step : A → Draft → Trail → Trail} {say : A → Walk} {event : A → Event} {size : A → ℕ → ℕ} {parts : A → Parts} (item : Item names effect step say event size parts) where
  more_notes : (xs : List A) (room off : ℕ) → Notes names (trailed_more effect step xs) (map event xs) room off (all_parts parts xs) (λ at t rest. lines_in at (walk_commas say xs) t rest) (λ p t. all_origins say size xs p (t + 1))
  more_notes [] room off = nothing_noted
  more_notes (x ∷ xs) room off =
      renoted (all_parts parts (x ∷ xs)) (λ at t rest. lines_in at (walk_commas say (x ∷ xs)) t rest) (λ p t. all_origins say size (x ∷ xs) p (t + 1)) (λ p. le_refl _) (le_refl _) (λ at t rest. refl)
      (λ p t. ap (λ c. origin p (t + 1) ∷ all_origins say size xs (p + c) (t + 1 + count (say x) + 1)) (item.long x p))
      (notes_then (λ t. t + 1 + count (say x)) (item.makes x room off) (past (item.notes x room off)) (more_notes xs room off) (omega (arith, item.plain x)))

  pub list_notes : (xs : List A) (room off : ℕ) → Notes names (trailed_list effect step xs) (map event xs) room off (all_parts parts xs) (λ at t rest. lines_in at (walk_list say xs) t rest) (all_origins say size xs)
  list_notes [] room off = nothing_noted
  list_notes (x ∷ xs) room off =
      renoted (all_parts parts (x ∷ xs)) (λ at t rest. lines_in at (walk_list say (x ∷ xs)) t rest) (all_origins say size (x ∷ xs)) (λ p. le_refl _) (le_refl _) (λ at t rest. refl)
      (λ p t. ap (λ c. origin p t ∷ all_origins say size xs (p + c) (t + count (say x) + 1)) (item.long x p))
      (notes_then (λ t. t + count (say x)) (item.makes x room off) (item.notes x room off) (more_notes xs room off) (omega (arith, item.plain x)))

  pub list_makes : (xs : List A) (room off : ℕ) → Makes names (λ d. fold (λ b x. effect x b) d xs) (map event xs) room off (all_parts parts xs)
  list_makes [] room off = idle
  list_makes (x ∷ xs) room off = then_ (item.makes x room off) (list_makes xs room off) (omega (arith, item.plain x))

module _ (names : Environment) where
  sized_notes : (size : Option ℕ) {es : List Event} {room off : ℕ} {a : Parts} → Notes names (λ d t. took_size size (took (noted d t))) es room off a (λ at t rest. at t ∷ lines_in at (walk_size size) (t + 1) rest) (λ p t. origin p t ∷ [])
  sized_notes None = here
  sized_notes (Some n) = through (λ t. t + 1) here

  abbrev declared_size : Declared → ℕ → ℕ
  declared_size x p = length (vector_code names (names x.word.text) x.size)

  autos : Item names (λ x d. declared x.word x.size d) trailed_declared walk_declared (λ x. AutoHere x.word x.size) declared_size (λ x. only (λ p. vector_code names (names x.word.text) x.size) [])
  autos = record { makes = λ x room off. declared_makes x.word x.size; long = λ x p. refl; plain = λ x. refl; notes = λ x room off. sized_notes x.size }

  autos_are : (xs : List Declared) (p t : ℕ) → all_origins walk_declared declared_size xs p t ≡ auto_origins names xs p t
  autos_are [] p t = refl
  autos_are (x ∷ xs) p t = ap (λ l. origin p t ∷ l) (autos_are xs (p + declared_size x p) (t + count (walk_declared x) + 1))

  autos_long : (xs : List Declared) (p : ℕ) → length ((all_parts (λ x. only (λ p. vector_code names (names x.word.text) x.size) []) xs).code p) ≡ length (flat_map (λ d. vector_code names (names d.word.text) d.size) xs)
  autos_long [] p = refl
  autos_long (x ∷ xs) p =
      let own = vector_code names (names x.word.text) x.size in
      omega (arith, autos_long xs (p + length own), length-append own ((all_parts (λ x. only (λ p. vector_code names (names x.word.text) x.size) []) xs).code (p + length own)), length-append own (flat_map (λ d. vector_code names (names d.word.text) d.size) xs))

  plain_strings : {A : Type 0} (code : A → List Instr) (xs : List A) → length (all_parts (λ x. only (λ p. code x) []) xs).strings ≡ 0
  plain_strings code [] = refl
  plain_strings code (x ∷ xs) = plain_strings code xs

  nothing_made : (ws : List Identifier) (p : ℕ) → (all_parts (λ (w : Identifier). no_parts) ws).code p ≡ []
  nothing_made [] p = refl
  nothing_made (w ∷ ws) p = nothing_made ws (p + 0)

  -- names of which no code comes
  abbrev pub no_size : Identifier → ℕ → ℕ
  no_size w p = 0

  pub names_are : (say : Identifier → Walk) → ((w : Identifier) → count (say w) ≡ 1) → (ws : List Identifier) (p t : ℕ) → all_origins say no_size ws p t ≡ name_origins ws p t
  names_are say one [] p t = refl
  names_are say one (w ∷ ws) p t =
      ap (λ l. origin p t ∷ l)
      (ap (λ q. all_origins say no_size ws q (t + count (say w) + 1)) (add-zero p)
      ∙ ap (all_origins say no_size ws p) (let q : t + count (say w) + 1 ≡ t + 2 = omega (arith, one w) in q)
      ∙ names_are say one ws p (t + 2))

  imports : Item names imported trailed_name walk_import ExtrnHere no_size (λ w. no_parts)
  imports = record { makes = λ w room off. imported_makes w; long = λ w p. refl; plain = λ w. refl; notes = λ w room off. here }

  pub parameters : Item names (λ w d. declared w None d) trailed_name walk_parameter (λ w. AutoHere w None) no_size (λ w. only (λ p. vector_code names (names w.text) None) [])
  parameters = record { makes = λ w room off. declared_makes w None; long = λ w p. ap length (no_vector names (names w.text)); plain = λ w. refl; notes = λ w room off. here }

  pub heading_notes : (h : Heading) (room off : ℕ) → Notes names (λ d t. trailed_heading h d (took t)) (heading_events h) room off (heading_parts names h) (λ at t rest. lines_in at (walk_heading h) t rest) (heading_origins names h)
  heading_notes (Auto ds) room off =
      rescanned_notes (sym (append-nil _ ∙ list_events walk_declared (λ d. AutoHere d.word d.size) declared_events ds))
      (renoted (heading_parts names (Auto ds)) (λ at t rest. lines_in at (walk_heading (Auto ds)) t rest) (heading_origins names (Auto ds)) (λ p. omega (arith, autos_long ds p)) (omega (arith, plain_strings (λ x. vector_code names (names x.word.text) x.size) ds)) (λ at t rest. refl)
      (λ p t. autos_are ds p (t + 1)) (past (through (λ t. t + count (walk_list walk_declared ds)) (list_notes autos ds room off))))
  heading_notes (Extrn ws) room off =
      rescanned_notes (sym (append-nil _ ∙ list_events walk_import ExtrnHere (λ w. refl) ws))
      (renoted (heading_parts names (Extrn ws)) (λ at t rest. lines_in at (walk_heading (Extrn ws)) t rest) (heading_origins names (Extrn ws)) (λ p. omega (arith, ap length (nothing_made ws p))) (omega (arith, plain_strings {A = Identifier} (λ w. []) ws)) (λ at t rest. refl)
      (λ p t. names_are walk_import (λ w. refl) ws p (t + 1)) (past (through (λ t. t + count (walk_list walk_import ws)) (list_notes imports ws room off))))
  heading_notes (Label w) room off = past (through (λ t. t) nothing_noted)
  heading_notes (Case line c) room off = past (past (through (λ t. t + 0) nothing_noted))
  heading_notes (Default line) room off = past (through (λ t. t + 0) nothing_noted)
