-- Inner words: levels of nesting, token by token: the level at which a token stands, or which it opens.
use Rattle.std.specs.Prelude.{◌≡◌, ℕ, suc, ◌≤◌, List, [], ◌∷◌, ◌++◌, map}
use Rattle.blang.specs.declared.token.Placed.{Placed}
use Rattle.blang.specs.Cut.{string_token}
use Rattle.blang.specs.Trees.{mark, Definition, Simple, Vector, Function}
use Rattle.blang.specs.Walk.{Walk, Said, TextHere, Level, ◌▸◌, walk_definition, spell_all}
use Rattle.bgrammar.specs.Fitting.{EachAfter, Sits, IvalFits}

pub record Leveled : Type 0 where
  pub token : Placed
  pub level : ℕ

abbrev pub on : ℕ → Placed → Leveled
on n t = record { token = t; level = n }

abbrev pub tokens : List Leveled → List Placed
tokens ts = map (λ t. t.token) ts

-- the tokens of a walk that stands at level n
abbrev pub leveled : Walk → ℕ → List Leveled
leveled (Said p) n = on n p ∷ []
leveled (TextHere t) n = on n (mark (string_token t.bytes)) ∷ []
leveled (Level p w end) n = on (suc n) p ∷ leveled w (suc n)
leveled (v ▸ w) n = leveled v n ++ leveled w n
leveled _ n = []

abbrev pub definition_levels : Definition → List Leveled
definition_levels d = leveled (walk_definition d) 0

abbrev pub program_levels : List Definition → List Leveled
program_levels [] = []
program_levels (d ∷ ds) = definition_levels d ++ program_levels ds

-- well formed, with another greatest level
abbrev pub IsFormedIn : ℕ → Definition → Type 0
IsFormedIn most (Simple w values) = EachAfter IvalFits [] values
IsFormedIn most (Vector w size values) = EachAfter IvalFits [] values
IsFormedIn most (Function w parameters body) = Sits body most 0

abbrev pub AllFormedIn : ℕ → List Definition → Type 0
AllFormedIn most [] = Unit {0}
AllFormedIn most (d ∷ ds) = IsFormedIn most d × AllFormedIn most ds

-- no level of these tokens is above this one
abbrev pub NoneAbove : ℕ → List Leveled → Type 0
NoneAbove most [] = Unit {0}
NoneAbove most (t ∷ ts) = (t.level ≤ most) × NoneAbove most ts

-- These are the tokens of a program.
abbrev pub LevelsOfTokens : Type 0
LevelsOfTokens = (ds : List Definition) → tokens (program_levels ds) ≡ spell_all ds

-- A program needs no more levels than these, where none of its tokens has one above them, and only there.
abbrev pub NeedsLevels : Type 0
NeedsLevels =
    (ds : List Definition) (deepest most : ℕ) → AllFormedIn deepest ds → NoneAbove most (program_levels ds)
    → AllFormedIn most ds

abbrev pub HasLevels : Type 0
HasLevels = (ds : List Definition) (most : ℕ) → AllFormedIn most ds → NoneAbove most (program_levels ds)

-- A beginning of a program can be ended without a deeper level than it has, however deep the program itself goes.
abbrev pub CanBeEnded : Type 0
CanBeEnded =
    (ds : List Definition) (deepest most : ℕ) (u v : List Leveled) → AllFormedIn deepest ds → program_levels ds
    ≡ u ++ v → NoneAbove most u
    → (es : List Definition) × (more : List Placed) × AllFormedIn most es × (spell_all es ≡ tokens u ++ more)
