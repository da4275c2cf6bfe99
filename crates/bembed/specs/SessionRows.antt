-- Closed facts: the editions in which a source is loaded, by their numbers, and what is given beside a code text.
use Rattle.std.specs.Prelude.{◌≡◌, [], ◌∷◌, None, Some, refl}
use Rattle.bword.specs.declared.edition.Edition.TheVariants as editions
use Rattle.btools.specs.Origins.{Source}
use Rattle.bhost.specs.Statuses.{Loads}
use Rattle.bhost.specs.declared.host.Host.{Host}
use Rattle.bembed.specs.Calls.{edition_of}
use Rattle.bembed.specs.Sessions.{LoadsSource, text_given}

-- the second edition is that of number 2
numbers_load : (h : Host) → LoadsSource (edition_of 2) [] h 1 ≡ Loads (Source editions.Two) [] h 1
numbers_load h = refl

-- there is no third one
no_third : (h : Host) → LoadsSource (edition_of 3) [] h 0 → ⊥
no_third h loaded = let status = loaded.1 in cc

-- an empty file is none
lines_given : text_given (7 ∷ []) (8 ∷ []) []
    ≡ record { code = 7 ∷ []; lines = Some (8 ∷ []); source = None; names = None }
lines_given = refl

names_given : text_given [] [] (9 ∷ []) ≡ record { code = []; lines = None; source = None; names = Some (9 ∷ []) }
names_given = refl
