-- No token of a spelling ends a source.
use Rattle.std.proofs.Common.{◌≡◌, false, List, [], ◌∷◌, ◌++◌, refl}
use Rattle.blang.specs.declared.token.Keyword.{Keyword}
use Rattle.blang.specs.declared.token.Token.{Token}
use Rattle.blang.specs.declared.token.Token.TheVariants as token
use Rattle.blang.specs.declared.token.Placed.{Placed}
use Rattle.blang.specs.Cut.{is_last}
use Rattle.blang.specs.Trees.{Definition}
use Rattle.blang.specs.Walk.{spell_definition, tokens_in}
use Rattle.bgrammar.proofs.WalkForms.{IsSaid, KeptByWalks, definition_kept}

-- no token of these ends a source
abbrev pub GoOn : List Placed → Type 0
GoOn [] = Unit {0}
GoOn (t ∷ ts) = (is_last t.token ≡ false) × GoOn ts

pub GoOn-append : (us vs : List Placed) → GoOn us → GoOn vs → GoOn (us ++ vs)
GoOn-append [] vs h k = k
GoOn-append (u ∷ us) vs h k = (h.0, GoOn-append us vs h.1 k)

abbrev Any : Keyword → Type 0
Any k = Unit {0}

said_goes_on : (t : Token) → IsSaid Any t → is_last t ≡ false
said_goes_on (token.Bad letters) h = absurd h
said_goes_on token.End h = absurd h
said_goes_on _ h = refl

goes_on : KeptByWalks Any (λ w. GoOn (tokens_in w))
goes_on = record {
  none = tt;
  said = λ p h. (said_goes_on p.token h, tt);
  text = λ t. (refl, tt);
  noted = λ e h. tt;
  opens = λ p end h q x. (said_goes_on p.token h, x);
  joins = λ {v} {w} x y. GoOn-append (tokens_in v) (tokens_in w) x y;
}

pub definition_goes_on : (d : Definition) → GoOn (spell_definition d)
definition_goes_on d = definition_kept goes_on (λ x. tt) (λ w. tt) d
