-- Promise: a store in one piece.
use Rattle.std.specs.Prelude.{ℕ, List}
use Rattle.bword.specs.declared.flat_store.FlatStore.{FlatStore}

-- its words, by their addresses
abbrev pub flat_words : FlatStore → List ℕ
flat_words store = store.words.items
