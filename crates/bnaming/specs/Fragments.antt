-- Inner words: the text of each part.
use Rattle.std.specs.Prelude.{ℕ, List, decimal}
use Rattle.btools.specs.Quoting.{json_text}
use Rattle.bnaming.specs.declared.fragments.Fragment.{Fragment}
use Rattle.bnaming.specs.declared.fragments.Fragment.TheVariants as part

abbrev pub fragment_text : Fragment → List ℕ
fragment_text (part.Words words) = words.now
fragment_text (part.Number n) = decimal n
fragment_text (part.Quoted words) = json_text words.now
