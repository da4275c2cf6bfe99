use Rattle.std.proofs.Common.{◌≡◌, ◌∙◌, List, ap, map}
use Rattle.std.proofs.lemmas.Result.{IfOk-weaker}
use Rattle.std.proofs.lemmas.Simd.{map-map}
use Rattle.blang.specs.Trees.{bare}
use Rattle.blang.specs.Walk.{spell_all}
use Rattle.blex.specs.declared.lexeme.Lexeme.{Lexeme}
use Rattle.blex.specs.Lexemes.{lexeme_of}
use Rattle.btree.specs.Machine.{sort_of_lexeme}
use Rattle.btree.specs.NodeReading.{AreNodes}
use Rattle.btree.specs.Nodes.{program_nodes}
use Rattle.btree.specs.Reading.{AreTags}
use Rattle.btree.specs.Tags.{program_tags}
use Rattle.btree.specs.declared.nodes.NodeTag.{NodeTag}
use Rattle.btree.specs.declared.sorts.Sort.{Sort}
use Rattle.btree.specs.declared.tags.Tag.{Tag}
use Rattle.bmatch.specs.declared.tree.Branch.{Branch}
use Rattle.bmatch.specs.Growing.{AreRows, lexemes_of, rows_by}
use Rattle.bmatch.proofs.growing.grown.Goals as goal

rows_of_program : (lexemes : List Lexeme) (sorts : List Sort) (nodes these : List NodeTag) (tags those : List Tag) (rows : List Branch)
    → sorts ≡ map sort_of_lexeme lexemes → AreTags sorts tags → AreNodes lexemes nodes → these ≡ nodes → those ≡ tags → rows ≡ rows_by lexemes these those → AreRows lexemes rows
rows_of_program lexemes sorts nodes these tags those rows es at an en et er ds formed same =
    let tagged : tags ≡ program_tags ds = at.of_tree ds formed (es ∙ ap (map sort_of_lexeme) same ∙ map-map sort_of_lexeme lexeme_of (map bare (spell_all ds))) in
    let noded : nodes ≡ program_nodes ds = an.of_tree ds formed same in
    er ∙ (ap (λ (ls : List Lexeme). rows_by ls these those) same ∙ (ap (λ (ns : List NodeTag). rows_by (lexemes_of ds) ns those) (en ∙ noded) ∙ ap (rows_by (lexemes_of ds) (program_nodes ds)) (et ∙ tagged)))

pub returns : goal.returns
returns c =
    IfOk-weaker c.rows_by.result _ _
    (λ rows h. rows_of_program c.args.lexemes.now _ _ _ _ _ rows.items (c.as_slice.ensures.value ∙ c.in_ok-sorts.ensures) c.in_ok-tags.ensures c.in_ok-nodes.ensures c.as_slice-2.ensures.value
    c.as_slice-3.ensures.value h)
    c.rows_by.ensures
