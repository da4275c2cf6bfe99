use Rattle.std.proofs.Common.{◌∙◌, ◌++◌, List, ap, codes, length, subst, sym}
use Rattle.std.proofs.lemmas.Result.{on_ok_weaker}
use Rattle.bdraw.specs.Pictures.{PictureRow, count_text, place_text}
use Rattle.bdraw.specs.Stacks.{Adds}
use Rattle.bdraw.proofs.Stacking.{left_out}
use Rattle.bdraw.proofs.picture.Picture.add_names_left_out.Goals as goal

pub returns : goal.returns
returns c =
    let image = c.args.program.now.image in
    let rest = c.args.rest.now in
    let first = c.index-rest-0.result in
    let last = c.index-rest-rest.result in
    let counted = c.in_ok-push_count.ensures ∙ ap (λ t. t ++ count_text (length rest) (codes "name")) c.new-note.ensures in
    let begun = c.in_ok-push_place.ensures ∙ ap (λ t. t ++ place_text image first) (c.in_ok-push.ensures ∙ ap (λ t. t ++ codes " more: ") counted) in
    let words = c.in_ok-push_place-2.ensures ∙ ap (λ t. t ++ place_text image last) (c.in_ok-push-2.ensures ∙ ap (λ t. t ++ codes " to ") begun) in
    on_ok_weaker c.add_line.result
    (λ added. subst (λ (rows : List PictureRow). Adds rows c.args.self.now c.add_line.new.self) (left_out image rest first last (sym c.is_empty.ensures ∙ c.if-is_empty.false) c.index-rest-0.is c.index-rest-rest.is c.push_place-2.new.text words) added)
    c.add_line.ensures
